use Rattle.std.proofs.Common.{◌<◌, ◌+◌, ◌∙◌, List, ℕ, ap, drop, get_or, length, subst, arith}
use Rattle.std.proofs.lemmas.Grind.{common_steps}
use Rattle.std.proofs.lemmas.List.{drop_more}
use Rattle.erasure_code.specs.Code.{coded}
use Rattle.group_types.specs.Dimensions.{space_of}
use Rattle.run_verify.specs.Accounts.{lists_of}
use Rattle.run_verify.specs.Showing.{AreBelow, spaces_in}
use Rattle.run_verify.specs.Updates.{spaces_by}
use Rattle.run_verify.specs.declared.shadow.Shadow.{Shadow}
use Rattle.run_verify.proofs.Parts.{IsSummed, sum_goes}
use Rattle.run_verify.proofs.spaces.coded_part.Goals as goal

pub partitions-preserved : goal.partitions-preserved
partitions-preserved c =
    let changes = lists_of c.args.changes.now in
    let stamp = c.args.stamp.now in
    let d = c.partitions.partition in
    let spaces = spaces_in c.args.shape changes in
    let size = space_of c.args.shape in
    let target = coded c.args.shape.m c.args.process size (spaces_by spaces 0 stamp) in
    let low : d < length stamp = grind (arith, common_steps) in
    let split = drop_more stamp d 0 low in
    let below = subst (AreBelow changes d) split c.partitions.invariant.below in
    let summed = subst (λ (rest : List ℕ). IsSummed c.args.shape.m c.args.process size c.args.run spaces d rest
    c.partitions.sum.items target) split c.partitions.invariant.summed in
    record {
      summed = sum_goes c.args.shape.m c.args.process size c.args.run c.requires.run spaces d (get_or stamp d 0)
          (drop (d + 1) stamp) c.partitions.sum.items target c.deref.result.now c.add_part.new.sum.items summed
          (c.deref.ensures.value ∙ ap (λ (x : Shadow). x.space.items) c.index.ensures ∙ c.in_ok-place.ensures.there.space c.index.result.now)
          (ap length c.deref.ensures.value ∙ ap (λ (x : Shadow). length x.space.items) c.index.ensures
          ∙ c.in_ok-place.ensures.there.long c.index.result.now) c.add_part.ensures.sum;
      long = c.add_part.ensures.long;
      within = omega (arith, low);
      below = below.1;
      follow = c.in_ok-place.ensures.follow;
    }
