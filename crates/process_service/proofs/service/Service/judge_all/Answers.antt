use Rattle.std.proofs.Common.{◌≡◌, ◌<◌, ap, subst, ◌∙◌, arith}
use Rattle.std.proofs.lemmas.Grind.{common_steps}
use Rattle.std.specs.List.{range_with_len}
use Rattle.group_types.specs.Dimensions.{Dimensions}
use Rattle.group_run.specs.Applying.{for_each}
use Rattle.group_run.specs.Heading.{judge}
use Rattle.group_run.specs.Process.{Process}
use Rattle.head_service.specs.Serving.{Serving, serving}
use Rattle.process_service.specs.Steps.{HasMade}
use Rattle.process_service.proofs.Each.{left-next}
use Rattle.process_service.proofs.service.Service.judge_all.Goals as goal

pub partitions-preserved : goal.partitions-preserved
partitions-preserved g c =
    let s : Dimensions = c.args.self.now.shape in
    let p : Process = serving c.partitions.self (g.B.Beneath.storage c.partitions.below).process in
    let q : Process = serving c.judge_at.new.self (g.B.Beneath.storage c.judge_at.new.below).process in
    let wide : c.self.inside.shape.k ≡ s.k = ap (λ (w : Serving). w.shape.k) c.self.view_is in
    let below : c.partitions.d < s.k = grind (arith, common_steps) in
    record {
      stays = record {
        shape = c.judge_at.ensures.stays.shape ∙ c.partitions.invariant.stays.shape;
        name = c.judge_at.ensures.stays.name ∙ c.partitions.invariant.stays.name;
        beneath = c.judge_at.ensures.stays.beneath;
        pages = c.judge_at.ensures.stays.pages ∙ c.partitions.invariant.stays.pages;
      };
      room = c.judge_at.ensures.room;
      ahead = left-next (judge s) s.k c.partitions.d p q c.partitions.settled.items c.judge_at.new.settled.items c.args.settled.now.items
          (for_each (range_with_len 0 s.k) (judge s) (serving c.args.self.now (g.B.Beneath.storage c.args.below.now).process)) below
          (subst (λ (x : Dimensions). HasMade (judge x c.partitions.d p) c.partitions.settled.items q
          c.judge_at.new.settled.items) c.partitions.invariant.stays.shape c.judge_at.ensures.made)
          c.partitions.invariant.ahead;
    }
