use Rattle.std.proofs.Common.{◌≤◌, ◌<◌, ◌+◌, Vec, Global, Option, length, vec_len, vec_capacity, ◌∙◌, arith}
use Rattle.std.proofs.lemmas.Grind.{common_steps}
use Rattle.std.proofs.lemmas.List.{length-set}
use Rattle.group_types.specs.declared.run.Run.{Run}
use Rattle.group_ledger.proofs.Partitions.{below-set, items-kept}
use Rattle.group_ledger.proofs.places.reserve_each.Goals as goal

pub returns-in_err-reserve-clause-items : goal.returns-in_err-reserve-clause-items
returns-in_err-reserve-clause-items c =
    let within : c.partitions.d < length c.partitions.places = grind (arith, common_steps) in
    items-kept c.partitions.places c.partitions.d c.index-places-d.result c.reserve.new.self within c.reserve.ensures.items ∙ c.partitions.invariant.items

pub partitions-preserved : goal.partitions-preserved
partitions-preserved c =
    let within : c.partitions.d < length c.partitions.places = grind (arith, common_steps) in
    let room : vec_len c.reserve.new.self + c.args.room ≤ vec_capacity c.reserve.new.self = grind (arith, common_steps) in
    record {
      items = items-kept c.partitions.places c.partitions.d c.index-places-d.result c.reserve.new.self within
          c.reserve.ensures.items ∙ c.partitions.invariant.items;
      many = length-set c.partitions.places c.partitions.d c.reserve.new.self ∙ c.partitions.invariant.many;
      room = below-set (λ (v : Vec (Option Run) Global). vec_len v + c.args.room ≤ vec_capacity v) c.partitions.places c.partitions.d c.reserve.new.self within
          c.partitions.invariant.room room;
    }
