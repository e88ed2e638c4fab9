use Rattle.std.proofs.Common.{◌+◌, ◌≤◌, Option, IfSome, sym, subst, ◌∙◌}
use Rattle.group_types.specs.Dimensions.{space_of}
use Rattle.item_index.specs.declared.slot.Slot.{Slot}
use Rattle.partition_replica.specs.Inside.{replica_in}
use Rattle.partition_replica.proofs.Keys.{slot_in-items_in}
use Rattle.partition_replica.proofs.Sound.{item_inside}
use Rattle.partition_replica.proofs.replica.Replica.item.Goals as goal

pub returns : goal.returns
returns c =
    let replica = replica_in c.self.inside.index c.self.inside.log c.self.inside.kept.items in
    let found = c.get.ensures ∙ sym (slot_in-items_in c.self.inside.index c.args.key.now) in
    let space = space_of c.self.inside.shape in
    rw (← c.self.view_is) (record {
      item = found;
      inside = subst (λ (s : Option Slot). IfSome s (λ slot. slot.at + slot.len ≤ space))
          (sym found) (item_inside space replica c.self.invariant.sound c.args.key.now);
    })
