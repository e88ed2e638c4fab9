use Rattle.group_regroup.proofs.Readings.{Reads}
use Rattle.group_regroup.proofs.reading.read_all.Given as goal

abbrev pub invariant-items : goal.invariant-items
invariant-items l = Reads l.fn.world l.fn.items.items l.world l.item-iterator.rest.items l.parcels.items
