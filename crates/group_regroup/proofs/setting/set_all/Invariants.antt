use Rattle.group_regroup.proofs.SetAll.{Sets}
use Rattle.group_regroup.proofs.setting.set_all.Given as goal

abbrev pub invariant-parcels : goal.invariant-parcels
invariant-parcels l = Sets l.fn.world l.fn.parcels.items l.world l.parcel-iterator.rest.items
