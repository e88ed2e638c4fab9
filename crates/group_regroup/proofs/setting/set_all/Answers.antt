use Rattle.std.proofs.Common.{sym, subst}
use Rattle.group_regroup.proofs.SetAll.{Sets, Sets-next, Sets-none, set-within}
use Rattle.group_regroup.proofs.setting.set_all.Goals as goal

pub parcels-init : goal.parcels-init
parcels-init c =
    subst (Sets c.args.world.now c.args.parcels.items c.args.world.now)
    (sym c.into_iter-parcel-iterator.ensures.into_iter_gives.0)
    (Sets-none c.args.world.now c.args.parcels.items c.requires.up c.requires.within)

pub set-requires-clause-within : goal.set-requires-clause-within
set-requires-clause-within c =
    set-within c.args.world.now c.args.parcels.items c.parcels.world c.in-Some.parcel c.next.new.self.rest.items
    (subst (Sets c.args.world.now c.args.parcels.items c.parcels.world) c.in-Some.ensures.steps.0 c.parcels.invariant)

pub parcels-preserved : goal.parcels-preserved
parcels-preserved c =
    Sets-next c.args.world.now c.args.parcels.items c.parcels.world c.in-Some.parcel c.next.new.self.rest.items
    (subst (Sets c.args.world.now c.args.parcels.items c.parcels.world) c.in-Some.ensures.steps.0 c.parcels.invariant)
    c.set.new.world c.in_ok-set.ensures.up c.in_ok-set.ensures.world
