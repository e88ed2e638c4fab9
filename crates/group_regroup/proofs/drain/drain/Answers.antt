use Rattle.std.proofs.Common.{◌<◌, sym, subst}
use Rattle.group_calls.specs.declared.event.Event.TheVariants.{Deliver}
use Rattle.group_run.specs.Progress.{load_of}
use Rattle.group_run.specs.World.{World}
use Rattle.group_eras.specs.Carry.{draining}
use Rattle.group_regroup.specs.Parts.{IsPart}
use Rattle.group_regroup.proofs.Draining.{Delivering, Delivering-more, Delivering-none, all-made, next-lightens, on-err, part-made}
use Rattle.group_regroup.proofs.drain.drain.Goals as goal

pub deliveries-init : goal.deliveries-init
deliveries-init c = Delivering-none c.args.world.now c.run.ensures c.requires.up

pub make-requires : goal.make-requires
make-requires c =
    record {
      may = (next-lightens c.args.world.now c.deliveries.world c.deliveries.invariant
          (Deliver c.in-Some.from c.in-Some.to) (sym c.in-Some.ensures)).may;
    }

pub deliveries-smaller : goal.deliveries-smaller
deliveries-smaller c =
    let v : World = c.deliveries.world in
    subst (λ (x : World). load_of x < load_of v) (sym c.in_ok-make.ensures.world)
    (next-lightens c.args.world.now v c.deliveries.invariant (Deliver c.in-Some.from c.in-Some.to) (sym c.in-Some.ensures)).lower

pub deliveries-preserved : goal.deliveries-preserved
deliveries-preserved c =
    subst (Delivering c.args.world.now) (sym c.in_ok-make.ensures.world)
    (Delivering-more c.args.world.now c.deliveries.world c.deliveries.invariant (Deliver c.in-Some.from c.in-Some.to) (sym c.in-Some.ensures))

pub returns-in_err-make-clause-err : goal.returns-in_err-make-clause-err
returns-in_err-make-clause-err c =
    on-err c.from_residual.result
    (subst (IsPart c.args.world.now (draining c.args.world.now)) (sym c.in_err-make.ensures.err)
    (part-made c.args.world.now c.deliveries.world c.deliveries.invariant))

pub returns-clause-ok : goal.returns-clause-ok
returns-clause-ok c = all-made c.args.world.now c.deliveries.world c.deliveries.invariant (sym c.in_default.ensures)
