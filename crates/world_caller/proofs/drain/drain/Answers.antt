use Rattle.std.proofs.Common.{◌<◌, sym, subst, arith}
use Rattle.group_run.specs.Progress.{load_of}
use Rattle.world_caller.specs.Making.{IsFirstDelivered}
use Rattle.world_caller.proofs.Making.{delivers, led-on, more-delivered}
use Rattle.world_caller.proofs.drain.drain.Goals as goal

pub deliveries-smaller : goal.deliveries-smaller
deliveries-smaller c =
    let is : IsFirstDelivered c.deliveries.world c.deliver.new.world = c.in_ok-deliver.ensures.some c.if-not-branch.false in
    let lower = (delivers c.args.world.now c.deliveries.world c.deliver.new.world c.due_delivers.ensures c.deliveries.invariant.led is).lower in
    subst (λ w. load_of w < load_of c.deliveries.world) (sym is.after) lower

pub deliveries-preserved : goal.deliveries-preserved
deliveries-preserved c =
    let is : IsFirstDelivered c.deliveries.world c.deliver.new.world = c.in_ok-deliver.ensures.some c.if-not-branch.false in
    record {
      led = led-on c.args.world.now c.deliveries.world c.deliver.new.world c.due_delivers.ensures c.deliveries.invariant.led is;
      delivered = more-delivered c.args.world.now c.deliveries.world c.deliver.new.world c.due_delivers.ensures
          c.deliveries.invariant.led is c.deliveries.invariant.delivered
          (let test = c.deliveries-test.true in omega (arith, test));
    }
