use Rattle.std.proofs.Common.{arith}
use Rattle.group_run.specs.Replica.{applied_to}
use Rattle.group_types.specs.Dimensions.{space_of}
use Rattle.partition_replica.proofs.Fits.{list_goes, list_stops}
use Rattle.partition_replica.proofs.replica.Replica.all_can_come.Goals as goal

pub returns-then-not-can_come_behind : goal.returns-then-not-can_come_behind
returns-then-not-can_come_behind c =
    list_stops (space_of c.args.self.now.shape) (applied_to c.args.base c.args.self.now.replica) c.args.updates.now c.updates.index
    c.index-updates-index.result c.can_come_behind.result (omega (arith, c.updates-test.true))
    c.index-updates-index.is c.can_come_behind.ensures c.if-not-can_come_behind.true

pub updates-preserved : goal.updates-preserved
updates-preserved c =
    list_goes (space_of c.args.self.now.shape) (applied_to c.args.base c.args.self.now.replica) c.args.updates.now c.updates.index
    c.index-updates-index.result c.can_come_behind.result (omega (arith, c.updates-test.true))
    c.index-updates-index.is c.can_come_behind.ensures c.if-not-can_come_behind.false c.updates.invariant
