use Rattle.group_run.specs.Replica.{applied_to}
use Rattle.group_types.specs.Dimensions.{space_of}
use Rattle.partition_replica.proofs.Fits.{comes_then, comes_else, left_last}
use Rattle.partition_replica.proofs.replica.Replica.can_come.Goals as goal

pub returns-then-is_written : goal.returns-then-is_written
returns-then-is_written c =
    let replica = applied_to c.args.stable c.args.self.now.replica in
    let left = left_last c.args.stable c.last.result c.args.self.now.replica c.args.update.now.key c.last.ensures.last in
    comes_then (space_of c.args.self.now.shape) replica c.args.update.now _ left c.is_written.result c.is_free_once.result
    c.is_written.ensures.written (rw c.run_of.ensures at c.is_free_once.ensures) c.if-is_written.true

pub returns-else-is_written : goal.returns-else-is_written
returns-else-is_written c =
    let replica = applied_to c.args.stable c.args.self.now.replica in
    let left = left_last c.args.stable c.last.result c.args.self.now.replica c.args.update.now.key c.last.ensures.last in
    comes_else (space_of c.args.self.now.shape) replica c.args.update.now _ left c.is_written.result
    c.is_written.ensures.written c.if-is_written.false
