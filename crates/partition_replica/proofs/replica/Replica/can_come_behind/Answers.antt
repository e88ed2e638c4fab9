use Rattle.std.proofs.Common.{refl}
use Rattle.group_run.specs.Replica.{applied_to, with_log}
use Rattle.group_types.specs.Dimensions.{space_of}
use Rattle.partition_replica.proofs.Fits.{comes_then, comes_else}
use Rattle.partition_replica.proofs.replica.Replica.can_come_behind.Goals as goal

pub returns-then-is_written : goal.returns-then-is_written
returns-then-is_written c =
    let replica = applied_to c.args.base c.args.self.now.replica in
    comes_then (space_of c.args.self.now.shape) (with_log c.args.earlier.now replica) c.args.update.now _ refl
    c.is_written.result c.is_free_behind.result c.is_written.ensures.written (rw c.run_of.ensures at c.is_free_behind.ensures) c.if-is_written.true

pub returns-else-is_written : goal.returns-else-is_written
returns-else-is_written c =
    let replica = applied_to c.args.base c.args.self.now.replica in
    comes_else (space_of c.args.self.now.shape) (with_log c.args.earlier.now replica) c.args.update.now _ refl
    c.is_written.result c.is_written.ensures.written c.if-is_written.false
