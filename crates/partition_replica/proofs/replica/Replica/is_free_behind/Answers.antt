use Rattle.group_run.specs.Replica.{applied_to}
use Rattle.group_types.specs.Dimensions.{space_of}
use Rattle.partition_replica.proofs.Fits.{behind_then, behind_else}
use Rattle.partition_replica.proofs.replica.Replica.is_free_behind.Goals as goal

pub returns-then-is_clear_of : goal.returns-then-is_clear_of
returns-then-is_clear_of c =
    behind_then (space_of c.args.self.now.shape) (applied_to c.args.base c.args.self.now.replica) c.args.earlier.now c.requires.sound c.requires.come
    c.args.run c.is_clear_of.result c.is_free_once.result c.is_clear_of.ensures c.is_free_once.ensures c.if-is_clear_of.true

pub returns-else-is_clear_of : goal.returns-else-is_clear_of
returns-else-is_clear_of c =
    behind_else (space_of c.args.self.now.shape) (applied_to c.args.base c.args.self.now.replica) c.args.earlier.now c.requires.sound c.requires.come
    c.args.run c.is_clear_of.result c.is_clear_of.ensures c.if-is_clear_of.false
