use Rattle.group_run.specs.Replica.{applied_to}
use Rattle.partition_replica.proofs.Fits.{left_behind}
use Rattle.partition_replica.proofs.replica.Replica.run_at_last.Goals as goal

pub returns-clause-run : goal.returns-clause-run
returns-clause-run c =
    left_behind c.args.key.now (applied_to c.args.stable c.args.self.now.replica) c.args.earlier.now c.runs_behind.result c.run_once.result
    c.runs_behind.ensures c.run_once.ensures.run
