use Rattle.std.proofs.Common.{arith}
use Rattle.std.proofs.lemmas.List.{length-drop}
use Rattle.partition_replica.proofs.Moving.{giving_start, giving_end}
use Rattle.partition_replica.proofs.runs.give_runs.Goals as goal

pub updates-init : goal.updates-init
updates-init c = giving_start _ _ c.requires.inside c.requires.taken

pub returns : goal.returns
returns c = giving_end _ _ _ _ c.updates.invariant (omega (arith, length-drop c.updates.update-index c.args.updates.now))
