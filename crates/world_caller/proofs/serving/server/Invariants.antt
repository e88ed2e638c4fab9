use Rattle.std.proofs.Common.{ℕ, ◌≡◌, ◌<◌, true}
use Rattle.group_types.specs.declared.process.ProcessId.TheVariants.{ParityNode}
use Rattle.group_run.specs.Meaning.{is_dead}
use Rattle.world_caller.proofs.serving.server.Given as goal

abbrev pub invariant-ranks : goal.invariant-ranks
invariant-ranks l = (i : ℕ) → i < l.i → is_dead l.world (ParityNode i) ≡ true
