use Rattle.std.proofs.Common.{◌≡◌, ◌<◌, ℕ, true}
use Rattle.group_types.specs.declared.process.ProcessId.TheVariants.{ParityNode}
use Rattle.group_run.specs.Meaning.{is_dead}
use Rattle.group_core.proofs.world.World.head.Given as goal

abbrev pub invariant-ranks : goal.invariant-ranks
invariant-ranks l = (i : ℕ) → i < l.i → is_dead l.self (ParityNode i) ≡ true
