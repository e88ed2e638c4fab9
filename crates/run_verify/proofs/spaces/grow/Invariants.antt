use Rattle.std.proofs.Common.{◌+◌, ◌-◌, List, length}
use Rattle.run_verify.specs.Shadows.{AllFollow}
use Rattle.run_verify.specs.declared.change.Change.{Change}
use Rattle.run_verify.proofs.spaces.grow.Given as goal

abbrev pub invariant-shadows : goal.invariant-shadows
invariant-shadows l = record { follow : (changes : List (List Change)) → AllFollow changes l.fn.shadows.items → AllFollow changes l.shadows.items }

abbrev pub decreases-shadows : goal.decreases-shadows
decreases-shadows l = l.place + 1 - length l.shadows.items
