use Rattle.std.proofs.Common.{◌≡◌, replicate}
use Rattle.std.specs.Prelude.{None}
use Rattle.carry_words.proofs.places.empty_places.Given as goal

abbrev pub invariant-places : goal.invariant-places
invariant-places l = l.places.items ≡ replicate l.counter None
