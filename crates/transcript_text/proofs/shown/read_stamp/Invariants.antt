use Rattle.std.specs.Prelude.{◌+◌}
use Rattle.transcript_text.proofs.Stamps.{Begun}
use Rattle.transcript_text.proofs.shown.read_stamp.Given as goal

abbrev pub invariant-numbers : goal.invariant-numbers
invariant-numbers l = Begun l.text l.stamp l.rest l.place (l.last + 1)
