use Rattle.std.specs.Prelude.{All, take}
use Rattle.transcript_text.specs.Parts.{IsLowerDigit}
use Rattle.transcript_text.proofs.value.are_digits.Given as goal

abbrev pub invariant-digits : goal.invariant-digits
invariant-digits l = All IsLowerDigit (take l.digit-index l.word)
