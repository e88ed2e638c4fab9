use Rattle.std.proofs.Common.{subst, Some, None, Option, ℕ}
use Rattle.std.specs.Fmt.{decimal}
use Rattle.transcript_text.specs.Reading.{ReadsAs}
use Rattle.transcript_text.specs.Texts.{FitsNumber}
use Rattle.transcript_text.proofs.Numbers.{reads-too_large}
use Rattle.transcript_text.proofs.number.number_below.Goals as goal

pub returns-then-limit-number : goal.returns-then-limit-number
returns-then-limit-number c = reads-too_large c.args.word.now c.args.limit c.in_ok-number.number c.ranges.limit.fits
    c.if-limit-number.true (c.in_ok-number.ensures)
