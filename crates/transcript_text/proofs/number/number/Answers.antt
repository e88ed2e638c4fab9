use Rattle.transcript_text.proofs.Numbers.{reads-leading_zero, reads-number_of}
use Rattle.transcript_text.proofs.number.number.Goals as goal

pub returns-then-has_leading_zero : goal.returns-then-has_leading_zero
returns-then-has_leading_zero c = reads-leading_zero c.args.word.now (c.has_leading_zero.ensures.0 c.if-has_leading_zero.true)

pub returns : goal.returns
returns c = rw c.number.ensures (reads-number_of c.args.word.now (λ leading. cc (c.has_leading_zero.ensures.1 leading)))
