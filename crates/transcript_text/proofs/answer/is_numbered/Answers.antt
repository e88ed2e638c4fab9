use Rattle.transcript_text.specs.Texts.{FitsNumber}
use Rattle.transcript_text.proofs.Tests.{tells-number}
use Rattle.transcript_text.proofs.answer.is_numbered.Goals as goal

pub returns-in-Some : goal.returns-in-Some
returns-in-Some c =
    rw c.is_some.ensures (tells-number FitsNumber c.args.front.now c.args.line.now c.in-Some.word.now c.number.result
    c.in-Some.ensures c.number.ensures)
