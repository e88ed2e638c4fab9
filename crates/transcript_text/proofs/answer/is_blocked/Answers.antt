use Rattle.std.proofs.Common.{ℕ, ◌<◌, ◌^◌, codes}
use Rattle.transcript_text.proofs.Tests.{tells-none, tells-number}
use Rattle.transcript_text.proofs.answer.is_blocked.Goals as goal

pub returns-in-Some : goal.returns-in-Some
returns-in-Some c =
    rw c.is_some.ensures (tells-number (λ n. n < 2 ^ 32) (codes "retry block ") c.args.line.now c.in-Some.word.now
    c.number_below.result c.in-Some.ensures c.number_below.ensures)

pub returns-in-None : goal.returns-in-None
returns-in-None c = tells-none (λ n. n < 2 ^ 32) (codes "retry block ") c.args.line.now c.in-None.ensures
