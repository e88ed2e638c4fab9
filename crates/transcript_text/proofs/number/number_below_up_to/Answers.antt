use Rattle.std.proofs.Common.{ℕ, ◌<◌, arith}
use Rattle.transcript_text.proofs.Numbers.{front-none}
use Rattle.transcript_text.proofs.number.number_below_up_to.Goals as goal

pub returns-in_err-number_below : goal.returns-in_err-number_below
returns-in_err-number_below c =
    let bound = c.ranges.limit.fits in
    rw c.from_residual-in_err-number_below.ensures (front-none (λ n. n < c.args.limit) c.args.byte c.args.line.now
    c.in_ok-word.word.now c.in_ok-word.rest.now c.requires (λ n below. omega (arith, below, bound))
    c.in_ok-word.ensures.0 c.in_ok-word.ensures.1 (c.in_err-number_below.ensures))
