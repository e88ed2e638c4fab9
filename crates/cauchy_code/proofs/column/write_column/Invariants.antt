use Rattle.std.proofs.Common.{◌≡◌, ℕ, length, get_or, bit_xor}
use Rattle.cauchy_code.specs.Solving.{pieces_sum, known_sum}
use Rattle.cauchy_code.proofs.column.write_column.Given as goal

abbrev pub invariant-rows : goal.invariant-rows
invariant-rows l = record {
  long : length l.into ≡ length l.fn.into;
  sum : (at : ℕ) → get_or l.into at 0 ≡ pieces_sum l.a (λ a. get_or l.weights a 0) l.rows at;
}

abbrev pub invariant-known : goal.invariant-known
invariant-known l = record {
  long : length l.into ≡ length l.fn.into;
  sum : (at : ℕ) → get_or l.into at 0 ≡ bit_xor (pieces_sum (length l.rows) (λ a. get_or l.weights a 0) l.rows at)
      (known_sum l.piece-index l.m (λ a. get_or l.weights a 0) l.rows l.known at);
}
