use Rattle.std.proofs.Common.{◌≡◌, ℕ, ◌+◌, ◌-◌, ◌<◌, ◌≤◌, length, get_or, bit_xor}
use Rattle.cauchy_code.specs.Solving.{pieces_sum}
use Rattle.cauchy_code.proofs.pass.add_pieces.Given as goal

abbrev pub invariant-fours : goal.invariant-fours
invariant-fours l = record {
  within : l.j ≤ length l.pieces;
  first : (k x : ℕ) → k < l.len
      → get_or l.fn.first k 0 ≡ bit_xor x (pieces_sum l.from (λ a. get_or l.in_first a 0) l.pieces (l.at + k))
      → get_or l.first k 0 ≡ bit_xor x (pieces_sum l.j (λ a. get_or l.in_first a 0) l.pieces (l.at + k));
  second : (k x : ℕ) → k < l.len
      → get_or l.fn.second k 0 ≡ bit_xor x (pieces_sum l.from (λ a. get_or l.in_second a 0) l.pieces (l.at + k))
      → get_or l.second k 0 ≡ bit_xor x (pieces_sum l.j (λ a. get_or l.in_second a 0) l.pieces (l.at + k));
}

abbrev pub decreases-fours : goal.decreases-fours
decreases-fours l = length l.pieces - l.j
