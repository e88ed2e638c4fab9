-- Coefficients that are made one after another, each of a piece's number.
use Rattle.std.proofs.Common.{◌≡◌, ◌≢◌, ℕ, ◌+◌, ◌<◌, ◌≤◌, List, length, get_or, set, below_more, get_or-set_other}
use Rattle.std.proofs.Common.{get_or-set_same, length-set, sym, ap, ◌∙◌, arith}
use Rattle.group_types.specs.Pieces.{numbers_of}
use Rattle.group_types.specs.declared.piece_list.Piece.{Piece}
use Rattle.group_types.proofs.Places.{number_at}

-- the first n of sixteen are f of the pieces' numbers
pub record AreMade (f : ℕ → ℕ) (pieces : List Piece) (n : ℕ) (all : List ℕ) : Type 0 where
  pub long : length all ≡ 16
  pub done : (q : ℕ) → q < n → get_or all q 0 ≡ f (get_or (numbers_of pieces) q 0)

pub one_made : (f : ℕ → ℕ) (pieces : List Piece) (q x : ℕ) (p : Piece) (all : List ℕ) → length pieces ≤ 16 → q < length pieces
    → x ≡ f (get_or pieces q p).number → AreMade f pieces q all → AreMade f pieces (q + 1) (set all q x)
one_made f pieces q x p all few within is before =
    let room : q < length all = omega (arith, within, few, before.long) in
    record {
      long = length-set all q x ∙ before.long;
      done = below_more (λ k. get_or (set all q x) k 0 ≡ f (get_or (numbers_of pieces) k 0)) q
          (λ k below. let ne : k ≢ q = omega arith in rw get_or-set_other (before.done k below))
          (rw get_or-set_same (is ∙ ap f (sym (number_at pieces q p within))));
    }
