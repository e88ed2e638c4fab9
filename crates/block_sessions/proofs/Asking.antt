-- What an open session asks.
use Rattle.std.proofs.Common.{◌≡◌, ℕ, ◌==◌, ◌||◌, ◌↔◌, Bool, true, false, not, List, [], ◌∷◌, Contains, IsTrue, refl, sym, ap, ◌∙◌}
use Rattle.std.specs.List.{list_any}
use Rattle.std.proofs.lemmas.Bool.{true≢false}
use Rattle.group_types.specs.Pieces.{numbers_of}
use Rattle.group_types.specs.declared.piece_list.Piece.{Piece}
use Rattle.block_sessions.proofs.Lost.{any_at, any_found}

-- a number is found exactly where it is one of them
pub is_among : (b : Bool) (numbers : List ℕ) (n : ℕ) → b ≡ list_any (λ l. l == n) numbers → IsTrue b ↔ Contains numbers n
is_among b numbers n is = (λ yes. any_found numbers n (sym is ∙ yes), λ found. is ∙ any_at numbers n found.0 found.1 found.2)

-- it isn't found exactly where it is none of them
pub is_not_among : (b : Bool) (numbers : List ℕ) (n : ℕ) → b ≡ list_any (λ l. l == n) numbers → IsTrue (not b) ↔ ¬ (Contains numbers n)
is_not_among true numbers n is = (λ no. absurd (true≢false (sym no)), λ apart. absurd (apart (any_found numbers n (sym is))))
is_not_among false numbers n is = (λ no found. true≢false (sym (is ∙ any_at numbers n found.0 found.1 found.2)), λ apart. refl)

-- the pieces have the number exactly where it is among theirs
pub has_number : (pieces : List Piece) (n : ℕ) → list_any (λ (p : Piece). p.number == n) pieces ≡ list_any (λ l. l == n) (numbers_of pieces)
has_number [] n = refl
has_number (p ∷ ps) n = ap (λ t. p.number == n || t) (has_number ps n)
