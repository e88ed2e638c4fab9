-- The tables of products that a prepared coefficient keeps.
use Rattle.std.specs.Prelude.{◌≡◌, ℕ, ◌*◌, ◌<◌, List, [], ◌∷◌, map}
use Rattle.field_byte.specs.Field.{product}

-- the numbers of four bits
abbrev pub nibbles : List ℕ
nibbles = 0 ∷ 1 ∷ 2 ∷ 3 ∷ 4 ∷ 5 ∷ 6 ∷ 7 ∷ 8 ∷ 9 ∷ 10 ∷ 11 ∷ 12 ∷ 13 ∷ 14 ∷ 15 ∷ []

-- the products of a coefficient with step times each of them
abbrev pub products_of_nibbles : ℕ → ℕ → List ℕ
products_of_nibbles coef step = map (λ k. product coef (k * step)) nibbles

-- the products of a byte with the low and with the high four bits of others
pub record AreHalves (coef : ℕ) (lows highs : List ℕ) : Type 0 where
  pub byte : coef < 256
  pub low : lows ≡ products_of_nibbles coef 1
  pub high : highs ≡ products_of_nibbles coef 16
