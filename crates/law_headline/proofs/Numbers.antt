-- Lists of sessions whose numbers rise.
use Rattle.std.proofs.Common.{ℕ, zero, suc, ◌≡◌, ◌<◌, ◌==◌, Bool, true, false, List, [], ◌∷◌, ◌++◌, length}
use Rattle.std.proofs.Common.{slice_index_or, map, filter, find, Some, if◌then◌else◌, refl, ap, subst, ◌∙◌, arith}
use Rattle.std.proofs.lemmas.Grind.{common_steps}
use Rattle.std.specs.Prelude.{Contains}
use Rattle.group_types.specs.Each.{Each}
use Rattle.group_run.specs.Process.{Gathering}
use Rattle.law_bytes.specs.Decoding.{Rising}
use Rattle.law_headline.proofs.Rows.{numbers_of}

-- what is said of numbers is said of sessions
pub each-numbers : (P : ℕ → Type 0) (gs : List Gathering) → Each (λ g. P g.number) gs → Each P (numbers_of gs)
each-numbers P [] all = tt
each-numbers P (g ∷ gs) all = (all.0, each-numbers P gs all.1)

pub numbers-each : (P : ℕ → Type 0) (gs : List Gathering) → Each P (numbers_of gs) → Each (λ g. P g.number) gs
numbers-each P [] all = tt
numbers-each P (g ∷ gs) all = (all.0, numbers-each P gs all.1)

-- numbers of fewer sessions
fewer-each : (P : ℕ → Type 0) (test : Gathering → Bool) (gs : List Gathering) → Each P (numbers_of gs) → Each P (numbers_of (filter test gs))
fewer-each P test [] all = tt
fewer-each P test (g ∷ gs) all = by (test g) (fewer-each P test gs all.1) where
  by : (b : Bool) → Each P (numbers_of (filter test gs)) → Each P (numbers_of (if b then g ∷ filter test gs else filter test gs))
  by true rest = (all.0, rest)
  by false rest = rest

pub fewer-rise : (test : Gathering → Bool) (gs : List Gathering) → Rising (numbers_of gs) → Rising (numbers_of (filter test gs))
fewer-rise test [] rises = tt
fewer-rise test (g ∷ gs) rises = by (test g) (fewer-rise test gs rises.1) where
  by : (b : Bool) → Rising (numbers_of (filter test gs)) → Rising (numbers_of (if b then g ∷ filter test gs else filter test gs))
  by true rest = (fewer-each (λ y. g.number < y) test gs rises.0, rest)
  by false rest = rest

-- a session with a number above all
each-behind : (P : ℕ → Type 0) (gs : List Gathering) (h : Gathering) → Each P (numbers_of gs) → P h.number → Each P (numbers_of (gs ++ h ∷ []))
each-behind P [] h all last = (last, tt)
each-behind P (g ∷ gs) h all last = (all.0, each-behind P gs h all.1 last)

pub rise-behind : (gs : List Gathering) (h : Gathering) → Rising (numbers_of gs) → Each (λ g. g.number < h.number) gs → Rising (numbers_of (gs ++ h ∷ []))
rise-behind [] h rises above = (tt, tt)
rise-behind (g ∷ gs) h rises above = (each-behind (λ y. g.number < y) gs h rises.0 above.0, rise-behind gs h rises.1 above.1)

-- a session in the place of the one of its number
pub same-numbers : (h : Gathering) (gs : List Gathering) → numbers_of (map (λ x. if x.number == h.number then h else x) gs) ≡ numbers_of gs
same-numbers h [] = refl
same-numbers h (g ∷ gs) =
    ap (λ (n : ℕ). n ∷ numbers_of (map (λ x. if x.number == h.number then h else x) gs)) (by (g.number == h.number) refl)
    ∙ ap (λ (ns : List ℕ). g.number ∷ ns) (same-numbers h gs) where
      by : (b : Bool) → (g.number == h.number) ≡ b → (if b then h else g).number ≡ g.number
      by true is = grind (arith, common_steps)
      by false is = refl

-- a session in the list is found by its number
contained-above : (n : ℕ) (gs : List Gathering) (h : Gathering) → Each (λ y. n < y) (numbers_of gs) → Contains gs h → n < h.number
contained-above n [] h all has = absurd (let low = has.1 in omega (arith, low))
contained-above n (g ∷ gs) h all has = by has.0 has.1 has.2 (λ k low is. contained-above n gs h all.1 (k, low, is)) where
  by : (k : ℕ) → k < length (g ∷ gs) → slice_index_or (g ∷ gs) k h ≡ h → ((k : ℕ) → k < length gs → slice_index_or gs k h ≡ h → n < h.number) → n < h.number
  by zero low is later = subst (λ (x : Gathering). n < x.number) is all.0
  by (suc k) low is later = later k (omega (arith, low)) is

pub found-rising : (gs : List Gathering) (h : Gathering) → Rising (numbers_of gs) → Contains gs h → find (λ g. g.number == h.number) gs ≡ Some h
found-rising [] h rises has = absurd (let low = has.1 in omega (arith, low))
found-rising (g ∷ gs) h rises has = by has.0 has.1 has.2 (λ there. found-rising gs h rises.1 there) where
  by : (k : ℕ) → k < length (g ∷ gs) → slice_index_or (g ∷ gs) k h ≡ h
      → (Contains gs h → find (λ x. x.number == h.number) gs ≡ Some h) → find (λ x. x.number == h.number) (g ∷ gs)
      ≡ Some h
  by zero low is later =
      let same : g.number ≡ h.number = ap (λ (x : Gathering). x.number) is in
      let test : (g.number == h.number) ≡ true = grind (arith, common_steps) in
      ap (λ (b : Bool). if b then Some g else find (λ x. x.number == h.number) gs) test ∙ ap Some is
  by (suc k) low is later =
      let there : Contains gs h = (k, omega (arith, low), is) in
      let above : g.number < h.number = contained-above g.number gs h rises.0 there in
      let test : (g.number == h.number) ≡ false = grind (arith, common_steps) in
      ap (λ (b : Bool). if b then Some g else find (λ x. x.number == h.number) gs) test ∙ later there
