-- Lists of updates with consecutive numbers.
use Rattle.std.proofs.Common.{◌≡◌, ℕ, zero, suc, ◌+◌, ◌-◌, ◌<◌, ◌≤◌, ◌==◌, Bool, true, false, List, [], ◌∷◌, ◌++◌}
use Rattle.std.proofs.Common.{length, get_or, drop, take, Option, Some, None, find, refl, sym, ◌∙◌, arith, add-zero}
use Rattle.std.proofs.Common.{subst, Bor, IsSome, IfSome, option_copied, ◌↔◌, inl, inr}
use Rattle.std.specs.List.{slice_get}
use Rattle.std.proofs.lemmas.Bool.Decides.{nat_tests}
use Rattle.std.proofs.lemmas.Bool.{cases_lt}
use Rattle.std.proofs.lemmas.List.{take-append-drop}
use Rattle.std.proofs.lemmas.Option.{slice_get_past, slice_get_read}
use Rattle.std.proofs.Math.Seq.{drop-cons}
use mathlib.Core.Bool.{false≢true}
use Rattle.request_log.specs.Logged.{IsNumbered, find_last}

module _ {U : Type 0} (number : U → ℕ) where
  pub numbered_push : (updates : List U) (base : ℕ) (update : U) → IsNumbered number base updates
      → number update ≡ base + length updates + 1 → IsNumbered number base (updates ++ update ∷ [])
  numbered_push [] base update numbered next = (omega arith, tt)
  numbered_push (first ∷ rest) base update numbered next = (numbered.0, numbered_push rest (base + 1) update numbered.1 (omega arith))

  pub numbered_drop : (n base : ℕ) (updates : List U) → IsNumbered number base updates → n ≤ length updates → IsNumbered number (base + n) (drop n updates)
  numbered_drop zero base updates numbered le = rw (add-zero) numbered
  numbered_drop (suc n) base [] numbered le = absurd (omega arith)
  numbered_drop (suc n) base (first ∷ rest) numbered le =
      let same : base + 1 + n ≡ base + suc n = omega arith in
      subst (λ (b : ℕ). IsNumbered number b (drop n rest)) same (numbered_drop n (base + 1) rest numbered.1 (omega arith))

  pub numbered_at : (updates : List U) (base i : ℕ) (d : U) → IsNumbered number base updates → i < length updates → number (get_or updates i d) ≡ base + i + 1
  numbered_at [] base i d numbered lt = absurd (omega arith)
  numbered_at (first ∷ rest) base zero d numbered lt = omega (arith, numbered.0)
  numbered_at (first ∷ rest) base (suc i) d numbered lt = omega (arith, numbered_at rest (base + 1) i d numbered.1 (omega arith))

  -- a number at or below the base is none of theirs
  pub find_below : (updates : List U) (base n : ℕ) → IsNumbered number base updates → n ≤ base → find (λ update. number update == n) updates ≡ None
  find_below [] base n numbered le = refl
  find_below (first ∷ rest) base n numbered le = grind (arith, nat_tests, numbered.0, find_below rest (base + 1) n numbered.1 (omega arith))

  -- another number is that of the update at its place
  pub find_numbered : (updates : List U) (base i n : ℕ) → IsNumbered number base updates → n ≡ base + i + 1
      → find (λ update. number update == n) updates ≡ slice_get updates i
  find_numbered [] base i n numbered is = refl
  find_numbered (first ∷ rest) base zero n numbered is = grind (arith, nat_tests, numbered.0)
  find_numbered (first ∷ rest) base (suc i) n numbered is = grind (arith, nat_tests, numbered.0, find_numbered rest (base + 1) i n numbered.1 (omega arith))

module _ {U : Type 0} (test : U → Bool) where
  -- the last one that passes among later updates is the last of all
  pub last_later : (earlier later : List U) (update : U) → find_last test later ≡ Some update → find_last test (earlier ++ later) ≡ Some update
  last_later [] later update is = is
  last_later (first ∷ rest) later update is = rw (last_later rest later update is) refl

  -- none of the later ones passes, so the one before them is the last that does
  pub last_here : (update : U) (later : List U) → find_last test later ≡ None → test update ≡ true → find_last test (update ∷ later) ≡ Some update
  last_here update later none here = rw (none, here) refl

  pub last_before : (update : U) (later : List U) → find_last test later ≡ None → test update ≡ false → find_last test (update ∷ later) ≡ None
  last_before update later none here = rw (none, here) refl

  -- an update that passes, with none behind it that does
  pub last_found : (updates : List U) (i : ℕ) (update : U) → 0 < i → i ≤ length updates
      → update ≡ get_or updates (i - 1) update → find_last test (drop i updates) ≡ None → test update ≡ true
      → find_last test updates ≡ Some update
  last_found updates i update some le is none here =
      let up : suc (i - 1) ≡ i = omega arith in
      let behind : drop (i - 1) updates ≡ update ∷ drop i updates = drop-cons updates (i - 1) update (omega arith) ∙ rw (← is, up) refl in
      subst (λ (l : List U). find_last test l ≡ Some update) (take-append-drop (i - 1) updates)
      (last_later (take (i - 1) updates) (drop (i - 1) updates) update (rw behind (last_here update (drop i updates) none here)))

-- what a look-up lends is the item at the place
pub copied_item : {U : Type 0} (items : List U) (i n : ℕ) (found : Option (Bor U)) → n ≡ length items
    → (IsSome found ↔ (i < n)) → IfSome found (λ x. x.now ≡ get_or items i x.now)
    → option_copied found ≡ slice_get items i
copied_item items i n None long variant lookup =
    elim (cases_lt i n)
    [ inl lt ↦ absurd (false≢true (variant.1 lt)) | inr ge ↦ sym (slice_get_past items i (omega arith)) ]
copied_item items i n (Some x) long variant lookup = sym (slice_get_read items n i x.now long (variant.0 refl) lookup)
