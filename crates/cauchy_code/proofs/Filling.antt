-- Two columns that are written into their pieces part by part.
use Rattle.std.proofs.Common.{◌≡◌, ◌≢◌, ℕ, ◌+◌, ◌-◌, ◌<◌, ◌≤◌, List, [], ◌∷◌, ◌++◌, length, take, drop, get_or}
use Rattle.std.proofs.Common.{Contains, inl, inr, sym, ap, ◌∙◌, subst, refl, arith}
use Rattle.std.proofs.lemmas.Bool.{cases_lt}
use Rattle.std.proofs.lemmas.List.{length-append, length-take, length-drop, get_or-take, get_or-set_other, get_or_append_left, get_or-append-add}
use Rattle.std.proofs.Math.Seq.{take-append_seam}
use Rattle.group_types.specs.Pieces.{bytes_of, numbers_of, overwritten, piece_of, place_of, with_bytes}
use Rattle.group_types.specs.declared.piece_list.Piece.{Piece}
use Rattle.group_types.proofs.Places.{bytes_kept, bytes_written, number_at, number_found, numbers_kept, place_within}
use Rattle.cauchy_code.specs.Columns.{KeepsOthers}
use Rattle.cauchy_code.specs.Parts.{with_part}

-- writing into a piece keeps those of other numbers
pub keeps_written : (numbers : List ℕ) (pieces : List Piece) (d : ℕ) (bytes : List ℕ) → Contains numbers d
    → Contains (numbers_of pieces) d → KeepsOthers numbers pieces (with_bytes pieces d bytes)
keeps_written numbers pieces d bytes listed found i p apart =
    let at = place_of pieces d in
    let within = place_within pieces d found in
    let number : (get_or pieces at p).number ≡ d = sym (number_at pieces at p within)
    ∙ (number_at pieces at (record { number = d; bytes = [] }) within ∙ number_found pieces d found) in
    let other : i ≢ at = λ same. apart (subst (λ n. Contains numbers n) (sym (ap (λ k. (get_or pieces k p).number) same ∙ number)) listed) in
    get_or-set_other pieces at i (record (piece_of pieces d) { bytes = overwritten (bytes_of pieces d) bytes }) p other

pub keeps_both : (numbers : List ℕ) (old now new : List Piece) → KeepsOthers numbers old now → KeepsOthers numbers now new → KeepsOthers numbers old new
keeps_both numbers old now new first second i p apart =
    let same = first i p apart in
    second i p (subst (λ (q : Piece). ¬ (Contains numbers q.number)) (sym same) apart) ∙ same

-- n bytes, of which those before a place are f
pub record IsBegun (n at : ℕ) (f : ℕ → ℕ) (bytes : List ℕ) : Type 0 where
  pub long : length bytes ≡ n
  pub done : (k : ℕ) → k < at → get_or bytes k 0 ≡ f k

module _ (at n : ℕ) (f : ℕ → ℕ) (part bytes : List ℕ) (within : at + length part ≤ n) (begun : IsBegun n at f bytes)
    (values : (k : ℕ) → k < length part → get_or part k 0 ≡ f (at + k)) where
  rest : List ℕ
  rest = drop (length part) (drop at bytes)

  front_long : length (take at bytes) ≡ at
  front_long = omega (arith, length-take at bytes, begun.long, within)

  whole_long : length (take at bytes ++ (part ++ rest)) ≡ n
  unfolding rest
  whole_long = omega (
    arith,
    length-append (take at bytes) (part ++ drop (length part) (drop at bytes)),
    length-append part (drop (length part) (drop at bytes)),
    length-drop (length part) (drop at bytes),
    length-drop at bytes,
    front_long,
    begun.long,
    within,
  )

  whole_done : (k : ℕ) → k < at + length part → get_or (take at bytes ++ (part ++ rest)) k 0 ≡ f k
  whole_done k below = elim (cases_lt k at) [
    | inl early ↦ get_or_append_left (take at bytes) (part ++ rest) 0 k (omega (arith, front_long, early))
        ∙ (get_or-take at bytes k 0 early ∙ begun.done k early)
    | inr from ↦
        let i = k - at in
        let inside : i < length part = omega (arith, below, from) in
        let place : length (take at bytes) + i ≡ k = omega (arith, front_long, from) in
        ap (λ j. get_or (take at bytes ++ (part ++ rest)) j 0) (sym place)
        ∙ (get_or-append-add (take at bytes) (part ++ rest) i 0
        ∙ (get_or_append_left part rest 0 i inside ∙ (values i inside ∙ ap f (omega (arith, from)))))
  ]

  pub begun_more : IsBegun n (at + length part) f (take at bytes ++ (part ++ drop (length part) (drop at bytes)))
  unfolding rest
  begun_more = record { long = whole_long; done = whole_done }

-- both columns before a place, and all other pieces as they were
pub record AreBegun (start now : List Piece) (d e at n : ℕ) (f g : ℕ → ℕ) : Type 0 where
  pub numbers : numbers_of now ≡ numbers_of start
  pub first : IsBegun n at f (bytes_of now d)
  pub second : IsBegun n at g (bytes_of now e)
  pub kept : KeepsOthers (d ∷ e ∷ []) start now

pub not_begun : (start : List Piece) (d e n : ℕ) (f g : ℕ → ℕ) → length (bytes_of start d) ≡ n
    → length (bytes_of start e) ≡ n → AreBegun start start d e 0 n f g
not_begun start d e n f g d_long e_long = record {
  numbers = refl;
  first = record { long = d_long; done = λ k below. absurd (omega (arith, below)) };
  second = record { long = e_long; done = λ k below. absurd (omega (arith, below)) };
  kept = λ i p apart. refl;
}

pub part_long : (at n : ℕ) (f : ℕ → ℕ) (part bytes : List ℕ) → at + length part ≤ n → IsBegun n at f bytes
    → length (take at bytes ++ (part ++ drop (length part) (drop at bytes))) ≡ length bytes
part_long at n f part bytes within begun =
    omega (
      arith,
      length-append (take at bytes) (part ++ drop (length part) (drop at bytes)),
      length-append part (drop (length part) (drop at bytes)),
      length-drop (length part) (drop at bytes),
      length-drop at bytes,
      length-take at bytes,
      begun.long,
      within,
    )

pub both_begun : (start now : List Piece) (d e at n : ℕ) (f g : ℕ → ℕ) (a b : List ℕ) → Contains (numbers_of start) d
    → Contains (numbers_of start) e → d ≢ e → at + length a ≤ n → length b ≡ length a
    → ((k : ℕ) → k < length a → get_or a k 0 ≡ f (at + k)) → ((k : ℕ) → k < length a → get_or b k 0 ≡ g (at + k)) → AreBegun start now d e at n f g
    → AreBegun start (with_part (with_part now d at a) e at b) d e (at + length a) n f g
both_begun start now d e at n f g a b d_there e_there differ within same a_values b_values begun =
    let next = with_part now d at a in
    let d_now : Contains (numbers_of now) d = rw begun.numbers d_there in
    let e_now : Contains (numbers_of now) e = rw begun.numbers e_there in
    let a_long = part_long at n f a (bytes_of now d) within begun.first in
    let next_numbers : numbers_of next ≡ numbers_of now = numbers_kept now d _ d_now in
    let e_next : Contains (numbers_of next) e = rw next_numbers e_now in
    let d_next : bytes_of next d ≡ take at (bytes_of now d) ++ (a ++ drop (length a) (drop at (bytes_of now d))) = bytes_written now d _ d_now a_long in
    let e_same : bytes_of next e ≡ bytes_of now e = bytes_kept now d _ e d_now (λ is. differ (sym is)) in
    let e_begun : IsBegun n at g (bytes_of next e) = rw e_same begun.second in
    let b_within : at + length b ≤ n = omega (arith, same, within) in
    let b_long = part_long at n g b (bytes_of next e) b_within e_begun in
    let e_last = bytes_written next e _ e_next b_long in
    let d_last : bytes_of (with_part next e at b) d ≡ bytes_of next d = bytes_kept next e _ d e_next differ in
    record {
      numbers = numbers_kept next e _ e_next ∙ (next_numbers ∙ begun.numbers);
      first = rw (d_last, d_next) (begun_more at n f a (bytes_of now d) within begun.first a_values);
      second = rw e_last
          (subst (λ m. IsBegun n m g (take at (bytes_of next e) ++ (b ++ drop (length b) (drop at (bytes_of next e)))))
          (ap (λ m. at + m) same)
          (begun_more at n g b (bytes_of next e) b_within e_begun
          (λ k below. b_values k (omega (arith, same, below)))));
      kept = keeps_both (d ∷ e ∷ []) start now _ begun.kept
          (keeps_both (d ∷ e ∷ []) now next _ (keeps_written (d ∷ e ∷ []) now d _ (here d (e ∷ [])) d_now)
          (keeps_written (d ∷ e ∷ []) next e _ (there d e []) e_next));
    }
  where
    here : (x : ℕ) (xs : List ℕ) → Contains (x ∷ xs) x
    here x xs = (0, omega arith, refl)

    there : (x y : ℕ) (ys : List ℕ) → Contains (x ∷ y ∷ ys) y
    there x y ys = (1, omega arith, refl)

-- the second column can be written once the first was
pub second_ready : (start now : List Piece) (d e at n : ℕ) (f g : ℕ → ℕ) (a b : List ℕ) → Contains (numbers_of start) d
    → Contains (numbers_of start) e → d ≢ e → at + length b ≤ n → AreBegun start now d e at n f g
    → Contains (numbers_of (with_part now d at a)) e × (at + length b ≤ length (bytes_of (with_part now d at a) e))
second_ready start now d e at n f g a b d_there e_there differ within begun =
    let d_now : Contains (numbers_of now) d = rw begun.numbers d_there in
    let e_now : Contains (numbers_of now) e = rw begun.numbers e_there in
    let numbers = numbers_kept now d (take at (bytes_of now d) ++ (a ++ drop (length a) (drop at (bytes_of now d)))) d_now in
    let e_same : bytes_of (with_part now d at a) e ≡ bytes_of now e = bytes_kept now d _ e d_now (λ is. differ (sym is)) in
    (rw numbers e_now, omega (arith, within, ap length e_same, begun.second.long))

pub front_is : (n : ℕ) (xs rest : List ℕ) → length xs ≡ n → take n (xs ++ rest) ≡ xs
front_is n xs rest same = ap (λ k. take k (xs ++ rest)) (sym same) ∙ take-append_seam xs rest
