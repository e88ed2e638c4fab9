-- Pieces in the order of their numbers are the columns of what came.
use Rattle.std.proofs.Common.{◌≡◌, ◌≢◌, ℕ, zero, suc, ◌+◌, ◌<◌, ◌≤◌, Bool, true, false, List, [], ◌∷◌, length, map}
use Rattle.std.proofs.Common.{get_or, Some, None, is_some, refl, sym, ap, ap₂, ◌∙◌, subst, inl, inr, add-one, arith}
use Rattle.std.specs.Prelude.{if◌then◌else◌}
use Rattle.std.specs.List.{list_all, range_with_len}
use Rattle.std.proofs.lemmas.Bool.{cases_eq, cases_Bool, true≢false}
use Rattle.std.proofs.lemmas.List.{length-map, get_or-map, get_or_default}
use Rattle.std.proofs.lemmas.List.Folds.{list_all_at}
use Rattle.std.proofs.lemmas.List.Kept.{AllPairs-from_increasing}
use Rattle.group_types.specs.Lists.{at}
use Rattle.group_types.specs.Pieces.{bytes_of, numbers_of, place_of}
use Rattle.group_types.specs.declared.piece_list.Piece.{Piece}
use Rattle.group_types.proofs.Places.{place_found}
use Rattle.cauchy_code.specs.Columns.{as_column, as_columns}
use Rattle.group_run.specs.Leaders.{columns_from}
use Rattle.block_sessions.specs.Awaited.{AreAwaited, part_of, parts_of}
use Rattle.block_sessions.proofs.Arrived.{came_at}

abbrev nothing_at : Piece
nothing_at = record { number = 0; bytes = [] }

abbrev number_in : List Piece → ℕ → ℕ
number_in ps j = (get_or ps j nothing_at).number

-- the pieces are those that came of the numbers from n on, of which there are `count`
record AreThose (all : List Piece) (came : List Bool) (n count : ℕ) (ps : List Piece) : Type 0 where
  from : (j : ℕ) → j < length ps → n ≤ number_in ps j
  below : (j : ℕ) → j < length ps → number_in ps j < n + count
  rising : (i j : ℕ) → i < j → j < length ps → number_in ps i < number_in ps j
  bytes : (j : ℕ) → j < length ps → bytes_of all (number_in ps j) ≡ (get_or ps j nothing_at).bytes
  there : (j : ℕ) → j < length ps → get_or came (number_in ps j) false ≡ true
  others : (q : ℕ) → n ≤ q → ((j : ℕ) → j < length ps → number_in ps j ≢ q) → get_or came q false ≡ false

-- those without the first number, which has no piece
without_number : (all : List Piece) (came : List Bool) (n count : ℕ) (ps : List Piece)
    → AreThose all came n (suc count) ps → ((j : ℕ) → j < length ps → number_in ps j ≢ n)
    → AreThose all came (n + 1) count ps
without_number all came n count ps is apart = record {
  from = λ j less. omega (arith, is.from j less, apart j less);
  below = λ j less. omega (arith, is.below j less);
  rising = is.rising;
  bytes = is.bytes;
  there = is.there;
  others = λ q from none. is.others q (omega arith) none;
}

-- those without the first piece
without_piece : (all : List Piece) (came : List Bool) (n count : ℕ) (p : Piece) (ps : List Piece)
    → AreThose all came n (suc count) (p ∷ ps) → p.number ≡ n → AreThose all came (n + 1) count ps
without_piece all came n count p ps is here = record {
  from = λ j less. omega (arith, is.rising 0 (suc j) (omega arith) (omega arith), here);
  below = λ j less. omega (arith, is.below (suc j) (omega arith));
  rising = λ i j lt less. is.rising (suc i) (suc j) (omega arith) (omega arith);
  bytes = λ j less. is.bytes (suc j) (omega arith);
  there = λ j less. is.there (suc j) (omega arith);
  others = λ q from none. is.others q (omega arith) (without q (omega (arith, from, here)) none);
}
  where
    without : (q : ℕ) → p.number ≢ q → ((j : ℕ) → j < length ps → number_in ps j ≢ q) → (j : ℕ) → j < length (p ∷ ps) → number_in (p ∷ ps) j ≢ q
    without q first none zero less = first
    without q first none (suc j) less = none j (omega arith)

came_columns : (all : List Piece) (came : List Bool) (n count : ℕ) (ps : List Piece) → AreThose all came n count ps
    → map as_column ps ≡ columns_from n (map (part_of all came) (range_with_len n count))
came_columns all came n zero [] is = refl
came_columns all came n zero (p ∷ ps) is = absurd (omega (arith, is.from 0 (omega arith), is.below 0 (omega arith)))
came_columns all came n (suc count) [] is =
    came_columns all came (n + 1) count [] (without_number all came n count [] is (λ j less. absurd (omega arith)))
    ∙ (ap (λ i. columns_from i (map (part_of all came) (range_with_len (n + 1) count))) (add-one n)
    ∙ sym (ap (λ t. columns_from n ((if t then Some (bytes_of all n) else None) ∷ map (part_of all came)
    (range_with_len (n + 1) count))) (is.others n (omega arith) (λ j less. absurd (omega arith)))))
came_columns all came n (suc count) (p ∷ ps) is = elim (cases_eq p.number n) [
  | inl here ↦
      let first : part_of all came n ≡ Some p.bytes =
      ap (λ t. if t then Some (bytes_of all n) else None)
      (subst (λ i. get_or came i false ≡ true) here (is.there 0 (omega arith)))
      ∙ ap Some (subst (λ i. bytes_of all i ≡ p.bytes) here (is.bytes 0 (omega arith))) in
      let rest = came_columns all came (n + 1) count ps (without_piece all came n count p ps is here)
      ∙ ap (λ i. columns_from i (map (part_of all came) (range_with_len (n + 1) count))) (add-one n) in
      rw first (ap₂ (λ i cs. record { number = i; bytes = p.bytes } ∷ cs) here rest)
  | inr apart ↦
      let none : (j : ℕ) → j < length (p ∷ ps) → number_in (p ∷ ps) j ≢ n = later (omega (arith, is.from 0 (omega arith), apart)) in
      came_columns all came (n + 1) count (p ∷ ps) (without_number all came n count (p ∷ ps) is none)
      ∙ (ap (λ i. columns_from i (map (part_of all came) (range_with_len (n + 1) count))) (add-one n)
      ∙ sym (ap (λ t. columns_from n ((if t then Some (bytes_of all n) else None) ∷ map (part_of all came)
      (range_with_len (n + 1) count))) (is.others n (omega arith) none)))
]
  where
    later : n < p.number → (j : ℕ) → j < length (p ∷ ps) → number_in (p ∷ ps) j ≢ n
    later above zero less = λ same. omega (arith, above, same)
    later above (suc j) less = λ same. omega (arith, above, same, is.rising 0 (suc j) (omega arith) less)

pub all_columns : (pieces : List Piece) (came : List Bool) (block : ℕ) → AreAwaited pieces came block
    → list_all (λ n. is_some (at None (parts_of pieces came) n)) (numbers_of pieces) ≡ true
    → as_columns pieces ≡ columns_from 0 (parts_of pieces came)
all_columns pieces came block is complete = came_columns pieces came 0 (length came) pieces (record {
  from = λ j less. omega arith;
  below = λ j less. omega (arith, below j less);
  rising = rising;
  bytes = λ j less. ap (λ i. (get_or pieces i (record { number = number_in pieces j; bytes = [] })).bytes)
      (sym (place j less))
      ∙ ap (λ (p : Piece). p.bytes) (get_or_default pieces j (record { number = number_in pieces j; bytes = [] })
      nothing_at less);
  there = λ j less. sym (came_at pieces came (number_in pieces j) (below j less)) ∙ passes j less;
  others = λ q from none. nobody q none;
})
  where
    number : (j : ℕ) (d : ℕ) → j < length pieces → get_or (numbers_of pieces) j d ≡ number_in pieces j
    number j d less = get_or-map (λ (p : Piece). p.number) pieces j nothing_at d less

    below : (j : ℕ) → j < length pieces → number_in pieces j < length came
    below j less = let long = length-map pieces (λ (p : Piece). p.number) in subst (λ i. i < length came) (number j 0 less) (is.below j 0 (omega arith))

    rising : (i j : ℕ) → i < j → j < length pieces → number_in pieces i < number_in pieces j
    rising i j lt less =
        let long = length-map pieces (λ (p : Piece). p.number) in
        let up = AllPairs-from_increasing (numbers_of pieces) is.rising i j 0 lt (omega arith) in
        omega (arith, up, number i 0 (omega arith), number j 0 less)

    place : (j : ℕ) → j < length pieces → j ≡ place_of pieces (number_in pieces j)
    place j less = place_found pieces (number_in pieces j) j nothing_at less refl
        (λ k under same. let up = rising k j under less in omega (arith, up, same, number k 0 (omega arith)))

    passes : (j : ℕ) → j < length pieces → is_some (at None (parts_of pieces came) (number_in pieces j)) ≡ true
    passes j less =
        let long = length-map pieces (λ (p : Piece). p.number) in
        let test : ℕ → Bool = λ n. is_some (at None (parts_of pieces came) n) in
        elim (cases_Bool (test (get_or (numbers_of pieces) j 0))) [
          | inl passed ↦ subst (λ i. test i ≡ true) (number j 0 less) passed
          | inr failed ↦ absurd (true≢false (sym complete ∙ list_all_at test (numbers_of pieces) j 0 (omega arith) failed))
        ]

    nobody : (q : ℕ) → ((j : ℕ) → j < length pieces → number_in pieces j ≢ q) → get_or came q false ≡ false
    nobody q none = elim (cases_Bool (get_or came q false)) [
      | inl came_in ↦ absurd (let long = length-map pieces (λ (p : Piece). p.number) in
          let found = is.awaited q came_in in
          none found.0 (omega (arith, found.1)) (sym (number found.0 q (omega (arith, found.1))) ∙ found.2))
      | inr absent ↦ absent
    ]
