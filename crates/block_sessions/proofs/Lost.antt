-- Lost partitions and those that are known.
use Rattle.std.proofs.Common.{◌≡◌, ◌≢◌, ℕ, zero, suc, ◌+◌, ◌-◌, ◌<◌, ◌≤◌, ◌==◌, ◌⊎◌, Bool, true, false, not, ◌&&◌, ◌||◌}
use Rattle.std.proofs.Common.{List, [], ◌∷◌, ◌++◌, length, get_or, filter, None, is_some, All, Contains, refl, sym, ap}
use Rattle.std.proofs.Common.{◌∙◌, subst, eq-eqb, eqb-true, inl, inr, arith}
use Rattle.std.specs.List.{list_all, list_any, range_with_len}
use Rattle.std.specs.List.Sorted.{IsStrictlyIncreasing}
use Rattle.std.proofs.lemmas.Bool.{cases_Bool, cases_lt, true≢false}
use Rattle.std.proofs.lemmas.List.{length-append, length-map, get_or_append_left, get_or-append_right, get_or_default}
use Rattle.std.proofs.lemmas.List.Elements.{All-append, All-filter, Contains-append_left, Contains-append_right, Contains-get_or, filter_passes}
use Rattle.std.proofs.lemmas.List.FromFn.{length-range_with_len, get_or-range_with_len, get_or-map-range_with_len, length-map-range_with_len}
use Rattle.std.proofs.lemmas.List.Kept.{AllPairs-from_increasing, IsStrictlyIncreasing-filter}
use Rattle.group_types.specs.Dimensions.{Dimensions}
use Rattle.group_types.specs.Pieces.{HaveOneLength, bytes_of, length_of, numbers_of}
use Rattle.group_types.specs.declared.piece_list.Piece.{Piece}
use Rattle.erasure_code.specs.Code.{Column}
use Rattle.erasure_code.specs.Columns.{Agree, AreDifferent, IsEachBelow}
use Rattle.cauchy_code.specs.Columns.{columns_of}
use Rattle.cauchy_code.proofs.Parts.{bytes_of_back}
use Rattle.group_types.specs.Lists.{at}
use Rattle.group_run.specs.Leaders.{is_complete}
use Rattle.block_sessions.specs.declared.session.OpenSession.{OpenSession}
use Rattle.block_sessions.specs.Opened.{AreLost, IsSessionOf, gathering_of, known_of}

-- what is tested of those that don't pass another test
pub all_filtered : (p q : ℕ → Bool) (xs : List ℕ) → list_all p (filter (λ x. not (q x)) xs) ≡ list_all (λ x. q x || p x) xs
all_filtered p q [] = refl
all_filtered p q (x ∷ xs) = by (all_filtered p q xs) (q x) refl
  where
    by : list_all p (filter (λ z. not (q z)) xs) ≡ list_all (λ z. q z || p z) xs → (t : Bool) → q x ≡ t
        → list_all p (filter (λ z. not (q z)) (x ∷ xs)) ≡ list_all (λ z. q z || p z) (x ∷ xs)
    by rest true lost = rw lost rest
    by rest false known = rw known (ap (λ b. p x && b) rest)

range_rises : (n : ℕ) → IsStrictlyIncreasing (range_with_len 0 n)
range_rises n k below =
    let long = length-range_with_len 0 n in
    omega (arith, get_or-range_with_len 0 n k 0 (omega arith), get_or-range_with_len 0 n (k + 1) 0 (omega arith))

pub known_rises : (k : ℕ) (lost : List ℕ) → IsStrictlyIncreasing (known_of k lost)
known_rises k lost = IsStrictlyIncreasing-filter (λ d. not (list_any (λ l. l == d) lost)) (range_with_len 0 k) (range_rises k)

range_below : (n : ℕ) → All (λ x. x < n) (range_with_len 0 n)
range_below n i d below =
    let long = length-range_with_len 0 n in
    omega (arith, get_or-range_with_len 0 n i d (omega arith))

pub known_below : (k : ℕ) (lost : List ℕ) → All (λ d. d < k) (known_of k lost)
known_below k lost = All-filter (λ d. not (list_any (λ l. l == d) lost)) (λ d. d < k) (range_with_len 0 k) (range_below k)

pub any_at : (lost : List ℕ) (d i : ℕ) → i < length lost → get_or lost i d ≡ d → list_any (λ l. l == d) lost ≡ true
any_at [] d i below here = absurd (omega arith)
any_at (l ∷ ls) d zero below here = ap (λ t. t || list_any (λ x. x == d) ls) (eq-eqb l d here)
any_at (l ∷ ls) d (suc i) below here = by (any_at ls d i (omega arith) here) (l == d)
  where
    by : list_any (λ x. x == d) ls ≡ true → (t : Bool) → (t || list_any (λ x. x == d) ls) ≡ true
    by rest true = refl
    by rest false = rest

-- the partition is among them
pub any_found : (lost : List ℕ) (d : ℕ) → list_any (λ l. l == d) lost ≡ true → Contains lost d
any_found [] d no_one = absurd (true≢false (sym no_one))
any_found (l ∷ ls) d found = by (any_found ls d) (l == d) refl
  where
    by : (list_any (λ x. x == d) ls ≡ true → Contains ls d) → (t : Bool) → (l == d) ≡ t → Contains (l ∷ ls) d
    by deeper true same = (0, omega arith, eqb-true l d same)
    by deeper false apart =
        let rest = deeper (subst (λ t. (t || list_any (λ x. x == d) ls) ≡ true) apart found) in
        (suc rest.0, omega (arith, rest.1), rest.2)

filtered_in : (p : ℕ → Bool) (xs : List ℕ) (x : ℕ) → Contains xs x → p x ≡ true → Contains (filter p xs) x
filtered_in p [] x found passes = absurd (omega (arith, found.1))
filtered_in p (y ∷ ys) x found passes = by (λ within. filtered_in p ys x within passes) (p y) refl
  where
    later : (j : ℕ) → j < length (y ∷ ys) → get_or (y ∷ ys) j x ≡ x → (y ≡ x) ⊎ Contains ys x
    later zero less here = inl here
    later (suc j) less here = inr (j, omega arith, here)

    by : (Contains ys x → Contains (filter p ys) x) → (t : Bool) → p y ≡ t → Contains (filter p (y ∷ ys)) x
    by in_tail true kept = elim (later found.0 found.1 found.2) [
      | inl here ↦ rw kept (0, omega arith, here)
      | inr within ↦ let rest = in_tail within in rw kept (suc rest.0, omega (arith, rest.1), rest.2)
    ]
    by in_tail false dropped = elim (later found.0 found.1 found.2) [
      | inl here ↦ absurd (true≢false (sym (subst (λ z. p z ≡ true) (sym here) passes) ∙ dropped))
      | inr within ↦ rw dropped (in_tail within)
    ]

-- a partition that isn't lost is known
pub known_in : (k : ℕ) (lost : List ℕ) (d : ℕ) → d < k → ¬ (Contains lost d) → Contains (known_of k lost) d
known_in k lost d below apart = filtered_in (λ x. not (list_any (λ l. l == x) lost)) (range_with_len 0 k) d
    (d, omega (arith, length-range_with_len 0 k), get_or-range_with_len 0 k d d below ∙ omega arith)
    (elim (cases_Bool (list_any (λ l. l == d) lost)) [
      | inl lost_one ↦ absurd (apart (any_found lost d lost_one))
      | inr other ↦ ap not other
    ])

known_apart : (k : ℕ) (lost : List ℕ) (j d : ℕ) → j < length (known_of k lost) → ¬ (Contains lost (get_or (known_of k lost) j d))
known_apart k lost j d below found =
    let x = get_or (known_of k lost) j d in
    true≢false (sym (filter_passes (λ y. not (list_any (λ l. l == y) lost)) (range_with_len 0 k) j d below) ∙ ap not (any_at lost x found.0 found.1 found.2))

pub each_once : (s : Dimensions) (lost rows : List ℕ) → AreLost s lost rows → IsEachBelow s.k (lost ++ known_of s.k lost)
each_once s lost rows is = record {
  different = different;
  below = All-append (λ x. x < s.k) lost (known_of s.k lost) is.below (known_below s.k lost);
  all = λ x below. elim (cases_Bool (list_any (λ l. l == x) lost)) [
    | inl lost_one ↦ Contains-append_left lost (known_of s.k lost) x (any_found lost x lost_one)
    | inr other ↦ Contains-append_right lost (known_of s.k lost) x
        (known_in s.k lost x below (λ found. true≢false (sym (any_at lost x found.0 found.1 found.2) ∙ other)))
  ];
}
  where
    after : (i j d : ℕ) → i < j → j < length (lost ++ known_of s.k lost) → length lost ≤ j
        → get_or (lost ++ known_of s.k lost) i d ≢ get_or (lost ++ known_of s.k lost) j d
    after i j d lt below late =
        let long = length-append lost (known_of s.k lost) in
        let right = get_or-append_right lost (known_of s.k lost) (length lost) j d refl late in
        elim (cases_lt i (length lost)) [
          | inl early ↦ λ same.
              let left = get_or_append_left lost (known_of s.k lost) d i early in
              known_apart s.k lost (j - length lost) d (omega arith)
              (i, early, get_or_default lost i (get_or (known_of s.k lost) (j - length lost) d) d early ∙ (sym left ∙ (same ∙ right)))
          | inr behind ↦
              let left = get_or-append_right lost (known_of s.k lost) (length lost) i d refl behind in
              let up = AllPairs-from_increasing (known_of s.k lost) (known_rises s.k lost) (i - length lost) (j - length lost) d (omega arith) (omega arith) in
              λ same. omega (arith, up, left, right, same)
        ]

    different : AreDifferent (lost ++ known_of s.k lost)
    different i j d lt below = elim (cases_lt j (length lost)) [
      | inl early ↦
          let up = AllPairs-from_increasing lost is.rising i j d lt early in
          let left = get_or_append_left lost (known_of s.k lost) d i (omega arith) in
          let right = get_or_append_left lost (known_of s.k lost) d j early in
          λ same. omega (arith, up, left, right, same)
      | inr late ↦ after i j d lt below late
    ]

-- pieces of one length
pub one_length : (block : ℕ) (rows known out : List Piece) → 1 ≤ length rows → All (λ p. length p.bytes ≡ block) rows
    → All (λ p. length p.bytes ≡ block) known → All (λ p. length p.bytes ≡ block) out
    → (length_of (rows ++ known ++ out) ≡ block) × HaveOneLength (rows ++ known ++ out)
one_length block [] known out some rows_long known_long out_long = absurd (omega arith)
one_length block (r ∷ rows) known out some rows_long known_long out_long =
    let first : length r.bytes ≡ block = rows_long 0 r (omega arith) in (
      first,
      subst (λ n. All (λ (p : Piece). length p.bytes ≡ n) ((r ∷ rows) ++ known ++ out)) (sym first)
          (All-append (λ (p : Piece). length p.bytes ≡ block) ((r ∷ rows) ++ known) out
          (All-append (λ (p : Piece). length p.bytes ≡ block) (r ∷ rows) known rows_long known_long) out_long),
    )

pub differ : (xs : List ℕ) → IsStrictlyIncreasing xs → AreDifferent xs
differ xs rising i j d lt below same = let up = AllPairs-from_increasing xs rising i j d lt below in omega (arith, up, same)

-- a decoded column is as long as the pieces
pub decoded_long : (k m n : ℕ) (lost : List ℕ) (rows known : List Column) (pieces out : List Piece)
    → All (λ l. l < k) lost → numbers_of pieces ≡ known_of k lost → numbers_of out ≡ lost
    → Agree k m n rows known (columns_of k (pieces ++ out)) → All (λ l. length (bytes_of out l) ≡ n) lost
decoded_long k m n lost rows known pieces out below numbers out_numbers agree i d less =
    let l = get_or lost i d in
    let inside : l < k = below i d less in
    let column = get_or-map-range_with_len (bytes_of (pieces ++ out)) 0 k l l [] inside (omega arith) in
    let apart : (j : ℕ) → j < length pieces → get_or (numbers_of pieces) j 0 ≢ l = λ j under same.
    let there = length-map pieces (λ (p : Piece). p.number) in
    let known_there : j < length (known_of k lost) = subst (λ ns. j < length ns) numbers (omega arith) in
    known_apart k lost j 0 known_there (i, less, get_or_default lost i (get_or (known_of k lost) j 0) d less ∙ (sym same ∙ ap (λ ns. get_or ns j 0) numbers)) in
    let found : Contains (numbers_of out) l = subst (λ ns. Contains ns l) (sym out_numbers) (Contains-get_or lost i d less) in
    ap length (sym (column ∙ bytes_of_back pieces out l apart found))
    ∙ agree.long l [] (omega (arith, length-map-range_with_len (bytes_of (pieces ++ out)) 0 k))

-- whether all is in, by what is awaited
pub complete_is : (s : Dimensions) (g : OpenSession) → IsSessionOf s g
    → (list_all (λ n. is_some (at None g.known.parts n)) g.known.numbers && list_all
    (λ n. is_some (at None g.coded.parts n)) g.coded.numbers) ≡ is_complete s (gathering_of g)
complete_is s g sound = ap (λ t. t && list_all (λ n. is_some (at None g.coded.parts n)) g.coded.numbers)
    (ap (list_all (λ n. is_some (at None g.known.parts n))) sound.known
    ∙ all_filtered (λ n. is_some (at None g.known.parts n)) (λ d. list_any (λ l. l == d) g.lost.items)
    (range_with_len 0 s.k))
