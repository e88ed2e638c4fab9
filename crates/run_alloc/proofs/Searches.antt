-- What the search of one chunk finds among all runs.
use Rattle.std.proofs.Common.{◌≡◌, ◌≢◌, ℕ, suc, ◌+◌, ◌-◌, ◌<◌, ◌≤◌, ◌^◌, List, [], ◌∷◌, ◌++◌, length, get_or, refl, sym}
use Rattle.std.proofs.Common.{ap, subst, ◌∙◌, inl, inr, arith, append_assoc, length-append, add-one}
use Rattle.std.specs.List.{All, HoldsAt}
use Rattle.std.specs.List.Sorted.{IsNonDecreasingBy}
use Rattle.std.proofs.lemmas.Bool.{cases_lt}
use Rattle.std.proofs.lemmas.List.{get_or_append_left, get_or-append_right, get_or_default}
use Rattle.std.proofs.lemmas.List.Elements.{All-nil, All-head, All-append, All-weaker}
use Rattle.run_alloc.specs.declared.order.Run.{Run}
use Rattle.run_alloc.specs.declared.chunk.Chunk.{Chunk}
use Rattle.run_alloc.specs.Shelves.{runs_in, fence, IsLaid, IsEven, IsChunkOf, IsPlaceOf, IsFirstFrom, IsLastBelow}
use Rattle.run_alloc.proofs.Around.{get-around, get-behind, All-behind, begins, ends}
use Rattle.run_alloc.proofs.Laid.{runs_in-append, IsBig, even-front, even-behind}
use Rattle.run_alloc.proofs.Moves.{runs_around, front_below, back_above, chunk_rises}
use Rattle.run_alloc.proofs.Ranks.{rises-steady}

-- the empty list has no length
none : {X : Type 0} (xs : List X) → length xs ≤ 0 → xs ≡ []
none [] le = refl
none (x ∷ xs) le = absurd (omega arith)

first_of_all : {X : Type 0} (xs : List X) → 0 < length xs → (x : X) × ((rest : List X) × (xs ≡ x ∷ rest))
first_of_all [] some = absurd (omega arith)
first_of_all (x ∷ xs) some = (x, (xs, refl))

later : {X : Type 0} (x : X) (xs : List X) (d : X) → 0 < length xs → get_or xs (length xs - 1) d ≡ get_or (x ∷ xs) (length (x ∷ xs) - 1) d
later x [] d some = absurd (omega arith)
later x (y ∷ xs) d some =
    let front : suc (length xs) - 1 ≡ length xs = omega arith in
    let back : suc (suc (length xs)) - 1 ≡ suc (length xs) = omega arith in
    rw (front, back) refl

last_of_all : {X : Type 0} (xs : List X) → 0 < length xs → (x : X) × ((front : List X) × ((xs ≡ front ++ x ∷ []) × (x ≡ get_or xs (length xs - 1) x)))
last_of_all {X} [] some = absurd (omega arith)
last_of_all {X} (x ∷ []) some = (x, ([], (refl, refl)))
last_of_all {X} (x ∷ y ∷ xs) some =
    let rest = last_of_all (y ∷ xs) (omega arith) in
    (rest.0, (x ∷ rest.1.0, (ap (λ (l : List X). x ∷ l) rest.1.1.0, rest.1.1.1 ∙ later x (y ∷ xs) rest.0 (omega arith))))

-- the runs that are read are those of the chunk that was found
pub found : (xs : List Chunk) (r place : ℕ) (is : IsChunkOf xs r place) (rs : List Run)
    → HoldsAt (λ (c : Chunk). rs ≡ c.runs.items) xs place → is.chunk.runs.items ≡ rs
found xs r place is rs read =
    let same : get_or xs place is.chunk ≡ is.chunk = rw (is.parts, ← is.at) (get-around is.front is.back is.chunk is.chunk) in
    sym (read is.chunk ∙ ap (λ (c : Chunk). c.runs.items) same)

pub found_steady : (rank : Run → ℕ) (xs : List Chunk) (r place : ℕ) (is : IsChunkOf xs r place) (rs : List Run)
    → HoldsAt (λ (c : Chunk). rs ≡ c.runs.items) xs place → IsLaid rank xs (2 ^ 64) → IsNonDecreasingBy rank rs
found_steady rank xs r place is rs read laid =
    subst (λ (l : List Run). IsNonDecreasingBy rank l) (found xs r place is rs read)
    (rises-steady rank is.chunk.runs.items is.chunk.low (fence is.back (2 ^ 64))
    (chunk_rises rank is.front is.back is.chunk (2 ^ 64)
    (subst (λ (l : List Chunk). IsLaid rank l (2 ^ 64)) is.parts laid)))

module _ (rank : Run → ℕ) (xs : List Chunk) (r place : ℕ) (is : IsChunkOf xs r place) (rs : List Run)
    (read : HoldsAt (λ (c : Chunk). rs ≡ c.runs.items) xs place)
    (laid : IsLaid rank xs (2 ^ 64)) (even : IsEven xs) (within : ℕ) (p : IsPlaceOf rank rs r within) where
  laid_whole : IsLaid rank (is.front ++ is.chunk ∷ is.back) (2 ^ 64)
  laid_whole = subst (λ (l : List Chunk). IsLaid rank l (2 ^ 64)) is.parts laid

  even_whole : IsEven (is.front ++ is.chunk ∷ is.back)
  even_whole = subst (λ (l : List Chunk). IsEven l) is.parts even

  flat : runs_in xs ≡ runs_in is.front ++ (rs ++ runs_in is.back)
  flat = ap runs_in is.parts ∙ runs_around is.front is.back is.chunk
      ∙ ap (λ (l : List Run). runs_in is.front ++ (l ++ runs_in is.back)) (found xs r place is rs read)

  below : All (λ (x : Run). rank x < r) (runs_in is.front)
  below =
      let from = is.from in
      All-weaker (λ (x : Run). rank x < is.chunk.low) (λ (x : Run). rank x < r) (λ x lt. omega arith) (runs_in is.front)
      (front_below rank is.front is.back is.chunk (2 ^ 64) laid_whole)

  above : All (λ (x : Run). r ≤ rank x) (runs_in is.back)
  above =
      let to = is.to in
      All-weaker (λ (x : Run). fence is.back (2 ^ 64) ≤ rank x) (λ (x : Run). r ≤ rank x) (λ x le. omega arith)
      (runs_in is.back) (back_above rank is.front is.back is.chunk (2 ^ 64) laid_whole)

  first_run : (run : Run) → within < length rs → run ≡ get_or rs within run → IsFirstFrom rank (runs_in xs) r run
  first_run run lt is_run =
      let long = ap length p.parts ∙ length-append p.before p.after in
      let head = begins p.after run (omega (arith, p.at))
      (is_run ∙ rw p.parts (get_or-append_right p.before p.after (length p.before) within run refl (omega (arith, p.at)))
      ∙ ap (λ (k : ℕ). get_or p.after k run) (none_left within (length p.before) p.at)) in
      record {
        before = runs_in is.front ++ p.before;
        after = head.0 ++ runs_in is.back;
        parts = flat
            ∙ ap (λ (l : List Run). runs_in is.front ++ (l ++ runs_in is.back)) (p.parts ∙ ap (λ (l : List Run). p.before ++ l) head.1)
            ∙ ap (λ (l : List Run). runs_in is.front ++ l) (append_assoc p.before (run ∷ head.0) (runs_in is.back))
            ∙ sym (append_assoc (runs_in is.front) p.before (run ∷ head.0 ++ runs_in is.back));
        below = All-append (λ (x : Run). rank x < r) (runs_in is.front) p.before below p.below;
        reached = All-head (λ (x : Run). r ≤ rank x) run head.0 (subst (λ (l : List Run). All (λ (x : Run). r ≤ rank x) l) head.1 p.above);
      }
    where
      none_left : (a b : ℕ) → b ≡ a → a - b ≡ 0
      none_left a b is = omega arith

  pub first_here : (d : Run) → within < length rs → IsFirstFrom rank (runs_in xs) r (get_or rs within d)
  first_here d lt = first_run (get_or rs within d) lt (get_or_default rs within d (get_or rs within d) lt)

  -- all runs of the chunk are below
  all_here : length rs ≤ within → All (λ (x : Run). rank x < r) (runs_in is.front ++ rs)
  all_here le =
      let long = ap length p.parts ∙ length-append p.before p.after in
      let only = p.parts ∙ ap (λ (l : List Run). p.before ++ l) (none p.after (omega (arith, p.at))) in
      All-append (λ (x : Run). rank x < r) (runs_in is.front) rs below
      (subst (λ (l : List Run). All (λ (x : Run). rank x < r) l) (sym only)
      (All-append (λ (x : Run). rank x < r) p.before [] p.below (All-nil (λ (x : Run). rank x < r))))

  flat_rest : (back : List Chunk) → is.back ≡ back → runs_in xs ≡ (runs_in is.front ++ rs) ++ runs_in back
  flat_rest back same_back = flat ∙ sym (append_assoc (runs_in is.front) rs (runs_in is.back))
      ∙ ap (λ (l : List Chunk). (runs_in is.front ++ rs) ++ runs_in l) same_back

  last_chunk : length xs ≤ place + 1 → is.back ≡ []
  last_chunk last = none is.back (omega (arith, ap length is.parts, length-append is.front (is.chunk ∷ is.back), is.at))

  pub none_from : length rs ≤ within → length xs ≤ place + 1 → All (λ (x : Run). rank x < r) (runs_in xs)
  none_from le last = subst (λ (l : List Run). All (λ (x : Run). rank x < r) l) (sym (flat_rest [] (last_chunk last)))
      (All-append (λ (x : Run). rank x < r) (runs_in is.front ++ rs) [] (all_here le) (All-nil (λ (x : Run). rank x < r)))

  module _ (ns : List Run) (more : place + 1 ≢ length xs) (read_next : HoldsAt (λ (c : Chunk). ns ≡ c.runs.items) xs (place + 1)) where
    next_at : (d : Chunk) → get_or xs (place + 1) d ≡ get_or is.back 0 d
    next_at d = rw (add-one, is.parts, ← is.at) (get-behind is.front is.back is.chunk d)

    behind : (next : Chunk) × ((rest : List Chunk) × ((is.back ≡ next ∷ rest) × (ns ≡ next.runs.items)))
    behind =
        let head = first_of_all is.back (omega (arith, ap length is.parts, length-append is.front (is.chunk ∷ is.back), is.at)) in (
          head.0,
          (
            head.1.0,
            (
              head.1.1,
              read_next head.0
                  ∙ ap (λ (c : Chunk). c.runs.items) (next_at head.0 ∙ ap (λ (l : List Chunk). get_or l 0 head.0) head.1.1),
            ),
          ),
        )

    rest_flat : runs_in is.back ≡ ns ++ runs_in behind.1.0
    rest_flat = ap runs_in behind.1.1.0 ∙ ap (λ (l : List Run). l ++ runs_in behind.1.0) (sym behind.1.1.1)

    pub first_next : (d : Run) → length rs ≤ within → 0 < length ns → IsFirstFrom rank (runs_in xs) r (get_or ns 0 d)
    first_next d le some =
        let run : Run = get_or ns 0 d in
        let is_run : get_or ns 0 d ≡ get_or ns 0 (get_or ns 0 d) = get_or_default ns 0 d (get_or ns 0 d) some in
        let head = begins ns run some is_run in
        record {
          before = runs_in is.front ++ rs;
          after = head.0 ++ runs_in behind.1.0;
          parts = flat_rest is.back refl ∙ ap (λ (l : List Run). (runs_in is.front ++ rs) ++ l)
              (rest_flat ∙ ap (λ (l : List Run). l ++ runs_in behind.1.0) head.1);
          below = all_here le;
          reached = All-head (λ (x : Run). r ≤ rank x) run (head.0 ++ runs_in behind.1.0)
              (subst (λ (l : List Run). All (λ (x : Run). r ≤ rank x) l) (rest_flat ∙ ap (λ (l : List Run). l ++ runs_in behind.1.0) head.1) above);
        }

    pub none_next : length rs ≤ within → length ns ≤ 0 → All (λ (x : Run). rank x < r) (runs_in xs)
    none_next le empty =
        let rest_even = subst (λ (l : List Chunk). IsEven l) behind.1.1.0 (even-behind is.front (is.chunk ∷ is.back) even_whole).1.1 in
        let last : behind.1.0 ≡ [] = none behind.1.0 (last_is rest_even empty) in
        subst (λ (l : List Run). All (λ (x : Run). rank x < r) l)
        (sym (flat_rest is.back refl ∙ ap (λ (l : List Run). (runs_in is.front ++ rs) ++ l)
        (rest_flat ∙ ap (λ (l : List Run). l ++ runs_in behind.1.0) (none ns empty) ∙ ap runs_in last)))
        (All-append (λ (x : Run). rank x < r) (runs_in is.front ++ rs) [] (all_here le) (All-nil (λ (x : Run). rank x < r)))
      where
        last_is : IsEven (behind.0 ∷ behind.1.0) → length ns ≤ 0 → length behind.1.0 ≤ 0
        last_is rest_even empty =
            elim (cases_lt 0 (length behind.1.0))
            [ inl lt ↦ absurd (omega (arith, rest_even.1.0 lt, ap length behind.1.1.1)) | inr le ↦ le ]

  last_run : (run : Run) → 0 < within → run ≡ get_or rs (within - 1) run → IsLastBelow rank (runs_in xs) r run
  last_run run some is_run =
      let tail = ends p.before run (omega (arith, p.at))
      (is_run ∙ rw p.parts (get_or_append_left p.before p.after run (within - 1) (omega (arith, p.at)))
      ∙ ap (λ (k : ℕ). get_or p.before (k - 1) run) (sym p.at)) in
      record {
        before = runs_in is.front ++ tail.0;
        after = p.after ++ runs_in is.back;
        parts = flat
            ∙ ap (λ (l : List Run). runs_in is.front ++ (l ++ runs_in is.back)) (p.parts ∙ ap (λ (l : List Run). l ++ p.after) tail.1)
            ∙ ap (λ (l : List Run). runs_in is.front ++ l) (append_assoc (tail.0 ++ run ∷ []) p.after (runs_in is.back)
            ∙ append_assoc tail.0 (run ∷ []) (p.after ++ runs_in is.back))
            ∙ sym (append_assoc (runs_in is.front) tail.0 (run ∷ p.after ++ runs_in is.back));
        below = All-head (λ (x : Run). rank x < r) run []
            (All-behind (λ (x : Run). rank x < r) tail.0 (run ∷ [])
            (subst (λ (l : List Run). All (λ (x : Run). rank x < r) l) tail.1 p.below));
        above = All-append (λ (x : Run). r ≤ rank x) p.after (runs_in is.back) p.above above;
      }

  pub last_here : (d : Run) → 0 < within → IsLastBelow rank (runs_in xs) r (get_or rs (within - 1) d)
  last_here d some = last_run (get_or rs (within - 1) d) some
      (get_or_default rs (within - 1) d (get_or rs (within - 1) d) (omega (arith, p.at, ap length p.parts, length-append p.before p.after)))

  all_behind : within ≤ 0 → All (λ (x : Run). r ≤ rank x) (rs ++ runs_in is.back)
  all_behind le =
      let only = p.parts ∙ ap (λ (l : List Run). l ++ p.after) (none p.before (omega (arith, p.at))) in
      All-append (λ (x : Run). r ≤ rank x) rs (runs_in is.back) (subst (λ (l : List Run). All (λ (x : Run). r ≤ rank x) l) (sym only) p.above) above

  pub none_below : within ≤ 0 → place ≤ 0 → All (λ (x : Run). r ≤ rank x) (runs_in xs)
  none_below le first = subst (λ (l : List Run). All (λ (x : Run). r ≤ rank x) l)
      (sym (flat ∙ ap (λ (l : List Chunk). runs_in l ++ (rs ++ runs_in is.back)) (none is.front (omega (arith, is.at))))) (all_behind le)

  module _ (ls : List Run) (some : 0 < place) (read_last : HoldsAt (λ (c : Chunk). ls ≡ c.runs.items) xs (place - 1)) where
    last_at : (d : Chunk) → get_or xs (place - 1) d ≡ get_or is.front (place - 1) d
    last_at d = rw is.parts (get_or_append_left is.front (is.chunk ∷ is.back) d (place - 1) (omega (arith, is.at)))

    ahead : (last : Chunk) × ((rest : List Chunk) × ((is.front ≡ rest ++ last ∷ []) × (ls ≡ last.runs.items)))
    ahead =
        let tail = last_of_all is.front (omega (arith, is.at)) in (
          tail.0,
          (
            tail.1.0,
            (
              tail.1.1.0,
              read_last tail.0
                  ∙ ap (λ (c : Chunk). c.runs.items) (last_at tail.0 ∙ ap (λ (k : ℕ). get_or is.front (k - 1) tail.0) (sym is.at) ∙ sym tail.1.1.1),
            ),
          ),
        )

    pub last_big : 128 ≤ length ls
    last_big = subst (λ (l : List Run). 128 ≤ length l) (sym ahead.1.1.1)
        (All-head IsBig ahead.0 []
        (All-behind IsBig ahead.1.0 (ahead.0 ∷ [])
        (subst (λ (l : List Chunk). All IsBig l) ahead.1.1.0
        (even-front is.front (is.chunk ∷ is.back) even_whole (omega arith))))).1

    pub last_ahead : (d : Run) → within ≤ 0 → IsLastBelow rank (runs_in xs) r (get_or ls (length ls - 1) d)
    last_ahead d le =
        let run : Run = get_or ls (length ls - 1) d in
        let is_run : get_or ls (length ls - 1) d ≡ get_or ls (length ls - 1) (get_or ls (length ls - 1) d)
        = get_or_default ls (length ls - 1) d (get_or ls (length ls - 1) d) (omega (arith, last_big)) in
        let tail = ends ls run (omega (arith, last_big)) is_run in
        let front_is : runs_in is.front ≡ (runs_in ahead.1.0 ++ tail.0) ++ run ∷ [] = ap runs_in ahead.1.1.0 ∙ runs_in-append ahead.1.0 (ahead.0 ∷ [])
        ∙ ap (λ (l : List Run). runs_in ahead.1.0 ++ (l ++ [])) (sym ahead.1.1.1 ∙ tail.1)
        ∙ ap (λ (l : List Run). runs_in ahead.1.0 ++ l) (append_assoc tail.0 (run ∷ []) [])
        ∙ sym (append_assoc (runs_in ahead.1.0) tail.0 (run ∷ [])) in
        record {
          before = runs_in ahead.1.0 ++ tail.0;
          after = rs ++ runs_in is.back;
          parts = flat ∙ ap (λ (l : List Run). l ++ (rs ++ runs_in is.back)) front_is
              ∙ append_assoc (runs_in ahead.1.0 ++ tail.0) (run ∷ []) (rs ++ runs_in is.back);
          below = All-head (λ (x : Run). rank x < r) run []
              (All-behind (λ (x : Run). rank x < r) (runs_in ahead.1.0 ++ tail.0) (run ∷ [])
              (subst (λ (l : List Run). All (λ (x : Run). rank x < r) l) front_is below));
          above = all_behind le;
        }
