-- A run that is put into its chunk or taken out, chunks that are joined and halved.
use Rattle.std.proofs.Common.{◌≡◌, ◌≢◌, ℕ, ◌<◌, ◌≤◌, ◌^◌, List, [], ◌∷◌, ◌++◌, length, set, get_or, vec_capacity, sym}
use Rattle.std.proofs.Common.{ap, subst, ◌∙◌, inl, inr, arith, append_assoc}
use Rattle.std.specs.List.{All, Contains}
use Rattle.std.proofs.lemmas.List.Elements.{All-tail, All-contains, Contains-append_cases}
use Rattle.run_alloc.specs.declared.order.Run.{Run}
use Rattle.run_alloc.specs.declared.chunk.Chunk.{Chunk}
use Rattle.run_alloc.specs.Shelves.{Rises, runs_in, fence, IsLaid, IsLight, IsEven, IsAmid, IsChunkOf, Adds, Puts}
use Rattle.run_alloc.proofs.Around.{get-around, set-around, All-front, All-behind}
use Rattle.run_alloc.proofs.Ranks.{rises-lower, rises-higher, rises-above, rises-below, rises-between, rises-without}
use Rattle.run_alloc.proofs.Laid.{runs_in-append, fence-append, laid-append, laid-front, laid-behind, laid-rises, laid-bounds, even-front, even-behind}

-- the runs around those of one chunk
pub runs_around : (front back : List Chunk) (chunk : Chunk) → runs_in (front ++ chunk ∷ back) ≡ runs_in front ++ (chunk.runs.items ++ runs_in back)
runs_around front back chunk = runs_in-append front (chunk ∷ back)

-- what is added to a chunk is added to all
pub adds_around : (front back : List Chunk) (old new : Chunk) (run : Run) → Adds old.runs.items new.runs.items run
    → Adds (runs_in (front ++ old ∷ back)) (runs_in (front ++ new ∷ back)) run
adds_around front back old new run adds = record {
  before = runs_in front ++ adds.before;
  after = adds.after ++ runs_in back;
  was = runs_around front back old
      ∙ ap (λ (l : List Run). runs_in front ++ (l ++ runs_in back)) adds.was
      ∙ ap (λ (l : List Run). runs_in front ++ l) (append_assoc adds.before adds.after (runs_in back))
      ∙ sym (append_assoc (runs_in front) adds.before (adds.after ++ runs_in back));
  is = runs_around front back new
      ∙ ap (λ (l : List Run). runs_in front ++ (l ++ runs_in back)) adds.is
      ∙ ap (λ (l : List Run). runs_in front ++ l) (append_assoc adds.before (run ∷ adds.after) (runs_in back))
      ∙ sym (append_assoc (runs_in front) adds.before (run ∷ adds.after ++ runs_in back));
}

module _ (rank : Run → ℕ) where
  -- the chunk at its place, with other runs between the same bounds
  pub laid_around : (front back : List Chunk) (old new : Chunk) (high : ℕ) → IsLaid rank (front ++ old ∷ back) high → new.low ≡ old.low
      → Rises rank old.low new.runs.items (fence back high) → IsLaid rank (front ++ new ∷ back) high
  laid_around front back old new high laid low rises =
      laid-append rank front (new ∷ back) high
      (subst (λ (n : ℕ). IsLaid rank front n) (sym low) (laid-front rank front (old ∷ back) high laid))
      (subst (λ (n : ℕ). Rises rank n new.runs.items (fence back high)) (sym low) rises, (laid-behind rank front (old ∷ back) high laid).1)

  pub chunk_rises : (front back : List Chunk) (chunk : Chunk) (high : ℕ) → IsLaid rank (front ++ chunk ∷ back) high
      → Rises rank chunk.low chunk.runs.items (fence back high)
  chunk_rises front back chunk high laid = (laid-behind rank front (chunk ∷ back) high laid).0

  -- all runs in front are below the chunk, and those behind are above
  pub front_below : (front back : List Chunk) (chunk : Chunk) (high : ℕ) → IsLaid rank (front ++ chunk ∷ back) high
      → All (λ (r : Run). rank r < chunk.low) (runs_in front)
  front_below front back chunk high laid =
      rises-below rank (runs_in front) (fence front chunk.low) chunk.low (laid-rises rank front chunk.low (laid-front rank front (chunk ∷ back) high laid))

  pub back_above : (front back : List Chunk) (chunk : Chunk) (high : ℕ) → IsLaid rank (front ++ chunk ∷ back) high
      → All (λ (r : Run). fence back high ≤ rank r) (runs_in back)
  back_above front back chunk high laid =
      rises-above rank (runs_in back) (fence back high) high (laid-rises rank back high (laid-behind rank front (chunk ∷ back) high laid).1)

  -- a run lies in the chunk of its rank
  pub kept_in : (front back : List Chunk) (chunk : Chunk) (run : Run) (high : ℕ)
      → IsLaid rank (front ++ chunk ∷ back) high → chunk.low ≤ rank run → rank run < fence back high
      → Contains (runs_in (front ++ chunk ∷ back)) run → Contains chunk.runs.items run
  kept_in front back chunk run high laid from to kept =
      elim (Contains-append_cases (runs_in front) (chunk.runs.items ++ runs_in back) run
      (subst (λ (l : List Run). Contains l run) (runs_around front back chunk) kept)) [
        | inl before ↦ absurd
            (omega (
              arith,
              All-contains (λ (r : Run). rank r < chunk.low) (runs_in front) run
                  (front_below front back chunk high laid) before,
            ))
        | inr rest ↦ elim (Contains-append_cases chunk.runs.items (runs_in back) run rest) [
          | inl here ↦ here
          | inr behind ↦ absurd
              (omega (
                arith,
                All-contains (λ (r : Run). fence back high ≤ rank r) (runs_in back) run
                    (back_above front back chunk high laid) behind,
              ))
        ]
      ]

  other-above : (before after : List Run) (run : Run) → All (λ (r : Run). rank r ≢ rank run) (before ++ after) → All (λ (r : Run). rank run ≤ rank r) after
      → All (λ (r : Run). rank run < rank r) after
  other-above [] after run others above = λ k d lt. omega (arith, others k d lt, above k d lt)
  other-above (x ∷ before) after run others above = other-above before after run (All-tail (λ (r : Run). rank r ≢ rank run) x (before ++ after) others) above

  -- a run of a new rank goes between the others
  pub put_rises : (old new : List Run) (run : Run) (low high : ℕ) → Rises rank low old high → Puts rank old new run → All (λ (r : Run). rank r ≢ rank run) old
      → low ≤ rank run → rank run < high → Rises rank low new high
  put_rises old new run low high rises puts fresh from to =
      let others = subst (λ (l : List Run). All (λ (r : Run). rank r ≢ rank run) l) puts.was fresh in
      subst (λ (l : List Run). Rises rank low l high) (sym puts.is)
      (rises-between rank puts.before puts.after run low high (subst (λ (l : List Run). Rises rank low l high) puts.was rises) puts.below
      (other-above puts.before puts.after run others puts.above) from to)

  pub pull_rises : (old new : List Run) (run : Run) (low high : ℕ) → Rises rank low old high → Adds new old run → Rises rank low new high
  pull_rises old new run low high rises adds =
      subst (λ (l : List Run). Rises rank low l high) (sym adds.was)
      (rises-without rank adds.before adds.after run low high (subst (λ (l : List Run). Rises rank low l high) adds.is rises))

-- the chunk of a run, read and written
module _ (rank : Run → ℕ) (xs : List Chunk) (run : Run) (place : ℕ) (is : IsChunkOf xs (rank run) place) (c : Chunk) (read : c ≡ get_or xs place c)
    (laid : IsLaid rank xs (2 ^ 64)) (even : IsEven xs) where
  same : is.chunk ≡ c
  same = sym (read ∙ rw (is.parts, ← is.at) (get-around is.front is.back is.chunk c))

  whole : xs ≡ is.front ++ c ∷ is.back
  whole = is.parts ∙ ap (λ (x : Chunk). is.front ++ x ∷ is.back) same

  laid_whole : IsLaid rank (is.front ++ c ∷ is.back) (2 ^ 64)
  laid_whole = subst (λ (l : List Chunk). IsLaid rank l (2 ^ 64)) whole laid

  even_whole : IsEven (is.front ++ c ∷ is.back)
  even_whole = subst (λ (l : List Chunk). IsEven l) whole even

  from : c.low ≤ rank run
  from = subst (λ (x : Chunk). x.low ≤ rank run) same is.from

  pub found_rises : Rises rank c.low c.runs.items (fence is.back (2 ^ 64))
  found_rises = chunk_rises rank is.front is.back c (2 ^ 64) laid_whole

  pub found_rises_all : Rises rank 0 c.runs.items (2 ^ 64)
  found_rises_all = rises-lower rank c.runs.items 0 c.low (2 ^ 64) (omega arith)
      (rises-higher rank c.runs.items c.low (fence is.back (2 ^ 64)) (2 ^ 64)
      (laid-bounds rank is.back (2 ^ 64) (laid-behind rank is.front (c ∷ is.back) (2 ^ 64) laid_whole).1) found_rises)

  pub found_light : IsLight c
  found_light = (even-behind is.front (c ∷ is.back) even_whole).0

  pub found_kept : Contains (runs_in xs) run → Contains c.runs.items run
  found_kept kept = kept_in rank is.front is.back c run (2 ^ 64) laid_whole from is.to (subst (λ (l : List Chunk). Contains (runs_in l) run) whole kept)

  fresh_here : All (λ (r : Run). rank r ≢ rank run) (runs_in xs) → All (λ (r : Run). rank r ≢ rank run) c.runs.items
  fresh_here fresh =
      All-front (λ (r : Run). rank r ≢ rank run) c.runs.items (runs_in is.back)
      (All-behind (λ (r : Run). rank r ≢ rank run) (runs_in is.front) (c.runs.items ++ runs_in is.back)
      (subst (λ (l : List Run). All (λ (r : Run). rank r ≢ rank run) l) (ap runs_in whole ∙ runs_around is.front is.back c) fresh))

  module _ (new : Chunk) (low : new.low ≡ c.low) where
    written : set xs place new ≡ is.front ++ new ∷ is.back
    written = rw (is.parts, ← is.at) (set-around is.front is.back is.chunk new)

    pub set_starts : fence (set xs place new) 1 ≡ fence xs 1
    set_starts = ap (λ (l : List Chunk). fence l 1) written ∙ fence-append is.front (new ∷ is.back) 1 ∙ ap (λ (n : ℕ). fence is.front n) low
        ∙ sym (ap (λ (l : List Chunk). fence l 1) whole ∙ fence-append is.front (c ∷ is.back) 1)

    pub set_amid : length new.runs.items < 640 → 640 ≤ vec_capacity new.runs → IsAmid (set xs place new) place
    set_amid light room = record {
      front = is.front;
      chunk = new;
      back = is.back;
      parts = written;
      at = is.at;
      before = even-front is.front (c ∷ is.back) even_whole (omega arith);
      light = light;
      room = room;
      after = (even-behind is.front (c ∷ is.back) even_whole).1.1;
    }

    set_laid : Rises rank c.low new.runs.items (fence is.back (2 ^ 64)) → IsLaid rank (set xs place new) (2 ^ 64)
    set_laid rises = subst (λ (l : List Chunk). IsLaid rank l (2 ^ 64)) (sym written) (laid_around rank is.front is.back c new (2 ^ 64) laid_whole low rises)

    pub put_laid : Puts rank c.runs.items new.runs.items run → All (λ (r : Run). rank r ≢ rank run) (runs_in xs) → IsLaid rank (set xs place new) (2 ^ 64)
    put_laid puts fresh =
        set_laid (put_rises rank c.runs.items new.runs.items run c.low (fence is.back (2 ^ 64)) found_rises puts
        (fresh_here fresh) from is.to)

    pub pull_laid : Adds new.runs.items c.runs.items run → IsLaid rank (set xs place new) (2 ^ 64)
    pull_laid adds = set_laid (pull_rises rank c.runs.items new.runs.items run c.low (fence is.back (2 ^ 64)) found_rises adds)

    pub put_adds : Puts rank c.runs.items new.runs.items run → Adds (runs_in xs) (runs_in (set xs place new)) run
    put_adds puts =
        subst (λ (l : List Chunk). Adds (runs_in l) (runs_in (set xs place new)) run) (sym whole)
        (subst (λ (l : List Chunk). Adds (runs_in (is.front ++ c ∷ is.back)) (runs_in l) run) (sym written)
        (adds_around is.front is.back c new run (record { before = puts.before; after = puts.after; was = puts.was; is = puts.is })))

    pub pull_adds : Adds new.runs.items c.runs.items run → Adds (runs_in (set xs place new)) (runs_in xs) run
    pull_adds adds =
        subst (λ (l : List Chunk). Adds (runs_in (set xs place new)) (runs_in l) run) (sym whole)
        (subst (λ (l : List Chunk). Adds (runs_in l) (runs_in (is.front ++ c ∷ is.back)) run) (sym written) (adds_around is.front is.back new c run adds))
