-- Chunks that are laid out in order, and even.
use Rattle.std.proofs.Common.{◌≡◌, ℕ, zero, suc, ◌+◌, ◌-◌, ◌*◌, ◌<◌, ◌≤◌, ◌^◌, true, false, List, [], ◌∷◌, ◌++◌, length}
use Rattle.std.proofs.Common.{take, drop, get_or, refl, sym, ap, subst, ◌∙◌, inl, inr, arith, append_assoc}
use Rattle.std.proofs.Common.{length-append}
use Rattle.std.specs.List.{All}
use Rattle.std.specs.List.Sorted.{IsNonDecreasingBy, IsPartitionPoint}
use Rattle.std.proofs.Math.Dec.{leb}
use Rattle.std.proofs.lemmas.Bool.{cases_lt, leb-true, leb-false}
use Rattle.std.proofs.lemmas.List.{length-take-le}
use Rattle.std.proofs.lemmas.List.Elements.{All-nil, All-cons, All-head, All-tail}
use Rattle.run_alloc.specs.declared.order.Run.{Run}
use Rattle.run_alloc.specs.declared.chunk.Chunk.{Chunk}
use Rattle.run_alloc.specs.Shelves.{Rises, runs_in, fence, IsLaid, IsLight, IsEven, IsChunkOf}
use Rattle.run_alloc.proofs.Around.{around}
use Rattle.run_alloc.proofs.Ranks.{rises-bounds, rises-append}

pub runs_in-append : (xs ys : List Chunk) → runs_in (xs ++ ys) ≡ runs_in xs ++ runs_in ys
runs_in-append [] ys = refl
runs_in-append (x ∷ xs) ys = ap (λ (l : List Run). x.runs.items ++ l) (runs_in-append xs ys) ∙ sym (append_assoc x.runs.items (runs_in xs) (runs_in ys))

pub fence-append : (xs ys : List Chunk) (high : ℕ) → fence (xs ++ ys) high ≡ fence xs (fence ys high)
fence-append [] ys high = refl
fence-append (x ∷ xs) ys high = refl

-- a chunk that isn't the last has not few
abbrev pub IsBig : Chunk → Type 0
IsBig chunk = IsLight chunk × (128 ≤ length chunk.runs.items)

module _ (rank : Run → ℕ) where
  pub laid-append : (xs ys : List Chunk) (high : ℕ) → IsLaid rank xs (fence ys high) → IsLaid rank ys high → IsLaid rank (xs ++ ys) high
  laid-append [] ys high first second = second
  laid-append (x ∷ xs) ys high first second =
      (subst (λ (n : ℕ). Rises rank x.low x.runs.items n) (sym (fence-append xs ys high)) first.0, laid-append xs ys high first.1 second)

  pub laid-front : (xs ys : List Chunk) (high : ℕ) → IsLaid rank (xs ++ ys) high → IsLaid rank xs (fence ys high)
  laid-front [] ys high laid = tt
  laid-front (x ∷ xs) ys high laid =
      (subst (λ (n : ℕ). Rises rank x.low x.runs.items n) (fence-append xs ys high) laid.0, laid-front xs ys high laid.1)

  pub laid-behind : (xs ys : List Chunk) (high : ℕ) → IsLaid rank (xs ++ ys) high → IsLaid rank ys high
  laid-behind [] ys high laid = laid
  laid-behind (x ∷ xs) ys high laid = laid-behind xs ys high laid.1

  -- all runs rise
  pub laid-rises : (xs : List Chunk) (high : ℕ) → IsLaid rank xs high → Rises rank (fence xs high) (runs_in xs) high
  laid-rises [] high laid = omega arith
  laid-rises (x ∷ xs) high laid = rises-append rank x.runs.items (runs_in xs) x.low (fence xs high) high laid.0 (laid-rises xs high laid.1)

  pub laid-bounds : (xs : List Chunk) (high : ℕ) → IsLaid rank xs high → fence xs high ≤ high
  laid-bounds xs high laid = rises-bounds rank (runs_in xs) (fence xs high) high (laid-rises xs high laid)

  low-above : (xs : List Chunk) (high j : ℕ) (d : Chunk) → IsLaid rank xs high → j < length xs → fence xs high ≤ (get_or xs j d).low
  low-above [] high j d laid lt = absurd (omega arith)
  low-above (x ∷ xs) high zero d laid lt = omega arith
  low-above (x ∷ xs) high (suc j) d laid lt = omega (
    arith,
    rises-bounds rank x.runs.items x.low (fence xs high) laid.0,
    low-above xs high j d laid.1 (omega arith),
  )

  pub laid-steady : (xs : List Chunk) (high : ℕ) → IsLaid rank xs high → IsNonDecreasingBy (λ (c : Chunk). c.low) xs
  laid-steady [] high laid i j d le lt = absurd (omega arith)
  laid-steady (x ∷ xs) high laid i zero d le lt = let same : i ≡ 0 = omega arith in rw same (omega arith)
  laid-steady (x ∷ xs) high laid zero (suc j) d le lt = omega (arith, low-above (x ∷ xs) high (suc j) d laid lt)
  laid-steady (x ∷ xs) high laid (suc i) (suc j) d le lt = laid-steady xs high laid.1 i j d (omega arith) (omega arith)

pub even-front : (xs ys : List Chunk) → IsEven (xs ++ ys) → 0 < length ys → All IsBig xs
even-front [] ys even some = All-nil IsBig
even-front (x ∷ xs) ys even some =
    All-cons IsBig x xs (even.0, even.1.0 (omega (arith, length-append xs ys))) (even-front xs ys even.1.1 some)

pub even-behind : (xs ys : List Chunk) → IsEven (xs ++ ys) → IsEven ys
even-behind [] ys even = even
even-behind (x ∷ xs) ys even = even-behind xs ys even.1.1

pub even-append : (xs ys : List Chunk) → All IsBig xs → IsEven ys → IsEven (xs ++ ys)
even-append [] ys big even = even
even-append (x ∷ xs) ys big even =
    let head = All-head IsBig x xs big in
    (head.0, ((λ _. head.1), even-append xs ys (All-tail IsBig x xs big) even))

-- even chunks are no more than their runs call for
pub even-few : (xs : List Chunk) → IsEven xs → length xs * 128 ≤ length (runs_in xs) + 128
even-few [] even = omega arith
even-few (x ∷ []) even = omega arith
even-few (x ∷ y ∷ xs) even =
    omega (arith, even.1.0 (omega arith), even-few (y ∷ xs) even.1.1, length-append x.runs.items (runs_in (y ∷ xs)))

pub fence-drop : (xs : List Chunk) (i high : ℕ) (d : Chunk) → i < length xs → fence (drop i xs) high ≡ (get_or xs i d).low
fence-drop [] i high d lt = absurd (omega arith)
fence-drop (x ∷ xs) zero high d lt = refl
fence-drop (x ∷ xs) (suc i) high d lt = fence-drop xs i high d (omega arith)

pub fence-past : (xs : List Chunk) (i high : ℕ) → length xs ≤ i → fence (drop i xs) high ≡ high
fence-past [] zero high le = refl
fence-past [] (suc i) high le = refl
fence-past (x ∷ xs) zero high le = absurd (omega arith)
fence-past (x ∷ xs) (suc i) high le = fence-past xs i high (omega arith)

-- the chunks below the place begin at or below the rank, and the others above it
abbrev pub PartsAt : List Chunk → ℕ → ℕ → Type 0
PartsAt xs rank place = IsPartitionPoint (λ (c : Chunk). leb c.low rank ≡ true) (λ (c : Chunk). leb c.low rank ≡ false) xs place

-- from what a search by halves answers
pub is_some : (xs : List Chunk) (rank place : ℕ) → fence xs 1 ≡ 0 → PartsAt xs rank place → 1 ≤ place
is_some [] rank place starts parted = absurd (omega arith)
is_some (x ∷ xs) rank zero starts parted = absurd (omega (arith, leb-false _ _ (parted.1 0 x (omega arith) (omega arith)), starts))
is_some (x ∷ xs) rank (suc place) starts parted = omega arith

found : (xs : List Chunk) (rank place : ℕ) (d : Chunk) → rank < 2 ^ 64 → place < length xs → PartsAt xs rank (suc place) → IsChunkOf xs rank place
found xs rank place d fits lt parted = record {
  front = take place xs;
  chunk = get_or xs place d;
  back = drop (suc place) xs;
  parts = around xs place d lt;
  at = length-take-le place xs (omega arith);
  from = leb-true _ _ (parted.0 place d (omega arith) (omega arith));
  to = elim (cases_lt (suc place) (length xs)) [
    | inl more ↦ rw (fence-drop xs (suc place) (2 ^ 64) d more) (leb-false _ _ (parted.1 (suc place) d (omega arith) more))
    | inr last ↦ rw (fence-past xs (suc place) (2 ^ 64) last) fits
  ];
}

pub is_chunk_of : (xs : List Chunk) (rank place : ℕ) → rank < 2 ^ 64 → fence xs 1 ≡ 0 → place ≤ length xs
    → PartsAt xs rank place → IsChunkOf xs rank (place - 1)
is_chunk_of [] rank place fits starts in_range parted = absurd (omega arith)
is_chunk_of (x ∷ xs) rank zero fits starts in_range parted = absurd (omega (arith, is_some (x ∷ xs) rank zero starts parted))
is_chunk_of (x ∷ xs) rank (suc place) fits starts in_range parted =
    let same : place ≡ suc place - 1 = omega arith in
    subst (IsChunkOf (x ∷ xs) rank) same (found (x ∷ xs) rank place x fits (omega arith) parted)

-- all runs on a shelf rise
pub shelf_rises : (rank : Run → ℕ) (xs : List Chunk) → IsLaid rank xs (2 ^ 64) → fence xs 1 ≡ 0 → Rises rank 0 (runs_in xs) (2 ^ 64)
shelf_rises rank [] laid starts = absurd (omega arith)
shelf_rises rank (x ∷ xs) laid starts = subst (λ (n : ℕ). Rises rank n (runs_in (x ∷ xs)) (2 ^ 64)) starts (laid-rises rank (x ∷ xs) (2 ^ 64) laid)
