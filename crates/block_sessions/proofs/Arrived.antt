-- Pieces that came, by number, and as columns.
use Rattle.std.proofs.Common.{◌≡◌, ◌≢◌, ℕ, zero, suc, ◌+◌, ◌<◌, Bool, true, false, List, [], ◌∷◌, length, map, set}
use Rattle.std.proofs.Common.{get_or, replicate, Option, Some, None, is_some, All, Contains, refl, sym, ap, ap₂, ◌∙◌}
use Rattle.std.proofs.Common.{subst, inl, inr, arith}
use Rattle.std.specs.Prelude.{if◌then◌else◌, ◌&&◌}
use Rattle.std.specs.List.{list_all, range_with_len}
use Rattle.std.specs.List.Sorted.{IsStrictlyIncreasing}
use Rattle.std.proofs.lemmas.Bool.{cases_eq, cases_lt, true≢false}
use Rattle.std.proofs.lemmas.List.{length-set, length-replicate, get_or-replicate, get_or-set_same, get_or-set_other, get_or_past}
use Rattle.std.proofs.lemmas.List.Elements.{All-set, All-map}
use Rattle.group_types.specs.Lists.{at, put}
use Rattle.group_types.specs.Pieces.{bytes_of, numbers_of, overwritten, piece_of, place_of, with_bytes, zero_pieces}
use Rattle.group_types.specs.declared.piece_list.Piece.{Piece}
use Rattle.group_types.proofs.Lists.{at-map-range}
use Rattle.group_types.proofs.Places.{bytes_kept, bytes_written, numbers_kept, overwritten_whole, place_within}
use Rattle.block_sessions.specs.Awaited.{AreAwaited, awaited_in, part_of, parts_of}
use Rattle.block_sessions.proofs.Blocks.{put_range}

pub all_none : {X : Type 0} (f : ℕ → Option X) (a n : ℕ) → ((b : ℕ) → f b ≡ None) → map f (range_with_len a n) ≡ replicate n None
all_none f a zero none = refl
all_none f a (suc n) none = ap₂ (λ x xs. x ∷ xs) (none a) (all_none f (a + 1) n none)

nobody : (n i : ℕ) → get_or {A = Bool} (replicate n false) i false ≡ false
nobody n i = elim (cases_lt i n) [
  | inl below ↦ get_or-replicate n i false false below
  | inr past ↦ get_or_past (replicate n false) i false (omega (arith, length-replicate {A = Bool} n false))
]

-- nothing came
pub none_came : (pieces : List Piece) (count : ℕ) → parts_of pieces (replicate count false) ≡ replicate count None
none_came pieces count =
    all_none (part_of pieces (replicate count false)) 0 (length (replicate count false))
    (λ b. ap (λ t. if t then Some (bytes_of pieces b) else None) (nobody count b))
    ∙ ap (λ n. replicate n None) (length-replicate count false)

pub zero_numbers : (block : ℕ) (numbers : List ℕ) → numbers_of (zero_pieces block numbers) ≡ numbers
zero_numbers block [] = refl
zero_numbers block (n ∷ ns) = ap (λ l. n ∷ l) (zero_numbers block ns)

pub zero_long : (block : ℕ) (numbers : List ℕ) → All (λ p. length p.bytes ≡ block) (zero_pieces block numbers)
zero_long block numbers = All-map (λ (p : Piece). length p.bytes ≡ block)
    (λ (n : ℕ). record { number = n; bytes = replicate block 0 }) numbers (λ k d less. length-replicate block 0)

pub awaited_at_first : (block count : ℕ) (numbers : List ℕ) → IsStrictlyIncreasing numbers
    → All (λ n. n < count) numbers → AreAwaited (zero_pieces block numbers) (replicate count false) block
awaited_at_first block count numbers rising below = record {
  rising = subst IsStrictlyIncreasing (sym (zero_numbers block numbers)) rising;
  below = subst (λ ns. All (λ n. n < length (replicate count false)) ns) (sym (zero_numbers block numbers))
      (subst (λ c. All (λ n. n < c) numbers) (sym (length-replicate count false)) below);
  long = zero_long block numbers;
  awaited = λ n came. absurd (true≢false (sym came ∙ nobody count n));
}

pub view_at_first : (block count : ℕ) (numbers : List ℕ)
    → awaited_in (zero_pieces block numbers) (replicate count false) block
    ≡ record { numbers = numbers; parts = replicate count None; block = block }
view_at_first block count numbers =
    ap₂ (λ (ns : List ℕ) (ps : List (Option (List ℕ))). record { numbers = ns; parts = ps; block = block })
    (zero_numbers block numbers) (none_came (zero_pieces block numbers) count)

module _ (pieces : List Piece) (came : List Bool) (block n : ℕ) (bytes : List ℕ) (is : AreAwaited pieces came block)
    (there : Contains (numbers_of pieces) n) (whole : length bytes ≡ block) where
  below_all : n < length came
  below_all = subst (λ i. i < length came) there.2 (is.below there.0 n there.1)

  pub long_there : length (bytes_of pieces n) ≡ block
  long_there = is.long (place_of pieces n) (record { number = n; bytes = [] }) (place_within pieces n there)

  -- a piece came
  pub one_came : parts_of (with_bytes pieces n bytes) (set came n true) ≡ put None (parts_of pieces came) n (Some bytes)
  one_came =
      ap (λ c. map (part_of (with_bytes pieces n bytes) (set came n true)) (range_with_len 0 c)) (length-set came n true)
      ∙ put_range None (part_of pieces came) (part_of (with_bytes pieces n bytes) (set came n true)) 0 (length came) n (Some bytes) below_all
      (let zero_n : 0 + n ≡ n = omega arith in
      rw (zero_n, get_or-set_same came n true false below_all) (ap Some (bytes_written pieces n bytes there (whole ∙ sym long_there))))
      (λ b apart.
      let differ : b ≢ n = λ same. apart (omega (arith, same)) in
      rw (get_or-set_other came n b true false differ) (ap (λ bs. if get_or came b false then Some bs else None) (bytes_kept pieces n bytes b there differ)))

  pub awaited_after : AreAwaited (with_bytes pieces n bytes) (set came n true) block
  awaited_after =
      let numbers = numbers_kept pieces n bytes there in
      record {
        rising = subst IsStrictlyIncreasing (sym numbers) is.rising;
        below = subst (λ ns. All (λ i. i < length (set came n true)) ns) (sym numbers)
            (subst (λ c. All (λ i. i < c) (numbers_of pieces)) (sym (length-set came n true)) is.below);
        long = All-set (λ (p : Piece). length p.bytes ≡ block) pieces (place_of pieces n)
            (record (piece_of pieces n) { bytes = overwritten (bytes_of pieces n) bytes })
            (ap length (overwritten_whole (bytes_of pieces n) bytes (whole ∙ sym long_there)) ∙ whole) is.long;
        awaited = λ q in_there. subst (λ ns. Contains ns q) (sym numbers) (elim (cases_eq q n) [
          | inl same ↦ subst (λ i. Contains (numbers_of pieces) i) (sym same) there
          | inr apart ↦ is.awaited q (sym (get_or-set_other came n q true false apart) ∙ in_there)
        ]);
      }

  pub view_after : awaited_in (with_bytes pieces n bytes) (set came n true) block
      ≡ record { numbers = numbers_of pieces; parts = put None (parts_of pieces came) n (Some bytes); block = block }
  view_after = ap₂ (λ (ns : List ℕ) (ps : List (Option (List ℕ))). record { numbers = ns; parts = ps; block = block })
      (numbers_kept pieces n bytes there) one_came

part_there : (pieces : List Piece) (came : List Bool) (n : ℕ) → is_some (part_of pieces came n) ≡ get_or came n false
part_there pieces came n = by (get_or came n false)
  where
    by : (t : Bool) → is_some (if t then Some (bytes_of pieces n) else None) ≡ t
    by true = refl
    by false = refl

-- whether a number's piece came
pub came_at : (pieces : List Piece) (came : List Bool) (n : ℕ) → n < length came → is_some (at None (parts_of pieces came) n) ≡ get_or came n false
came_at pieces came n below = ap is_some (at-map-range None (part_of pieces came) (length came) 0 n below
    ∙ ap (part_of pieces came) (omega arith)) ∙ part_there pieces came n

pub all_came : (pieces : List Piece) (came : List Bool) (ps : List Piece) → All (λ n. n < length came) (numbers_of ps)
    → list_all (λ p. get_or came p.number false) ps ≡ list_all (λ n. is_some (at None (parts_of pieces came) n)) (numbers_of ps)
all_came pieces came [] below = refl
all_came pieces came (p ∷ ps) below = ap₂ (λ x y. x && y) (sym (came_at pieces came p.number (below 0 0 (omega arith))))
    (all_came pieces came ps (λ k d less. below (suc k) d (omega arith)))
