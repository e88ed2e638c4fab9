-- Chunks that are halved, and chunks that are joined.
use Rattle.std.proofs.Common.{◌≡◌, ℕ, suc, ◌+◌, ◌-◌, ◌<◌, ◌≤◌, ◌^◌, List, ◌∷◌, ◌++◌, length, set, take, drop, get_or}
use Rattle.std.proofs.Common.{vec_capacity, sym, ap, subst, ◌∙◌, arith, append_assoc, length-append, add-one}
use Rattle.std.specs.List.{insert, remove}
use Rattle.std.proofs.lemmas.List.{take_all, take-append-drop, length-take-le, length-drop}
use Rattle.run_alloc.specs.declared.order.Run.{Run}
use Rattle.run_alloc.specs.declared.chunk.Chunk.{Chunk}
use Rattle.run_alloc.specs.Shelves.{Rises, runs_in, fence, IsLaid, IsLight, IsEven, IsAmid, IsRich, IsHalved}
use Rattle.run_alloc.proofs.Around.{get-around, get-behind, set-around, insert-behind, set_at, remove_next, begins}
use Rattle.run_alloc.proofs.Ranks.{rises-append, rises-front, rises-rest}
use Rattle.run_alloc.proofs.Laid.{fence-append, laid-append, laid-front, laid-behind, even-append}
use Rattle.run_alloc.proofs.Moves.{runs_around, chunk_rises}

pub halved : (rank : Run → ℕ) (old new upper : Chunk) (run : Run) → 512 ≤ length old.runs.items
    → new.runs.items ≡ take 256 old.runs.items → upper.runs.items ≡ take (length old.runs.items - 256) (drop 256 old.runs.items)
    → new.low ≡ old.low → upper.low ≡ rank run → run ≡ get_or upper.runs.items 0 run
    → 640 ≤ vec_capacity new.runs → 640 ≤ vec_capacity upper.runs → IsHalved rank old new upper
halved rank old new upper run full lower_is upper_is low upper_low read room upper_room =
    let all : upper.runs.items ≡ drop 256 old.runs.items = upper_is ∙ take_all (length old.runs.items - 256)
    (drop 256 old.runs.items) (omega (arith, length-drop 256 old.runs.items)) in
    let long : length upper.runs.items ≡ length old.runs.items - 256 = ap length all ∙ length-drop 256 old.runs.items in
    let head = begins upper.runs.items run (omega arith) read in
    record {
      parts = sym (ap (λ (l : List Run). l ++ upper.runs.items) lower_is
          ∙ ap (λ (l : List Run). take 256 old.runs.items ++ l) all ∙ take-append-drop 256 old.runs.items);
      low = low;
      first = run;
      rest = head.0;
      begins = head.1;
      upper_low = upper_low;
      lower_len = ap length lower_is ∙ length-take-le 256 old.runs.items (omega arith);
      upper_len = omega arith;
      room = room;
      upper_room = upper_room;
    }

module _ (xs : List Chunk) (place : ℕ) (is : IsAmid xs place) (c : Chunk) (read : c ≡ get_or xs place c) where
  pub amid_same : is.chunk ≡ c
  amid_same = sym (read ∙ rw (is.parts, ← is.at) (get-around is.front is.back is.chunk c))

  pub amid_whole : xs ≡ is.front ++ c ∷ is.back
  amid_whole = is.parts ∙ ap (λ (x : Chunk). is.front ++ x ∷ is.back) amid_same

-- the chunk at the place is halved
module _ (rank : Run → ℕ) (xs : List Chunk) (place : ℕ) (is : IsRich xs place) (c : Chunk) (read : c ≡ get_or xs place c) (laid : IsLaid rank xs (2 ^ 64)) where
  whole : xs ≡ is.amid.front ++ c ∷ is.amid.back
  whole = amid_whole xs place is.amid c read

  same : is.amid.chunk ≡ c
  same = amid_same xs place is.amid c read

  laid_whole : IsLaid rank (is.amid.front ++ c ∷ is.amid.back) (2 ^ 64)
  laid_whole = subst (λ (l : List Chunk). IsLaid rank l (2 ^ 64)) whole laid

  rich_here : 0 < length is.amid.back → 128 ≤ length c.runs.items
  rich_here some = subst (λ (x : Chunk). 128 ≤ length x.runs.items) same (is.rich some)

  pub rich_light : length c.runs.items < 640
  rich_light = subst (λ (x : Chunk). length x.runs.items < 640) same is.amid.light

  pub rich_room : 640 ≤ vec_capacity c.runs
  rich_room = subst (λ (x : Chunk). 640 ≤ vec_capacity x.runs) same is.amid.room

  -- it isn't full
  pub even_still : length c.runs.items < 512 → IsEven xs
  even_still light = subst (λ (l : List Chunk). IsEven l) (sym whole)
      (even-append is.amid.front (c ∷ is.amid.back) is.amid.before (record { light = light; room = rich_room }, (rich_here, is.amid.after)))

  module _ (lower upper : Chunk) (half : IsHalved rank c lower upper) where
    cut : insert (set xs place lower) (place + 1) upper ≡ is.amid.front ++ lower ∷ upper ∷ is.amid.back
    cut = rw (add-one, is.amid.parts, ← is.amid.at)
        (ap (λ (l : List Chunk). insert l (suc (length is.amid.front)) upper)
        (set-around is.amid.front is.amid.back is.amid.chunk lower)
        ∙ insert-behind is.amid.front is.amid.back lower upper)

    pub halved_runs : runs_in (insert (set xs place lower) (place + 1) upper) ≡ runs_in xs
    halved_runs = ap runs_in cut
        ∙ runs_around is.amid.front (upper ∷ is.amid.back) lower
        ∙ ap (λ (l : List Run). runs_in is.amid.front ++ l) (sym (append_assoc lower.runs.items upper.runs.items (runs_in is.amid.back)))
        ∙ ap (λ (l : List Run). runs_in is.amid.front ++ (l ++ runs_in is.amid.back)) (sym half.parts)
        ∙ sym (ap runs_in whole ∙ runs_around is.amid.front is.amid.back c)

    rises_both : Rises rank c.low (lower.runs.items ++ half.first ∷ half.rest) (fence is.amid.back (2 ^ 64))
    rises_both = subst (λ (l : List Run). Rises rank c.low l (fence is.amid.back (2 ^ 64)))
        (half.parts ∙ ap (λ (l : List Run). lower.runs.items ++ l) half.begins)
        (chunk_rises rank is.amid.front is.amid.back c (2 ^ 64) laid_whole)

    lower_rises : Rises rank lower.low lower.runs.items upper.low
    lower_rises = rw (half.low, half.upper_low) (rises-front rank lower.runs.items half.rest half.first c.low (fence is.amid.back (2 ^ 64)) rises_both)

    upper_rises : Rises rank upper.low upper.runs.items (fence is.amid.back (2 ^ 64))
    upper_rises = rw (half.begins, half.upper_low) (rises-rest rank lower.runs.items half.rest half.first c.low (fence is.amid.back (2 ^ 64)) rises_both)

    pub halved_laid : IsLaid rank (insert (set xs place lower) (place + 1) upper) (2 ^ 64)
    halved_laid = subst (λ (l : List Chunk). IsLaid rank l (2 ^ 64)) (sym cut)
        (laid-append rank is.amid.front (lower ∷ upper ∷ is.amid.back) (2 ^ 64)
        (subst (λ (n : ℕ). IsLaid rank is.amid.front n) (sym half.low) (laid-front rank is.amid.front (c ∷ is.amid.back) (2 ^ 64) laid_whole))
        (lower_rises, (upper_rises, (laid-behind rank is.amid.front (c ∷ is.amid.back) (2 ^ 64) laid_whole).1)))

    pub halved_starts : fence (insert (set xs place lower) (place + 1) upper) 1 ≡ fence xs 1
    halved_starts = ap (λ (l : List Chunk). fence l 1) cut ∙ fence-append is.amid.front (lower ∷ upper ∷ is.amid.back) 1
        ∙ ap (λ (n : ℕ). fence is.amid.front n) half.low
        ∙ sym (ap (λ (l : List Chunk). fence l 1) whole ∙ fence-append is.amid.front (c ∷ is.amid.back) 1)

    upper_light : length upper.runs.items < 512
    upper_light = omega (arith, rich_light, half.lower_len, ap length half.parts, length-append lower.runs.items upper.runs.items)

    pub halved_even : IsEven (insert (set xs place lower) (place + 1) upper)
    halved_even = subst (λ (l : List Chunk). IsEven l) (sym cut)
        (even-append is.amid.front (lower ∷ upper ∷ is.amid.back) is.amid.before (
          record { light = omega (arith, half.lower_len); room = half.room },
          (
            (λ _. omega (arith, half.lower_len)),
            (
              record { light = upper_light; room = half.upper_room },
              ((λ _. omega (arith, half.upper_len)), is.amid.after),
            ),
          ),
        ))

-- the chunk at the place takes in the next
module _ (rank : Run → ℕ) (xs : List Chunk) (place : ℕ) (is : IsAmid xs place) (c next : Chunk) (read : c ≡ get_or xs place c)
    (read_next : next ≡ get_or xs (place + 1) next) (more : place + 1 < length xs) (laid : IsLaid rank xs (2 ^ 64)) where
  whole_first : xs ≡ is.front ++ c ∷ is.back
  whole_first = amid_whole xs place is c read

  behind : (rest : List Chunk) × (is.back ≡ next ∷ rest)
  behind = begins is.back next (omega (arith, ap length is.parts, length-append is.front (is.chunk ∷ is.back), is.at))
      (read_next ∙ rw (add-one, is.parts, ← is.at) (get-behind is.front is.back is.chunk next))

  whole_both : xs ≡ is.front ++ c ∷ next ∷ behind.0
  whole_both = whole_first ∙ ap (λ (l : List Chunk). is.front ++ c ∷ l) behind.1

  laid_both : IsLaid rank (is.front ++ c ∷ next ∷ behind.0) (2 ^ 64)
  laid_both = subst (λ (l : List Chunk). IsLaid rank l (2 ^ 64)) whole_both laid

  next_even : IsEven (next ∷ behind.0)
  next_even = subst (λ (l : List Chunk). IsEven l) behind.1 is.after

  pub next_light : IsLight next
  next_light = next_even.0

  removed_is : remove xs (place + 1) ≡ is.front ++ c ∷ behind.0
  removed_is = remove_next xs is.front behind.0 c next place whole_both is.at

  module _ (new : Chunk) (low : new.low ≡ c.low) (runs : new.runs.items ≡ c.runs.items ++ next.runs.items) where
    joined : set (remove xs (place + 1)) place new ≡ is.front ++ new ∷ behind.0
    joined = set_at (remove xs (place + 1)) is.front behind.0 c new place removed_is is.at

    pub joined_runs : runs_in (set (remove xs (place + 1)) place new) ≡ runs_in xs
    joined_runs = ap runs_in joined
        ∙ runs_around is.front behind.0 new
        ∙ ap (λ (l : List Run). runs_in is.front ++ (l ++ runs_in behind.0)) runs
        ∙ ap (λ (l : List Run). runs_in is.front ++ l) (append_assoc c.runs.items next.runs.items (runs_in behind.0))
        ∙ sym (ap runs_in whole_both ∙ runs_around is.front (next ∷ behind.0) c)

    pub joined_laid : IsLaid rank (set (remove xs (place + 1)) place new) (2 ^ 64)
    joined_laid =
        let parts = laid-behind rank is.front (c ∷ next ∷ behind.0) (2 ^ 64) laid_both in
        subst (λ (l : List Chunk). IsLaid rank l (2 ^ 64)) (sym joined)
        (laid-append rank is.front (new ∷ behind.0) (2 ^ 64)
        (subst (λ (n : ℕ). IsLaid rank is.front n) (sym low) (laid-front rank is.front (c ∷ next ∷ behind.0) (2 ^ 64) laid_both))
        (rw (runs, low) (rises-append rank c.runs.items next.runs.items c.low next.low (fence behind.0 (2 ^ 64)) parts.0 parts.1.0), parts.1.1))

    pub joined_starts : fence (set (remove xs (place + 1)) place new) 1 ≡ fence xs 1
    joined_starts = ap (λ (l : List Chunk). fence l 1) joined ∙ fence-append is.front (new ∷ behind.0) 1 ∙ ap (λ (n : ℕ). fence is.front n) low
        ∙ sym (ap (λ (l : List Chunk). fence l 1) whole_both ∙ fence-append is.front (c ∷ next ∷ behind.0) 1)

    pub joined_rich : length new.runs.items < 640 → 640 ≤ vec_capacity new.runs → IsRich (set (remove xs (place + 1)) place new) place
    joined_rich light room = record {
      amid = record {
        front = is.front;
        chunk = new;
        back = behind.0;
        parts = joined;
        at = is.at;
        before = is.before;
        light = light;
        room = room;
        after = next_even.1.1;
      };
      rich = λ some. omega (arith, next_even.1.0 some, ap length runs, length-append c.runs.items next.runs.items);
    }

-- it is the last, or has not few
pub rich_still : (xs : List Chunk) (place : ℕ) (is : IsAmid xs place) → length xs ≤ place + 1 → IsRich xs place
rich_still xs place is last =
    record { amid = is; rich = λ some. absurd (omega (arith, ap length is.parts, length-append is.front (is.chunk ∷ is.back), is.at)) }

pub rich_enough : (xs : List Chunk) (place : ℕ) (is : IsAmid xs place) (c : Chunk) → c ≡ get_or xs place c → 128 ≤ length c.runs.items → IsRich xs place
rich_enough xs place is c read many =
    record {
      amid = is;
      rich = λ _. subst (λ (x : Chunk). 128 ≤ length x.runs.items)
          (sym (amid_same xs place is c read)) many;
    }
