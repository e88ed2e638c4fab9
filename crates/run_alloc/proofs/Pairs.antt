-- The runs in both orders.
use Rattle.std.proofs.Common.{◌≡◌, ◌≢◌, ℕ, ◌+◌, ◌*◌, ◌<◌, ◌≤◌, ◌^◌, ◌⊎◌, List, Option, None, Some, MatchOption, get_or}
use Rattle.std.proofs.Common.{[], ◌∷◌, ◌++◌, length, refl, sym, ap, subst, ◌∙◌, inl, inr, arith}
use Rattle.std.specs.List.{All, Contains}
use Rattle.std.proofs.lemmas.Bool.{cases_lt}
use Rattle.std.proofs.lemmas.List.Elements.{All-append, All-cons, All-weaker, All-contains, Contains-get_or, Contains-append_cases}
use Rattle.run_alloc.specs.declared.order.Run.{Run}
use Rattle.run_alloc.specs.declared.order.Order.{Order}
use Rattle.run_alloc.specs.declared.order.Order.TheVariants.{Length}
use Rattle.run_alloc.specs.Order.{order_key}
use Rattle.run_alloc.specs.Shelf.{Shelved}
use Rattle.run_alloc.specs.Shelves.{Rises, Adds, IsFirstFrom, IsLastBelow}
use Rattle.run_alloc.specs.Runs.{IsSpread, IsApart, IsShortest}
use Rattle.run_alloc.specs.Kept.{IsPaired}
use Rattle.run_alloc.proofs.Ranks.{only, rises-behind, rises-above}
use Rattle.run_alloc.proofs.Spread.{spread-before}
use Rattle.run_alloc.proofs.Apart.{spread_length, spread-ends, adds_has, length-adds, removed_spread, same_added, same_removed}

module _ (a l : Shelved) (spare : ℕ) (paired : IsPaired a l spare) where
  pub few_by_address : length a.runs ≤ 2 ^ 32
  few_by_address = omega (arith, spread_length a.runs 0 (2 ^ 32) paired.spread)

  pub few_by_length : length l.runs ≤ 2 ^ 32
  few_by_length = omega (arith, few_by_address, paired.same.long)

  low : (run : Run) → Contains a.runs run → run.at + run.len < 2 ^ 32
  low run is = All-contains (λ (r : Run). r.at + r.len < 2 ^ 32) a.runs run (spread-ends a.runs 0 (2 ^ 32) paired.spread) is

  pub none_long : (want : ℕ) → All (λ (r : Run). order_key l.order r < want * 2 ^ 32) l.runs → All (λ (r : Run). r.len < want) a.runs
  none_long want none k d lt =
      let all = subst (λ (o : Order). All (λ (r : Run). order_key o r < want * 2 ^ 32) l.runs) paired.by_length none in
      omega (arith, All-contains (λ (r : Run). order_key Length r < want * 2 ^ 32) l.runs _ all (paired.same.there _ (Contains-get_or a.runs k d lt)))

  pub first_is_shortest : (want : ℕ) (run : Run) → IsFirstFrom (order_key l.order) l.runs (want * 2 ^ 32) run
      → Rises (order_key l.order) 0 l.runs (2 ^ 64) → IsShortest a.runs want run
  first_is_shortest want run found rises =
      let first = subst (λ (o : Order). IsFirstFrom (order_key o) l.runs (want * 2 ^ 32) run) paired.by_length found in
      let in_order = subst (λ (o : Order). Rises (order_key o) 0 l.runs (2 ^ 64)) paired.by_length rises in
      let adds : Adds (first.before ++ first.after) l.runs run = record { before = first.before; after = first.after; was = refl; is = first.parts } in
      let kept = paired.same.back run (adds_has (first.before ++ first.after) l.runs run adds) in
      let behind = rises-above (order_key Length) first.after (order_key Length run + 1) (2 ^ 64)
      (rises-behind (order_key Length) first.before (run ∷ first.after) 0 (2 ^ 64)
      (subst (λ (x : List Run). Rises (order_key Length) 0 x (2 ^ 64)) first.parts in_order)).1 in
      record {
        kept = kept;
        fits = omega (arith, first.reached, low run kept);
        least = λ other is enough.
            elim (Contains-append_cases first.before (run ∷ first.after) other
            (subst (λ (x : List Run). Contains x other) first.parts (paired.same.there other is))) [
              | inl before ↦ absurd (omega (arith, All-contains (λ (r : Run). order_key Length r < want * 2 ^ 32) first.before other first.below before))
              | inr rest ↦ elim (Contains-append_cases (run ∷ []) first.after other rest) [
                | inl here ↦ let same = only run other here in inr (ap (λ (r : Run). r.len) same, omega (arith, ap (λ (r : Run). r.at) same))
                | inr after ↦ longer run other (low other is)
                    (All-contains (λ (r : Run). order_key Length run + 1 ≤ order_key Length r) first.after other behind
                    after)
              ]
            ];
      }
    where
      longer : (x y : Run) → y.at + y.len < 2 ^ 32 → order_key Length x + 1 ≤ order_key Length y → (x.len < y.len) ⊎ ((x.len ≡ y.len) × (x.at ≤ y.at))
      longer x y fits le = elim (cases_lt x.len y.len) [ inl lt ↦ inl lt | inr ge ↦ inr (omega arith, omega arith) ]

  pub shortest_of : (want : ℕ) (result : Option Run)
      → MatchOption result (All (λ (r : Run). order_key l.order r < want * 2 ^ 32) l.runs)
      (IsFirstFrom (order_key l.order) l.runs (want * 2 ^ 32))
      → Rises (order_key l.order) 0 l.runs (2 ^ 64) → MatchOption result (All (λ (r : Run). r.len < want) a.runs) (IsShortest a.runs want)
  shortest_of want None found rises = none_long want found
  shortest_of want (Some run) found rises = first_is_shortest want run found rises

  module _ (run : Run) (apart : All (IsApart run) a.runs) (inside : run.at + run.len < 2 ^ 32) where
    pub fresh_by_length : All (λ (r : Run). order_key l.order r ≢ order_key l.order run) l.runs
    fresh_by_length = subst (λ (o : Order). All (λ (r : Run). order_key o r ≢ order_key o run) l.runs) (sym paired.by_length) (λ k d lt same.
        let kept = paired.same.back _ (Contains-get_or l.runs k d lt) in
        clash (get_or l.runs k d) same (low (get_or l.runs k d) kept) (All-contains (IsApart run) a.runs _ apart kept))
      where
        clash : (r : Run) → order_key Length r ≡ order_key Length run → r.at + r.len < 2 ^ 32 → IsApart run r → ⊥
        clash r same fits apart_r = elim apart_r [ inl below ↦ omega arith | inr above ↦ omega arith ]

    pub paired_added : (a' l' : Shelved) (n : ℕ) → a'.order ≡ a.order → l'.order ≡ l.order → Adds a.runs a'.runs run
        → Adds l.runs l'.runs run → IsSpread 0 a'.runs (2 ^ 32)
        → a'.spare + 1 ≡ a.spare → l'.spare + 1 ≡ l.spare → n + 1 ≡ spare → IsPaired a' l' n
    paired_added a' l' n same_a same_l first second spread room_a room_l room = record {
      by_address = same_a ∙ paired.by_address;
      by_length = same_l ∙ paired.by_length;
      same = same_added a.runs a'.runs l.runs l'.runs run paired.same first second;
      spread = spread;
      room = omega (arith, paired.room);
      length_room = omega (arith, paired.length_room);
      most = omega (arith, paired.most);
      length_most = omega (arith, paired.length_most);
      few = omega (arith, paired.few, length-adds a.runs a'.runs run first);
    }

  pub paired_reserved : (a' l' : Shelved) (n : ℕ) → a'.order ≡ a.order → l'.order ≡ l.order → a'.runs ≡ a.runs → l'.runs ≡ l.runs
      → n ≤ a'.spare → n ≤ l'.spare → a'.spare ≤ n + 127 → l'.spare ≤ n + 127 → length a.runs + n + 127 < 2 ^ 64 → IsPaired a' l' n
  paired_reserved a' l' n same_a same_l runs_a runs_l room_a room_l most_a most_l few = record {
    by_address = same_a ∙ paired.by_address;
    by_length = same_l ∙ paired.by_length;
    same = rw (runs_a, runs_l) paired.same;
    spread = rw runs_a paired.spread;
    room = room_a;
    length_room = room_l;
    most = most_a;
    length_most = most_l;
    few = rw runs_a few;
  }

  pub paired_removed : (a' l' : Shelved) (run : Run) → a'.order ≡ a.order → l'.order ≡ l.order → Adds a'.runs a.runs run → Adds l'.runs l.runs run
      → Rises (order_key a.order) 0 a.runs (2 ^ 64) → Rises (order_key l.order) 0 l.runs (2 ^ 64)
      → a'.spare ≡ a.spare + 1 → l'.spare ≡ l.spare + 1 → IsPaired a' l' (spare + 1)
  paired_removed a' l' run same_a same_l first second rises rises_l room_a room_l = record {
    by_address = same_a ∙ paired.by_address;
    by_length = same_l ∙ paired.by_length;
    same = same_removed (order_key a.order) (order_key l.order) (2 ^ 64) a.runs a'.runs l.runs l'.runs run paired.same first second rises rises_l;
    spread = removed_spread a.runs a'.runs run first (2 ^ 32) paired.spread;
    room = omega (arith, paired.room);
    length_room = omega (arith, paired.length_room);
    most = omega (arith, paired.most);
    length_most = omega (arith, paired.length_most);
    few = omega (arith, paired.few, length-adds a'.runs a.runs run first);
  }

-- a run that begins or ends at an address is the last that begins at or below it
module _ (runs : List Run) (at high : ℕ) (last : Run) (is : IsLastBelow (λ (r : Run). r.at) runs (at + 1) last) (spread : IsSpread 0 runs high) where
  parts : IsSpread 0 (is.before ++ last ∷ is.after) high
  parts = subst (λ (l : List Run). IsSpread 0 l high) is.parts spread

  before_ends : All (λ (r : Run). r.at + r.len < last.at) is.before
  before_ends = spread-ends is.before 0 last.at (spread-before is.before is.after last 0 high parts)

  pub last_kept : Contains runs last
  last_kept = adds_has (is.before ++ is.after) runs last (record { before = is.before; after = is.after; was = refl; is = is.parts })

  pub last_inside : last.at + last.len < high
  last_inside = All-contains (λ (r : Run). r.at + r.len < high) runs last (spread-ends runs 0 high spread) last_kept

  all_others : (P : Run → Type 0) → All P is.before → P last → All P is.after → All P runs
  all_others P before here after = subst (λ (l : List Run). All P l) (sym is.parts)
      (All-append P is.before (last ∷ is.after) before (All-cons P last is.after here after))

  pub none_begins : last.at ≢ at → All (λ (r : Run). r.at ≢ at) runs
  none_begins wrong = all_others (λ (r : Run). r.at ≢ at)
      (All-weaker (λ (r : Run). r.at + r.len < last.at) (λ (r : Run). r.at ≢ at) (λ r lt same. omega (arith, is.below)) is.before before_ends) wrong
      (All-weaker (λ (r : Run). at + 1 ≤ r.at) (λ (r : Run). r.at ≢ at) (λ r le same. omega arith) is.after is.above)

  pub none_ends : last.at + last.len ≢ at → All (λ (r : Run). r.at + r.len ≢ at) runs
  none_ends wrong = all_others (λ (r : Run). r.at + r.len ≢ at)
      (All-weaker (λ (r : Run). r.at + r.len < last.at) (λ (r : Run). r.at + r.len ≢ at) (λ r lt same. omega (arith, is.below)) is.before before_ends) wrong
      (All-weaker (λ (r : Run). at + 1 ≤ r.at) (λ (r : Run). r.at + r.len ≢ at) (λ r le same. omega arith) is.after is.above)
