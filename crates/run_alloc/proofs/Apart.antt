-- Spread runs of which one is taken out or put in.
use Rattle.std.proofs.Common.{◌≡◌, ℕ, ◌+◌, ◌<◌, ◌≤◌, ◌^◌, ◌⊎◌, Bool, true, false, ◌||◌, ◌&&◌, not, List, [], ◌∷◌, ◌++◌}
use Rattle.std.proofs.Common.{length, refl, sym, ap, subst, ◌∙◌, inl, inr, arith, length-append}
use mathlib.Core.Bool.{true≢false}
use Rattle.std.specs.List.{All, Contains}
use Rattle.std.proofs.lemmas.Bool.Decides.{nat_tests}
use Rattle.std.proofs.lemmas.List.Elements.{All-nil, All-cons, All-head, All-tail, All-append, All-contains, All-weaker}
use Rattle.std.proofs.lemmas.List.Elements.{Contains-append_cases, Contains-append_left, Contains-append_right}
use Rattle.run_alloc.specs.declared.order.Run.{Run}
use Rattle.run_alloc.specs.Free.{in_run_at}
use Rattle.run_alloc.specs.Runs.{in_runs, IsSpread, IsApart, IsCut, IsJoined, IsSame}
use Rattle.run_alloc.specs.Shelves.{Rises, Adds}
use Rattle.run_alloc.proofs.Around.{All-front, All-behind}
use Rattle.run_alloc.proofs.Ranks.{only, rises-front, rises-behind, rises-below, rises-above}
use Rattle.run_alloc.proofs.Spread.{in_run-true, spread-lower, spread-bounds, spread-before, spread-behind, in_runs-append}

pub spread_length : (runs : List Run) (low high : ℕ) → IsSpread low runs high → length runs + low ≤ high
spread_length [] low high spread = omega (arith, spread)
spread_length (run ∷ runs) low high spread = omega (arith, spread.0, spread.1.0, spread_length runs _ high spread.1.1)

pub spread-ends : (runs : List Run) (low high : ℕ) → IsSpread low runs high → All (λ (r : Run). r.at + r.len < high) runs
spread-ends [] low high spread = All-nil (λ (r : Run). r.at + r.len < high)
spread-ends (run ∷ runs) low high spread =
    All-cons (λ (r : Run). r.at + r.len < high) run runs (omega (arith, spread-bounds runs _ high spread.1.1)) (spread-ends runs _ high spread.1.1)

pub spread-starts : (runs : List Run) (low high : ℕ) → IsSpread low runs high → All (λ (r : Run). low ≤ r.at) runs
spread-starts [] low high spread = All-nil (λ (r : Run). low ≤ r.at)
spread-starts (run ∷ runs) low high spread =
    All-cons (λ (r : Run). low ≤ r.at) run runs spread.0 (spread-starts runs low high (spread-lower runs low _ high (omega (arith, spread.0)) spread.1.1))

pub spread-some : (runs : List Run) (low high : ℕ) → IsSpread low runs high → All (λ (r : Run). 0 < r.len) runs
spread-some [] low high spread = All-nil (λ (r : Run). 0 < r.len)
spread-some (run ∷ runs) low high spread = All-cons (λ (r : Run). 0 < r.len) run runs spread.1.0 (spread-some runs _ high spread.1.1)

spread-without : (xs ys : List Run) (run : Run) (low high : ℕ) → IsSpread low (xs ++ run ∷ ys) high → IsSpread low (xs ++ ys) high
spread-without [] ys run low high spread = spread-lower ys low _ high (omega (arith, spread.0)) spread.1.1
spread-without (x ∷ xs) ys run low high spread = (spread.0, (spread.1.0, spread-without xs ys run _ high spread.1.1))

spread-between : (xs ys : List Run) (run : Run) (low high : ℕ) → IsSpread low (xs ++ ys) high → All (λ (r : Run). r.at + r.len < run.at) xs
    → All (λ (r : Run). run.at + run.len < r.at) ys → 0 < run.len → low ≤ run.at → run.at + run.len < high → IsSpread low (xs ++ run ∷ ys) high
spread-between [] [] run low high spread below above some from to = (from, (some, omega arith))
spread-between [] (y ∷ ys) run low high spread below above some from to = (from, (some, (omega (arith, above 0 y (omega arith)), spread.1)))
spread-between (x ∷ xs) ys run low high spread below above some from to = (
  spread.0,
  (
    spread.1.0,
    spread-between xs ys run _ high spread.1.1 (All-tail (λ (r : Run). r.at + r.len < run.at) x xs below)
        above some (omega (arith, below 0 x (omega arith))) to,
  ),
)

-- the others end below a run among them, or begin above it
others : (xs ys : List Run) (run : Run) (low high : ℕ) → IsSpread low (xs ++ run ∷ ys) high → All (IsApart run) (xs ++ ys)
others xs ys run low high spread =
    let behind = (spread-behind xs (run ∷ ys) low high spread).1.1 in
    All-append (IsApart run) xs ys
    (All-weaker (λ (r : Run). r.at + r.len < run.at) (IsApart run) (λ r lt. inl lt) xs (spread-ends xs low run.at (spread-before xs ys run low high spread)))
    (All-weaker (λ (r : Run). run.at + run.len + 1 ≤ r.at) (IsApart run) (λ r le. inr (omega arith)) ys (spread-starts ys _ high behind))

or_swap : (x y z : Bool) → (x || (y || z)) ≡ ((x || z) || y)
or_swap true y z = refl
or_swap false true true = refl
or_swap false true false = refl
or_swap false false true = refl
or_swap false false false = refl

and_not : (x t : Bool) → (t ≡ true → x ≡ false) → x ≡ ((x || t) && not t)
and_not true true clash = absurd (true≢false (clash refl))
and_not true false _ = refl
and_not false true _ = refl
and_not false false _ = refl

pub adds_in_runs : (old new : List Run) (run : Run) → Adds old new run → (a : ℕ) → in_runs new a ≡ (in_runs old a || in_run_at run.at run.len a)
adds_in_runs old new run adds a =
    ap (λ (l : List Run). in_runs l a) adds.is
    ∙ in_runs-append adds.before (run ∷ adds.after) a
    ∙ or_swap (in_runs adds.before a) (in_run_at run.at run.len a) (in_runs adds.after a)
    ∙ ap (λ (b : Bool). b || in_run_at run.at run.len a) (sym (ap (λ (l : List Run). in_runs l a) adds.was ∙ in_runs-append adds.before adds.after a))

-- an address of a run is in no run apart from it
pub clear_of : (runs : List Run) (run : Run) (a : ℕ) → All (IsApart run) runs → in_run_at run.at run.len a ≡ true → in_runs runs a ≡ false
clear_of [] run a apart inside = refl
clear_of (x ∷ runs) run a apart inside =
    let rest = clear_of runs run a (All-tail (IsApart run) x runs apart) inside in
    let within = in_run-true run.at run.len a inside in
    elim (All-head (IsApart run) x runs apart) [
      | inl lt ↦ grind (arith, nat_tests, rest, within.0, within.1)
      | inr lt ↦
          grind (arith, nat_tests, rest, within.0, within.1)
    ]

module _ (old new : List Run) (run : Run) (adds : Adds new old run) (high : ℕ) (spread : IsSpread 0 old high) where
  spread_parts : IsSpread 0 (adds.before ++ run ∷ adds.after) high
  spread_parts = subst (λ (l : List Run). IsSpread 0 l high) adds.is spread

  pub removed_spread : IsSpread 0 new high
  removed_spread = subst (λ (l : List Run). IsSpread 0 l high) (sym adds.was) (spread-without adds.before adds.after run 0 high spread_parts)

  pub removed_apart : All (IsApart run) new
  removed_apart = subst (λ (l : List Run). All (IsApart run) l) (sym adds.was) (others adds.before adds.after run 0 high spread_parts)

  pub removed_taken : (a : ℕ) → in_runs new a ≡ (in_runs old a && not (in_run_at run.at run.len a))
  removed_taken a = and_not (in_runs new a) (in_run_at run.at run.len a) (clear_of new run a removed_apart)
      ∙ ap (λ (b : Bool). b && not (in_run_at run.at run.len a)) (sym (adds_in_runs new old run adds a))

pub removed_cut : (old new : List Run) (run : Run) → Adds new old run → IsSpread 0 old (2 ^ 32) → IsCut old new run.at run.len
removed_cut old new run adds spread = record {
  spread = λ high s. removed_spread old new run adds high s;
  taken = removed_taken old new run adds (2 ^ 32) spread;
}

-- a run apart from all is put in
pub added_spread : (old new : List Run) (run : Run) (top high : ℕ) → Adds old new run → IsSpread 0 old high
    → All (IsApart run) old → Rises (λ (r : Run). r.at) 0 new top
    → 0 < run.len → run.at + run.len < high → IsSpread 0 new high
added_spread old new run top high adds spread apart rises some inside =
    let parts = subst (λ (l : List Run). Rises (λ (r : Run). r.at) 0 l top) adds.is rises in
    let all = subst (λ (l : List Run). All (IsApart run) l) adds.was apart in
    let front = rises-below (λ (r : Run). r.at) adds.before 0 run.at (rises-front (λ (r : Run). r.at) adds.before adds.after run 0 top parts) in
    let back = rises-above (λ (r : Run). r.at) adds.after (run.at + 1) top (rises-behind (λ (r : Run). r.at) adds.before (run ∷ adds.after) 0 top parts).1 in
    subst (λ (l : List Run). IsSpread 0 l high) (sym adds.is)
    (spread-between adds.before adds.after run 0 high (subst (λ (l : List Run). IsSpread 0 l high) adds.was spread)
    (λ k d lt. elim (All-front (IsApart run) adds.before adds.after all k d lt) [ inl below ↦ below | inr above ↦ absurd (omega (arith, front k d lt)) ])
    (λ k d lt. elim (All-behind (IsApart run) adds.before adds.after all k d lt) [ inl below ↦ absurd (omega (arith, back k d lt)) | inr above ↦ above ])
    some (omega arith) inside)

pub added_joined : (old new : List Run) (run : Run) (top : ℕ) → Adds old new run → All (IsApart run) old
    → Rises (λ (r : Run). r.at) 0 new top → 0 < run.len → IsJoined old new run.at run.len
added_joined old new run top adds apart rises some =
    record { spread = λ high inside spread. added_spread old new run top high adds spread apart rises some inside; given = adds_in_runs old new run adds }

-- what is among the runs when one is added
pub adds_has : (old new : List Run) (run : Run) → Adds old new run → Contains new run
adds_has old new run adds = subst (λ (l : List Run). Contains l run) (sym adds.is)
    (Contains-append_right adds.before (run ∷ adds.after) run (0, (omega arith), refl))

pub adds_keeps : (old new : List Run) (run other : Run) → Adds old new run → Contains old other → Contains new other
adds_keeps old new run other adds is =
    subst (λ (l : List Run). Contains l other) (sym adds.is)
    (elim (Contains-append_cases adds.before adds.after other (subst (λ (l : List Run). Contains l other) adds.was is)) [
      | inl before ↦ Contains-append_left adds.before (run ∷ adds.after) other before
      | inr after ↦ Contains-append_right adds.before (run ∷ adds.after) other (Contains-append_right (run ∷ []) adds.after other after)
    ])

pub adds_cases : (old new : List Run) (run other : Run) → Adds old new run → Contains new other → Contains old other ⊎ (run ≡ other)
adds_cases old new run other adds is =
    elim (Contains-append_cases adds.before (run ∷ adds.after) other (subst (λ (l : List Run). Contains l other) adds.is is)) [
      | inl before ↦ inl (subst (λ (l : List Run). Contains l other) (sym adds.was) (Contains-append_left adds.before adds.after other before))
      | inr rest ↦ elim (Contains-append_cases (run ∷ []) adds.after other rest) [
        | inl here ↦ inr (only run other here)
        | inr after ↦ inl (subst (λ (l : List Run). Contains l other) (sym adds.was) (Contains-append_right adds.before adds.after other after))
      ]
    ]

pub All-adds : (P : Run → Type 0) (old new : List Run) (run : Run) → Adds old new run → All P old → P run → All P new
All-adds P old new run adds all here =
    let parts = subst (λ (l : List Run). All P l) adds.was all in
    subst (λ (l : List Run). All P l) (sym adds.is)
    (All-append P adds.before (run ∷ adds.after) (All-front P adds.before adds.after parts)
    (All-cons P run adds.after here (All-behind P adds.before adds.after parts)))

pub All-removed : (P : Run → Type 0) (old new : List Run) (run : Run) → Adds new old run → All P old → All P new
All-removed P old new run adds all =
    let parts = subst (λ (l : List Run). All P l) adds.is all in
    subst (λ (l : List Run). All P l) (sym adds.was)
    (All-append P adds.before adds.after (All-front P adds.before (run ∷ adds.after) parts)
    (All-tail P run adds.after (All-behind P adds.before (run ∷ adds.after) parts)))

pub length-adds : (old new : List Run) (run : Run) → Adds old new run → length new ≡ length old + 1
length-adds old new run adds =
    omega (arith, ap length adds.was, ap length adds.is, length-append adds.before adds.after, length-append adds.before (run ∷ adds.after))

-- a run that was added to others of other ranks isn't among these
gone : (rank : Run → ℕ) (old new : List Run) (run : Run) (top : ℕ) → Rises rank 0 new top → Adds old new run → Contains old run → ⊥
gone rank old new run top rises adds is =
    let parts = subst (λ (l : List Run). Rises rank 0 l top) adds.is rises in
    elim (Contains-append_cases adds.before adds.after run (subst (λ (l : List Run). Contains l run) adds.was is)) [
      | inl before ↦ omega (
        arith,
        All-contains (λ (r : Run). rank r < rank run) adds.before run
            (rises-below rank adds.before 0 (rank run) (rises-front rank adds.before adds.after run 0 top parts)) before,
      )
      | inr after ↦ omega (
        arith,
        All-contains (λ (r : Run). rank run + 1 ≤ rank r) adds.after run
            (rises-above rank adds.after (rank run + 1) top
            (rises-behind rank adds.before (run ∷ adds.after) 0 top parts).1) after,
      )
    ]

there_added : (xs xs' ys ys' : List Run) (run : Run) → Adds xs xs' run → Adds ys ys' run
    → ((r : Run) → Contains xs r → Contains ys r) → (r : Run) → Contains xs' r → Contains ys' r
there_added xs xs' ys ys' run first second there r is =
    elim (adds_cases xs xs' run r first is) [
      | inl old ↦ adds_keeps ys ys' run r second (there r old)
      | inr same ↦ subst (λ (x : Run). Contains ys' x) same (adds_has ys ys' run second)
    ]

there_removed : (rank : Run → ℕ) (top : ℕ) (xs xs' ys ys' : List Run) (run : Run) → Adds xs' xs run → Adds ys' ys run → Rises rank 0 xs top
    → ((r : Run) → Contains xs r → Contains ys r) → (r : Run) → Contains xs' r → Contains ys' r
there_removed rank top xs xs' ys ys' run first second rises there r is =
    elim (adds_cases ys' ys run r second (there r (adds_keeps xs' xs run r first is))) [
      | inl old ↦ old
      | inr same ↦ absurd (gone rank xs' xs run top rises first (subst (λ (x : Run). Contains xs' x) (sym same) is))
    ]

pub same_added : (xs xs' ys ys' : List Run) (run : Run) → IsSame xs ys → Adds xs xs' run → Adds ys ys' run → IsSame xs' ys'
same_added xs xs' ys ys' run same first second = record {
  long = omega (arith, same.long, length-adds xs xs' run first, length-adds ys ys' run second);
  there = there_added xs xs' ys ys' run first second same.there;
  back = there_added ys ys' xs xs' run second first same.back;
}

pub same_removed : (rank other : Run → ℕ) (top : ℕ) (xs xs' ys ys' : List Run) (run : Run) → IsSame xs ys
    → Adds xs' xs run → Adds ys' ys run → Rises rank 0 xs top → Rises other 0 ys top → IsSame xs' ys'
same_removed rank other top xs xs' ys ys' run same first second rises other_rises = record {
  long = omega (arith, same.long, length-adds xs' xs run first, length-adds ys' ys run second);
  there = there_removed rank top xs xs' ys ys' run first second rises same.there;
  back = there_removed other top ys ys' xs xs' run second first other_rises same.back;
}
