-- The maximal free runs are the runs that are kept, so the shortest of these is the best.
use Rattle.std.proofs.Common.{◌≡◌, ◌≢◌, ℕ, suc, ◌+◌, ◌-◌, ◌<◌, ◌≤◌, ◌^◌, ◌⊎◌, Bool, true, false, ◌||◌, ◌&&◌, not, List}
use Rattle.std.proofs.Common.{[], ◌∷◌, ◌++◌, take, drop, get_or, nat_lt, refl, sym, ap, subst, ◌∙◌, inl, inr, arith}
use mathlib.Core.Bool.{true≢false}
use Rattle.std.specs.FinSet as set
use Rattle.std.specs.List.{All, Contains}
use Rattle.std.proofs.Math.Bool.{or-true}
use Rattle.std.proofs.lemmas.Bool.{cases_lt}
use Rattle.std.proofs.lemmas.Bool.Decides.{nat_tests}
use Rattle.std.proofs.lemmas.List.Elements.{All-contains, Contains-append_right, Contains-append_cases, Contains-get_or}
use Rattle.run_alloc.specs.declared.order.Run.{Run}
use Rattle.run_alloc.specs.Free.{in_run_at, AllFree, NoneFree, IsFreeRun, IsBestRun, IsPlace, NoPlace}
use Rattle.run_alloc.specs.Runs.{in_runs, free_set, IsSpread, IsApart, IsClear, IsShortest, IsCut, IsJoined, IsWidened}
use Rattle.run_alloc.specs.Shelves.{Adds, IsLastBelow}
use Rattle.run_alloc.proofs.Around.{around}
use Rattle.run_alloc.proofs.Ranks.{only}
use Rattle.run_alloc.proofs.Spread.{in_run-true, in_run-below, in_run-above, in_run-inside, spread-before}
use Rattle.run_alloc.proofs.Spread.{spread-behind, spread-bounds, spread-higher, in_runs-below, in_runs-above}
use Rattle.run_alloc.proofs.Spread.{in_runs-append, contains-free_set}
use Rattle.run_alloc.proofs.Apart.{spread-ends, spread-some, removed_apart, adds_cases, adds_has, adds_in_runs}

-- two maximal free runs that share an address are one
runs_meet : (size : ℕ) (free : ℕ → Bool) (a l b m : ℕ) → IsFreeRun size free a l → IsFreeRun size free b m → b ≤ a → a < b + m → (b ≡ a) × (m ≡ l)
runs_meet size free a l b m first second low high =
    let begins : b ≡ a =
    elim (cases_lt b a) [
      | inr ge ↦ omega arith
      | inl lt ↦ absurd
          (true≢false (sym (second.all_free (a - 1) (omega arith) (omega arith)) ∙ first.below (a - 1) (omega arith)))
    ] in (
      begins,
      elim (cases_lt m l) [
        | inl lt ↦ absurd (true≢false (sym (first.all_free (b + m) (omega arith) (omega arith)) ∙ second.above (omega (arith, first.inside))))
        | inr ge ↦ elim (cases_lt l m) [
          | inl lt ↦ absurd (true≢false (sym (second.all_free (a + l) (omega arith) (omega arith)) ∙ first.above (omega (arith, second.inside))))
          | inr le ↦ omega arith
        ]
      ],
    )

-- a run among spread runs is a maximal free run
free_between : (before behind : List Run) (run : Run) (size : ℕ) → IsSpread 0 (before ++ run ∷ behind) (size + 1)
    → IsFreeRun size (in_runs (before ++ run ∷ behind)) run.at run.len
free_between before behind run size spread =
    let low = spread-before before behind run 0 (size + 1) spread in
    let high = spread-behind before (run ∷ behind) 0 (size + 1) spread in
    let parts = in_runs-append before (run ∷ behind) in
    record {
      some = high.1.0;
      inside = omega (arith, spread-bounds behind _ (size + 1) high.1.1);
      all_free = λ a from to. parts a ∙ grind (arith, nat_tests, or-true (in_runs before a));
      below = λ a is. parts a ∙ grind (
        arith,
        in_runs-above before 0 run.at a low (omega arith),
        in_run-below run.at run.len a (omega arith),
        in_runs-below behind _ (size + 1) a high.1.1 (omega arith),
      );
      above = λ lt. parts (run.at + run.len)
          ∙ grind (
            arith,
            in_runs-above before 0 run.at (run.at + run.len) low (omega arith),
            in_run-above run.at run.len (run.at + run.len) (omega arith),
            in_runs-below behind _ (size + 1)
                (run.at + run.len) high.1.1 (omega arith),
          );
    }

-- a run that is there, among the others
pub split_at : (runs : List Run) (run : Run) → Contains runs run → (rest : List Run) × Adds rest runs run
split_at runs run is = (
  take is.0 runs ++ drop (suc is.0) runs,
  record {
    before = take is.0 runs;
    after = drop (suc is.0) runs;
    was = refl;
    is = around runs is.0 run is.1 ∙ ap (λ (r : Run). take is.0 runs ++ r ∷ drop (suc is.0) runs) is.2;
  },
)

pub pair_apart : (runs : List Run) (high : ℕ) (run other : Run) → IsSpread 0 runs high → Contains runs run
    → Contains runs other → (run ≡ other) ⊎ IsApart run other
pair_apart runs high run other spread first second =
    let parts = split_at runs run first in
    elim (adds_cases parts.0 runs run other parts.1 second) [
      | inl rest ↦ inr (All-contains (IsApart run) parts.0 other (removed_apart runs parts.0 run parts.1 high spread) rest)
      | inr same ↦ inl same
    ]

-- a run that has the address
pub holder : (runs : List Run) (a : ℕ) → in_runs runs a ≡ true → (run : Run) × (Contains runs run × (in_run_at run.at run.len a ≡ true))
holder [] a is = absurd (true≢false (sym is))
holder (run ∷ runs) a is =
    elim (in_run_at run.at run.len a) as (λ b. in_run_at run.at run.len a ≡ b → (b || in_runs runs a) ≡ true → (r : Run)
    × (Contains (run ∷ runs) r × (in_run_at r.at r.len a ≡ true))) [
      | true ↦ λ here _. (run, ((0, (omega arith), refl), here))
      | false ↦ λ _ rest. let later = holder runs a rest in (later.0, (Contains-append_right (run ∷ []) runs later.0 later.1.0, later.1.1))
    ] refl is

module _ (runs : List Run) (size : ℕ) (spread : IsSpread 0 runs (size + 1)) where
  -- each run that is kept is a maximal free run
  pub kept_is_free : (run : Run) → Contains runs run → IsFreeRun size (in_runs runs) run.at run.len
  kept_is_free run is =
      let parts = (split_at runs run is).1 in
      subst (λ (l : List Run). IsFreeRun size (in_runs l) run.at run.len) (sym parts.is)
      (free_between parts.before parts.after run size (subst (λ (l : List Run). IsSpread 0 l (size + 1)) parts.is spread))

  -- and each maximal free run is kept
  pub free_is_kept : (at len : ℕ) → IsFreeRun size (in_runs runs) at len → (run : Run) × (Contains runs run × ((run.at ≡ at) × (run.len ≡ len)))
  free_is_kept at len free =
      let held = holder runs at (free.all_free at (omega arith) (omega (arith, free.some))) in
      let within = in_run-true held.0.at held.0.len at held.1.1 in
      (held.0, (held.1.0, runs_meet size (in_runs runs) at len _ _ free (kept_is_free held.0 held.1.0) within.0 within.1))

  pub best_is_shortest : (want : ℕ) (run : Run) → IsShortest runs want run → IsBestRun size (in_runs runs) want run.at run.len
  best_is_shortest want run best = record {
    run = kept_is_free run best.kept;
    fits = best.fits;
    shortest = λ b l free enough.
        let kept = free_is_kept b l free in
        elim (best.least kept.0 kept.1.0 (omega (arith, kept.1.1.1))) [ inl lt ↦ omega (arith, kept.1.1.1) | inr same ↦ omega (arith, same.0, kept.1.1.1) ];
    lowest = λ b free.
        let kept = free_is_kept b _ free in
        elim (best.least kept.0 kept.1.0 (omega (arith, kept.1.1.1, best.fits)))
        [ inl lt ↦ absurd (omega (arith, kept.1.1.1)) | inr same ↦ omega (arith, same.1, kept.1.1.0) ];
  }

  pub none_fits : (want : ℕ) → All (λ (r : Run). r.len < want) runs → NoPlace size (in_runs runs) want
  none_fits want none at len free =
      let kept = free_is_kept at len free in
      omega (arith, All-contains (λ (r : Run). r.len < want) runs kept.0 none kept.1.0, kept.1.1.1)

  -- the last run that begins at or below a free run holds it
  pub last_holds : (at len : ℕ) (run : Run) → 0 < len → AllFree (in_runs runs) at len
      → IsLastBelow (λ (r : Run). r.at) runs (at + 1) run → at + len ≤ run.at + run.len
  last_holds at len run some free last =
      let first = held_by run (free at (omega arith) (omega arith)) last in
      elim (cases_lt (run.at + run.len) (at + len)) [
        | inr ge ↦ ge
        | inl lt ↦ absurd (true≢false (sym (free (run.at + run.len) (omega (arith, first)) lt) ∙ past_end run last))
      ]
    where
      kept : (r : Run) → IsLastBelow (λ (x : Run). x.at) runs (at + 1) r → Contains runs r
      kept r is = adds_has (is.before ++ is.after) runs r (record { before = is.before; after = is.after; was = refl; is = is.parts })

      past_end : (r : Run) → IsLastBelow (λ (x : Run). x.at) runs (at + 1) r → in_runs runs (r.at + r.len) ≡ false
      past_end r is =
          let whole = kept_is_free r (kept r is) in
          elim (cases_lt (r.at + r.len) size) [
            | inl below ↦ whole.above below
            | inr above ↦ in_runs-above runs 0 (size + 1) (r.at + r.len) spread (omega arith)
          ]

      held_by : (r : Run) → in_runs runs at ≡ true → IsLastBelow (λ (x : Run). x.at) runs (at + 1) r → at < r.at + r.len
      held_by r is_free is =
          let held = holder runs at is_free in
          let within = in_run-true held.0.at held.0.len at held.1.1 in
          let before = spread-ends is.before 0 r.at
          (spread-before is.before is.after r 0 (size + 1)
          (subst (λ (l : List Run). IsSpread 0 l (size + 1)) is.parts spread)) in
          elim (Contains-append_cases is.before (r ∷ is.after) held.0 (subst (λ (l : List Run). Contains l held.0) is.parts held.1.0)) [
            | inl front ↦ absurd (omega (arith, All-contains (λ (x : Run). x.at + x.len < r.at) is.before held.0 before front, within.1, is.below))
            | inr rest ↦ elim (Contains-append_cases (r ∷ []) is.after held.0 rest) [
              | inl here ↦ let same = only r held.0 here in omega (arith, within.1, ap (λ (x : Run). x.at + x.len) same)
              | inr back ↦ absurd (omega (arith, All-contains (λ (x : Run). at + 1 ≤ x.at) is.after held.0 is.above back, within.0))
            ]
          ]

-- the set's words
abbrev pub in_set : List Run → ℕ → Bool
in_set runs a = set.contains (free_set runs) a

same_test : (runs : List Run) → in_runs runs ≡ in_set runs
same_test runs = λ i a. sym (contains-free_set runs a) i

pub place_in_set : (runs : List Run) (size want : ℕ) (run : Run) → IsSpread 0 runs (size + 1) → IsShortest runs want run
    → IsPlace size (in_set runs) want run.at
place_in_set runs size want run spread best =
    subst (λ (free : ℕ → Bool). IsPlace size free want run.at) (same_test runs) (run.len, best_is_shortest runs size spread want run best)

pub no_place_in_set : (runs : List Run) (size want : ℕ) → IsSpread 0 runs (size + 1) → All (λ (r : Run). r.len < want) runs → NoPlace size (in_set runs) want
no_place_in_set runs size want spread none = subst (λ (free : ℕ → Bool). NoPlace size free want) (same_test runs) (none_fits runs size spread want none)

-- all runs lie below the largest number
pub tidy : (runs : List Run) (size : ℕ) → size < 2 ^ 32 → IsSpread 0 runs (size + 1) → IsSpread 0 runs (2 ^ 32)
tidy runs size fits spread = spread-higher runs 0 (size + 1) (2 ^ 32) (omega arith) spread

pub all_free_in_runs : (runs : List Run) (at len : ℕ) → AllFree (in_set runs) at len → AllFree (in_runs runs) at len
all_free_in_runs runs at len free a low high = sym (contains-free_set runs a) ∙ free a low high

pub none_free_in_runs : (runs : List Run) (at len : ℕ) → NoneFree (in_set runs) at len → NoneFree (in_runs runs) at len
none_free_in_runs runs at len none a low high = sym (contains-free_set runs a) ∙ none a low high

pub cut_in_set : (old new : List Run) (at len : ℕ) → IsCut old new at len → (a : ℕ) → set.contains (free_set new) a
    ≡ (set.contains (free_set old) a && not (in_run_at at len a))
cut_in_set old new at len cut a = rw (contains-free_set new a, contains-free_set old a) (cut.taken a)

pub joined_in_set : (old new : List Run) (at len : ℕ) → IsJoined old new at len → (a : ℕ)
    → set.contains (free_set new) a ≡ (set.contains (free_set old) a || in_run_at at len a)
joined_in_set old new at len joined a = rw (contains-free_set new a, contains-free_set old a) (joined.given a)

pub whole_in_set : (old new : List Run) (size : ℕ) → old ≡ [] → IsJoined old new 0 size → (a : ℕ) → set.contains (free_set new) a ≡ nat_lt a size
whole_in_set old new size is joined a = contains-free_set new a ∙ joined.given a ∙ rw is (grind (arith, nat_tests))

pub none_in_set : (runs : List Run) (size : ℕ) → runs ≡ [] → size ≤ 0 → (a : ℕ) → set.contains (free_set runs) a ≡ nat_lt a size
none_in_set runs size is none a = contains-free_set runs a ∙ rw is (grind (arith, nat_tests))

-- no run begins at or below a free address: there is none
pub none_to : (runs : List Run) (at : ℕ) → in_runs runs at ≡ true → All (λ (r : Run). at + 1 ≤ r.at) runs → ⊥
none_to runs at free above =
    let held = holder runs at free in
    omega (arith, in_run-true held.0.at held.0.len at held.1.1, All-contains (λ (r : Run). at + 1 ≤ r.at) runs held.0 above held.1.0)

-- an address of a run is free
pub contained : (runs : List Run) (run : Run) (a : ℕ) → Contains runs run → in_run_at run.at run.len a ≡ true → in_runs runs a ≡ true
contained runs run a is inside =
    let parts = split_at runs run is in
    adds_in_runs parts.0 runs run parts.1 a ∙ ap (λ (b : Bool). in_runs parts.0 a || b) inside ∙ or-true (in_runs parts.0 a)

-- no run has an address of one that isn't free
pub none_clear : (runs : List Run) (high at len : ℕ) → 0 < len → IsSpread 0 runs high → NoneFree (in_runs runs) at len
    → All (IsClear (record { at = at; len = len })) runs
none_clear runs high at len some spread none k d lt =
    let kept = Contains-get_or runs k d lt in
    clear (get_or runs k d) kept (All-contains (λ (r : Run). 0 < r.len) runs (get_or runs k d) (spread-some runs 0 high spread) kept)
  where
    free_here : (r : Run) (a : ℕ) → Contains runs r → r.at ≤ a → a < r.at + r.len → at ≤ a → a < at + len → ⊥
    free_here r a kept from to low high = true≢false (sym (contained runs r a kept (in_run-inside r.at r.len a from to)) ∙ none a low high)

    clear : (r : Run) → Contains runs r → 0 < r.len → IsClear (record { at = at; len = len }) r
    clear r kept long = elim (cases_lt at (r.at + r.len)) [
      | inr below ↦ inl below
      | inl over ↦ elim (cases_lt r.at (at + len)) [
        | inr above ↦ inr above
        | inl under ↦ elim (cases_lt at r.at) [
          | inl later ↦ absurd (free_here r r.at kept (omega arith) (omega arith) (omega arith) under)
          | inr sooner ↦ absurd (free_here r at kept sooner over (omega arith) (omega arith))
        ]
      ]
    ]

-- what stays of a run that is taken out is put back
cut_bool : (o : Bool) (run front behind : Run) (at len a : ℕ) → (in_run_at run.at run.len a ≡ true → o ≡ true)
    → front.at ≡ run.at → front.at + front.len ≡ at → behind.at ≡ at + len
    → behind.at + behind.len ≡ run.at + run.len
    → (((o && not (in_run_at run.at run.len a)) || in_run_at front.at front.len a) || in_run_at behind.at behind.len a)
    ≡ (o && not (in_run_at at len a))
cut_bool true run front behind at len a here begins meets follows last = grind (arith, nat_tests)
cut_bool false run front behind at len a here begins meets follows last =
    elim (in_run_at run.at run.len a) as
    (λ b. in_run_at run.at run.len a ≡ b
    → (((false && not b) || in_run_at front.at front.len a) || in_run_at behind.at behind.len a)
    ≡ (false && not (in_run_at at len a))) [
      | true ↦ λ inside. absurd (true≢false (sym (here inside)))
      | false ↦ λ outside. grind (arith, nat_tests, outside)
    ] refl

pub cut_by : (old rest with_front new : List Run) (run front behind : Run) (at len : ℕ) → Contains old run
    → IsCut old rest run.at run.len → IsJoined rest with_front front.at front.len
    → IsJoined with_front new behind.at behind.len → front.at ≡ run.at → front.at + front.len ≡ at
    → behind.at ≡ at + len → behind.at + behind.len ≡ run.at + run.len → IsCut old new at len
cut_by old rest with_front new run front behind at len kept cut first second begins meets follows last = record {
  spread = λ high spread.
      let end = All-contains (λ (r : Run). r.at + r.len < high) old run (spread-ends old 0 high spread) kept in
      second.spread high (omega arith) (first.spread high (omega arith) (cut.spread high spread));
  taken = λ a. second.given a ∙ ap (λ (b : Bool). b || in_run_at behind.at behind.len a)
      (first.given a ∙ ap (λ (b : Bool). b || in_run_at front.at front.len a) (cut.taken a))
      ∙ cut_bool (in_runs old a) run front behind at len a (contained old run a kept) begins meets follows last;
}

-- a run is joined with one that was taken out beside it
wide_bool : (o n r w : Bool) → (n ≡ true → o ≡ true) → w ≡ (r || n) → ((o && not n) || w) ≡ (o || r)
wide_bool true true true w here is = rw is refl
wide_bool true true false w here is = rw is refl
wide_bool true false r w here is = refl
wide_bool false true r w here is = absurd (true≢false (sym (here refl)))
wide_bool false false true w here is = rw is refl
wide_bool false false false w here is = rw is refl

module _ (old new : List Run) (run other wide : Run) (kept : Contains old other)
    (cut : IsCut old new other.at other.len) (spread : IsSpread 0 old (2 ^ 32)) (apart : All (IsApart other) new) where
  widened : wide.len ≡ run.len + other.len → ((a : ℕ) → in_run_at wide.at wide.len a ≡ (in_run_at run.at run.len a || in_run_at other.at other.len a))
      → ((high : ℕ) → run.at + run.len < high → other.at + other.len < high → wide.at + wide.len < high) → IsWidened old new run wide
  widened long both ends = record {
    spread = cut.spread;
    given = λ a. ap (λ (b : Bool). b || in_run_at wide.at wide.len a) (cut.taken a)
        ∙ wide_bool (in_runs old a) (in_run_at other.at other.len a) (in_run_at run.at run.len a) (in_run_at wide.at wide.len a)
        (contained old other a kept) (both a);
    some = omega arith;
    inside = λ high below s. ends high below (All-contains (λ (r : Run). r.at + r.len < high) old other (spread-ends old 0 high s) kept);
  }

  pub widened_behind : wide.at ≡ run.at → wide.len ≡ run.len + other.len → other.at ≡ run.at + run.len → IsWidened old new run wide
  widened_behind same long meets = widened long (λ a. grind (arith, nat_tests)) (λ high first second. omega arith)

  pub widened_before : wide.at ≡ other.at → wide.len ≡ other.len + run.len → other.at + other.len ≡ run.at → IsWidened old new run wide
  widened_before same long meets = widened (omega arith) (λ a. grind (arith, nat_tests)) (λ high first second. omega arith)

  pub clear_behind : wide.at ≡ run.at → wide.len ≡ run.len + other.len → other.at ≡ run.at + run.len → All (IsClear run) new → All (IsClear wide) new
  clear_behind same long meets clear k d lt = elim (clear k d lt) [
    | inl below ↦ inl (omega arith)
    | inr above ↦ elim (apart k d lt) [ inl below ↦ absurd (omega arith) | inr behind ↦ inr (omega arith) ]
  ]

  pub apart_before : wide.at ≡ other.at → wide.len ≡ other.len + run.len → other.at + other.len ≡ run.at
      → All (IsClear run) new → All (λ (r : Run). r.at ≢ run.at + run.len) new → All (IsApart wide) new
  apart_before same long meets clear begins k d lt = elim (clear k d lt) [
    | inr above ↦ inr (omega (arith, begins k d lt))
    | inl below ↦ elim (apart k d lt) [ inl under ↦ inl (omega arith) | inr over ↦ absurd (omega arith) ]
  ]

-- it is put in
pub joined_by : (old mid last new : List Run) (run wide widest : Run) → IsWidened old mid run wide
    → IsWidened mid last wide widest → IsJoined last new widest.at widest.len → IsJoined old new run.at run.len
joined_by old mid last new run wide widest first second joined = record {
  spread = λ high inside spread.
      let mid_spread = first.spread high spread in
      joined.spread high (second.inside high (first.inside high inside spread) mid_spread) (second.spread high mid_spread);
  given = λ a. joined.given a ∙ second.given a ∙ first.given a;
}

-- where the last run that begins at or below an address ends, or at the address, none is free
module _ (runs : List Run) (size : ℕ) (spread : IsSpread 0 runs (size + 1)) (at : ℕ) (run : Run)
    (last : IsLastBelow (λ (r : Run). r.at) runs (at + 1) run) where
  there : Contains runs run
  there = adds_has (last.before ++ last.after) runs run (record { before = last.before; after = last.after; was = refl; is = last.parts })

  pub run_free_to : (to : ℕ) → to ≤ run.at + run.len → AllFree (in_runs runs) at (to - at)
  run_free_to to ends a low high = contained runs run a there (in_run-inside run.at run.len a (omega (arith, last.below)) (omega arith))

  pub end_taken : in_runs runs (run.at + run.len) ≡ false
  end_taken = elim (cases_lt (run.at + run.len) size) [
    | inl below ↦ (kept_is_free runs size spread run there).above below
    | inr above ↦ in_runs-above runs 0 (size + 1) (run.at + run.len) spread (omega arith)
  ]

  pub behind_taken : run.at + run.len ≤ at → in_runs runs at ≡ false
  behind_taken ends = elim (in_runs runs at) as (λ b. in_runs runs at ≡ b → b ≡ false) [
    | false ↦ λ _. refl
    | true ↦ λ is.
        absurd (omega (
          arith,
          last_holds runs size spread at 1 run (omega arith)
              (λ a low high. subst (λ (x : ℕ). in_runs runs x ≡ true) (omega arith) is) last,
          ends,
        ))
  ] refl

pub free_set_reads : (runs : List Run) (a : ℕ) → in_runs runs a ≡ false → set.contains (free_set runs) a ≡ false
free_set_reads runs a is = contains-free_set runs a ∙ is

pub all_free_in_set : (runs : List Run) (at len : ℕ) → AllFree (in_runs runs) at len → AllFree (λ a. set.contains (free_set runs) a) at len
all_free_in_set runs at len free a low high = contains-free_set runs a ∙ free a low high

pub not_free : (runs : List Run) (at : ℕ) → All (λ (r : Run). at + 1 ≤ r.at) runs → in_runs runs at ≡ false
not_free runs at above = elim (in_runs runs at) as (λ b. in_runs runs at ≡ b → b ≡ false) [
  | false ↦ λ _. refl
  | true ↦ λ is. absurd (none_to runs at is above)
] refl
