-- Counting over the runs of items and of the log: how many of them pass a test, as the one whether a run has an address.
use Rattle.std.proofs.Common.{◌≡◌, ℕ, ◌+◌, ◌≤◌, ◌==◌, nat_lt, Bool, true, false, cond, not, ◌&&◌, ◌||◌, ◌⊎◌, inl, inr}
use Rattle.std.proofs.Common.{List, [], ◌∷◌, ◌++◌, Option, Some, None, refl, sym, ap, ◌∙◌, arith}
use Rattle.std.specs.Prelude.{T, count_by, All}
use Rattle.std.specs.declared.cmp.Ordering.{Ordering}
use Rattle.std.specs.declared.cmp.Ordering.TheVariants.{Less, Equal, Greater}
use Rattle.std.specs.Cmp.{Equal-is}
use Rattle.std.specs.Cmp.Lexicographic.{slice_cmp}
use Rattle.std.specs.FinMap.Entries as entries
use Rattle.std.specs.Ordering.{nat_cmp, is_eq, is_lt, eq_by_cmp}
use Rattle.std.proofs.lemmas.Bool.{or_cases}
use Rattle.std.proofs.lemmas.Bool.Decides.{nat_tests}
use Rattle.std.proofs.lemmas.Cmp.{nat_list_cmp_total}
use Rattle.std.proofs.lemmas.List.Elements.{All-nil, All-cons, All-head, All-tail}
use Rattle.std.proofs.lemmas.List.Sums.{sum_by-cons, sum_by-append, sum_by-le-sum_by}
use Rattle.group_types.specs.declared.run.Run.{Run}
use Rattle.group_message.specs.declared.update.Body.{Body}
use Rattle.group_message.specs.declared.update.Body.TheVariants.{Put, Remove, Touch}
use Rattle.group_message.specs.declared.update.Update.{Update}
use Rattle.item_index.specs.declared.slot.Slot.{Slot}
use Rattle.std.specs.List.{list_any}
use Rattle.group_types.specs.Lists.{same_key}
use Rattle.group_run.specs.Free.{in_run, in_some_run}
use Rattle.group_run.specs.Replica.{Items, slot_in, run_in, run_of, slot_after, with_slot, item_settled}
use Rattle.group_run.specs.Replica.{freed_by}
use Rattle.partition_replica.specs.Sound.{item_runs, front_run, log_runs, FreeTheirs}

-- the order of the keys
abbrev order : List ℕ → List ℕ → Ordering
order = slice_cmp nat_cmp

first : (a b : Bool) → T (a && b) → T a
first true b p = tt
first false b p = p

second : (a b : Bool) → T (a && b) → T b
second true b p = p
second false b p = absurd p

less : (o : Ordering) → T (is_lt o) → o ≡ Less
less Less p = refl
less Equal p = absurd p
less Greater p = absurd p

comes : (key y z : List ℕ) → (order key y ≡ Less) ⊎ (order key y ≡ Equal) → order y z ≡ Less → order key z ≡ Less
comes key y z (inl before) up = nat_list_cmp_total.trans key y z before up
comes key y z (inr tied) up = nat_list_cmp_total.congr key y z tied ∙ up

find_none : (key y : List ℕ) (items : Items) → (order key y ≡ Less) ⊎ (order key y ≡ Equal) → T (entries.below_all order y items) → slot_in items key ≡ None
find_none key y [] before below = refl
find_none key y (e ∷ es) before below =
    ap (λ (o : Ordering). cond (is_eq o) (Some e.1) (slot_in es key)) (comes key y e.0 before (less _ (first _ _ below)))
    ∙ find_none key y es before (second _ _ below)

-- the count and the test with one more in front
more : (b x : Bool) (n : ℕ) → x ≡ not (n == 0) → (b || x) ≡ not (cond b 1 0 + n == 0)
more true x n is = grind (arith, nat_tests)
more false x n is = grind (arith, nat_tests)

-- the items without those of a key
abbrev without : List ℕ → Items → Items
without key items = entries.where_key order (λ x. not (same_key key x)) items

module _ (p : Run → Bool) where
  -- 1 where there is a run and it passes
  abbrev pub weight : Option Run → ℕ
  weight None = 0
  weight (Some run) = cond (p run) 1 0

  -- the same of a slot's run
  abbrev pub has : Option Slot → ℕ
  has None = 0
  has (Some slot) = cond (p (run_in slot)) 1 0

  -- how many of the items' runs pass
  abbrev pub held : Items → ℕ
  held [] = 0
  held (e ∷ es) = cond (p (run_in e.1)) 1 0 + held es

  -- how many of the runs pass that updates write
  abbrev pub written : List Update → ℕ
  written [] = 0
  written (u ∷ us) = weight (run_of u.body) + written us

  count_items : (items : Items) → count_by p (item_runs items) ≡ held items
  count_items [] = refl
  count_items (e ∷ es) = sum_by-cons (λ run. cond (p run) 1 0) (run_in e.1) (item_runs es) ∙ ap (λ (n : ℕ). cond (p (run_in e.1)) 1 0 + n) (count_items es)

  count_front : (run : Option Run) (runs : List Run) → count_by p (front_run run runs) ≡ weight run + count_by p runs
  count_front None runs = omega arith
  count_front (Some run) runs = sum_by-cons (λ run. cond (p run) 1 0) run runs

  pub count_log : (us : List Update) → count_by p (log_runs us) ≡ written us
  count_log [] = refl
  count_log (u ∷ us) = count_front (run_of u.body) (log_runs us) ∙ ap (λ (n : ℕ). weight (run_of u.body) + n) (count_log us)

  pub count_all : (items : Items) (log : List Update) → count_by p (item_runs items ++ log_runs log) ≡ held items + written log
  count_all items log = omega (arith, sum_by-append (λ run. cond (p run) 1 0) (item_runs items) (log_runs log), count_items items, count_log log)

  pub written-append : (xs ys : List Update) → written (xs ++ ys) ≡ written xs + written ys
  written-append [] ys = omega arith
  written-append (u ∷ xs) ys = omega (arith, written-append xs ys)

  pub any_item : (items : Items) → list_any (λ x. p (run_in x.1)) items ≡ not (held items == 0)
  any_item [] = refl
  any_item (e ∷ es) = more (p (run_in e.1)) _ _ (any_item es)

  any_front : (run : Option Run) (runs : List Run) (n : ℕ) → list_any p runs ≡ not (n == 0) → list_any p (front_run run runs) ≡ not (weight run + n == 0)
  any_front None runs n is = grind (arith, nat_tests)
  any_front (Some run) runs n is = more (p run) _ _ is

  pub any_log : (us : List Update) → list_any p (log_runs us) ≡ not (written us == 0)
  any_log [] = refl
  any_log (u ∷ us) = any_front (run_of u.body) (log_runs us) (written us) (any_log us)

  pub found_most : (key : List ℕ) (items : Items) → has (slot_in items key) ≤ held items
  found_most key [] = omega arith
  found_most key (e ∷ es) =
      elim (eq_by_cmp order key e.0) as (λ b. has (cond b (Some e.1) (slot_in es key)) ≤ cond (p (run_in e.1)) 1 0 + held es) [
        | true ↦ omega arith
        | false ↦ omega (arith, found_most key es)
      ]

  put_most : (key : List ℕ) (new : Slot) (items : Items) → held (entries.put order key new items) ≤ held items + cond (p (run_in new)) 1 0
  put_most key new [] = omega arith
  put_most key new (e ∷ es) =
      elim (order key e.0) as
      (λ o. held (entries.by_order o ((key, new) ∷ e ∷ es) ((e.0, new) ∷ es) (e ∷ entries.put order key new es))
      ≤ held (e ∷ es) + cond (p (run_in new)) 1 0) [
        | Less ↦ omega arith
        | Equal ↦ omega arith
        | Greater ↦ omega (arith, put_most key new es)
      ]

  without_most : (key : List ℕ) (items : Items) → held (without key items) ≤ held items
  without_most key [] = omega arith
  without_most key (e ∷ es) =
      elim (same_key key e.0) as (λ b. held (cond (not b) (e ∷ without key es) (without key es)) ≤ held (e ∷ es)) [
        | true ↦ omega (arith, without_most key es)
        | false ↦ omega (arith, without_most key es)
      ]

  with_most : (key : List ℕ) (new : Option Slot) (items : Items) → held (with_slot key new items) ≤ held items + has new
  with_most key None items = omega (arith, without_most key items)
  with_most key (Some new) items = put_most key new items

  -- what an update writes and the item before it, against what it frees and the item behind it
  after_count : (n : ℕ) (body : Body) (old : Option Slot) → has (slot_after n body old) + weight (freed_by body old) ≡ weight (run_of body) + has old
  after_count n (Put flags until run delta) None = refl
  after_count n (Put flags until run delta) (Some old) = refl
  after_count n Remove None = refl
  after_count n Remove (Some old) = refl
  after_count n (Touch until) None = refl
  after_count n (Touch until) (Some old) = omega arith

  freed_most : (body : Body) (old : Option Slot) → weight (freed_by body old) ≤ has old
  freed_most (Put flags until run delta) None = omega arith
  freed_most (Put flags until run delta) (Some old) = omega arith
  freed_most Remove None = omega arith
  freed_most Remove (Some old) = omega arith
  freed_most (Touch until) old = omega arith

  -- what an update frees belongs to an item
  pub freed_held : (u : Update) (items : Items) → u.frees ≡ freed_by u.body (slot_in items u.key) → weight u.frees ≤ held items
  freed_held u items frees = rw frees (omega (arith, freed_most u.body (slot_in items u.key), found_most u.key items))

  -- an address of an item behind an update is that of an item before it, or of the run that the update writes
  settled_most : (u : Update) (items : Items) → held (item_settled u items) ≤ held items + (held items + weight (run_of u.body))
  settled_most u items =
      let old = slot_in items u.key in
      omega (arith, with_most u.key (slot_after u.number u.body old) items, after_count u.number u.body old, found_most u.key items)

  kept_all : (key : List ℕ) (items : Items) → slot_in items key ≡ None → held (without key items) ≡ held items
  kept_all key [] none = refl
  kept_all key (e ∷ es) none =
      elim (same_key key e.0) as (λ b. cond b (Some e.1) (slot_in es key) ≡ None → held (cond (not b) (e ∷ without key es) (without key es)) ≡ held (e ∷ es)) [
        | true ↦ λ is. absurd cc
        | false ↦ λ is. ap (λ (n : ℕ). cond (p (run_in e.1)) 1 0 + n) (kept_all key es is)
      ] none

  without_count : (key : List ℕ) (items : Items) → T (entries.is_sorted order items) → held (without key items) + has (slot_in items key) ≡ held items
  without_count key [] sorted = refl
  without_count key (e ∷ es) sorted =
      elim (same_key key e.0) as
      (λ b. same_key key e.0 ≡ b → held (cond (not b) (e ∷ without key es) (without key es)) + has
      (cond b (Some e.1) (slot_in es key)) ≡ held (e ∷ es)) [
        | true ↦ λ is. omega (arith, kept_all key es (find_none key e.0 es (inr ((Equal-is _).0 is)) (first _ _ sorted)))
        | false ↦ λ is. omega (arith, without_count key es (second _ _ sorted))
      ] refl

  put_count : (key : List ℕ) (new : Slot) (items : Items) → T (entries.is_sorted order items)
      → held (entries.put order key new items) + has (slot_in items key) ≡ held items + cond (p (run_in new)) 1 0
  put_count key new [] sorted = omega arith
  put_count key new (e ∷ es) sorted =
      elim (order key e.0) as
      (λ o. order key e.0 ≡ o
      → held (entries.by_order o ((key, new) ∷ e ∷ es) ((e.0, new) ∷ es) (e ∷ entries.put order key new es)) + has
      (cond (is_eq o) (Some e.1) (slot_in es key)) ≡ held (e ∷ es) + cond (p (run_in new)) 1 0) [
        | Less ↦ λ is. omega (arith, ap has (find_none key e.0 es (inl is) (first _ _ sorted)))
        | Equal ↦ λ is. omega arith
        | Greater ↦ λ is. omega (arith, put_count key new es (second _ _ sorted))
      ] refl

  with_count : (key : List ℕ) (new : Option Slot) (items : Items) → T (entries.is_sorted order items)
      → held (with_slot key new items) + has (slot_in items key) ≡ held items + has new
  with_count key None items sorted = omega (arith, without_count key items sorted)
  with_count key (Some new) items sorted = put_count key new items sorted

  -- an update takes the run from the items that it frees, and brings the one that it writes
  pub settled_count : (u : Update) (items : Items) → T (entries.is_sorted (slice_cmp nat_cmp) items)
      → u.frees ≡ freed_by u.body (slot_in items u.key) → held (item_settled u items) + weight u.frees
      ≡ held items + weight (run_of u.body)
  settled_count u items sorted frees =
      let old = slot_in items u.key in
      rw frees (omega (arith, with_count u.key (slot_after u.number u.body old) items sorted, after_count u.number u.body old))

pub weight-in_run : (a : ℕ) (run : Option Run) → weight (in_run a) run ≡ cond (in_some_run a run) 1 0
weight-in_run a None = refl
weight-in_run a (Some run) = refl

pub any_written : (a : ℕ) (us : List Update) → list_any (λ u. in_some_run a (run_of u.body)) us ≡ not (written (in_run a) us == 0)
any_written a [] = refl
any_written a (u ∷ us) = rw weight-in_run (more (in_some_run a (run_of u.body)) _ _ (any_written a us))

-- an address that the log's updates free is in a run
pub freed_owned : (a : ℕ) (items : Items) (log : List Update) → FreeTheirs items log
    → list_any (λ u. in_some_run a u.frees) log ≡ true → 1 ≤ held (in_run a) items + written (in_run a) log
freed_owned a items [] frees some = cc
freed_owned a items (u ∷ us) frees some = here (or_cases _ _ some) (freed_owned a (item_settled u items) us frees.1) where
  here : (in_some_run a u.frees ≡ true) ⊎ (list_any (λ u. in_some_run a u.frees) us ≡ true)
      → (list_any (λ u. in_some_run a u.frees) us ≡ true → 1 ≤ held (in_run a) (item_settled u items) + written
      (in_run a) us) → 1 ≤ held (in_run a) items + written (in_run a) (u ∷ us)
  here (inl now) later = let one : weight (in_run a) u.frees ≡ 1 = weight-in_run a u.frees
      ∙ ap (λ (b : Bool). cond b 1 0) now in omega (arith, freed_held (in_run a) u items frees.0)
  here (inr then) later = omega (arith, later then, settled_most (in_run a) u items)

-- the run ends behind the space
abbrev pub outside : ℕ → Run → Bool
outside space run = nat_lt space (run.at + run.len)

pub none_outside : (space : ℕ) (runs : List Run) → All (λ run. run.at + run.len ≤ space) runs → count_by (outside space) runs ≡ 0
none_outside space [] inside = refl
none_outside space (run ∷ runs) inside =
    let here = All-head (λ run. run.at + run.len ≤ space) run runs inside in
    let rest = none_outside space runs (All-tail (λ run. run.at + run.len ≤ space) run runs inside) in
    sum_by-cons (λ run. cond (outside space run) 1 0) run runs ∙ grind (arith, nat_tests)

pub all_inside : (space : ℕ) (runs : List Run) → count_by (outside space) runs ≡ 0 → All (λ run. run.at + run.len ≤ space) runs
all_inside space [] none = All-nil (λ run. run.at + run.len ≤ space)
all_inside space (run ∷ runs) none =
    let both : cond (outside space run) 1 0 + count_by (outside space) runs ≡ 0 = sym (sum_by-cons (λ run. cond (outside space run) 1 0) run runs) ∙ none in
    All-cons (λ run. run.at + run.len ≤ space) run runs (grind (arith, nat_tests)) (all_inside space runs (omega arith))

-- an address behind the space is in no run that ends in it
pub none_behind : (space a : ℕ) (runs : List Run) → space ≤ a → count_by (in_run a) runs ≤ count_by (outside space) runs
none_behind space a runs behind = sum_by-le-sum_by (λ run. cond (in_run a run) 1 0) (λ run. cond (outside space run) 1 0) runs (λ run. grind (arith, nat_tests))
