-- Which run the item on a key has behind updates.
use Rattle.std.proofs.Common.{◌≡◌, ℕ, zero, suc, ◌+◌, ◌-◌, ◌≤◌, nat_le, Bool, true, false, if◌then◌else◌, List, [], ◌∷◌}
use Rattle.std.proofs.Common.{◌++◌, take, drop, length, Option, Some, None, refl, sym, ap, ◌∙◌, arith}
use Rattle.std.specs.Option.{option_map}
use Rattle.std.proofs.lemmas.Bool.Decides.{nat_tests}
use Rattle.std.proofs.lemmas.List.{take-append-drop, take_all}
use Rattle.group_types.specs.Lists.{same_key}
use Rattle.group_types.specs.declared.run.Run.{Run}
use Rattle.group_message.specs.declared.update.Body.{Body}
use Rattle.group_message.specs.declared.update.Body.TheVariants.{Put, Remove, Touch}
use Rattle.group_message.specs.declared.update.Update.{Update}
use Rattle.item_index.specs.declared.slot.Slot.{Slot}
use Rattle.item_index.specs.Keys.{Keys, entry_slot}
use Rattle.request_log.specs.Logged.{IsNumbered}
use Rattle.group_run.specs.Replica.{Items, Replica, applied_to, freed_by, item_settled, items_after, last_of, run_in, slot_after, slot_in}
use Rattle.law_updates.proofs.Keys.{key-eq, slot_in-with}
use Rattle.partition_replica.proofs.Keys.{equal, slot_in-items_in}
use Rattle.partition_replica.specs.Inside.{items_in}
use Rattle.partition_replica.specs.Coming.{freed_from, item_run_on, run_after, run_behind, runs_behind}

after_run : (n : ℕ) (body : Body) (old : Option Slot) → option_map run_in (slot_after n body old) ≡ run_after body (option_map run_in old)
after_run n (Put flags until run delta) old = refl
after_run n Remove old = refl
after_run n (Touch until) None = refl
after_run n (Touch until) (Some slot) = refl

pub run_settled : (u : Update) (items : Items) (key : List ℕ) → item_run_on (item_settled u items) key ≡ run_behind key u (item_run_on items key)
run_settled u items key =
    ap (option_map run_in) (slot_in-with u.key key (slot_after u.number u.body (slot_in items u.key)) items) ∙ by (same_key u.key key) refl where
      by : (b : Bool) → same_key u.key key ≡ b
          → option_map run_in (if b then slot_after u.number u.body (slot_in items u.key) else slot_in items key)
          ≡ (if b then run_after u.body (item_run_on items key) else item_run_on items key)
      by true same = after_run u.number u.body (slot_in items u.key) ∙ ap (λ (k : List ℕ). run_after u.body (item_run_on items k)) (key-eq u.key key same)
      by false other = refl

-- keys whose ends differ
pub ends_differ : (one other : List ℕ) (alike : Bool) → (one ≡ other → alike ≡ true) → alike ≡ false → false ≡ same_key one other
ends_differ one other alike same differ = by (same_key one other) refl where
  by : (is : Bool) → same_key one other ≡ is → false ≡ is
  by true is = sym differ ∙ same (key-eq one other is)
  by false is = refl

pub runs_settled : (us : List Update) (items : Items) (key : List ℕ) → item_run_on (items_after items us) key ≡ runs_behind key us (item_run_on items key)
runs_settled [] items key = refl
runs_settled (u ∷ us) items key = runs_settled us (item_settled u items) key ∙ ap (runs_behind key us) (run_settled u items key)

pub freed_is : (body : Body) (slot : Option Slot) → freed_by body slot ≡ freed_from body (option_map run_in slot)
freed_is (Put flags until run delta) None = refl
freed_is (Put flags until run delta) (Some slot) = refl
freed_is Remove None = refl
freed_is Remove (Some slot) = refl
freed_is (Touch until) slot = refl

-- the run that the updates up to a number leave on a key
abbrev pub runs_to : ℕ → List ℕ → List Update → Option Run → Option Run
runs_to n key [] old = old
runs_to n key (u ∷ us) old = runs_to n key us (if nat_le u.number n then run_behind key u old else old)

pub runs_end : (n : ℕ) (key : List ℕ) (left : List Update) (run all : Option Run) → length left ≡ 0 → runs_to n key left run ≡ all → run ≡ all
runs_end n key [] run all none is = is
runs_end n key (u ∷ left) run all none is = absurd (omega arith)

module _ (n : ℕ) (key : List ℕ) where
  runs_above : (log : List Update) (base : ℕ) (old : Option Run) → IsNumbered (λ u. u.number) base log → n ≤ base → runs_to n key log old ≡ old
  runs_above [] base old numbered le = refl
  runs_above (u ∷ us) base old numbered le =
      let out : nat_le u.number n ≡ false = grind (arith, nat_tests, numbered.0) in
      rw out (runs_above us (base + 1) old numbered.1 (omega arith))

  pub runs_to_is : (k : ℕ) (log : List Update) (base : ℕ) (old : Option Run) → IsNumbered (λ u. u.number) base log → k ≡ n - base
      → runs_to n key log old ≡ runs_behind key (take k log) old
  runs_to_is zero log base old numbered is = runs_above log base old numbered (omega arith)
  runs_to_is (suc k) [] base old numbered is = refl
  runs_to_is (suc k) (u ∷ us) base old numbered is =
      let out : nat_le u.number n ≡ true = grind (arith, nat_tests, numbered.0) in
      rw out (runs_to_is k us (base + 1) (run_behind key u old) numbered.1 (omega arith))

pub run_once_is : (n : ℕ) (r : Replica) (key : List ℕ) → IsNumbered (λ u. u.number) r.applied r.log
    → runs_to n key r.log (item_run_on r.items key) ≡ item_run_on (applied_to n r).items key
run_once_is n r key numbered =
    runs_to_is n key (n - r.applied) r.log r.applied (item_run_on r.items key) numbered refl ∙ sym (runs_settled (take (n - r.applied) r.log) r.items key)

items_after-append : (items : Items) (xs ys : List Update) → items_after (items_after items xs) ys ≡ items_after items (xs ++ ys)
items_after-append items [] ys = refl
items_after-append items (x ∷ xs) ys = items_after-append (item_settled x items) xs ys

-- what a log leaves doesn't depend on how much of it is applied
pub items_whole : (n : ℕ) (r : Replica) → items_after (applied_to n r).items (applied_to n r).log ≡ items_after r.items r.log
items_whole n r =
    items_after-append r.items (take (n - r.applied) r.log) (drop (n - r.applied) r.log) ∙ ap (items_after r.items) (take-append-drop (n - r.applied) r.log)

pub items_last : (n : ℕ) (r : Replica) → n ≡ last_of r → (applied_to n r).items ≡ items_after r.items r.log
items_last n r last = ap (items_after r.items) (take_all (n - r.applied) r.log (omega (arith, last)))

-- the run of the entry that an index lends
pub run_lent : (index : Keys (List ℕ)) (key : List ℕ) (slot : Option Slot) → slot ≡ entry_slot equal index key
    → option_map run_in slot ≡ item_run_on (items_in index) key
run_lent index key slot is = ap (option_map run_in) (is ∙ sym (slot_in-items_in index key))
