-- The values and the runs that a log shows are those of the settled stores.
use Rattle.std.proofs.Common.{ℕ, zero, suc, ◌≡◌, ◌+◌, ◌≤◌, Bool, true, false, List, [], ◌∷◌, ◌++◌, length, take, drop}
use Rattle.std.proofs.Common.{Option, Some, None, if◌then◌else◌, refl, sym, ap, ap₂, ◌∙◌, arith}
use Rattle.std.specs.Prelude.{option_map}
use Rattle.std.proofs.lemmas.List.{append_assoc, drop_at, length-drop, length-take, take_at}
use Rattle.field_byte.specs.Vectors.{add_bytes}
use Rattle.field_byte.proofs.Vectors.{length-add_bytes}
use Rattle.erasure_code.specs.Spaces.{added_at, bytes_at}
use Rattle.group_types.specs.Dimensions.{Dimensions, space_of}
use Rattle.group_types.specs.Lists.{same_key}
use Rattle.group_types.specs.declared.process.ProcessId.TheVariants.{DataNode}
use Rattle.group_types.specs.declared.run.Run.{Run}
use Rattle.item_index.specs.declared.slot.Slot.{Slot}
use Rattle.memc_table.specs.Act.{key_of}
use Rattle.memc_table.specs.declared.holding.Holding.{Holding}
use Rattle.group_message.specs.declared.update.Body.{Body}
use Rattle.group_message.specs.declared.update.Body.TheVariants.{Put, Remove, Touch}
use Rattle.group_message.specs.declared.update.Update.{Update}
use Rattle.group_run.specs.Applying.{space_added}
use Rattle.group_run.specs.Fitting.{Writes}
use Rattle.group_run.specs.Meaning.{Logged, item_run_after, run_on, run_unless, space_from, written}
use Rattle.group_run.specs.Replica.{item_settled, items_after, run_in, run_of, slot_after, slot_in}
use Rattle.group_run.specs.World.{AskedCall}
use Rattle.law_updates.specs.Fine.{AreSteps}
use Rattle.law_updates.specs.Store.{Store, StoreFits, held, held_in, store_from, store_with_update}
use Rattle.law_updates.proofs.Histories.{step-writes}
use Rattle.law_updates.proofs.Keys.{key-eq, key-refl, slot_in-with}
use Rattle.law_updates.proofs.Steps.{right_updates_leave}
use Rattle.law_log.proofs.Shown.{AreShown}

-- the first of what is shown
pub shown-take : (s : Dimensions) (d n : ℕ) (store : Store) (us : List Update) (ls : List Logged)
    → AreShown s d store us ls → AreShown s d store (take n us) (take n ls)
shown-take s d zero store us ls shown = tt
shown-take s d (suc n) store [] [] shown = tt
shown-take s d (suc n) store [] (l ∷ ls) shown = absurd shown
shown-take s d (suc n) store (u ∷ us) [] shown = absurd shown
shown-take s d (suc n) store (u ∷ us) (l ∷ ls) shown = (shown.0, shown-take s d n (store_with_update s d u store) us ls shown.1)

-- as many as there are
pub shown-long : (s : Dimensions) (d : ℕ) (store : Store) (us : List Update) (ls : List Logged) → AreShown s d store us ls → length ls ≡ length us
shown-long s d store [] [] shown = refl
shown-long s d store [] (l ∷ ls) shown = absurd shown
shown-long s d store (u ∷ us) [] shown = absurd shown
shown-long s d store (u ∷ us) (l ∷ ls) shown = ap suc (shown-long s d (store_with_update s d u store) us ls shown.1)

-- what an update leaves on its own key
own-held : (s : Dimensions) (d : ℕ) (store : Store) (u : Update)
    → held (store_with_update s d u store) u.key ≡ held_in (space_added s (DataNode d) d u.body store.space)
    (slot_after u.number u.body (slot_in store.items u.key))
own-held s d store u =
    ap (held_in (space_added s (DataNode d) d u.body store.space))
    (slot_in-with u.key u.key (slot_after u.number u.body (slot_in store.items u.key)) store.items
    ∙ ap (λ (b : Bool). if b then slot_after u.number u.body (slot_in store.items u.key) else slot_in store.items u.key) (key-refl u.key))

-- the run of a key's item after an update on the key
run-kept : (space : List ℕ) (n : ℕ) (body : Body) (slot : Option Slot)
    → item_run_after (held_in space (slot_after n body slot)) (run_of body) (option_map run_in slot) ≡ option_map run_in (slot_after n body slot)
run-kept space n (Put flags until run delta) slot = refl
run-kept space n Remove slot = refl
run-kept space n (Touch until) None = refl
run-kept space n (Touch until) (Some slot) = refl

-- the run of a key is that of its item
pub runs-are : (s : Dimensions) (d : ℕ) (key : List ℕ) (store : Store) (us : List Update) (ls : List Logged) (old : Option Run) → AreShown s d store us ls
    → old ≡ option_map run_in (slot_in store.items key)
    → run_on key old ls ≡ option_map run_in (slot_in (items_after store.items us) key)
runs-are s d key store [] [] old shown is = is
runs-are s d key store [] (l ∷ ls) old shown is = absurd shown
runs-are s d key store (u ∷ us) [] old shown is = absurd shown
runs-are s d key store (u ∷ us) (l ∷ ls) old shown is = runs-are s d key (store_with_update s d u store) us ls
    (run_unless (same_key (key_of l.entry.op.act) key) l old) shown.1 next where
      same : same_key (key_of l.entry.op.act) key ≡ same_key u.key key
      same = ap (λ (k : List ℕ). same_key k key) (sym shown.0.logged.key)

      here : u.key ≡ key → item_run_after l.item l.run old ≡ option_map run_in (slot_after u.number u.body (slot_in store.items u.key))
      here on =
          ap₂ (λ (i : Option Holding) (r : Option Run). item_run_after i r old) (shown.0.item ∙ own-held s d store u) (sym shown.0.logged.run)
          ∙ ap (item_run_after (held_in (space_added s (DataNode d) d u.body store.space) (slot_after u.number u.body (slot_in store.items u.key)))
          (run_of u.body))
          (is ∙ ap (λ (k : List ℕ). option_map run_in (slot_in store.items k)) (sym on))
          ∙ run-kept (space_added s (DataNode d) d u.body store.space) u.number u.body (slot_in store.items u.key)

      by : (b : Bool) → same_key u.key key ≡ b
          → run_unless b l old ≡ option_map run_in (if b then slot_after u.number u.body (slot_in store.items u.key) else
          slot_in store.items key)
      by true test = here (key-eq u.key key test)
      by false test = is

      next : run_unless (same_key (key_of l.entry.op.act) key) l old ≡ option_map run_in (slot_in (item_settled u store.items) key)
      next =
          ap (λ (b : Bool). run_unless b l old) same ∙ by (same_key u.key key) refl
          ∙ ap (option_map run_in) (sym (slot_in-with u.key key (slot_after u.number u.body (slot_in store.items u.key)) store.items))

-- a value that stands at its run was written there
written-is : (run : Run) (delta space : List ℕ) → run.len ≡ length delta → run.at + run.len ≤ length space
    → take run.at space ++ bytes_at run.at run.len (added_at run.at delta space) ++ drop (run.at + run.len) space ≡ added_at run.at delta space
written-is run delta space long within =
    let front : List ℕ = take run.at space in
    let part : List ℕ = take (length delta) (drop run.at space) in
    let mid : List ℕ = add_bytes part delta in
    let back : List ℕ = drop (run.at + length delta) space in
    let part_long : length part ≡ length delta = omega (arith, length-take (length delta) (drop run.at space), length-drop run.at space) in
    let mid_long : length mid ≡ run.len = length-add_bytes part delta part_long ∙ part_long ∙ sym long in
    let front_long : length front ≡ run.at = omega (arith, length-take run.at space) in
    let inside : bytes_at run.at run.len (added_at run.at delta space) ≡ mid
    = ap (λ (xs : List ℕ). take run.len (drop run.at xs)) (append_assoc front mid back)
    ∙ ap (take run.len) (drop_at front (mid ++ back) run.at front_long) ∙ take_at mid back run.len mid_long in
    ap₂ (λ (xs : List ℕ) (n : ℕ). front ++ xs ++ drop (run.at + n) space) inside long

space-kept : (s : Dimensions) (d n : ℕ) (body : Body) (slot : Option Slot) (space : List ℕ) → length space ≡ space_of s → Writes (space_of s) body
    → written (run_of body) (held_in (space_added s (DataNode d) d body space) (slot_after n body slot)) space ≡ space_added s (DataNode d) d body space
space-kept s d n (Put flags until run delta) slot space long writes = written-is run delta space writes.long (omega (arith, long, writes.inside))
space-kept s d n Remove slot space long writes = refl
space-kept s d n (Touch until) slot space long writes = refl

-- the space that a log shows is the settled one
pub values-are : (s : Dimensions) (calls : List AskedCall) (d n : ℕ) (store : Store) (us : List Update) (ls : List Logged)
    → StoreFits s store → AreSteps s calls d n store us → AreShown s d store us ls
    → space_from store.space ls ≡ (store_from s d store us).space
values-are s calls d n store [] [] fits steps shown = refl
values-are s calls d n store [] (l ∷ ls) fits steps shown = absurd shown
values-are s calls d n store (u ∷ us) [] fits steps shown = absurd shown
values-are s calls d n store (u ∷ us) (l ∷ ls) fits steps shown =
    let here : written l.run l.item store.space ≡ (store_with_update s d u store).space
    = ap₂ (λ (r : Option Run) (i : Option Holding). written r i store.space) (sym shown.0.logged.run) (shown.0.item ∙ own-held s d store u)
    ∙ space-kept s d u.number u.body (slot_in store.items u.key) store.space fits.long (step-writes s calls d (suc n) store u fits steps.0) in
    ap (λ (space : List ℕ). space_from space ls) here
    ∙ values-are s calls d (suc n) (store_with_update s d u store) us ls
    ((right_updates_leave s d (suc n) store steps.0.call.op u fits steps.0.right).fits steps.0.fits.bytes) steps.1
    shown.1
