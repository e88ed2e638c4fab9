-- The laws of what the log shows.
use Rattle.std.proofs.Common.{ℕ, zero, suc, ◌≡◌, ◌+◌, ◌<◌, ◌≤◌, Bool, true, false, List, [], ◌∷◌, length, replicate}
use Rattle.std.proofs.Common.{take, Option, Some, None, if◌then◌else◌, refl, sym, ap, subst, ◌∙◌, arith}
use Rattle.std.specs.Prelude.{option_map, slice_get}
use Rattle.erasure_code.specs.Spaces.{bytes_at}
use Rattle.group_types.specs.Dimensions.{Dimensions, space_of}
use Rattle.group_types.specs.Hash.{home_of}
use Rattle.group_types.specs.Lists.{at}
use Rattle.group_types.specs.declared.run.Run.{Run}
use Rattle.group_types.specs.Each.{Each}
use Rattle.item_index.specs.declared.slot.Slot.{Slot}
use Rattle.memc_table.specs.Contents.{empty_table}
use Rattle.memc_table.specs.declared.holding.Holding.{Holding}
use Rattle.group_message.specs.declared.update.Body.{Body}
use Rattle.group_message.specs.declared.update.Update.{Update}
use Rattle.group_calls.specs.Log.{table_of}
use Rattle.group_calls.specs.declared.event.Event.{Event}
use Rattle.group_run.specs.Deciding.{is_touch}
use Rattle.group_run.specs.Headline.{AreApart, HasItsValue, IsItem, IsRun, HasClearRun}
use Rattle.group_run.specs.Meaning.{Logged, count_logged, cut_after, run_on, space_from, table_at, updates_from, updates_of, values_after}
use Rattle.group_run.specs.Replica.{Items, items_after, run_in, run_of, slot_in}
use Rattle.group_run.specs.World.{AskedCall, World, after}
use Rattle.law_updates.specs.Fine.{AreSteps, IsStep}
use Rattle.law_updates.specs.Right.{IsBodyOf, IsPut}
use Rattle.law_updates.specs.Store.{Store, StoreFits, held, held_in, no_store, store_after, store_from, store_with_update}
use Rattle.law_updates.proofs.Histories.{history-fits, steps-take, store-items}
use Rattle.law_updates.proofs.Keys.{OfSlot, each-slot, key-refl}
use Rattle.law_updates.proofs.Spaces.{length-bytes_at}
use Rattle.law_updates.proofs.Steps.{no_store-fits, right_updates_leave}
use Rattle.law_log.specs.Book.{book_of}
use Rattle.law_log.specs.Stands.{StandsAlways}
use Rattle.law_log.proofs.Books.{book-shape, book-world}
use Rattle.law_log.proofs.Ones.{log_is_tied}
use Rattle.law_log.proofs.Shown.{AreShown, IsShown, LogShows, LogShowsSettled, ValuesAreWritten}
use Rattle.law_log.proofs.Shows.{ShownIn, runs_of, shown_always}
use Rattle.law_log.proofs.Values.{runs-are, shown-long, shown-take, values-are}

-- an item of a store is the one that the table has
item-is : (size : ℕ) (space : List ℕ) (slot : Option Slot) (h : Option Holding) (run : Option Run) → length space ≡ size
    → OfSlot (λ x. x.at + x.len ≤ size) slot → h ≡ held_in space slot → run ≡ option_map run_in slot
    → IsItem slot h run
item-is size space None h run long inside holds is = subst (λ (x : Option Holding). IsItem None x run) (sym holds) tt
item-is size space (Some slot) h run long inside holds is =
    subst (λ (x : Option Holding). IsItem (Some slot) x run) (sym holds)
    (is, refl, refl, refl, sym (length-bytes_at slot.at slot.len space (omega (arith, long, inside))))

-- the update at a place, with the store before it
pub record ShownAt (s : Dimensions) (calls : List AskedCall) (d n m : ℕ) (store : Store) (us : List Update) (l : Logged) : Type 0 where
  pub update : Update
  pub step : IsStep s calls d (suc (n + m)) (store_from s d store (take m us)) update
  pub shown : IsShown s d (store_from s d store (take m us)) update l
  pub fits : StoreFits s (store_from s d store (take m us))

pub shown-at : (s : Dimensions) (calls : List AskedCall) (d n m : ℕ) (store : Store) (us : List Update) (ls : List Logged) (l : Logged) → StoreFits s store
    → AreSteps s calls d n store us → AreShown s d store us ls → slice_get ls m ≡ Some l
    → ShownAt s calls d n m store us l
shown-at s calls d n m store us [] l fits steps shown is = absurd (cc is)
shown-at s calls d n m store [] (x ∷ xs) l fits steps shown is = absurd shown
shown-at s calls d n zero store (u ∷ us) (x ∷ xs) l fits steps shown is =
    let same : x ≡ l = ap (λ (o : Option Logged). elim o [ None ↦ x | Some y ↦ y ]) is in
    record {
      update = u;
      fits = fits;
      step = subst (λ (k : ℕ). IsStep s calls d k store u) (omega arith) steps.0;
      shown = subst (IsShown s d store u) same shown.0;
    }
shown-at s calls d n (suc m) store (u ∷ us) (x ∷ xs) l fits steps shown is =
    let later = shown-at s calls d (suc n) m (store_with_update s d u store) us xs l
    ((right_updates_leave s d (suc n) store steps.0.call.op u fits steps.0.right).fits steps.0.fits.bytes) steps.1
    shown.1 is in
    record {
      update = later.update;
      fits = later.fits;
      shown = later.shown;
      step = subst (λ (k : ℕ). IsStep s calls d k (store_from s d (store_with_update s d u store) (take m us)) later.update) (omega arith) later.step;
    }

-- the run of an update that puts a value
put-of : (s : Dimensions) (store : Store) (touch : Bool) (leaves : Option Holding) (body : Body) (run : Run)
    → IsBodyOf s store touch leaves body → run_of body ≡ Some run
    → (h : Holding) × (leaves ≡ Some h) × (put : IsPut s store h body) × (put.run ≡ run)
put-of s store touch None body run is writes = absurd (cc (writes, ap run_of is))
put-of s store true (Some h) body run is writes = absurd (cc (writes, ap run_of is))
put-of s store false (Some h) body run is writes =
    let both : Some is.run ≡ Some run = sym (ap run_of is.is) ∙ writes in
    (h, refl, is, ap (λ (o : Option Run). elim o [ None ↦ run | Some y ↦ y ]) both)

apart-slot : (run other : Run) (slot : Option Slot) → OfSlot (λ x. AreApart run (run_in x)) slot → option_map run_in slot ≡ Some other → AreApart run other
apart-slot run other None apart is = absurd (cc is)
apart-slot run other (Some slot) apart is = subst (AreApart run) (ap (λ (o : Option Run). elim o [ None ↦ other | Some y ↦ y ]) is) apart

-- the slot of what is held
slot-of : (space : List ℕ) (slot : Option Slot) (h : Holding) → held_in space slot ≡ Some h → (x : Slot)
    × (slot ≡ Some x) × (bytes_at x.at x.len space ≡ h.item.value)
slot-of space None h is = absurd (cc is)
slot-of space (Some x) h is = (x, refl, ap (λ (o : Option Holding). elim o as (λ _. List ℕ) [ None ↦ [] | Some y ↦ y.item.value ]) is)

module _ (s : Dimensions) (always : StandsAlways s) (es : List Event) (run : IsRun s es) (d : ℕ) (low : d < s.k) where
  abbrev w : World
  w = after s es

  abbrev settled : List Update
  settled = at [] (book_of s es).history.settled d

  abbrev calls : List AskedCall
  calls = (book_of s es).issued

  shape-is : (after s es).shape ≡ s
  shape-is = ap (λ (x : World). x.shape) (sym (book-world s es)) ∙ book-shape s es

  steps : AreSteps s (book_of s es).issued d 0 (no_store s) settled
  steps = ((always es run).settled d low).steps

  shown-in : ShownIn s d (after s es).log settled
  shown-in = subst (λ (x : World). ShownIn s d x.log settled) (book-world s es)
      (subst (λ (t : Dimensions). ShownIn t d (book_of s es).history.world.log settled) (book-shape s es)
      ((shown_always s always es run).shown d (subst (λ (t : Dimensions). d < t.k) (sym (book-shape s es)) low)))

  updates-is : updates_of w d ≡ updates_from s.k d (empty_table s.k) (runs_of settled) (after s es).log
  updates-is =
      ap (λ (t : Dimensions). updates_from t.k d (empty_table t.k) (at [] (after s es).places d) (after s es).log) shape-is
      ∙ ap (λ (rs : List (Option Run)). updates_from s.k d (empty_table s.k) rs (after s es).log) ((log_is_tied s always es run).placed d)

  shown : AreShown s d (no_store s) settled (updates_of w d)
  shown = subst (AreShown s d (no_store s) settled) (sym updates-is) shown-in.shown

  many : count_logged w d ≡ length settled
  many = shown-long s d (no_store s) settled (updates_of w d) shown

  fits : (n : ℕ) → StoreFits s (store_after s d (take n settled))
  fits n = history-fits s calls d (take n settled) (steps-take s calls d n 0 (no_store s) settled steps)

  tables : (n : ℕ) → n ≤ length settled → (key : List ℕ) → home_of key s.k ≡ d → (table_at w d n).items key ≡ held (store_after s d (take n settled)) key
  tables n within key home =
      ap (λ (t : Dimensions). (table_of (empty_table t.k) (cut_after t.k d n (after s es).log)).items key) shape-is
      ∙ shown-in.tables n within key home

  values : (n : ℕ) → values_after w d n ≡ (store_after s d (take n settled)).space
  values n =
      ap (λ (t : Dimensions). space_from (replicate (space_of t) 0) (take n (updates_of w d))) shape-is
      ∙ values-are s calls d 0 (no_store s) (take n settled) (take n (updates_of w d)) (no_store-fits s) (steps-take s calls d n 0 (no_store s) settled steps)
      (shown-take s d n (no_store s) settled (updates_of w d) shown)

  runs : (n : ℕ) (key : List ℕ) → run_on key None (take n (updates_of w d)) ≡ option_map run_in (slot_in (items_after [] (take n settled)) key)
  runs n key = runs-are s d key (no_store s) (take n settled) (take n (updates_of w d)) None (shown-take s d n (no_store s) settled (updates_of w d) shown) refl

  items-of : (n : ℕ) → (store_after s d (take n settled)).items ≡ items_after [] (take n settled)
  items-of n = store-items s d (no_store s) (take n settled)

  items : (n : ℕ) → n ≤ length settled → (key : List ℕ) → home_of key s.k ≡ d
      → IsItem (slot_in (items_after [] (take n settled)) key) ((table_at w d n).items key) (run_on key None (take n (updates_of w d)))
  items n within key home =
      item-is (space_of s) (store_after s d (take n settled)).space (slot_in (items_after [] (take n settled)) key) ((table_at w d n).items key)
      (run_on key None (take n (updates_of w d))) (fits n).long
      (each-slot (λ x. x.at + x.len ≤ space_of s) key (items_after [] (take n settled))
      (subst (Each (λ x. x.1.at + x.1.len ≤ space_of s)) (items-of n) (fits n).inside))
      (tables n within key home ∙ ap (λ (xs : Items). held_in (store_after s d (take n settled)).space (slot_in xs key)) (items-of n))
      (runs n key)

  pub shows : LogShows s (after s es) d (at [] (book_of s es).history.settled d)
  shows = record { updates = shown; tables = tables; values = values; items = items }

  -- an update that has a run is written at it
  run-written : (n : ℕ) (l : Logged) (r : Run) → slice_get (updates_of w d) n ≡ Some l → l.run ≡ Some r → (h : Holding)
      × (l.item ≡ Some h) × HasClearRun w d n r h
  run-written n l r there is =
      let found = shown-at s calls d 0 n (no_store s) settled (updates_of w d) l (no_store-fits s) steps shown there in
      let store : Store = store_after s d (take n settled) in
      let right = found.step.right in
      let put = put-of s store (is_touch found.step.call.op.act) right.leaves found.update.body r right.body (found.shown.logged.run ∙ is) in
      let leaves = right_updates_leave s d (suc (0 + n)) store found.step.call.op found.update found.fits right in
      let item : l.item ≡ Some put.0
      = found.shown.item ∙ leaves.holds found.update.key
      ∙ ap (λ (b : Bool). if b then right.leaves else held store found.update.key) (key-refl found.update.key)
      ∙ put.1 in
      let fits_in : r.at + r.len ≤ space_of s = subst (λ (x : Run). x.at + x.len ≤ space_of s) put.3 put.2.fits.inside in (
        put.0,
        item,
        record {
          inside = subst (λ (t : Dimensions). r.at + r.len ≤ space_of t) (sym shape-is) fits_in;
          long = subst (λ (x : Run). x.len ≡ length put.0.item.value) put.3 put.2.fits.long;
          apart = λ key other on. apart-slot r other (slot_in store.items key)
              (each-slot (λ x. AreApart r (run_in x)) key store.items (subst (λ (x : Run). Each (λ y. AreApart x (run_in y.1)) store.items) put.3 put.2.clear))
              (ap (λ (xs : Items). option_map run_in (slot_in xs key)) (items-of n) ∙ sym (runs n key) ∙ on);
        },
      )

  -- an item has its value
  item-written : (n : ℕ) (key : List ℕ) (h : Holding) → n ≤ count_logged w d → home_of key w.shape.k ≡ d
      → (table_at w d n).items key ≡ Some h → HasItsValue w d n key h
  item-written n key h within home holds =
      let store : Store = store_after s d (take n settled) in
      let low_enough : n ≤ length settled = let long = many in omega (arith, within) in
      let at_home : home_of key s.k ≡ d = ap (λ (t : Dimensions). home_of key t.k) (sym shape-is) ∙ home in
      let found = slot-of store.space (slot_in store.items key) h (sym (tables n low_enough key at_home) ∙ holds) in
      record {
        run = run_in found.0;
        at_run = runs n key ∙ ap (λ (xs : Items). option_map run_in (slot_in xs key)) (sym (items-of n)) ∙ ap (option_map run_in) found.1;
        value = ap (bytes_at found.0.at found.0.len) (values n) ∙ found.2;
      }

pub log_shows_settled : LogShowsSettled
log_shows_settled s always es run d low = shows s always es run d low

pub values_are_written : ValuesAreWritten
values_are_written s always es run = record {
  runs = λ d n l r low there is. run-written s always es run d (within d low) n l r there is;
  items = λ d n key h low reached home holds. item-written s always es run d (within d low) n key h reached home holds;
} where
  within : (d : ℕ) → d < (after s es).shape.k → d < s.k
  within d low = subst (λ (t : Dimensions). d < t.k) (ap (λ (x : World). x.shape) (sym (book-world s es)) ∙ book-shape s es) low
