-- The items of a group at rest are those of its log's table.
use Rattle.std.proofs.Common.{ℕ, zero, suc, ◌≡◌, ◌≢◌, ◌<◌, ◌≤◌, ◌+◌, Bool, true, false, cond, List, [], ◌∷◌, length}
use Rattle.std.proofs.Common.{AllPairs, Option, Some, None, if◌then◌else◌, ◌⊎◌, inl, inr, refl, sym, ap, subst, ◌∙◌}
use Rattle.std.proofs.Common.{arith}
use Rattle.std.specs.Prelude.{All, Contains, drop}
use Rattle.std.proofs.lemmas.List.Elements.{All-drop, All-take}
use Rattle.std.specs.List.{range_with_len}
use Rattle.std.proofs.lemmas.Bool.{cases_lt}
use Rattle.group_types.specs.Dimensions.{Dimensions, space_of}
use Rattle.group_types.specs.Hash.{home_of}
use Rattle.group_types.specs.Lists.{same_key}
use Rattle.group_types.specs.Names.{IsProcess, of_rank}
use Rattle.group_types.specs.declared.process.ProcessId.{ProcessId}
use Rattle.item_index.specs.declared.slot.Slot.{Slot}
use Rattle.memc_table.specs.declared.holding.Holding.{Holding}
use Rattle.group_message.specs.declared.update.Update.{Update}
use Rattle.group_calls.specs.declared.event.Event.{Event}
use Rattle.erasure_code.specs.Spaces.{bytes_at}
use Rattle.group_run.specs.Applying.{replica_of}
use Rattle.group_run.specs.Deciding.{held_as}
use Rattle.group_run.specs.Headline.{IsSettled, KeepsAll}
use Rattle.group_run.specs.Meaning.{HasTakenOver, Heads, is_dead, process_of}
use Rattle.group_run.specs.Replica.{Items, items_after, slot_in}
use Rattle.group_run.specs.World.{World, after, opening}
use Rattle.law_histories.proofs.Headed.{rank-in}
use Rattle.law_updates.specs.Store.{StoreFits, held, held_in, no_store, store_after}
use Rattle.law_updates.proofs.Histories.{history-fits, store-items}
use Rattle.law_updates.proofs.Keys.{key-eq, key-ne, key-refl}
use Rattle.law_updates.proofs.Spaces.{length-bytes_at}
use Rattle.law_moves.proofs.Reading.{some-same}
use Rattle.law_log.specs.Book.{book_of}
use Rattle.law_log.proofs.Calls.{each-contained}
use Rattle.law_headline.proofs.All.{whole-always}
use Rattle.law_headline.proofs.Headlines.{headline_always}
use Rattle.law_headline.proofs.Promises.{stands-always}
use Rattle.group_eras.specs.Items.{first_living, head_of, settled_items}
use Rattle.group_eras.proofs.Draining.{shape-after}
use Rattle.group_eras.proofs.Resting.{Rests, rests-items, settled_of, table_after_run, ties-of}

-- the first that lives of a partition is its head
first-is : (w : World) (d r a n : ℕ) → a ≤ r → r < a + n → is_dead w (of_rank d r) ≡ false
    → ((q : ℕ) → q < r → is_dead w (of_rank d q) ≡ true) → first_living w d (range_with_len a n) ≡ r
first-is w d r a zero low high lives lower = absurd (omega (arith, low, high))
first-is w d r a (suc n) low high lives lower =
    by (is_dead w (of_rank d a)) refl (λ above. first-is w d r (a + 1) n above (omega (arith, high)) lives lower) where
      by : (b : Bool) → is_dead w (of_rank d a) ≡ b → (a + 1 ≤ r → first_living w d (range_with_len (a + 1) n) ≡ r)
          → (if b then first_living w d (range_with_len (a + 1) n) else a) ≡ r
      by true is later = later (above (cases_lt a r)) where
        above : (a < r) ⊎ (r ≤ a) → a + 1 ≤ r
        above (inl less) = omega (arith, less)
        above (inr most) = let same : a ≡ r = omega (arith, low, most) in absurd (cc (is, ap (λ (q : ℕ). is_dead w (of_rank d q)) same, lives))
      by false is later = equal (cases_lt a r) where
        equal : (a < r) ⊎ (r ≤ a) → a ≡ r
        equal (inl less) = absurd (cc (is, lower a less))
        equal (inr most) = omega (arith, low, most)

pub head-is : (w : World) (d r : ℕ) → Heads w d r → head_of w d ≡ of_rank d r
head-is w d r heads = let within = heads.within in
    ap (of_rank d) (first-is w d r 0 (suc w.shape.m) (omega arith) (omega (arith, within)) heads.lives heads.lowest)

-- an item stands under its key, and what stands under a key is an item
abbrev KeysDiffer : List ℕ × Slot → List ℕ × Slot → Type 0
KeysDiffer x y = x.0 ≢ y.0

found-key : (items : Items) (x : List ℕ × Slot) → AllPairs KeysDiffer items → Contains items x → slot_in items x.0 ≡ Some x.1
found-key [] x once there = absurd (let low = there.1 in omega (arith, low))
found-key (y ∷ ys) x once (zero, low, is) =
    ap (λ (z : List ℕ × Slot). cond (same_key x.0 z.0) (Some z.1) (slot_in ys x.0)) is ∙ ap (λ (b : Bool). cond b (Some x.1) (slot_in ys x.0)) (key-refl x.0)
found-key (y ∷ ys) x once (suc i, low, is) =
    let other : x.0 ≢ y.0 = λ same. once 0 (suc i) x (omega arith) low (sym same ∙ sym (ap (λ (z : List ℕ × Slot). z.0) is)) in
    ap (λ (b : Bool). cond b (Some y.1) (slot_in ys x.0)) (key-ne x.0 y.0 other)
    ∙ found-key ys x (λ a b z before below. once (suc a) (suc b) z (omega (arith, before)) (omega (arith, below))) (i, omega (arith, low), is)

pub key-found : (items : Items) (key : List ℕ) (slot : Slot) → slot_in items key ≡ Some slot → Contains items (key, slot)
key-found [] key slot is = absurd (cc is)
key-found (y ∷ ys) key slot is = by (same_key key y.0) refl is (key-found ys key slot) where
  by : (b : Bool) → same_key key y.0 ≡ b → cond b (Some y.1) (slot_in ys key) ≡ Some slot
      → (slot_in ys key ≡ Some slot → Contains ys (key, slot)) → Contains (y ∷ ys) (key, slot)
  by true same is later = (0, omega arith, λ i. (sym (key-eq key y.0 same) i, some-same y.1 slot is i))
  by false same is later = let rest = later is in (suc rest.0, (let low = rest.1 in omega (arith, low)), rest.2)

module _ (s : Dimensions) (es : List Event) (rests : Rests s es) (d : ℕ) (below : d < s.k) where
  abbrev pub w : World
  w = after s es

  shape : w.shape ≡ s
  shape = shape-after (opening s) es

  abbrev pub rank : ℕ
  rank = (rests-items s es rests d below).0

  pub heads : Heads w d rank
  heads = (rests-items s es rests d below).1

  pub taken-over : HasTakenOver w d rank
  taken-over = (rests-items s es rests d below).2

  pub head : head_of w d ≡ of_rank d rank
  head = head-is w d rank heads

  pub head-in : IsProcess w.shape (of_rank d rank)
  head-in = rank-in w.shape d rank (subst (λ (t : Dimensions). d < t.k) (sym shape) below) heads.within

  abbrev pub us : List Update
  us = settled_of s es d

  pub items-are : settled_items w d ≡ items_after [] us
  items-are = ap (λ (p : ProcessId). (replica_of (process_of w p) d).items) head ∙ (rests-items s es rests d below).3

  keeps : KeepsAll w d (replica_of (process_of w (of_rank d rank)) d)
  keeps = by rank head-in heads.lives where
    by : (r : ℕ) → IsProcess w.shape (of_rank d r) → is_dead w (of_rank d r) ≡ false → KeepsAll w d (replica_of (process_of w (of_rank d r)) d)
    by zero pin lives = ((headline_always s es rests.run).not_undone rests.up).at_data d (pin, lives)
    by (suc i) pin lives = ((headline_always s es rests.run).not_undone rests.up).at_parity i d
        (subst (λ (t : Dimensions). d < t.k) (sym shape) below) (pin, lives)

  pub settled : IsSettled w d (replica_of (process_of w (head_of w d)) d)
  settled = subst (λ (p : ProcessId). IsSettled w d (replica_of (process_of w p) d)) (sym head) keeps.settled

  abbrev pub space : List ℕ
  space = (store_after s d us).space

  fits : StoreFits s (store_after s d us)
  fits = history-fits s (book_of s es).issued d us ((stands-always s (whole-always s) es rests.run).settled d below).steps

  store-is : (store_after s d us).items ≡ settled_items w d
  store-is = store-items s d (no_store s) us ∙ sym items-are

  table-at : (key : List ℕ) → home_of key s.k ≡ d → (table_after_run s es).items key ≡ held_in space (slot_in (settled_items w d) key)
  table-at key home =
      (ties-of s es rests.run).items key ∙ ap (λ (e : ℕ). held (store_after s e (settled_of s es e)) key) home
      ∙ ap (λ (items : Items). held_in space (slot_in items key)) store-is

  -- an item of the head is in the table, with as many bytes as its slot says
  pub record InTable (x : List ℕ × Slot) : Type 0 where
    pub home : home_of x.0 s.k ≡ d
    pub there : (table_after_run s es).items x.0 ≡ Some (held_as x.1 (bytes_at x.1.at x.1.len space))
    pub long : length (bytes_at x.1.at x.1.len space) ≡ x.1.len
    pub bytes : All (λ b. b < 256) (bytes_at x.1.at x.1.len space)

  pub in-table : (x : List ℕ × Slot) → Contains (settled_items w d) x → InTable x
  in-table x there =
      let home : home_of x.0 s.k ≡ d = ap (λ (t : Dimensions). home_of x.0 t.k) (sym shape)
      ∙ ap (λ (y : List ℕ × Slot). home_of y.0 w.shape.k) (sym there.2) ∙ settled.homes there.0 x there.1 in
      let inside = each-contained (λ y. y.1.at + y.1.len ≤ space_of s) (store_after s d us).items x fits.inside
      (subst (λ (items : Items). Contains items x) (sym store-is) there) in
      record {
        home = home;
        there = table-at x.0 home ∙ ap (held_in space) (found-key (settled_items w d) x settled.once there);
        long = length-bytes_at x.1.at x.1.len space (let long = fits.long in omega (arith, inside, long));
        bytes = All-take (λ b. b < 256) x.1.len (drop x.1.at space) (All-drop (λ b. b < 256) x.1.at space fits.bytes);
      }

  -- and an item of the table is the head's
  pub in-items : (key : List ℕ) (h : Holding) → home_of key s.k ≡ d → (table_after_run s es).items key ≡ Some h
      → (slot : Slot) × Contains (settled_items w d) (key, slot) × (h ≡ held_as slot (bytes_at slot.at slot.len space))
  in-items key h home is = by (slot_in (settled_items w d) key) refl (sym (table-at key home) ∙ is) where
    by : (o : Option Slot) → slot_in (settled_items w d) key ≡ o → held_in space o ≡ Some h → (slot : Slot)
        × Contains (settled_items w d) (key, slot) × (h ≡ held_as slot (bytes_at slot.at slot.len space))
    by None same is = absurd (cc is)
    by (Some slot) same is = (slot, key-found (settled_items w d) key slot same, sym (some-same (held_as slot (bytes_at slot.at slot.len space)) h is))
