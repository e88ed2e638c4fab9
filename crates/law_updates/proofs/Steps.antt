-- After a right update its key holds what the ruling leaves, every other key holds what it held, and the
-- store still fits.
use Rattle.std.proofs.Common.{ℕ, ◌≡◌, ◌+◌, ◌<◌, ◌≤◌, Bool, true, false, List, [], ◌∷◌, length, Option, Some, None}
use Rattle.std.proofs.Common.{if◌then◌else◌, refl, sym, ap, subst, ◌∙◌, arith}
use Rattle.std.specs.Prelude.{All, replicate}
use Rattle.std.proofs.lemmas.List.{length-replicate}
use Rattle.field_byte.specs.Vectors.{add_bytes}
use Rattle.field_byte.proofs.Vectors.{AreBytes, AreBytes-add_bytes, length-add_bytes}
use Rattle.erasure_code.specs.Spaces.{added_at, bytes_at}
use Rattle.erasure_code.proofs.Lists.{get_or-zeros}
use Rattle.erasure_code.proofs.Sums.{length-added}
use Rattle.group_types.specs.Dimensions.{Dimensions, space_of}
use Rattle.group_types.specs.Lists.{same_key}
use Rattle.group_types.specs.declared.process.ProcessId.TheVariants.{DataNode}
use Rattle.group_types.specs.Each.{Each}
use Rattle.group_types.proofs.Eaches.{each-weaker, each-both}
use Rattle.item_index.specs.declared.slot.Slot.{Slot}
use Rattle.memc_table.specs.Act.{act_value, key_of}
use Rattle.memc_table.specs.Asked.{Asked}
use Rattle.memc_table.specs.Contents.{holding_at}
use Rattle.memc_table.specs.Expiry.{is_live, live_at}
use Rattle.memc_table.specs.declared.holding.Holding.{Holding}
use Rattle.memc_table.specs.declared.ruling.Ruling.TheVariants.{Accepted}
use Rattle.group_message.specs.declared.update.Body.{Body}
use Rattle.group_message.specs.declared.update.Body.TheVariants.{Touch}
use Rattle.group_message.specs.declared.update.Update.{Update}
use Rattle.group_run.specs.Applying.{space_added}
use Rattle.group_run.specs.Asking.{reply_from}
use Rattle.group_run.specs.Deciding.{held_as, is_touch}
use Rattle.group_run.specs.Headline.{AreApart}
use Rattle.group_run.specs.Replica.{Items, run_in, slot_after, slot_in}
use Rattle.law_updates.specs.Laws.{RightUpdatesLeave}
use Rattle.law_updates.proofs.Laws.{WritesBytes}
use Rattle.law_updates.specs.Right.{IsBodyOf, IsPut, IsRight}
use Rattle.law_updates.specs.Store.{Store, StoreFits, held, held_in, no_store, store_with_update}
use Rattle.law_updates.proofs.Keys.{OfSlot, each-slot, each-with, slot_in-with}
use Rattle.law_updates.proofs.Rules.{HoldsBytes, LeavesBytes, LeavesWell, RulesWell, rules-bytes, rules-well}
use Rattle.law_updates.proofs.Spaces.{apart-bytes, bytes-added, bytes-all, bytes-bytes_at, bytes-from, length-bytes_at, own-bytes}

-- an item whose run keeps its bytes is held as before
held-kept : (space other : List ℕ) (slot : Option Slot)
    → OfSlot (λ x. bytes_at x.at x.len other ≡ bytes_at x.at x.len space) slot → held_in other slot ≡ held_in space slot
held-kept space other None same = refl
held-kept space other (Some slot) same = ap (λ (bytes : List ℕ). Some (held_as slot bytes)) same

-- what is live is held
live-held : (t : ℕ) (holds : Option Holding) (h : Holding) → live_at t holds ≡ Some h → holds ≡ Some h
live-held t None h is = is
live-held t (Some k) h is = by (is_live t k.until) is where
  by : (b : Bool) → (if b then Some k else None) ≡ Some h → Some k ≡ Some h
  by true is = is
  by false is = absurd (cc is)

value-of : Holding → Option Holding → Holding
value-of d None = d
value-of d (Some h) = h

module _ (s : Dimensions) (d n : ℕ) (store : Store) (op : Asked) (u : Update) (fits : StoreFits s store) (right : IsRight s store n op u) where
  well : RulesWell n op.act (live_at op.moment (held store (key_of op.act))) (Accepted right.reply right.leaves)
  well = subst (RulesWell n op.act (live_at op.moment (held store (key_of op.act)))) right.ruled
      (rules-well op.moment n op.act (live_at op.moment (held store (key_of op.act))))

  own-touch : (h : Holding) (slot : Option Slot) (body : Body) → body ≡ Touch h.until
      → LeavesWell n true (live_at op.moment (held_in store.space slot)) (Some h)
      → held_in (space_added s (DataNode d) d body store.space) (slot_after n body slot) ≡ Some h
  unfolding value-of
  own-touch h None body is left = absurd (cc left.1)
  own-touch h (Some slot) body is left =
      subst (λ (b : Body). held_in (space_added s (DataNode d) d b store.space) (slot_after n b (Some slot)) ≡ Some h)
      (sym is) (done (held_as slot (bytes_at slot.at slot.len store.space)) refl) where
        done : (k : Holding) → held_as slot (bytes_at slot.at slot.len store.space) ≡ k
            → Some (held_as (record slot { until = h.until }) (bytes_at slot.at slot.len store.space)) ≡ Some h
        done k same =
            let was : held_in store.space (Some slot) ≡ Some left.0 = live-held op.moment (held_in store.space (Some slot)) left.0 left.1 in
            let old : held_as slot (bytes_at slot.at slot.len store.space) ≡ left.0 = ap (value-of h) was in
            let item : (held_as slot (bytes_at slot.at slot.len store.space)).item ≡ h.item = ap (λ (x : Holding). x.item) old ∙ sym left.2 in
            λ i. Some (record { item = item i; until = h.until })

  own-put : (h : Holding) (slot : Option Slot) (body : Body) → IsPut s store h body → h.item.cas ≡ n
      → held_in (space_added s (DataNode d) d body store.space) (slot_after n body slot) ≡ Some h
  own-put h slot body put cas =
      let within : put.run.at + put.run.len ≤ length store.space = omega (arith, fits.long, put.fits.inside) in
      let value : bytes_at put.run.at put.run.len
      (added_at put.run.at (add_bytes h.item.value (bytes_at put.run.at put.run.len store.space)) store.space)
      ≡ h.item.value
      = own-bytes put.run h.item.value store.space put.fits.long within in
      subst (λ (b : Body). held_in (space_added s (DataNode d) d b store.space) (slot_after n b slot) ≡ Some h) (sym put.is)
      (let number : n ≡ h.item.cas = sym cas in λ i. Some (record { item = record { flags = h.item.flags; cas = number i; value = value i }; until = h.until }))

  own : (touch : Bool) (leaves : Option Holding) (slot : Option Slot) (body : Body) → IsBodyOf s store touch leaves body
      → LeavesWell n touch (live_at op.moment (held_in store.space slot)) leaves
      → held_in (space_added s (DataNode d) d body store.space) (slot_after n body slot) ≡ leaves
  own touch None slot body is left = ap (λ (b : Body). held_in (space_added s (DataNode d) d b store.space) (slot_after n b slot)) is
  own true (Some h) slot body is left = own-touch h slot body is left
  own false (Some h) slot body is left = own-put h slot body is left

  -- a run of the space that what is written is clear of
  abbrev Kept : List ℕ → Slot → Type 0
  Kept space x = bytes_at x.at x.len space ≡ bytes_at x.at x.len store.space

  kept-all : (items : Items) → Each (λ x. Kept store.space x.1) items
  kept-all [] = tt
  kept-all (x ∷ xs) = (refl, kept-all xs)

  put-long : (h : Holding) (body : Body) (put : IsPut s store h body)
      → length (add_bytes h.item.value (bytes_at put.run.at put.run.len store.space)) ≡ length h.item.value
  put-long h body put =
      let under = length-bytes_at put.run.at put.run.len store.space (omega (arith, fits.long, put.fits.inside)) in
      length-add_bytes h.item.value (bytes_at put.run.at put.run.len store.space) (omega (arith, under, put.fits.long))

  kept : (touch : Bool) (leaves : Option Holding) (body : Body) → IsBodyOf s store touch leaves body
      → Each (λ x. Kept (space_added s (DataNode d) d body store.space) x.1) store.items
  kept touch None body is = subst (λ (b : Body). Each (λ x. Kept (space_added s (DataNode d) d b store.space) x.1) store.items) (sym is) (kept-all store.items)
  kept true (Some h) body is =
      subst (λ (b : Body). Each (λ x. Kept (space_added s (DataNode d) d b store.space) x.1) store.items) (sym is)
      (kept-all store.items)
  kept false (Some h) body is =
      let delta = add_bytes h.item.value (bytes_at is.run.at is.run.len store.space) in
      let long = put-long h body is in
      subst (λ (b : Body). Each (λ x. Kept (space_added s (DataNode d) d b store.space) x.1) store.items) (sym is.is)
      (each-weaker (λ x. AreApart is.run (run_in x.1) × (x.1.at + x.1.len ≤ space_of s)) (λ x. Kept (added_at is.run.at delta store.space) x.1)
      (λ x both. apart-bytes is.run (run_in x.1) delta store.space (omega (arith, is.fits.long, long))
      (omega (arith, fits.long, is.fits.inside)) (omega (arith, fits.long, both.1)) both.0)
      store.items (each-both (λ x. AreApart is.run (run_in x.1)) (λ x. x.1.at + x.1.len ≤ space_of s) store.items is.clear fits.inside))

  abbrev slot_now : Option Slot
  slot_now = slot_after u.number u.body (slot_in store.items u.key)

  slot-now : held_in (space_added s (DataNode d) d u.body store.space) slot_now ≡ right.leaves
  slot-now =
      let left : LeavesWell n (is_touch op.act) (live_at op.moment (held store u.key)) right.leaves
      = subst (λ (key : List ℕ). LeavesWell n (is_touch op.act) (live_at op.moment (held store key)) right.leaves) (sym right.key) well.3 in
      ap (λ (m : ℕ). held_in (space_added s (DataNode d) d u.body store.space) (slot_after m u.body (slot_in store.items u.key))) right.number
      ∙ own (is_touch op.act) right.leaves (slot_in store.items u.key) u.body right.body left

  holds : (key : List ℕ) → held (store_with_update s d u store) key ≡ holding_at u.key right.leaves (held store) key
  holds key = ap (held_in (space_added s (DataNode d) d u.body store.space)) (slot_in-with u.key key slot_now store.items) ∙ by (same_key u.key key) where
    by : (b : Bool) → held_in (space_added s (DataNode d) d u.body store.space)
        (if b then slot_now else slot_in store.items key) ≡ (if b then right.leaves else held store key)
    by true = slot-now
    by false = held-kept store.space (space_added s (DataNode d) d u.body store.space) (slot_in store.items key)
        (each-slot (Kept (space_added s (DataNode d) d u.body store.space)) key store.items (kept (is_touch op.act) right.leaves u.body right.body))

  -- the space is as long as before, and has the runs of the items
  long-after : (touch : Bool) (leaves : Option Holding) (body : Body) → IsBodyOf s store touch leaves body
      → length (space_added s (DataNode d) d body store.space) ≡ length store.space
  long-after touch None body is = ap (λ (b : Body). length (space_added s (DataNode d) d b store.space)) is
  long-after true (Some h) body is = ap (λ (b : Body). length (space_added s (DataNode d) d b store.space)) is
  long-after false (Some h) body is =
      ap (λ (b : Body). length (space_added s (DataNode d) d b store.space)) is.is
      ∙ length-added is.run.at (add_bytes h.item.value (bytes_at is.run.at is.run.len store.space)) store.space
      (omega (arith, fits.long, is.fits.inside, is.fits.long, put-long h body is))

  abbrev Inside : Slot → Type 0
  Inside x = x.at + x.len ≤ space_of s

  inside-touched : (until : Option ℕ) (slot : Option Slot) → OfSlot Inside slot → OfSlot Inside (slot_after u.number (Touch until) slot)
  inside-touched until None inside = tt
  inside-touched until (Some slot) inside = inside

  inside-after : (touch : Bool) (leaves : Option Holding) (body : Body) → IsBodyOf s store touch leaves body
      → OfSlot Inside (slot_after u.number body (slot_in store.items u.key))
  inside-after touch None body is = subst (λ (b : Body). OfSlot Inside (slot_after u.number b (slot_in store.items u.key))) (sym is) tt
  inside-after true (Some h) body is = subst (λ (b : Body). OfSlot Inside (slot_after u.number b (slot_in store.items u.key))) (sym is)
      (inside-touched h.until (slot_in store.items u.key) (each-slot Inside u.key store.items fits.inside))
  inside-after false (Some h) body is = subst (λ (b : Body). OfSlot Inside (slot_after u.number b (slot_in store.items u.key))) (sym is.is) is.fits.inside

  bytes-held : (slot : Option Slot) → HoldsBytes (live_at op.moment (held_in store.space slot))
  bytes-held None = tt
  bytes-held (Some slot) = by (is_live op.moment slot.until) where
    by : (b : Bool) → HoldsBytes (if b then Some (held_as slot (bytes_at slot.at slot.len store.space)) else None)
    by true = bytes-bytes_at slot.at slot.len store.space (bytes-from store.space fits.bytes)
    by false = tt

  bytes-after : (touch : Bool) (leaves : Option Holding) (body : Body) → HoldsBytes leaves
      → IsBodyOf s store touch leaves body → AreBytes (space_added s (DataNode d) d body store.space)
  bytes-after touch None body bytes is = subst (λ (b : Body). AreBytes (space_added s (DataNode d) d b store.space))
      (sym is) (bytes-from store.space fits.bytes)
  bytes-after true (Some h) body bytes is = subst (λ (b : Body). AreBytes (space_added s (DataNode d) d b store.space))
      (sym is) (bytes-from store.space fits.bytes)
  bytes-after false (Some h) body bytes is =
      let under = bytes_at is.run.at is.run.len store.space in
      let under_long = length-bytes_at is.run.at is.run.len store.space (omega (arith, fits.long, is.fits.inside)) in
      let all = bytes-from store.space fits.bytes in
      subst (λ (b : Body). AreBytes (space_added s (DataNode d) d b store.space)) (sym is.is)
      (bytes-added is.run.at (add_bytes h.item.value under) store.space (omega (arith, fits.long, is.fits.inside, is.fits.long, put-long h body is))
      (AreBytes-add_bytes h.item.value under (omega (arith, under_long, is.fits.long)) bytes (bytes-bytes_at is.run.at is.run.len store.space all)) all)

  ruled-bytes : All (λ b. b < 256) (act_value op.act) → HoldsBytes right.leaves
  ruled-bytes brought = subst LeavesBytes right.ruled
      (rules-bytes op.moment n op.act (live_at op.moment (held store (key_of op.act)))
      (bytes-from (act_value op.act) brought) (bytes-held (slot_in store.items (key_of op.act))))

  -- a difference consists of bytes
  delta-bytes : (touch : Bool) (leaves : Option Holding) (body : Body) → HoldsBytes leaves → IsBodyOf s store touch leaves body → WritesBytes body
  delta-bytes touch None body bytes is = subst WritesBytes (sym is) tt
  delta-bytes true (Some h) body bytes is = subst WritesBytes (sym is) tt
  delta-bytes false (Some h) body bytes is =
      let under_long = length-bytes_at is.run.at is.run.len store.space (omega (arith, fits.long, is.fits.inside)) in
      subst WritesBytes (sym is.is)
      (bytes-all _ (AreBytes-add_bytes h.item.value (bytes_at is.run.at is.run.len store.space)
      (omega (arith, under_long, is.fits.long)) bytes
      (bytes-bytes_at is.run.at is.run.len store.space (bytes-from store.space fits.bytes))))

  pub right-bytes : All (λ b. b < 256) (act_value op.act) → WritesBytes u.body
  right-bytes brought = delta-bytes (is_touch op.act) right.leaves u.body (ruled-bytes brought) right.body

  fits-after : All (λ b. b < 256) (act_value op.act) → StoreFits s (store_with_update s d u store)
  fits-after brought = record {
    long = long-after (is_touch op.act) right.leaves u.body right.body ∙ fits.long;
    bytes = bytes-all _ (bytes-after (is_touch op.act) right.leaves u.body (ruled-bytes brought) right.body);
    inside = each-with Inside u.key slot_now store.items (inside-after (is_touch op.act) right.leaves u.body right.body) fits.inside;
  }

pub right_updates_leave : RightUpdatesLeave
right_updates_leave s d n store op u fits right = record {
  holds = holds s d n store op u fits right;
  replies = ap reply_from right.outcome ∙ (well s d n store op u fits right).1;
  fits = fits-after s d n store op u fits right;
}

-- a store at the start fits
pub no_store-fits : (s : Dimensions) → StoreFits s (no_store s)
no_store-fits s = record {
  long = length-replicate (space_of s) 0;
  bytes = bytes-all (replicate (space_of s) 0) (λ k. let e = get_or-zeros (space_of s) k in omega arith);
  inside = tt;
}
