-- Every update of a fine history fits a frame, where its calls do.
use Rattle.std.proofs.Common.{◌≡◌, ◌<◌, ◌≤◌, ℕ, suc, ◌+◌, ◌^◌, Bool, true, false, List, [], ◌∷◌, length, Option, Some}
use Rattle.std.proofs.Common.{None, if◌then◌else◌, sym, ap, subst, arith}
use Rattle.group_types.specs.Dimensions.{Dimensions, space_of}
use Rattle.group_types.specs.Key.{IsKey}
use Rattle.group_types.specs.Shape.{IsShape}
use Rattle.group_types.specs.Each.{Each}
use Rattle.group_types.specs.declared.run.Run.{Run}
use Rattle.field_byte.specs.Vectors.{add_bytes}
use Rattle.memc_table.specs.Act.{key_of}
use Rattle.memc_table.specs.Expiry.{is_live, live_at}
use Rattle.memc_table.specs.declared.act.Act.{Act}
use Rattle.memc_table.specs.declared.act.Act.TheVariants as asks
use Rattle.memc_table.specs.declared.holding.Holding.{Holding}
use Rattle.memc_table.specs.declared.ruling.Ruling.TheVariants.{Accepted}
use Rattle.group_message.specs.declared.update.Body.{Body}
use Rattle.group_message.specs.declared.update.Body.TheVariants.{Put, Remove, Touch}
use Rattle.group_message.specs.declared.update.Update.{Update}
use Rattle.item_index.specs.declared.slot.Slot.{Slot}
use Rattle.erasure_code.specs.Spaces.{bytes_at}
use Rattle.group_calls.specs.Turns.{CallName}
use Rattle.group_run.specs.Deciding.{held_as, is_touch}
use Rattle.group_run.specs.Fitting.{IsRunOf, Writes}
use Rattle.group_run.specs.Replica.{freed_by, slot_after, slot_in}
use Rattle.group_run.specs.World.{AskedCall}
use Rattle.law_updates.specs.Fine.{AreSteps, IsStep}
use Rattle.law_updates.specs.Right.{IsBodyOf}
use Rattle.law_updates.specs.Store.{Store, StoreFits, held_in, store_with_update}
use Rattle.law_updates.proofs.Histories.{step-writes}
use Rattle.law_updates.proofs.Keys.{OfSlot, each-slot, each-with}
use Rattle.law_updates.proofs.Steps.{right_updates_leave}
use Rattle.law_log.proofs.Calls.{each-contained}
use Rattle.wire_codec.specs.Fits.{IsEight, FitsBody, FitsMaybe, FitsOutcome, FitsRun, FitsUpdate, IsFour}
use Rattle.link_frames.specs.Limits.{FitsAct, FitsAsked}
use Rattle.law_frames.proofs.Rulings.{HoldingFits, RulingFits, ruling-fits}

-- a call whose numbers fit
abbrev pub CallFits : AskedCall → Type 0
CallFits c = FitsAsked c.op × IsEight c.name.call

-- an item's flags and its end fit
abbrev pub SlotFits : Slot → Type 0
SlotFits slot = IsFour slot.flags × FitsMaybe IsEight slot.until

act-key : (a : Act) → FitsAct a → IsKey (key_of a)
act-key (asks.Get key) fits = fits
act-key (asks.Set key flags expiry value) fits = fits.0
act-key (asks.Add key flags expiry value) fits = fits.0
act-key (asks.Replace key flags expiry value) fits = fits.0
act-key (asks.Cas key flags expiry cas value) fits = fits.0
act-key (asks.Delete key) fits = fits
act-key (asks.Touch key expiry) fits = fits.0
act-key (asks.Append key value) fits = fits.0
act-key (asks.Prepend key value) fits = fits.0
act-key (asks.Incr key more) fits = fits.0
act-key (asks.Decr key less) fits = fits.0

held-fits : (t : ℕ) (space : List ℕ) (slot : Option Slot) → OfSlot SlotFits slot → FitsMaybe HoldingFits (live_at t (held_in space slot))
held-fits t space None fits = tt
held-fits t space (Some slot) fits = by (is_live t slot.until) where
  by : (b : Bool) → FitsMaybe HoldingFits (if b then Some (held_as slot (bytes_at slot.at slot.len space)) else None)
  by true = fits
  by false = tt

module _ (s : Dimensions) (shaped : IsShape s) where
  run-fits : (at len : ℕ) → at + len ≤ space_of s → IsFour at × IsFour len
  run-fits at len inside = let most = shaped.blocks.1 in (omega (arith, inside, most), omega (arith, inside, most))

  put-fits : (flags : ℕ) (until : Option ℕ) (run : Run) (delta : List ℕ) → IsFour flags × FitsMaybe IsEight until
      → IsRunOf (space_of s) (length delta) run → FitsBody (Put flags until run delta)
  put-fits flags until run delta fits writes =
      let long = writes.long in
      let inside = writes.inside in
      let most = shaped.blocks.1 in
      (fits.0, fits.1, run-fits run.at run.len inside, omega (arith, long, inside, most), sym long)

  body-fits : (store : Store) (touch : Bool) (leaves : Option Holding) (body : Body) → FitsMaybe HoldingFits leaves
      → IsBodyOf s store touch leaves body → Writes (space_of s) body → FitsBody body
  body-fits store touch None body fits is writes = subst FitsBody (sym is) tt
  body-fits store true (Some h) body fits is writes = subst FitsBody (sym is) fits.1
  body-fits store false (Some h) body fits is writes =
      subst FitsBody (sym is.is)
      (put-fits h.item.flags h.until is.run (add_bytes h.item.value (bytes_at is.run.at is.run.len store.space)) fits
      (subst (Writes (space_of s)) is.is writes))

  touched-fits : (n : ℕ) (until : Option ℕ) (old : Option Slot) → FitsMaybe IsEight until → OfSlot SlotFits old
      → OfSlot SlotFits (slot_after n (Touch until) old)
  touched-fits n until None fits old = tt
  touched-fits n until (Some slot) fits old = (old.0, fits)

  slot-fits : (n : ℕ) (store : Store) (touch : Bool) (leaves : Option Holding) (body : Body) (old : Option Slot)
      → FitsMaybe HoldingFits leaves → IsBodyOf s store touch leaves body → OfSlot SlotFits old
      → OfSlot SlotFits (slot_after n body old)
  slot-fits n store touch None body old fits is was = subst (λ (b : Body). OfSlot SlotFits (slot_after n b old)) (sym is) tt
  slot-fits n store true (Some h) body old fits is was = subst (λ (b : Body). OfSlot SlotFits (slot_after n b old))
      (sym is) (touched-fits n h.until old fits.1 was)
  slot-fits n store false (Some h) body old fits is was = subst (λ (b : Body). OfSlot SlotFits (slot_after n b old)) (sym is.is) fits

  frees-fit : (body : Body) (slot : Option Slot) → OfSlot (λ x. x.at + x.len ≤ space_of s) slot → FitsMaybe FitsRun (freed_by body slot)
  frees-fit (Touch until) slot inside = tt
  frees-fit (Put flags until run delta) None inside = tt
  frees-fit (Put flags until run delta) (Some slot) inside = run-fits slot.at slot.len inside
  frees-fit Remove None inside = tt
  frees-fit Remove (Some slot) inside = run-fits slot.at slot.len inside

  module _ (calls : List AskedCall) (all : Each CallFits calls) (d : ℕ) where
    -- what the call of an update leaves fits
    leaves-fit : (n : ℕ) (store : Store) (u : Update) → Each (λ x. SlotFits x.1) store.items
        → (step : IsStep s calls d n store u) → RulingFits (Accepted step.right.reply step.right.leaves)
    leaves-fit n store u slots step =
        let op = step.call.op in
        let fits = (each-contained CallFits calls step.call all step.asked).0 in
        subst RulingFits step.right.ruled
        (ruling-fits op.moment n fits.0 op.act (live_at op.moment (held_in store.space (slot_in store.items (key_of op.act)))) fits.1
        (held-fits op.moment store.space (slot_in store.items (key_of op.act)) (each-slot SlotFits (key_of op.act) store.items slots)))

    step-fits : (n : ℕ) (store : Store) (u : Update) → n < 2 ^ 64 → StoreFits s store
        → Each (λ x. SlotFits x.1) store.items → IsStep s calls d n store u → FitsUpdate u
    step-fits n store u low fits slots step =
        let call = each-contained CallFits calls step.call all step.asked in
        let right = step.right in
        let leaves = leaves-fit n store u slots step in
        let number = right.number in
        let caller : u.caller ≡ step.call.name.caller = ap (λ (x : CallName). x.caller) step.name in
        let named : u.call ≡ step.call.name.call = ap (λ (x : CallName). x.call) step.name in
        let few = step.fits.caller in
        let late = call.1 in (
          omega (arith, number, low),
          omega (arith, caller, few),
          omega (arith, named, late),
          subst IsKey (sym right.key) (act-key step.call.op.act call.0.1),
          body-fits store (is_touch step.call.op.act) right.leaves u.body leaves.1 right.body (step-writes s calls d n store u fits step),
          subst (FitsMaybe FitsRun) (sym right.frees)
              (frees-fit u.body (slot_in store.items u.key) (each-slot (λ x. x.at + x.len ≤ space_of s) u.key store.items
              fits.inside)),
          subst FitsOutcome (sym right.outcome) leaves.0,
        )

    -- each update, and what is written lies in the space
    abbrev pub UpdateFits : Update → Type 0
    UpdateFits u = FitsUpdate u × Writes (space_of s) u.body

    pub steps-fit : (n : ℕ) (store : Store) (us : List Update) → n + length us < 2 ^ 64 → StoreFits s store
        → Each (λ x. SlotFits x.1) store.items → AreSteps s calls d n store us → Each UpdateFits us
    steps-fit n store [] low fits slots steps = tt
    steps-fit n store (u ∷ us) low fits slots steps =
        let step = steps.0 in
        let leaves = leaves-fit (suc n) store u slots step in (
          (step-fits (suc n) store u (omega (arith, low)) fits slots step, step-writes s calls d (suc n) store u fits step),
          steps-fit (suc n) (store_with_update s d u store) us (omega (arith, low))
              ((right_updates_leave s d (suc n) store step.call.op u fits step.right).fits step.fits.bytes)
              (each-with SlotFits u.key (slot_after u.number u.body (slot_in store.items u.key)) store.items
              (slot-fits u.number store (is_touch step.call.op.act) step.right.leaves u.body (slot_in store.items u.key)
              leaves.1 step.right.body (each-slot SlotFits u.key store.items slots)) slots)
              steps.1,
        )
