-- Histories whose every update is right: their parts, and the stores that they leave.
use Rattle.std.proofs.Common.{ℕ, zero, suc, ◌≡◌, ◌≢◌, ◌+◌, ◌≤◌, Bool, true, false, List, [], ◌∷◌, ◌++◌, take, length}
use Rattle.std.proofs.Common.{Option, Some, None, if◌then◌else◌, refl, sym, ap, subst, ◌∙◌, arith}
use Rattle.std.specs.Prelude.{IfSome}
use Rattle.std.proofs.lemmas.List.Elements.{Contains-append_left}
use Rattle.field_byte.specs.Vectors.{add_bytes}
use Rattle.field_byte.proofs.Vectors.{length-add_bytes}
use Rattle.erasure_code.specs.Spaces.{bytes_at}
use Rattle.group_types.specs.Dimensions.{Dimensions, space_of}
use Rattle.group_types.specs.declared.process.ProcessId.TheVariants.{DataNode}
use Rattle.group_types.specs.declared.run.Run.{Run}
use Rattle.group_types.specs.Each.{Each}
use Rattle.memc_table.specs.declared.holding.Holding.{Holding}
use Rattle.group_message.specs.declared.update.Body.{Body}
use Rattle.group_message.specs.declared.update.Body.TheVariants.{Put, Remove, Touch}
use Rattle.group_message.specs.declared.update.Update.{Update}
use Rattle.group_run.specs.Applying.{space_added}
use Rattle.group_run.specs.Deciding.{is_touch}
use Rattle.group_run.specs.Fitting.{Writes}
use Rattle.group_run.specs.Headline.{AreApart}
use Rattle.group_run.specs.Replica.{Items, item_settled, items_after, run_of, slot_after, slot_in}
use Rattle.group_run.specs.World.{AskedCall}
use Rattle.law_updates.specs.Fine.{AreSteps, IsStep}
use Rattle.law_updates.specs.Right.{IsBodyOf}
use Rattle.law_updates.specs.Store.{Store, StoreFits, held, no_store, store_after, store_from, store_with_update}
use Rattle.law_updates.proofs.Keys.{key-ne, slot_in-with}
use Rattle.law_updates.proofs.Spaces.{apart-bytes, apart-sym, length-bytes_at}
use Rattle.law_updates.proofs.Steps.{no_store-fits, right_updates_leave}

-- items and stores after updates behind others
pub items-append : (items : Items) (us vs : List Update) → items_after items (us ++ vs) ≡ items_after (items_after items us) vs
items-append items [] vs = refl
items-append items (u ∷ us) vs = items-append (item_settled u items) us vs

module _ (s : Dimensions) (d : ℕ) where
  pub store-append : (store : Store) (us vs : List Update) → store_from s d store (us ++ vs) ≡ store_from s d (store_from s d store us) vs
  store-append store [] vs = refl
  store-append store (u ∷ us) vs = store-append (store_with_update s d u store) us vs

  pub store-items : (store : Store) (us : List Update) → (store_from s d store us).items ≡ items_after store.items us
  store-items store [] = refl
  store-items store (u ∷ us) = store-items (store_with_update s d u store) us

module _ (s : Dimensions) (calls : List AskedCall) (d : ℕ) where
  pub steps-take : (k n : ℕ) (store : Store) (us : List Update) → AreSteps s calls d n store us → AreSteps s calls d n store (take k us)
  steps-take zero n store us steps = tt
  steps-take (suc k) n store [] steps = tt
  steps-take (suc k) n store (u ∷ us) steps = (steps.0, steps-take k (suc n) (store_with_update s d u store) us steps.1)

  -- one more
  pub steps-push : (n m : ℕ) (store : Store) (us : List Update) (u : Update) → m ≡ n + length us → AreSteps s calls d n store us
      → IsStep s calls d (suc m) (store_from s d store us) u → AreSteps s calls d n store (us ++ u ∷ [])
  steps-push n m store [] u at steps step = (subst (λ (k : ℕ). IsStep s calls d (suc k) store u) (omega (arith, at)) step, tt)
  steps-push n m store (v ∷ vs) u at steps step = (steps.0, steps-push (suc n) m (store_with_update s d v store) vs u (omega (arith, at)) steps.1 step)

  -- the one behind these, and those behind it
  pub steps-behind : (n m : ℕ) (store : Store) (us vs : List Update) → m ≡ n + length us
      → AreSteps s calls d n store (us ++ vs) → AreSteps s calls d m (store_from s d store us) vs
  steps-behind n m store [] vs at steps = subst (λ (k : ℕ). AreSteps s calls d k store vs) (omega (arith, at)) steps
  steps-behind n m store (u ∷ us) vs at steps = steps-behind (suc n) m (store_with_update s d u store) us vs (omega (arith, at)) steps.1

  pub step-more : (later : List AskedCall) (n : ℕ) (store : Store) (u : Update) → IsStep s calls d n store u → IsStep s (calls ++ later) d n store u
  step-more later n store u step =
      record {
        call = step.call;
        asked = Contains-append_left calls later step.call step.asked;
        fits = step.fits;
        name = step.name;
        right = step.right;
      }

  pub steps-more : (later : List AskedCall) (n : ℕ) (store : Store) (us : List Update) → AreSteps s calls d n store us
      → AreSteps s (calls ++ later) d n store us
  steps-more later n store [] steps = tt
  steps-more later n store (u ∷ us) steps = (step-more later (suc n) store u steps.0, steps-more later (suc n) (store_with_update s d u store) us steps.1)

  -- what is said of the update of each step
  pub steps-each : (P : Update → Type 0) → ((n : ℕ) (store : Store) (u : Update) → StoreFits s store → IsStep s calls d n store u → P u)
      → (n : ℕ) (store : Store) (us : List Update) → StoreFits s store → AreSteps s calls d n store us → Each P us
  steps-each P turn n store [] fits steps = tt
  steps-each P turn n store (u ∷ us) fits steps = (
    turn (suc n) store u fits steps.0,
    steps-each P turn (suc n) (store_with_update s d u store) us
        ((right_updates_leave s d (suc n) store steps.0.call.op u fits steps.0.right).fits steps.0.fits.bytes) steps.1,
  )

  -- the store fits all along
  pub steps-fit : (n : ℕ) (store : Store) (us : List Update) → StoreFits s store → AreSteps s calls d n store us → StoreFits s (store_from s d store us)
  steps-fit n store [] fits steps = fits
  steps-fit n store (u ∷ us) fits steps =
      steps-fit (suc n) (store_with_update s d u store) us
      ((right_updates_leave s d (suc n) store steps.0.call.op u fits steps.0.right).fits steps.0.fits.bytes) steps.1

  writes-body : (store : Store) (touch : Bool) (leaves : Option Holding) (body : Body) → StoreFits s store
      → IsBodyOf s store touch leaves body → Writes (space_of s) body
  writes-body store touch None body fits is = subst (Writes (space_of s)) (sym is) tt
  writes-body store true (Some h) body fits is = subst (Writes (space_of s)) (sym is) tt
  writes-body store false (Some h) body fits is =
      let under = length-bytes_at is.run.at is.run.len store.space (omega (arith, fits.long, is.fits.inside)) in
      let long : length (add_bytes h.item.value (bytes_at is.run.at is.run.len store.space)) ≡ length h.item.value = length-add_bytes h.item.value
      (bytes_at is.run.at is.run.len store.space) (omega (arith, under, is.fits.long)) in
      subst (Writes (space_of s)) (sym is.is) (record { long = omega (arith, is.fits.long, long); inside = is.fits.inside })

  pub step-writes : (n : ℕ) (store : Store) (u : Update) → StoreFits s store → IsStep s calls d n store u → Writes (space_of s) u.body
  step-writes n store u fits step = writes-body store (is_touch step.call.op.act) step.right.leaves u.body fits step.right.body

  -- a run apart from the one that is written keeps its bytes
  kept-body : (run : Run) (store : Store) (body : Body) → StoreFits s store → run.at + run.len ≤ space_of s
      → Writes (space_of s) body → IfSome (run_of body) (AreApart run)
      → bytes_at run.at run.len (space_added s (DataNode d) d body store.space) ≡ bytes_at run.at run.len store.space
  kept-body run store (Put flags until other delta) fits inside writes apart =
      apart-bytes other run delta store.space writes.long (omega (arith, fits.long, writes.inside)) (omega (arith, fits.long)) (apart-sym run other apart)
  kept-body run store Remove fits inside writes apart = refl
  kept-body run store (Touch until) fits inside writes apart = refl

  pub steps-keep-bytes : (run : Run) (n : ℕ) (store : Store) (us : List Update) → run.at + run.len ≤ space_of s
      → StoreFits s store → AreSteps s calls d n store us
      → Each (λ v. IfSome (run_of v.body) (AreApart run)) us
      → bytes_at run.at run.len (store_from s d store us).space ≡ bytes_at run.at run.len store.space
  steps-keep-bytes run n store [] inside fits steps apart = refl
  steps-keep-bytes run n store (u ∷ us) inside fits steps apart =
      steps-keep-bytes run (suc n) (store_with_update s d u store) us inside
      ((right_updates_leave s d (suc n) store steps.0.call.op u fits steps.0.right).fits steps.0.fits.bytes) steps.1
      apart.1
      ∙ kept-body run store u.body fits inside (step-writes (suc n) store u fits steps.0) apart.0

  -- a key that no update is on keeps its item, and what is held for it
  pub steps-keep-slot : (key : List ℕ) (items : Items) (us : List Update) → Each (λ v. v.key ≢ key) us → slot_in (items_after items us) key ≡ slot_in items key
  steps-keep-slot key items [] others = refl
  steps-keep-slot key items (u ∷ us) others =
      steps-keep-slot key (item_settled u items) us others.1
      ∙ slot_in-with u.key key (slot_after u.number u.body (slot_in items u.key)) items
      ∙ ap (λ (b : Bool). if b then slot_after u.number u.body (slot_in items u.key) else slot_in items key) (key-ne u.key key others.0)

  pub steps-keep-held : (key : List ℕ) (n : ℕ) (store : Store) (us : List Update) → StoreFits s store
      → AreSteps s calls d n store us → Each (λ v. v.key ≢ key) us
      → held (store_from s d store us) key ≡ held store key
  steps-keep-held key n store [] fits steps others = refl
  steps-keep-held key n store (u ∷ us) fits steps others =
      let leaves = right_updates_leave s d (suc n) store steps.0.call.op u fits steps.0.right in
      steps-keep-held key (suc n) (store_with_update s d u store) us (leaves.fits steps.0.fits.bytes) steps.1 others.1
      ∙ leaves.holds key ∙ ap (λ (b : Bool). if b then steps.0.right.leaves else held store key) (key-ne u.key key others.0)

  -- a history leaves a store that fits
  pub history-fits : (us : List Update) → AreSteps s calls d 0 (no_store s) us → StoreFits s (store_after s d us)
  history-fits us steps = steps-fit 0 (no_store s) us (no_store-fits s) steps
