-- A refusal that a head gives is the table's on all that is settled.
use Rattle.std.proofs.Common.{ℕ, suc, ◌≡◌, ◌≢◌, ◌+◌, ◌-◌, ◌<◌, ◌≤◌, nat_le, Bool, true, false, List, [], ◌∷◌, ◌++◌}
use Rattle.std.proofs.Common.{take, drop, length, ◌⊎◌, inl, inr, Option, Some, None, if◌then◌else◌, refl, sym, ap}
use Rattle.std.proofs.Common.{subst, ◌∙◌, arith}
use Rattle.std.proofs.lemmas.Bool.{cases_lt}
use Rattle.std.proofs.lemmas.Grind.{common_steps}
use Rattle.std.proofs.lemmas.List.{drop-take, drop_all, drop_at, length-append, length-drop, length-take, length-take-le, take-append-drop, take_at}
use Rattle.group_types.specs.Dimensions.{Dimensions}
use Rattle.group_types.specs.Lists.{same_key}
use Rattle.group_types.specs.Each.{Each}
use Rattle.group_types.proofs.Eaches.{each-take, each-weaker, each-both}
use Rattle.memc_table.specs.Act.{key_of}
use Rattle.memc_table.specs.Asked.{Asked}
use Rattle.memc_table.specs.Expiry.{live_at}
use Rattle.memc_table.specs.Ruling.{ruling_of}
use Rattle.memc_table.specs.declared.act.Act.{Act}
use Rattle.memc_table.specs.declared.holding.Holding.{Holding}
use Rattle.memc_table.specs.declared.reply.Reply.{Reply}
use Rattle.memc_table.specs.declared.ruling.Ruling.TheVariants.{Refused}
use Rattle.group_message.specs.declared.update.Update.{Update}
use Rattle.group_run.specs.Applying.{replica_of}
use Rattle.group_run.specs.Deciding.{is_get, waits_for}
use Rattle.group_run.specs.Process.{Head, Process}
use Rattle.group_run.specs.Replica.{Items, Replica, item_settled, items_after, number_on}
use Rattle.group_run.specs.World.{AskedCall}
use Rattle.group_run.specs.History.{history}
use Rattle.law_moves.proofs.Reading.{some-same}
use Rattle.law_updates.specs.Decisions.{IsRefusal}
use Rattle.law_updates.specs.Fine.{AreClear, AreSteps}
use Rattle.law_updates.proofs.Fine.{IsReplicaOf}
use Rattle.law_updates.specs.Right.{ruling_in}
use Rattle.law_updates.specs.Store.{Store, held, no_store, store_after, store_with_update}
use Rattle.law_updates.proofs.Clears.{number_on-none}
use Rattle.law_updates.proofs.Histories.{history-fits, steps-behind, steps-keep-held, steps-take, store-append}
use Rattle.law_updates.proofs.Keys.{key-ne}
use Rattle.law_log.specs.Stands.{HeadStands}

-- a key that none of these is on
number_on-others : (us : List Update) (key : List ℕ) → Each (λ v. key ≢ v.key) us → number_on us key ≡ None
number_on-others [] key others = refl
number_on-others (u ∷ us) key others = by (number_on us key) (number_on-others us key others.1) (same_key u.key key)
    (key-ne u.key key (λ same. others.0 (sym same))) where
      by : (m : Option ℕ) → m ≡ None → (b : Bool) → b ≡ false → elim m as (λ _. Option ℕ) [ Some n ↦ Some n | None ↦ if b then Some u.number else None ] ≡ None
      by (Some n) is b test = absurd (cc is)
      by None is true test = absurd (cc test)
      by None is false test = refl

-- where no two updates are on one key, the one on a key is found
only-number : (items : Items) (us : List Update) (key : List ℕ) (n : ℕ) → AreClear items us → number_on us key ≡ Some n
    → Each (λ v. v.key ≡ key → v.number ≡ n) us
only-number items [] key n clear is = tt
only-number items (u ∷ us) key n clear is = by (number_on us key) refl (same_key u.key key) refl is (only-number (item_settled u items) us key n clear.2) where
  by : (m : Option ℕ) → number_on us key ≡ m → (b : Bool) → same_key u.key key ≡ b
      → elim m as (λ _. Option ℕ) [ Some n ↦ Some n | None ↦ if b then Some u.number else None ] ≡ Some n
      → (number_on us key ≡ Some n → Each (λ v. v.key ≡ key → v.number ≡ n) us)
      → (u.key ≡ key → u.number ≡ n) × Each (λ v. v.key ≡ key → v.number ≡ n) us
  by (Some k) found b test is later = (
    (λ same. let none : number_on us key ≡ None = number_on-others us key (subst (λ (x : List ℕ). Each (λ v. x ≢ v.key) us) same clear.1) in cc (found, none)),
    later (found ∙ is),
  )
  by None none true test is later = (
    (λ same. some-same u.number n is),
    each-weaker (λ v. v.key ≢ key) (λ v. v.key ≡ key → v.number ≡ n)
        (λ v other same. absurd (other same)) us (number_on-none us key none),
  )
  by None none false test is later = absurd (cc is)

-- the numbers of updates behind the first n
numbers-below : (s : Dimensions) (calls : List AskedCall) (d n m : ℕ) (store : Store) (us : List Update) → n + length us ≤ m
    → AreSteps s calls d n store us → Each (λ v. v.number ≤ m) us
numbers-below s calls d n m store [] within steps = tt
numbers-below s calls d n m store (u ∷ us) within steps = (
  (let is : u.number ≡ suc n = steps.0.right.number in omega arith),
  numbers-below s calls d (suc n) m (store_with_update s d u store) us
      (omega arith) steps.1,
)

-- what an op has to wait for
waits-cases : (inherited : ℕ) (act : Act) (m : Option ℕ) → waits_for inherited act m ≡ None → (m ≡ None) ⊎ ((n : ℕ) × (m ≡ Some n) × (inherited < n))
waits-cases inherited act None free = inl refl
waits-cases inherited act (Some n) free = inr (n, refl, by (is_get act) (nat_le n inherited) refl free) where
  by : (g b : Bool) → nat_le n inherited ≡ b → (if g then (if b then Some n else None) else Some n) ≡ None → inherited < n
  by true true test free = absurd (cc free)
  by true false test free = grind (arith, common_steps)
  by false b test free = absurd (cc free)

module _ (s : Dimensions) (calls : List AskedCall) (settled : List Update) (d : ℕ) (p : Process) (h : Head) (stands : HeadStands s calls settled d p h) where
  abbrev r : Replica
  r = replica_of p d

  front-long : length (take r.applied settled) ≡ r.applied
  front-long = length-take-le r.applied settled stands.within

  pub front-is : take r.applied (history settled r) ≡ take r.applied settled
  front-is = take_at (take r.applied settled) r.log r.applied front-long

  log-is : drop r.applied (history settled r) ≡ r.log
  log-is = drop_at (take r.applied settled) r.log r.applied front-long

  -- its replica is that of its history
  pub head-replica : IsReplicaOf r.applied (history settled r) r
  head-replica = record {
    applied = refl;
    within = let long = front-long in omega (arith, length-append (take r.applied settled) r.log);
    items = stands.items ∙ ap (items_after []) (sym front-is);
    log = sym log-is;
  }

  -- what is settled above its applied number stands first in its log
  rest-is : drop r.applied settled ≡ take (length settled - r.applied) r.log
  rest-is =
      ap (drop r.applied) (sym stands.prolongs) ∙ drop-taken (length settled) (history settled r) ∙ ap (take (length settled - r.applied)) log-is where
        drop-taken : (c : ℕ) (xs : List Update) → drop r.applied (take c xs) ≡ take (c - r.applied) (drop r.applied xs)
        drop-taken c xs = by (cases_lt c r.applied) where
          by : (c < r.applied) ⊎ (r.applied ≤ c) → drop r.applied (take c xs) ≡ take (c - r.applied) (drop r.applied xs)
          by (inr reached) = let e : r.applied + (c - r.applied) ≡ c = omega arith in
              ap (λ (k : ℕ). drop r.applied (take k xs)) (sym e) ∙ drop-take r.applied (c - r.applied) xs
          by (inl low) =
              let none : c - r.applied ≡ 0 = omega arith in
              let short : length (take c xs) ≤ r.applied = omega (arith, length-take c xs) in
              drop_all r.applied (take c xs) short ∙ sym (ap (λ (k : ℕ). take k (drop r.applied xs)) none)

  settled-fine : AreSteps s calls d 0 (no_store s) settled
  settled-fine = subst (AreSteps s calls d 0 (no_store s)) stands.prolongs
      (steps-take s calls d (length settled) 0 (no_store s) (history settled r) stands.fine.steps)

  whole : take r.applied settled ++ drop r.applied settled ≡ settled
  whole = take-append-drop r.applied settled

  rest-steps : AreSteps s calls d r.applied (store_after s d (take r.applied settled)) (drop r.applied settled)
  rest-steps =
      steps-behind s calls d 0 r.applied (no_store s) (take r.applied settled) (drop r.applied settled) (omega (arith, front-long))
      (subst (AreSteps s calls d 0 (no_store s)) (sym whole) settled-fine)

  log-clear : AreClear (items_after [] (take r.applied (history settled r))) r.log
  log-clear = subst (AreClear (items_after [] (take r.applied (history settled r)))) log-is stands.fine.clear

  -- no settled update above the applied number is on the key of an op that the head answers
  others : (op : Asked) → waits_for h.inherited op.act (number_on r.log (key_of op.act)) ≡ None → Each (λ v. v.key ≢ key_of op.act) (drop r.applied settled)
  others op free = by (waits-cases h.inherited op.act (number_on r.log (key_of op.act)) free) where
    late : (n : ℕ) → number_on r.log (key_of op.act) ≡ Some n → h.inherited < n → (r.applied < h.inherited)
        ⊎ (h.inherited ≤ r.applied) → Each (λ v. v.key ≢ key_of op.act) (drop r.applied settled)
    late n is above (inr caught) =
        let e : r.applied ≡ length settled = stands.applied caught in
        subst (Each (λ v. v.key ≢ key_of op.act)) (sym (drop_all r.applied settled (omega arith))) tt
    late n is above (inl below) =
        let most : length settled ≤ h.inherited = stands.inherits below in
        let numbers : Each (λ v. v.number ≤ length settled) (drop r.applied settled)
        = numbers-below s calls d r.applied (length settled) (store_after s d (take r.applied settled)) (drop r.applied settled)
        (let in_it = stands.within in omega (arith, length-drop r.applied settled)) rest-steps in
        let found : Each (λ v. v.key ≡ key_of op.act → v.number ≡ n) (drop r.applied settled)
        = subst (Each (λ v. v.key ≡ key_of op.act → v.number ≡ n)) (sym rest-is)
        (each-take (λ v. v.key ≡ key_of op.act → v.number ≡ n) (length settled - r.applied) r.log
        (only-number (items_after [] (take r.applied (history settled r))) r.log (key_of op.act) n log-clear is)) in
        each-weaker (λ v. (v.number ≤ length settled) × (v.key ≡ key_of op.act → v.number ≡ n)) (λ v. v.key ≢ key_of op.act)
        (λ v both same. let number : v.number ≡ n = both.1 same in let low = both.0 in omega arith) (drop r.applied settled)
        (each-both (λ v. v.number ≤ length settled) (λ v. v.key ≡ key_of op.act → v.number ≡ n) (drop r.applied settled) numbers found)

    by : (number_on r.log (key_of op.act) ≡ None)
        ⊎ ((n : ℕ) × (number_on r.log (key_of op.act) ≡ Some n) × (h.inherited < n))
        → Each (λ v. v.key ≢ key_of op.act) (drop r.applied settled)
    by (inl none) = subst (Each (λ v. v.key ≢ key_of op.act)) (sym rest-is)
        (each-take (λ v. v.key ≢ key_of op.act) (length settled - r.applied) r.log
        (number_on-none r.log (key_of op.act) none))
    by (inr found) = late found.0 found.1 found.2 (cases_lt r.applied h.inherited)

  -- what is held for its key is what was held at the applied number
  pub same-held : (op : Asked) → waits_for h.inherited op.act (number_on r.log (key_of op.act)) ≡ None
      → held (store_after s d settled) (key_of op.act) ≡ held (store_after s d (take r.applied settled)) (key_of op.act)
  same-held op free =
      ap (λ (us : List Update). held (store_after s d us) (key_of op.act)) (sym whole)
      ∙ ap (λ (x : Store). held x (key_of op.act)) (store-append s d (no_store s) (take r.applied settled) (drop r.applied settled))
      ∙ steps-keep-held s calls d (key_of op.act) r.applied (store_after s d (take r.applied settled)) (drop r.applied settled)
      (history-fits s calls d (take r.applied settled) (steps-take s calls d r.applied 0 (no_store s) settled settled-fine)) rest-steps (others op free)

  pub settled-refusal : (op : Asked) (reply : Reply) → IsRefusal h.inherited r (store_after s d (take r.applied settled)) op reply
      → (n : ℕ) → ruling_in (store_after s d settled) n op ≡ Refused reply
  settled-refusal op reply refused n =
      ap (λ (x : Option Holding). ruling_of op.moment n op.act (live_at op.moment x)) (same-held op refused.waits) ∙ refused.ruled n
