-- Updates that write clear of one another write no more bytes than the space has.
use Rattle.std.proofs.Common.{◌≡◌, ◌≤◌, ℕ, ◌+◌, Bool, true, false, List, [], ◌∷◌, length, Option, Some, None, if◌then◌else◌, refl, sym, ap, subst, ◌∙◌, arith}
use Rattle.std.specs.Prelude.{IfSome}
use Rattle.group_types.specs.Each.{Each}
use Rattle.group_types.proofs.Eaches.{each-weaker}
use Rattle.group_types.specs.declared.run.Run.{Run}
use Rattle.group_message.specs.declared.update.Body.{Body}
use Rattle.group_message.specs.declared.update.Body.TheVariants.{Put, Remove, Touch}
use Rattle.group_message.specs.declared.update.Update.{Update}
use Rattle.item_index.specs.declared.slot.Slot.{Slot}
use Rattle.group_run.specs.Fitting.{Writes}
use Rattle.group_run.specs.Free.{in_run, in_some_run}
use Rattle.group_run.specs.Headline.{AreApart}
use Rattle.group_run.specs.Replica.{Items, item_settled, run_in, run_of, slot_after, slot_in}
use Rattle.law_updates.specs.Fine.{AreClear}
use Rattle.law_updates.specs.Right.{IsClearOfItems, WritesClear}
use Rattle.law_updates.proofs.Keys.{OfSlot, each-slot, key-refl, slot_in-with}
use Rattle.law_frames.proofs.Addresses.{bit, sum-few, sum-plus, sum-run-all, sum-zero, sum_below}

-- how many bytes a body writes, and updates
abbrev pub written : Body → ℕ
written (Put flags until run delta) = length delta
written Remove = 0
written (Touch until) = 0

abbrev pub total : List Update → ℕ
total [] = 0
total (u ∷ us) = written u.body + total us

-- how many of them write an address
abbrev pub hits : ℕ → List Update → ℕ
hits a [] = 0
hits a (u ∷ us) = bit (in_some_run a (run_of u.body)) + hits a us

body-sum : (space : ℕ) (b : Body) → Writes space b → written b ≡ sum_below space (λ a. bit (in_some_run a (run_of b)))
body-sum space (Put flags until run delta) writes = sym writes.long ∙ sym (sum-run-all run space writes.inside)
body-sum space Remove writes = sym (sum-zero space)
body-sum space (Touch until) writes = sym (sum-zero space)

total-sum : (space : ℕ) (us : List Update) → Each (λ u. Writes space u.body) us → total us ≡ sum_below space (λ a. hits a us)
total-sum space [] all = sym (sum-zero space)
total-sum space (u ∷ us) all =
    ap (λ (n : ℕ). n + total us) (body-sum space u.body all.0)
    ∙ ap (λ (n : ℕ). sum_below space (λ a. bit (in_some_run a (run_of u.body))) + n) (total-sum space us all.1)
    ∙ sym (sum-plus space (λ a. bit (in_some_run a (run_of u.body))) (λ a. hits a us))

-- the run that an update writes is that of its key's item then
slot-of : (u : Update) (items : Items) → slot_in (item_settled u items) u.key ≡ slot_after u.number u.body (slot_in items u.key)
slot-of u items =
    let now = slot_after u.number u.body (slot_in items u.key) in
    slot_in-with u.key u.key now items ∙ ap (λ (b : Bool). if b then now else slot_in items u.key) (key-refl u.key)

apart-by : (n : ℕ) (old : Option Slot) (b c : Body)
    → IfSome (run_of c) (λ run. OfSlot (λ x. AreApart run (run_in x)) (slot_after n b old)) → (a : ℕ)
    → in_some_run a (run_of b) ≡ true → in_some_run a (run_of c) ≡ false
apart-by n old Remove c apart a hit = absurd cc
apart-by n old (Touch until) c apart a hit = absurd cc
apart-by n old (Put flags until run delta) Remove apart a hit = refl
apart-by n old (Put flags until run delta) (Touch later) apart a hit = refl
apart-by n old (Put flags until run delta) (Put others later other change) apart a hit = by (in_run a other) refl where
  by : (b : Bool) → in_run a other ≡ b → in_run a other ≡ false
  by false is = is
  by true is = let not = apart a is in absurd (cc (not, hit))

clear-of : (u : Update) (items : Items) (c : Option Run) → IfSome c (IsClearOfItems (item_settled u items))
    → IfSome c (λ run. OfSlot (λ x. AreApart run (run_in x)) (slot_after u.number u.body (slot_in items u.key)))
clear-of u items None clear = tt
clear-of u items (Some run) clear = subst (OfSlot (λ x. AreApart run (run_in x))) (slot-of u items)
    (each-slot (λ x. AreApart run (run_in x)) u.key (item_settled u items) clear)

clear-all : (items : Items) (us : List Update) → AreClear items us → Each (WritesClear items) us
clear-all items [] clear = tt
clear-all items (u ∷ us) clear = clear.0

hits-none : (a : ℕ) (us : List Update) → Each (λ v. in_some_run a (run_of v.body) ≡ false) us → hits a us ≡ 0
hits-none a [] all = refl
hits-none a (u ∷ us) all =
    let one : bit (in_some_run a (run_of u.body)) ≡ 0 = ap bit all.0 in
    let rest = hits-none a us all.1 in
    omega (arith, one, rest)

hits-one : (items : Items) (us : List Update) → AreClear items us → (a : ℕ) → hits a us ≤ 1
hits-one items [] clear a = omega arith
hits-one items (u ∷ us) clear a = by (in_some_run a (run_of u.body)) refl (hits-one (item_settled u items) us clear.2 a) where
  others : in_some_run a (run_of u.body) ≡ true → Each (λ v. in_some_run a (run_of v.body) ≡ false) us
  others hit = each-weaker (WritesClear (item_settled u items)) (λ v. in_some_run a (run_of v.body) ≡ false)
      (λ v writes. apart-by u.number (slot_in items u.key) u.body v.body (clear-of u items (run_of v.body) writes) a
      hit) us (clear-all (item_settled u items) us clear.2)

  by : (b : Bool) → in_some_run a (run_of u.body) ≡ b → hits a us ≤ 1 → bit b + hits a us ≤ 1
  by true hit rest = let none = hits-none a us (others hit) in omega (arith, none)
  by false hit rest = omega (arith, rest)

pub total-few : (space : ℕ) (items : Items) (us : List Update) → Each (λ u. Writes space u.body) us → AreClear items us → total us ≤ space
total-few space items us all clear =
    let sum = total-sum space us all in
    let few = sum-few space (λ a. hits a us) (hits-one items us clear) in
    omega (arith, sum, few)
