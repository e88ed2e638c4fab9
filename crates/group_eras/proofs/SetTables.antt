-- The table that a log of sets leaves.
use Rattle.std.proofs.Common.{ℕ, zero, suc, ◌≡◌, ◌≤◌, ◌+◌, Bool, true, false, List, [], ◌∷◌, Option, Some, None}
use Rattle.std.proofs.Common.{is_some, if◌then◌else◌, refl, sym, ap, subst, ◌∙◌, arith}
use Rattle.std.specs.Prelude.{Contains, slice_get}
use Rattle.group_types.specs.Dimensions.{Dimensions}
use Rattle.group_types.specs.Each.{Each, EachTwo}
use Rattle.group_types.specs.Lists.{same_key}
use Rattle.memc_table.specs.Asked.{Asked}
use Rattle.memc_table.specs.Contents.{Contents, count_of, table_after}
use Rattle.memc_table.specs.Expiry.{until_of}
use Rattle.memc_table.specs.declared.holding.Holding.{Holding}
use Rattle.group_calls.specs.Log.{table_of}
use Rattle.group_calls.specs.declared.entry.Entry.{Entry}
use Rattle.group_calls.specs.declared.event.Event.{Event}
use Rattle.group_calls.specs.declared.event.Event.TheVariants.{Ask}
use Rattle.group_run.specs.Headline.{IsRun}
use Rattle.group_run.specs.World.{after, opening, turns_of}
use Rattle.law_log.proofs.Calls.{each-contained}
use Rattle.law_log.proofs.Turnings.{get-contained}
use Rattle.law_updates.proofs.Keys.{key-eq, key-refl}
use Rattle.law_headline.proofs.Headlines.{headline_always}
use Rattle.group_eras.specs.Carry.{Parcel, expiry_of}
use Rattle.group_eras.proofs.Asking.{turn-event}
use Rattle.group_eras.proofs.Naming.{logged-turn}
use Rattle.group_eras.proofs.SetAll.{Apart, IsPlain}
use Rattle.group_eras.proofs.Setup.{HasSet, op_of}

-- an op that sets one of these parcels
abbrev pub SetsOne : List Parcel → Asked → Type 0
SetsOne all op = (x : Parcel) × Contains all x × (op ≡ op_of x)

-- each entry of a run of sets is of one
pub log-sets : (s : Dimensions) (all : List Parcel) (es : List Event) → IsRun s es → Each (IsPlain all) es
    → (entry : Entry) → Contains (after s es).log entry → SetsOne all entry.op
log-sets s all es run plain entry there =
    let h = headline_always s es run in
    let found = logged-turn (turns_of s es) entry (subst (λ (log : List Entry). Contains log entry) h.one_log.kept there) in
    let ask = h.one_log.within.asked found.0 found.1 entry found.2 found.3 in
    let event : slice_get es ask.0 ≡ Some (Ask entry.caller entry.op ask.3.at) = turn-event (opening s) es ask.0 ask.1 ask.3.there ∙ ap Some ask.3.event in
    each-contained (IsPlain all) es (Ask entry.caller entry.op ask.3.at) plain (get-contained es ask.0 (Ask entry.caller entry.op ask.3.at) event)

-- what a parcel leaves
pub record IsOfParcel (x : Parcel) (h : Holding) : Type 0 where
  pub flags : h.item.flags ≡ x.flags
  pub value : h.item.value ≡ x.value
  pub until : h.until ≡ until_of (expiry_of x.until) 0
  pub cas : 1 ≤ h.item.cas

pub data SetItem (all : List Parcel) (key : List ℕ) (o : Option Holding) : Type 0 where
  NoItem : o ≡ None → SetItem all key o
  OfSet : (x : Parcel) (h : Holding) → Contains all x → x.key ≡ key → o ≡ Some h → IsOfParcel x h → SetItem all key o

abbrev AllSets : List Parcel → List Entry → Type 0
AllSets all log = Each (λ e. SetsOne all e.op) log

abbrev left_by : Contents → Parcel → Holding
left_by t x = record { item = record { flags = x.flags; cas = count_of t x.key + 1; value = x.value }; until = until_of (expiry_of x.until) 0 }

after-set : (t : Contents) (x : Parcel) (key : List ℕ) → (table_after t (op_of x)).items key ≡ (if same_key x.key key then Some (left_by t x) else t.items key)
after-set t x key = refl

item-after : (all : List Parcel) (t : Contents) (op : Asked) (key : List ℕ) → SetsOne all op
    → SetItem all key (t.items key) → SetItem all key ((table_after t op).items key)
item-after all t op key sets was = subst (λ (o : Asked). SetItem all key ((table_after t o).items key)) (sym sets.2) (by (same_key sets.0.key key) refl) where
  x : Parcel
  x = sets.0

  by : (b : Bool) → same_key sets.0.key key ≡ b → SetItem all key (if same_key sets.0.key key then Some (left_by t sets.0) else t.items key)
  by true same = OfSet sets.0 (left_by t sets.0) sets.1 (key-eq sets.0.key key same)
      (ap (λ (b : Bool). if b then Some (left_by t sets.0) else t.items key) same)
      (record { flags = refl; value = refl; until = refl; cas = omega arith })
  by false same = subst (λ (b : Bool). SetItem all key (if b then Some (left_by t sets.0) else t.items key)) (sym same) was

pub sets-items : (all : List Parcel) (t : Contents) (log : List Entry) (key : List ℕ) → Each (λ e. SetsOne all e.op) log
    → SetItem all key (t.items key) → SetItem all key ((table_of t log).items key)
sets-items all t [] key sets was = was
sets-items all t (e ∷ es) key sets was = sets-items all (table_after t e.op) es key sets.1 (item-after all t e.op key sets.0 was)

-- an item stays, and each set leaves one
some-after : (all : List Parcel) (t : Contents) (op : Asked) (key : List ℕ) → SetsOne all op
    → is_some (t.items key) ≡ true → is_some ((table_after t op).items key) ≡ true
some-after all t op key sets was = subst (λ (o : Asked). is_some ((table_after t o).items key) ≡ true) (sym sets.2) (by (same_key sets.0.key key)) where
  by : (b : Bool) → is_some (if b then Some (left_by t sets.0) else t.items key) ≡ true
  by true = refl
  by false = was

stays : (all : List Parcel) (t : Contents) (log : List Entry) (key : List ℕ) → Each (λ e. SetsOne all e.op) log
    → is_some (t.items key) ≡ true → is_some ((table_of t log).items key) ≡ true
stays all t [] key sets was = was
stays all t (e ∷ es) key sets was = stays all (table_after t e.op) es key sets.1 (some-after all t e.op key sets.0 was)

pub appears : (all : List Parcel) (t : Contents) (log : List Entry) (x : Parcel) → Each (λ e. SetsOne all e.op) log
    → HasSet log x → is_some ((table_of t log).items x.key) ≡ true
appears all t [] x sets has = absurd (let low = has.there.1 in omega (arith, low))
appears all t (e ∷ es) x sets has =
    by has.there (λ there. appears all (table_after t e.op) es x sets.1
    (record { entry = has.entry; there = there; op = has.op })) where
      by : Contains (e ∷ es) has.entry
          → (Contains es has.entry → is_some ((table_of (table_after t e.op) es).items x.key) ≡ true)
          → is_some ((table_of (table_after t e.op) es).items x.key) ≡ true
      by (zero, low, is) later = stays all (table_after t e.op) es x.key sets.1
          (subst (λ (o : Asked). is_some ((table_after t o).items x.key) ≡ true) (sym (ap (λ (y : Entry). y.op) is ∙ has.op))
          (ap (λ (b : Bool). is_some (if b then Some (left_by t x) else t.items x.key)) (key-refl x.key)))
      by (suc i, low, is) later = later (i, omega (arith, low), is)

-- parcels with one key are one
pub one-parcel : (all : List Parcel) (x y : Parcel) → EachTwo Apart all → Contains all x → Contains all y → x.key ≡ y.key → x ≡ y
one-parcel [] x y two a b same = absurd (let low = a.1 in omega (arith, low))
one-parcel (z ∷ zs) x y two (zero, la, ia) (zero, lb, ib) same = sym ia ∙ ib
one-parcel (z ∷ zs) x y two (zero, la, ia) (suc j, lb, ib) same =
    absurd (each-contained (Apart z) zs y two.0 (j, omega (arith, lb), ib) (ap (λ (p : Parcel). p.key) ia ∙ same))
one-parcel (z ∷ zs) x y two (suc i, la, ia) (zero, lb, ib) same =
    absurd (each-contained (Apart z) zs x two.0 (i, omega (arith, la), ia) (ap (λ (p : Parcel). p.key) ib ∙ sym same))
one-parcel (z ∷ zs) x y two (suc i, la, ia) (suc j, lb, ib) same = one-parcel zs x y two.1 (i, omega (arith, la), ia) (j, omega (arith, lb), ib) same
