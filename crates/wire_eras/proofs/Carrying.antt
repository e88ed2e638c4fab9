-- What sets of what a table holds leave: each item that was set is what it was, and each other is untouched.
use Rattle.std.proofs.Common.{ℕ, zero, suc, ◌≡◌, ◌≤◌, ◌+◌, ◌==◌, nat_le, Bool, true, false, List, [], ◌∷◌, ◌++◌, Option}
use Rattle.std.proofs.Common.{Some, None, is_some, if◌then◌else◌, inl, inr, refl, sym, ap, subst, ◌∙◌, arith}
use Rattle.std.specs.Prelude.{Contains, slice_index}
use Rattle.std.proofs.lemmas.Grind.{common_steps}
use Rattle.group_types.specs.Each.{Each}
use Rattle.group_types.specs.Hash.{home_of}
use Rattle.group_types.specs.Lists.{same_key}
use Rattle.memc_table.specs.Act.{key_of}
use Rattle.memc_table.specs.Asked.{Asked}
use Rattle.memc_table.specs.Contents.{Contents, after_ruling, count_of, empty_table, ruling_on, table_after}
use Rattle.memc_table.specs.Expiry.{longest_offset, until_of}
use Rattle.memc_table.specs.declared.act.Act.{Act}
use Rattle.memc_table.specs.declared.act.Act.TheVariants.{Add, Append, Cas, Decr, Delete, Get, Incr, Prepend, Replace, Set, Touch}
use Rattle.memc_table.specs.declared.holding.Holding.{Holding}
use Rattle.memc_table.specs.declared.ruling.Ruling.{Ruling}
use Rattle.memc_table.specs.declared.ruling.Ruling.TheVariants.{Accepted, Refused}
use Rattle.group_calls.specs.Log.{IsLegalFrom, table_of}
use Rattle.group_calls.specs.declared.entry.Entry.{Entry}
use Rattle.law_log.proofs.Tables.{table-append}
use Rattle.law_moves.proofs.Reading.{some-same}
use Rattle.law_updates.proofs.Keys.{key-eq, key-refl}
use Rattle.group_eras.specs.Promise.{IsItemKept}
use Rattle.group_eras.specs.Told.{Bases, with_cas, without_base}
use Rattle.group_eras.proofs.Joins.{Joined, Meets, SetsFree, key-cas}
use Rattle.group_eras.proofs.Shifts.{Alike, Gone, IsSet, shift, shifted}
use Rattle.wire_eras.specs.Carry.{ExptimesKeep, HasKey, SetsHeld}
use Rattle.wire_eras.specs.Laws.{SetsKeepItems}
use Rattle.wire_eras.specs.Told.{AreToldAs, IsToldAs, bases_of, table_left}
use Rattle.wire_eras.proofs.Joining.{Anywhere, index-at, joined-start, legal-on, many-left}

-- an op as it was asked sets where it sets as it came in
set-asked : (f : ℕ → ℕ) (act : Act) → IsSet (with_cas f act) → IsSet act
set-asked f (Set key flags expiry value) set = tt
set-asked f (Get key) set = absurd set
set-asked f (Add key flags expiry value) set = absurd set
set-asked f (Replace key flags expiry value) set = absurd set
set-asked f (Cas key flags expiry cas value) set = absurd set
set-asked f (Delete key) set = absurd set
set-asked f (Touch key expiry) set = absurd set
set-asked f (Append key value) set = absurd set
set-asked f (Prepend key value) set = absurd set
set-asked f (Incr key by) set = absurd set
set-asked f (Decr key by) set = absurd set

pub told-key : (bases : Bases) (k : ℕ) (x y : Entry) → IsToldAs bases k x y → key_of x.op.act ≡ key_of y.op.act
told-key bases k x y told = ap (λ (o : Asked). key_of o.act) told.op ∙ key-cas (without_base bases (home_of (key_of y.op.act) k)) y.op.act

-- an op leaves each other key what it was
pub other-key : (t : Contents) (op : Asked) (key : List ℕ) → same_key (key_of op.act) key ≡ false → (table_after t op).items key ≡ t.items key
other-key t op key other = by (ruling_on t op) where
  by : (r : Ruling) → (after_ruling t (key_of op.act) r).items key ≡ t.items key
  by (Refused reply) = refl
  by (Accepted reply leaves) = ap (λ (b : Bool). if b then leaves else t.items key) other

module _ (held : Contents) where
  sets-free : (bases : Bases) (k : ℕ) (some : 1 ≤ k) (entries told : List Entry) → Each (λ e. SetsHeld held e.op) entries → AreToldAs bases k entries told
      → Each (λ y. SetsFree bases k some Anywhere y.op) told
  sets-free bases k some [] [] sets are = tt
  sets-free bases k some [] (y ∷ ys) sets are = absurd are
  sets-free bases k some (x ∷ xs) [] sets are = absurd are
  sets-free bases k some (x ∷ xs) (y ∷ ys) sets are = (
    λ free. set-asked (without_base bases (home_of (key_of y.op.act) k)) y.op.act
        (subst (λ (o : Asked). IsSet o.act) are.0.op (subst IsSet (sym sets.0.act) tt)),
    sets-free bases k some xs ys sets.1 are.1,
  )

  -- what a set leaves
  abbrev left_by : Contents → (op : Asked) → SetsHeld held op → Holding
  left_by t op sets =
      record {
        item = record {
          flags = sets.holding.item.flags;
          cas = count_of t (key_of op.act) + 1;
          value = sets.holding.item.value;
        };
        until = until_of sets.exptime op.moment;
      }

  after-set : (t : Contents) (op : Asked) (sets : SetsHeld held op) (key : List ℕ)
      → (table_after t op).items key ≡ (if same_key (key_of op.act) key then Some (left_by t op sets) else t.items key)
  after-set t op sets key = ap (λ (a : Act). (table_after t (record { moment = op.moment; act = a })).items key) sets.act

  -- an item over all and in the later group, behind sets: untouched, or what the table held
  pub data Settled (key : List ℕ) (all own : Option Holding) : Type 0 where
    Untouched : own ≡ None → all ≡ held.items key → Settled key all own
    OfHeld : (h g : Holding) → held.items key ≡ Some h → own ≡ Some g → g.item.flags ≡ h.item.flags
        → g.item.value ≡ h.item.value → g.until ≡ h.until → 1 ≤ g.item.cas
        → Settled key all own

  settled-after : (all own : Contents) (op asked : Asked) (key : List ℕ) → SetsHeld held op
      → key_of op.act ≡ key_of asked.act → Settled key (all.items key) (own.items key)
      → Settled key ((table_after all asked).items key) ((table_after own op).items key)
  settled-after all own op asked key sets same-keys was = by (same_key (key_of op.act) key) refl was where
    by : (b : Bool) → same_key (key_of op.act) key ≡ b → Settled key (all.items key) (own.items key)
        → Settled key ((table_after all asked).items key) ((table_after own op).items key)
    by true same was =
        OfHeld sets.holding (left_by own op sets) (ap held.items (sym (key-eq (key_of op.act) key same)) ∙ sets.held)
        (after-set own op sets key ∙ ap (λ (b : Bool). if b then Some (left_by own op sets) else own.items key) same) refl refl sets.until (omega arith)
    by false other (Untouched none is) =
        Untouched (other-key own op key other ∙ none) (other-key all asked key (ap (λ (q : List ℕ). same_key q key) (sym same-keys) ∙ other) ∙ is)
    by false other (OfHeld h g there is flags value until cas) = OfHeld h g there (other-key own op key other ∙ is) flags value until cas

  pub settled-all : (bases : Bases) (k : ℕ) (all own : Contents) (entries told : List Entry) (key : List ℕ)
      → Each (λ e. SetsHeld held e.op) entries → AreToldAs bases k entries told
      → Settled key (all.items key) (own.items key) → Settled key ((table_of all told).items key) ((table_of own entries).items key)
  settled-all bases k all own [] [] key sets are was = was
  settled-all bases k all own [] (y ∷ ys) key sets are was = absurd are
  settled-all bases k all own (x ∷ xs) [] key sets are was = absurd are
  settled-all bases k all own (x ∷ xs) (y ∷ ys) key sets are was =
      settled-all bases k (table_after all y.op) (table_after own x.op) xs ys key sets.1 are.1
      (settled-after all own x.op y.op key sets.0 (told-key bases k x y are.0) was)

  -- an item stays, and each set leaves one
  set-some : (t : Contents) (op : Asked) (key : List ℕ) → SetsHeld held op → same_key (key_of op.act) key ≡ true → is_some ((table_after t op).items key) ≡ true
  set-some t op key sets same = ap is_some (after-set t op sets key) ∙ ap (λ (b : Bool). is_some (if b then Some (left_by t op sets) else t.items key)) same

  stays-one : (t : Contents) (op : Asked) (key : List ℕ) → SetsHeld held op → is_some (t.items key) ≡ true → is_some ((table_after t op).items key) ≡ true
  stays-one t op key sets was = by (same_key (key_of op.act) key) refl where
    by : (b : Bool) → same_key (key_of op.act) key ≡ b → is_some ((table_after t op).items key) ≡ true
    by true same = set-some t op key sets same
    by false other = ap is_some (other-key t op key other) ∙ was

  stays : (t : Contents) (log : List Entry) (key : List ℕ) → Each (λ e. SetsHeld held e.op) log
      → is_some (t.items key) ≡ true → is_some ((table_of t log).items key) ≡ true
  stays t [] key sets was = was
  stays t (e ∷ es) key sets was = stays (table_after t e.op) es key sets.1 (stays-one t e.op key sets.0 was)

  pub appears : (t : Contents) (log : List Entry) (key : List ℕ) → Each (λ e. SetsHeld held e.op) log → HasKey log key
      → is_some ((table_of t log).items key) ≡ true
  appears t [] key sets has = absurd (let low = has.1.1 in omega (arith, low))
  appears t (e ∷ es) key sets has = by has.1 (λ there. appears (table_after t e.op) es key sets.1 (has.0, there, has.2)) where
    by : Contains (e ∷ es) has.0 → (Contains es has.0 → is_some ((table_of (table_after t e.op) es).items key) ≡ true)
        → is_some ((table_of (table_after t e.op) es).items key) ≡ true
    by (zero, low, is) later = stays (table_after t e.op) es key sets.1
        (set-some t e.op key sets.0 (ap (λ (y : Entry). same_key (key_of y.op.act) key) is ∙ ap (λ (q : List ℕ). same_key q key) has.2 ∙ key-refl key))
    by (suc i, low, is) later = later (i, omega (arith, low), is)

-- the log of sets, told behind an earlier one
module _ (k : ℕ) (some : 1 ≤ k) (earlier sets told : List Entry) (legal : IsLegalFrom (empty_table k) sets)
    (only : Each (λ e. SetsHeld (table_left k earlier) e.op) sets)
    (are : AreToldAs (bases_of k earlier) k sets told) where
  pub behind : IsLegalFrom (table_left k earlier) told × Joined (bases_of k earlier) k some Anywhere (table_of (table_left k earlier) told) (table_left k sets)
  behind = legal-on (bases_of k earlier) k some Anywhere (table_left k earlier) (empty_table k) sets told (joined-start k some earlier) legal are
      (sets-free (table_left k earlier) (bases_of k earlier) k some sets told only are)

  pub settled : (key : List ℕ) → Settled (table_left k earlier) key ((table_of (table_left k earlier) told).items key) ((table_left k sets).items key)
  settled key = settled-all (table_left k earlier) (bases_of k earlier) k (table_left k earlier) (empty_table k) sets told key only are (Untouched refl refl)

  pub there : (key : List ℕ) → HasKey sets key → is_some ((table_left k sets).items key) ≡ true
  there key has = appears (table_left k earlier) (empty_table k) sets key only has

  kept : (key : List ℕ) (h : Holding) → (table_left k earlier).items key ≡ Some h → HasKey sets key
      → IsItemKept (table_left k earlier) key h (table_of (table_left k earlier) told)
  kept key h was has = by (settled key) where
    shown : (g : Holding) → (table_left k sets).items key ≡ Some g → Meets (bases_of k earlier) k some Anywhere key
        ((table_of (table_left k earlier) told).items key) ((table_left k sets).items key)
        → (table_of (table_left k earlier) told).items key ≡ Some (shifted (bases_of k earlier) (home_of key k) g)
    shown g own (inl (Alike is cas)) = is ∙ ap (shift (bases_of k earlier) (home_of key k)) own
    shown g own (inl (Gone x is ends none)) = absurd (cc (none, own))
    shown g own (inr free) = absurd (cc (free.1, own))

    by : Settled (table_left k earlier) key ((table_of (table_left k earlier) told).items key)
        ((table_left k sets).items key) → IsItemKept (table_left k earlier) key h (table_of (table_left k earlier) told)
    by (Untouched none is) = absurd (cc (ap is_some none, there key has))
    by (OfHeld x g in-table own flags value until cas) =
        let same : x ≡ h = some-same x h (sym in-table ∙ was) in
        record {
          holding = shifted (bases_of k earlier) (home_of key k) g;
          there = shown g own (behind.1.items key);
          flags = flags ∙ ap (λ (y : Holding). y.item.flags) same;
          value = value ∙ ap (λ (y : Holding). y.item.value) same;
          until = until ∙ ap (λ (y : Holding). y.until) same;
          above =
              let place : count_of (table_left k earlier) key ≡ slice_index (bases_of k earlier) (home_of key k) =
              ap (λ (n : ℕ). slice_index (bases_of k earlier) (home_of key n)) (many-left k earlier) in
              let index = index-at (bases_of k earlier) (home_of key k) in
              omega (arith, place, index, cas);
        }

  pub kept-left : (key : List ℕ) (h : Holding) → (table_left k earlier).items key ≡ Some h → HasKey sets key
      → IsItemKept (table_left k earlier) key h (table_left k (earlier ++ told))
  kept-left key h was has = subst (IsItemKept (table_left k earlier) key h) (sym (table-append (empty_table k) earlier told)) (kept key h was has)

pub carries_keep : SetsKeepItems
carries_keep k earlier sets told some legal own only are key h was has = kept-left k some earlier sets told own only are key h was has

pub exptimes_keep : ExptimesKeep
exptimes_keep None moment late = refl
exptimes_keep (Some u) moment late = by (u == 0) refl (nat_le u longest_offset) refl where
  by : (b : Bool) → (u == 0) ≡ b → (c : Bool) → nat_le u longest_offset ≡ c → (if b then None else (if c then Some (moment + u) else Some u)) ≡ Some u
  by true is c low = absurd (let none : u ≡ 0 = grind (arith, common_steps) in omega (arith, none, late))
  by false is true low = absurd (let most : u ≤ longest_offset = grind (arith, common_steps) in omega (arith, most, late))
  by false is false low = refl
