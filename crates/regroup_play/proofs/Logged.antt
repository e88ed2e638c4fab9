-- What was logged since stands last among the entries of its era.
use Rattle.std.proofs.Common.{ℕ, suc, ◌≡◌, ◌≢◌, ◌<◌, ◌==◌, Bool, true, false, List, [], ◌∷◌, ◌++◌, length, drop, map}
use Rattle.std.proofs.Common.{if◌then◌else◌, refl, sym, ap, subst, ◌∙◌, append_assoc, append-nil, arith}
use Rattle.std.proofs.Math.Seq.{drop-append_seam}
use Rattle.std.proofs.lemmas.Bool.Decides.{nat_tests}
use Rattle.group_types.specs.Dimensions.{Dimensions}
use Rattle.group_types.specs.Each.{Each}
use Rattle.group_calls.specs.declared.entry.Entry.{Entry}
use Rattle.group_calls.specs.declared.event.Event.{Event}
use Rattle.group_run.specs.World.{opening}
use Rattle.scenario_run.proofs.Entries as texts
use Rattle.scenario_run.specs.Marks.{marked, marked_entries}
use Rattle.group_eras.specs.Carry.{carried, read_era, reading, setting}
use Rattle.group_eras.specs.Eras.{EraEntry, Eras, era_step, eras_after, logged_in_era, next_era, turn_in}
use Rattle.group_eras.specs.Promise.{AreTold, IsEra, IsLed}
use Rattle.group_eras.specs.Told.{Bases}
use Rattle.group_eras.proofs.Promises.{eras_are_runs}
use Rattle.group_regroup.specs.Last.{entries_of_era}
use Rattle.regroup_run.specs.Playing.{logged_since}
use Rattle.regroup_run.specs.Texts.{era_entries_text, era_entry_text, era_mark}

-- all are of an era, or none is
abbrev pub AllOf : ℕ → List EraEntry → Type 0
AllOf era xs = Each (λ x. x.0 ≡ era) xs

abbrev pub NoneOf : ℕ → List EraEntry → Type 0
NoneOf era xs = Each (λ x. x.0 ≢ era) xs

abbrev plain : List EraEntry → List Entry
plain xs = map (λ x. x.1) xs

entries-append : (era : ℕ) (a b : List EraEntry) → entries_of_era era (a ++ b) ≡ entries_of_era era a ++ entries_of_era era b
entries-append era [] b = refl
entries-append era (x ∷ a) b = by (x.0 == era) (entries-append era a b) where
  by : (t : Bool) → entries_of_era era (a ++ b) ≡ entries_of_era era a ++ entries_of_era era b
      → (if t then x.1 ∷ entries_of_era era (a ++ b) else entries_of_era era (a ++ b)) ≡
      (if t then x.1 ∷ entries_of_era era a else entries_of_era era a) ++ entries_of_era era b
  by true rest = ap (λ (xs : List Entry). x.1 ∷ xs) rest
  by false rest = rest

same-number : (n m : ℕ) → n ≡ m → (n == m) ≡ true
same-number n m is = grind (arith, nat_tests)

other-number : (n m : ℕ) → n ≢ m → (n == m) ≡ false
other-number n m is = grind (arith, nat_tests)

own-entries : (era : ℕ) (xs : List EraEntry) → AllOf era xs → entries_of_era era xs ≡ plain xs
own-entries era [] own = refl
own-entries era (x ∷ xs) own =
    ap (λ (t : Bool). if t then x.1 ∷ entries_of_era era xs else entries_of_era era xs) (same-number x.0 era own.0)
    ∙ ap (λ (ys : List Entry). x.1 ∷ ys) (own-entries era xs own.1)

no-entries : (era : ℕ) (xs : List EraEntry) → NoneOf era xs → entries_of_era era xs ≡ []
no-entries era [] none = refl
no-entries era (x ∷ xs) none = ap (λ (t : Bool). if t then x.1 ∷ entries_of_era era xs else entries_of_era era xs)
    (other-number x.0 era none.0) ∙ no-entries era xs none.1

own-text : (era : ℕ) (xs : List EraEntry) → AllOf era xs → marked_entries (era_mark era) (plain xs) ≡ era_entries_text xs
own-text era [] own = refl
own-text era (x ∷ xs) own =
    ap (λ (n : ℕ). marked (era_mark n) x.1 ++ 10 ∷ marked_entries (era_mark era) (plain xs)) (sym own.0)
    ∙ ap (λ (ys : List ℕ). marked (era_mark x.0) x.1 ++ 10 ∷ ys) (own-text era xs own.1)

each-append : (P : EraEntry → Type 0) (a b : List EraEntry) → Each P a → Each P b → Each P (a ++ b)
each-append P [] b all more = more
each-append P (x ∷ a) b all more = (all.0, each-append P a b all.1 more)

-- entries of the current era's log are told one by one
told-own : (bases : Bases) (k : ℕ) (asked : List Event) (era : ℕ) (xs : List Entry) (ys : List EraEntry)
    → AreTold bases k asked era xs ys → AllOf era ys × (length ys ≡ length xs)
told-own bases k asked era [] [] told = (tt, refl)
told-own bases k asked era (x ∷ xs) (y ∷ ys) told = let rest = told-own bases k asked era xs ys told.2 in ((told.0, rest.0), ap suc rest.1)
told-own bases k asked era [] (y ∷ ys) told = absurd told
told-own bases k asked era (x ∷ xs) [] told = absurd told

earlier-none : (era : ℕ) (xs : List EraEntry) → Each (λ x. x.0 < era) xs → NoneOf era xs
earlier-none era [] all = tt
earlier-none era (x ∷ xs) all = let less = all.0 in ((λ same. omega (arith, less, same)), earlier-none era xs all.1)

earlier-next : (era : ℕ) (xs : List EraEntry) → Each (λ x. x.0 < era) xs → NoneOf (suc era) xs
earlier-next era [] all = tt
earlier-next era (x ∷ xs) all = let less = all.0 in ((λ same. omega (arith, less, same)), earlier-next era xs all.1)

own-next : (era : ℕ) (xs : List EraEntry) → AllOf era xs → NoneOf (suc era) xs
own-next era [] all = tt
own-next era (x ∷ xs) all = let is = all.0 in ((λ same. omega (arith, is, same)), own-next era xs all.1)

next-own : (era : ℕ) (xs : List EraEntry) → AllOf (suc era) xs → NoneOf era xs
next-own era [] all = tt
next-own era (x ∷ xs) all = let is = all.0 in ((λ same. omega (arith, is, same)), next-own era xs all.1)

plain-many : (xs : List EraEntry) → length (plain xs) ≡ length xs
plain-many [] = refl
plain-many (x ∷ xs) = ap suc (plain-many xs)

-- the entries of the current era are as many as its world logged, and none is of a later one
pub record Standing (e : Eras) : Type 0 where
  pub many : length (entries_of_era e.era e.log) ≡ length e.world.log
  pub none : NoneOf (suc e.era) e.log

pub standing : (e : Eras) → IsLed e → Standing e
standing e led = record {
  many = ap (λ (xs : List EraEntry). length (entries_of_era e.era xs)) era.log ∙ ap length (entries-append e.era era.before era.own)
      ∙ ap (λ (xs : List Entry). length (xs ++ entries_of_era e.era era.own))
      (no-entries e.era era.before (earlier-none e.era era.before era.earlier))
      ∙ ap length (own-entries e.era era.own own.0)
      ∙ plain-many era.own ∙ own.1;
  none = subst (NoneOf (suc e.era)) (sym era.log)
      (each-append (λ x. x.0 ≢ suc e.era) era.before era.own (earlier-next e.era era.before era.earlier)
      (own-next e.era era.own own.0));
} where
  era : IsEra e
  era = (eras_are_runs e led).era

  own : AllOf e.era era.own × (length era.own ≡ length e.world.log)
  own = told-own e.bases e.world.shape.k era.asked e.era e.world.log era.own era.told

-- what events log stands behind
pub record Grown (e f : Eras) : Type 0 where
  pub more : List EraEntry
  pub log : f.log ≡ e.log ++ more
  pub own : AllOf e.era more
  pub era : f.era ≡ e.era

in-era : (e : Eras) (x : Event) (entries : List Entry) → AllOf e.era (logged_in_era e x entries)
in-era e x [] = tt
in-era e x (entry ∷ entries) = (refl, in-era e x entries)

pub grown : (e : Eras) (es : List Event) → Grown e (eras_after e es)
grown e [] = record { more = []; log = sym (append-nil e.log); own = tt; era = refl }
grown e (x ∷ xs) =
    let here : List EraEntry = logged_in_era e x (turn_in e x).logged in
    let rest : Grown (era_step e x).eras (eras_after (era_step e x).eras xs) = grown (era_step e x).eras xs in
    record {
      more = here ++ rest.more;
      log = rest.log ∙ append_assoc e.log here rest.more;
      own = each-append (λ y. y.0 ≡ e.era) here rest.more (in-era e x (turn_in e x).logged) rest.own;
      era = rest.era;
    }

behind : (a b : List EraEntry) → logged_since a (a ++ b) ≡ b
behind a b = drop-append_seam a b

last-entries : (e : Eras) (more log : List EraEntry) → Standing e → log ≡ e.log ++ more
    → drop (length e.world.log) (entries_of_era e.era log) ≡ entries_of_era e.era more
last-entries e more log stands is =
    ap (λ (n : ℕ). drop n (entries_of_era e.era log)) (sym stands.many)
    ∙ ap (λ (xs : List EraEntry). drop (length (entries_of_era e.era e.log)) (entries_of_era e.era xs)) is
    ∙ ap (drop (length (entries_of_era e.era e.log))) (entries-append e.era e.log more) ∙ drop-append_seam (entries_of_era e.era e.log)
    (entries_of_era e.era more)

-- the text of what was logged since
pub since-written : (e f : Eras) (era from : ℕ) → IsLed e → Grown e f → era ≡ f.era → from ≡ length e.world.log
    → marked_entries (era_mark era) (drop from (entries_of_era era f.log)) ≡ era_entries_text (logged_since e.log f.log)
since-written e f era from led g is at =
    ap (λ (n : ℕ). marked_entries (era_mark n) (drop from (entries_of_era n f.log))) (is ∙ g.era)
    ∙ ap (λ (n : ℕ). marked_entries (era_mark e.era) (drop n (entries_of_era e.era f.log))) at
    ∙ ap (marked_entries (era_mark e.era)) (last-entries e g.more f.log (standing e led) g.log ∙ own-entries e.era g.more g.own) ∙ own-text e.era g.more g.own
    ∙ sym (ap era_entries_text (ap (logged_since e.log) g.log ∙ behind e.log g.more))

-- one event
pub since-event : (e : Eras) (x : Event) → logged_since e.log (era_step e x).eras.log ≡ (era_step e x).logged
since-event e x = behind e.log (era_step e x).logged

-- the log behind a carry: what reading logged in the old era, and what setting logged in the new one
module _ (e : Eras) (s : Dimensions) where
  read : Grown e (read_era e)
  read = grown e (reading e.world).events

  set : Grown (next_era (read_era e) s) (carried e s)
  set = grown (next_era (read_era e) s) (setting (opening s) (reading e.world).parcels)

  pub carried-era : (carried e s).era ≡ suc e.era
  carried-era = set.era ∙ ap suc read.era

  whole : (carried e s).log ≡ e.log ++ (read.more ++ set.more)
  whole = set.log ∙ ap (λ (xs : List EraEntry). xs ++ set.more) read.log ∙ append_assoc e.log read.more set.more

  set-own : AllOf (suc e.era) set.more
  set-own = subst (λ (n : ℕ). AllOf n set.more) (ap suc read.era) set.own

  old-text : (from : ℕ) → IsLed e → from ≡ length e.world.log
      → marked_entries (era_mark e.era) (drop from (entries_of_era e.era (carried e s).log)) ≡ era_entries_text read.more
  old-text from led at =
      ap (λ (n : ℕ). marked_entries (era_mark e.era) (drop n (entries_of_era e.era (carried e s).log))) at
      ∙ ap (marked_entries (era_mark e.era)) (last-entries e (read.more ++ set.more) (carried e s).log (standing e led)
      whole ∙ entries-append e.era read.more set.more
      ∙ ap (λ (xs : List Entry). entries_of_era e.era read.more ++ xs)
      (no-entries e.era set.more (next-own e.era set.more set-own)) ∙ append-nil (entries_of_era e.era read.more)
      ∙ own-entries e.era read.more read.own) ∙ own-text e.era read.more read.own

  new-text : IsLed e → marked_entries (era_mark (suc e.era)) (entries_of_era (suc e.era) (carried e s).log) ≡ era_entries_text set.more
  new-text led =
      ap (λ (xs : List EraEntry). marked_entries (era_mark (suc e.era)) (entries_of_era (suc e.era) xs))
      (set.log ∙ ap (λ (xs : List EraEntry). xs ++ set.more) read.log)
      ∙ ap (marked_entries (era_mark (suc e.era))) (entries-append (suc e.era) (e.log ++ read.more) set.more
      ∙ ap (λ (xs : List Entry). xs ++ entries_of_era (suc e.era) set.more) (no-entries (suc e.era) (e.log ++ read.more)
      (each-append (λ x. x.0 ≢ suc e.era) e.log read.more (standing e led).none (own-next e.era read.more read.own)))
      ∙ own-entries (suc e.era) set.more set-own) ∙ own-text (suc e.era) set.more set-own

  pub carry-written : (era from now : ℕ) → IsLed e → era ≡ e.era → from ≡ length e.world.log → now ≡ (carried e s).era
      → marked_entries (era_mark era) (drop from (entries_of_era era (carried e s).log))
      ++ marked_entries (era_mark now) (drop 0 (entries_of_era now (carried e s).log))
      ≡ era_entries_text (logged_since e.log (carried e s).log)
  carry-written era from now led is at later =
      ap (λ (n : ℕ). marked_entries (era_mark n) (drop from (entries_of_era n (carried e s).log))
      ++ marked_entries (era_mark now) (entries_of_era now (carried e s).log)) is
      ∙ ap (λ (n : ℕ). marked_entries (era_mark e.era) (drop from (entries_of_era e.era (carried e s).log))
      ++ marked_entries (era_mark n) (entries_of_era n (carried e s).log)) (later ∙ carried-era)
      ∙ ap (λ (xs : List ℕ). xs ++ marked_entries (era_mark (suc e.era)) (entries_of_era (suc e.era) (carried e s).log)) (old-text from led at)
      ∙ ap (λ (xs : List ℕ). era_entries_text read.more ++ xs) (new-text led) ∙ sym (texts.entries-append era_entry_text read.more set.more)
      ∙ sym (ap era_entries_text (ap (logged_since e.log) whole ∙ behind e.log (read.more ++ set.more)))
