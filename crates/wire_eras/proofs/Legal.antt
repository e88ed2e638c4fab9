-- The log of a later group, told behind an earlier one, is legal.
use Rattle.std.proofs.Common.{ℕ, ◌≡◌, ◌≤◌, ◌+◌, Bool, true, false, List, [], ◌∷◌, ◌++◌, length, Option, Some, None}
use Rattle.std.proofs.Common.{is_some, if◌then◌else◌, ◌⊎◌, inl, inr, refl, sym, ap, subst, ◌∙◌}
use Rattle.std.specs.Prelude.{slice_index, slice_set}
use Rattle.group_types.specs.Dimensions.{Dimensions}
use Rattle.group_types.specs.Each.{Each}
use Rattle.group_types.specs.Hash.{home_of}
use Rattle.group_types.specs.Lists.{same_key}
use Rattle.memc_table.specs.Act.{key_of}
use Rattle.memc_table.specs.Asked.{Asked}
use Rattle.memc_table.specs.Contents.{Contents, after_ruling, count_of, empty_table, reply_in, ruling_on, table_after}
use Rattle.memc_table.specs.Expiry.{is_live, live_at}
use Rattle.memc_table.specs.Ruling.{ruling_of}
use Rattle.memc_table.specs.declared.holding.Holding.{Holding}
use Rattle.memc_table.specs.declared.ruling.Ruling.{Ruling}
use Rattle.memc_table.specs.declared.ruling.Ruling.TheVariants.{Accepted, Refused}
use Rattle.group_calls.specs.Log.{IsLegal, IsLegalFrom, table_of}
use Rattle.group_calls.specs.declared.entry.Entry.{Entry}
use Rattle.law_log.proofs.Tables.{legal-append, table-append}
use Rattle.group_eras.specs.Told.{Bases, with_base}
use Rattle.group_eras.proofs.Joins.{Joined, Meets, SetsFree}
use Rattle.group_eras.proofs.Shifts.{Alike, Gone, HasCas, shift}
use Rattle.group_eras.proofs.Standing.{NoKey, legal-behind}
use Rattle.group_wire.specs.Actions.{Action}
use Rattle.group_wire.specs.Composed.{opening_composed}
use Rattle.group_wire.proofs.Compositions.{runs_compose}
use Rattle.group_wire.proofs.Honest as honest
use Rattle.wire_eras.specs.Carry.{HasExpired, HasKey, SetsHeld}
use Rattle.wire_eras.specs.Laws.{FirstLogIsLegal, GoesOnFrom, IsRaised, IsTold, LogsAreOne, TablesGoOn, log_made, with_raised_cas}
use Rattle.wire_eras.specs.Told.{AreToldAs, bases_of, table_left}
use Rattle.wire_eras.proofs.Carrying.{OfHeld, Settled, Untouched, behind, settled, there, told-key}
use Rattle.wire_eras.proofs.Joining.{Anywhere, index-at, legal-on}

pub first_log_is_legal : FirstLogIsLegal
first_log_is_legal s actions run = subst (λ (t : Dimensions). IsLegal t.k (log_made s actions))
    (honest.shape-from (opening_composed s) actions) (runs_compose s actions run).headline.one_log.legal

each-right : {X : Type 0} (P : X → Type 0) (xs ys : List X) → Each P (xs ++ ys) → Each P ys
each-right P [] ys all = all
each-right P (x ∷ xs) ys all = each-right P xs ys all.1

legal-front : (t : Contents) (es others : List Entry) → IsLegalFrom t (es ++ others) → IsLegalFrom t es
legal-front t [] others legal = tt
legal-front t (e ∷ es) others legal = (legal.0, legal-front (table_after t e.op) es others legal.1)

-- what is told of two logs
pub record ToldBoth (bases : Bases) (k : ℕ) (xs ys told : List Entry) : Type 0 where
  pub front : List Entry
  pub rest : List Entry
  pub is : told ≡ front ++ rest
  pub first : AreToldAs bases k xs front
  pub second : AreToldAs bases k ys rest

pub told-both : (bases : Bases) (k : ℕ) (xs ys told : List Entry) → AreToldAs bases k (xs ++ ys) told → ToldBoth bases k xs ys told
told-both bases k [] ys told are = record { front = []; rest = told; is = refl; first = tt; second = are }
told-both bases k (x ∷ xs) ys [] are = absurd are
told-both bases k (x ∷ xs) ys (y ∷ told) are =
    let more = told-both bases k xs ys told are.1 in
    record { front = y ∷ more.front; rest = more.rest; is = ap (λ (zs : List Entry). y ∷ zs) more.is; first = (are.0, more.first); second = more.second }

-- an item over all, and without those that weren't carried
pub data StaleAt (log : List Entry) (key : List ℕ) (x y : Option Holding) : Type 0 where
  AsIs : x ≡ y → StaleAt log key x y
  Ended : (h : Holding) → x ≡ Some h → y ≡ None → HasExpired log key h → StaleAt log key x y

pub record Stale (log : List Entry) (all clean : Contents) : Type 0 where
  pub counts : all.counts ≡ clean.counts
  pub items : (key : List ℕ) → StaleAt log key (all.items key) (clean.items key)

later-at : (e : Entry) (log : List Entry) (key : List ℕ) (x y : Option Holding) → StaleAt (e ∷ log) key x y → StaleAt log key x y
later-at e log key x y (AsIs same) = AsIs same
later-at e log key x y (Ended h is none ended) = Ended h is none ended.1

module _ (e : Entry) (log : List Entry) (all clean : Contents) (stale : Stale (e ∷ log) all clean) where
  counted : count_of all (key_of e.op.act) ≡ count_of clean (key_of e.op.act)
  counted = ap (λ (cs : List ℕ). slice_index cs (home_of (key_of e.op.act) (length cs))) stale.counts

  live-same : (x y : Option Holding) → StaleAt (e ∷ log) (key_of e.op.act) x y → live_at e.op.moment x ≡ live_at e.op.moment y
  live-same x y (AsIs same) = ap (live_at e.op.moment) same
  live-same x y (Ended h is none ended) =
      ap (live_at e.op.moment) is ∙ ap (λ (b : Bool). if b then Some h else None) (ended.0 refl) ∙ sym (ap (live_at e.op.moment) none)

  -- an op comes to the same
  ruling-same : ruling_on all e.op ≡ ruling_on clean e.op
  ruling-same =
      ap (λ (n : ℕ). ruling_of e.op.moment (n + 1) e.op.act (live_at e.op.moment (all.items (key_of e.op.act)))) counted
      ∙ ap (ruling_of e.op.moment (count_of clean (key_of e.op.act) + 1) e.op.act)
      (live-same (all.items (key_of e.op.act)) (clean.items (key_of e.op.act)) (stale.items (key_of e.op.act)))

  stale-ruled : (r : Ruling) → Stale log (after_ruling all (key_of e.op.act) r) (after_ruling clean (key_of e.op.act) r)
  stale-ruled (Refused reply) =
      record {
        counts = stale.counts;
        items = λ other. later-at e log other (all.items other) (clean.items other)
            (stale.items other);
      }
  stale-ruled (Accepted reply leaves) = record {
    counts = ap (λ (cs : List ℕ). slice_set cs (home_of (key_of e.op.act) (length cs))
        (slice_index cs (home_of (key_of e.op.act) (length cs)) + 1)) stale.counts;
    items = λ other. by other (same_key (key_of e.op.act) other);
  } where
    by : (other : List ℕ) (b : Bool) → StaleAt log other (if b then leaves else all.items other) (if b then leaves else clean.items other)
    by other true = AsIs refl
    by other false = later-at e log other (all.items other) (clean.items other) (stale.items other)

  stale-after : Stale log (table_after all e.op) (table_after clean e.op)
  stale-after = subst (λ (r : Ruling). Stale log (after_ruling all (key_of e.op.act) r) (table_after clean e.op))
      (sym ruling-same) (stale-ruled (ruling_on clean e.op))

-- a log that is legal without the items that weren't carried is so with them, and leaves them as they are
stale-legal : (log : List Entry) (all clean : Contents) → Stale log all clean → IsLegalFrom clean log
    → IsLegalFrom all log × Stale [] (table_of all log) (table_of clean log)
stale-legal [] all clean stale legal = (tt, stale)
stale-legal (e ∷ es) all clean stale legal =
    let rest = stale-legal es (table_after all e.op) (table_after clean e.op) (stale-after e es all clean stale) legal.1 in
    ((legal.0 ∙ sym (ap reply_in (ruling-same e es all clean stale)), rest.0), rest.1)

no-free : (bases : Bases) (k : ℕ) (some : 1 ≤ k) (ys : List Entry) → Each (λ y. SetsFree bases k some NoKey y.op) ys
no-free bases k some [] = tt
no-free bases k some (y ∷ ys) = ((λ free. absurd free), no-free bases k some ys)

-- an item has ended by the moments that are told
ended-told : (bases : Bases) (k : ℕ) (key : List ℕ) (h : Holding) (entries told : List Entry)
    → AreToldAs bases k entries told → HasExpired entries key h → HasExpired told key h
ended-told bases k key h [] [] are ended = tt
ended-told bases k key h [] (y ∷ ys) are ended = absurd are
ended-told bases k key h (x ∷ xs) [] are ended = absurd are
ended-told bases k key h (x ∷ xs) (y ∷ ys) are ended = (
  λ is. subst (λ (t : ℕ). is_live t h.until ≡ false) (ap (λ (o : Asked). o.moment) are.0.op) (ended.0 (told-key bases k x y are.0 ∙ is)),
  ended-told bases k key h xs ys are.1 ended.1,
)

-- a log that begins with a carry, told behind an earlier one
module _ (k : ℕ) (some : 1 ≤ k) (earlier sets later front rest : List Entry) (legal : IsLegalFrom (empty_table k) (sets ++ later))
    (only : Each (λ e. SetsHeld (table_left k earlier) e.op) sets) (first : AreToldAs (bases_of k earlier) k sets front)
    (second : AreToldAs (bases_of k earlier) k later rest)
    (all : (key : List ℕ) (h : Holding) → (table_left k earlier).items key ≡ Some h → HasKey sets key ⊎ HasExpired (sets ++ later) key h) where
  -- the table over all, without the items that weren't carried
  abbrev clean : Contents
  clean = record {
    items = λ key. if is_some ((table_left k sets).items key) then
        (table_of (table_left k earlier) front).items key else None;
    counts =
        (table_of (table_left k earlier) front).counts;
  }

  set-legal : IsLegalFrom (empty_table k) sets
  set-legal = legal-front (empty_table k) sets later legal

  both : IsLegalFrom (table_left k earlier) front × Joined (bases_of k earlier) k some Anywhere (table_of (table_left k earlier) front) (table_left k sets)
  both = behind k some earlier sets front set-legal only first

  clean-joined : Joined (bases_of k earlier) k some NoKey clean (table_left k sets)
  clean-joined = record {
    many_all = both.1.many_all;
    many_own = both.1.many_own;
    counts = both.1.counts;
    items = λ key. item key ((table_left k sets).items key) refl (both.1.items key);
  } where
    item : (key : List ℕ) (o : Option Holding) → (table_left k sets).items key ≡ o
        → Meets (bases_of k earlier) k some Anywhere key ((table_of (table_left k earlier) front).items key)
        ((table_left k sets).items key)
        → Meets (bases_of k earlier) k some NoKey key
        (if is_some ((table_left k sets).items key) then (table_of (table_left k earlier) front).items key else None)
        ((table_left k sets).items key)
    item key None is meets =
        inl (Alike (ap (λ (b : Bool). if b then (table_of (table_left k earlier) front).items key else None)
        (ap is_some is) ∙ sym (ap (shift (bases_of k earlier) (home_of key k)) is))
        (subst HasCas (sym is) tt))
    item key (Some g) is (inl (Alike same has)) =
        inl (Alike (ap (λ (b : Bool). if b then (table_of (table_left k earlier) front).items key else None)
        (ap is_some is) ∙ same) has)
    item key (Some g) is (inl (Gone h same ends none)) = absurd (cc (none, is))
    item key (Some g) is (inr free) = absurd (cc (free.1, is))

  clean-stale : Stale rest (table_of (table_left k earlier) front) clean
  clean-stale =
      record {
        counts = refl;
        items = λ key. item key ((table_left k sets).items key) refl
            (settled k some earlier sets front set-legal only first key);
      } where
        gone : (key : List ℕ) (h : Holding) → (table_left k sets).items key ≡ None → HasKey sets key ⊎ HasExpired (sets ++ later) key h → HasExpired rest key h
        gone key h none (inl has) = absurd (cc (ap is_some none, there k some earlier sets front set-legal only first key has))
        gone key h none (inr ended) = ended-told (bases_of k earlier) k key h later rest second
            (each-right (λ e. key_of e.op.act ≡ key → is_live e.op.moment h.until ≡ false) sets later ended)

        out : (key : List ℕ) → (table_left k sets).items key ≡ None
            → (if is_some ((table_left k sets).items key) then (table_of (table_left k earlier) front).items key else None)
            ≡ None
        out key none = ap (λ (b : Bool). if b then (table_of (table_left k earlier) front).items key else None) (ap is_some none)

        left : (key : List ℕ) (o : Option Holding) → (table_left k earlier).items key ≡ o → (table_left k sets).items key
            ≡ None → (table_of (table_left k earlier) front).items key ≡ (table_left k earlier).items key
            → StaleAt rest key ((table_of (table_left k earlier) front).items key)
            (if is_some ((table_left k sets).items key) then (table_of (table_left k earlier) front).items key else None)
        left key None was none is = AsIs (is ∙ was ∙ sym (out key none))
        left key (Some h) was none is = Ended h (is ∙ was) (out key none) (gone key h none (all key h was))

        item : (key : List ℕ) (o : Option Holding) → (table_left k sets).items key ≡ o
            → Settled (table_left k earlier) key ((table_of (table_left k earlier) front).items key)
            ((table_left k sets).items key)
            → StaleAt rest key ((table_of (table_left k earlier) front).items key)
            (if is_some ((table_left k sets).items key) then (table_of (table_left k earlier) front).items key else None)
        item key (Some g) is was = AsIs (sym (ap (λ (b : Bool). if b then (table_of (table_left k earlier) front).items key else None) (ap is_some is)))
        item key None is (Untouched none untouched) = left key ((table_left k earlier).items key) refl none untouched
        item key None is (OfHeld h g was own_is flags value until cas) = absurd (cc (is, own_is))

  behind-sets : IsLegalFrom clean rest × Joined (bases_of k earlier) k some NoKey (table_of clean rest) (table_of (table_left k sets) later)
  behind-sets = legal-on (bases_of k earlier) k some NoKey clean (table_left k sets) later rest clean-joined
      (legal-behind (empty_table k) sets later legal) second (no-free (bases_of k earlier) k some rest)

  stale-end : IsLegalFrom (table_of (table_left k earlier) front) rest × Stale [] (table_of (table_of (table_left k earlier) front) rest) (table_of clean rest)
  stale-end = stale-legal rest (table_of (table_left k earlier) front) clean clean-stale behind-sets.0

  pub told-on : IsLegalFrom (table_left k earlier) (front ++ rest)
  told-on = legal-append (table_left k earlier) front rest both.0 stale-end.0

  pub told-raised : IsRaised (bases_of k earlier) k (table_of (table_left k sets) later) (table_of (table_of (table_left k earlier) front) rest)
  told-raised = record {
    counts = λ d below.
        sym (index-at (table_of (table_of (table_left k earlier) front) rest).counts d)
        ∙ ap (λ (cs : List ℕ). slice_index cs d) stale-end.1.counts ∙ behind-sets.1.counts d below
        ∙ ap (with_base (bases_of k earlier) d) (index-at (table_of (table_left k sets) later).counts d);
    items = λ key h own. item key h own (stale-end.1.items key) (behind-sets.1.items key);
  } where
    item : (key : List ℕ) (h : Holding) → (table_of (table_left k sets) later).items key ≡ Some h
        → StaleAt [] key ((table_of (table_of (table_left k earlier) front) rest).items key) ((table_of clean rest).items key)
        → Meets (bases_of k earlier) k some NoKey key ((table_of clean rest).items key) ((table_of (table_left k sets) later).items key)
        → (table_of (table_of (table_left k earlier) front) rest).items key ≡ Some (with_raised_cas (bases_of k earlier) (home_of key k) h)
    item key h own (AsIs same) (inl (Alike is has)) = same ∙ is ∙ ap (shift (bases_of k earlier) (home_of key k)) own
    item key h own (Ended x is none ended) (inl (Alike same has)) = absurd (cc (sym none ∙ same ∙ ap (shift (bases_of k earlier) (home_of key k)) own))
    item key h own was (inl (Gone x is ends none)) = absurd (cc (none, own))
    item key h own was (inr free) = absurd free.0

-- so is that of a group over machines
module _ (earlier told : List Entry) (s : Dimensions) (actions : List Action) (goes : GoesOnFrom earlier s actions) (are : IsTold earlier s actions told) where
  split : ToldBoth (bases_of s.k earlier) s.k goes.carried.sets goes.carried.later told
  split = told-both (bases_of s.k earlier) s.k goes.carried.sets goes.carried.later told
      (subst (λ (log : List Entry). AreToldAs (bases_of s.k earlier) s.k log told) goes.carried.is are)

  own-legal : IsLegalFrom (empty_table s.k) (goes.carried.sets ++ goes.carried.later)
  own-legal = subst (IsLegalFrom (empty_table s.k)) goes.carried.is (first_log_is_legal s actions goes.run)

  each-item : (key : List ℕ) (h : Holding) → (table_left s.k earlier).items key ≡ Some h → HasKey goes.carried.sets key
      ⊎ HasExpired (goes.carried.sets ++ goes.carried.later) key h
  each-item key h was = subst (λ (log : List Entry). HasKey goes.carried.sets key ⊎ HasExpired log key h) goes.carried.is (goes.carried.all key h was)

  pub goes-on : IsLegalFrom (table_left s.k earlier) told
  goes-on = subst (IsLegalFrom (table_left s.k earlier)) (sym split.is)
      (told-on s.k goes.run.0.k.0 earlier goes.carried.sets goes.carried.later split.front split.rest own-legal
      goes.carried.only split.first split.second each-item)

  own-table : table_of (table_left s.k goes.carried.sets) goes.carried.later ≡ table_left s.k (log_made s actions)
  own-table = sym (table-append (empty_table s.k) goes.carried.sets goes.carried.later) ∙ ap (table_left s.k) (sym goes.carried.is)

  over-table : table_of (table_of (table_left s.k earlier) split.front) split.rest ≡ table_left s.k (earlier ++ told)
  over-table = sym (table-append (table_left s.k earlier) split.front split.rest)
      ∙ ap (table_of (table_left s.k earlier)) (sym split.is) ∙ sym (table-append (empty_table s.k) earlier told)

  raises : IsRaised (bases_of s.k earlier) s.k (table_left s.k (log_made s actions)) (table_left s.k (earlier ++ told))
  raises = subst (λ (t : Contents). IsRaised (bases_of s.k earlier) s.k t (table_left s.k (earlier ++ told))) own-table
      (subst (IsRaised (bases_of s.k earlier) s.k (table_of (table_left s.k goes.carried.sets) goes.carried.later)) over-table
      (told-raised s.k goes.run.0.k.0 earlier goes.carried.sets goes.carried.later split.front split.rest own-legal
      goes.carried.only split.first split.second each-item))

pub logs_are_one : LogsAreOne
logs_are_one earlier told s actions goes are = legal-append (empty_table s.k) earlier told goes.legal (goes-on earlier told s actions goes are)

pub tables_go_on : TablesGoOn
tables_go_on earlier told s actions goes are = raises earlier told s actions goes are
