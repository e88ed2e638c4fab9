-- An era whose told log is legal behind that of the eras before stays so.
use Rattle.std.proofs.Common.{ℕ, ◌≡◌, ◌≤◌, List, [], ◌∷◌, ◌++◌, map, replicate, inl, refl, sym, ap, subst, ◌∙◌, arith}
use Rattle.group_eras.proofs.Lists.{map-both}
use Rattle.std.specs.Prelude.{slice_index}
use Rattle.std.proofs.lemmas.List.{length-replicate}
use Rattle.group_types.specs.Dimensions.{Dimensions}
use Rattle.group_types.specs.Each.{Each}
use Rattle.group_types.specs.Lists.{at}
use Rattle.group_types.specs.Shape.{IsShape}
use Rattle.group_types.proofs.Lists.{at-replicate}
use Rattle.memc_table.specs.Contents.{Contents, empty_table, table_after}
use Rattle.group_calls.specs.Log.{IsLegal, IsLegalFrom, table_of}
use Rattle.group_calls.specs.declared.entry.Entry.{Entry}
use Rattle.group_calls.specs.declared.event.Event.{Event}
use Rattle.group_run.specs.Headline.{MayCome}
use Rattle.group_run.specs.World.{opening}
use Rattle.law_log.proofs.Tables.{legal-append, table-append}
use Rattle.law_headline.proofs.Headlines.{headline_always}
use Rattle.group_eras.specs.Eras.{EraEntry, Eras, era_step, first_era, turn_in}
use Rattle.group_eras.specs.Promise.{HasPromise, IsEra, one_log, table_over}
use Rattle.group_eras.specs.Told.{Bases, with_base}
use Rattle.group_eras.proofs.Joins.{Joined, SetsFree, told-legal}
use Rattle.group_eras.proofs.Making as making
use Rattle.group_eras.proofs.Shifts.{Alike}

pub legal-behind : (t : Contents) (es others : List Entry) → IsLegalFrom t (es ++ others) → IsLegalFrom (table_of t es) others
legal-behind t [] others legal = legal
legal-behind t (e ∷ es) others legal = legal-behind (table_after t e.op) es others legal.1

-- the era's table
abbrev pub own_table : Eras → Contents
own_table e = table_of (empty_table e.world.shape.k) e.world.log

-- an era in whose table keys may be free
pub record Standing (Free : List ℕ → Type 0) (e : Eras) : Type 0 where
  pub era : IsEra e
  pub legal : IsLegal e.world.shape.k (one_log e)
  pub joined : (many : 1 ≤ e.world.shape.k) → Joined e.bases e.world.shape.k many Free (table_over e) (own_table e)

module _ (Free : List ℕ → Type 0) (e : Eras) (standing : Standing Free e) (event : Event) (may : MayCome e.world event)
    (sets : (many : 1 ≤ e.world.shape.k) → Each (λ y. SetsFree e.bases e.world.shape.k many Free y.1.op) (era_step e event).logged) where
  abbrev k : ℕ
  k = e.world.shape.k

  some : 1 ≤ e.world.shape.k
  some = standing.era.run.0.k.0

  abbrev news : List Entry
  news = (turn_in e event).logged

  abbrev told : List EraEntry
  told = (era_step e event).logged

  both : (many : 1 ≤ e.world.shape.k) → IsLegalFrom (table_over e) (map (λ y. y.1) told)
      × Joined e.bases k many Free (table_of (table_over e) (map (λ y. y.1) told)) (table_of (own_table e) news)
  both many = told-legal e.bases k many Free (making.asked e standing.era event may) e.era (table_over e) (own_table e) news told (standing.joined many)
      (legal-behind (empty_table k) e.world.log news (making.legal-after e standing.era event may)) (making.logged-told e standing.era event may) (sets many)

  one-log-is : one_log (era_step e event).eras ≡ one_log e ++ map (λ y. y.1) told
  one-log-is = map-both (λ y. y.1) e.log told

  pub standing-next : Standing Free (era_step e event).eras
  standing-next = record {
    era = making.era-next e standing.era event may;
    legal = subst (IsLegal k) (sym one-log-is) (legal-append (empty_table k) (one_log e) (map (λ y. y.1) told) standing.legal (both some).0);
    joined = λ many. subst (λ (t : Contents). Joined e.bases k many Free t (own_table (era_step e event).eras))
        (sym (table-append (empty_table k) (one_log e) (map (λ y. y.1) told)) ∙ ap (table_of (empty_table k)) (sym one-log-is))
        (subst (Joined e.bases k many Free (table_of (table_over e) (map (λ y. y.1) told)))
        (sym (table-append (empty_table k) e.world.log news) ∙ ap (table_of (empty_table k)) (sym (making.log-after e standing.era event may))) (both many).1);
  }

abbrev zero_number : ℕ
zero_number = 0

-- no key is free
abbrev pub NoKey : List ℕ → Type 0
NoKey key = ⊥

pub each-no-key : (bases : Bases) (k : ℕ) (many : 1 ≤ k) (ys : List EraEntry) → Each (λ y. SetsFree bases k many NoKey y.1.op) ys
each-no-key bases k many [] = tt
each-no-key bases k many (y ∷ ys) = ((λ free. absurd free), each-no-key bases k many ys)

abbrev pub Stands : Eras → Type 0
Stands e = Standing NoKey e

pub stands-next : (e : Eras) → Stands e → (event : Event) → MayCome e.world event → Stands (era_step e event).eras
stands-next e stands event may = standing-next NoKey e stands event may (λ many. each-no-key e.bases e.world.shape.k many (era_step e event).logged)

pub has-promise : (e : Eras) → Stands e → HasPromise e
has-promise e stands = record { era = stands.era; legal = stands.legal }

none-first : (s : Dimensions) (d : ℕ) → slice_index (replicate s.k 0) d ≡ with_base (replicate s.k 0) d (slice_index (replicate s.k 0) d)
none-first s d = let none : at zero_number (replicate s.k 0) d ≡ zero_number = at-replicate zero_number s.k d in omega (arith, none)

-- the first era
pub stands-first : (s : Dimensions) → IsShape s → Stands (first_era (opening s))
stands-first s shaped = record {
  era = record {
    asked = [];
    events = [];
    changed = refl;
    run = (shaped, tt);
    stands = refl;
    headline = headline_always s [] (shaped, tt);
    before = [];
    own = [];
    log = refl;
    earlier = tt;
    told = tt;
  };
  legal = tt;
  joined = λ many. record {
    many_all = length-replicate s.k 0;
    many_own = length-replicate s.k 0;
    counts = λ d below. none-first s d;
    items = λ key. inl (Alike refl tt);
  };
}
