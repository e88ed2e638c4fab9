-- Events that come in as they are asked: an era follows its world, and stays legal.
use Rattle.std.proofs.Common.{ℕ, zero, suc, ◌≡◌, ◌≤◌, List, [], ◌∷◌, ◌++◌, take, refl, sym, ap, subst, ◌∙◌, arith}
use Rattle.std.specs.Prelude.{Contains}
use Rattle.std.proofs.lemmas.List.Elements.{Contains-append_right}
use Rattle.group_types.specs.Dimensions.{Dimensions}
use Rattle.group_types.specs.Each.{Each}
use Rattle.memc_table.specs.Asked.{Asked}
use Rattle.memc_table.specs.declared.act.Act.{Act}
use Rattle.memc_table.specs.declared.act.Act.TheVariants.{Add, Append, Cas, Decr, Delete, Get, Incr, Prepend, Replace, Set, Touch}
use Rattle.group_calls.specs.declared.entry.Entry.{Entry}
use Rattle.group_calls.specs.declared.event.Event.{Event}
use Rattle.group_calls.specs.declared.event.Event.TheVariants.{Ask, Collect, Deliver, Fail, Flush, Trace}
use Rattle.group_run.specs.Headline.{IsRun, IsRunFrom, MayCome}
use Rattle.group_run.specs.World.{World, after, opening, step, world_after}
use Rattle.law_answers.proofs.Entries.{after-more, run-more}
use Rattle.group_eras.specs.Carry.{Parcel}
use Rattle.group_eras.specs.Eras.{EraEntry, Eras, era_step, eras_after}
use Rattle.group_eras.specs.Promise.{AreTold}
use Rattle.group_eras.specs.Told.{Bases, event_in, with_cas}
use Rattle.group_eras.proofs.Joins.{SetsFree}
use Rattle.group_eras.proofs.Making as making
use Rattle.group_eras.proofs.Resting.{IsGet, IsStill}
use Rattle.group_eras.proofs.SetAll.{IsPlain}
use Rattle.group_eras.proofs.SetTables.{SetsOne, log-sets}
use Rattle.group_eras.proofs.Shifts.{IsSet}
use Rattle.group_eras.proofs.Standing.{Standing, Stands, standing-next, stands-next}
use Rattle.law_moves.proofs.Reading.{grown-is}

-- an event that comes in as it is asked
abbrev pub IsSame : Event → Type 0
IsSame e = (bases : Bases) (k : ℕ) → event_in bases k e ≡ e

get-same : (f : ℕ → ℕ) (act : Act) → IsGet act → with_cas f act ≡ act
get-same f (Get key) is = refl
get-same f (Set key flags expiry value) is = absurd is
get-same f (Add key flags expiry value) is = absurd is
get-same f (Replace key flags expiry value) is = absurd is
get-same f (Cas key flags expiry cas value) is = absurd is
get-same f (Delete key) is = absurd is
get-same f (Touch key expiry) is = absurd is
get-same f (Append key value) is = absurd is
get-same f (Prepend key value) is = absurd is
get-same f (Incr key by) is = absurd is
get-same f (Decr key by) is = absurd is

pub still-same : (e : Event) → IsStill e → IsSame e
still-same (Ask caller op p) still bases k = ap (λ (act : Act). Ask caller (record { moment = op.moment; act = act }) p) (get-same _ op.act still)
still-same (Deliver from to) still bases k = refl
still-same (Collect caller call p) still bases k = refl
still-same (Fail p keep) still bases k = refl
still-same (Flush p) still bases k = refl
still-same (Trace caller call d p) still bases k = refl

pub plain-same : (all : List Parcel) (e : Event) → IsPlain all e → IsSame e
plain-same all (Ask caller op p) plain bases k = subst (λ (o : Asked). event_in bases k (Ask caller o p) ≡ Ask caller o p) (sym plain.2) refl
plain-same all (Deliver from to) plain bases k = refl
plain-same all (Collect caller call p) plain bases k = refl
plain-same all (Fail p keep) plain bases k = refl
plain-same all (Flush p) plain bases k = refl
plain-same all (Trace caller call d p) plain bases k = refl

-- what stays of an era, and its world
pub record Follows (e : Eras) (after : Eras) (world : World) : Type 0 where
  pub era : after.era ≡ e.era
  pub bases : after.bases ≡ e.bases
  pub world_is : after.world ≡ world

pub follows : (e : Eras) (events : List Event) → Each IsSame events → Follows e (eras_after e events) (world_after e.world events)
follows e [] same = record { era = refl; bases = refl; world_is = refl }
follows e (x ∷ xs) same =
    let rest = follows (era_step e x).eras xs same.1 in
    record {
      era = rest.era;
      bases = rest.bases;
      world_is = rest.world_is ∙ ap (λ (y : Event). world_after (step e.world y).world xs) (same.0 e.bases e.world.shape.k);
    }

pub stands-along : (e : Eras) → Stands e → (events : List Event) → Each IsSame events → IsRunFrom e.world events → Stands (eras_after e events)
stands-along e stands [] same run = stands
stands-along e stands (x ∷ xs) same run =
    stands-along (era_step e x).eras (stands-next e stands x run.0) xs same.1
    (subst (λ (y : Event). IsRunFrom (step e.world y).world xs) (sym (same.0 e.bases e.world.shape.k)) run.1)

pub run-first : (n : ℕ) (w : World) (xs : List Event) → IsRunFrom w xs → IsRunFrom w (take n xs)
run-first zero w xs run = tt
run-first (suc n) w [] run = tt
run-first (suc n) w (x ∷ xs) run = (run.0, run-first n (step w x).world xs run.1)

-- sets, as they are told
uncas : (f : ℕ → ℕ) (act : Act) → IsSet (with_cas f act) → IsSet act
uncas f (Set key flags expiry value) is = tt
uncas f (Get key) is = absurd is
uncas f (Add key flags expiry value) is = absurd is
uncas f (Replace key flags expiry value) is = absurd is
uncas f (Cas key flags expiry cas value) is = absurd is
uncas f (Delete key) is = absurd is
uncas f (Touch key expiry) is = absurd is
uncas f (Append key value) is = absurd is
uncas f (Prepend key value) is = absurd is
uncas f (Incr key by) is = absurd is
uncas f (Decr key by) is = absurd is

told-sets : (all : List Parcel) (bases : Bases) (k : ℕ) (many : 1 ≤ k) (Free : List ℕ → Type 0) (asked : List Event)
    (era : ℕ) (xs : List Entry) (ys : List EraEntry) → AreTold bases k asked era xs ys
    → ((entry : Entry) → Contains xs entry → SetsOne all entry.op) → Each (λ y. SetsFree bases k many Free y.1.op) ys
told-sets all bases k many Free asked era [] [] told sets = tt
told-sets all bases k many Free asked era [] (y ∷ ys) told sets = absurd told
told-sets all bases k many Free asked era (x ∷ xs) [] told sets = tt
told-sets all bases k many Free asked era (x ∷ xs) (y ∷ ys) told sets =
    let one : SetsOne all x.op = sets x (0, omega arith, refl) in (
      (λ free. uncas _ y.1.op.act (subst (λ (o : Asked). IsSet o.act) (sym one.2 ∙ told.1.op) tt)),
      told-sets all bases k many Free asked era xs ys told.2 (λ entry there. sets entry (suc there.0, (let low = there.1 in omega (arith, low)), there.2)),
    )

-- a fresh era in which parcels are set
pub sets-along : (Free : List ℕ → Type 0) (all : List Parcel) (s : Dimensions) (e : Eras) (done : List Event)
    → Standing Free e → e.world ≡ after s done → IsRun s done → Each (IsPlain all) done
    → (events : List Event) → IsRunFrom e.world events → Each (IsPlain all) events → Standing Free (eras_after e events)
sets-along Free all s e done standing world ran plain [] run more = standing
sets-along Free all s e done standing world ran plain (x ∷ xs) run more =
    sets-along Free all s (era_step e x).eras (done ++ x ∷ [])
    (standing-next Free e standing x run.0
    (λ many. told-sets all e.bases e.world.shape.k many Free (making.asked e standing.era x run.0) e.era
    (making.logged e standing.era x run.0)
    (era_step e x).logged (making.logged-told e standing.era x run.0) sets))
    (came ∙ sym next) next-run (each-end done plain) xs
    (subst (λ (y : Event). IsRunFrom (step e.world y).world xs) (sym same) run.1) more.1
  where
    same : event_in e.bases e.world.shape.k x ≡ x
    same = plain-same all x more.0 e.bases e.world.shape.k

    may : MayCome (after s done) x
    may = subst (λ (w : World). MayCome w x) world run.0

    next : after s (done ++ x ∷ []) ≡ (step (after s done) x).world
    next = after-more (opening s) done x

    came : (step e.world (event_in e.bases e.world.shape.k x)).world ≡ (step (after s done) x).world
    came = ap (λ (y : Event). (step e.world y).world) same ∙ ap (λ (w : World). (step w x).world) world

    next-run : IsRun s (done ++ x ∷ [])
    next-run = (ran.0, run-more (opening s) done x ran.1 may)

    each-end : (ys : List Event) → Each (IsPlain all) ys → Each (IsPlain all) (ys ++ x ∷ [])
    each-end [] ok = (more.0, tt)
    each-end (y ∷ ys) ok = (ok.0, each-end ys ok.1)

    sets : (entry : Entry) → Contains (step e.world (event_in e.bases e.world.shape.k x)).turn.logged entry → SetsOne all entry.op
    sets entry there = log-sets s all (done ++ x ∷ []) next-run (each-end done plain) entry
        (subst (λ (w : World). Contains w.log entry) (came ∙ sym next)
        (subst (λ (log : List Entry). Contains log entry) (sym (grown-is e.world.log (step e.world (event_in e.bases e.world.shape.k x)).turn.logged))
        (Contains-append_right e.world.log (step e.world (event_in e.bases e.world.shape.k x)).turn.logged entry there)))
