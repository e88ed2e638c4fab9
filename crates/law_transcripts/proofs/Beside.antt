-- What the steps of a script ask, beside its course: both read each line alike.
use Rattle.std.proofs.Common.{◌≡◌, ◌<◌, ◌+◌, ℕ, zero, suc, Bool, true, false, nat_lt, List, [], ◌∷◌, ◌∙◌, length}
use Rattle.std.proofs.Common.{slice_set, Option, Some, None, Result, Ok, Err, if◌then◌else◌, refl, sym, ap, subst}
use Rattle.std.proofs.Common.{arith}
use Rattle.std.proofs.lemmas.List.{length-replicate}
use Rattle.std.proofs.lemmas.List.Elements.{All-head, All-tail}
use Rattle.std.specs.Prelude.{All, slice_index}
use Rattle.group_types.proofs.Lists.{length-put}
use Rattle.group_types.specs.Dimensions.{Dimensions, callers}
use Rattle.group_types.specs.Lists.{at, put}
use Rattle.group_calls.specs.declared.event.Event.{Event}
use Rattle.group_calls.specs.declared.event.Event.TheVariants as happens
use Rattle.group_run.specs.World.{World, step, world_after}
use Rattle.group_run.specs.Causes.{IsDelivery}
use Rattle.scenario_text.proofs.Lines.{line_of-within}
use Rattle.scenario_text.specs.Meaning.{IsLineOf, line_meaning}
use Rattle.scenario_text.specs.declared.line.Line.{Line}
use Rattle.scenario_text.specs.declared.line.Line.TheVariants.{Skipped, Group, Ask, Collect, Deliver, Fail, Flush, Trace, Drain, Show, Places, Time, Stop}
use Rattle.scenario_text.specs.declared.line.LineFault.{LineFault}
use Rattle.scenario_text.specs.declared.line.LineFault.TheVariants.{BadLine}
use Rattle.scenario_run.specs.Course.{Ends, Goes, Refused}
use Rattle.scenario_run.specs.Playing.{Play, PlayNext, by_event, draining_unless_down, next_by, next_of, shape_in, then_by}
use Rattle.scenario_run.proofs.Leading.{keeps-shape}
use Rattle.run_verify.specs.Steps as verify
use Rattle.run_verify.specs.Steps.{Setting, StepNext}
use Rattle.run_verify.specs.declared.step.Step.{Step}
use Rattle.run_verify.specs.declared.step.Step.TheVariants.{Make}
use Rattle.law_transcripts.proofs.Deliveries.{draining-delivers}
use Rattle.law_transcripts.proofs.Telling.{steps_by, steps_on}

-- ---- how often each caller asked

index-at : (xs : List ℕ) (i : ℕ) → slice_index xs i ≡ at 0 xs i
index-at [] i = refl
index-at (x ∷ xs) zero = refl
index-at (x ∷ xs) (suc i) = index-at xs i

set-put : (xs : List ℕ) (i v : ℕ) → i < length xs → slice_set xs i v ≡ put 0 xs i v
set-put [] i v within = absurd (omega (arith, within))
set-put (x ∷ xs) zero v within = refl
set-put (x ∷ xs) (suc i) v within = ap (λ (ys : List ℕ). x ∷ ys) (set-put xs i v (omega (arith, within)))

delivery-asks : (w : World) (e : Event) → IsDelivery e → (step w e).world.asked ≡ w.asked
delivery-asks w (happens.Deliver from to) is = refl
delivery-asks w e is = absurd is

deliveries-ask : (w : World) (es : List Event) → All IsDelivery es → (world_after w es).asked ≡ w.asked
deliveries-ask w [] all = refl
deliveries-ask w (e ∷ es) all = deliveries-ask (step w e).world es (All-tail IsDelivery e es all) ∙ delivery-asks w e (All-head IsDelivery e es all)

-- ---- settings

-- the setting of the steps is that of the play
pub record SameSetting (s : Setting) (p : Play) : Type 0 where
  pub shape : s.shape ≡ p.world.shape
  pub moment : s.moment ≡ p.moment
  pub asked : s.asked ≡ p.world.asked
  pub many : length p.world.asked ≡ callers

abbrev pub Beside : Option Setting → Option Play → Type 0
Beside None None = Unit {0}
Beside (Some s) (Some p) = SameSetting s p
Beside None (Some p) = ⊥
Beside (Some s) None = ⊥

-- the group stays once it is named
abbrev pub Stays : Option Play → Option Play → Type 0
Stays None q = Unit {0}
Stays (Some p) (Some q) = q.world.shape ≡ p.world.shape
Stays (Some p) None = ⊥

-- a line does the same in both, and asks these steps
abbrev pub SameNext : Option Play → StepNext → PlayNext → List Step → Type 0
SameNext p (Goes s steps text) (Goes q turns written) own = Beside s q × (steps ≡ own) × Stays p q
SameNext p Ends Ends own = Unit {0}
SameNext p (Refused cause) (Refused other) own = Unit {0}
SameNext p _ _ own = ⊥

same-place : (s : Setting) (p : Play) (caller : ℕ) → SameSetting s p → slice_index s.asked caller ≡ at 0 p.world.asked caller
same-place s p caller same = ap (λ (xs : List ℕ). slice_index xs caller) same.asked ∙ index-at p.world.asked caller

-- behind an event that isn't an ask
still : (s : Setting) (p : Play) (w : World) → SameSetting s p → w.shape ≡ p.world.shape → w.asked ≡ p.world.asked
    → SameSetting s (record { world = w; moment = p.moment })
still s p w same shape asked = record {
  shape = same.shape ∙ sym shape;
  moment = same.moment;
  asked = same.asked ∙ sym asked;
  many = ap length asked ∙ same.many;
}

traced : (s : Setting) (p : Play) (e : Event) (b c : Bool) → b ≡ c → SameSetting s (record { world = (step p.world e).world; moment = p.moment })
    → SameNext (Some p) (if b then verify.asks_for s (Make e) else Refused BadLine) (if c then by_event p e else Refused BadLine) (Make e ∷ [])
traced s p e true true is same = (same, refl, refl)
traced s p e false false is same = tt
traced s p e true false is same = cc is
traced s p e false true is same = cc is

-- a line behind the group line
then-beside : (s : Setting) (p : Play) (l : Line) → IsLineOf (Some p.world.shape) l → SameSetting s p
    → SameNext (Some p) (verify.later_steps s l) (then_by p l) (steps_by p l)
then-beside s p Skipped within same = (same, refl, refl)
then-beside s p (Group shape) within same = tt
then-beside s p (Ask caller from act) within same = (
  record {
    shape = same.shape;
    moment = same.moment;
    asked = (λ i. slice_set (same.asked i) caller (slice_index (same.asked i) caller + 1))
        ∙ set-put p.world.asked caller (slice_index p.world.asked caller + 1) inside
        ∙ ap (put 0 p.world.asked caller) (let is = index-at p.world.asked caller in omega (arith, is));
    many = length-put 0 p.world.asked caller (suc (at 0 p.world.asked caller)) inside ∙ same.many;
  },
  ap (λ (moment : ℕ). Make (happens.Ask caller (record { moment = moment; act = act }) from) ∷ []) same.moment,
  refl,
)
  where
    inside : caller < length p.world.asked
    inside = let many = same.many in let low = within.0 in omega (arith, many, low)
then-beside s p (Collect caller call from) within same = (still s p (step p.world (happens.Collect caller call from)).world same refl refl, refl, refl)
then-beside s p (Deliver from to) within same = (still s p (step p.world (happens.Deliver from to)).world same refl refl, refl, refl)
then-beside s p (Fail from keep) within same = (still s p (step p.world (happens.Fail from keep)).world same refl refl, refl, refl)
then-beside s p (Flush from) within same = (still s p (step p.world (happens.Flush from)).world same refl refl, refl, refl)
then-beside s p (Trace caller call partition from) within same =
    traced s p (happens.Trace caller call partition from) (nat_lt call (slice_index s.asked caller)) (nat_lt call (at 0 p.world.asked caller))
    (ap (nat_lt call) (same-place s p caller same))
    (still s p (step p.world (happens.Trace caller call partition from)).world same refl refl)
then-beside s p Drain within same =
    let after : World = world_after p.world (draining_unless_down p.world) in
    let shape = keeps-shape p.world (draining_unless_down p.world) in
    (still s p after same shape (deliveries-ask p.world (draining_unless_down p.world) (draining-delivers p.world)), refl, shape)
then-beside s p (Show from run) within same = (same, refl, refl)
then-beside s p Places within same = (same, refl, refl)
then-beside s p (Time moment) within same = (record { shape = same.shape; moment = refl; asked = same.asked; many = same.many }, refl, refl)
then-beside s p Stop within same = tt

-- a line before the group line, or that line
first-beside : (r : Result Line LineFault) → SameNext None (verify.steps_by_meaning None r) (next_by None r) (steps_on None r)
first-beside (Ok Skipped) = (tt, refl, tt)
first-beside (Ok (Group shape)) = (record { shape = refl; moment = refl; asked = refl; many = length-replicate {A = ℕ} callers 0 }, refl, tt)
first-beside l = tt

pub line-beside : (s : Option Setting) (p : Option Play) (line : List ℕ) → Beside s p
    → SameNext p (verify.steps_of_line s line) (next_of p line) (steps_on p (line_meaning (shape_in p) line))
line-beside None None line same = first-beside (line_meaning None line)
line-beside None (Some p) line same = absurd same
line-beside (Some s) None line same = absurd same
line-beside (Some s) (Some p) line same =
    subst (λ (d : Dimensions). SameNext (Some p) (verify.steps_by_meaning (Some s) (line_meaning (Some d) line)) (next_of (Some p) line)
    (steps_on (Some p) (line_meaning (Some p.world.shape) line))) (sym same.shape)
    (by (line_meaning (Some p.world.shape) line) refl)
  where
    by : (r : Result Line LineFault) → line_meaning (Some p.world.shape) line ≡ r
        → SameNext (Some p) (verify.steps_by_meaning (Some s) r) (next_by (Some p) r) (steps_on (Some p) r)
    by (Err fault) is = tt
    by (Ok l) is = then-beside s p l (line_of-within (Some p.world.shape) line l is) same
