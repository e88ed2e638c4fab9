-- A delivery takes the nodes of its two processes in the order of processes.
use Rattle.std.proofs.Common.{ℕ, ◌≡◌, ◌≢◌, ◌<◌, ◌-◌, ◌++◌, List, [], ◌∷◌, sym, ap, subst, ◌∙◌, refl, arith, append_assoc, append-nil}
use Rattle.std.specs.Prelude.{◌↔◌, Bool, IsTrue, Option, Result, Ok, Err, true, false}
use Rattle.std.specs.declared.alloc.AllocError.{AllocError}
use Rattle.group_types.specs.Dimensions.{Dimensions}
use Rattle.group_types.specs.Each.{Each}
use Rattle.group_types.specs.Names.{IsProcess, index_of}
use Rattle.group_types.specs.declared.process.ProcessId.{ProcessId}
use Rattle.group_types.proofs.Names.{index-below, index-one}
use Rattle.group_calls.specs.declared.event.Event.{Event}
use Rattle.group_calls.specs.declared.event.Event.TheVariants.{Deliver}
use Rattle.group_run.specs.Locality.{occurrences}
use Rattle.group_run.specs.World.{names}
use Rattle.group_node.specs.Standing.{NodeStanding}
use Rattle.group_stage.specs.Conditions.{CanTake, InHand, IsIdle}
use Rattle.group_stage.specs.Order.{ComeBefore, TookInOrder}
use Rattle.group_stage.specs.Pairing.{one_of, other_of}
use Rattle.group_stage.specs.Steps.{Sat}
use Rattle.group_stage.specs.Views.{begun, released, with_met}
use Rattle.group_stage.specs.declared.answer.StageAnswer.{StageAnswer}
use Rattle.group_stage.specs.declared.answer.StageAnswer.TheVariants.{Busy, Made, Worn}
use Rattle.group_stage.specs.declared.view.Plan.{Plan}
use Rattle.group_stage.specs.declared.view.View.{View}
use Rattle.group_stage.proofs.Sums.{times-here}

-- the two processes of a link, the one that comes before the other first
in-order : (s : Dimensions) (up : Bool) (from to : ProcessId) → IsProcess s from → IsProcess s to → from ≢ to → (IsTrue up ↔ (index_of s from < index_of s to))
    → index_of s (one_of up from to) < index_of s (other_of up from to)
in-order s true from to fin tin apart is = is.0 refl
in-order s false from to fin tin apart is =
    let before : ¬ (index_of s from < index_of s to) = λ less. absurd (cc (is.1 less)) in
    let other : index_of s from ≢ index_of s to = λ same. apart (index-one s from to fin tin same) in
    omega (arith, before, other)

other-in : (s : Dimensions) (up : Bool) (from to : ProcessId) → IsProcess s from → IsProcess s to → IsProcess s (other_of up from to)
other-in s true from to fin tin = tin
other-in s false from to fin tin = fin

named-other : (s : Dimensions) (up : Bool) (from to : ProcessId) (q : ℕ) → q ≡ index_of s (other_of up from to) → 0 < occurrences q (names s (Deliver from to))
named-other s true from to q here =
    let same = ap (λ (x : ℕ). occurrences q (index_of s from ∷ x ∷ [])) here in
    let one = times-here q [] in
    omega (arith, same, one)
named-other s false from to q here =
    let same = ap (λ (x : ℕ). occurrences q (x ∷ index_of s to ∷ [])) here in
    let one = times-here q (index_of s to ∷ []) in
    omega (arith, same, one)

-- nothing was taken
pub none-taken : (v w : View) (result : Result StageAnswer AllocError) → w.cleared ≡ v.cleared → TookInOrder v result w
none-taken v w result same = record { words = []; cleared = same ∙ sym (append-nil v.cleared); falls = tt; before = by result } where
  by : (result : Result StageAnswer AllocError) → ComeBefore v.shape [] result
  by (Ok (Busy p)) = tt
  by (Ok (Made a)) = tt
  by (Ok Worn) = tt
  by (Err e) = tt

-- both were taken
pub two-taken : (v w : View) (result : Result StageAnswer AllocError) (p q f g : ℕ) → p < q
    → w.cleared ≡ (v.cleared ++ (q, f) ∷ []) ++ (p, g) ∷ [] → ComeBefore v.shape ((q, f) ∷ (p, g) ∷ []) result
    → TookInOrder v result w
two-taken v w result p q f g low same before = record {
  words = (q, f) ∷ (p, g) ∷ [];
  cleared = same ∙ append_assoc v.cleared ((q, f) ∷ []) ((p, g) ∷ []);
  falls = ((low, tt), (tt, tt));
  before = before;
}

module _ (plan : Plan) (v : View) (f : Event) (up : Bool) (from to one other : ProcessId) (p q : ℕ)
    (slots : List (ℕ × Option NodeStanding)) (y : NodeStanding) (m : Sat)
    (ready : IsIdle (v, slots)) (shape : v.shape ≡ plan.shape) (event : f ≡ Deliver from to)
    (from_in : IsProcess plan.shape from) (to_in : IsProcess plan.shape to) (apart : from ≢ to)
    (one-is : one ≡ one_of up from to) (other-is : other ≡ other_of up from to) (low : p ≡ index_of plan.shape one) (high : q ≡ index_of plan.shape other)
    (is : IsTrue up ↔ (index_of plan.shape from < index_of plan.shape to)) (took : (es : List Event) × InHand (begun f v) p slots y m es) where
  there : q ≡ index_of plan.shape (other_of up from to)
  there = high ∙ ap (index_of plan.shape) other-is

  -- the second comes behind the first
  pub ahead : p < q
  ahead =
      let first : p ≡ index_of plan.shape (one_of up from to) = low ∙ ap (index_of plan.shape) one-is in
      let less = in-order plan.shape up from to from_in to_in apart is in
      let second = there in
      omega (arith, first, less, second)

  -- and may be taken
  pub may-take : CanTake plan m.0 q
  may-take = subst (λ (x : Sat). CanTake plan x.0 q) (sym took.1.seat) (record {
    part = ready.part;
    due = refl;
    within = let below = index-below plan.shape (other_of up from to) (other-in plan.shape up from to from_in to_in) in
        let second = there in omega (arith, below, second);
    named = subst (λ (e : Event). 0 < occurrences q (names plan.shape e)) (sym event) (named-other plan.shape up from to q there);
    order = (ahead, subst (Each (λ (h : ℕ × NodeStanding). h.0 < q)) (sym ready.idle) tt);
  })

  -- the second word was met held, and the first node went back
  pub met-second : (m' w : Sat) → m' ≡ (with_met m.0 q, m.1) → (found : ℕ) × (w.0 ≡ released m'.0 p found) → TookInOrder v (Ok (Busy other)) w.0
  met-second m' w met back = record {
    words = (p, back.0 - 1) ∷ [];
    cleared = ap (λ (u : View). u.cleared) back.1 ∙ ap (λ (x : Sat). x.0.cleared ++ (p, back.0 - 1) ∷ []) met
        ∙ ap (λ (x : Sat). x.0.cleared ++ (p, back.0 - 1) ∷ []) took.1.seat;
    falls = (tt, tt);
    before = (
      (let less = ahead in let same : q ≡ index_of v.shape other = high
          ∙ ap (λ (s : Dimensions). index_of s other) (sym shape) in omega (arith, less, same)),
      tt,
    );
  }

  -- both nodes went back, the second first
  pub back-both : (z : NodeStanding) (m' w : Sat) (a b : ℕ) (result : Result StageAnswer AllocError) → (es : List Event) × InHand m.0 q m.1 z m' es
      → w.0.cleared ≡ (m'.0.cleared ++ (q, a) ∷ []) ++ (p, b) ∷ [] → ComeBefore v.shape ((q, a) ∷ (p, b) ∷ []) result → TookInOrder v result w.0
  back-both z m' w a b result taken same before =
      let first : m.0.cleared ≡ v.cleared = ap (λ (x : Sat). x.0.cleared) took.1.seat in
      let both : m'.0.cleared ≡ v.cleared = ap (λ (x : Sat). x.0.cleared) taken.1.seat ∙ first in
      two-taken v w.0 result p q a b ahead (same ∙ ap (λ (l : List (ℕ × ℕ)). (l ++ (q, a) ∷ []) ++ (p, b) ∷ []) both) before
