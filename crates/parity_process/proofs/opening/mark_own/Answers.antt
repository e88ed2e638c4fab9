use Rattle.std.proofs.Common.{ℕ, ◌≡◌, ◌∷◌, ◌+◌, ◌<◌, nat_lt, true, List, drop, get_or, length, refl, sym, ap, subst, ◌∙◌, arith}
use Rattle.std.proofs.lemmas.Grind.{common_steps}
use Rattle.group_types.specs.Dimensions.{Dimensions}
use Rattle.group_types.specs.Lists.{at}
use Rattle.group_run.specs.Applying.{ProcessStep, for_each, quiet}
use Rattle.group_run.specs.Leaders.{own_mark}
use Rattle.group_run.specs.Process.{Process}
use Rattle.group_run.specs.Rows.{copy_in}
use Rattle.head_service.specs.Serving.{serving}
use Rattle.parity_process.specs.Opening.{AreMarkable}
use Rattle.parity_process.proofs.Marks.{AreLeft, all-left, copy-there, each-quiet, left-next, next-left, none-marked, takes-own}
use Rattle.parity_process.proofs.opening.mark_own.Goals as goal

pub returns-then-not-accepts-clause-step : goal.returns-then-not-accepts-clause-step
returns-then-not-accepts-clause-step c = none-marked c.args.service.now.shape c.args.leader c.args.number c.args.block c.args.lost.now
    (serving c.args.service.now c.args.bytes.now.process) (sym c.accepts.ensures ∙ c.if-not-accepts.true)

pub lost-init : goal.lost-init
lost-init c =
    let p : Process = serving c.args.service.now c.args.bytes.now.process in
    let later : nat_lt (at 0 c.args.bytes.now.process.as_row.ceased c.args.leader) c.args.number ≡ true = sym c.accepts.ensures ∙ c.if-not-accepts.false in
    record {
      shape = refl;
      over = c.requires.over;
      pages = refl;
      left = all-left c.args.service.now.shape c.args.leader c.args.number c.args.block c.args.lost.now p (c.requires.markable (grind (arith, common_steps)));
      step = refl;
    }

-- what is left at a turn
left-at : (s : Dimensions) (leader number block : ℕ) (lost : List ℕ) (i : ℕ) (p : Process) → i < length lost → AreLeft s leader number block (drop i lost) p
    → AreMarkable s leader number block (get_or lost i 0 ∷ drop (i + 1) lost) p
left-at s leader number block lost i p within left = subst (λ (xs : List ℕ). AreLeft s leader number block xs p) (next-left lost i within) left

pub mark_at-requires-clause-partition : goal.mark_at-requires-clause-partition
mark_at-requires-clause-partition c =
    let p : Process = serving c.lost.service c.lost.bytes.process in
    let m = left-at c.args.service.now.shape c.args.leader c.args.number c.args.block c.args.lost.now c.lost.d-index p c.lost-test.true c.lost.invariant.left in
    subst (λ (s : Dimensions). get_or c.args.lost.now c.lost.d-index 0 < s.k) (sym c.lost.invariant.shape) (m.below 0 0 (omega arith))

pub mark_at-requires-clause-over : goal.mark_at-requires-clause-over
mark_at-requires-clause-over c = c.lost.invariant.over

pub mark_at-requires-clause-leader : goal.mark_at-requires-clause-leader
mark_at-requires-clause-leader c =
    let p : Process = serving c.lost.service c.lost.bytes.process in
    let m = left-at c.args.service.now.shape c.args.leader c.args.number c.args.block c.args.lost.now c.lost.d-index p c.lost-test.true c.lost.invariant.left in
    m.name

pub mark_at-requires-clause-own : goal.mark_at-requires-clause-own
mark_at-requires-clause-own c =
    let p : Process = serving c.lost.service c.lost.bytes.process in
    let m = left-at c.args.service.now.shape c.args.leader c.args.number c.args.block c.args.lost.now c.lost.d-index p c.lost-test.true c.lost.invariant.left in
    m.own

pub mark_at-requires-clause-takes : goal.mark_at-requires-clause-takes
mark_at-requires-clause-takes c =
    let p : Process = serving c.lost.service c.lost.bytes.process in
    let s : Dimensions = c.args.service.now.shape in
    let m = left-at s c.args.leader c.args.number c.args.block c.args.lost.now c.lost.d-index p c.lost-test.true c.lost.invariant.left in
    takes-own s c.args.leader c.args.number c.args.block (get_or c.args.lost.now c.lost.d-index 0) p m.living m.accepted

pub mark_at-requires-clause-copied : goal.mark_at-requires-clause-copied
mark_at-requires-clause-copied c =
    let p : Process = serving c.lost.service c.lost.bytes.process in
    let s : Dimensions = c.args.service.now.shape in
    let i : ℕ = c.lost.d-index in
    let m = left-at s c.args.leader c.args.number c.args.block c.args.lost.now i p c.lost-test.true c.lost.invariant.left in
    copy-there s c.args.leader c.args.number c.args.block (get_or c.args.lost.now i 0) (drop (i + 1) c.args.lost.now)
    (copy_in c.lost.bytes.process.as_row.copies c.args.leader c.args.number) m.unmarked

pub lost-preserved : goal.lost-preserved
lost-preserved c =
    let s : Dimensions = c.args.service.now.shape in
    let lost : List ℕ = c.args.lost.now in
    let i : ℕ = c.lost.d-index in
    let d : ℕ = get_or lost i 0 in
    let rest : List ℕ = drop (i + 1) lost in
    let p : Process = serving c.lost.service c.lost.bytes.process in
    let q : Process = serving c.mark_at.new.service c.mark_at.new.bytes.process in
    let m = left-at s c.args.leader c.args.number c.args.block lost i p c.lost-test.true c.lost.invariant.left in
    let is : own_mark s c.args.leader c.args.number c.args.block d p ≡ quiet q
    = subst (λ (x : Dimensions). own_mark x c.args.leader c.args.number c.args.block d p ≡ quiet q) c.lost.invariant.shape c.mark_at.ensures.step in
    record {
      shape = c.mark_at.ensures.shape ∙ c.lost.invariant.shape;
      over = c.mark_at.ensures.over;
      pages = c.mark_at.ensures.pages ∙ c.lost.invariant.pages;
      left = subst (λ (step : ProcessStep). AreLeft s c.args.leader c.args.number c.args.block rest step.process) is
          (left-next s c.args.leader c.args.number c.args.block d rest p m);
      step = sym (each-quiet s c.args.leader c.args.number c.args.block d rest p q is)
          ∙ sym (ap (λ (xs : List ℕ). for_each xs (own_mark s c.args.leader c.args.number c.args.block) p) (next-left lost i c.lost-test.true))
          ∙ c.lost.invariant.step;
    }
