use Rattle.std.proofs.Common.{◌≡◌, ◌+◌, ◌-◌, ℕ, [], ◌∷◌, length, sym, ap, subst, ◌∙◌, arith, length-append}
use Rattle.group_stage.specs.Dealt.{AreNew}
use Rattle.group_stage.specs.Steps.{Sat}
use Rattle.group_stage.specs.Views.{blank}
use Rattle.group_stage.proofs.Dealing.{dealt, new-of-stage}
use Rattle.group_stage.proofs.stage.Stage.deal.Goals as goal

pub callers-preserved : goal.callers-preserved
callers-preserved c =
    let i = c.callers.invariant in
    let s = c.args.self.now.plan.shape in
    let all = c.args.self.now.plan.callers in
    let n : ℕ = c.callers.number in
    let parts : c.callers.raw.me.0.parts ≡ all - (n - 1) = ap (λ (m : Sat). m.0.parts) i.seat in
    let next : c.callers.raw.me.0.next ≡ n - 1 = ap (λ (m : Sat). m.0.next) i.seat in
    let below = c.callers-test.true in
    let many = i.many in
    let left : c.callers.raw.me.0.parts - 1 ≡ all - (n + 1 - 1) = omega (arith, parts, below, many) in
    let then : c.callers.raw.me.0.next + 1 ≡ n + 1 - 1 = omega (arith, next, many) in
    record {
      table = c.part-seat.ensures.table;
      seat = c.part-seat.ensures.rest ∙ (λ j. (blank s (left j) 1 (then j), []));
      many = let items = ap length c.push_reserved.ensures.items in let more =
          length-append c.callers.seats.items (c.part-seat.result.0 ∷ []) in omega (arith, items, more, many);
      room = let cap = c.push_reserved.ensures.capacity in let room = i.room in omega (arith, cap, room);
      new = subst (AreNew c.args.self.now) (sym c.push_reserved.ensures.items)
          (dealt c.args.self.now c.callers.seats.items c.part-seat.result.0 c.callers.raw.me.0.next i.new (omega (arith, next, many)) c.part-seat.ensures.seat);
    }

all-new : goal.returns-clause-new
all-new c =
    let i = c.callers.invariant in
    let next : c.callers.raw.me.0.next ≡ c.callers.number - 1 = ap (λ (m : Sat). m.0.next) i.seat in
    let many = i.many in
    subst (AreNew c.args.self.now) (sym c.push_reserved-2.ensures.items)
    (dealt c.args.self.now c.callers.seats.items c.last.result c.callers.raw.me.0.next i.new (omega (arith, next, many)) c.last.ensures)

pub returns-clause-new : goal.returns-clause-new
returns-clause-new c = all-new c

pub returns-clause-of_stage : goal.returns-clause-of_stage
returns-clause-of_stage c = new-of-stage c.args.self.now c.push_reserved-2.new.self.items (λ i. i) (all-new c)
