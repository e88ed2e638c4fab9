use Rattle.std.proofs.Common.{suc, ◌≡◌, ◌+◌, List, sym, ap₂, ◌∙◌, arith}
use Rattle.group_run.specs.Applying.{Sent, Settlement}
use Rattle.group_run.specs.Process.{Process}
use Rattle.head_service.specs.Serving.{serving}
use Rattle.parity_process.proofs.Beneath.{over-stays}
use Rattle.parity_process.proofs.Starting.{start-lost, start-markable, start-step}
use Rattle.parity_process.proofs.opening.start.Goals as goal

pub start-requires-clause-lost : goal.start-requires-clause-lost
start-requires-clause-lost c =
    let next : c.last-number.result + 1 ≡ suc c.args.bytes.now.process.as_leader.last_session = omega (arith, c.last-number.ensures.number) in
    start-lost c.args.service.now c.args.bytes.now c.number-leader.result (c.last-number.result + 1) c.args.block
    c.in_ok-plan.plan.lost.items c.in_ok-plan.plan.rows.items
    c.requires.ready c.requires.heads c.number-leader.ensures.name next
    (c.in_ok-plan.ensures.lost c.args.bytes.now.process) (c.in_ok-plan.ensures.rows c.args.bytes.now.process)

pub mark_own-requires-clause-markable : goal.mark_own-requires-clause-markable
mark_own-requires-clause-markable c =
    let next : c.last-number.result + 1 ≡ suc c.args.bytes.now.process.as_leader.last_session = omega (arith, c.last-number.ensures.number) in
    start-markable c.args.service.now c.args.bytes.now c.number-leader.result (c.last-number.result + 1) c.args.block
    c.in_ok-plan.plan.lost.items c.in_ok-plan.plan.rows.items
    c.requires.ready c.requires.heads c.number-leader.ensures.name next
    (c.in_ok-plan.ensures.lost c.args.bytes.now.process) (c.in_ok-plan.ensures.rows c.args.bytes.now.process)
    c.start.new.self.process c.deref-3.result.now c.in_ok-start.ensures.process
    (c.deref-3.ensures.value ∙ c.in_ok-marked.ensures.items ∙ c.deref-2.ensures.value)

pub mark_own-requires-clause-over : goal.mark_own-requires-clause-over
mark_own-requires-clause-over c = over-stays c.args.service.now c.args.bytes.now c.start.new.self c.start.ensures.stays c.requires.ready.over

pub returns-clause-step : goal.returns-clause-step
returns-clause-step c =
    let next : c.last-number.result + 1 ≡ suc c.args.bytes.now.process.as_leader.last_session = omega (arith, c.last-number.ensures.number) in
    let q : Process = serving c.mark_own.new.service c.mark_own.new.bytes.process in
    start-step c.args.service.now c.args.bytes.now c.number-leader.result (c.last-number.result + 1) c.args.block
    c.in_ok-plan.plan.lost.items c.in_ok-plan.plan.rows.items
    c.requires.ready c.requires.heads c.number-leader.ensures.name next
    (c.in_ok-plan.ensures.lost c.args.bytes.now.process) (c.in_ok-plan.ensures.rows c.args.bytes.now.process)
    c.start.new.self.process c.deref-3.result.now c.in_ok-start.ensures.process
    (c.deref-3.ensures.value ∙ c.in_ok-marked.ensures.items ∙ c.deref-2.ensures.value)
    q c.in_ok-sent.sent.items c.mark_own.ensures.step (c.in_ok-sent.ensures c.args.bytes.now.process)
    ∙ ap₂ (λ (sent : List Sent) (settled : List Settlement). record { process = q; sent = sent; settled = settled })
    (sym c.sending.ensures.sent) (sym c.sending.ensures.settled)
