use Rattle.std.proofs.Common.{◌≤◌, ℕ, ◌+◌, suc, length, sym, ap, subst, ◌∙◌, arith}
use Rattle.group_calls.specs.declared.event.Event.{Event}
use Rattle.group_run.specs.Process.{Node}
use Rattle.group_run.specs.World.{World, group_step, process_node}
use Rattle.law_answers.specs.Steps.{waiting}
use Rattle.group_core.proofs.Settles.{capped, collect-settles, delivery-settles, fail-settles, flush-settles, trace-settles}
use Rattle.group_core.proofs.world.World.settles.Goals as goal

-- none is at most one
none : (long : ℕ) → long ≤ 0 → long ≤ suc 0
none long is = omega (arith, is)

pub returns-in-Ask : goal.returns-in-Ask
returns-in-Ask c less =
    subst (λ (e : Event). length (group_step c.args.self.now e).settled ≤ suc c.most_asked.result) (sym c.in-Ask.is)
    (c.most_asked.ensures c.in-Ask.caller c.in-Ask.op less)

pub returns-in-Deliver : goal.returns-in-Deliver
returns-in-Deliver c less =
    let w = c.args.self.now in
    let n : ℕ = waiting c.node.result.now.node.process.replicas in
    let here = c.node.ensures.node ∙ ap (λ (v : World). process_node v c.in-Deliver.to) c.self.view_is in
    let few = subst (λ (e : Event). length (group_step w e).settled ≤ n) (sym c.in-Deliver.is)
    (delivery-settles w n c.in-Deliver.from c.in-Deliver.to (ap (λ (x : Node). waiting x.process.replicas) here)) in
    capped n c.waiting.result (length (group_step w c.args.event.now).settled) c.waiting.ensures (omega (arith, few)) less

pub returns-in-Collect : goal.returns-in-Collect
returns-in-Collect c less =
    none _ (subst (λ (e : Event). length (group_step c.args.self.now e).settled ≤ 0) (sym c.in-Collect.is)
    (collect-settles c.args.self.now c.in-Collect.caller c.in-Collect.call c.in-Collect.at))

pub returns-in-Fail : goal.returns-in-Fail
returns-in-Fail c less =
    none _ (subst (λ (e : Event). length (group_step c.args.self.now e).settled ≤ 0) (sym c.in-Fail.is)
    (fail-settles c.args.self.now c.in-Fail.at c.in-Fail.keep))

pub returns-in-Flush : goal.returns-in-Flush
returns-in-Flush c less =
    none _ (subst (λ (e : Event). length (group_step c.args.self.now e).settled ≤ 0) (sym c.in-Flush.is)
    (flush-settles c.args.self.now c.in-Flush.at))

pub returns-in-Trace : goal.returns-in-Trace
returns-in-Trace c less =
    none _ (subst (λ (e : Event). length (group_step c.args.self.now e).settled ≤ 0) (sym c.in-Trace.is)
    (trace-settles c.args.self.now c.in-Trace.caller c.in-Trace.call c.in-Trace.partition c.in-Trace.at))
