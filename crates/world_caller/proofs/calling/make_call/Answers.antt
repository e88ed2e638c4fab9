use Rattle.std.proofs.Common.{OnErr, refl, sym, subst}
use Rattle.group_run.specs.World.{World}
use Rattle.world_caller.specs.Calling.{IsCallCutShort}
use Rattle.world_caller.specs.Making.{IsStepMade}
use Rattle.world_caller.specs.declared.stage.Next.{Next}
use Rattle.world_caller.specs.declared.stage.Next.TheVariants.{Ends, Goes}
use Rattle.world_caller.proofs.Bringing.{come-delivered, come-made, stopped-err}
use Rattle.world_caller.proofs.Making.{called}
use Rattle.world_caller.proofs.calling.make_call.Goals as goal

pub returns-in_err-drain-clause-stopped : goal.returns-in_err-drain-clause-stopped
returns-in_err-drain-clause-stopped c =
    stopped-err c.from_residual.result c.args.caller c.args.op.now c.args.world.now c.drain.new.world (Goes c.stages.stage)
    (come-delivered c.args.caller c.args.op.now c.args.world.now c.stages.world c.drain.new.world c.stages.stage
    c.stages.invariant.come c.drain.ensures.delivered)

pub returns-in_err-next-clause-stopped : goal.returns-in_err-next-clause-stopped
returns-in_err-next-clause-stopped c =
    subst (λ (x : World). OnErr c.from_residual-in_err-next.result (IsCallCutShort c.args.caller c.args.op.now c.args.world.now x))
    (sym c.in_err-next.ensures.err)
    (stopped-err c.from_residual-in_err-next.result c.args.caller c.args.op.now c.args.world.now c.drain.new.world (Goes c.stages.stage)
    (come-delivered c.args.caller c.args.op.now c.args.world.now c.stages.world c.drain.new.world c.stages.stage
    c.stages.invariant.come c.drain.ensures.delivered))

pub stages-preserved : goal.stages-preserved
stages-preserved c =
    let made : IsStepMade c.args.caller c.args.op.now c.drain.new.world c.stages.stage c.go_on.new.world (Goes c.in-Goes.next)
    = subst (λ (n : Next). IsStepMade c.args.caller c.args.op.now c.drain.new.world c.stages.stage c.go_on.new.world n) c.in-Goes.is
    c.in_ok-next.ensures.made in
    record {
      come = come-made c.args.caller c.args.op.now c.args.world.now c.drain.new.world c.go_on.new.world c.stages.stage (Goes c.in-Goes.next)
          (come-delivered c.args.caller c.args.op.now c.args.world.now c.stages.world c.drain.new.world c.stages.stage
          c.stages.invariant.come c.drain.ensures.delivered) made;
      stands = made.stands;
    }

pub returns-in-Ends-clause-called : goal.returns-in-Ends-clause-called
returns-in-Ends-clause-called c =
    called c.args.caller c.args.op.now c.args.world.now c.go_on.new.world (Ends c.in-Ends.end) c.in-Ends.end c.asks_are_few.ensures c.run.ensures
    (come-made c.args.caller c.args.op.now c.args.world.now c.drain.new.world c.go_on.new.world c.stages.stage (Ends c.in-Ends.end)
    (come-delivered c.args.caller c.args.op.now c.args.world.now c.stages.world c.drain.new.world c.stages.stage
    c.stages.invariant.come c.drain.ensures.delivered)
    (subst (λ (n : Next). IsStepMade c.args.caller c.args.op.now c.drain.new.world c.stages.stage c.go_on.new.world n) c.in-Ends.is c.in_ok-next.ensures.made))
    refl

pub returns-clause-called : goal.returns-clause-called
returns-clause-called c = called c.args.caller c.args.op.now c.args.world.now c.drain.new.world (Goes c.stages.stage) _ c.asks_are_few.ensures c.run.ensures
    (come-delivered c.args.caller c.args.op.now c.args.world.now c.stages.world c.drain.new.world c.stages.stage
    c.stages.invariant.come c.drain.ensures.delivered)
    (c.in_ok-drain.ensures.worn c.if-branch.false, refl)
