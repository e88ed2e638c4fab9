use Rattle.std.proofs.Common.{ℕ, None, ap, arith, subst}
use Rattle.std.proofs.lemmas.Grind.{common_steps}
use Rattle.group_types.specs.declared.run.Run.{Run}
use Rattle.run_verify.specs.Changes.{run_by}
use Rattle.std.specs.Prelude.{IfOk}
use Rattle.run_verify.specs.Dues.{HasToldAt, is_written}
use Rattle.run_verify.specs.declared.change.Effect.{Effect}
use Rattle.run_verify.proofs.Passed.{stand_kept, stand_set, told_passed}
use Rattle.run_verify.proofs.items.Items.pass.Goals as goal

pub returns-in-Keeps-clause-passed : goal.returns-in-Keeps-clause-passed
returns-in-Keeps-clause-passed c before long stand = (
  ap is_written c.in-Keeps.is,
  (c.requires.marked, stand_kept before c.args.change.now c.args.self.now c.in-Keeps.is stand),
)

pub returns-in-Removes-clause-passed : goal.returns-in-Removes-clause-passed
returns-in-Removes-clause-passed c before long stand = (
  ap is_written c.in-Removes.is,
  (
    c.remove.ensures.marked,
    stand_set before c.args.change.now c.args.self.now c.remove.new.self None
        (λ old. ap (λ (e : Effect). run_by e old) c.in-Removes.is) c.remove.ensures.runs stand,
  ),
)

pub returns-in-Writes-default-Some-clause-passed : goal.returns-in-Writes-default-Some-clause-passed
returns-in-Writes-default-Some-clause-passed c before long stand =
    let w = c.in-Writes-default-Some in
    let told = subst
    (λ (run : Run). IfOk c.take.result (HasToldAt c.args.self.now c.args.spot c.args.change.now.key run c.len.result
    c.args.text.now c.take.new.self)) w.run-is c.take.ensures.told in
    let sized = subst
    (λ (n : ℕ). IfOk c.take.result (HasToldAt c.args.self.now c.args.spot c.args.change.now.key w.run' n
    c.args.text.now c.take.new.self)) c.len.ensures told in
    told_passed c.args.spot before long c.args.change.now w.value w.run' (grind (arith, common_steps)) c.args.self.now
    stand c.args.text.now c.take.new.self c.take.result sized
