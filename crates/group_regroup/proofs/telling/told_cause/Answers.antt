use Rattle.std.proofs.Common.{◌<◌, ◌+◌, subst, arith}
use Rattle.group_types.specs.Lists.{at}
use Rattle.group_calls.specs.declared.event.Answer.TheVariants as says
use Rattle.group_calls.specs.declared.event.Cause.{Cause}
use Rattle.group_regroup.specs.Fitting.{AnswerFits}
use Rattle.group_regroup.proofs.telling.told_cause.Goals as goal

pub overflow_add-result : goal.overflow_add-result
overflow_add-result c =
    let low : at 0 c.args.bases.now c.in-Pending.partition.0 + c.in-Pending.number < 18446744073709551616
    = subst (λ (x : Cause). AnswerFits c.args.bases.now 0 (says.Retry x)) c.in-Pending.is (c.requires 0) in
    omega (arith, low, c.base_of.ensures)
