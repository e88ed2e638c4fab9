use Rattle.std.proofs.Common.{sym, ap, ◌∙◌}
use Rattle.group_eras.specs.Told.{told_answer}
use Rattle.group_regroup.proofs.telling.told_answer.Goals as goal

pub returns-in-Retry : goal.returns-in-Retry
returns-in-Retry c = c.told_cause.ensures c.args.partition ∙ ap (told_answer c.args.bases.now c.args.partition) (sym c.in-Retry.is)
