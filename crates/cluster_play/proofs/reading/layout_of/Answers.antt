use Rattle.std.proofs.Common.{◌∙◌, subst}
use Rattle.group_cluster.specs.Plan.{IsFirstBad, IsPlan, Plan}
use Rattle.cluster_play.proofs.Ranges.{plan_within-bad, plan_within-ok}
use Rattle.cluster_play.proofs.reading.layout_of.Goals as goal

pub returns-in-Ok : goal.returns-in-Ok
returns-in-Ok c = plan_within-ok c.args.n c.in-Ok.layout (c.in-Ok.ensures.0 ∙ c.n.view_is) (subst IsPlan c.n.view_is c.in-Ok.ensures.1)

pub returns-in-Err : goal.returns-in-Err
returns-in-Err c = plan_within-bad c.args.n c.in-Err.bad.field (subst (λ (p : Plan). IsFirstBad p c.in-Err.bad.field) c.n.view_is c.in-Err.ensures)
