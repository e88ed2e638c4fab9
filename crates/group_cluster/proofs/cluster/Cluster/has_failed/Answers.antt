use Rattle.std.proofs.Common.{◌<◌, false, length, sym, ap, subst, ◌∙◌}
use Rattle.group_types.specs.Lists.{at}
use Rattle.group_layout.specs.Cluster.{Cluster}
use Rattle.group_cluster.proofs.Downed.{read-failed}
use Rattle.group_cluster.proofs.cluster.Cluster.has_failed.Goals as goal

pub returns : goal.returns
returns c =
    let low : c.args.node < length c.self.inside.failed.items = subst (λ (x : Cluster). c.args.node < length x.failed) (sym c.self.view_is) c.requires in
    sym (read-failed c.self.inside.failed.items c.args.node c.index.result.now low c.index.ensures)
    ∙ ap (λ (x : Cluster). at false x.failed c.args.node) c.self.view_is
