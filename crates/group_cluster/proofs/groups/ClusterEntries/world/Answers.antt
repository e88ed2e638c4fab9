use Rattle.std.proofs.Common.{◌<◌, length, sym, ap, subst, ◌∙◌}
use Rattle.group_layout.specs.Cluster.{Groups, world_in}
use Rattle.group_cluster.proofs.Parted.{read-at}
use Rattle.group_cluster.proofs.groups.ClusterEntries.world.Goals as goal

pub returns : goal.returns
returns c =
    let low : c.args.group < length c.self.inside.worlds.items = subst (λ (g : Groups). c.args.group < length g.worlds) (sym c.self.view_is) c.requires in
    read-at c.self.inside.shape c.self.inside.worlds.items c.args.group c.index.result.now low c.index.ensures
    ∙ ap (λ (g : Groups). world_in g c.args.group) c.self.view_is
