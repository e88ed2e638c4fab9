use Rattle.std.proofs.Common.{◌<◌, length, ap, sym, subst, ◌∙◌}
use Rattle.group_layout.specs.Cluster.{world_in}
use Rattle.group_run.specs.World.{World}
use Rattle.cluster_run.specs.Playing.{ClusterPlay}
use Rattle.cluster_play.proofs.Ready.{ready-some, shape-of-first}
use Rattle.cluster_play.proofs.playing.ClusterPlay.shape.Goals as goal

pub world-requires : goal.world-requires
world-requires c = subst (λ (p : ClusterPlay). 0 < length p.cluster.groups.worlds) (sym c.self.view_is) (ready-some c.args.self.now.cluster c.requires.ready)

pub returns : goal.returns
returns c = c.shape.ensures ∙ ap (λ (w : World). w.shape) c.world.ensures
    ∙ ap (λ (p : ClusterPlay). (world_in p.cluster.groups 0).shape) c.self.view_is
    ∙ shape-of-first c.args.self.now.cluster c.requires.ready
