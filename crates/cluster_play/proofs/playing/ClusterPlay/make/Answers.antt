use Rattle.std.proofs.Common.{ℕ, ◌≡◌, ◌<◌, ◌-◌, ◌^◌, List, drop, length, refl, ap, sym, subst, ◌∙◌}
use Rattle.group_layout.specs.Cluster.{Cluster}
use Rattle.group_layout.specs.declared.event.ClusterEvent.TheVariants.{InGroup}
use Rattle.group_run.specs.World.{World}
use Rattle.scenario_run.specs.Marks.{marked_entries}
use Rattle.cluster_run.specs.Playing.{ClusterPlay, cluster_turn, turn_text}
use Rattle.cluster_run.specs.Texts.{cluster_answer_text}
use Rattle.cluster_play.specs.Doing.{IsReadyCluster}
use Rattle.cluster_play.proofs.Logged.{Last, last-in, turn-written}
use Rattle.cluster_play.proofs.Ready.{few-in, there-after}
use Rattle.cluster_play.proofs.playing.ClusterPlay.make.Goals as goal

pub make_event-requires-clause-few : goal.make_event-requires-clause-few
make_event-requires-clause-few c = few-in c.self.inside.cluster c.args.group
    (subst (λ (p : ClusterPlay). IsReadyCluster (2 ^ 59) p.cluster) (sym c.self.view_is) c.requires.ready)
    (subst (λ (p : ClusterPlay). c.args.group < length p.cluster.groups.worlds) (sym c.self.view_is) c.requires.may.0.0)

pub world-requires : goal.world-requires
world-requires c = there-after c.self.inside.cluster c.args.group c.args.event c.make_event.new.cluster c.in_ok-out.ensures.cluster
    (subst (λ (p : ClusterPlay). c.args.group < length p.cluster.groups.worlds) (sym c.self.view_is) c.requires.may.0.0)

pub write_last-requires : goal.write_last-requires
write_last-requires c =
    (last-in c.self.inside.cluster c.args.group c.args.event c.make_event.new.cluster c.log-log.result.now
    c.in_ok-out.out.logged c.in_ok-out.ensures.cluster
    (c.log-log.ensures.log ∙ ap (λ (w : World). w.log) c.world.ensures) c.in_ok-out.ensures.logged).few

pub returns-clause-text : goal.returns-clause-text
returns-clause-text c =
    let before : Cluster = c.self.inside.cluster in
    let last : Last before c.args.group c.args.event c.log-log.result.now c.in_ok-out.out.logged
    = last-in before c.args.group c.args.event c.make_event.new.cluster c.log-log.result.now c.in_ok-out.out.logged
    c.in_ok-out.ensures.cluster (c.log-log.ensures.log ∙ ap (λ (w : World). w.log) c.world.ensures)
    c.in_ok-out.ensures.logged in
    let entries : List ℕ = marked_entries c.deref.result.now (drop (length c.log-log.result.now - c.in_ok-out.out.logged) c.log-log.result.now) in
    let logged = ap
    (λ (mark : List ℕ). marked_entries mark
    (drop (length c.log-log.result.now - c.in_ok-out.out.logged) c.log-log.result.now))
    (c.deref.ensures.value ∙ c.in_ok-mark.ensures) ∙ last.text in
    subst (λ (p : ClusterPlay). c.write_last.new.text.items ≡ turn_text (cluster_turn p.cluster (InGroup c.args.group c.args.event))) c.self.view_is
    (turn-written before (InGroup c.args.group c.args.event) c.in_ok-out.out.answer
    (cluster_answer_text c.in_ok-out.out.answer) c.in_ok-text.text.items entries c.write_last.new.text.items refl
    c.in_ok-out.ensures.answer
    c.in_ok-text.ensures c.in_ok-write_last.ensures logged)
