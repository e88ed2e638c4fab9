use Rattle.std.proofs.Common.{ℕ, ◌≡◌, ◌^◌, List, [], ◌∷◌, ◌++◌, refl, ap, append-nil, sym, subst}
use Rattle.group_layout.specs.Cluster.{Cluster}
use Rattle.group_layout.specs.declared.event.ClusterEvent.TheVariants.{FailNode}
use Rattle.cluster_run.specs.Playing.{ClusterPlay, cluster_turn, turn_text}
use Rattle.cluster_run.specs.Texts.{cluster_answer_text, cluster_entries_text}
use Rattle.cluster_play.specs.Doing.{IsReadyCluster}
use Rattle.cluster_play.proofs.Logged.{fail-silent, line-is, turn-written}
use Rattle.cluster_play.proofs.Ready.{few-all}
use Rattle.cluster_play.proofs.playing.ClusterPlay.fail.Goals as goal

pub make_event-requires-clause-few : goal.make_event-requires-clause-few
make_event-requires-clause-few c =
    few-all c.self.inside.cluster (subst (λ (p : ClusterPlay). IsReadyCluster (2 ^ 59) p.cluster) (sym c.self.view_is)
    c.requires.ready)

pub returns-clause-text : goal.returns-clause-text
returns-clause-text c =
    let before : Cluster = c.self.inside.cluster in
    let line : List ℕ = cluster_answer_text c.in_ok-out.out.answer ++ 10 ∷ [] in
    line-is c.answer_line.result line (turn_text (cluster_turn c.args.self.now.cluster (FailNode c.args.node c.args.keep))) c.answer_line.ensures
    (subst (λ (p : ClusterPlay). line ≡ turn_text (cluster_turn p.cluster (FailNode c.args.node c.args.keep))) c.self.view_is
    (turn-written before (FailNode c.args.node c.args.keep) c.in_ok-out.out.answer
    (cluster_answer_text c.in_ok-out.out.answer) line [] line refl c.in_ok-out.ensures.answer
    refl (sym (append-nil line)) (sym (ap cluster_entries_text (fail-silent before c.args.node c.args.keep)))))
