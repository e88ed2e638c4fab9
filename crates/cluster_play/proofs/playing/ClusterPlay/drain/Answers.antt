use Rattle.std.proofs.Common.{ℕ, ◌≡◌, ◌++◌, List, codes, ap, refl, subst, ◌∙◌}
use Rattle.std.specs.Fmt.{decimal}
use Rattle.group_layout.specs.Cluster.{Cluster}
use Rattle.cluster_run.specs.Playing.{ClusterPlay, all_deliveries, cluster_turns_from, drained_text}
use Rattle.cluster_play.proofs.Delivering.{drained-is, written_by}
use Rattle.cluster_play.proofs.playing.ClusterPlay.drain.Goals as goal

pub returns-clause-text : goal.returns-clause-text
returns-clause-text c =
    let before : Cluster = c.self.inside.cluster in
    let count : ℕ = c.in_ok-count.count in
    subst (λ (d : Cluster). c.write_count.new.text.items ≡ drained_text (cluster_turns_from d (all_deliveries d)))
    (ap (λ (p : ClusterPlay). p.cluster) c.self.view_is)
    (drained-is before (all_deliveries before) count c.drain.new.text.items
    (codes "drained " ++ (decimal count ++ codes "\n")) c.write_count.new.text.items c.in_ok-count.ensures.count
    (c.in_ok-count.ensures.text ∙ ap (λ (xs : List ℕ). xs ++ written_by before (all_deliveries before))
    c.new-text.ensures.items) refl c.in_ok-write_count.ensures)
