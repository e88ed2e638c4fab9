use Rattle.std.proofs.Common.{sym, subst, ◌∙◌}
use Rattle.group_layout.specs.Cluster.{Cluster, MayHappen}
use Rattle.group_layout.specs.declared.event.ClusterEvent.TheVariants.{InGroup}
use Rattle.group_cluster.proofs.Histories.{step-history}
use Rattle.group_cluster.proofs.cluster.Cluster.step_in.Goals as goal

pub invariant_of-self-2 : goal.invariant_of-self-2
invariant_of-self-2 c =
    let inner : Cluster = record { failed = c.self.inside.failed.items; groups = c.self.inside.groups } in
    step-history inner c.args.group c.args.event.now c.self.invariant
    (subst (λ (x : Cluster). MayHappen x (InGroup c.args.group c.args.event.now)) (sym c.self.view_is) c.requires.may)
    (sym c.other_group.ensures ∙ c.in_default.is) c.step.new.self c.in_ok-out.ensures.moved
