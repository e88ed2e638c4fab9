use Rattle.std.proofs.Common.{ℕ, ◌<◌, ◌+◌, ◌^◌, ◌≤◌, List, ap, sym, subst, ◌∙◌, arith}
use Rattle.group_calls.specs.declared.event.Event.TheVariants.{Deliver}
use Rattle.group_run.specs.Draining.{next_delivery}
use Rattle.group_run.specs.Progress.{load_of}
use Rattle.group_layout.specs.Cluster.{Cluster, cluster_step, world_in}
use Rattle.group_layout.specs.declared.event.ClusterEvent.TheVariants.{InGroup}
use Rattle.cluster_run.proofs.Leading.{led-even}
use Rattle.cluster_play.proofs.Delivering.{Made, Made-none, all-counted, all-delivered, all-written, burden-few, made-count, made-few, made-there, next-made}
use Rattle.cluster_play.proofs.deliveries.deliver_all.Goals as goal

pub deliveries-init : goal.deliveries-init
deliveries-init c = Made-none c.args.cluster.now c.args.group c.requires.ready.plan c.args.text.now.items
    (subst (λ (n : ℕ). c.args.group < n) (led-even c.requires.ready.plan c.args.cluster.now c.requires.ready.led).many
    c.requires.group) c.requires.ready.led c.requires.up

pub world-requires : goal.world-requires
world-requires c = made-there c.args.cluster.now c.args.group c.deliveries.cluster c.args.text.now.items
    c.deliveries.text.items c.deliveries.count c.deliveries.invariant

pub deliver-requires-clause-few : goal.deliver-requires-clause-few
deliver-requires-clause-few c = made-few c.args.cluster.now c.args.group c.deliveries.cluster c.args.text.now.items
    c.deliveries.text.items c.deliveries.count c.deliveries.invariant
    (burden-few c.args.cluster.now c.args.group c.requires.ready c.requires.group)

pub overflow_add-count : goal.overflow_add-count
overflow_add-count c =
    let few : c.deliveries.count ≤ 2 ^ 59
    = made-count c.args.cluster.now c.args.group c.deliveries.cluster c.args.text.now.items c.deliveries.text.items c.deliveries.count c.deliveries.invariant
    (burden-few c.args.cluster.now c.args.group c.requires.ready c.requires.group) in omega (arith, few)

pub deliver-requires-clause-may : goal.deliver-requires-clause-may
deliver-requires-clause-may c =
    (next-made c.args.cluster.now c.args.group c.deliveries.cluster c.args.text.now.items c.deliveries.text.items
    c.deliveries.count c.deliveries.invariant (Deliver c.in-Some.from c.in-Some.to)
    (sym (c.in-Some.ensures ∙ ap next_delivery c.world.ensures))).may

pub deliveries-smaller : goal.deliveries-smaller
deliveries-smaller c =
    let d : Cluster = c.deliveries.cluster in
    subst (λ (x : Cluster). load_of (world_in x.groups c.args.group) < load_of (world_in d.groups c.args.group)) (sym c.in_ok-deliver.ensures.cluster)
    (next-made c.args.cluster.now c.args.group d c.args.text.now.items c.deliveries.text.items c.deliveries.count
    c.deliveries.invariant (Deliver c.in-Some.from c.in-Some.to)
    (sym (c.in-Some.ensures ∙ ap next_delivery c.world.ensures))).lower

pub deliveries-preserved : goal.deliveries-preserved
deliveries-preserved c =
    let start : Cluster = c.args.cluster.now in
    let before : List ℕ = c.args.text.now.items in
    let j : ℕ = c.args.group in
    subst (λ (x : Cluster). Made start j x before c.deliver.new.text.items (c.deliveries.count + 1)) (sym c.in_ok-deliver.ensures.cluster)
    (subst (λ (xs : List ℕ).
    Made start j (cluster_step c.deliveries.cluster (InGroup j (Deliver c.in-Some.from c.in-Some.to))).cluster before
    xs (c.deliveries.count + 1)) (sym c.in_ok-deliver.ensures.text)
    (next-made start j c.deliveries.cluster before c.deliveries.text.items c.deliveries.count c.deliveries.invariant (Deliver c.in-Some.from c.in-Some.to)
    (sym (c.in-Some.ensures ∙ ap next_delivery c.world.ensures))).more)

pub returns-clause-cluster : goal.returns-clause-cluster
returns-clause-cluster c = all-delivered c.args.cluster.now c.args.group c.deliveries.cluster c.args.text.now.items
    c.deliveries.text.items c.deliveries.count c.deliveries.invariant c.requires.up
    (sym (c.in_default.ensures ∙ ap next_delivery c.world.ensures))

pub returns-clause-text : goal.returns-clause-text
returns-clause-text c = all-written c.args.cluster.now c.args.group c.deliveries.cluster c.args.text.now.items
    c.deliveries.text.items c.deliveries.count c.deliveries.invariant c.requires.up
    (sym (c.in_default.ensures ∙ ap next_delivery c.world.ensures))

pub returns-clause-count : goal.returns-clause-count
returns-clause-count c = all-counted c.args.cluster.now c.args.group c.deliveries.cluster c.args.text.now.items
    c.deliveries.text.items c.deliveries.count c.deliveries.invariant c.requires.up
    (sym (c.in_default.ensures ∙ ap next_delivery c.world.ensures))
