use Rattle.std.proofs.Common.{ℕ, ◌<◌, length, arith, subst, sym}
use Rattle.group_layout.specs.Cluster.{Cluster}
use Rattle.cluster_play.proofs.Delivering.{Drained-more, few-deliveries, few-groups}
use Rattle.cluster_play.proofs.deliveries.drain.Goals as goal

pub overflow_add-count : goal.overflow_add-count
overflow_add-count c =
    let start : Cluster = c.args.cluster.now in
    let low : c.groups.group < length start.groups.worlds = subst (λ (n : ℕ). c.groups.group < n) c.groups-group-end.ensures c.groups-test.true in
    let there : c.groups.group < length c.groups.cluster.groups.worlds = subst (λ (n : ℕ). c.groups.group < n) (sym c.groups.invariant.drained.many) low in
    let groups = few-groups start c.requires.ready in
    let here = few-deliveries c.groups.cluster c.groups.group c.groups.invariant.drained.ready there in
    let before = c.groups.invariant.drained.few in
    let count = c.in_ok-count.ensures.count in
    omega (arith, low, groups, here, before, count)

pub groups-preserved : goal.groups-preserved
groups-preserved c =
    let low : c.groups.group < length c.args.cluster.now.groups.worlds = subst (λ (n : ℕ). c.groups.group < n) c.groups-group-end.ensures c.groups-test.true in
    record {
      drained = Drained-more c.args.cluster.now c.groups.cluster c.drain_group.new.cluster c.groups.group
          c.args.text.now.items c.groups.text.items c.drain_group.new.text.items
          c.groups.count c.in_ok-count.field-0 c.groups.invariant.drained low c.in_ok-count.ensures.cluster
          c.in_ok-count.ensures.text c.in_ok-count.ensures.count;
      within = omega (arith, low);
    }
