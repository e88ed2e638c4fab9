use Rattle.std.proofs.Common.{◌≡◌, ◌<◌, ◌≤◌, ◌+◌, length, sym, ap, subst, arith}
use Rattle.group_types.specs.Dimensions.{Dimensions}
use Rattle.group_layout.specs.Cluster.{Groups}
use Rattle.group_cluster.proofs.Cutting.{may-here, next-started, same-many, same-shape}
use Rattle.group_cluster.proofs.groups.ClusterEntries.fail_node.Goals as goal

pub fail_in-requires-clause-group : goal.fail_in-requires-clause-group
fail_in-requires-clause-group c =
    let g : Groups = c.args.self.now in
    let many : length c.groups.self.worlds ≡ length g.worlds
    = same-many g c.groups.self c.args.nodes c.args.node c.args.keep (length g.worlds) c.groups.group c.groups.invariant.started c.requires.may in
    omega (arith, many, c.groups-test.true, c.len-count.ensures, ap (λ (x : Groups). length x.worlds) c.self.view_is)

pub fail_in-requires-clause-processes : goal.fail_in-requires-clause-processes
fail_in-requires-clause-processes c =
    let g : Groups = c.args.self.now in
    subst (λ (s : Dimensions). s.k + s.m ≤ 64)
    (sym (same-shape g c.groups.self c.args.nodes c.args.node c.args.keep (length g.worlds) c.groups.group
    c.groups.invariant.started)) c.requires.processes

pub fail_in-requires-clause-may : goal.fail_in-requires-clause-may
fail_in-requires-clause-may c =
    let g : Groups = c.args.self.now in
    let low : c.groups.group < length g.worlds = omega (arith, c.groups-test.true, c.len-count.ensures, ap (λ (x : Groups). length x.worlds) c.self.view_is) in
    may-here g c.groups.self c.args.nodes c.args.node c.args.keep (length g.worlds) c.groups.group c.groups.invariant.started c.requires.may low

pub groups-preserved : goal.groups-preserved
groups-preserved c =
    let g : Groups = c.args.self.now in
    let low : c.groups.group < length g.worlds = omega (arith, c.groups-test.true, c.len-count.ensures, ap (λ (x : Groups). length x.worlds) c.self.view_is) in
    record {
      started = next-started g c.groups.self c.args.nodes c.args.node c.args.keep (length g.worlds) c.groups.group
          c.groups.invariant.started c.fail_in.new.self low c.in_ok-fail_in.ensures.ok;
    }
