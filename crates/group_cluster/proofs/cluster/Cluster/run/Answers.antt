use Rattle.std.proofs.Common.{subst}
use Rattle.group_cluster.specs.Promise.{HasClusterPromise}
use Rattle.group_cluster.proofs.Promised.{promised}
use Rattle.group_cluster.proofs.cluster.Cluster.run.Goals as goal

pub returns : goal.returns
returns c = subst HasClusterPromise c.self.view_is (promised (record { failed = c.self.inside.failed.items; groups = c.self.inside.groups }) c.self.invariant)
