use Rattle.std.proofs.Common.{subst}
use Rattle.group_cluster.specs.Promise.{HasClusterPromise}
use Rattle.group_cluster.proofs.Promised.{promised}
use Rattle.group_cluster.proofs.cluster.Cluster.log.Goals as goal

pub returns-clause-promise : goal.returns-clause-promise
returns-clause-promise c =
    subst HasClusterPromise c.self.view_is
    (promised (record { failed = c.self.inside.failed.items; groups = c.self.inside.groups }) c.self.invariant)
