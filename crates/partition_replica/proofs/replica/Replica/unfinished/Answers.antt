use Rattle.std.proofs.Common.{◌∙◌}
use Rattle.partition_replica.proofs.Keys.{number_on-found}
use Rattle.partition_replica.proofs.replica.Replica.unfinished.Goals as goal

pub returns : goal.returns
returns c = rw (← c.self.view_is) (c.holds_key.ensures ∙ number_on-found c.self.inside.log.updates c.args.key.now)
