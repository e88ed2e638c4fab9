use Rattle.std.proofs.Common.{subst}
use Rattle.group_core.specs.Runs.{HasRun}
use Rattle.group_core.proofs.Known.{has-headline, log-legal}
use Rattle.group_core.proofs.world.World.log.Goals as goal

pub returns-clause-legal : goal.returns-clause-legal
returns-clause-legal c = log-legal c.args.self.now (subst HasRun c.self.view_is c.self.invariant.run)

pub returns-clause-headline : goal.returns-clause-headline
returns-clause-headline c = has-headline c.args.self.now (subst HasRun c.self.view_is c.self.invariant.run)
