use Rattle.group_gateways.specs.Rules.{GoesOnQuietly, group_rules}
use Rattle.group_gateways.proofs.exchanging.GroupGatewaysExchangeVec.send.Given as goal

abbrev pub invariant-groups : goal.invariant-groups
invariant-groups g l = GoesOnQuietly (group_rules g.G.Gateway.rules) l.fn.self l.self
