use Rattle.std.proofs.Common.{rules, arith, ◌≡◌, ◌≤◌, length}
use Rattle.group_gateways.proofs.Closed.{all-closed}
use Rattle.group_gateways.proofs.exchanging.GroupGatewaysClosing.set_closed.Goals as goal

pub returns-clause-closed : goal.returns-clause-closed
returns-clause-closed g c =
    let count : length c.groups.self.gateways.items ≡ length c.args.self.now.gateways.items = c.groups.invariant.quiet.later.count in
    let whole : length c.args.self.now.gateways.items ≤ c.groups.group = search rules in
    all-closed g.G.Closing.closed c.args.is_closed c.groups.self.gateways.items (search rules)
    (λ j within. c.groups.invariant.closed j (omega (arith, within, count, whole)))
