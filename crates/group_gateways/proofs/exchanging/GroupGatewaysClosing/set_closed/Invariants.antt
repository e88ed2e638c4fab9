use Rattle.std.proofs.Common.{ℕ, ◌≡◌, ◌<◌}
use Rattle.std.specs.Prelude.{IfSome}
use Rattle.group_gateways.specs.Rules.{GoesOnQuietly, gateway_in, group_rules}
use Rattle.group_gateways.proofs.exchanging.GroupGatewaysClosing.set_closed.Given as goal

abbrev pub invariant-groups : goal.invariant-groups
invariant-groups g l = record {
  quiet : GoesOnQuietly (group_rules g.G.Gateway.rules) l.fn.self l.self;
  closed : (j : ℕ) → j < l.group → IfSome (gateway_in l.self j) (λ (now : g.row.G.Denot). g.G.Closing.closed now ≡ l.is_closed);
}
