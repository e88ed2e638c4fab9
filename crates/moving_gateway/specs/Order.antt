-- Its gateways stand in the order of their inner ones.
use Rattle.std.proofs.Common.{refl, ◌∙◌}
use Rattle.front_end.specs.Gateway.{Rules}
use Rattle.front_end.specs.Order.{IsOrder}
use Rattle.moving_gateway.specs.Rules.{IsLater}

abbrev pub moving_order : {G K : Type 0} (inner : Rules G K) → IsOrder inner.later → IsOrder (IsLater inner)
moving_order inner order = record {
  same = λ gateway. record { behind = order.same gateway.inner; bases = refl };
  on = λ first then last before after. record {
    behind = order.on first.inner then.inner last.inner before.behind after.behind;
    bases = after.bases ∙ before.bases;
  };
}
