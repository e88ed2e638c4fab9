-- Its gateways stand in the order of those of each group.
use Rattle.std.specs.Prelude.{Option, Some, None}
use Rattle.std.proofs.Common.{refl, ◌∙◌}
use Rattle.front_end.specs.Gateway.{Rules}
use Rattle.front_end.specs.Order.{IsOrder}
use Rattle.group_gateways.specs.Rules.{Both, gateway_in, AllAreLater}

pub both_same : {G : Type 0} (leads : G → G → Type 0) → IsOrder leads → (one : Option G) → Both leads one one
both_same leads order None = tt
both_same leads order (Some one) = order.same one

pub both_on : {G : Type 0} (leads : G → G → Type 0) → IsOrder leads → (one two three : Option G) → Both leads one two
    → Both leads two three → Both leads one three
both_on leads order None None None first then = tt
both_on leads order (Some one) (Some two) (Some three) first then = order.on one two three first then
both_on leads order None None (Some three) first then = absurd then
both_on leads order None (Some two) three first then = absurd first
both_on leads order (Some one) None three first then = absurd first
both_on leads order (Some one) (Some two) None first then = absurd then

abbrev pub group_order : {G K : Type 0} (inner : Rules G K) → IsOrder inner.later → IsOrder (AllAreLater inner)
group_order inner order = record {
  same = λ gateway. record { k = refl; count = refl; each = λ j. both_same inner.later order (gateway_in gateway j) };
  on = λ first then last before after. record {
    k = after.k ∙ before.k;
    count = after.count ∙ before.count;
    each = λ j. both_on inner.later order (gateway_in first j) (gateway_in then j) (gateway_in last j) (before.each j) (after.each j);
  };
}
