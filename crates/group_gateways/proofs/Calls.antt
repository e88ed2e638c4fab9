-- A call that begins in a group, or ends there.
use Rattle.std.proofs.Common.{ℕ, ◌≡◌, ◌≢◌, ◌<◌, ◌⊎◌, inl, inr, length, Option, Some, None, refl, sym, ap, subst, ◌∙◌}
use Rattle.std.proofs.lemmas.Bool.{cases_eq}
use Rattle.std.proofs.lemmas.Option.{same_Some}
use Rattle.memc_table.specs.Asked.{Asked}
use Rattle.memc_proto.specs.declared.end.CallEnd.{CallEnd}
use Rattle.front_end.specs.Gateway.{Rules, IsEndOf, KeepsOtherCalls, LendsOnly}
use Rattle.front_end.specs.Order.{IsOrder}
use Rattle.group_gateways.specs.declared.call.GroupCall.{GroupCall}
use Rattle.group_gateways.specs.declared.gateway.GroupGateways.{GroupGateways}
use Rattle.group_gateways.specs.Rules.{Both, HoldsOf, IsKeptThere, IsOpenThere, gateway_in, group_for, group_rules}
use Rattle.group_gateways.specs.Order.{group_order}
use Rattle.group_gateways.proofs.Changed.{HasChanged, both-at, both-moved, is-later, stays-open}

-- calls of one group are those of its gateway
same-call : {K : Type 0} (one other : GroupCall K) → one.group ≡ other.group → one.inner ≡ other.inner → one ≡ other
same-call {K} one other group inner = ap (λ (g : ℕ). record { group = g; inner = one.inner }) group
    ∙ ap (λ (i : K). record { group = other.group; inner = i }) inner

module _ {G K : Type 0} (inner : Rules G K) (order : IsOrder inner.later) (before after : GroupGateways G) (group : ℕ)
    (one two : G) (changed : HasChanged before after group one two) where
  -- a call is open that began in the group of its key
  pub has-begun : inner.later one two → (op : Asked) (call : K) → group ≡ group_for before op
      → group < length before.gateways.items → inner.opened two call op one
      → IsOpenThere inner after (record { group = group; inner = call }) op before
  has-begun leads op call is within opened = record {
    group = is;
    there = within;
    opened = both-at (λ (first last : G). inner.opened last call op first) (gateway_in before group)
        (gateway_in after group) one two changed.was changed.is opened;
    later = is-later inner order before after group one two changed leads;
  }

  -- the group's gateway was kept so
  pub is-kept : (op : Asked) → group ≡ group_for before op → inner.ways.kept one op two → IsKeptThere inner before op after
  is-kept op is kept = record {
    kept = subst (λ (i : ℕ). Both (λ (was now : G). inner.ways.kept was op now) (gateway_in before i) (gateway_in after i)) is
        (both-at (λ (was now : G). inner.ways.kept was op now) (gateway_in before group) (gateway_in after group) one two changed.was changed.is kept);
    others = λ j other. changed.others j (λ same. other (same ∙ is));
  }

  -- the end of a call of the group is that of its gateway
  pub has-ended : inner.later one two → (call : GroupCall K) (end : CallEnd) → call.group ≡ group → IsEndOf inner one call.inner end two
      → IsEndOf (group_rules inner) before call end after
  has-ended leads call end is ended = λ op began was_open. record {
    made = subst (λ (i : ℕ). Both (λ (first last : G). inner.ways.made first op end last) (gateway_in began i) (gateway_in after i)) was_open.group
        (both-moved (λ (first last : G). inner.opened last call.inner op first) (λ (first last : G). inner.ways.made first op end last)
        (gateway_in began call.group) (gateway_in before call.group) (gateway_in after call.group) one two
        (ap (gateway_in before) is ∙ changed.was) (ap (gateway_in after) is ∙ changed.is) (ended op) was_open.opened);
    later = (group_order inner order).on began before after was_open.later (is-later inner order before after group one two changed leads);
  }

  -- all others stay open
  pub keeps-others : inner.later one two → (call : GroupCall K) → call.group ≡ group → KeepsOtherCalls inner call.inner one two
      → KeepsOtherCalls (group_rules inner) call before after
  keeps-others leads call is keeps = λ other op began differs was_open.
      stays-open inner order before after group one two changed leads other op began
      (λ own first opened. keeps other.inner op first (λ same. differs (same-call other call (own ∙ sym is) same)) opened) was_open

-- the call that was begun alone may have got a caller
pub lends-only : {G K : Type 0} (inner : Rules G K) (was now : ℕ → Option G) (group : ℕ) (one two : G) → was group ≡ Some one → now group ≡ Some two
    → ((j : ℕ) → j ≢ group → now j ≡ was j) → (begun : K) → LendsOnly inner (Some begun) one two
    → (call : GroupCall K) → HoldsOf (λ (g : G). inner.lent g call.inner) (now call.group)
    → HoldsOf (λ (g : G). inner.lent g call.inner) (was call.group) ⊎ (Some (record { group = group; inner = begun }) ≡ Some call)
lends-only {G} {K} inner was now group one two first last others begun lends call lent = by (cases_eq call.group group) where
  in_group : call.group ≡ group → inner.lent one call.inner ⊎ (Some begun ≡ Some call.inner)
      → HoldsOf (λ (g : G). inner.lent g call.inner) (was call.group) ⊎ (Some (record { group = group; inner = begun }) ≡ Some call)
  in_group is (inl had) = inl (subst (HoldsOf (λ (g : G). inner.lent g call.inner)) (sym (ap was is ∙ first)) had)
  in_group is (inr own) =
      inr (ap (λ (c : GroupCall K). Some c) (same-call (record { group = group; inner = begun }) call (sym is)
      (same_Some begun call.inner own)))

  by : (call.group ≡ group) ⊎ (call.group ≢ group)
      → HoldsOf (λ (g : G). inner.lent g call.inner) (was call.group) ⊎ (Some (record { group = group; inner = begun }) ≡ Some call)
  by (inl is) = in_group is (lends call.inner (subst (HoldsOf (λ (g : G). inner.lent g call.inner)) (ap now is ∙ last) lent))
  by (inr other) = inl (subst (HoldsOf (λ (g : G). inner.lent g call.inner)) (others call.group other) lent)
