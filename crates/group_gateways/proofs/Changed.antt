-- The gateway of one group changes, and all others stay.
use Rattle.std.proofs.Common.{ℕ, zero, suc, ◌≡◌, ◌≢◌, ◌<◌, ◌⊎◌, inl, inr, List, [], ◌∷◌, length, Option, Some, None}
use Rattle.std.proofs.Common.{set, get_or, refl, sym, ap, subst, ◌∙◌, arith}
use Rattle.std.specs.List.{slice_get}
use Rattle.std.proofs.lemmas.Bool.{cases_eq}
use Rattle.std.proofs.lemmas.List.{length-set}
use Rattle.std.proofs.lemmas.Option.{slice_get_read}
use Rattle.memc_table.specs.Asked.{Asked}
use Rattle.front_end.specs.Gateway.{Rules, IsNotOpen, KeepsOpen, LendsNone}
use Rattle.front_end.specs.Order.{IsOrder}
use Rattle.group_gateways.specs.declared.call.GroupCall.{GroupCall}
use Rattle.group_gateways.specs.declared.gateway.GroupGateways.{GroupGateways}
use Rattle.group_gateways.specs.Rules.{Both, HoldsOf, AllAreLater, IsOpenThere, GoesOnQuietly, gateway_in, group_rules}
use Rattle.group_gateways.specs.Order.{both_same, group_order}

-- what is set at a place of a list stands there
pub get-set : {X : Type 0} (xs : List X) (i : ℕ) (w : X) → i < length xs → slice_get (set xs i w) i ≡ Some w
get-set [] i w within = absurd (omega arith)
get-set (x ∷ xs) zero w within = refl
get-set (x ∷ xs) (suc i) w within = get-set xs i w (omega arith)

-- and all else stays
pub get-set-other : {X : Type 0} (xs : List X) (i j : ℕ) (w : X) → j ≢ i → slice_get (set xs i w) j ≡ slice_get xs j
get-set-other [] i j w other = refl
get-set-other (x ∷ xs) zero zero w other = absurd (other refl)
get-set-other (x ∷ xs) zero (suc j) w other = refl
get-set-other (x ∷ xs) (suc i) zero w other = refl
get-set-other (x ∷ xs) (suc i) (suc j) w other = get-set-other xs i j w (λ same. other (ap suc same))

-- the gateway of a group became another
pub record HasChanged {G : Type 0} (before after : GroupGateways G) (group : ℕ) (one two : G) : Type 0 where
  pub was : gateway_in before group ≡ Some one
  pub is : gateway_in after group ≡ Some two
  pub others : (j : ℕ) → j ≢ group → gateway_in after j ≡ gateway_in before j
  pub k : after.k ≡ before.k
  pub count : length after.gateways.items ≡ length before.gateways.items

pub has_changed : {G : Type 0} (before after : GroupGateways G) (group : ℕ) (one two : G) → group < length before.gateways.items
    → one ≡ get_or before.gateways.items group one → after.gateways.items ≡ set before.gateways.items group two → after.k ≡ before.k
    → HasChanged before after group one two
has_changed {G} before after group one two within value items k = record {
  was = slice_get_read before.gateways.items (length before.gateways.items) group one refl within value;
  is = ap (λ (xs : List G). slice_get xs group) items ∙ get-set before.gateways.items group two within;
  others = λ j other. ap (λ (xs : List G). slice_get xs j) items ∙ get-set-other before.gateways.items group j two other;
  k = k;
  count = ap (length {A = G}) items ∙ length-set before.gateways.items group two;
}

-- what holds between the two is so where both stand
pub both-at : {G : Type 0} (R : G → G → Type 0) (b a : Option G) (one two : G) → b ≡ Some one → a ≡ Some two → R one two → Both R b a
both-at {G} R b a one two was is holds = subst (λ (o : Option G). Both R o a) (sym was) (subst (Both R (Some one)) (sym is) holds)

-- one relation leads to another over what became of the one
pub both-moved : {G : Type 0} (R S : G → G → Type 0) (o b a : Option G) (one two : G) → b ≡ Some one → a ≡ Some two
    → ((first : G) → R first one → S first two) → Both R o b → Both S o a
both-moved {G} R S o b a one two was is moves held = subst (Both S o) (sym is) (by o (subst (Both R o) was held)) where
  by : (o : Option G) → Both R o (Some one) → Both S o (Some two)
  by None held = absurd held
  by (Some first) held = moves first held

module _ {G K : Type 0} (inner : Rules G K) (order : IsOrder inner.later) where
  -- one group's came behind, and so all
  pub is-later : (before after : GroupGateways G) (group : ℕ) (one two : G) → HasChanged before after group one two
      → inner.later one two → AllAreLater inner before after
  is-later before after group one two changed leads = record { k = changed.k; count = changed.count; each = λ j. by j (cases_eq j group) } where
    by : (j : ℕ) → (j ≡ group) ⊎ (j ≢ group) → Both inner.later (gateway_in before j) (gateway_in after j)
    by j (inl is) = both-at inner.later (gateway_in before j) (gateway_in after j) one two (ap (gateway_in before) is
        ∙ changed.was) (ap (gateway_in after) is ∙ changed.is) leads
    by j (inr other) = subst (Both inner.later (gateway_in before j)) (sym (changed.others j other)) (both_same inner.later order (gateway_in before j))

  -- a call stays open that stays so in its group
  pub stays-open : (before after : GroupGateways G) (group : ℕ) (one two : G) → HasChanged before after group one two → inner.later one two
      → (call : GroupCall K) (op : Asked) (began : GroupGateways G)
      → (call.group ≡ group → (first : G) → inner.opened one call.inner op first → inner.opened two call.inner op first)
      → IsOpenThere inner before call op began → IsOpenThere inner after call op began
  stays-open before after group one two changed leads call op began moves was_open = record {
    group = was_open.group;
    there = was_open.there;
    opened = by (cases_eq call.group group);
    later = (group_order inner order).on began before after was_open.later (is-later before after group one two changed leads);
  } where
    by : (call.group ≡ group) ⊎ (call.group ≢ group) → Both (λ (first last : G). inner.opened last call.inner op first)
        (gateway_in began call.group) (gateway_in after call.group)
    by (inl is) = both-moved (λ (first last : G). inner.opened last call.inner op first) (λ (first last : G). inner.opened last call.inner op first)
        (gateway_in began call.group) (gateway_in before call.group) (gateway_in after call.group) one two
        (ap (gateway_in before) is ∙ changed.was) (ap (gateway_in after) is ∙ changed.is) (moves is) was_open.opened
    by (inr other) =
        subst (Both (λ (first last : G). inner.opened last call.inner op first) (gateway_in began call.group))
        (sym (changed.others call.group other)) was_open.opened

  pub keeps-open : (before after : GroupGateways G) (group : ℕ) (one two : G) → HasChanged before after group one two → inner.later one two
      → KeepsOpen inner one two → KeepsOpen (group_rules inner) before after
  keeps-open before after group one two changed leads keeps = λ call op began was_open.
      stays-open before after group one two changed leads call op began (λ is first was. keeps call.inner op first was) was_open

  -- none gets a caller that gets none in its group
  pub lends-between : (was now : ℕ → Option G) (group : ℕ) (one two : G) → was group ≡ Some one → now group ≡ Some two → ((j : ℕ) → j ≢ group → now j ≡ was j)
      → LendsNone inner one two → (call : GroupCall K) → HoldsOf (λ (g : G). inner.lent g call.inner) (now call.group)
      → HoldsOf (λ (g : G). inner.lent g call.inner) (was call.group)
  lends-between was now group one two first last others lends call lent = by (cases_eq call.group group) where
    by : (call.group ≡ group) ⊎ (call.group ≢ group) → HoldsOf (λ (g : G). inner.lent g call.inner) (was call.group)
    by (inl is) = subst (HoldsOf (λ (g : G). inner.lent g call.inner)) (sym (ap was is ∙ first))
        (lends call.inner (subst (HoldsOf (λ (g : G). inner.lent g call.inner)) (ap now is ∙ last) lent))
    by (inr other) = subst (HoldsOf (λ (g : G). inner.lent g call.inner)) (others call.group other) lent

  -- one group's gateway goes on quietly
  pub is-quiet : (before after : GroupGateways G) (group : ℕ) (one two : G) → HasChanged before after group one two → KeepsOpen inner one two
      → LendsNone inner one two → inner.later one two → GoesOnQuietly (group_rules inner) before after
  is-quiet before after group one two changed keeps lends leads = record {
    calls = keeps-open before after group one two changed leads keeps;
    lends = lends-between (gateway_in before) (gateway_in after) group one two changed.was changed.is changed.others lends;
    later = is-later before after group one two changed leads;
  }

-- one goes on quietly behind another
pub quiet-on : {G K : Type 0} (rules : Rules G K) → IsOrder rules.later → (first then last : G)
    → GoesOnQuietly rules first then → GoesOnQuietly rules then last → GoesOnQuietly rules first last
quiet-on rules order first then last before after = record {
  calls = λ call op began was_open. after.calls call op began (before.calls call op began was_open);
  lends = λ call lent. before.lends call (after.lends call lent);
  later = order.on first then last before.later after.later;
}

-- and nothing changes where nothing does
pub quiet-same : {G K : Type 0} (rules : Rules G K) → IsOrder rules.later → (one : G) → GoesOnQuietly rules one one
quiet-same rules order one = record { calls = λ call op began was_open. was_open; lends = λ call lent. lent; later = order.same one }

-- a call is free that is free in its group
pub is-free : {G K : Type 0} (inner : Rules G K) (now : GroupGateways G) (call : GroupCall K) (one : G) → gateway_in now call.group ≡ Some one
    → IsNotOpen inner one call.inner → IsNotOpen (group_rules inner) now call
is-free {G} inner now call one here free = λ op began was_open. by op (gateway_in began call.group)
    (subst (Both (λ (first last : G). inner.opened last call.inner op first) (gateway_in began call.group)) here was_open.opened) where
      by : (op : Asked) (o : Option G) → Both (λ (first last : G). inner.opened last call.inner op first) o (Some one) → ⊥
      by op None held = held
      by op (Some first) held = free op first held
