-- The callers of a member are those whose gateway it is.
use Rattle.std.proofs.Common.{ℕ, ◌≡◌, ◌+◌, ◌*◌, ◌/◌, ◌<◌, ◌≤◌, length, sym, ap, ◌∙◌, arith}
use Rattle.std.proofs.Math.Nat.{div-eq_of_lt-le, div-mul-le_self, le-div_iff_mul-le, lt-div-mul-add, mul-div-le, mul-le-mul_right}
use Rattle.group_types.specs.Dimensions.{Dimensions, callers}
use Rattle.group_types.specs.Names.{IsProcess, index_of, process_at}
use Rattle.group_types.specs.Shape.{IsShape}
use Rattle.group_types.specs.declared.process.ProcessId.{ProcessId}
use Rattle.group_types.proofs.Names.{index-below, index-process_at, process_at-index}
use Rattle.group_wire.specs.State.{gateway_of}
use Rattle.group_member.specs.Callers.{AreCallersOf, IsItsCaller, OwnCallers, callers_each}

one-more : (i each : ℕ) → (i + 1) * each ≡ i * each + each
one-more i each = omega arith

-- a number from a multiple of another on, and below the next
between : (caller each i first many : ℕ) → first ≡ i * each → many ≡ each → first ≤ caller → caller < first + many → caller / each ≡ i
between caller each i first many start wide from below =
    let next = one-more i each in
    div-eq_of_lt-le each (omega (arith, start, from)) (omega (arith, start, wide, below, next))

within : (caller each i first many : ℕ) → first ≡ i * each → many ≡ each → 0 < each → caller / each ≡ i → (first ≤ caller) × (caller < first + many)
within caller each i first many start wide some is =
    let low = div-mul-le_self caller each in
    let high = lt-div-mul-add {a = caller} some in
    let same : caller / each * each ≡ i * each = ap (λ (n : ℕ). n * each) is in
    (omega (arith, start, low, same), omega (arith, start, wide, high, same))

below-all : (caller n i first many all : ℕ) → i < n → first ≡ i * (all / n) → many ≡ all / n → caller < first + many → caller < all
below-all caller n i first many all inside start wide below =
    let next = one-more i (all / n) in
    let fits = mul-div-le all n in
    let most : (i + 1) * (all / n) ≤ n * (all / n) = mul-le-mul_right (all / n) (omega (arith, inside)) in
    omega (arith, start, wide, below, next, fits, most)

each-some : (s : Dimensions) → IsShape s → 0 < callers_each s
each-some s limits =
    let few = limits.k.1 in
    let codes = limits.m in
    let some = limits.k.0 in
    (le-div_iff_mul-le {x = 1} {y = callers} (omega (arith, some))).1 (omega (arith, few, codes))

module _ (s : Dimensions) (name : ProcessId) (v : OwnCallers) (own : AreCallersOf s name v) (member : IsProcess s name) (caller : ℕ) where
  pub gateway-own : IsItsCaller v caller → gateway_of s caller ≡ name
  gateway-own its =
      ap (process_at s) (between caller (callers_each s) (index_of s name) v.first (length v.states) own.first own.many
      its.from its.below) ∙ process_at-index s name member

  pub own-low : IsItsCaller v caller → caller < callers
  own-low its = below-all caller (s.k + s.m) (index_of s name) v.first (length v.states) callers (index-below s name member) own.first own.many its.below

  pub own-gateway : gateway_of s caller ≡ name → IsItsCaller v caller
  own-gateway is =
      let inside = within caller (callers_each s) (index_of s name) v.first (length v.states) own.first own.many (each-some s own.limits)
      (sym (index-process_at s (caller / callers_each s)) ∙ ap (index_of s) is) in
      record { from = inside.0; below = inside.1 }
