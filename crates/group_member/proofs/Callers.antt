-- Callers of whom one goes on, in the group as at the member.
use Rattle.std.proofs.Common.{ℕ, ◌≡◌, ◌≢◌, ◌==◌, ◌-◌, ◌<◌, Bool, true, false, length, refl, sym, ap, inl, inr, ◌∙◌, arith}
use Rattle.std.specs.Prelude.{Option}
use Rattle.std.proofs.lemmas.Bool.{cases_eq}
use Rattle.std.proofs.lemmas.Grind.{common_steps}
use Rattle.group_types.specs.Dimensions.{Dimensions}
use Rattle.group_types.specs.declared.process.ProcessId.{ProcessId}
use Rattle.group_types.proofs.Lists.{at-put, at-put-other, length-put}
use Rattle.group_wire.specs.Sets.{changed_at, one_or}
use Rattle.group_wire.specs.State.{Gateways, OpenCall}
use Rattle.group_member.specs.Callers.{AreCallersOf, IsItsCaller, OwnCaller, OwnCallers, caller_of, no_caller, with_call, with_caller}
use Rattle.group_member.specs.Standing.{HasCallers}

equal-number : (n i : ℕ) → i ≡ n → (i == n) ≡ true
equal-number n i same = grind (arith, common_steps)

other-number : (n i : ℕ) → i ≢ n → (i == n) ≡ false
other-number n i other = grind (arith, common_steps)

pub at-here : {X : Type 0} (f : ℕ → X) (n i : ℕ) (x : X) → i ≡ n → changed_at f n x i ≡ x
at-here f n i x same = ap (λ (b : Bool). one_or b x (f i)) (equal-number n i same)

pub at-other : {X : Type 0} (f : ℕ → X) (n i : ℕ) (x : X) → i ≢ n → changed_at f n x i ≡ f i
at-other f n i x other = ap (λ (b : Bool). one_or b x (f i)) (other-number n i other)

module _ (v : OwnCallers) (caller : ℕ) (its : IsItsCaller v caller) (state : OwnCaller) where
  abbrev now : OwnCallers
  now = with_caller v caller state

  inside : caller - v.first < length v.states
  inside = let from = its.from in let below = its.below in omega (arith, from, below)

  as-many : length now.states ≡ length v.states
  as-many = length-put no_caller v.states (caller - v.first) state inside

  pub still-own : (s : Dimensions) (name : ProcessId) → AreCallersOf s name v → AreCallersOf s name now
  still-own s name own = record { limits = own.limits; first = own.first; many = as-many ∙ own.many }

  pub still-its : (other : ℕ) → IsItsCaller now other → IsItsCaller v other
  still-its other is = record { from = is.from; below = let below = is.below in let many = as-many in omega (arith, below, many) }

  here : (other : ℕ) → other ≡ caller → caller_of now other ≡ state
  here other same = ap (λ (n : ℕ). caller_of now n) same ∙ at-put no_caller no_caller v.states (caller - v.first) state

  elsewhere : (other : ℕ) → IsItsCaller v other → other ≢ caller → caller_of now other ≡ caller_of v other
  elsewhere other is apart = at-put-other no_caller v.states (caller - v.first) (other - v.first) state
      (λ same. apart (let from = its.from in let low = is.from in omega (arith, from, low, same)))

  -- the group has them where it has the caller's call and position changed so
  pub has-changed : (g h : Gateways) → HasCallers g v → h.call ≡ changed_at g.call caller state.call
      → ((other : ℕ) → IsItsCaller v other → h.next other ≡ (caller_of now other).next) → HasCallers h now
  has-changed g h has calls nexts = record {
    call = λ other is. ap (λ (f : ℕ → Option OpenCall). f other) calls ∙ elim (cases_eq other caller) [
      | inl same ↦ at-here g.call caller other state.call same ∙ sym (ap (λ (c : OwnCaller). c.call) (here other same))
      | inr apart ↦ at-other g.call caller other state.call apart ∙ has.call other (still-its other is)
          ∙ sym (ap (λ (c : OwnCaller). c.call) (elsewhere other (still-its other is) apart))
    ];
    next = λ other is. nexts other (still-its other is);
  }

  pub next-changed : (g : Gateways) → HasCallers g v → (other : ℕ) → IsItsCaller v other
      → changed_at g.next caller state.next other ≡ (caller_of now other).next
  next-changed g has other is = elim (cases_eq other caller) [
    | inl same ↦ at-here g.next caller other state.next same ∙ sym (ap (λ (c : OwnCaller). c.next) (here other same))
    | inr apart ↦ at-other g.next caller other state.next apart ∙ has.next other is ∙ sym (ap (λ (c : OwnCaller). c.next) (elsewhere other is apart))
  ]

  pub next-stays : (g : Gateways) → HasCallers g v → state.next ≡ (caller_of v caller).next → (other : ℕ) → IsItsCaller v other
      → g.next other ≡ (caller_of now other).next
  next-stays g has stays other is = elim (cases_eq other caller) [
    | inl same ↦ has.next other is ∙ ap (λ (n : ℕ). (caller_of v n).next) same ∙ sym stays ∙ sym (ap (λ (c : OwnCaller). c.next) (here other same))
    | inr apart ↦ has.next other is ∙ sym (ap (λ (c : OwnCaller). c.next) (elsewhere other is apart))
  ]

-- a caller's call alone is another
module _ (v : OwnCallers) (caller : ℕ) (its : IsItsCaller v caller) (call : Option OpenCall) where
  pub call-changed : (g h : Gateways) → HasCallers g v → h.call ≡ changed_at g.call caller call → h.next ≡ g.next → HasCallers h (with_call v caller call)
  call-changed g h has calls nexts =
      let state : OwnCaller = record { call = call; next = (caller_of v caller).next } in
      has-changed v caller its state g h has calls (λ other is. ap (λ (f : ℕ → ℕ). f other) nexts ∙ next-stays v caller its state g has refl other is)

  pub call-own : (s : Dimensions) (name : ProcessId) → AreCallersOf s name v → AreCallersOf s name (with_call v caller call)
  call-own s name own = still-own v caller its (record { call = call; next = (caller_of v caller).next }) s name own
