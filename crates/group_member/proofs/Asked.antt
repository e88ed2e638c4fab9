-- A call is asked of a member or traced there, a request is read, and an answer is learned: actions of a member's gateway.
use Rattle.std.proofs.Common.{ℕ, suc, ◌≡◌, Bool, true, refl, ap, ◌∙◌}
use Rattle.std.specs.Prelude.{Option, Some, None}
use Rattle.group_types.specs.Dimensions.{Dimensions}
use Rattle.group_types.specs.Hash.{home_of}
use Rattle.group_types.specs.declared.process.ProcessId.{ProcessId}
use Rattle.memc_table.specs.Act.{key_of}
use Rattle.group_wire.specs.Actions.{Send}
use Rattle.group_wire.specs.Sending.{sent_on}
use Rattle.group_wire.specs.Serving.{gateways_after, if_open, sends_by}
use Rattle.group_wire.specs.Sets.{changed_at}
use Rattle.group_wire.specs.State.{AskFor, TraceOf, Stage, Unasked, AskedOf, Unknown, TracedAt, Answered, OpenCall, Gateways, Group, gateway_of}
use Rattle.group_member.specs.Callers.{is_at, is_unasked, is_unknown}

-- the open call at such a stage
pub record IsOpenAt (such : Stage → Bool) (call : Option OpenCall) : Type 0 where
  pub opened : OpenCall
  pub is : call ≡ Some opened
  pub stage : such opened.stage ≡ true

pub open-at : (such : Stage → Bool) (call : Option OpenCall) → is_at such call ≡ true → IsOpenAt such call
open-at such None at-it = absurd (cc at-it)
open-at such (Some o) at-it = record { opened = o; is = refl; stage = at-it }

pub unasked-is : (stage : Stage) → is_unasked stage ≡ true → stage ≡ Unasked
unasked-is Unasked is = refl
unasked-is (AskedOf x) is = absurd (cc is)
unasked-is Unknown is = absurd (cc is)
unasked-is (TracedAt x) is = absurd (cc is)
unasked-is (Answered t pinged) is = absurd (cc is)

pub unknown-is : (stage : Stage) → is_unknown stage ≡ true → stage ≡ Unknown
unknown-is Unasked is = absurd (cc is)
unknown-is (AskedOf x) is = absurd (cc is)
unknown-is Unknown is = refl
unknown-is (TracedAt x) is = absurd (cc is)
unknown-is (Answered t pinged) is = absurd (cc is)

-- the gateways after a member asks for a call, and after it traces one
abbrev pub asking : Group → ℕ → ProcessId → OpenCall → ℕ → ProcessId → Gateways
asking g caller x o n q = record g.gateways {
  call = changed_at g.gateways.call caller (Some (record o { position = n; stage = AskedOf x }));
  next = changed_at g.gateways.next caller (suc n);
  requests = sent_on g.words.cut g.gateways.requests q x (AskFor caller n o.op);
}

abbrev pub tracing : Group → ℕ → ProcessId → OpenCall → Dimensions → ProcessId → Gateways
tracing g caller x o s q = record g.gateways {
  call = changed_at g.gateways.call caller (Some (record o { stage = TracedAt x }));
  requests = sent_on g.words.cut g.gateways.requests q x (TraceOf caller o.position (home_of (key_of o.op.act) s.k));
}

module _ (g : Group) (caller : ℕ) (x p : ProcessId) (o : OpenCall) (opened : g.gateways.call caller ≡ Some o) (gateway : gateway_of g.shape caller ≡ p) where
  by-stage : (stage : Stage) → o.stage ≡ stage → gateways_after g (Send caller x) ≡ sends_by g caller x o stage
  by-stage stage is =
      ap (λ (call : Option OpenCall). if_open call g.gateways (λ o. sends_by g caller x o o.stage)) opened ∙ ap (sends_by g caller x o) is

  pub sends-ask : (n : ℕ) → g.gateways.next caller ≡ n → o.stage ≡ Unasked → gateways_after g (Send caller x) ≡ asking g caller x o n p
  sends-ask n next unasked =
      by-stage Unasked unasked ∙ ap (λ (k : ℕ). asking g caller x o k (gateway_of g.shape caller)) next ∙ ap (asking g caller x o n) gateway

  pub sends-trace : (s : Dimensions) → g.shape ≡ s → o.stage ≡ Unknown → gateways_after g (Send caller x) ≡ tracing g caller x o s p
  sends-trace s shape unknown =
      by-stage Unknown unknown ∙ ap (λ (d : Dimensions). tracing g caller x o d (gateway_of g.shape caller)) shape ∙ ap (tracing g caller x o s) gateway
