-- A member's calls by what its node made, in the words of the code.
use Rattle.std.proofs.Common.{ℕ, ◌≡◌, ◌||◌, Bool, true, false, [], ◌∷◌, refl, sym, ap, subst, ◌∙◌}
use Rattle.std.specs.List.{range_with_len}
use Rattle.std.specs.Prelude.{IfSome, Option, Some, None}
use Rattle.group_types.specs.Dimensions.{Dimensions}
use Rattle.group_types.specs.Hash.{home_of}
use Rattle.group_types.specs.Names.{IsProcess, same_process}
use Rattle.group_types.specs.declared.process.ProcessId.{ProcessId}
use Rattle.group_types.proofs.Names.{same-eq, same-refl}
use Rattle.memc_table.specs.Act.{key_of}
use Rattle.membership.specs.Members.{knows_dead}
use Rattle.group_calls.specs.declared.event.Answer.{Answer}
use Rattle.group_calls.specs.declared.event.Answer.TheVariants as says
use Rattle.group_run.specs.Asking.{collect_from}
use Rattle.group_run.specs.World.{NodeStep, collect_node}
use Rattle.group_wire.specs.Actions.{Collect, Learn, Treat}
use Rattle.group_wire.specs.FromWhom.{requested_by}
use Rattle.group_wire.specs.Sending.{treating}
use Rattle.group_wire.specs.Serving.{handed_to, told_of}
use Rattle.group_wire.specs.Sets.{entry_at, one_or, without_nth}
use Rattle.group_wire.specs.State.{Request, AskFor, TraceOf, Told, Unasked, Unknown, OpenCall, gateway_of}
use Rattle.group_member.specs.Acting.{Acts, ActsHanding, answer_handed}
use Rattle.group_member.specs.Callers.{AreCallersOf, IsItsCaller, caller_of, with_caller}
use Rattle.group_member.specs.Requests.{HasGateway}
use Rattle.group_member.specs.Standing.{Member, OwnWords}
use Rattle.group_member.specs.Telling.{callers_heard, callers_learned, handed_of, told_for, told_to}
use Rattle.group_member.specs.Treating.{sent_here, treat_node}
use Rattle.group_member.specs.Whole.{IsMemberWhole, IsWholeMember}
use Rattle.group_member.proofs.Acted.{ask-here-acts, collect-acts, trace-here-acts, treat-acts}
use Rattle.group_member.proofs.Callers.{call-own, still-own}
use Rattle.group_member.proofs.Numbers.{gateway-own, own-gateway, own-low}
use Rattle.group_member.proofs.Sent.{state_asked, state_traced}
use Rattle.group_member.proofs.Stepped.{HasMade, collected-node, treated-node}
use Rattle.group_member.proofs.Told.{IsOwns, listed, told-request}
use Rattle.group_member.proofs.Wholes.{at-shape, own-shape}

-- what is told of a call names its caller
abbrev pub IsTo : ℕ → Option Told → Type 0
IsTo caller told = IfSome told (λ t. t.caller ≡ caller)

pub told-caller : (caller call : ℕ) (traced : Bool) (answer : Answer) → IsTo caller (told_for caller call traced answer)
told-caller caller call traced (says.Reply reply) = refl
told-caller caller call traced (says.Ticket n) = tt
told-caller caller call traced says.NotYet = refl
told-caller caller call traced says.NoSpace = refl
told-caller caller call traced (says.Retry cause) = refl
told-caller caller call traced says.Moved = refl
told-caller caller call traced says.Lost = refl
told-caller caller call traced says.Down = refl
told-caller caller call traced says.Idle = refl
told-caller caller call traced says.Stranger = refl
told-caller caller call traced says.Done = refl
told-caller caller call traced says.AlreadyDead = refl
told-caller caller call traced says.Gone = refl
told-caller caller call traced (says.Stale n) = refl

pub told-requested : (r : Request) (answer : Answer) → IsTo (requested_by r) (told_to r answer)
told-requested (AskFor caller call op) answer = told-caller caller call false answer
told-requested (TraceOf caller call d) answer = told-caller caller call true answer

pub has-gateway : (s : Dimensions) (caller : ℕ) → HasGateway s caller → (told : Option Told) → IsTo caller told → IfSome told (λ t. HasGateway s t.caller)
has-gateway s caller has None is = tt
has-gateway s caller has (Some t) is = subst (HasGateway s) (sym is) has

-- what the member tells itself is for callers of its own, and isn't handed out
module _ (v : Member) (own : AreCallersOf v.words.shape v.words.name v.callers) (member : IsProcess v.words.shape v.words.name) where
  pub owns : (told : Option Told) → IsOwns v told
  owns None = tt
  owns (Some t) = own-gateway v.words.shape v.words.name v.callers own member t.caller

  pub own-has : (caller : ℕ) → IsItsCaller v.callers caller → HasGateway v.words.shape caller
  own-has caller its = record {
    low = own-low v.words.shape v.words.name v.callers own member caller its;
    gateway = subst (IsProcess v.words.shape) (sym (gateway-own v.words.shape v.words.name v.callers own member caller its)) member;
  }

  learned-own : (pinged : ℕ) (t : Told) (b : Bool) → (b ≡ true → IsItsCaller v.callers t.caller)
      → AreCallersOf v.words.shape v.words.name (one_or b (callers_learned pinged t v.callers) v.callers)
  learned-own pinged t true its = call-own v.callers t.caller (its refl) _ v.words.shape v.words.name own
  learned-own pinged t false its = own

  pub heard-own : (pinged : ℕ) (told : Option Told) → AreCallersOf v.words.shape v.words.name (callers_heard v.words pinged told v.callers)
  heard-own pinged None = own
  heard-own pinged (Some t) = learned-own pinged t (same_process (gateway_of v.words.shape t.caller) v.words.name)
      (λ is. owns (Some t) (same-eq (gateway_of v.words.shape t.caller) v.words.name is))

pub nothing-handed : (w : OwnWords) (caller : ℕ) → gateway_of w.shape caller ≡ w.name → (told : Option Told) → IsTo caller told → handed_of w told ≡ None
nothing-handed w caller gateway None is = refl
nothing-handed w caller gateway (Some t) is =
    let here : gateway_of w.shape t.caller ≡ w.name = ap (gateway_of w.shape) is ∙ gateway in
    let same : same_process (gateway_of w.shape t.caller) w.name ≡ true = ap (λ (p : ProcessId). same_process p w.name) here ∙ same-refl w.name in
    ap (λ (b : Bool). one_or (b || knows_dead w.cut (gateway_of w.shape t.caller)) None (Some t)) same

module _ (v : Member) (s : Dimensions) (whole : IsMemberWhole s v.words v.signs v.callers v.parked v.node) where
  at-own : IsWholeMember v.words.shape v.words v.signs v.node
  at-own = own-shape s v.words v.signs v.node whole.member

  -- what its node made of a request
  pub made-of : (r : Request) (t : NodeStep) → treat_node s r v.node ≡ t → HasMade v (treating v.words.shape r v.node.process) t
  made-of r t step = subst (HasMade v (treating v.words.shape r v.node.process))
      (ap (λ (d : Dimensions). treat_node d r v.node) (sym whole.member.shape_is) ∙ step) (treated-node v at-own r)

  tells : (r : Request) (t : NodeStep) (told : Option Told) → HasMade v (treating v.words.shape r v.node.process) t → told ≡ told_to r t.answer
      → told_of r (treating v.words.shape r v.node.process).answer ≡ listed told
  tells r t told made is = told-request r (treating v.words.shape r v.node.process).answer
      ∙ ap (λ (a : Answer). listed (told_to r a)) (sym made.answer) ∙ ap listed (sym is)

  pub treats : (place : ℕ) (r : Request) → entry_at v.parked place ≡ Some r → (t : NodeStep) → treat_node s r v.node ≡ t
      → (told : Option Told) → told ≡ told_to r t.answer
      → ActsHanding (Treat v.words.name place ∷ Learn v.words.name v.words.name ∷ []) (answer_handed v.words.shape (handed_of v.words told)) v
      (record v { callers = callers_heard v.words v.signs.pinged told v.callers; parked = without_nth v.parked place; node = t.node })
  treats place r there t step told is =
      let made = made-of r t step in
      treat-acts v place r t.node told whole.member.words there made.step (tells r t told made is) (owns v whole.own whole.member.words.member told)

  -- a member's own call is asked, or traced, at its own process
  module _ (caller : ℕ) (its : IsItsCaller v.callers caller) (o : OpenCall) (opened : (caller_of v.callers caller).call
      ≡ Some o) (t : NodeStep) (told : Option Told) where
    here : gateway_of v.words.shape caller ≡ v.words.name
    here = gateway-own v.words.shape v.words.name v.callers whole.own whole.member.words.member caller its

    pub asks-here : o.stage ≡ Unasked → treat_node s (AskFor caller (caller_of v.callers caller).next o.op) v.node ≡ t
        → told ≡ told_for caller (caller_of v.callers caller).next false t.answer
        → Acts (sent_here v caller) v (record v {
          callers = callers_heard v.words v.signs.pinged told (with_caller v.callers caller (state_asked v caller v.words.name));
          node = t.node;
        })
    asks-here unasked step is =
        let n = (caller_of v.callers caller).next in
        let r : Request = AskFor caller n o.op in
        let made = made-of r t step in
        let state = state_asked v caller v.words.name in
        ask-here-acts v caller o its opened whole.member.words unasked t.node told made.step (tells r t told made is)
        (nothing-handed v.words caller here told (subst (IsTo caller) (sym is) (told-caller caller n false t.answer)))
        (owns (record v { callers = with_caller v.callers caller state }) (still-own v.callers caller its state v.words.shape v.words.name whole.own)
        whole.member.words.member told)

    pub traces-here : o.stage ≡ Unknown → treat_node s (TraceOf caller o.position (home_of (key_of o.op.act) v.words.shape.k)) v.node ≡ t
        → told ≡ told_for caller o.position true t.answer
        → Acts (sent_here v caller) v (record v {
          callers = callers_heard v.words v.signs.pinged told (with_caller v.callers caller (state_traced v caller v.words.name));
          node = t.node;
        })
    traces-here unknown step is =
        let r : Request = TraceOf caller o.position (home_of (key_of o.op.act) v.words.shape.k) in
        let made = made-of r t step in
        let state = state_traced v caller v.words.name in
        trace-here-acts v caller o its opened whole.member.words unknown t.node told made.step (tells r t told made is)
        (nothing-handed v.words caller here told (subst (IsTo caller) (sym is) (told-caller caller o.position true t.answer)))
        (owns (record v { callers = with_caller v.callers caller state }) (still-own v.callers caller its state v.words.shape v.words.name whole.own)
        whole.member.words.member told)

  pub collected-of : (caller call : ℕ) (t : NodeStep) → collect_node s caller call v.node ≡ t
      → HasMade v (collect_from caller call v.node.process (range_with_len 0 v.words.shape.k)) t
  collected-of caller call t step = subst (HasMade v (collect_from caller call v.node.process (range_with_len 0 v.words.shape.k)))
      (ap (λ (d : Dimensions). collect_node d caller call v.node) (sym whole.member.shape_is) ∙ step) (collected-node v at-own caller call)

  -- a call is collected
  pub collects : (caller call : ℕ) → HasGateway v.words.shape caller → (t : NodeStep) → collect_node s caller call v.node ≡ t → (told : Option Told)
      → handed_to caller call t.answer ≡ listed told
      → ActsHanding (Collect caller call v.words.name ∷ Learn v.words.name v.words.name ∷ []) (answer_handed v.words.shape (handed_of v.words told)) v
      (record v { callers = callers_heard v.words v.signs.pinged told v.callers; node = t.node })
  collects caller call can t step told is =
      let made = collected-of caller call t step in
      collect-acts v caller call t.node told whole.member.words can made.step (ap (handed_to caller call) (sym made.answer) ∙ is)
      (owns v whole.own whole.member.words.member told)

  -- the member is whole after a step
  pub step-whole : (new : Dimensions) → new ≡ s → (t : NodeStep) → IsWholeMember v.words.shape v.words v.signs t.node → IsWholeMember new v.words v.signs t.node
  step-whole new same t there = at-shape s new v.words v.signs t.node same whole.member.shape_is there
