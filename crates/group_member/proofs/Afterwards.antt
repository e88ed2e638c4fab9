-- A member's calls by what the code has afterwards.
use Rattle.std.proofs.Common.{ℕ, ◌≡◌, true, false, List, [], ◌∷◌, sym, ap, subst, ◌∙◌}
use Rattle.std.specs.List.{remove}
use Rattle.std.specs.Prelude.{All, Option, Some}
use Rattle.group_types.specs.Dimensions.{Dimensions}
use Rattle.group_types.specs.Hash.{home_of}
use Rattle.memc_table.specs.Act.{key_of}
use Rattle.group_run.specs.World.{NodeStep, collect_node}
use Rattle.group_wire.specs.Actions.{Collect, Learn, Treat}
use Rattle.group_wire.specs.Serving.{handed_to}
use Rattle.group_wire.specs.Sets.{entry_at, without_nth}
use Rattle.group_wire.specs.State.{Request, AskFor, TraceOf, Told}
use Rattle.group_member.specs.Acting.{Acts, ActsHanding, answer_handed}
use Rattle.group_member.specs.Callers.{AreCallersOf, CanBeAsked, CanBeTraced, IsItsCaller, OwnCaller, OwnCallers}
use Rattle.group_member.specs.Callers.{ask_for, ask_of, caller_of, is_unasked, is_unknown, trace_of, with_caller}
use Rattle.group_member.specs.Requests.{HasGateway, IsTreatable}
use Rattle.group_member.specs.Standing.{Member}
use Rattle.group_member.specs.Telling.{callers_heard, handed_of, told_for, told_to}
use Rattle.group_member.specs.Treating.{sent_here, settled_at_request, treat_node}
use Rattle.group_member.specs.Whole.{IsMemberWhole}
use Rattle.group_member.proofs.Asked.{open-at, unasked-is, unknown-is}
use Rattle.group_member.proofs.Callers.{still-own}
use Rattle.group_member.proofs.Parked.{all-without, remove-is}
use Rattle.group_member.proofs.Sent.{state_asked, state_traced}
use Rattle.group_member.proofs.Told.{listed}
use Rattle.group_member.proofs.Here.{asks-here, collected-of, collects, heard-own, made-of, step-whole, traces-here, treats}

-- a request that was treated, or a call that was collected
module _ (v : Member) (s : Dimensions) (whole : IsMemberWhole s v.words v.signs v.callers v.parked v.node) (t : NodeStep)
    (told handed : Option Told) (pinged : ℕ) (callers : OwnCallers)
    (number : pinged ≡ v.signs.pinged) (heard : callers ≡ callers_heard v.words pinged told v.callers) (on : handed ≡ handed_of v.words told) where
  heard-is : callers_heard v.words v.signs.pinged told v.callers ≡ callers
  heard-is = ap (λ (n : ℕ). callers_heard v.words n told v.callers) (sym number) ∙ sym heard

  pub treats-as : (place : ℕ) (r : Request) → entry_at v.parked place ≡ Some r → treat_node s r v.node ≡ t → told ≡ told_to r t.answer → (parked : List Request)
      → parked ≡ remove v.parked place
      → ActsHanding (Treat v.words.name place ∷ Learn v.words.name v.words.name ∷ []) (answer_handed v.words.shape handed) v
      (record v { callers = callers; parked = parked; node = t.node })
  treats-as place r there step is parked out =
      subst (λ (h : Option Told). ActsHanding (Treat v.words.name place ∷ Learn v.words.name v.words.name ∷ []) (answer_handed v.words.shape h) v
      (record v { callers = callers; parked = parked; node = t.node })) (sym on)
      (subst (λ (rs : List Request). ActsHanding (Treat v.words.name place ∷ Learn v.words.name v.words.name ∷ [])
      (answer_handed v.words.shape (handed_of v.words told)) v
      (record v { callers = callers; parked = rs; node = t.node })) (sym (out ∙ remove-is v.parked place))
      (subst (λ (c : OwnCallers). ActsHanding (Treat v.words.name place ∷ Learn v.words.name v.words.name ∷ [])
      (answer_handed v.words.shape (handed_of v.words told)) v
      (record v { callers = c; parked = without_nth v.parked place; node = t.node })) heard-is
      (treats v s whole place r there t step told is)))

  pub treats-whole : (new : Dimensions) → new ≡ s → (place : ℕ) (r : Request) → treat_node s r v.node ≡ t
      → (parked : List Request) → parked ≡ remove v.parked place
      → IsMemberWhole new v.words v.signs callers parked t.node
  treats-whole new same place r step parked out = record {
    member = step-whole v s whole new same t (made-of v s whole r t step).whole;
    own = subst (AreCallersOf v.words.shape v.words.name) heard-is (heard-own v whole.own whole.member.words.member v.signs.pinged told);
    fit = subst (All (IsTreatable v.words.shape)) (sym (out ∙ remove-is v.parked place)) (all-without (IsTreatable v.words.shape) v.parked place whole.fit);
  }

  pub collects-as : (caller call : ℕ) → HasGateway v.words.shape caller → collect_node s caller call v.node ≡ t → handed_to caller call t.answer ≡ listed told
      → ActsHanding (Collect caller call v.words.name ∷ Learn v.words.name v.words.name ∷ []) (answer_handed v.words.shape handed) v
      (record v { callers = callers; node = t.node })
  collects-as caller call can step is =
      subst (λ (h : Option Told). ActsHanding (Collect caller call v.words.name ∷ Learn v.words.name v.words.name ∷ []) (answer_handed v.words.shape h) v
      (record v { callers = callers; node = t.node })) (sym on)
      (subst (λ (c : OwnCallers). ActsHanding (Collect caller call v.words.name ∷ Learn v.words.name v.words.name ∷ [])
      (answer_handed v.words.shape (handed_of v.words told)) v
      (record v { callers = c; node = t.node })) heard-is (collects v s whole caller call can t step told is))

  pub collects-whole : (new : Dimensions) → new ≡ s → (caller call : ℕ) → collect_node s caller call v.node ≡ t
      → IsMemberWhole new v.words v.signs callers v.parked t.node
  collects-whole new same caller call step = record {
    member = step-whole v s whole new same t (collected-of v s whole caller call t step).whole;
    own = subst (AreCallersOf v.words.shape v.words.name) heard-is (heard-own v whole.own whole.member.words.member v.signs.pinged told);
    fit = whole.fit;
  }

-- and of a call of its own
module _ (v : Member) (s : Dimensions) (whole : IsMemberWhole s v.words v.signs v.callers v.parked v.node) (caller : ℕ)
    (t : NodeStep) (told : Option Told) (pinged : ℕ)
    (before after : OwnCallers) (number : pinged ≡ v.signs.pinged) (heard : after ≡ callers_heard v.words pinged told before) where
  after-is : (between : OwnCallers) → before ≡ between → callers_heard v.words v.signs.pinged told between ≡ after
  after-is between is = ap (λ (c : OwnCallers). callers_heard v.words v.signs.pinged told c) (sym is)
      ∙ ap (λ (n : ℕ). callers_heard v.words n told before) (sym number) ∙ sym heard

  pub asks-as : CanBeAsked v.callers caller → before ≡ with_caller v.callers caller (state_asked v caller v.words.name)
      → ((r : Request) → ask_of v.callers caller ≡ Some r → treat_node s r v.node ≡ t) → told ≡ told_for caller (caller_of v.callers caller).next false t.answer
      → Acts (sent_here v caller) v (record v { callers = after; node = t.node })
  asks-as can is step tells =
      let one = open-at is_unasked (caller_of v.callers caller).call can.unasked in
      let n = (caller_of v.callers caller).next in
      subst (λ (c : OwnCallers). Acts (sent_here v caller) v (record v { callers = c; node = t.node }))
      (after-is (with_caller v.callers caller (state_asked v caller v.words.name)) is)
      (asks-here v s whole caller can.its one.opened one.is t told (unasked-is one.opened.stage one.stage)
      (step (AskFor caller n one.opened.op) (ap (ask_for caller n) one.is)) tells)

  pub traces-as : CanBeTraced v.callers caller → before ≡ with_caller v.callers caller (state_traced v caller v.words.name) → (call d : ℕ)
      → Some (TraceOf caller call d) ≡ trace_of v.words.shape.k caller (caller_of v.callers caller).call → treat_node s (TraceOf caller call d) v.node ≡ t
      → told ≡ told_for caller call true t.answer → Acts (sent_here v caller) v (record v { callers = after; node = t.node })
  traces-as can is call d place step tells =
      let one = open-at is_unknown (caller_of v.callers caller).call can.unknown in
      let o = one.opened in
      let r : TraceOf caller call d ≡ TraceOf caller o.position (home_of (key_of o.op.act) v.words.shape.k) =
      cc (place, ap (trace_of v.words.shape.k caller) one.is) in
      let same : call ≡ o.position = cc r in
      subst (λ (c : OwnCallers). Acts (sent_here v caller) v (record v { callers = c; node = t.node }))
      (after-is (with_caller v.callers caller (state_traced v caller v.words.name)) is)
      (traces-here v s whole caller can.its o one.is t told (unknown-is o.stage one.stage)
      (subst (λ (q : Request). treat_node s q v.node ≡ t) r step) (subst (λ (n : ℕ). told ≡ told_for caller n true t.answer) same tells))

  -- the member is whole afterwards
  pub own-whole : IsItsCaller v.callers caller → (state : OwnCaller) → before ≡ with_caller v.callers caller state → (new : Dimensions) → new ≡ s
      → (r : Request) → treat_node s r v.node ≡ t → IsMemberWhole new v.words v.signs after v.parked t.node
  own-whole its state is new same r step =
      let between = with_caller v.callers caller state in
      record {
        member = step-whole v s whole new same t (made-of v s whole r t step).whole;
        own = subst (AreCallersOf v.words.shape v.words.name) (after-is between is)
            (heard-own (record v { callers = between }) (still-own v.callers caller its state v.words.shape v.words.name
            whole.own) whole.member.words.member v.signs.pinged told);
        fit = whole.fit;
      }

  pub asks-whole : CanBeAsked v.callers caller → before ≡ with_caller v.callers caller (state_asked v caller v.words.name) → (new : Dimensions) → new ≡ s
      → ((r : Request) → ask_of v.callers caller ≡ Some r → treat_node s r v.node ≡ t) → IsMemberWhole new v.words v.signs after v.parked t.node
  asks-whole can is new same step =
      let one = open-at is_unasked (caller_of v.callers caller).call can.unasked in
      let n = (caller_of v.callers caller).next in
      let r : Request = AskFor caller n one.opened.op in
      own-whole can.its (state_asked v caller v.words.name) is new same r (step r (ap (ask_for caller n) one.is))

  pub asks-settled : CanBeAsked v.callers caller → ((r : Request) → ask_of v.callers caller ≡ Some r → treat_node s r v.node ≡ t)
      → t.settled ≡ settled_at_request v.words.shape v.node.process (ask_of v.callers caller)
  asks-settled can step =
      let one = open-at is_unasked (caller_of v.callers caller).call can.unasked in
      let n = (caller_of v.callers caller).next in
      let r : Request = AskFor caller n one.opened.op in
      let is : ask_of v.callers caller ≡ Some r = ap (ask_for caller n) one.is in
      (made-of v s whole r t (step r is)).settled ∙ ap (settled_at_request v.words.shape v.node.process) (sym is)
