-- A member sends a request, to another or to itself.
use Rattle.std.proofs.Common.{ℕ, ◌≡◌, false, List, [], ◌∷◌, ◌++◌, refl, sym, ap, subst, ◌∙◌}
use Rattle.std.specs.Prelude.{Option, Some}
use Rattle.group_types.specs.Dimensions.{Dimensions}
use Rattle.group_types.specs.Hash.{home_of}
use Rattle.group_types.specs.Names.{IsProcess}
use Rattle.group_types.specs.declared.process.ProcessId.{ProcessId}
use Rattle.memc_table.specs.Act.{key_of}
use Rattle.membership.specs.Members.{knows_dead}
use Rattle.group_wire.specs.Actions.{Send}
use Rattle.group_wire.specs.May.{MayAct}
use Rattle.group_wire.specs.Sending.{sent_on}
use Rattle.group_wire.specs.Sets.{changed_at}
use Rattle.group_wire.specs.State.{Request, AskFor, TraceOf, Told, Unasked, Unknown, TracedAt, OpenCall, Gateways, Group}
use Rattle.group_wire.specs.Stepping.{group_after}
use Rattle.group_member.specs.Acting.{behind_at, request_handed}
use Rattle.group_member.specs.Callers.{IsItsCaller, OwnCaller, asked_of, call_asked, call_staged, caller_of, with_caller}
use Rattle.group_member.specs.Standing.{HandedFrames, Member}
use Rattle.group_member.specs.Words.{CanReadFrom}
use Rattle.group_member.proofs.Asked.{asking, sends-ask, sends-trace, tracing}
use Rattle.group_member.proofs.Callers.{has-changed, next-changed, next-stays, still-own}
use Rattle.group_member.proofs.Calls.{StandsWith, at-gateways, caller-here, gateway-is}
use Rattle.group_member.proofs.Wires.{sent-elsewhere, sent-handed, sent-here}

-- gateways in which a caller goes on, and a request more is on a wire
pub record HasSent (g : Group) (v : Member) (caller : ℕ) (state : OwnCaller) (x : ProcessId) (r : Request) (h : Gateways) : Type 0 where
  pub calls : h.call ≡ changed_at g.gateways.call caller state.call
  pub nexts : (other : ℕ) → IsItsCaller v.callers other → h.next other ≡ (caller_of (with_caller v.callers caller state) other).next
  pub requests : h.requests ≡ sent_on g.words.cut g.gateways.requests v.words.name x r
  pub answers : h.answers ≡ g.gateways.answers
  pub parked : h.parked ≡ g.gateways.parked

module _ (g : Group) (out : HandedFrames) (v : Member) (st : StandsWith g out v [] []) (caller : ℕ)
    (its : IsItsCaller v.callers caller) (state : OwnCaller) (r : Request) (h : Gateways) where
  abbrev p : ProcessId
  p = v.words.name

  abbrev now : Member
  now = record v { callers = with_caller v.callers caller state }

  pub sent-to : (x : ProcessId) → CanReadFrom v.words x → HasSent g v caller state x r h
      → StandsWith (record g { gateways = h }) (request_handed x r out) now [] []
  sent-to x can has = at-gateways st h (behind_at out.requests x r) out.answers now.callers v.parked [] []
      (still-own v.callers caller its state v.words.shape p st.own)
      (has-changed v.callers caller its state g.gateways h st.callers has.calls has.nexts)
      (record {
        requests = λ q other. ap (λ (wires : ProcessId → ProcessId → List Request). wires p q) has.requests
            ∙ sent-handed g.words.cut g.gateways.requests p x r out.requests (st.words.cut x ∙ can.uncut) st.requests.requests can.other q other;
        answers = λ q other. ap (λ (wires : ProcessId → ProcessId → List Told). wires p q) has.answers ∙ st.requests.answers q other;
        parked = ap (λ (f : ProcessId → List Request). f p) has.parked ∙ st.requests.parked;
        own_requests = ap (λ (wires : ProcessId → ProcessId → List Request). wires p p) has.requests
            ∙ sent-elsewhere g.words.cut g.gateways.requests p x r p (λ same. can.other (sym same)) ∙ st.requests.own_requests;
        own_answers = ap (λ (wires : ProcessId → ProcessId → List Told). wires p p) has.answers ∙ st.requests.own_answers;
      })

  pub sent-own : knows_dead v.words.cut p ≡ false → HasSent g v caller state p r h → StandsWith (record g { gateways = h }) out now (r ∷ []) []
  sent-own lives has = at-gateways st h out.requests out.answers now.callers v.parked (r ∷ []) []
      (still-own v.callers caller its state v.words.shape p st.own)
      (has-changed v.callers caller its state g.gateways h st.callers has.calls has.nexts)
      (record {
        requests = λ q other. ap (λ (wires : ProcessId → ProcessId → List Request). wires p q) has.requests
            ∙ sent-elsewhere g.words.cut g.gateways.requests p p r q other ∙ st.requests.requests q other;
        answers = λ q other. ap (λ (wires : ProcessId → ProcessId → List Told). wires p q) has.answers ∙ st.requests.answers q other;
        parked = ap (λ (f : ProcessId → List Request). f p) has.parked ∙ st.requests.parked;
        own_requests = ap (λ (wires : ProcessId → ProcessId → List Request). wires p p) has.requests
            ∙ sent-here g.words.cut g.gateways.requests p p r (st.words.cut p ∙ lives) ∙ ap (λ (l : List Request). l ++ r ∷ []) st.requests.own_requests;
        own_answers = ap (λ (wires : ProcessId → ProcessId → List Told). wires p p) has.answers ∙ st.requests.own_answers;
      })

-- what a member's call makes of its caller
abbrev pub state_asked : Member → ℕ → ProcessId → OwnCaller
state_asked v caller x = asked_of x (caller_of v.callers caller)

abbrev pub state_traced : Member → ℕ → ProcessId → OwnCaller
state_traced v caller x = record (caller_of v.callers caller) { call = call_staged (λ _. TracedAt x) (caller_of v.callers caller).call }

module _ (g : Group) (out : HandedFrames) (v : Member) (st : StandsWith g out v [] []) (caller : ℕ) (its : IsItsCaller v.callers caller) (o : OpenCall)
    (opened : (caller_of v.callers caller).call ≡ Some o) (x : ProcessId) where
  there : g.gateways.call caller ≡ Some o
  there = st.callers.call caller its ∙ opened

  pub may-send : IsProcess v.words.shape x → MayAct g (Send caller x)
  may-send is = (caller-here st caller its, subst (λ (s : Dimensions). IsProcess s x) (sym st.shape) is)

  -- it is asked under its caller's next position
  asked : HasSent g v caller (state_asked v caller x) x (AskFor caller (caller_of v.callers caller).next o.op)
      (asking g caller x o (caller_of v.callers caller).next v.words.name)
  asked = record {
    calls = ap (λ (c : Option OpenCall). changed_at g.gateways.call caller (call_asked x (caller_of v.callers caller).next c)) (sym opened);
    nexts = next-changed v.callers caller its (state_asked v caller x) g.gateways st.callers;
    requests = refl;
    answers = refl;
    parked = refl;
  }

  pub ask-to : CanReadFrom v.words x → o.stage ≡ Unasked
      → StandsWith (group_after g (Send caller x)) (request_handed x (AskFor caller (caller_of v.callers caller).next o.op) out)
      (record v { callers = with_caller v.callers caller (state_asked v caller x) }) [] []
  ask-to can unasked =
      let n = (caller_of v.callers caller).next in
      subst (λ (h : Gateways). StandsWith (record g { gateways = h }) (request_handed x (AskFor caller n o.op) out)
      (record v { callers = with_caller v.callers caller (state_asked v caller x) }) [] [])
      (sym (sends-ask g caller x v.words.name o there (gateway-is st caller its) n (st.callers.next caller its) unasked))
      (sent-to g out v st caller its (state_asked v caller x) (AskFor caller n o.op) (asking g caller x o n v.words.name) x can asked)

  -- it is traced under the position of its last ask
  traced : (d : Dimensions) → d ≡ v.words.shape
      → HasSent g v caller (state_traced v caller x) x (TraceOf caller o.position (home_of (key_of o.op.act) d.k)) (tracing g caller x o d v.words.name)
  traced d shape = record {
    calls = ap (λ (c : Option OpenCall). changed_at g.gateways.call caller (call_staged (λ _. TracedAt x) c)) (sym opened);
    nexts = next-stays v.callers caller its (state_traced v caller x) g.gateways st.callers refl;
    requests = refl;
    answers = refl;
    parked = refl;
  }

  pub trace-to : CanReadFrom v.words x → o.stage ≡ Unknown
      → StandsWith (group_after g (Send caller x)) (request_handed x (TraceOf caller o.position (home_of (key_of o.op.act) v.words.shape.k)) out)
      (record v { callers = with_caller v.callers caller (state_traced v caller x) }) [] []
  trace-to can unknown =
      let r : Request = TraceOf caller o.position (home_of (key_of o.op.act) v.words.shape.k) in
      subst (λ (h : Gateways). StandsWith (record g { gateways = h }) (request_handed x r out)
      (record v { callers = with_caller v.callers caller (state_traced v caller x) }) [] [])
      (sym (sends-trace g caller x v.words.name o there (gateway-is st caller its) v.words.shape st.shape unknown))
      (sent-to g out v st caller its (state_traced v caller x) r (tracing g caller x o v.words.shape v.words.name) x can (traced v.words.shape refl))

-- the same at the member itself
module _ (g : Group) (out : HandedFrames) (v : Member) (st : StandsWith g out v [] []) (caller : ℕ) (its : IsItsCaller v.callers caller) (o : OpenCall)
    (opened : (caller_of v.callers caller).call ≡ Some o) (lives : knows_dead v.words.cut v.words.name ≡ false) where
  open-there : g.gateways.call caller ≡ Some o
  open-there = st.callers.call caller its ∙ opened

  pub ask-own : o.stage ≡ Unasked
      → StandsWith (group_after g (Send caller v.words.name)) out (record v { callers = with_caller v.callers caller (state_asked v caller v.words.name) })
      (AskFor caller (caller_of v.callers caller).next o.op ∷ []) []
  ask-own unasked =
      let n = (caller_of v.callers caller).next in
      let p = v.words.name in
      subst (λ (h : Gateways). StandsWith (record g { gateways = h }) out
      (record v { callers = with_caller v.callers caller (state_asked v caller p) }) (AskFor caller n o.op ∷ []) [])
      (sym (sends-ask g caller p p o open-there (gateway-is st caller its) n (st.callers.next caller its) unasked))
      (sent-own g out v st caller its (state_asked v caller p) (AskFor caller n o.op) (asking g caller p o n p) lives (asked g out v st caller its o opened p))

  pub trace-own : o.stage ≡ Unknown
      → StandsWith (group_after g (Send caller v.words.name)) out (record v { callers = with_caller v.callers caller (state_traced v caller v.words.name) })
      (TraceOf caller o.position (home_of (key_of o.op.act) v.words.shape.k) ∷ []) []
  trace-own unknown =
      let r : Request = TraceOf caller o.position (home_of (key_of o.op.act) v.words.shape.k) in
      let p = v.words.name in
      subst (λ (h : Gateways). StandsWith (record g { gateways = h }) out
      (record v { callers = with_caller v.callers caller (state_traced v caller p) }) (r ∷ []) [])
      (sym (sends-trace g caller p p o open-there (gateway-is st caller its) v.words.shape st.shape unknown))
      (sent-own g out v st caller its (state_traced v caller p) r (tracing g caller p o v.words.shape p) lives
      (traced g out v st caller its o opened p v.words.shape refl))
