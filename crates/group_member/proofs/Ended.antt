-- A call begins, is given up, is shown or is let go: actions of its member's gateway.
use Rattle.std.proofs.Common.{ℕ, ◌≡◌, ◌<◌, true, List, [], ◌∷◌, refl, sym, ap, subst, ◌∙◌}
use Rattle.std.specs.Prelude.{All, Option, Some, None}
use Rattle.group_types.specs.declared.process.ProcessId.{ProcessId}
use Rattle.memc_table.specs.Act.{act_value}
use Rattle.memc_table.specs.Asked.{Asked}
use Rattle.membership.specs.Members.{knows_dead}
use Rattle.group_wire.specs.Actions.{Begin, GiveUp, LetGo}
use Rattle.group_wire.specs.May.{call_waits_for}
use Rattle.group_wire.specs.Serving.{if_open, stage_given_up, staged}
use Rattle.group_wire.specs.Sets.{changed_at}
use Rattle.group_wire.specs.State.{Unasked, OpenCall, Request, Told, Gateways, Group}
use Rattle.group_member.specs.Acting.{Acts}
use Rattle.group_member.specs.Callers.{CanLetGo, IsFree, IsItsCaller, call_staged, caller_of, with_call}
use Rattle.group_member.specs.Showing.{CanGiveUp, is_taken}
use Rattle.group_member.specs.Standing.{HandedFrames, Member, MemberStands, OwnWords}
use Rattle.group_member.proofs.Callers.{call-changed, call-own}
use Rattle.group_member.proofs.Calls.{StandsWith, at-gateways, caller-here, gateway-is, stands-with, with-stands}

-- one of its callers has another call
pub call-stands : (g : Group) (out : HandedFrames) (v : Member) (asked : List Request) (told : List Told) → StandsWith g out v asked told → (caller : ℕ)
    → IsItsCaller v.callers caller → (call : Option OpenCall)
    → StandsWith (record g { gateways = record g.gateways { call = changed_at g.gateways.call caller call } }) out
    (record v { callers = with_call v.callers caller call }) asked told
call-stands g out v asked told st caller its call =
    let h : Gateways = record g.gateways { call = changed_at g.gateways.call caller call } in
    at-gateways st h out.requests out.answers (with_call v.callers caller call) v.parked asked told
    (call-own v.callers caller its call v.words.shape v.words.name st.own)
    (call-changed v.callers caller its call g.gateways h st.callers refl refl)
    (record {
      requests = st.requests.requests;
      answers = st.requests.answers;
      parked = st.requests.parked;
      own_requests = st.requests.own_requests;
      own_answers = st.requests.own_answers;
    })

pub begin-acts : (v : Member) (caller : ℕ) (op : Asked) → IsFree v.callers caller → All (λ b. b < 256) (act_value op.act)
    → Acts (Begin caller op ∷ []) v (record v { callers = with_call v.callers caller (Some (record { op = op; position = 0; stage = Unasked })) })
begin-acts v caller op can bytes g out st = record {
  may = ((caller-here (stands-with st) caller can.its, st.callers.call caller can.its ∙ can.free, bytes), tt);
  stands = with-stands (call-stands g out v [] [] (stands-with st) caller can.its (Some (record { op = op; position = 0; stage = Unasked })));
}

pub let-go-acts : (v : Member) (caller : ℕ) → CanLetGo v.callers caller → Acts (LetGo caller ∷ []) v (record v { callers = with_call v.callers caller None })
let-go-acts v caller can g out st = record {
  may = ((caller-here (stands-with st) caller can.its, ap call_waits_for (st.callers.call caller can.its) ∙ can.waits), tt);
  stands = with-stands (call-stands g out v [] [] (stands-with st) caller can.its None);
}

-- whom a call waits for whose death is taken
taken-one : (w : OwnWords) (x : Option ProcessId) → is_taken w x ≡ true → (y : ProcessId) × (x ≡ Some y) × (knows_dead w.taken y ≡ true)
taken-one w None is = absurd (cc is)
taken-one w (Some y) is = (y, refl, is)

-- what giving up makes of the gateways
given-up : (gateways : Gateways) (caller : ℕ) (w : OwnWords) (call : Option OpenCall) → is_taken w (call_waits_for call) ≡ true
    → if_open call gateways (λ opened. staged caller opened (stage_given_up opened.op opened.stage) gateways)
    ≡ record gateways { call = changed_at gateways.call caller (call_staged (λ o. stage_given_up o.op o.stage) call) }
given-up gateways caller w None is = absurd (cc is)
given-up gateways caller w (Some o) is = refl

pub give-up-acts : (v : Member) (caller : ℕ) → CanGiveUp v.words v.callers caller
    → Acts (GiveUp caller ∷ []) v
    (record v {
      callers = with_call v.callers caller
          (call_staged (λ o. stage_given_up o.op o.stage) (caller_of v.callers caller).call);
    })
give-up-acts v caller can g out st =
    let with = stands-with st in
    let call = (caller_of v.callers caller).call in
    let one = taken-one v.words (call_waits_for call) can.taken in
    let is = st.callers.call caller can.its in
    let now = call_staged (λ o. stage_given_up o.op o.stage) call in
    record {
      may = (
        (
          caller-here with caller can.its,
          (record {
            member = one.0;
            waits = ap call_waits_for is ∙ one.1;
            taken = ap (λ (p : ProcessId). g.words.taken p one.0) (gateway-is with caller can.its) ∙ st.words.taken one.0 ∙ one.2;
          }),
        ),
        tt,
      );
      stands = subst (λ (h : Gateways). MemberStands (record g { gateways = h }) out (record v { callers = with_call v.callers caller now }))
          (sym (ap (λ (c : Option OpenCall). if_open c g.gateways (λ opened. staged caller opened (stage_given_up opened.op opened.stage) g.gateways)) is
          ∙ given-up g.gateways caller v.words call can.taken))
          (with-stands (call-stands g out v [] [] with caller can.its now));
    }
