-- What a member's actions at its gateway leave of the group, where requests and answers may stand on its own wires.
use Rattle.std.proofs.Common.{ℕ, ◌≡◌, List, [], sym, ap, subst, ◌∙◌}
use Rattle.group_types.specs.Dimensions.{Dimensions}
use Rattle.group_types.specs.Names.{IsProcess}
use Rattle.group_types.specs.declared.process.ProcessId.{ProcessId}
use Rattle.group_wire.specs.May.{IsCaller, IsHere}
use Rattle.group_wire.specs.State.{Request, Told, Gateways, Group, gateway_of}
use Rattle.group_member.specs.Callers.{AreCallersOf, IsItsCaller, OwnCallers}
use Rattle.group_member.specs.Standing.{HandedFrames, HasCallers, HasRequests, HasSigns, HasWords, HasWorks, Member, MemberStands}
use Rattle.group_member.proofs.Numbers.{gateway-own, own-low}

-- a member stands in a group, but for what it has sent to itself and not read
pub record StandsWith (g : Group) (out : HandedFrames) (v : Member) (asked : List Request) (told : List Told) : Type 0 where
  pub shape : g.shape ≡ v.words.shape
  pub here : IsHere g v.words.name
  pub words : HasWords g.words out v.words
  pub works : HasWorks g.works out v.words v.node
  pub signs : HasSigns g.signs out v.words v.signs
  pub own : AreCallersOf v.words.shape v.words.name v.callers
  pub callers : HasCallers g.gateways v.callers
  pub requests : HasRequests g.gateways out v.words.name v.parked asked told

module _ {g : Group} {out : HandedFrames} {v : Member} where
  pub stands-with : MemberStands g out v → StandsWith g out v [] []
  stands-with st = record {
    shape = st.shape;
    here = st.here;
    words = st.words;
    works = st.works;
    signs = st.signs;
    own = st.own;
    callers = st.callers;
    requests = st.requests;
  }

  pub with-stands : StandsWith g out v [] [] → MemberStands g out v
  with-stands st = record {
    shape = st.shape;
    here = st.here;
    words = st.words;
    works = st.works;
    signs = st.signs;
    own = st.own;
    callers = st.callers;
    requests = st.requests;
  }

-- requests and answers stay where other frames are handed out
pub requests-stay : {g : Gateways} {out : HandedFrames} {name : ProcessId} {read : List Request} (now : HandedFrames)
    → now.requests ≡ out.requests → now.answers ≡ out.answers
    → HasRequests g out name read [] [] → HasRequests g now name read [] []
requests-stay now requests answers has = record {
  requests = λ q other. has.requests q other ∙ ap (λ (f : ProcessId → List Request). f q) (sym requests);
  answers = λ q other. has.answers q other ∙ ap (λ (f : ProcessId → List Told). f q) (sym answers);
  parked = has.parked;
  own_requests = has.own_requests;
  own_answers = has.own_answers;
}

-- what is at each caller, each request and each answer may be others
abbrev pub handed_calls : (ProcessId → List Request) → (ProcessId → List Told) → HandedFrames → HandedFrames
handed_calls requests answers out = record out { requests = requests; answers = answers }

abbrev pub with_calls : OwnCallers → List Request → Member → Member
with_calls callers parked v = record v { callers = callers; parked = parked }

module _ {g : Group} {out : HandedFrames} {v : Member} {asked : List Request} {told : List Told} (st : StandsWith g out v asked told) where
  pub member : IsProcess v.words.shape v.words.name
  member = subst (λ (s : Dimensions). IsProcess s v.words.name) st.shape st.here.member

  pub gateway-is : (caller : ℕ) → IsItsCaller v.callers caller → gateway_of g.shape caller ≡ v.words.name
  gateway-is caller its = ap (λ (s : Dimensions). gateway_of s caller) st.shape ∙ gateway-own v.words.shape v.words.name v.callers st.own member caller its

  pub caller-here : (caller : ℕ) → IsItsCaller v.callers caller → IsCaller g caller
  caller-here caller its = record {
    low = own-low v.words.shape v.words.name v.callers st.own member caller its;
    gateway = subst (IsHere g) (sym (gateway-is caller its)) st.here;
  }

  -- the gateways alone are others
  pub at-gateways : (h : Gateways) (requests : ProcessId → List Request) (answers : ProcessId → List Told) (callers : OwnCallers) (parked : List Request)
      (now-asked : List Request) (now-told : List Told) → AreCallersOf v.words.shape v.words.name callers → HasCallers h callers
      → HasRequests h (handed_calls requests answers out) v.words.name parked now-asked now-told
      → StandsWith (record g { gateways = h }) (handed_calls requests answers out) (with_calls callers parked v) now-asked now-told
  at-gateways h requests answers callers parked now-asked now-told own has calls = record {
    shape = st.shape;
    here = record { member = st.here.member; runs = st.here.runs };
    words = record { cut = st.words.cut; heard = st.words.heard; permitted = st.words.permitted; taken = st.words.taken; said = st.words.said };
    works = record { process = st.works.process; links = st.works.links };
    signs = record { pinged = st.signs.pinged; answered = st.signs.answered; pings = st.signs.pings; pongs = st.signs.pongs };
    own = own;
    callers = has;
    requests = calls;
  }
