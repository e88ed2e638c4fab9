-- A member treats a request that it has read, and collects a call: its process makes a step, and what that tells goes to the
-- caller's gateway.
use Rattle.std.proofs.Common.{ℕ, ◌≡◌, false, List, [], sym, ap, subst, ◌∙◌}
use Rattle.std.specs.List.{range_with_len}
use Rattle.std.specs.Prelude.{Option, Some, None}
use Rattle.group_types.specs.Dimensions.{Dimensions}
use Rattle.group_types.specs.declared.process.ProcessId.{ProcessId}
use Rattle.membership.specs.Members.{knows_dead}
use Rattle.group_run.specs.Asking.{CallStep, collect_from}
use Rattle.group_run.specs.Process.{Node, Process}
use Rattle.group_wire.specs.Actions.{Collect, Treat}
use Rattle.group_wire.specs.Sending.{stepped, treating, works_treated}
use Rattle.group_wire.specs.Serving.{handed_to, request_treated, tell, told_of}
use Rattle.group_wire.specs.Sets.{changed, entry_at, without_nth}
use Rattle.group_wire.specs.State.{Request, Told, Gateways, Group, Signs, Words, Works}
use Rattle.group_wire.specs.Stepping.{group_after}
use Rattle.group_member.specs.Acting.{answer_handed}
use Rattle.group_member.specs.Callers.{OwnCallers}
use Rattle.group_member.specs.Standing.{HandedFrames, HasCallers, HasRequests, HasSigns, HasWords, HasWorks, Member, OwnSigns, OwnWords}
use Rattle.group_member.specs.Telling.{handed_of}
use Rattle.group_member.proofs.Calls.{StandsWith}
use Rattle.group_member.proofs.Reading.{changed-here}
use Rattle.group_member.proofs.Stepping.{SendsTo, stepped-works}
use Rattle.group_member.proofs.Told.{listed, own_of, told-there}

-- what a step of the process leaves of the node
pub record HasStep (v : Member) (u : CallStep) (node : Node) : Type 0 where
  pub process : u.step.process ≡ node.process
  pub sends : SendsTo v.words v.node node u.step

-- an answer that is handed out leaves all other frames
words-handed : (s : Dimensions) (t : Option Told) (g : Words) (out : HandedFrames) (w : OwnWords) → HasWords g out w → HasWords g (answer_handed s t out) w
words-handed s None g out w has = has
words-handed s (Some t) g out w has = record { cut = has.cut; heard = has.heard; permitted = has.permitted; taken = has.taken; said = has.said }

works-handed : (s : Dimensions) (t : Option Told) (g : Works) (out : HandedFrames) (w : OwnWords) (node : Node)
    → HasWorks g out w node → HasWorks g (answer_handed s t out) w node
works-handed s None g out w node has = has
works-handed s (Some t) g out w node has = record { process = has.process; links = has.links }

signs-handed : (s : Dimensions) (t : Option Told) (g : Signs) (out : HandedFrames) (w : OwnWords) (v : OwnSigns)
    → HasSigns g out w v → HasSigns g (answer_handed s t out) w v
signs-handed s None g out w v has = has
signs-handed s (Some t) g out w v has = record { pinged = has.pinged; answered = has.answered; pings = has.pings; pongs = has.pongs }

callers-told : (g : Group) (p : ProcessId) (t : Option Told) (h : Gateways) (v : OwnCallers) → HasCallers h v → HasCallers (tell g p (listed t) h) v
callers-told g p None h v has = has
callers-told g p (Some t) h v has = record { call = has.call; next = has.next }

module _ (g : Group) (out : HandedFrames) (v : Member) (st : StandsWith g out v [] [])
    (lives : knows_dead v.words.cut v.words.name ≡ false) (u : CallStep) (node : Node)
    (has : HasStep v u node) (t : Option Told) where
  abbrev p : ProcessId
  p = v.words.name

  abbrev frames : HandedFrames
  frames = answer_handed v.words.shape (handed_of v.words t) out

  -- the process has made its step, and what that tells is sent
  made-step : (h : Gateways) (parked : List Request) → HasCallers h v.callers → HasRequests h out p parked [] []
      → StandsWith (record g { works = stepped g.words.cut p u.step g.works; gateways = tell g p (listed t) h }) frames
      (record v { parked = parked; node = node }) []
      (own_of v.words t)
  made-step h parked callers requests = record {
    shape = st.shape;
    here = record { member = st.here.member; runs = st.here.runs };
    words = words-handed v.words.shape (handed_of v.words t) g.words out v.words st.words;
    works = works-handed v.words.shape (handed_of v.words t) (stepped g.words.cut p u.step g.works) out v.words node
        (stepped-works g.words.cut g.works out v.words v.node node u.step st.words.cut st.works has.process has.sends);
    signs = signs-handed v.words.shape (handed_of v.words t) g.signs out v.words v.signs st.signs;
    own = st.own;
    callers = callers-told g p t h v.callers callers;
    requests = told-there g out v.words st.shape st.words.cut lives h parked requests t;
  }

  -- a request that was read is treated
  pub treated-at : (place : ℕ) (r : Request) → entry_at v.parked place ≡ Some r → u ≡ treating v.words.shape r v.node.process → told_of r u.answer ≡ listed t
      → StandsWith (group_after g (Treat p place)) frames (record v { parked = without_nth v.parked place; node = node }) [] (own_of v.words t)
  treated-at place r there made tells =
      let after : Member = record v { parked = without_nth v.parked place; node = node } in
      let h : Gateways = record g.gateways { parked = changed g.gateways.parked p (without_nth (g.gateways.parked p) place) } in
      let step : treating g.shape r (g.works.process p) ≡ u =
      ap (λ (s : Dimensions). treating s r (g.works.process p)) st.shape ∙ ap (treating v.words.shape r) st.works.process ∙ sym made in
      subst (λ (o : Option Request).
      StandsWith (record g {
        works = works_treated g.shape g.words.cut p o g.works;
        gateways = request_treated g p place o;
      }) frames after [] (own_of v.words t))
      (sym (ap (λ (rs : List Request). entry_at rs place) st.requests.parked ∙ there))
      (subst (λ (c : CallStep).
      StandsWith (record g {
        works = stepped g.words.cut p c.step g.works;
        gateways = tell g p (told_of r c.answer) h;
      }) frames after [] (own_of v.words t))
      (sym step)
      (subst (λ (ts : List Told).
      StandsWith (record g { works = stepped g.words.cut p u.step g.works; gateways = tell g p ts h }) frames after []
      (own_of v.words t)) (sym tells)
      (made-step h (without_nth v.parked place) (record { call = st.callers.call; next = st.callers.next })
      (record {
        requests = st.requests.requests;
        answers = st.requests.answers;
        parked = changed-here g.gateways.parked p (without_nth (g.gateways.parked p) place) ∙ ap
            (λ (rs : List Request). without_nth rs place) st.requests.parked;
        own_requests = st.requests.own_requests;
        own_answers = st.requests.own_answers;
      }))))

  -- a call is collected
  pub collected : (caller call : ℕ) → u ≡ collect_from caller call v.node.process (range_with_len 0 v.words.shape.k) → handed_to caller call u.answer ≡ listed t
      → StandsWith (group_after g (Collect caller call p)) frames (record v { node = node }) [] (own_of v.words t)
  collected caller call made tells =
      let after : Member = record v { node = node } in
      let step : collect_from caller call (g.works.process p) (range_with_len 0 g.shape.k) ≡ u =
      ap (λ (s : Dimensions). collect_from caller call (g.works.process p) (range_with_len 0 s.k)) st.shape
      ∙ ap (λ (q : Process). collect_from caller call q (range_with_len 0 v.words.shape.k)) st.works.process ∙ sym made in
      subst (λ (c : CallStep).
      StandsWith (record g {
        works = stepped g.words.cut p c.step g.works;
        gateways = tell g p (handed_to caller call c.answer) g.gateways;
      }) frames after []
      (own_of v.words t)) (sym step)
      (subst (λ (ts : List Told).
      StandsWith (record g { works = stepped g.words.cut p u.step g.works; gateways = tell g p ts g.gateways }) frames
      after [] (own_of v.words t)) (sym tells)
      (made-step g.gateways v.parked st.callers
      (record {
        requests = st.requests.requests;
        answers = st.requests.answers;
        parked = st.requests.parked;
        own_requests = st.requests.own_requests;
        own_answers = st.requests.own_answers;
      })))
