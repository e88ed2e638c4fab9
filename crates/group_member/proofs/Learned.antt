-- A member reads a request and learns an answer, of another or of its own.
use Rattle.std.proofs.Common.{ℕ, ◌≡◌, ◌≢◌, false, List, [], ◌∷◌, ◌++◌, refl, sym, ap, subst, ◌∙◌}
use Rattle.std.specs.Prelude.{Option}
use Rattle.group_types.specs.Dimensions.{Dimensions}
use Rattle.group_types.specs.Names.{IsProcess}
use Rattle.group_types.specs.declared.process.ProcessId.{ProcessId}
use Rattle.membership.specs.Members.{knows_dead}
use Rattle.group_wire.specs.Actions.{Learn, Read}
use Rattle.group_wire.specs.May.{MayRead}
use Rattle.group_wire.specs.Serving.{call_learned, learned_first, read_first}
use Rattle.group_wire.specs.Sets.{changed, changed_at, changed_from}
use Rattle.group_wire.specs.State.{Request, Told, OpenCall, Gateways, Group}
use Rattle.group_wire.specs.Stepping.{group_after}
use Rattle.group_member.specs.Acting.{ActsWhere, AnswerComes, RequestComes}
use Rattle.group_member.specs.Callers.{IsItsCaller, caller_of}
use Rattle.group_member.specs.Standing.{HandedFrames, Member}
use Rattle.group_member.specs.Telling.{callers_learned}
use Rattle.group_member.specs.Words.{CanReadFrom}
use Rattle.group_member.proofs.Callers.{call-changed, call-own}
use Rattle.group_member.proofs.Calls.{StandsWith, at-gateways, stands-with, with-stands}
use Rattle.group_member.proofs.Reading.{changed-here}
use Rattle.group_member.proofs.Wires.{other-wire, other-wires, this-wire}

pub reads-from : (g : Group) (out : HandedFrames) (v : Member) (asked : List Request) (told : List Told)
    → StandsWith g out v asked told → (x : ProcessId) → IsProcess v.words.shape x
    → knows_dead v.words.cut x ≡ false → MayRead g x v.words.name
reads-from g out v asked told st x member uncut =
    record { here = st.here; sender = subst (λ (s : Dimensions). IsProcess s x) (sym st.shape) member; uncut = st.words.cut x ∙ uncut }

module _ (g : Group) (out : HandedFrames) (v : Member) where
  abbrev p : ProcessId
  p = v.words.name

  -- a request is read
  abbrev reading : ProcessId → Request → List Request → Gateways
  reading x r rest = record g.gateways {
    requests = changed_from g.gateways.requests x p rest;
    parked = changed g.gateways.parked p (g.gateways.parked p ++ r ∷ []);
  }

  parks : (r : Request) → g.gateways.parked p ≡ v.parked → changed g.gateways.parked p (g.gateways.parked p ++ r ∷ []) p ≡ v.parked ++ r ∷ []
  parks r is = changed-here g.gateways.parked p (g.gateways.parked p ++ r ∷ []) ∙ ap (λ (l : List Request). l ++ r ∷ []) is

  pub read-other : StandsWith g out v [] [] → (x : ProcessId) → x ≢ p → (r : Request) (rest : List Request) → g.gateways.requests x p ≡ r ∷ rest
      → StandsWith (group_after g (Read x p)) out (record v { parked = v.parked ++ r ∷ [] }) [] []
  read-other st x other r rest first =
      subst (λ (wire : List Request). StandsWith (record g { gateways = read_first x p wire g.gateways }) out
      (record v { parked = v.parked ++ r ∷ [] }) [] []) (sym first)
      (at-gateways st (reading x r rest) out.requests out.answers v.callers (v.parked ++ r ∷ []) [] [] st.own
      (record { call = st.callers.call; next = st.callers.next })
      (record {
        requests = λ q apart. other-wires g.gateways.requests x p rest p q (λ same. other (sym same)) ∙ st.requests.requests q apart;
        answers = st.requests.answers;
        parked = parks r st.requests.parked;
        own_requests = other-wires g.gateways.requests x p rest p p (λ same. other (sym same)) ∙ st.requests.own_requests;
        own_answers = st.requests.own_answers;
      }))

  pub read-own : (r : Request) → StandsWith g out v (r ∷ []) [] → StandsWith (group_after g (Read p p)) out (record v { parked = v.parked ++ r ∷ [] }) [] []
  read-own r st =
      subst (λ (wire : List Request). StandsWith (record g { gateways = read_first p p wire g.gateways }) out (record v { parked = v.parked ++ r ∷ [] }) [] [])
      (sym st.requests.own_requests)
      (at-gateways st (reading p r []) out.requests out.answers v.callers (v.parked ++ r ∷ []) [] [] st.own
      (record { call = st.callers.call; next = st.callers.next })
      (record {
        requests = λ q apart. other-wire g.gateways.requests p p [] q apart ∙ st.requests.requests q apart;
        answers = st.requests.answers;
        parked = parks r st.requests.parked;
        own_requests = this-wire g.gateways.requests p p [];
        own_answers = st.requests.own_answers;
      }))

  -- an answer is learned
  abbrev learning : ProcessId → Told → List Told → Gateways
  learning x t rest = record g.gateways {
    answers = changed_from g.gateways.answers x p rest;
    call = changed_at g.gateways.call t.caller (call_learned t (g.signs.pinged p) (g.gateways.call t.caller));
  }

  learns : (asked : List Request) (told : List Told) → StandsWith g out v asked told
      → (x : ProcessId) (t : Told) (rest : List Told) → IsItsCaller v.callers t.caller
      → (learning x t rest).call ≡ changed_at g.gateways.call t.caller (call_learned t v.signs.pinged (caller_of v.callers t.caller).call)
  learns asked told st x t rest its =
      ap (λ (n : ℕ). changed_at g.gateways.call t.caller (call_learned t n (g.gateways.call t.caller))) st.signs.pinged
      ∙ ap (λ (c : Option OpenCall). changed_at g.gateways.call t.caller (call_learned t v.signs.pinged c)) (st.callers.call t.caller its)

  pub learn-other : StandsWith g out v [] [] → (x : ProcessId) → x ≢ p → (t : Told) (rest : List Told)
      → IsItsCaller v.callers t.caller → g.gateways.answers x p ≡ t ∷ rest
      → StandsWith (group_after g (Learn x p)) out (record v { callers = callers_learned v.signs.pinged t v.callers }) [] []
  learn-other st x other t rest its first =
      let call = call_learned t v.signs.pinged (caller_of v.callers t.caller).call in
      subst (λ (wire : List Told). StandsWith (record g { gateways = learned_first x p (g.signs.pinged p) wire g.gateways }) out
      (record v { callers = callers_learned v.signs.pinged t v.callers }) [] []) (sym first)
      (at-gateways st (learning x t rest) out.requests out.answers (callers_learned v.signs.pinged t v.callers) v.parked [] []
      (call-own v.callers t.caller its call v.words.shape p st.own)
      (call-changed v.callers t.caller its call g.gateways (learning x t rest) st.callers (learns [] [] st x t rest its) refl)
      (record {
        requests = st.requests.requests;
        answers = λ q apart. other-wires g.gateways.answers x p rest p q (λ same. other (sym same)) ∙ st.requests.answers q apart;
        parked = st.requests.parked;
        own_requests = st.requests.own_requests;
        own_answers = other-wires g.gateways.answers x p rest p p (λ same. other (sym same)) ∙ st.requests.own_answers;
      }))

  pub learn-own : (t : Told) → StandsWith g out v [] (t ∷ []) → IsItsCaller v.callers t.caller
      → StandsWith (group_after g (Learn p p)) out (record v { callers = callers_learned v.signs.pinged t v.callers }) [] []
  learn-own t st its =
      let call = call_learned t v.signs.pinged (caller_of v.callers t.caller).call in
      subst (λ (wire : List Told). StandsWith (record g { gateways = learned_first p p (g.signs.pinged p) wire g.gateways }) out
      (record v { callers = callers_learned v.signs.pinged t v.callers }) [] []) (sym st.requests.own_answers)
      (at-gateways st (learning p t []) out.requests out.answers (callers_learned v.signs.pinged t v.callers) v.parked [] []
      (call-own v.callers t.caller its call v.words.shape p st.own)
      (call-changed v.callers t.caller its call g.gateways (learning p t []) st.callers (learns [] (t ∷ []) st p t [] its) refl)
      (record {
        requests = st.requests.requests;
        answers = λ q apart. other-wire g.gateways.answers p p [] q apart ∙ st.requests.answers q apart;
        parked = st.requests.parked;
        own_requests = st.requests.own_requests;
        own_answers = this-wire g.gateways.answers p p [];
      }))

  -- nothing is learned where nothing was told
  pub learn-nothing : StandsWith g out v [] [] → StandsWith (group_after g (Learn p p)) out v [] []
  learn-nothing st =
      subst (λ (wire : List Told).
      StandsWith (record g { gateways = learned_first p p (g.signs.pinged p) wire g.gateways }) out v [] [])
      (sym st.requests.own_answers)
      (at-gateways st g.gateways out.requests out.answers v.callers v.parked [] [] st.own st.callers
      (record {
        requests = st.requests.requests;
        answers = st.requests.answers;
        parked = st.requests.parked;
        own_requests = st.requests.own_requests;
        own_answers = st.requests.own_answers;
      }))

pub read-acts : (v : Member) (from : ProcessId) (r : Request) → CanReadFrom v.words from
    → ActsWhere (RequestComes from v.words.name r) (Read from v.words.name ∷ []) (λ out. out) v (record v { parked = v.parked ++ r ∷ [] })
read-acts v from r can g out st comes = record {
  may = (reads-from g out v [] [] (stands-with st) from can.member can.uncut, tt);
  stands = with-stands (read-other g out v (stands-with st) from can.other r comes.0 comes.1);
}

pub learn-acts : (v : Member) (from : ProcessId) (t : Told) → CanReadFrom v.words from → IsItsCaller v.callers t.caller
    → ActsWhere (AnswerComes from v.words.name t) (Learn from v.words.name ∷ []) (λ out. out) v
    (record v { callers = callers_learned v.signs.pinged t v.callers })
learn-acts v from t can its g out st comes = record {
  may = (reads-from g out v [] [] (stands-with st) from can.member can.uncut, tt);
  stands = with-stands (learn-other g out v (stands-with st) from can.other t comes.0 its comes.1);
}
