-- Every action that may come keeps what gateways are told.
use Rattle.std.proofs.Common.{ℕ, suc, ◌≡◌, ◌<◌, ◌≤◌, ◌+◌, ◌⊎◌, inl, inr, Bool, true, false, List, [], ◌∷◌, ◌++◌, Option}
use Rattle.std.proofs.Common.{Some, None, refl, sym, ap, subst, arith}
use Rattle.std.proofs.lemmas.Bool.{ne_eqb}
use Rattle.std.specs.List.{range_with_len}
use Rattle.group_types.specs.Dimensions.{Dimensions}
use Rattle.group_types.specs.Each.{Each}
use Rattle.group_types.specs.Hash.{home_of}
use Rattle.group_types.specs.Names.{IsProcess}
use Rattle.group_types.specs.declared.process.ProcessId.{ProcessId}
use Rattle.memc_table.specs.Act.{key_of}
use Rattle.memc_table.specs.Asked.{Asked}
use Rattle.memc_table.specs.declared.act.Act.{Act}
use Rattle.group_calls.specs.declared.event.Answer.{Answer}
use Rattle.group_calls.specs.declared.event.Answer.TheVariants as says
use Rattle.group_calls.specs.declared.event.Event.TheVariants as event
use Rattle.group_run.specs.Asking.{collect_from}
use Rattle.group_wire.specs.Actions.{Action, Begin, Send, Read, Treat, Collect, Flush, Learn, Receive, GiveUp, Cut, Say}
use Rattle.group_wire.specs.Actions.{Hear, Permit, Take, Ping, Pong, Count, Show, LetGo, Stop}
use Rattle.group_wire.specs.Composed.{AreActions, AreActionsFrom, Composed, Made, composed, composed_from}
use Rattle.group_wire.specs.Composed.{composed_with, failures_at, made_by, opening_composed, request_event}
use Rattle.group_wire.specs.Composed.{request_made, stands_if}
use Rattle.group_wire.specs.May.{MayAct}
use Rattle.group_wire.specs.Sets.{Processes, changed, changed_at, changed_from, either, one_or, without_nth}
use Rattle.group_wire.specs.Shown.{IsOfCall, WasMade}
use Rattle.group_wire.specs.State.{Request, AskFor, TraceOf, Told, Stage, Unasked, AskedOf, Unknown, TracedAt, Answered, OpenCall, Gateways, Group, gateway_of}
use Rattle.group_wire.specs.Sending.{parked_at, sent_on, treating}
use Rattle.group_wire.specs.Serving.{again, handed_to, if_open, learned_first, read_first, request_treated, sends_by, stage_given_up, staged, tell, told_of}
use Rattle.group_wire.specs.Stepping.{answered_first, counted_first}
use Rattle.group_wire.proofs.Answering.{BegunCall, BegunStage, Learned, SolidCall, SolidStage, asked_before}
use Rattle.group_wire.proofs.Answering.{learned-begins, learned-call, learned-learns, learned-made, learned-more}
use Rattle.group_wire.proofs.Answering.{learned-requests, learned-told, made-last}
use Rattle.group_wire.proofs.Calling.{again-which}
use Rattle.group_wire.proofs.Changes.{changed-each, changed_at-each, changed_at-here, either-not}
use Rattle.group_wire.proofs.Positions.{CallFits, asked_by, asked_in}
use Rattle.group_wire.proofs.Requests.{FitsAsked, Living, each-entry, waits}
use Rattle.group_wire.proofs.Whole.{Whole, whole-opening, whole-step}

-- what a gateway is told by a member that hasn't failed
module _ (g : Group) (failed : Processes) (lived : ProcessId → ℕ) (pinged : ProcessId → ℕ) (made : List Made) (begun : ℕ → ℕ) (p : ProcessId) where
  tells : (gw : Gateways) (ts : List Told) → (Living g.shape failed p → Each (WasMade made) ts)
      → Learned g.shape failed lived pinged gw made begun → Learned g.shape failed lived pinged (tell g p ts gw) made
      begun
  tells gw [] was b = b
  tells gw (t ∷ ts) was b = tells (record gw { answers = sent_on g.words.cut gw.answers p (gateway_of g.shape t.caller) t }) ts (λ lives. (was lives).1)
      (learned-told g.shape failed lived pinged gw made begun b g.words.cut p t (λ lives. (was lives).0))

-- what is told of a request is the answer of its event
told-made : (made : List Made) (x : Made) (r : Request) (p : ProcessId) → x.event ≡ request_event r p
    → ((caller call : ℕ) (op : Asked) → r ≡ AskFor caller call op → call ≡ asked_by made caller)
    → Each (WasMade (made ++ x ∷ [])) (told_of r x.answer)
told-made made x (AskFor caller call op) p is fits = by x.answer refl where
  one : (a : Answer) → x.answer ≡ a → WasMade (made ++ x ∷ []) (record { caller = caller; call = call; traced = false; answer = a })
  one a same = made-last made x (record { caller = caller; call = call; traced = false; answer = a }) same
      (subst (λ (e : _). IsOfCall e (record { caller = caller; call = call; traced = false; answer = a })
      (asked_by made caller)) (sym is) (refl, sym (fits caller call op refl)))

  by : (a : Answer) → x.answer ≡ a → Each (WasMade (made ++ x ∷ [])) (told_of (AskFor caller call op) a)
  by (says.Ticket n) same = tt
  by (says.Reply reply) same = (one (says.Reply reply) same, tt)
  by says.NotYet same = (one says.NotYet same, tt)
  by says.NoSpace same = (one says.NoSpace same, tt)
  by (says.Retry cause) same = (one (says.Retry cause) same, tt)
  by says.Moved same = (one says.Moved same, tt)
  by says.Lost same = (one says.Lost same, tt)
  by says.Down same = (one says.Down same, tt)
  by says.Idle same = (one says.Idle same, tt)
  by says.Stranger same = (one says.Stranger same, tt)
  by says.Done same = (one says.Done same, tt)
  by says.AlreadyDead same = (one says.AlreadyDead same, tt)
  by says.Gone same = (one says.Gone same, tt)
  by (says.Stale n) same = (one (says.Stale n) same, tt)
told-made made x (TraceOf caller call d) p is fits = by x.answer refl where
  one : (a : Answer) → x.answer ≡ a → WasMade (made ++ x ∷ []) (record { caller = caller; call = call; traced = true; answer = a })
  one a same = made-last made x (record { caller = caller; call = call; traced = true; answer = a }) same
      (subst (λ (e : _). IsOfCall e (record { caller = caller; call = call; traced = true; answer = a }) (asked_by made caller)) (sym is) (refl, refl))

  by : (a : Answer) → x.answer ≡ a → Each (WasMade (made ++ x ∷ [])) (told_of (TraceOf caller call d) a)
  by (says.Ticket n) same = tt
  by (says.Reply reply) same = (one (says.Reply reply) same, tt)
  by says.NotYet same = (one says.NotYet same, tt)
  by says.NoSpace same = (one says.NoSpace same, tt)
  by (says.Retry cause) same = (one (says.Retry cause) same, tt)
  by says.Moved same = (one says.Moved same, tt)
  by says.Lost same = (one says.Lost same, tt)
  by says.Down same = (one says.Down same, tt)
  by says.Idle same = (one says.Idle same, tt)
  by says.Stranger same = (one says.Stranger same, tt)
  by says.Done same = (one says.Done same, tt)
  by says.AlreadyDead same = (one says.AlreadyDead same, tt)
  by says.Gone same = (one says.Gone same, tt)
  by (says.Stale n) same = (one (says.Stale n) same, tt)

handed-made : (made : List Made) (x : Made) (caller call : ℕ) (p : ProcessId) → x.event ≡ event.Collect caller call p
    → Each (WasMade (made ++ x ∷ [])) (handed_to caller call x.answer)
handed-made made x caller call p is = by x.answer refl where
  by : (a : Answer) → x.answer ≡ a → Each (WasMade (made ++ x ∷ [])) (handed_to caller call a)
  by (says.Reply reply) same = (
    made-last made x (record { caller = caller; call = call; traced = false; answer = says.Reply reply }) same
        (subst (λ (e : _).
        IsOfCall e (record { caller = caller; call = call; traced = false; answer = says.Reply reply })
        (asked_by made caller)) (sym is) (refl, refl)),
    tt,
  )
  by (says.Ticket n) same = tt
  by says.NotYet same = tt
  by says.NoSpace same = tt
  by (says.Retry cause) same = tt
  by says.Moved same = tt
  by says.Lost same = tt
  by says.Down same = tt
  by says.Idle same = tt
  by says.Stranger same = tt
  by says.Done same = tt
  by says.AlreadyDead same = tt
  by says.Gone same = tt
  by (says.Stale n) same = tt

abbrev pub LearnedAt : Composed → Type 0
LearnedAt c = Learned c.group.shape c.failed c.lived c.group.signs.pinged c.group.gateways c.made c.begun

module _ (c : Composed) (h : Whole c) (b : LearnedAt c) where
  -- with the events of an action, before its gateways change
  more : (made : List Made) → Learned c.group.shape c.failed c.lived c.group.signs.pinged c.group.gateways (c.made ++ made) c.begun
  more made = learned-made c.group.shape c.failed c.lived c.group.signs.pinged c.group.gateways c.made c.begun b made

  treats : (p : ProcessId) (place : ℕ) (r : Option Request) (lost : Bool) → IsProcess c.group.shape p → parked_at c.group p place ≡ r → c.failed p ≡ lost
      → Learned c.group.shape c.failed c.lived c.group.signs.pinged (request_treated c.group p place r)
      (c.made ++ stands_if lost (request_made c.group p r)) c.begun
  treats p place None true pin is lost = more []
  treats p place None false pin is lost = more []
  treats p place (Some r) true pin is lost = tells c.group c.failed c.lived c.group.signs.pinged (c.made ++ []) c.begun
      p _ (told_of r (treating c.group.shape r (c.group.works.process p)).answer) (λ lives. cc (lives.1, lost))
      (learned-requests c.group.shape c.failed c.lived c.group.signs.pinged c.group.gateways (c.made ++ []) c.begun
      (more []) c.group.gateways.requests
      (changed c.group.gateways.parked p (without_nth (c.group.gateways.parked p) place)))
  treats p place (Some r) false pin is lives =
      let x : Made = record { event = request_event r p; answer = (treating c.group.shape r (c.group.works.process p)).answer } in
      tells c.group c.failed c.lived c.group.signs.pinged (c.made ++ x ∷ []) c.begun p _
      (told_of r (treating c.group.shape r (c.group.works.process p)).answer) (λ _. told-made c.made x r p refl fits)
      (learned-requests c.group.shape c.failed c.lived c.group.signs.pinged c.group.gateways (c.made ++ x ∷ []) c.begun
      (more (x ∷ [])) c.group.gateways.requests
      (changed c.group.gateways.parked p (without_nth (c.group.gateways.parked p) place)))
    where
      fits : (caller call : ℕ) (op : Asked) → r ≡ AskFor caller call op → call ≡ asked_by c.made caller
      fits caller call op same =
          let f : FitsAsked c.group.shape (asked_in c) r = each-entry (FitsAsked c.group.shape (asked_in c))
          (c.group.gateways.parked p) place r is (h.positioned.placed.parks p (pin, lives)) in
          let g : FitsAsked c.group.shape (asked_in c) (AskFor caller call op) = subst (FitsAsked c.group.shape (asked_in c)) same f in g.1

  collects : (caller call : ℕ) (p : ProcessId) (lost : Bool) → c.failed p ≡ lost
      → Learned c.group.shape c.failed c.lived c.group.signs.pinged
      (tell c.group p
      (handed_to caller call
      (collect_from caller call (c.group.works.process p) (range_with_len 0 c.group.shape.k)).answer)
      c.group.gateways)
      (c.made ++ stands_if lost
      (record {
        event = event.Collect caller call p;
        answer = (collect_from caller call (c.group.works.process p) (range_with_len 0 c.group.shape.k)).answer;
      } ∷ []))
      c.begun
  collects caller call p true lost = tells c.group c.failed c.lived c.group.signs.pinged (c.made ++ []) c.begun p
      c.group.gateways
      (handed_to caller call
      (collect_from caller call (c.group.works.process p) (range_with_len 0 c.group.shape.k)).answer)
      (λ lives. cc (lives.1, lost)) (more [])
  collects caller call p false lives =
      let x : Made =
      record {
        event = event.Collect caller call p;
        answer = (collect_from caller call (c.group.works.process p) (range_with_len 0 c.group.shape.k)).answer;
      } in
      tells c.group c.failed c.lived c.group.signs.pinged (c.made ++ x ∷ []) c.begun p c.group.gateways
      (handed_to caller call
      (collect_from caller call (c.group.works.process p) (range_with_len 0 c.group.shape.k)).answer)
      (λ _. handed-made c.made x caller call p refl) (more (x ∷ []))

  sends : (caller : ℕ) (x : ProcessId) (call : Option OpenCall) → c.group.gateways.call caller ≡ call
      → Learned c.group.shape c.failed c.lived c.group.signs.pinged
      (if_open call c.group.gateways (λ o. sends_by c.group caller x o o.stage)) (c.made ++ []) c.begun
  sends caller x None is = more []
  sends caller x (Some o) is = by o.stage refl where
    before : ℕ
    before = asked_before (c.made ++ []) c.begun caller

    old : Learned c.group.shape c.failed c.lived c.group.signs.pinged c.group.gateways (c.made ++ []) c.begun
    old = more []

    was : (stage : Stage) → o.stage ≡ stage → c.failed (gateway_of c.group.shape caller) ≡ false
        → BegunStage (asked_before (c.made ++ []) c.begun caller) (c.group.gateways.next caller) o.position stage
    was stage same gl = subst (BegunStage (asked_before (c.made ++ []) c.begun caller) (c.group.gateways.next caller) o.position) same
        (subst (BegunCall (asked_before (c.made ++ []) c.begun caller) (c.group.gateways.next caller)) is ((more []).opened caller gl))

    by : (stage : Stage) → o.stage ≡ stage → Learned c.group.shape c.failed c.lived c.group.signs.pinged
        (sends_by c.group caller x o stage) (c.made ++ []) c.begun
    by (AskedOf y) same = more []
    by (TracedAt y) same = more []
    by (Answered t n) same = more []
    by Unknown same = learned-requests c.group.shape c.failed c.lived c.group.signs.pinged
        (record c.group.gateways {
          call = changed_at c.group.gateways.call caller
              (Some (record o { stage = TracedAt x }));
        }) (c.made ++ []) c.begun
        (learned-call c.group.shape c.failed c.lived c.group.signs.pinged c.group.gateways (c.made ++ []) c.begun
        (more []) caller (Some (record o { stage = TracedAt x })) (λ gl. was Unknown same gl) tt)
        (sent_on c.group.words.cut c.group.gateways.requests (gateway_of c.group.shape caller) x
        (TraceOf caller o.position (home_of (key_of o.op.act) c.group.shape.k))) c.group.gateways.parked
    by Unasked same = record {
      lanes = (more []).lanes;
      past = (more []).past;
      lively = (more []).lively;
      opened = changed_at-each (λ d call. c.failed (gateway_of c.group.shape d) ≡ false
          → BegunCall (asked_before (c.made ++ []) c.begun d)
          (changed_at c.group.gateways.next caller (suc (c.group.gateways.next caller)) d) call) c.group.gateways.call
          caller
          (Some (record o { position = c.group.gateways.next caller; stage = AskedOf x }))
          (λ gl. (
            was Unasked same gl,
            (let now : changed_at c.group.gateways.next caller (suc (c.group.gateways.next caller)) caller
                ≡ suc (c.group.gateways.next caller) = changed_at-here c.group.gateways.next caller
                (suc (c.group.gateways.next caller)) in omega (arith, now)),
          ))
          (λ d other gl.
          subst (λ (n : ℕ). BegunCall (asked_before (c.made ++ []) c.begun d) n (c.group.gateways.call d))
          (sym (ap (λ (e : Bool). one_or e (suc (c.group.gateways.next caller)) (c.group.gateways.next d))
          (ne_eqb d caller other))) ((more []).opened d gl));
      solid = changed_at-each (λ d call. SolidCall (c.made ++ []) c.begun (c.failed (gateway_of c.group.shape d))
          (c.lived (gateway_of c.group.shape d)) (c.group.signs.pinged (gateway_of c.group.shape d)) d call)
          c.group.gateways.call caller
          (Some (record o { position = c.group.gateways.next caller; stage = AskedOf x })) tt (λ d _. (more []).solid d);
    }

  gives-up : (caller : ℕ) (call : Option OpenCall) (made : List Made) → c.group.gateways.call caller ≡ call
      → Learned c.group.shape c.failed c.lived c.group.signs.pinged
      (if_open call c.group.gateways (λ o. staged caller o (stage_given_up o.op o.stage) c.group.gateways))
      (c.made ++ made) c.begun
  gives-up caller None made is = more made
  gives-up caller (Some o) made is = learned-call c.group.shape c.failed c.lived c.group.signs.pinged c.group.gateways
      (c.made ++ made) c.begun (more made) caller (Some (record o { stage = stage_given_up o.op o.stage }))
      (λ gl. begins o.stage (subst (BegunCall (asked_before (c.made ++ made) c.begun caller) (c.group.gateways.next caller)) is ((more made).opened caller gl)))
      (solids o.stage
      (subst (SolidCall (c.made ++ made) c.begun (c.failed (gateway_of c.group.shape caller))
      (c.lived (gateway_of c.group.shape caller)) (c.group.signs.pinged (gateway_of c.group.shape caller)) caller) is
      ((more made).solid caller)))
    where
      goes : (a : Act) → (asked_before (c.made ++ made) c.begun caller ≤ o.position)
          × (o.position ≤ c.group.gateways.next caller) → BegunStage (asked_before (c.made ++ made) c.begun caller)
          (c.group.gateways.next caller) o.position (again a)
      goes a low = by (again-which a) where
        by : (again a ≡ Unasked) ⊎ (again a ≡ Unknown) → BegunStage (asked_before (c.made ++ made) c.begun caller)
            (c.group.gateways.next caller) o.position (again a)
        by (inl is) =
            subst (BegunStage (asked_before (c.made ++ made) c.begun caller) (c.group.gateways.next caller) o.position)
            (sym is) (let one = low.0 in let two = low.1 in omega (arith, one, two))
        by (inr is) = subst (BegunStage (asked_before (c.made ++ made) c.begun caller) (c.group.gateways.next caller) o.position) (sym is) low

      begins : (stage : Stage) → BegunStage (asked_before (c.made ++ made) c.begun caller)
          (c.group.gateways.next caller) o.position stage → BegunStage (asked_before (c.made ++ made) c.begun caller)
          (c.group.gateways.next caller) o.position (stage_given_up o.op stage)
      begins Unasked low = low
      begins Unknown low = low
      begins (Answered t n) low = low
      begins (TracedAt x) low = low
      begins (AskedOf x) low = goes o.op.act low

      restarts : (a : Act) → SolidStage (c.made ++ made) c.begun (c.failed (gateway_of c.group.shape caller))
          (c.lived (gateway_of c.group.shape caller)) (c.group.signs.pinged (gateway_of c.group.shape caller)) caller
          o.position (again a)
      restarts a = by (again-which a) where
        by : (again a ≡ Unasked) ⊎ (again a ≡ Unknown)
            → SolidStage (c.made ++ made) c.begun (c.failed (gateway_of c.group.shape caller))
            (c.lived (gateway_of c.group.shape caller)) (c.group.signs.pinged (gateway_of c.group.shape caller)) caller
            o.position (again a)
        by (inl is) =
            subst (SolidStage (c.made ++ made) c.begun (c.failed (gateway_of c.group.shape caller))
            (c.lived (gateway_of c.group.shape caller)) (c.group.signs.pinged (gateway_of c.group.shape caller)) caller
            o.position) (sym is) tt
        by (inr is) =
            subst (SolidStage (c.made ++ made) c.begun (c.failed (gateway_of c.group.shape caller))
            (c.lived (gateway_of c.group.shape caller)) (c.group.signs.pinged (gateway_of c.group.shape caller)) caller
            o.position) (sym is) tt

      solids : (stage : Stage) → SolidStage (c.made ++ made) c.begun (c.failed (gateway_of c.group.shape caller))
          (c.lived (gateway_of c.group.shape caller)) (c.group.signs.pinged (gateway_of c.group.shape caller)) caller
          o.position stage
          → SolidStage (c.made ++ made) c.begun (c.failed (gateway_of c.group.shape caller))
          (c.lived (gateway_of c.group.shape caller)) (c.group.signs.pinged (gateway_of c.group.shape caller)) caller
          o.position (stage_given_up o.op stage)
      solids Unasked sol = tt
      solids Unknown sol = tt
      solids (Answered t n) sol = sol
      solids (TracedAt x) sol = tt
      solids (AskedOf x) sol = restarts o.op.act

  pub learned-step : (a : Action) → MayAct c.group a → LearnedAt (composed_with c a)
  learned-step (Begin caller op) may = begins where
    asks : c.failed (gateway_of c.group.shape caller) ≡ false → asked_by c.made caller ≤ c.group.gateways.next caller
    asks gl =
        let f : CallFits c.group.shape c.failed (waits c.group.shape c.group.words.cut c.group.gateways.requests
        c.group.gateways.parked caller) (asked_in c caller) (c.group.gateways.next caller) None =
        subst (CallFits c.group.shape c.failed (waits c.group.shape c.group.words.cut c.group.gateways.requests
        c.group.gateways.parked caller) (asked_in c caller) (c.group.gateways.next caller)) may.1
        (h.positioned.calls caller gl) in
        let same = f.0 in omega (arith, same)

    begins : LearnedAt (composed_with c (Begin caller op))
    begins = learned-made c.group.shape c.failed c.lived c.group.signs.pinged _ c.made _
        (learned-begins c.group.shape c.failed c.lived c.group.signs.pinged c.group.gateways c.made c.begun b caller op asks) []
  learned-step (Send caller x) may = sends caller x (c.group.gateways.call caller) refl
  learned-step (Read x p) may = by (c.group.gateways.requests x p) where
    by : (rs : List Request) → Learned c.group.shape c.failed c.lived c.group.signs.pinged (read_first x p rs c.group.gateways) (c.made ++ []) c.begun
    by [] = more []
    by (r ∷ rest) = learned-requests c.group.shape c.failed c.lived c.group.signs.pinged c.group.gateways (c.made ++ [])
        c.begun (more []) (changed_from c.group.gateways.requests x p rest)
        (changed c.group.gateways.parked p (c.group.gateways.parked p ++ r ∷ []))
  learned-step (Treat p place) may = treats p place (parked_at c.group p place) (c.failed p) may.member refl refl
  learned-step (Collect caller call p) may = collects caller call p (c.failed p) refl
  learned-step (Flush p) may = more (made_by c (Flush p))
  learned-step (Learn x p) may = by (c.group.gateways.answers x p) refl where
    lives : c.failed p ≡ false → Living c.group.shape c.failed x
    lives pl = (may.sender, was (c.failed x) refl) where
      was : (lost : Bool) → c.failed x ≡ lost → c.failed x ≡ false
      was false is = is
      was true is = cc (h.barred.cut p x may.here.member pl is, may.uncut)

    by : (ts : List Told) → c.group.gateways.answers x p ≡ ts
        → Learned c.group.shape c.failed c.lived c.group.signs.pinged
        (learned_first x p (c.group.signs.pinged p) ts c.group.gateways) (c.made ++ []) c.begun
    by [] is = more []
    by (t ∷ rest) is = learned-learns c.group.shape c.failed c.lived c.group.signs.pinged c.group.gateways
        (c.made ++ []) c.begun (more []) x p t rest is (theirs t rest is).0 lives where
          theirs : (t : Told) (rest : List Told) → c.group.gateways.answers x p ≡ t ∷ rest
              → Each (λ (t : Told). gateway_of c.group.shape t.caller ≡ p) (t ∷ rest)
          theirs t rest is = subst (Each (λ (t : Told). gateway_of c.group.shape t.caller ≡ p)) is (h.positioned.theirs x p)
  learned-step (Receive x p) may = more (made_by c (Receive x p))
  learned-step (GiveUp caller) may = gives-up caller (c.group.gateways.call caller) (made_by c (GiveUp caller)) refl
  learned-step (Cut x p) may = more []
  learned-step (Say p) may = more []
  learned-step (Hear x p) may = more []
  learned-step (Permit p) may = by (c.failed p) where
    later : ProcessId → ℕ
    later x = one_or (c.failed x) (c.lived x) (c.group.signs.pinged x)

    lively : (x : ProcessId) → one_or (c.failed x) (c.lived x) (c.group.signs.pinged x) ≤ c.group.signs.pinged x
    lively x = which (c.failed x) where
      which : (lost : Bool) → one_or lost (c.lived x) (c.group.signs.pinged x) ≤ c.group.signs.pinged x
      which true = b.lively x
      which false = omega arith

    was : (now : Processes) → ((x : ProcessId) → now x ≡ false → c.failed x ≡ false) → (x : ProcessId) (n : ℕ) → n ≤ c.group.signs.pinged x
        → (now x ≡ false) ⊎ (n < one_or (c.failed x) (c.lived x) (c.group.signs.pinged x)) → (c.failed x ≡ false) ⊎ (n < c.lived x)
    was now lived x n low alive = which (c.failed x) refl alive where
      which : (lost : Bool) → c.failed x ≡ lost → (now x ≡ false)
          ⊎ (n < one_or lost (c.lived x) (c.group.signs.pinged x)) → (c.failed x ≡ false) ⊎ (n < c.lived x)
      which false is alive = inl is
      which true is (inl still) = inl (lived x still)
      which true is (inr early) = inr early

    by : (lost : Bool) → Learned c.group.shape (one_or lost c.failed (either c.failed (c.group.words.cut p)))
        (λ x. one_or (c.failed x) (c.lived x) (c.group.signs.pinged x)) c.group.signs.pinged c.group.gateways
        (c.made ++ stands_if lost (failures_at c.group.shape c.failed (c.group.words.cut p) (range_with_len 0 (c.group.shape.k + c.group.shape.m)))) c.begun
    by true = learned-more c.group.shape c.failed c.lived c.group.signs.pinged c.group.gateways c.made c.begun b []
        c.failed (λ x. one_or (c.failed x) (c.lived x) (c.group.signs.pinged x)) c.group.signs.pinged (λ x is. is)
        (λ x. omega arith) (was c.failed (λ x is. is)) lively
    by false = learned-more c.group.shape c.failed c.lived c.group.signs.pinged c.group.gateways c.made c.begun b
        (failures_at c.group.shape c.failed (c.group.words.cut p)
        (range_with_len 0 (c.group.shape.k + c.group.shape.m)))
        (either c.failed (c.group.words.cut p)) (λ x. one_or (c.failed x) (c.lived x) (c.group.signs.pinged x))
        c.group.signs.pinged (λ x out. (either-not c.failed (c.group.words.cut p) x out).0) (λ x. omega arith)
        (was (either c.failed (c.group.words.cut p)) (λ x out. (either-not c.failed (c.group.words.cut p) x out).0)) lively
  learned-step (Take x p) may = more (made_by c (Take x p))
  learned-step (Ping to p) may = learned-more c.group.shape c.failed c.lived c.group.signs.pinged c.group.gateways
      c.made c.begun b [] c.failed c.lived (changed c.group.signs.pinged p (suc (c.group.signs.pinged p)))
      (λ x is. is) rises (λ x n low is. is) (λ x. let low = b.lively x in let up = rises x in omega (arith, low, up))
    where
      rises : (x : ProcessId) → c.group.signs.pinged x ≤ changed c.group.signs.pinged p (suc (c.group.signs.pinged p)) x
      rises = changed-each (λ x n. c.group.signs.pinged x ≤ n) c.group.signs.pinged p (suc (c.group.signs.pinged p)) (omega arith) (λ x _. omega arith)
  learned-step (Pong x p) may = by (c.group.signs.pings x p) where
    by : (js : List ℕ)
        → Learned c.group.shape c.failed c.lived (answered_first c.group.words.cut x p js c.group.signs).pinged
        c.group.gateways (c.made ++ []) c.begun
    by [] = more []
    by (j ∷ rest) = more []
  learned-step (Count x p) may = by (c.group.signs.pongs x p) where
    by : (js : List ℕ) → Learned c.group.shape c.failed c.lived (counted_first x p js c.group.signs).pinged c.group.gateways (c.made ++ []) c.begun
    by [] = more []
    by (j ∷ rest) = more []
  learned-step (Show caller ping) may = learned-call c.group.shape c.failed c.lived c.group.signs.pinged
      c.group.gateways (c.made ++ []) c.begun (more []) caller None (λ _. tt) tt
  learned-step (LetGo caller) may = learned-call c.group.shape c.failed c.lived c.group.signs.pinged c.group.gateways
      (c.made ++ []) c.begun (more []) caller None (λ _. tt) tt
  learned-step (Stop p) may = more []

pub learned-opening : (s : Dimensions) → LearnedAt (opening_composed s)
learned-opening s = record { lanes = λ x g xl. tt; past = λ caller. omega arith; lively = λ p. omega arith; opened = λ caller gl. tt; solid = λ caller. tt }

learned-from : (c : Composed) (actions : List Action) → AreActionsFrom c actions → Whole c → LearnedAt c → LearnedAt (composed_from c actions)
learned-from c [] run h b = b
learned-from c (a ∷ rest) run h b = learned-from (composed_with c a) rest run.1 (whole-step c h a run.0) (learned-step c h b a run.0)

pub learned : (s : Dimensions) (actions : List Action) → AreActions s actions → LearnedAt (composed s actions)
learned s actions run = learned-from (opening_composed s) actions run.1 (whole-opening s run.0) (learned-opening s)
