-- What is shown to a client is the reply to what it asked.
use Rattle.std.proofs.Common.{ℕ, ◌≡◌, ◌<◌, ◌≤◌, ◌+◌, ◌⊎◌, inl, inr, nat_le, Bool, true, false, List, [], ◌∷◌, ◌++◌}
use Rattle.std.proofs.Common.{Option, Some, None, IfSome, refl, sym, ap, subst, ◌∙◌, arith}
use Rattle.std.proofs.lemmas.Bool.{ne_eqb}
use Rattle.std.specs.List.{range_with_len}
use Rattle.group_types.specs.Dimensions.{Dimensions}
use Rattle.group_types.specs.Each.{Each}
use Rattle.group_types.specs.Hash.{home_of}
use Rattle.group_types.specs.Names.{IsProcess}
use Rattle.group_types.specs.declared.process.ProcessId.{ProcessId}
use Rattle.memc_table.specs.Act.{key_of}
use Rattle.memc_table.specs.Asked.{Asked}
use Rattle.group_message.specs.declared.message.Message.{Message}
use Rattle.group_calls.specs.declared.event.Answer.TheVariants as says
use Rattle.group_calls.specs.declared.event.Event.{Event}
use Rattle.group_calls.specs.declared.event.Event.TheVariants as event
use Rattle.group_run.specs.Asking.{collect_from}
use Rattle.group_run.specs.Heading.{partition}
use Rattle.group_wire.specs.Actions.{Action, Begin, Send, Read, Treat, Collect, Flush, Learn, Receive, GiveUp, Cut, Say}
use Rattle.group_wire.specs.Actions.{Hear, Permit, Take, Ping, Pong, Count, Show, LetGo, Stop}
use Rattle.group_run.specs.Causes.{asks_among}
use Rattle.group_wire.specs.Composed.{Composed, Made, call_given_up, composed_with, events_of, failures_at}
use Rattle.group_wire.specs.Composed.{given_up, lost_ask, made_by, message_made, opening_composed, request_made}
use Rattle.group_wire.specs.Composed.{stands_if}
use Rattle.group_wire.specs.May.{MayAct}
use Rattle.group_wire.specs.Sets.{Processes, changed, changed_at, changed_from, either, one_or, with_one, without_nth}
use Rattle.group_wire.specs.State.{Request, AskFor, TraceOf, Told, Stage, Unasked, AskedOf, Unknown, TracedAt, Answered, OpenCall, Gateways, Group, gateway_of}
use Rattle.group_wire.specs.Sending.{heard_first, parked_at, sent_on, treating, words_after}
use Rattle.group_wire.specs.Serving.{call_learned, handed_to, if_open, learned_first, read_first, request_treated}
use Rattle.group_wire.specs.Serving.{sends_by, stage_given_up, staged, tell, told_of}
use Rattle.group_wire.proofs.Answering.{SolidCall, SolidStage}
use Rattle.group_wire.proofs.Changes.{changed-each, changed_at-each, changed_at-here, either-not, grown-set}
use Rattle.group_wire.proofs.Placing.{failures-quiet, quiet-if, quiet-none}
use Rattle.group_wire.proofs.Positions.{CallFits, StageFits, asked_by, asked_in, asks-made, asks-quiet}
use Rattle.group_wire.proofs.Requests.{Living, each-entry, lane-none, park-none, waits}
use Rattle.group_wire.proofs.Telling.{LearnedAt}
use Rattle.group_wire.proofs.Wanting.{AskIs, Right, Rights, ask-none, ask-one, op_of, rights-as, rights-cut}
use Rattle.group_wire.proofs.Wanting.{rights-fail, rights-new, rights-none, rights-read, rights-sent, rights-taken}
use Rattle.group_wire.proofs.Wanting.{wants}
use Rattle.group_wire.proofs.Wants.{AskCall, AskStage, FirmCall, asks-call, asks-call-learned, asks-given-up, asks-stay}
use Rattle.group_wire.proofs.Wants.{firm-call, firm-call-learned, firm-given-up, op-learned}
use Rattle.group_wire.proofs.Whole.{Whole}

-- what holds of what clients asked
pub record Wanted (s : Dimensions) (cut : ProcessId → Processes) (failed : Processes) (lived : ProcessId → ℕ) (gw : Gateways) (made : List Made) : Type 0 where
  pub rights : Rights s cut failed gw.requests gw.parked (wants gw)
  pub asks : (caller : ℕ) → failed (gateway_of s caller) ≡ false → AskCall made caller (gw.call caller)
  pub firm : (caller : ℕ) → FirmCall made caller (failed (gateway_of s caller)) (lived (gateway_of s caller)) (gw.call caller)

abbrev pub WantedAt : Composed → Type 0
WantedAt c = Wanted c.group.shape c.group.words.cut c.failed c.lived c.group.gateways c.made

-- the same call or another, with what it wants
module _ (s : Dimensions) (cut : ProcessId → Processes) (failed : Processes) (lived : ProcessId → ℕ) (gw : Gateways)
    (made : List Made) (b : Wanted s cut failed lived gw made) where
  pub wanted-call : (caller : ℕ) (now : Option OpenCall) → op_of now ≡ op_of (gw.call caller) → (failed (gateway_of s caller) ≡ false → AskCall made caller now)
      → FirmCall made caller (failed (gateway_of s caller)) (lived (gateway_of s caller)) now
      → Wanted s cut failed lived (record gw { call = changed_at gw.call caller now }) made
  wanted-call caller now same asks firm = record {
    rights = rights-as s cut failed gw.requests gw.parked (wants gw) b.rights (λ c. op_of (changed_at gw.call caller now c))
        (changed_at-each (λ c call. op_of (gw.call c) ≡ op_of call) gw.call caller now (sym same) (λ c _. refl));
    asks = changed_at-each (λ c call. failed (gateway_of s c) ≡ false → AskCall made c call) gw.call caller now asks (λ c _. b.asks c);
    firm = changed_at-each (λ c call. FirmCall made c (failed (gateway_of s c)) (lived (gateway_of s c)) call) gw.call caller now firm (λ c _. b.firm c);
  }

  -- answers go elsewhere
  pub wanted-answers : (answers : ProcessId → ProcessId → List Told) → Wanted s cut failed lived (record gw { answers = answers }) made
  wanted-answers answers = record { rights = b.rights; asks = b.asks; firm = b.firm }

wanted-tell : (g : Group) (failed : Processes) (lived : ProcessId → ℕ) (gw : Gateways) (made : List Made)
    (p : ProcessId) (ts : List Told) → Wanted g.shape g.words.cut failed lived gw made
    → Wanted g.shape g.words.cut failed lived (tell g p ts gw) made
wanted-tell g failed lived gw made p [] b = b
wanted-tell g failed lived gw made p (t ∷ ts) b =
    wanted-tell g failed lived
    (record gw { answers = sent_on g.words.cut gw.answers p (gateway_of g.shape t.caller) t }) made p ts
    (wanted-answers g.shape g.words.cut failed lived gw made b (sent_on g.words.cut gw.answers p (gateway_of g.shape t.caller) t))

module _ (c : Composed) (h : Whole c) (l : LearnedAt c) (b : WantedAt c) where
  -- whoever counts as living now, by the pings that it had sent, did before
  pub was : (now : Processes) (later : ProcessId → ℕ)
      → ((g : ProcessId) (n : ℕ) → n ≤ c.group.signs.pinged g → (now g ≡ false) ⊎ (n < later g) → (c.failed g ≡ false)
      ⊎ (n < c.lived g))
      → (caller : ℕ) (o : OpenCall) (t : Told) (n : ℕ) → c.group.gateways.call caller ≡ Some o → o.stage ≡ Answered t n
      → (now (gateway_of c.group.shape caller) ≡ false) ⊎ (n < later (gateway_of c.group.shape caller))
      → (c.failed (gateway_of c.group.shape caller) ≡ false) ⊎ (n < c.lived (gateway_of c.group.shape caller))
  was now later alive caller o t n call stage which = alive (gateway_of c.group.shape caller) n sol.0 which where
    sol : SolidStage c.made c.begun (c.failed (gateway_of c.group.shape caller))
        (c.lived (gateway_of c.group.shape caller)) (c.group.signs.pinged (gateway_of c.group.shape caller)) caller
        o.position (Answered t n)
    sol = subst (SolidStage c.made c.begun (c.failed (gateway_of c.group.shape caller))
        (c.lived (gateway_of c.group.shape caller)) (c.group.signs.pinged (gateway_of c.group.shape caller)) caller
        o.position) stage
        (subst (SolidCall c.made c.begun (c.failed (gateway_of c.group.shape caller))
        (c.lived (gateway_of c.group.shape caller)) (c.group.signs.pinged (gateway_of c.group.shape caller)) caller)
        call (l.solid caller))

  -- more events, of which those that ask are right
  grows : (more : List Made) (now : Processes) (later : ProcessId → ℕ) → ((x : ProcessId) → now x ≡ false → c.failed x ≡ false)
      → ((g : ProcessId) (n : ℕ) → n ≤ c.group.signs.pinged g → (now g ≡ false) ⊎ (n < later g) → (c.failed g ≡ false) ⊎ (n < c.lived g))
      → ((caller : ℕ) (o : OpenCall) (x : ProcessId) → c.failed (gateway_of c.group.shape caller) ≡ false
      → c.group.gateways.call caller ≡ Some o → o.stage ≡ AskedOf x → asked_by c.made caller ≡ o.position
      → AskIs (c.made ++ more) caller o.position o.op)
      → Wanted c.group.shape c.group.words.cut now later c.group.gateways (c.made ++ more)
  grows more now later lives alive right = record {
    rights = rights-fail c.group.shape c.group.words.cut c.failed c.group.gateways.requests c.group.gateways.parked (wants c.group.gateways) b.rights now lives;
    asks = λ caller gl. asks-call c.group.shape c.failed
        (waits c.group.shape c.group.words.cut c.group.gateways.requests c.group.gateways.parked caller) c.made more
        caller (c.group.gateways.next caller) (c.group.gateways.call caller)
        (h.positioned.calls caller (lives (gateway_of c.group.shape caller) gl))
        (λ o x call stage same. right caller o x (lives (gateway_of c.group.shape caller) gl) call stage same)
        (b.asks caller (lives (gateway_of c.group.shape caller) gl));
    firm = λ caller. firm-call c.made more caller (c.failed (gateway_of c.group.shape caller))
        (now (gateway_of c.group.shape caller)) (c.lived (gateway_of c.group.shape caller))
        (later (gateway_of c.group.shape caller)) (c.group.gateways.call caller)
        (λ o t n call stage which. was now later alive caller o t n call stage which) (b.firm caller);
  }

  quiet : (more : List Made) → asked_by c.made ≡ asked_by (c.made ++ more)
      → Wanted c.group.shape c.group.words.cut c.failed c.lived c.group.gateways (c.made ++ more)
  quiet more same = grows more c.failed c.lived (λ x is. is) (λ g n low which. which)
      (λ caller o x gl call stage at. asks-stay c.made more caller o.position o.op same at)

  still : Wanted c.group.shape c.group.words.cut c.failed c.lived c.group.gateways (c.made ++ [])
  still = quiet [] (quiet-none c.made)

  -- one event, which asks for a call's op, if it asks
  one : (x : Made)
      → ((caller : ℕ) (o : OpenCall) (y : ProcessId) (other : Asked) (p : ProcessId)
      → c.failed (gateway_of c.group.shape caller) ≡ false → c.group.gateways.call caller ≡ Some o → o.stage ≡ AskedOf y
      → x.event ≡ event.Ask caller other p → other ≡ o.op)
      → Wanted c.group.shape c.group.words.cut c.failed c.lived c.group.gateways (c.made ++ x ∷ [])
  one x right = grows (x ∷ []) c.failed c.lived (λ x is. is) (λ g n low which. which)
      (λ caller o y gl call stage at. ask-one c.made x caller o.position o.op at (λ other p is. right caller o y other p gl call stage is))

  treats : (p : ProcessId) (place : ℕ) (r : Option Request) (lost : Bool) → IsProcess c.group.shape p → parked_at c.group p place ≡ r → c.failed p ≡ lost
      → Wanted c.group.shape c.group.words.cut c.failed c.lived (request_treated c.group p place r) (c.made ++ stands_if lost (request_made c.group p r))
  treats p place None true pin is lost = still
  treats p place None false pin is lost = still
  treats p place (Some r) lost pin is fails =
      wanted-tell c.group c.failed c.lived
      (record c.group.gateways {
        parked = changed c.group.gateways.parked p
            (without_nth (c.group.gateways.parked p) place);
      }) (c.made ++ stands_if lost (request_made c.group p (Some r))) p
      (told_of r (treating c.group.shape r (c.group.works.process p)).answer)
      (record {
        rights = rights-taken c.group.shape c.group.words.cut c.failed c.group.gateways.requests c.group.gateways.parked
            (wants c.group.gateways) base.rights p place;
        asks = base.asks;
        firm = base.firm;
      })
    where
      event-of : (r : Request) → parked_at c.group p place ≡ Some r → c.failed p ≡ false
          → Wanted c.group.shape c.group.words.cut c.failed c.lived c.group.gateways
          (c.made ++ request_made c.group p (Some r))
      event-of (TraceOf caller call d) is lives =
          one (record {
            event = event.Trace caller call (partition d) p;
            answer = (treating c.group.shape (TraceOf caller call d) (c.group.works.process p)).answer;
          })
          (λ who o y other q gl open_call stage same. cc same)
      event-of (AskFor caller call op) is lives =
          one (record {
            event = event.Ask caller op p;
            answer = (treating c.group.shape (AskFor caller call op) (c.group.works.process p)).answer;
          })
          (λ who o y other q gl open_call stage same. by who o other gl open_call (asker-of same) (op-same same))
        where
          asker-of : {who : ℕ} {other : Asked} {q : ProcessId} → event.Ask caller op p ≡ event.Ask who other q → caller ≡ who
          asker-of same = ap ask-caller same where
            ask-caller : Event → ℕ
            ask-caller (event.Ask n o q) = n
            ask-caller _ = caller

          op-same : {who : ℕ} {other : Asked} {q : ProcessId} → event.Ask caller op p ≡ event.Ask who other q → op ≡ other
          op-same same = ap ask-op same where
            ask-op : Event → Asked
            ask-op (event.Ask n o q) = o
            ask-op _ = op

          right : Right c.group.shape c.failed (wants c.group.gateways) (AskFor caller call op)
          right = each-entry (Right c.group.shape c.failed (wants c.group.gateways)) (c.group.gateways.parked p) place
              (AskFor caller call op) is (b.rights.parks p (pin, lives))

          by : (who : ℕ) (o : OpenCall) (other : Asked) → c.failed (gateway_of c.group.shape who) ≡ false
              → c.group.gateways.call who ≡ Some o → caller ≡ who → op ≡ other → other ≡ o.op
          by who o other gl open_call same_caller same_op =
              let mine : IfSome (op_of (c.group.gateways.call caller)) (λ w. op ≡ w) =
              right (ap (λ (n : ℕ). c.failed (gateway_of c.group.shape n)) same_caller ∙ gl) in
              let its : op ≡ o.op = subst (λ (call : Option OpenCall). IfSome (op_of call) (λ w. op ≡ w))
              (ap c.group.gateways.call same_caller ∙ open_call) mine in
              sym same_op ∙ its

      base : Wanted c.group.shape c.group.words.cut c.failed c.lived c.group.gateways (c.made ++ stands_if lost (request_made c.group p (Some r)))
      base = which lost fails where
        which : (b : Bool) → c.failed p ≡ b → Wanted c.group.shape c.group.words.cut c.failed c.lived c.group.gateways
            (c.made ++ stands_if b (request_made c.group p (Some r)))
        which true _ = still
        which false lives = event-of r is lives

  -- an ask that is given up is for what its client asked
  pub lost-asks : (caller : ℕ) (o : OpenCall) (lost : Bool) → c.group.gateways.call caller ≡ Some o
      → Wanted c.group.shape c.group.words.cut c.failed c.lived c.group.gateways
      (c.made ++ stands_if lost (given_up (events_of c) caller o o.stage))
  lost-asks caller o true is = still
  lost-asks caller o false is = at o.stage where
    lost-one : (x : ProcessId) (d : Bool) → Wanted c.group.shape c.group.words.cut c.failed c.lived c.group.gateways (c.made ++ lost_ask d caller o.op x)
    lost-one x false = still
    lost-one x true = one (record { event = event.Ask caller o.op x; answer = says.Lost })
        (λ who q y other p gl call stage same. by who q other call (ap ask-caller same) (ap ask-op same)) where
          ask-caller : Event → ℕ
          ask-caller (event.Ask n a q) = n
          ask-caller _ = caller

          ask-op : Event → Asked
          ask-op (event.Ask n a q) = a
          ask-op _ = o.op

          by : (who : ℕ) (q : OpenCall) (other : Asked) → c.group.gateways.call who ≡ Some q → caller ≡ who → o.op ≡ other → other ≡ q.op
          by who q other call same_caller same_op =
              let joined : Some o ≡ Some q = sym is ∙ ap c.group.gateways.call same_caller ∙ call in
              sym same_op ∙ ap (λ (p : Option OpenCall). elim p [ None ↦ o.op | Some z ↦ z.op ]) joined

    at : (stage : Stage) → Wanted c.group.shape c.group.words.cut c.failed c.lived c.group.gateways (c.made ++ given_up (events_of c) caller o stage)
    at Unasked = still
    at Unknown = still
    at (TracedAt x) = still
    at (Answered t n) = still
    at (AskedOf x) = lost-one x (nat_le (asks_among caller (events_of c)) o.position)

  gives-up : (caller : ℕ) (call : Option OpenCall) (lost : Bool) → c.group.gateways.call caller ≡ call
      → Wanted c.group.shape c.group.words.cut c.failed c.lived
      (if_open call c.group.gateways (λ o. staged caller o (stage_given_up o.op o.stage) c.group.gateways))
      (c.made ++ stands_if lost (call_given_up (events_of c) caller call))
  gives-up caller None true is = still
  gives-up caller None false is = still
  gives-up caller (Some o) lost is = wanted-call c.group.shape c.group.words.cut c.failed c.lived c.group.gateways
      (c.made ++ stands_if lost (given_up (events_of c) caller o o.stage)) (lost-asks caller o lost is) caller
      (Some (record o { stage = stage_given_up o.op o.stage }))
      (sym (ap op_of is))
      (λ gl. asks-given-up (c.made ++ stands_if lost (given_up (events_of c) caller o o.stage)) caller o.position o.op
      o.op o.stage (subst (AskCall (c.made ++ stands_if lost (given_up (events_of c) caller o o.stage)) caller) is
      ((lost-asks caller o lost is).asks caller gl)))
      (firm-given-up (c.made ++ stands_if lost (given_up (events_of c) caller o o.stage)) caller
      (c.failed (gateway_of c.group.shape caller)) (c.lived (gateway_of c.group.shape caller)) o.position o.op o.op
      o.stage
      (subst (FirmCall (c.made ++ stands_if lost (given_up (events_of c) caller o o.stage)) caller
      (c.failed (gateway_of c.group.shape caller)) (c.lived (gateway_of c.group.shape caller))) is
      ((lost-asks caller o lost is).firm caller)))

  sends : (caller : ℕ) (x : ProcessId) (call : Option OpenCall) → c.group.gateways.call caller ≡ call
      → Wanted c.group.shape c.group.words.cut c.failed c.lived (if_open call c.group.gateways (λ o. sends_by c.group caller x o o.stage)) (c.made ++ [])
  sends caller x None is = still
  sends caller x (Some o) is = by o.stage refl where
    asks-for : (stage : Stage) → o.stage ≡ stage → c.failed (gateway_of c.group.shape caller) ≡ false → AskStage (c.made ++ []) caller o.position o.op stage
    asks-for stage same gl = subst (AskStage (c.made ++ []) caller o.position o.op) same (subst (AskCall (c.made ++ []) caller) is (still.asks caller gl))

    same-op : (o' : OpenCall) → o'.op ≡ o.op → op_of (Some o') ≡ op_of (c.group.gateways.call caller)
    same-op o' same = ap Some same ∙ sym (ap op_of is)

    by : (stage : Stage) → o.stage ≡ stage → Wanted c.group.shape c.group.words.cut c.failed c.lived (sends_by c.group caller x o stage) (c.made ++ [])
    by (AskedOf y) same = still
    by (TracedAt y) same = still
    by (Answered t n) same = still
    by Unknown same =
        let base : Wanted c.group.shape c.group.words.cut c.failed c.lived
        (record c.group.gateways {
          call = changed_at c.group.gateways.call caller
              (Some (record o { stage = TracedAt x }));
        }) (c.made ++ []) =
        wanted-call c.group.shape c.group.words.cut c.failed c.lived c.group.gateways (c.made ++ []) still caller
        (Some (record o { stage = TracedAt x })) (same-op (record o { stage = TracedAt x }) refl)
        (λ gl. asks-for Unknown same gl) tt in record {
          rights = rights-sent c.group.shape c.group.words.cut c.failed c.group.gateways.requests
              c.group.gateways.parked
              (wants (record c.group.gateways {
                call = changed_at c.group.gateways.call caller
                    (Some (record o { stage = TracedAt x }));
              })) base.rights
              (gateway_of c.group.shape caller) x (TraceOf caller o.position (home_of (key_of o.op.act) c.group.shape.k)) (λ _ _. tt);
          asks = base.asks;
          firm = base.firm;
        }
    by Unasked same =
        let base : Wanted c.group.shape c.group.words.cut c.failed c.lived
        (record c.group.gateways {
          call = changed_at c.group.gateways.call caller
              (Some (record o { position = c.group.gateways.next caller; stage = AskedOf x }));
        }) (c.made ++ []) =
        wanted-call c.group.shape c.group.words.cut c.failed c.lived c.group.gateways (c.made ++ []) still caller
        (Some (record o { position = c.group.gateways.next caller; stage = AskedOf x }))
        (same-op (record o { position = c.group.gateways.next caller; stage = AskedOf x }) refl)
        (λ gl. fresh gl) tt in record {
          rights = rights-sent c.group.shape c.group.words.cut c.failed c.group.gateways.requests c.group.gateways.parked
              (wants (record c.group.gateways {
                call = changed_at c.group.gateways.call caller
                    (Some (record o { position = c.group.gateways.next caller; stage = AskedOf x }));
              })) base.rights
              (gateway_of c.group.shape caller) x (AskFor caller (c.group.gateways.next caller) o.op)
              (λ _ _ _. subst (λ (call : Option OpenCall). IfSome (op_of call) (λ w. o.op ≡ w))
              (sym (changed_at-here c.group.gateways.call caller
              (Some (record o { position = c.group.gateways.next caller; stage = AskedOf x })))) refl);
          asks = base.asks;
          firm = base.firm;
        }
      where
        fresh : c.failed (gateway_of c.group.shape caller) ≡ false → AskIs (c.made ++ []) caller (c.group.gateways.next caller) o.op
        fresh gl =
            let f : CallFits c.group.shape c.failed (waits c.group.shape c.group.words.cut c.group.gateways.requests
            c.group.gateways.parked caller) (asked_in c caller) (c.group.gateways.next caller) (Some o) =
            subst (CallFits c.group.shape c.failed (waits c.group.shape c.group.words.cut c.group.gateways.requests
            c.group.gateways.parked caller) (asked_in c caller) (c.group.gateways.next caller)) is
            (h.positioned.calls caller gl) in
            let g : StageFits c.group.shape c.failed (waits c.group.shape c.group.words.cut c.group.gateways.requests
            c.group.gateways.parked caller) (asked_in c caller) (c.group.gateways.next caller) o.position Unasked =
            subst (StageFits c.group.shape c.failed (waits c.group.shape c.group.words.cut c.group.gateways.requests
            c.group.gateways.parked caller) (asked_in c caller) (c.group.gateways.next caller) o.position) same f.1 in
            let more = asks-made caller c.made [] in
            let at_next = g.0 in
            ask-none (c.made ++ []) caller (c.group.gateways.next caller) o.op (omega (arith, more, at_next))

  begins : (caller : ℕ) (op : Asked) → c.group.gateways.call caller ≡ None
      → Wanted c.group.shape c.group.words.cut c.failed c.lived
      (record c.group.gateways {
        call = changed_at c.group.gateways.call caller
            (Some (record { op = op; position = 0; stage = Unasked }));
      }) (c.made ++ [])
  begins caller op none = record {
    rights = rights-new c.group.shape c.group.words.cut c.failed c.group.gateways.requests c.group.gateways.parked (wants c.group.gateways) still.rights
        (wants (record c.group.gateways { call = changed_at c.group.gateways.call caller (Some (record { op = op; position = 0; stage = Unasked })) })) caller
        (λ d other. ap
        (λ (e : Bool).
        op_of (one_or e (Some (record { op = op; position = 0; stage = Unasked })) (c.group.gateways.call d)))
        (ne_eqb d caller other))
        (λ g x gl lives uncut. lane-none c.group.shape c.group.words.cut c.failed c.group.gateways.requests
        c.group.gateways.parked (asked_in c) h.positioned.placed caller (waiting gl) g x lives uncut)
        (λ x gl lives. park-none c.group.shape c.group.words.cut c.failed c.group.gateways.requests
        c.group.gateways.parked (asked_in c) h.positioned.placed caller (waiting gl) x lives);
    asks = changed_at-each (λ d call. c.failed (gateway_of c.group.shape d) ≡ false → AskCall (c.made ++ []) d call)
        c.group.gateways.call caller (Some (record { op = op; position = 0; stage = Unasked })) (λ _. tt)
        (λ d _. still.asks d);
    firm = changed_at-each (λ d call. FirmCall (c.made ++ []) d (c.failed (gateway_of c.group.shape d))
        (c.lived (gateway_of c.group.shape d)) call) c.group.gateways.call caller
        (Some (record { op = op; position = 0; stage = Unasked })) tt (λ d _. still.firm d);
  } where
    waiting : c.failed (gateway_of c.group.shape caller) ≡ false → (z : ProcessId) → Living c.group.shape c.failed z
        → waits c.group.shape c.group.words.cut c.group.gateways.requests c.group.gateways.parked caller z ≡ 0
    waiting gl = (subst
        (CallFits c.group.shape c.failed (waits c.group.shape c.group.words.cut c.group.gateways.requests
        c.group.gateways.parked caller) (asked_in c caller) (c.group.gateways.next caller)) none
        (h.positioned.calls caller gl)).1

  learns : (x p : ProcessId) (ts : List Told) → MayAct c.group (Learn x p) → c.group.gateways.answers x p ≡ ts
      → Wanted c.group.shape c.group.words.cut c.failed c.lived
      (learned_first x p (c.group.signs.pinged p) ts c.group.gateways) (c.made ++ [])
  learns x p [] may is = still
  learns x p (t ∷ rest) may is = wanted-call c.group.shape c.group.words.cut c.failed c.lived
      (record c.group.gateways { answers = changed_from c.group.gateways.answers x p rest }) (c.made ++ [])
      (wanted-answers c.group.shape c.group.words.cut c.failed c.lived c.group.gateways (c.made ++ []) still
      (changed_from c.group.gateways.answers x p rest)) t.caller
      (call_learned t (c.group.signs.pinged p) (c.group.gateways.call t.caller))
      (op-learned t (c.group.signs.pinged p) (c.group.gateways.call t.caller))
      (λ gl. asks-call-learned (c.made ++ []) t.caller t (c.group.signs.pinged p) (c.group.gateways.call t.caller)
      (still.asks t.caller gl))
      (firm-call-learned (c.made ++ []) t.caller (c.failed (gateway_of c.group.shape t.caller))
      (c.lived (gateway_of c.group.shape t.caller)) t (c.group.signs.pinged p) (c.group.gateways.call t.caller) alive
      low (still.asks t.caller) (still.firm t.caller))
    where
      mine : gateway_of c.group.shape t.caller ≡ p
      mine = (subst (Each (λ (t : Told). gateway_of c.group.shape t.caller ≡ p)) is (h.positioned.theirs x p)).0

      alive : (c.failed (gateway_of c.group.shape t.caller) ≡ false)
          ⊎ (c.group.signs.pinged p < c.lived (gateway_of c.group.shape t.caller))
          → c.failed (gateway_of c.group.shape t.caller) ≡ false
      alive (inl lives) = lives
      alive (inr early) = let at_p : c.group.signs.pinged (gateway_of c.group.shape t.caller) ≡ c.group.signs.pinged p =
          ap c.group.signs.pinged mine in let most = l.lively (gateway_of c.group.shape t.caller) in
          absurd (omega (arith, at_p, most, early))

      low : c.failed (gateway_of c.group.shape t.caller) ≡ false → t.call < asked_by (c.made ++ []) t.caller
      low gl =
          let pl : c.failed p ≡ false = ap c.failed (sym mine) ∙ gl in
          let first = (subst (Each (λ (t : Told). t.call < asked_in c t.caller)) is (h.positioned.told x p (may.sender, was-living (c.failed x) refl pl))).0 in
          let more = asks-made t.caller c.made [] in omega (arith, first, more)
        where
          was-living : (lost : Bool) → c.failed x ≡ lost → c.failed p ≡ false → c.failed x ≡ false
          was-living false same pl = same
          was-living true same pl = cc (h.barred.cut p x may.here.member pl same, may.uncut)

  -- a call ends
  ends : (caller : ℕ) → Wanted c.group.shape c.group.words.cut c.failed c.lived
      (record c.group.gateways { call = changed_at c.group.gateways.call caller None }) (c.made ++ [])
  ends caller = record {
    rights = rights-none c.group.shape c.group.words.cut c.failed c.group.gateways.requests c.group.gateways.parked
        (wants c.group.gateways) still.rights
        (wants (record c.group.gateways { call = changed_at c.group.gateways.call caller None })) caller
        (λ d other. ap (λ (e : Bool). op_of (one_or e None (c.group.gateways.call d))) (ne_eqb d caller other))
        (ap op_of (changed_at-here c.group.gateways.call caller None));
    asks = changed_at-each (λ d call. c.failed (gateway_of c.group.shape d) ≡ false → AskCall (c.made ++ []) d call)
        c.group.gateways.call caller None (λ _. tt) (λ d _. still.asks d);
    firm = changed_at-each (λ d call. FirmCall (c.made ++ []) d (c.failed (gateway_of c.group.shape d))
        (c.lived (gateway_of c.group.shape d)) call) c.group.gateways.call caller None tt (λ d _. still.firm d);
  }

  pub wanted-step : (a : Action) → MayAct c.group a → WantedAt (composed_with c a)
  wanted-step (Begin caller op) may = begins caller op may.1
  wanted-step (Send caller x) may = sends caller x (c.group.gateways.call caller) refl
  wanted-step (Read x p) may = by (c.group.gateways.requests x p) refl where
    by : (rs : List Request) → c.group.gateways.requests x p ≡ rs → Wanted c.group.shape c.group.words.cut c.failed
        c.lived (read_first x p rs c.group.gateways) (c.made ++ [])
    by [] is = still
    by (r ∷ rest) is = record {
      rights = rights-read c.group.shape c.group.words.cut c.failed c.group.gateways.requests c.group.gateways.parked
          (wants c.group.gateways) still.rights x p r rest is may.uncut;
      asks = still.asks;
      firm = still.firm;
    }
  wanted-step (Treat p place) may = treats p place (parked_at c.group p place) (c.failed p) may.member refl refl
  wanted-step (Collect caller call p) may =
      wanted-tell c.group c.failed c.lived c.group.gateways (c.made ++ made_by c (Collect caller call p)) p
      (handed_to caller call
      (collect_from caller call (c.group.works.process p) (range_with_len 0 c.group.shape.k)).answer)
      (quiet (made_by c (Collect caller call p))
      (quiet-if c.made (c.failed p)
      (record {
        event = event.Collect caller call p;
        answer = (collect_from caller call (c.group.works.process p) (range_with_len 0 c.group.shape.k)).answer;
      })
      (λ _. refl)))
  wanted-step (Flush p) may = quiet (made_by c (Flush p)) (quiet-if c.made (c.failed p) (record { event = event.Flush p; answer = says.Done }) (λ _. refl))
  wanted-step (Learn x p) may = learns x p (c.group.gateways.answers x p) may refl
  wanted-step (Receive x p) may = by (c.group.works.messages x p) where
    by : (ms : List Message) → Wanted c.group.shape c.group.words.cut c.failed c.lived c.group.gateways (c.made ++ stands_if (c.failed p) (message_made x p ms))
    by [] = which (c.failed p) where
      which : (lost : Bool) → Wanted c.group.shape c.group.words.cut c.failed c.lived c.group.gateways (c.made ++ stands_if lost [])
      which true = still
      which false = still
    by (m ∷ rest) = quiet (stands_if (c.failed p) (record { event = event.Deliver x p; answer = says.Done } ∷ []))
        (quiet-if c.made (c.failed p) (record { event = event.Deliver x p; answer = says.Done }) (λ _. refl))
  wanted-step (GiveUp caller) may = gives-up caller (c.group.gateways.call caller) (c.failed (gateway_of c.group.shape caller)) refl
  wanted-step (Cut x p) may = record {
    rights = rights-cut c.group.shape c.group.words.cut c.failed c.group.gateways.requests c.group.gateways.parked
        (wants c.group.gateways) still.rights (words_after c.group.words (Cut x p)).cut
        (changed-each (λ r set. (g : ProcessId) → c.group.words.cut r g ≡ true → set g ≡ true) c.group.words.cut p
        (with_one (c.group.words.cut p) x) (grown-set (c.group.words.cut p) x) (λ r _ y is. is));
    asks = still.asks;
    firm = still.firm;
  }
  wanted-step (Say p) may = still
  wanted-step (Hear x p) may = by (c.group.words.said x p) where
    by : (sets : List Processes) → Wanted c.group.shape (heard_first x p sets c.group.words).cut c.failed c.lived c.group.gateways (c.made ++ [])
    by [] = still
    by (set ∷ rest) = still
  wanted-step (Permit p) may = by (c.failed p) where
    alive : (now : Processes) → ((x : ProcessId) → now x ≡ false → c.failed x ≡ false) → (g : ProcessId) (n : ℕ) → n ≤ c.group.signs.pinged g
        → (now g ≡ false) ⊎ (n < one_or (c.failed g) (c.lived g) (c.group.signs.pinged g)) → (c.failed g ≡ false) ⊎ (n < c.lived g)
    alive now lives g n low which = pick (c.failed g) refl which where
      pick : (lost : Bool) → c.failed g ≡ lost → (now g ≡ false)
          ⊎ (n < one_or lost (c.lived g) (c.group.signs.pinged g)) → (c.failed g ≡ false) ⊎ (n < c.lived g)
      pick false is which = inl is
      pick true is (inl same) = inl (lives g same)
      pick true is (inr early) = inr early

    by : (lost : Bool)
        → Wanted c.group.shape c.group.words.cut (one_or lost c.failed (either c.failed (c.group.words.cut p)))
        (λ x. one_or (c.failed x) (c.lived x) (c.group.signs.pinged x)) c.group.gateways
        (c.made ++ stands_if lost (failures_at c.group.shape c.failed (c.group.words.cut p) (range_with_len 0 (c.group.shape.k + c.group.shape.m))))
    by true = grows [] c.failed (λ x. one_or (c.failed x) (c.lived x) (c.group.signs.pinged x)) (λ x is. is)
        (alive c.failed (λ x is. is)) (λ caller o x gl call stage at. asks-stay c.made [] caller o.position o.op
        (quiet-none c.made) at)
    by false = grows
        (failures_at c.group.shape c.failed (c.group.words.cut p)
        (range_with_len 0 (c.group.shape.k + c.group.shape.m))) (either c.failed (c.group.words.cut p))
        (λ x. one_or (c.failed x) (c.lived x) (c.group.signs.pinged x))
        (λ x out. (either-not c.failed (c.group.words.cut p) x out).0)
        (alive (either c.failed (c.group.words.cut p)) (λ x out. (either-not c.failed (c.group.words.cut p) x out).0))
        (λ caller o x gl call stage at. asks-stay c.made
        (failures_at c.group.shape c.failed (c.group.words.cut p)
        (range_with_len 0 (c.group.shape.k + c.group.shape.m))) caller o.position o.op
        (asks-quiet c.made
        (failures_at c.group.shape c.failed (c.group.words.cut p)
        (range_with_len 0 (c.group.shape.k + c.group.shape.m)))
        (failures-quiet c.group.shape c.failed (c.group.words.cut p)
        (range_with_len 0 (c.group.shape.k + c.group.shape.m)))) at)
  wanted-step (Take x p) may =
      quiet (made_by c (Take x p))
      (quiet-if c.made (c.failed p) (record { event = event.Deliver x p; answer = says.Done }) (λ _. refl))
  wanted-step (Ping to p) may = still
  wanted-step (Pong x p) may = still
  wanted-step (Count x p) may = still
  wanted-step (Show caller ping) may = ends caller
  wanted-step (LetGo caller) may = ends caller
  wanted-step (Stop p) may = still

pub wanted-opening : (s : Dimensions) → WantedAt (opening_composed s)
wanted-opening s = record { rights = record { lanes = λ g x lives uncut. tt; parks = λ x lives. tt }; asks = λ caller gl. tt; firm = λ caller. tt }
