-- Every action that may come keeps what holds of positions.
use Rattle.std.proofs.Common.{ℕ, suc, ◌≡◌, ◌<◌, ◌≤◌, ◌+◌, ◌⊎◌, inl, inr, nat_le, Bool, true, false, List, [], ◌∷◌, ◌++◌}
use Rattle.std.proofs.Common.{Option, Some, None, refl, sym, ap, subst, ◌∙◌, arith}
use Rattle.std.proofs.lemmas.Bool.{ne_eqb}
use Rattle.std.proofs.lemmas.Grind.{common_steps}
use Rattle.std.specs.List.{range_with_len}
use Rattle.group_types.specs.Dimensions.{Dimensions}
use Rattle.group_types.specs.Each.{Each}
use Rattle.group_types.specs.Hash.{home_of}
use Rattle.group_types.specs.Names.{IsProcess}
use Rattle.group_types.specs.declared.process.ProcessId.{ProcessId}
use Rattle.group_types.proofs.Eaches.{each-append, each-weaker}
use Rattle.memc_table.specs.Act.{key_of}
use Rattle.memc_table.specs.Asked.{Asked}
use Rattle.memc_table.specs.declared.act.Act.{Act}
use Rattle.memc_table.specs.declared.act.Act.TheVariants as act
use Rattle.group_message.specs.declared.message.Message.{Message}
use Rattle.group_calls.specs.declared.event.Answer.TheVariants as says
use Rattle.group_calls.specs.declared.event.Event.TheVariants as event
use Rattle.group_run.specs.Asking.{collect_from}
use Rattle.group_run.specs.Heading.{partition}
use Rattle.group_wire.specs.Actions.{Action, Begin, Send, Read, Treat, Collect, Flush, Learn, Receive, GiveUp, Cut, Say}
use Rattle.group_wire.specs.Actions.{Hear, Permit, Take, Ping, Pong, Count, Show, LetGo, Stop}
use Rattle.group_run.specs.Causes.{asks_among}
use Rattle.group_wire.specs.Composed.{AreActions, AreActionsFrom, Composed, Made, call_given_up, composed}
use Rattle.group_wire.specs.Composed.{composed_from, composed_with, events_of, failures_at, given_up, lost_ask, made_by}
use Rattle.group_wire.specs.Composed.{message_made, opening_composed, request_made, stands_if}
use Rattle.group_wire.specs.May.{MayAct}
use Rattle.group_wire.specs.Sets.{Processes, changed, changed_at, either, one_or, without_nth}
use Rattle.group_wire.specs.State.{Request, AskFor, TraceOf, Told, Stage, Unasked, AskedOf, Unknown, TracedAt, Answered, OpenCall, Gateways, Group, gateway_of}
use Rattle.group_wire.specs.Sending.{parked_at, sent_on, treating}
use Rattle.group_wire.specs.Serving.{again, handed_to, if_open, learned_first, read_first, request_treated, sends_by, stage_given_up, staged, tell, told_of}
use Rattle.group_wire.proofs.Changes.{changed-pairs, changed_at-each, changed_at-here, either-not, one_or-is}
use Rattle.group_wire.proofs.Clients.{WantedAt, lost-asks, wanted-opening, wanted-step, was}
use Rattle.group_wire.proofs.Placing.{failures-quiet, quiet-if, quiet-none}
use Rattle.group_wire.proofs.Positions.{CallFits, NoneWait, StageFits, asked_by, asked_in, asks-once, asks-quiet}
use Rattle.group_wire.proofs.Requests.{FitsAsked, Living, each-entry, waits}
use Rattle.group_wire.proofs.Spent.{LastStage, Sound, Spent, VoidCall, VoidStage, all-last, call-ends, sound-more}
use Rattle.group_wire.proofs.Spent.{spent-call, spent-learns, spent-more, spent-read, spent-sent, spent-taken}
use Rattle.group_wire.proofs.Spent.{spent-told}
use Rattle.group_wire.proofs.Telling.{LearnedAt, learned-opening, learned-step}
use Rattle.group_wire.proofs.Voids.{AllVoid, Fated, Reads, Traced, fated-ask, fated-handed, fated-trace, traced-more}
use Rattle.group_wire.proofs.Wanting.{AskIs}
use Rattle.group_wire.proofs.Wants.{AskCall}
use Rattle.group_wire.proofs.Whole.{Whole, whole-opening, whole-step}

abbrev pub SpentAt : Composed → Type 0
SpentAt c = Spent c.group.shape c.failed c.lived c.group.gateways c.made c.first

spent-tell : (g : Group) (failed : Processes) (lived : ProcessId → ℕ) (gw : Gateways) (made : List Made) (first : ℕ → ℕ)
    (p : ProcessId) (ts : List Told) → (Living g.shape failed p → Each (Fated g.shape failed made) ts)
    → Spent g.shape failed lived gw made first → Spent g.shape failed lived (tell g p ts gw) made first
spent-tell g failed lived gw made first p [] fated b = b
spent-tell g failed lived gw made first p (t ∷ ts) fated b =
    spent-tell g failed lived (record gw { answers = sent_on g.words.cut gw.answers p (gateway_of g.shape t.caller) t })
    made first p ts (λ lives. (fated lives).1)
    (spent-told g.shape failed lived gw made first b g.words.cut p t (λ lives. (fated lives).0))

le-is : (a b : ℕ) → nat_le a b ≡ true → a ≤ b
le-is a b is = grind (arith, common_steps)

gt-is : (a b : ℕ) → nat_le a b ≡ false → b < a
gt-is a b is = grind (arith, common_steps)

module _ (c : Composed) (h : Whole c) (l : LearnedAt c) (w : WantedAt c) (b : SpentAt c) where
  -- events that don't ask
  quiet : (more : List Made) → asked_by c.made ≡ asked_by (c.made ++ more) → Spent c.group.shape c.failed c.lived c.group.gateways (c.made ++ more) c.first
  quiet more same = spent-more c.group.shape c.failed c.lived c.group.gateways c.made c.first b more c.failed c.lived
      (λ x is. is) (λ caller o t n call stage which. which)
      (λ caller. let now : asked_by c.made caller ≡ asked_by (c.made ++ more) caller = ap (λ (f : ℕ → ℕ). f caller) same
      in let low = b.asked caller in omega (arith, now, low))

  still : Spent c.group.shape c.failed c.lived c.group.gateways (c.made ++ []) c.first
  still = quiet [] (quiet-none c.made)

  -- one that asks
  asking : (x : Made) (who : ℕ) (op : Asked) (p : ProcessId) → x.event ≡ event.Ask who op p
      → asked_by c.made who < c.group.gateways.next who → Spent c.group.shape c.failed c.lived c.group.gateways
      (c.made ++ x ∷ []) c.first
  asking x who op p is low = spent-more c.group.shape c.failed c.lived c.group.gateways c.made c.first b (x ∷ [])
      c.failed c.lived (λ x is. is) (λ caller o t n call stage which. which)
      (λ caller. subst (λ (f : ℕ → ℕ). f caller ≤ c.group.gateways.next caller) (asks-once c.made x who op p is)
      (changed_at-each (λ d n. n ≤ c.group.gateways.next d) (asked_by c.made) who (suc (asked_by c.made who)) (omega (arith, low)) (λ d _. b.asked d) caller))

  treats : (p : ProcessId) (place : ℕ) (r : Option Request) (lost : Bool) → IsProcess c.group.shape p → parked_at c.group p place ≡ r → c.failed p ≡ lost
      → Spent c.group.shape c.failed c.lived (request_treated c.group p place r) (c.made ++ stands_if lost (request_made c.group p r)) c.first
  treats p place None true pin is lost = still
  treats p place None false pin is lost = still
  treats p place (Some r) true pin is lost =
      spent-tell c.group c.failed c.lived
      (record c.group.gateways {
        parked = changed c.group.gateways.parked p
            (without_nth (c.group.gateways.parked p) place);
      }) (c.made ++ []) c.first p
      (told_of r (treating c.group.shape r (c.group.works.process p)).answer) (λ lives. cc (lives.1, lost))
      (spent-taken c.group.shape c.failed c.lived c.group.gateways (c.made ++ []) c.first still p place)
  treats p place (Some (AskFor caller call op)) false pin is lives =
      let x : Made = record { event = event.Ask caller op p; answer = (treating c.group.shape (AskFor caller call op) (c.group.works.process p)).answer } in
      let fits : FitsAsked c.group.shape (asked_in c) (AskFor caller call op) =
      each-entry (FitsAsked c.group.shape (asked_in c)) (c.group.gateways.parked p) place (AskFor caller call op) is
      (h.positioned.placed.parks p (pin, lives)) in
      let sound : call < c.group.gateways.next caller =
      each-entry (Sound c.group.shape c.failed c.made c.group.gateways.next) (c.group.gateways.parked p) place
      (AskFor caller call op) is (b.parks p) in
      let its : call ≡ asked_in c caller = fits.1 in
      spent-tell c.group c.failed c.lived
      (record c.group.gateways {
        parked = changed c.group.gateways.parked p
            (without_nth (c.group.gateways.parked p) place);
      }) (c.made ++ x ∷ []) c.first p
      (told_of (AskFor caller call op)
      (treating c.group.shape (AskFor caller call op) (c.group.works.process p)).answer)
      (λ _. fated-ask c.group.shape c.failed c.made x caller call op p refl its)
      (spent-taken c.group.shape c.failed c.lived c.group.gateways (c.made ++ x ∷ []) c.first (asking x caller op p refl (omega (arith, its, sound))) p place)
  treats p place (Some (TraceOf caller call d)) false pin is lives =
      let x : Made =
      record {
        event = event.Trace caller call (partition d) p;
        answer = (treating c.group.shape (TraceOf caller call d) (c.group.works.process p)).answer;
      } in
      let sound : c.failed (gateway_of c.group.shape caller) ≡ false → Traced c.group.shape.k c.made caller call d =
      each-entry (Sound c.group.shape c.failed c.made c.group.gateways.next) (c.group.gateways.parked p) place
      (TraceOf caller call d) is (b.parks p) in
      spent-tell c.group c.failed c.lived
      (record c.group.gateways {
        parked = changed c.group.gateways.parked p
            (without_nth (c.group.gateways.parked p) place);
      }) (c.made ++ x ∷ []) c.first p
      (told_of (TraceOf caller call d)
      (treating c.group.shape (TraceOf caller call d) (c.group.works.process p)).answer)
      (λ _. fated-trace c.group.shape c.failed c.made x caller call d p (c.group.works.process p) refl refl sound)
      (spent-taken c.group.shape c.failed c.lived c.group.gateways (c.made ++ x ∷ []) c.first (quiet (x ∷ []) (asks-quiet c.made (x ∷ []) (λ _. refl))) p place)

  begins : (caller : ℕ) (op : Asked)
      → Spent c.group.shape c.failed c.lived
      (record c.group.gateways {
        call = changed_at c.group.gateways.call caller
            (Some (record { op = op; position = 0; stage = Unasked }));
      }) (c.made ++ [])
      (changed_at c.first caller (c.group.gateways.next caller))
  begins caller op = record {
    lanes = still.lanes;
    parks = still.parks;
    told = still.told;
    asked = still.asked;
    calls = changed_at-each (λ d call. VoidCall c.group.shape.k (c.made ++ []) d (c.failed (gateway_of c.group.shape d))
        (c.lived (gateway_of c.group.shape d)) (changed_at c.first caller (c.group.gateways.next caller) d)
        (c.group.gateways.next d) call) c.group.gateways.call caller
        (Some (record { op = op; position = 0; stage = Unasked }))
        ((λ gl n low high. absurd (none n low high)), tt)
        (λ d other. subst (λ (m : ℕ). VoidCall c.group.shape.k (c.made ++ []) d (c.failed (gateway_of c.group.shape d))
        (c.lived (gateway_of c.group.shape d)) m (c.group.gateways.next d) (c.group.gateways.call d))
        (sym (ap (λ (e : Bool). one_or e (c.group.gateways.next caller) (c.first d)) (ne_eqb d caller other))) (still.calls d));
  } where
    none : (n : ℕ) → changed_at c.first caller (c.group.gateways.next caller) caller ≤ n → n < c.group.gateways.next caller → ⊥
    none n low high = let here : changed_at c.first caller (c.group.gateways.next caller) caller ≡ c.group.gateways.next
        caller = changed_at-here c.first caller (c.group.gateways.next caller) in
        absurd (omega (arith, here, low, high))

  -- a call at its stage
  abbrev HoldsHere : List Made → ℕ → ℕ → Stage → Type 0
  HoldsHere made caller position stage =
      VoidStage c.group.shape.k made caller (c.failed (gateway_of c.group.shape caller))
      (c.lived (gateway_of c.group.shape caller)) (c.first caller) (c.group.gateways.next caller) position stage
      × LastStage (c.group.gateways.next caller) position stage

  here : (made : List Made) (caller : ℕ) (o : OpenCall) → c.group.gateways.call caller ≡ Some o
      → Spent c.group.shape c.failed c.lived c.group.gateways made c.first → HoldsHere made caller o.position o.stage
  here made caller o is all =
      subst (VoidCall c.group.shape.k made caller (c.failed (gateway_of c.group.shape caller))
      (c.lived (gateway_of c.group.shape caller)) (c.first caller) (c.group.gateways.next caller)) is (all.calls caller)

  -- how often its caller has asked
  fits : (caller : ℕ) (o : OpenCall) → c.group.gateways.call caller ≡ Some o → c.failed (gateway_of c.group.shape caller) ≡ false
      → StageFits c.group.shape c.failed (waits c.group.shape c.group.words.cut c.group.gateways.requests
      c.group.gateways.parked caller) (asked_in c caller) (c.group.gateways.next caller) o.position o.stage
  fits caller o is gl =
      (subst (CallFits c.group.shape c.failed (waits c.group.shape c.group.words.cut c.group.gateways.requests
      c.group.gateways.parked caller) (asked_in c caller) (c.group.gateways.next caller)) is
      (h.positioned.calls caller gl)).1

  asks : (caller : ℕ) (x : ProcessId) (o : OpenCall) → c.group.gateways.call caller ≡ Some o → o.stage ≡ Unasked
      → Spent c.group.shape c.failed c.lived (sends_by c.group caller x o Unasked) (c.made ++ []) c.first
  asks caller x o is stage = record {
    lanes = changed-pairs (λ y z rs. Each (Sound c.group.shape c.failed (c.made ++ []) next) rs)
        c.group.gateways.requests g x (one_or (c.group.words.cut g x) (c.group.gateways.requests g x)
        (c.group.gateways.requests g x ++ r ∷ []))
        (one_or-is (Each (Sound c.group.shape c.failed (c.made ++ []) next)) (c.group.words.cut g x)
        (c.group.gateways.requests g x) (c.group.gateways.requests g x ++ r ∷ []) (λ _. lane g x)
        (λ _. each-append (Sound c.group.shape c.failed (c.made ++ []) next) (c.group.gateways.requests g x) (r ∷ []) (lane g x) (passed, tt))) lane;
    parks = λ y. each-weaker (Sound c.group.shape c.failed c.made c.group.gateways.next)
        (Sound c.group.shape c.failed (c.made ++ []) next)
        (sound-more c.group.shape c.failed c.failed c.made [] c.group.gateways.next next (λ x is. is) rises)
        (c.group.gateways.parked y) (b.parks y);
    told = still.told;
    asked = λ d. let low = still.asked d in let up = rises d in omega (arith, low, up);
    calls = changed_at-each (λ d call. VoidCall c.group.shape.k (c.made ++ []) d (c.failed (gateway_of c.group.shape d))
        (c.lived (gateway_of c.group.shape d)) (c.first d)
        (changed_at c.group.gateways.next caller (suc (c.group.gateways.next caller)) d) call) c.group.gateways.call
        caller
        (Some (record o { position = c.group.gateways.next caller; stage = AskedOf x }))
        (void, sym (changed_at-here c.group.gateways.next caller (suc (c.group.gateways.next caller))))
        (λ d other. subst (λ (n : ℕ). VoidCall c.group.shape.k (c.made ++ []) d (c.failed (gateway_of c.group.shape d))
        (c.lived (gateway_of c.group.shape d)) (c.first d) n (c.group.gateways.call d))
        (sym (ap (λ (e : Bool). one_or e (suc (c.group.gateways.next caller)) (c.group.gateways.next d)) (ne_eqb d caller other))) (still.calls d));
  } where
    g : ProcessId
    g = gateway_of c.group.shape caller

    r : Request
    r = AskFor caller (c.group.gateways.next caller) o.op

    next : ℕ → ℕ
    next = changed_at c.group.gateways.next caller (suc (c.group.gateways.next caller))

    rises : (d : ℕ) → c.group.gateways.next d ≤ changed_at c.group.gateways.next caller (suc (c.group.gateways.next caller)) d
    rises = changed_at-each (λ d n. c.group.gateways.next d ≤ n) c.group.gateways.next caller
        (suc (c.group.gateways.next caller)) (omega arith) (λ d _. omega arith)

    passed : c.group.gateways.next caller < changed_at c.group.gateways.next caller (suc (c.group.gateways.next caller)) caller
    passed = let at_it : changed_at c.group.gateways.next caller (suc (c.group.gateways.next caller)) caller
        ≡ suc (c.group.gateways.next caller) = changed_at-here c.group.gateways.next caller
        (suc (c.group.gateways.next caller)) in omega (arith, at_it)

    lane : (y z : ProcessId)
        → Each (Sound c.group.shape c.failed (c.made ++ [])
        (changed_at c.group.gateways.next caller (suc (c.group.gateways.next caller)))) (c.group.gateways.requests y z)
    lane y z = each-weaker (Sound c.group.shape c.failed c.made c.group.gateways.next)
        (Sound c.group.shape c.failed (c.made ++ []) next)
        (sound-more c.group.shape c.failed c.failed c.made [] c.group.gateways.next next (λ x is. is) rises)
        (c.group.gateways.requests y z) (b.lanes y z)

    void : c.failed (gateway_of c.group.shape caller) ≡ false → AllVoid c.group.shape.k (c.made ++ []) caller (c.first caller) (c.group.gateways.next caller)
    void = (subst (HoldsHere (c.made ++ []) caller o.position) stage (here (c.made ++ []) caller o is still)).0

  traces : (caller : ℕ) (x : ProcessId) (o : OpenCall) → c.group.gateways.call caller ≡ Some o → o.stage ≡ Unknown
      → Spent c.group.shape c.failed c.lived (sends_by c.group caller x o Unknown) (c.made ++ []) c.first
  traces caller x o is stage = spent-sent c.group.shape c.failed c.lived
      (record c.group.gateways {
        call = changed_at c.group.gateways.call caller
            (Some (record o { stage = TracedAt x }));
      }) (c.made ++ []) c.first
      (spent-call c.group.shape c.failed c.lived c.group.gateways (c.made ++ []) c.first still caller
      (Some (record o { stage = TracedAt x }))
      (subst (HoldsHere (c.made ++ []) caller o.position) stage (here (c.made ++ []) caller o is still)))
      c.group.words.cut (gateway_of c.group.shape caller) x (TraceOf caller o.position (home_of (key_of o.op.act) c.group.shape.k)) sound
    where
      sound : c.failed (gateway_of c.group.shape caller) ≡ false
          → Traced c.group.shape.k (c.made ++ []) caller o.position (home_of (key_of o.op.act) c.group.shape.k)
      sound gl =
          let f : StageFits c.group.shape c.failed (waits c.group.shape c.group.words.cut c.group.gateways.requests
          c.group.gateways.parked caller) (asked_in c caller) (c.group.gateways.next caller) o.position Unknown =
          subst (StageFits c.group.shape c.failed (waits c.group.shape c.group.words.cut c.group.gateways.requests
          c.group.gateways.parked caller) (asked_in c caller) (c.group.gateways.next caller) o.position) stage
          (fits caller o is gl) in
          let all = f.0 in let last = f.2 in
          let asked : AskIs c.made caller o.position o.op =
          subst (λ (stage : Stage). AskCall c.made caller (Some (record o { stage = stage }))) stage
          (subst (AskCall c.made caller) is (w.asks caller gl)) in
          traced-more c.group.shape.k c.made [] caller o.position (home_of (key_of o.op.act) c.group.shape.k) (o.op, omega (arith, all, last), asked, refl)

  sends : (caller : ℕ) (x : ProcessId) (call : Option OpenCall) → c.group.gateways.call caller ≡ call
      → Spent c.group.shape c.failed c.lived (if_open call c.group.gateways (λ o. sends_by c.group caller x o o.stage))
      (c.made ++ []) c.first
  sends caller x None is = still
  sends caller x (Some o) is = by o.stage refl where
    by : (stage : Stage) → o.stage ≡ stage → Spent c.group.shape c.failed c.lived (sends_by c.group caller x o stage) (c.made ++ []) c.first
    by Unasked same = asks caller x o is same
    by Unknown same = traces caller x o is same
    by (AskedOf y) same = still
    by (TracedAt y) same = still
    by (Answered t n) same = still

  -- the ask of a call that is given up was made, by then
  asked-up : (caller : ℕ) (o : OpenCall) (x : ProcessId) → c.group.gateways.call caller ≡ Some o → o.stage ≡ AskedOf x
      → c.failed (gateway_of c.group.shape caller) ≡ false → (d : Bool)
      → nat_le (asks_among caller (events_of c)) o.position ≡ d
      → o.position < asked_by (c.made ++ lost_ask d caller o.op x) caller
  asked-up caller o x is stage gl d test = by d test f.2 where
    f : StageFits c.group.shape c.failed (waits c.group.shape c.group.words.cut c.group.gateways.requests
        c.group.gateways.parked caller) (asked_in c caller) (c.group.gateways.next caller) o.position (AskedOf x)
    f = subst (StageFits c.group.shape c.failed (waits c.group.shape c.group.words.cut c.group.gateways.requests
        c.group.gateways.parked caller) (asked_in c caller) (c.group.gateways.next caller) o.position) stage
        (fits caller o is gl)

    by : (d : Bool) → nat_le (asks_among caller (events_of c)) o.position ≡ d
        → (asked_in c caller ≡ o.position)
        ⊎ ((asked_in c caller ≡ c.group.gateways.next caller)
        × NoneWait c.group.shape c.failed (waits c.group.shape c.group.words.cut c.group.gateways.requests
        c.group.gateways.parked caller))
        → o.position < asked_by (c.made ++ lost_ask d caller o.op x) caller
    by false test which =
        let more = gt-is (asks_among caller (events_of c)) o.position test in
        let same : asked_by c.made caller ≡ asked_by (c.made ++ []) caller = ap (λ (f : ℕ → ℕ). f caller) (quiet-none c.made) in omega (arith, more, same)
    by true test (inl at_it) =
        let once : asked_in c caller ≡ o.position = at_it in
        let now : suc (asked_by c.made caller) ≡ asked_by (c.made ++ record { event = event.Ask caller o.op x; answer = says.Lost } ∷ []) caller =
        sym (changed_at-here (asked_by c.made) caller (suc (asked_by c.made caller)))
        ∙ ap (λ (f : ℕ → ℕ). f caller)
        (asks-once c.made (record { event = event.Ask caller o.op x; answer = says.Lost }) caller o.op x refl) in
        omega (arith, once, now)
    by true test (inr (at_next, _)) = let few = le-is (asks_among caller (events_of c)) o.position test in let last =
        f.1 in absurd (omega (arith, few, last, at_next))

  -- where a call is given up
  gives-up : (caller : ℕ) (call : Option OpenCall) (lost : Bool) → c.group.gateways.call caller ≡ call → c.failed (gateway_of c.group.shape caller) ≡ lost
      → Spent c.group.shape c.failed c.lived
      (if_open call c.group.gateways (λ o. staged caller o (stage_given_up o.op o.stage) c.group.gateways))
      (c.made ++ stands_if lost (call_given_up (events_of c) caller call)) c.first
  gives-up caller None true is fails = still
  gives-up caller None false is fails = still
  gives-up caller (Some o) lost is fails = spent-call c.group.shape c.failed c.lived c.group.gateways
      (c.made ++ stands_if lost (given_up (events_of c) caller o o.stage)) c.first base caller
      (Some (record o { stage = stage_given_up o.op o.stage }))
      (by o.stage refl (here (c.made ++ stands_if lost (given_up (events_of c) caller o o.stage)) caller o is base))
    where
      lost-one : (x : ProcessId) (d : Bool) → o.stage ≡ AskedOf x → nat_le (asks_among caller (events_of c)) o.position
          ≡ d → Spent c.group.shape c.failed c.lived c.group.gateways (c.made ++ lost_ask d caller o.op x) c.first
      lost-one x false stage test = still
      lost-one x true stage test =
          let few = le-is (asks_among caller (events_of c)) o.position test in
          let last : suc o.position ≡ c.group.gateways.next caller =
          (subst (HoldsHere (c.made ++ []) caller o.position) stage (here (c.made ++ []) caller o is still)).1 in
          asking (record { event = event.Ask caller o.op x; answer = says.Lost }) caller o.op x refl (omega (arith, few, last))

      at : (stage : Stage) → o.stage ≡ stage → Spent c.group.shape c.failed c.lived c.group.gateways (c.made ++ given_up (events_of c) caller o stage) c.first
      at Unasked same = still
      at Unknown same = still
      at (TracedAt x) same = still
      at (Answered t n) same = still
      at (AskedOf x) same = lost-one x (nat_le (asks_among caller (events_of c)) o.position) same refl

      base : Spent c.group.shape c.failed c.lived c.group.gateways (c.made ++ stands_if lost (given_up (events_of c) caller o o.stage)) c.first
      base = which lost where
        which : (d : Bool) → Spent c.group.shape c.failed c.lived c.group.gateways (c.made ++ stands_if d (given_up (events_of c) caller o o.stage)) c.first
        which true = still
        which false = at o.stage refl

      -- a read that is given up is asked again
      reads : (key : List ℕ) (x : ProcessId) → o.op.act ≡ act.Get key → o.stage ≡ AskedOf x
          → c.failed (gateway_of c.group.shape caller) ≡ false
          → Reads (c.made ++ stands_if lost (given_up (events_of c) caller o o.stage)) caller o.position
      reads key x same stage gl = record {
        op = o.op;
        key = key;
        reads = same;
        low = subst (λ (d : Bool). o.position < asked_by (c.made ++ stands_if d (given_up (events_of c) caller o o.stage)) caller) (sym gl ∙ fails)
            (subst (λ (stage : Stage). o.position < asked_by (c.made ++ given_up (events_of c) caller o stage) caller)
            (sym stage) (asked-up caller o x is stage gl (nat_le (asks_among caller (events_of c)) o.position) refl));
        asks = subst (λ (stage : Stage). AskCall (c.made ++ stands_if lost (given_up (events_of c) caller o o.stage))
            caller (Some (record o { stage = stage }))) stage
            (subst (AskCall (c.made ++ stands_if lost (given_up (events_of c) caller o o.stage)) caller) is
            ((lost-asks c h l w caller o lost is).asks caller gl));
      }

      goes : (x : ProcessId) → o.stage ≡ AskedOf x → (a : Act) → o.op.act ≡ a
          → HoldsHere (c.made ++ stands_if lost (given_up (events_of c) caller o o.stage)) caller o.position (AskedOf x)
          → HoldsHere (c.made ++ stands_if lost (given_up (events_of c) caller o o.stage)) caller o.position (again a)
      goes x stage (act.Get key) same v = (
        (λ gl. all-last c.group.shape.k (c.made ++ stands_if lost (given_up (events_of c) caller o o.stage)) caller
            (c.first caller) (c.group.gateways.next caller) o.position v.1 (v.0 gl)
            (inr (inr (reads key x same stage gl)))),
        tt,
      )
      goes x stage (act.Set key flags expiry value) same v = v
      goes x stage (act.Add key flags expiry value) same v = v
      goes x stage (act.Replace key flags expiry value) same v = v
      goes x stage (act.Cas key flags expiry cas value) same v = v
      goes x stage (act.Delete key) same v = v
      goes x stage (act.Touch key expiry) same v = v
      goes x stage (act.Append key value) same v = v
      goes x stage (act.Prepend key value) same v = v
      goes x stage (act.Incr key amount) same v = v
      goes x stage (act.Decr key amount) same v = v

      by : (stage : Stage) → o.stage ≡ stage → HoldsHere (c.made ++ stands_if lost (given_up (events_of c) caller o o.stage)) caller o.position stage
          → HoldsHere (c.made ++ stands_if lost (given_up (events_of c) caller o o.stage)) caller o.position (stage_given_up o.op stage)
      by Unasked same v = v
      by Unknown same v = v
      by (TracedAt x) same v = v
      by (Answered t n) same v = v
      by (AskedOf x) same v = goes x same o.op.act refl v

  -- a call ends
  ends : (caller : ℕ)
      → Spent c.group.shape c.failed c.lived
      (record c.group.gateways { call = changed_at c.group.gateways.call caller None }) (c.made ++ []) c.first
  ends caller = spent-call c.group.shape c.failed c.lived c.group.gateways (c.made ++ []) c.first still caller None
      (call-ends c.group.shape.k (c.made ++ []) caller (c.failed (gateway_of c.group.shape caller))
      (c.lived (gateway_of c.group.shape caller)) (c.first caller) (c.group.gateways.next caller)
      (c.group.gateways.call caller) (still.calls caller))

  learns : (x p : ProcessId) (ts : List Told) → MayAct c.group (Learn x p) → c.group.gateways.answers x p ≡ ts
      → Spent c.group.shape c.failed c.lived (learned_first x p (c.group.signs.pinged p) ts c.group.gateways)
      (c.made ++ []) c.first
  learns x p [] may is = still
  learns x p (t ∷ rest) may is = spent-learns c.group.shape c.failed c.lived c.group.gateways (c.made ++ []) c.first
      still x p (c.group.signs.pinged p) t rest is lives alive where
        mine : gateway_of c.group.shape t.caller ≡ p
        mine = (subst (Each (λ (t : Told). gateway_of c.group.shape t.caller ≡ p)) is (h.positioned.theirs x p)).0

        lives : c.failed (gateway_of c.group.shape t.caller) ≡ false → Living c.group.shape c.failed x
        lives gl = (may.sender, by (c.failed x) refl) where
          by : (lost : Bool) → c.failed x ≡ lost → c.failed x ≡ false
          by false same = same
          by true same = cc (h.barred.cut p x may.here.member (ap c.failed (sym mine) ∙ gl) same, may.uncut)

        alive : (c.failed (gateway_of c.group.shape t.caller) ≡ false)
            ⊎ (c.group.signs.pinged p < c.lived (gateway_of c.group.shape t.caller))
            → c.failed (gateway_of c.group.shape t.caller) ≡ false
        alive (inl gl) = gl
        alive (inr early) = let at_p : c.group.signs.pinged (gateway_of c.group.shape t.caller) ≡ c.group.signs.pinged p =
            ap c.group.signs.pinged mine in let most = l.lively (gateway_of c.group.shape t.caller) in
            absurd (omega (arith, at_p, most, early))

  -- members fail
  permits : (p : ProcessId) (lost : Bool)
      → Spent c.group.shape (one_or lost c.failed (either c.failed (c.group.words.cut p)))
      (λ x. one_or (c.failed x) (c.lived x) (c.group.signs.pinged x)) c.group.gateways
      (c.made ++ stands_if lost (failures_at c.group.shape c.failed (c.group.words.cut p) (range_with_len 0 (c.group.shape.k + c.group.shape.m)))) c.first
  permits p lost = by lost where
    alive : (now : Processes) → ((x : ProcessId) → now x ≡ false → c.failed x ≡ false) → (g : ProcessId) (n : ℕ) → n ≤ c.group.signs.pinged g
        → (now g ≡ false) ⊎ (n < one_or (c.failed g) (c.lived g) (c.group.signs.pinged g)) → (c.failed g ≡ false) ⊎ (n < c.lived g)
    alive now lives g n low which = pick (c.failed g) refl which where
      pick : (lost : Bool) → c.failed g ≡ lost → (now g ≡ false)
          ⊎ (n < one_or lost (c.lived g) (c.group.signs.pinged g)) → (c.failed g ≡ false) ⊎ (n < c.lived g)
      pick false is which = inl is
      pick true is (inl same) = inl (lives g same)
      pick true is (inr early) = inr early

    fails : (now : Processes) (more : List Made) → ((x : ProcessId) → now x ≡ false → c.failed x ≡ false) → asked_by c.made ≡ asked_by (c.made ++ more)
        → Spent c.group.shape now (λ x. one_or (c.failed x) (c.lived x) (c.group.signs.pinged x)) c.group.gateways (c.made ++ more) c.first
    fails now more lives same = spent-more c.group.shape c.failed c.lived c.group.gateways c.made c.first b more now
        (λ x. one_or (c.failed x) (c.lived x) (c.group.signs.pinged x)) lives
        (λ caller o t n call stage which. was c h l w now
        (λ x. one_or (c.failed x) (c.lived x) (c.group.signs.pinged x)) (alive now lives) caller o t n call stage
        which)
        (λ caller. let all : asked_by c.made caller ≡ asked_by (c.made ++ more) caller = ap (λ (f : ℕ → ℕ). f caller)
        same in let low = b.asked caller in omega (arith, all, low))

    by : (lost : Bool) → Spent c.group.shape (one_or lost c.failed (either c.failed (c.group.words.cut p)))
        (λ x. one_or (c.failed x) (c.lived x) (c.group.signs.pinged x)) c.group.gateways
        (c.made ++ stands_if lost (failures_at c.group.shape c.failed (c.group.words.cut p) (range_with_len 0 (c.group.shape.k + c.group.shape.m)))) c.first
    by true = fails c.failed [] (λ x is. is) (quiet-none c.made)
    by false = fails (either c.failed (c.group.words.cut p))
        (failures_at c.group.shape c.failed (c.group.words.cut p)
        (range_with_len 0 (c.group.shape.k + c.group.shape.m)))
        (λ x out. (either-not c.failed (c.group.words.cut p) x out).0)
        (asks-quiet c.made
        (failures_at c.group.shape c.failed (c.group.words.cut p)
        (range_with_len 0 (c.group.shape.k + c.group.shape.m)))
        (failures-quiet c.group.shape c.failed (c.group.words.cut p)
        (range_with_len 0 (c.group.shape.k + c.group.shape.m))))

  pub spent-step : (a : Action) → MayAct c.group a → SpentAt (composed_with c a)
  spent-step (Begin caller op) may = begins caller op
  spent-step (Send caller x) may = sends caller x (c.group.gateways.call caller) refl
  spent-step (Read x p) may = by (c.group.gateways.requests x p) refl where
    by : (rs : List Request) → c.group.gateways.requests x p ≡ rs
        → Spent c.group.shape c.failed c.lived (read_first x p rs c.group.gateways) (c.made ++ []) c.first
    by [] is = still
    by (r ∷ rest) is = spent-read c.group.shape c.failed c.lived c.group.gateways (c.made ++ []) c.first still x p r rest is
  spent-step (Treat p place) may = treats p place (parked_at c.group p place) (c.failed p) may.member refl refl
  spent-step (Collect caller call p) may = spent-tell c.group c.failed c.lived c.group.gateways (c.made ++ made_by c (Collect caller call p)) c.first p
      (handed_to caller call (collect_from caller call (c.group.works.process p) (range_with_len 0 c.group.shape.k)).answer)
      (λ _. fated-handed c.group.shape c.failed (c.made ++ made_by c (Collect caller call p)) caller call
      (collect_from caller call (c.group.works.process p) (range_with_len 0 c.group.shape.k)).answer)
      (quiet (made_by c (Collect caller call p))
      (quiet-if c.made (c.failed p)
      (record {
        event = event.Collect caller call p;
        answer = (collect_from caller call (c.group.works.process p) (range_with_len 0 c.group.shape.k)).answer;
      })
      (λ _. refl)))
  spent-step (Flush p) may = quiet (made_by c (Flush p)) (quiet-if c.made (c.failed p) (record { event = event.Flush p; answer = says.Done }) (λ _. refl))
  spent-step (Learn x p) may = learns x p (c.group.gateways.answers x p) may refl
  spent-step (Receive x p) may = by (c.group.works.messages x p) where
    by : (ms : List Message) → Spent c.group.shape c.failed c.lived c.group.gateways (c.made ++ stands_if (c.failed p) (message_made x p ms)) c.first
    by [] = which (c.failed p) where
      which : (lost : Bool) → Spent c.group.shape c.failed c.lived c.group.gateways (c.made ++ stands_if lost []) c.first
      which true = still
      which false = still
    by (m ∷ rest) = quiet (stands_if (c.failed p) (record { event = event.Deliver x p; answer = says.Done } ∷ []))
        (quiet-if c.made (c.failed p) (record { event = event.Deliver x p; answer = says.Done }) (λ _. refl))
  spent-step (GiveUp caller) may = gives-up caller (c.group.gateways.call caller) (c.failed (gateway_of c.group.shape caller)) refl refl
  spent-step (Cut x p) may = still
  spent-step (Say p) may = still
  spent-step (Hear x p) may = still
  spent-step (Permit p) may = permits p (c.failed p)
  spent-step (Take x p) may = quiet (made_by c (Take x p)) (quiet-if c.made (c.failed p) (record { event = event.Deliver x p; answer = says.Done }) (λ _. refl))
  spent-step (Ping to p) may = still
  spent-step (Pong x p) may = still
  spent-step (Count x p) may = still
  spent-step (Show caller ping) may = ends caller
  spent-step (LetGo caller) may = ends caller
  spent-step (Stop p) may = still

-- all that is carried along a run
pub record Carries (c : Composed) : Type 0 where
  pub all : Whole c
  pub learned : LearnedAt c
  pub wanted : WantedAt c
  pub spent : SpentAt c

pub carries-from : (c : Composed) (actions : List Action) → AreActionsFrom c actions → Carries c → Carries (composed_from c actions)
carries-from c [] run b = b
carries-from c (a ∷ rest) run b = carries-from (composed_with c a) rest run.1 (record {
  all = whole-step c b.all a run.0;
  learned = learned-step c b.all b.learned a run.0;
  wanted = wanted-step c b.all b.learned b.wanted a run.0;
  spent = spent-step c b.all b.learned b.wanted b.spent a run.0;
})

pub carries : (s : Dimensions) (actions : List Action) → AreActions s actions → Carries (composed s actions)
carries s actions run = carries-from (opening_composed s) actions run.1 (record {
  all = whole-opening s run.0;
  learned = learned-opening s;
  wanted = wanted-opening s;
  spent = record {
    lanes = λ g x. tt;
    parks = λ x. tt;
    told = λ x g xl. tt;
    asked = λ caller. omega arith;
    calls = λ caller gl n low high. absurd (omega (arith, high));
  };
})
