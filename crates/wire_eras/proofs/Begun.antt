-- What clients begin is all that is asked, and all that the members' events ask.
use Rattle.std.proofs.Common.{ℕ, ◌≡◌, ◌+◌, Bool, true, false, ◌&&◌, List, [], ◌∷◌, ◌++◌, Option, Some, None, refl, sym, subst, ◌∙◌}
use Rattle.std.specs.Prelude.{not, ⊤}
use Rattle.std.specs.List.{range_with_len}
use Rattle.std.proofs.lemmas.List.{append_assoc, append-nil}
use Rattle.group_types.specs.Dimensions.{Dimensions}
use Rattle.group_types.specs.Each.{Each}
use Rattle.group_types.specs.Hash.{home_of}
use Rattle.group_types.specs.Names.{process_at}
use Rattle.group_types.specs.declared.process.ProcessId.{ProcessId}
use Rattle.group_types.proofs.Eaches.{each-append}
use Rattle.memc_table.specs.Act.{key_of}
use Rattle.memc_table.specs.Asked.{Asked}
use Rattle.group_message.specs.declared.message.Message.{Message}
use Rattle.group_calls.specs.declared.event.Answer.TheVariants as says
use Rattle.group_calls.specs.declared.event.Event.{Event}
use Rattle.group_calls.specs.declared.event.Event.TheVariants as event
use Rattle.group_run.specs.Asking.{collect_from}
use Rattle.group_run.specs.World.{front_if}
use Rattle.law_moves.proofs.Reading.{some-same}
use Rattle.group_wire.specs.Actions.{Action, Begin, Send, Read, Treat, Collect, Flush, Learn, Receive, GiveUp, Cut, Say}
use Rattle.group_wire.specs.Actions.{Hear, Permit, Take, Ping, Pong, Count, Show, LetGo, Stop}
use Rattle.group_wire.specs.Composed.{Composed, Made, call_given_up, composed_from, composed_with, events_of}
use Rattle.group_wire.specs.Composed.{failures_at, given_up, lost_ask, made_by, message_made, opening_composed}
use Rattle.group_wire.specs.Composed.{request_made, stands_if}
use Rattle.group_wire.specs.Sending.{parked_at, sent_on, treating}
use Rattle.group_wire.specs.Serving.{call_learned, gateways_after, handed_to, if_open, learned_first, read_first}
use Rattle.group_wire.specs.Serving.{request_treated, sends_by, stage_given_up, staged, tell, told_of}
use Rattle.group_wire.specs.Sets.{Processes, changed, changed_at, one_or, without_nth}
use Rattle.group_wire.specs.State.{Request, AskFor, TraceOf, Told, Stage, Unasked, AskedOf, Unknown, TracedAt, Answered, OpenCall, Gateways, Group, gateway_of}
use Rattle.group_wire.proofs.Changes.{changed-each, changed-pairs, changed_at-each, one_or-is}
use Rattle.group_wire.proofs.Requests.{each-entry, each-without}
use Rattle.wire_eras.specs.Begun.{AsksOnly, BeginsOnly, OnlyOpen}

-- a frame more on a wire
each-sent : {X : Type 0} (Q : X → Type 0) (cut : ProcessId → Processes) (wires : ProcessId → ProcessId → List X) (p q : ProcessId) (frame : X)
    → ((x y : ProcessId) → Each Q (wires x y)) → Q frame → (x y : ProcessId) → Each Q (sent_on cut wires p q frame x y)
each-sent Q cut wires p q frame all here = changed-pairs (λ x y frames. Each Q frames) wires p q (one_or (cut p q) (wires p q) (wires p q ++ frame ∷ []))
    (one_or-is (Each Q) (cut p q) (wires p q) (wires p q ++ frame ∷ []) (λ _. all p q) (λ _. each-append Q (wires p q) (frame ∷ []) (all p q) (here, tt))) all

module _ (P : Asked → Type 0) where
  -- an open call is of such an op
  abbrev Fits : Option OpenCall → Type 0
  Fits call = (o : OpenCall) → call ≡ Some o → P o.op

  fits-some : (o : OpenCall) → P o.op → Fits (Some o)
  fits-some o here q is = subst (λ (x : OpenCall). P x.op) (some-same o q is) here

  fits-none : Fits None
  fits-none q is = absurd (cc is)

  call-at : (calls : ℕ → Option OpenCall) (caller : ℕ) (now : Option OpenCall) → ((c : ℕ) → Fits (calls c)) → Fits now
      → (c : ℕ) → Fits (changed_at calls caller now c)
  call-at calls caller now all here = changed_at-each (λ c call. Fits call) calls caller now here (λ c _. all c)

  module _ (g : Group) (h : OnlyOpen P g.gateways) where
    sends : (caller : ℕ) (x : ProcessId) (o : OpenCall) (stage : Stage) → P o.op → OnlyOpen P (sends_by g caller x o stage)
    sends caller x o Unasked here = record {
      calls = call-at g.gateways.call caller (Some (record o { position = g.gateways.next caller; stage = AskedOf x }))
          h.calls (fits-some (record o { position = g.gateways.next caller; stage = AskedOf x }) here);
      requests = each-sent (AsksOnly P) g.words.cut g.gateways.requests (gateway_of g.shape caller) x
          (AskFor caller (g.gateways.next caller) o.op) h.requests here;
      parked = h.parked;
    }
    sends caller x o Unknown here = record {
      calls = call-at g.gateways.call caller (Some (record o { stage = TracedAt x })) h.calls (fits-some (record o { stage = TracedAt x }) here);
      requests = each-sent (AsksOnly P) g.words.cut g.gateways.requests (gateway_of g.shape caller) x
          (TraceOf caller o.position (home_of (key_of o.op.act) g.shape.k)) h.requests tt;
      parked = h.parked;
    }
    sends caller x o (AskedOf y) here = h
    sends caller x o (TracedAt y) here = h
    sends caller x o (Answered t n) here = h

    sends-any : (caller : ℕ) (x : ProcessId) (call : Option OpenCall) → g.gateways.call caller ≡ call
        → OnlyOpen P (if_open call g.gateways (λ o. sends_by g caller x o o.stage))
    sends-any caller x None is = h
    sends-any caller x (Some o) is = sends caller x o o.stage (h.calls caller o is)

    reads : (x p : ProcessId) (rs : List Request) → g.gateways.requests x p ≡ rs → OnlyOpen P (read_first x p rs g.gateways)
    reads x p [] is = h
    reads x p (r ∷ rest) is = record {
      calls = h.calls;
      requests = changed-pairs (λ y q rs. Each (AsksOnly P) rs) g.gateways.requests x p rest all.1 h.requests;
      parked = changed-each (λ q rs. Each (AsksOnly P) rs) g.gateways.parked p (g.gateways.parked p ++ r ∷ [])
          (each-append (AsksOnly P) (g.gateways.parked p) (r ∷ []) (h.parked p) (all.0, tt)) (λ q _. h.parked q);
    } where
      all : Each (AsksOnly P) (r ∷ rest)
      all = subst (Each (AsksOnly P)) is (h.requests x p)

    learned : (t : Told) (pinged : ℕ) (call : Option OpenCall) → Fits call → Fits (call_learned t pinged call)
    learned t pinged None fits = fits-none
    learned t pinged (Some o) fits = λ q is. subst (λ (x : OpenCall). P x.op) (some-same _ q is) (fits o refl)

    learns : (x p : ProcessId) (pinged : ℕ) (ts : List Told) → OnlyOpen P (learned_first x p pinged ts g.gateways)
    learns x p pinged [] = h
    learns x p pinged (t ∷ rest) = record {
      calls = call-at g.gateways.call t.caller (call_learned t pinged (g.gateways.call t.caller)) h.calls
          (learned t pinged (g.gateways.call t.caller) (h.calls t.caller));
      requests = h.requests;
      parked = h.parked;
    }

    gives-up : (caller : ℕ) (call : Option OpenCall) → g.gateways.call caller ≡ call
        → OnlyOpen P (if_open call g.gateways (λ o. staged caller o (stage_given_up o.op o.stage) g.gateways))
    gives-up caller None is = h
    gives-up caller (Some o) is = record {
      calls = call-at g.gateways.call caller (Some (record o { stage = stage_given_up o.op o.stage })) h.calls
          (fits-some (record o { stage = stage_given_up o.op o.stage }) (h.calls caller o is));
      requests = h.requests;
      parked = h.parked;
    }

    ends : (caller : ℕ) → OnlyOpen P (record g.gateways { call = changed_at g.gateways.call caller None })
    ends caller = record { calls = call-at g.gateways.call caller None h.calls fits-none; requests = h.requests; parked = h.parked }

  tells : (g : Group) (p : ProcessId) (ts : List Told) (gw : Gateways) → OnlyOpen P gw → OnlyOpen P (tell g p ts gw)
  tells g p [] gw h = h
  tells g p (t ∷ ts) gw h =
      tells g p ts (record gw { answers = sent_on g.words.cut gw.answers p (gateway_of g.shape t.caller) t })
      (record { calls = h.calls; requests = h.requests; parked = h.parked })

  treats : (g : Group) (p : ProcessId) (place : ℕ) (r : Option Request) → OnlyOpen P g.gateways → OnlyOpen P (request_treated g p place r)
  treats g p place None h = h
  treats g p place (Some r) h = tells g p (told_of r (treating g.shape r (g.works.process p)).answer)
      (record g.gateways { parked = changed g.gateways.parked p (without_nth (g.gateways.parked p) place) }) (record {
        calls = h.calls;
        requests = h.requests;
        parked = changed-each (λ q rs. Each (AsksOnly P) rs) g.gateways.parked p (without_nth (g.gateways.parked p) place)
            (each-without (AsksOnly P) (g.gateways.parked p) place (h.parked p)) (λ q _. h.parked q);
      })

  -- every action that begins no other call keeps it
  open-step : (g : Group) (a : Action) → BeginsOnly P a → OnlyOpen P g.gateways → OnlyOpen P (gateways_after g a)
  open-step g (Begin caller op) begins h = record {
    calls = call-at g.gateways.call caller (Some (record { op = op; position = 0; stage = Unasked })) h.calls
        (fits-some (record { op = op; position = 0; stage = Unasked }) begins);
    requests = h.requests;
    parked = h.parked;
  }
  open-step g (Send caller x) begins h = sends-any g h caller x (g.gateways.call caller) refl
  open-step g (Read x p) begins h = reads g h x p (g.gateways.requests x p) refl
  open-step g (Treat p place) begins h = treats g p place (parked_at g p place) h
  open-step g (Collect caller call p) begins h =
      tells g p (handed_to caller call
      (collect_from caller call (g.works.process p) (range_with_len 0 g.shape.k)).answer) g.gateways h
  open-step g (Flush p) begins h = h
  open-step g (Learn x p) begins h = learns g h x p (g.signs.pinged p) (g.gateways.answers x p)
  open-step g (Receive x p) begins h = h
  open-step g (GiveUp caller) begins h = gives-up g h caller (g.gateways.call caller) refl
  open-step g (Cut x p) begins h = h
  open-step g (Say p) begins h = h
  open-step g (Hear x p) begins h = h
  open-step g (Permit p) begins h = h
  open-step g (Take x p) begins h = h
  open-step g (Ping to p) begins h = h
  open-step g (Pong x p) begins h = h
  open-step g (Count x p) begins h = h
  open-step g (Show caller ping) begins h = ends g h caller
  open-step g (LetGo caller) begins h = ends g h caller
  open-step g (Stop p) begins h = h

  -- an event asks no other op
  abbrev pub EventAsks : Event → Type 0
  EventAsks (event.Ask caller op p) = P op
  EventAsks _ = ⊤

  abbrev MadeAsks : Made → Type 0
  MadeAsks x = EventAsks x.event

  stood : (lost : Bool) (made : List Made) → Each MadeAsks made → Each MadeAsks (stands_if lost made)
  stood true made all = tt
  stood false made all = all

  requested : (g : Group) (p : ProcessId) (place : ℕ) (r : Option Request) → OnlyOpen P g.gateways
      → parked_at g p place ≡ r → Each MadeAsks (request_made g p r)
  requested g p place None h is = tt
  requested g p place (Some (AskFor caller call op)) h is = (each-entry (AsksOnly P) (g.gateways.parked p) place (AskFor caller call op) is (h.parked p), tt)
  requested g p place (Some (TraceOf caller call d)) h is = (tt, tt)

  received : (x p : ProcessId) (ms : List Message) → Each MadeAsks (message_made x p ms)
  received x p [] = tt
  received x p (m ∷ ms) = (tt, tt)

  failures : (s : Dimensions) (failed set : Processes) (xs : List ℕ) → Each MadeAsks (failures_at s failed set xs)
  failures s failed set [] = tt
  failures s failed set (x ∷ xs) = by (set (process_at s x) && not (failed (process_at s x))) (failures s failed set xs) where
    by : (b : Bool) → Each MadeAsks (failures_at s failed set xs)
        → Each MadeAsks (front_if b (record { event = event.Fail (process_at s x) 0; answer = says.Done }) (failures_at s failed set xs))
    by true rest = (tt, rest)
    by false rest = rest

  lost : (b : Bool) (caller : ℕ) (op : Asked) (x : ProcessId) → P op → Each MadeAsks (lost_ask b caller op x)
  lost true caller op x here = (here, tt)
  lost false caller op x here = tt

  given : (events : List Event) (caller : ℕ) (o : OpenCall) (stage : Stage) → P o.op → Each MadeAsks (given_up events caller o stage)
  given events caller o (AskedOf x) here = lost _ caller o.op x here
  given events caller o Unasked here = tt
  given events caller o Unknown here = tt
  given events caller o (TracedAt x) here = tt
  given events caller o (Answered t n) here = tt

  call-given : (events : List Event) (g : Group) (caller : ℕ) (call : Option OpenCall) → OnlyOpen P g.gateways
      → g.gateways.call caller ≡ call → Each MadeAsks (call_given_up events caller call)
  call-given events g caller None h is = tt
  call-given events g caller (Some o) h is = given events caller o o.stage (h.calls caller o is)

  made-asks : (c : Composed) (a : Action) → OnlyOpen P c.group.gateways → Each MadeAsks (made_by c a)
  made-asks c (Begin caller op) h = tt
  made-asks c (Send caller x) h = tt
  made-asks c (Read x p) h = tt
  made-asks c (Treat p place) h = stood (c.failed p) (request_made c.group p (parked_at c.group p place))
      (requested c.group p place (parked_at c.group p place) h refl)
  made-asks c (Collect caller call p) h = stood (c.failed p) _ (tt, tt)
  made-asks c (Flush p) h = stood (c.failed p) _ (tt, tt)
  made-asks c (Learn x p) h = tt
  made-asks c (Receive x p) h = stood (c.failed p) (message_made x p (c.group.works.messages x p)) (received x p (c.group.works.messages x p))
  made-asks c (GiveUp caller) h = stood (c.failed (gateway_of c.group.shape caller))
      (call_given_up (events_of c) caller (c.group.gateways.call caller))
      (call-given (events_of c) c.group caller (c.group.gateways.call caller) h refl)
  made-asks c (Cut x p) h = tt
  made-asks c (Say p) h = tt
  made-asks c (Hear x p) h = tt
  made-asks c (Permit p) h = stood (c.failed p) _ (failures c.group.shape c.failed (c.group.words.cut p) (range_with_len 0 (c.group.shape.k + c.group.shape.m)))
  made-asks c (Take x p) h = stood (c.failed p) _ (tt, tt)
  made-asks c (Ping to p) h = tt
  made-asks c (Pong x p) h = tt
  made-asks c (Count x p) h = tt
  made-asks c (Show caller ping) h = tt
  made-asks c (LetGo caller) h = tt
  made-asks c (Stop p) h = tt

  -- actions that begin no other calls
  pub record MadeOnly (c d : Composed) : Type 0 where
    pub more : List Made
    pub is : d.made ≡ c.made ++ more
    pub asks : Each MadeAsks more

  pub only-from : (c : Composed) (actions : List Action) → Each (BeginsOnly P) actions → OnlyOpen P c.group.gateways → MadeOnly c (composed_from c actions)
  only-from c [] begins h = record { more = []; is = sym (append-nil c.made); asks = tt }
  only-from c (a ∷ rest) begins h =
      let next = only-from (composed_with c a) rest begins.1 (open-step c.group a begins.0 h) in
      record {
        more = made_by c a ++ next.more;
        is = next.is ∙ append_assoc c.made (made_by c a) next.more;
        asks = each-append MadeAsks (made_by c a) next.more (made-asks c a h) next.asks;
      }

  pub open-start : (s : Dimensions) → OnlyOpen P (opening_composed s).group.gateways
  open-start s = record { calls = λ caller o is. absurd (cc is); requests = λ x p. tt; parked = λ p. tt }
