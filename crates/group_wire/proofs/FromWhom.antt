-- Requests and answers name callers of those who sent them, or to whom they come.
use Rattle.std.proofs.Common.{ℕ, ◌≡◌, ◌<◌, List, [], ◌∷◌, ◌++◌, Option, Some, None, refl, sym, subst}
use Rattle.std.specs.List.{range_with_len}
use Rattle.group_types.specs.Dimensions.{Dimensions, callers}
use Rattle.group_types.specs.Each.{Each}
use Rattle.group_types.specs.Hash.{home_of}
use Rattle.group_types.specs.Names.{IsProcess}
use Rattle.group_types.specs.declared.process.ProcessId.{ProcessId}
use Rattle.group_types.proofs.Eaches.{each-append}
use Rattle.memc_table.specs.Act.{key_of}
use Rattle.group_calls.specs.declared.event.Answer.{Answer}
use Rattle.group_calls.specs.declared.event.Answer.TheVariants as says
use Rattle.group_run.specs.Asking.{collect_from}
use Rattle.group_wire.specs.Actions.{Action, Begin, Send, Read, Treat, Collect, Flush, Learn, Receive, GiveUp, Cut, Say}
use Rattle.group_wire.specs.Actions.{Hear, Permit, Take, Ping, Pong, Count, Show, LetGo, Stop}
use Rattle.group_wire.specs.Composed.{AreActionsFrom, Composed, composed_from, composed_with, opening_composed}
use Rattle.group_wire.specs.FromWhom.{CallersAreTheirs, IsCallerOf, NameTheirCallers, requested_by}
use Rattle.group_wire.specs.May.{MayAct}
use Rattle.group_wire.specs.Sets.{Processes, changed, one_or, without_nth}
use Rattle.group_wire.specs.State.{Request, AskFor, TraceOf, Told, Stage, Unasked, AskedOf, Unknown, TracedAt, Answered, OpenCall, Gateways, Group, gateway_of}
use Rattle.group_wire.specs.Sending.{parked_at, sent_on, treating}
use Rattle.group_wire.specs.Serving.{gateways_after, handed_to, if_open, learned_first, read_first, request_treated}
use Rattle.group_wire.specs.Serving.{sends_by, stage_given_up, staged, tell, told_of}
use Rattle.group_wire.proofs.Changes.{changed-each, changed-pairs, one_or-is}
use Rattle.group_wire.proofs.Requests.{each-entry, each-without}

-- a frame more on a wire
each-sent : {X : Type 0} (P : ProcessId → ProcessId → X → Type 0) (cut : ProcessId → Processes)
    (wires : ProcessId → ProcessId → List X) (p q : ProcessId) (frame : X)
    → ((x y : ProcessId) → Each (P x y) (wires x y)) → P p q frame → (x y : ProcessId) → Each (P x y) (sent_on cut wires p q frame x y)
each-sent P cut wires p q frame all here = changed-pairs (λ x y frames. Each (P x y) frames) wires p q (one_or (cut p q) (wires p q) (wires p q ++ frame ∷ []))
    (one_or-is (Each (P p q)) (cut p q) (wires p q) (wires p q ++ frame ∷ []) (λ _. all p q)
    (λ _. each-append (P p q) (wires p q) (frame ∷ []) (all p q) (here, tt))) all

abbrev OfMember : Dimensions → Request → Type 0
OfMember s r = (requested_by r < callers) × IsProcess s (gateway_of s (requested_by r))

abbrev IsLow : Told → Type 0
IsLow t = t.caller < callers

module _ (g : Group) (h : NameTheirCallers g.shape g.gateways) where
  -- a request more on a wire
  asks : (caller : ℕ) (x : ProcessId) (r : Request) → requested_by r ≡ caller → caller < callers
      → (y q : ProcessId) → Each (λ (r : Request). IsCallerOf g.shape y (requested_by r))
      (sent_on g.words.cut g.gateways.requests (gateway_of g.shape caller) x r y q)
  asks caller x r same low = each-sent (λ y q (r : Request). IsCallerOf g.shape y (requested_by r)) g.words.cut
      g.gateways.requests (gateway_of g.shape caller) x r h.requests
      (subst (λ (n : ℕ). IsCallerOf g.shape (gateway_of g.shape caller) n) (sym same) (low, refl))

  sends : (caller : ℕ) (x : ProcessId) (o : OpenCall) (stage : Stage) → caller < callers → NameTheirCallers g.shape (sends_by g caller x o stage)
  sends caller x o Unasked low =
      record {
        answers = h.answers;
        requests = asks caller x (AskFor caller (g.gateways.next caller) o.op) refl low;
        parked = h.parked;
      }
  sends caller x o Unknown low =
      record {
        answers = h.answers;
        requests = asks caller x (TraceOf caller o.position (home_of (key_of o.op.act) g.shape.k)) refl low;
        parked =
            h.parked;
      }
  sends caller x o (AskedOf y) low = h
  sends caller x o (TracedAt y) low = h
  sends caller x o (Answered t n) low = h

  sends-any : (caller : ℕ) (x : ProcessId) (call : Option OpenCall) → caller < callers
      → NameTheirCallers g.shape (if_open call g.gateways (λ o. sends_by g caller x o o.stage))
  sends-any caller x None low = h
  sends-any caller x (Some o) low = sends caller x o o.stage low

  reads : (x p : ProcessId) (rs : List Request) → IsProcess g.shape x → g.gateways.requests x p ≡ rs → NameTheirCallers g.shape (read_first x p rs g.gateways)
  reads x p [] xin is = h
  reads x p (r ∷ rest) xin is = record {
    answers = h.answers;
    requests = changed-pairs (λ y q rs. Each (λ (r : Request). IsCallerOf g.shape y (requested_by r)) rs) g.gateways.requests x p rest all.1 h.requests;
    parked = changed-each (λ q rs. Each (OfMember g.shape) rs) g.gateways.parked p (g.gateways.parked p ++ r ∷ [])
        (each-append (OfMember g.shape) (g.gateways.parked p) (r ∷ []) (h.parked p)
        ((all.0.0, subst (IsProcess g.shape) (sym all.0.1) xin), tt)) (λ q _. h.parked q);
  } where
    all : Each (λ (r : Request). IsCallerOf g.shape x (requested_by r)) (r ∷ rest)
    all = subst (Each (λ (r : Request). IsCallerOf g.shape x (requested_by r))) is (h.requests x p)

  learns : (x p : ProcessId) (pinged : ℕ) (ts : List Told) → g.gateways.answers x p ≡ ts → NameTheirCallers g.shape (learned_first x p pinged ts g.gateways)
  learns x p pinged [] is = h
  learns x p pinged (t ∷ rest) is = record {
    answers = changed-pairs (λ y q ts. Each (λ (t : Told). IsCallerOf g.shape q t.caller) ts) g.gateways.answers x p rest
        (subst (Each (λ (t : Told). IsCallerOf g.shape p t.caller)) is (h.answers x p)).1 h.answers;
    requests = h.requests;
    parked = h.parked;
  }

-- what is told goes to the callers' gateways
tells : (g : Group) (p : ProcessId) (ts : List Told) (gw : Gateways) → NameTheirCallers g.shape gw → Each IsLow ts → NameTheirCallers g.shape (tell g p ts gw)
tells g p [] gw h low = h
tells g p (t ∷ ts) gw h low = tells g p ts (record gw { answers = sent_on g.words.cut gw.answers p (gateway_of g.shape t.caller) t }) (record {
  answers = each-sent (λ x q (t : Told). IsCallerOf g.shape q t.caller) g.words.cut gw.answers p (gateway_of g.shape t.caller) t h.answers (low.0, refl);
  requests = h.requests;
  parked = h.parked;
}) low.1

told-low : (r : Request) (a : Answer) → requested_by r < callers → Each IsLow (told_of r a)
told-low (AskFor caller call op) a low = by a where
  by : (a : Answer) → Each IsLow (told_of (AskFor caller call op) a)
  by (says.Ticket n) = tt
  by (says.Reply reply) = (low, tt)
  by says.NotYet = (low, tt)
  by says.NoSpace = (low, tt)
  by (says.Retry cause) = (low, tt)
  by says.Moved = (low, tt)
  by says.Lost = (low, tt)
  by says.Down = (low, tt)
  by says.Idle = (low, tt)
  by says.Stranger = (low, tt)
  by says.Done = (low, tt)
  by says.AlreadyDead = (low, tt)
  by says.Gone = (low, tt)
  by (says.Stale n) = (low, tt)
told-low (TraceOf caller call d) a low = by a where
  by : (a : Answer) → Each IsLow (told_of (TraceOf caller call d) a)
  by (says.Ticket n) = tt
  by (says.Reply reply) = (low, tt)
  by says.NotYet = (low, tt)
  by says.NoSpace = (low, tt)
  by (says.Retry cause) = (low, tt)
  by says.Moved = (low, tt)
  by says.Lost = (low, tt)
  by says.Down = (low, tt)
  by says.Idle = (low, tt)
  by says.Stranger = (low, tt)
  by says.Done = (low, tt)
  by says.AlreadyDead = (low, tt)
  by says.Gone = (low, tt)
  by (says.Stale n) = (low, tt)

handed-low : (caller call : ℕ) (a : Answer) → caller < callers → Each IsLow (handed_to caller call a)
handed-low caller call (says.Reply reply) low = (low, tt)
handed-low caller call (says.Ticket n) low = tt
handed-low caller call says.NotYet low = tt
handed-low caller call says.NoSpace low = tt
handed-low caller call (says.Retry cause) low = tt
handed-low caller call says.Moved low = tt
handed-low caller call says.Lost low = tt
handed-low caller call says.Down low = tt
handed-low caller call says.Idle low = tt
handed-low caller call says.Stranger low = tt
handed-low caller call says.Done low = tt
handed-low caller call says.AlreadyDead low = tt
handed-low caller call says.Gone low = tt
handed-low caller call (says.Stale n) low = tt

treats : (g : Group) (p : ProcessId) (place : ℕ) (r : Option Request) → NameTheirCallers g.shape g.gateways
    → parked_at g p place ≡ r → NameTheirCallers g.shape (request_treated g p place r)
treats g p place None h is = h
treats g p place (Some r) h is = tells g p (told_of r (treating g.shape r (g.works.process p)).answer)
    (record g.gateways { parked = changed g.gateways.parked p (without_nth (g.gateways.parked p) place) }) (record {
      answers = h.answers;
      requests = h.requests;
      parked = changed-each (λ q rs. Each (OfMember g.shape) rs) g.gateways.parked p (without_nth (g.gateways.parked p) place)
          (each-without (OfMember g.shape) (g.gateways.parked p) place (h.parked p)) (λ q _. h.parked q);
    }) (told-low r (treating g.shape r (g.works.process p)).answer (each-entry (OfMember g.shape) (g.gateways.parked p) place r is (h.parked p)).0)

-- every action that may come keeps it
theirs-step : (g : Group) (a : Action) → MayAct g a → NameTheirCallers g.shape g.gateways → NameTheirCallers g.shape (gateways_after g a)
theirs-step g (Begin caller op) may h = record { answers = h.answers; requests = h.requests; parked = h.parked }
theirs-step g (Send caller x) may h = sends-any g h caller x (g.gateways.call caller) may.0.low
theirs-step g (Read x p) may h = reads g h x p (g.gateways.requests x p) may.sender refl
theirs-step g (Treat p place) may h = treats g p place (parked_at g p place) h refl
theirs-step g (Collect caller call p) may h =
    tells g p (handed_to caller call (collect_from caller call (g.works.process p) (range_with_len 0 g.shape.k)).answer)
    g.gateways h
    (handed-low caller call (collect_from caller call (g.works.process p) (range_with_len 0 g.shape.k)).answer may.0)
theirs-step g (Flush p) may h = h
theirs-step g (Learn x p) may h = learns g h x p (g.signs.pinged p) (g.gateways.answers x p) refl
theirs-step g (Receive x p) may h = h
theirs-step g (GiveUp caller) may h = by (g.gateways.call caller) where
  by : (call : Option OpenCall) → NameTheirCallers g.shape (if_open call g.gateways (λ o. staged caller o (stage_given_up o.op o.stage) g.gateways))
  by None = h
  by (Some o) = record { answers = h.answers; requests = h.requests; parked = h.parked }
theirs-step g (Cut x p) may h = h
theirs-step g (Say p) may h = h
theirs-step g (Hear x p) may h = h
theirs-step g (Permit p) may h = h
theirs-step g (Take x p) may h = h
theirs-step g (Ping to p) may h = h
theirs-step g (Pong x p) may h = h
theirs-step g (Count x p) may h = h
theirs-step g (Show caller ping) may h = record { answers = h.answers; requests = h.requests; parked = h.parked }
theirs-step g (LetGo caller) may h = record { answers = h.answers; requests = h.requests; parked = h.parked }
theirs-step g (Stop p) may h = h

theirs-from : (c : Composed) (actions : List Action) → AreActionsFrom c actions
    → NameTheirCallers c.group.shape c.group.gateways
    → NameTheirCallers c.group.shape (composed_from c actions).group.gateways
theirs-from c [] run h = h
theirs-from c (a ∷ rest) run h = theirs-from (composed_with c a) rest run.1 (theirs-step c.group a run.0 h)

pub callers_are_theirs : CallersAreTheirs
callers_are_theirs s actions run = theirs-from (opening_composed s) actions run.1 (record { answers = λ x p. tt; requests = λ x p. tt; parked = λ p. tt })
