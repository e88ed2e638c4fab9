-- All that holds along runs of a group on its machines, at once: each action keeps it.
use Rattle.std.proofs.Common.{ℕ, zero, suc, ◌≡◌, ◌<◌, ◌≤◌, ◌+◌, nat_le, Bool, true, false, List, [], ◌∷◌, ◌++◌, Option}
use Rattle.std.proofs.Common.{Some, None, length, take, map, refl, sym, ap, subst, ◌∙◌, arith}
use Rattle.std.proofs.lemmas.List.{append-nil}
use Rattle.std.specs.Prelude.{slice_get}
use Rattle.std.specs.List.{range_with_len}
use Rattle.group_types.specs.Dimensions.{Dimensions}
use Rattle.group_types.specs.Names.{IsProcess}
use Rattle.group_types.specs.Shape.{IsShape}
use Rattle.group_types.specs.declared.process.ProcessId.{ProcessId}
use Rattle.memc_table.specs.Asked.{Asked}
use Rattle.memc_table.specs.declared.reply.Reply.{Reply}
use Rattle.group_message.specs.declared.message.Message.{Message}
use Rattle.group_message.specs.declared.message.Message.TheVariants as tells
use Rattle.group_calls.specs.Turns.{Turn, CallName, asks_in, asks_of}
use Rattle.group_calls.specs.Within.{IsAsk, IsLoggedSince}
use Rattle.group_calls.specs.declared.event.Answer.{Answer}
use Rattle.group_calls.specs.declared.event.Answer.TheVariants as says
use Rattle.group_calls.specs.declared.event.Event.{Event}
use Rattle.group_calls.specs.declared.event.Event.TheVariants as event
use Rattle.group_run.specs.Applying.{ProcessStep}
use Rattle.group_run.specs.Asking.{collect_from}
use Rattle.group_run.specs.Receiving.{receive}
use Rattle.group_run.specs.World.{World, after, flush_process, opening, step, turns_from, turns_of}
use Rattle.group_run.specs.History.{no_history}
use Rattle.group_run.specs.Replica.{callers}
use Rattle.group_types.proofs.Lists.{at-replicate}
use Rattle.law_moves.specs.State.{state_of}
use Rattle.law_moves.proofs.Runs.{runs_move}
use Rattle.law_moves.proofs.State.{Opens}
use Rattle.law_log.proofs.Turnings.{asks-self, get-last}
use Rattle.law_headline.proofs.Headlines.{headline_always}
use Rattle.law_answers.proofs.Entries.{turns-more}
use Rattle.group_wire.specs.Actions.{Action, Begin, Send, Read, Treat, Collect, Flush, Learn, Receive, GiveUp, Cut, Say}
use Rattle.group_wire.specs.Actions.{Hear, Permit, Take, Ping, Pong, Count, Show, LetGo, Stop}
use Rattle.group_run.specs.Causes.{asks_among}
use Rattle.group_wire.specs.Composed.{AreActions, AreActionsFrom, Composed, Made, call_given_up, composed}
use Rattle.group_wire.specs.Composed.{composed_from, composed_with, events_of, failures_at, given_up, lost_ask}
use Rattle.group_wire.specs.Composed.{message_made, opening_composed, request_made, stands_if}
use Rattle.group_wire.specs.May.{MayAct, awaited_member, call_waits_for}
use Rattle.group_wire.specs.Sets.{Processes, changed, changed_from, either, one_or, with_one}
use Rattle.group_wire.specs.State.{Request, AskFor, TraceOf, Stage, Unasked, AskedOf, Unknown, TracedAt, Answered, OpenCall, Works, gateway_of}
use Rattle.group_wire.specs.Sending.{heard_first, parked_at, stepped, treating, words_after, works_received, works_treated}
use Rattle.group_wire.proofs.Barrier.{Barred, barred-opening, barred-step}
use Rattle.group_wire.proofs.Changes.{changed-each, grown-set}
use Rattle.group_wire.proofs.Composing.{Composes, composes-ask, composes-collect, composes-flush, composes-lost}
use Rattle.group_wire.proofs.Composing.{composes-receive, composes-take, composes-trace}
use Rattle.group_wire.proofs.Extending.{Makes, events-more, events_in, nodes-many}
use Rattle.group_wire.proofs.Failing.{composes-permit}
use Rattle.group_wire.proofs.Mirrors.{Mirrors, mirrors-cut, mirrors-ghost, mirrors-ghost-read, mirrors-others}
use Rattle.group_wire.proofs.Placing.{PositionedAt, positioned-opening, positioned-step}
use Rattle.group_wire.proofs.Positions.{CallFits, StageFits, asked_by, asked_in, asks-made}
use Rattle.group_wire.proofs.Requests.{FitsAsked, Living, each-entry, waits}
use Rattle.group_wire.proofs.Signs.{Signed, signed-opening, signed-step}

-- turns are of the events that were made
pub turn-events : (w : World) (es : List Event) (caller : ℕ) → asks_of caller (turns_from w es) ≡ asks_among caller es
turn-events w [] caller = refl
turn-events w (e ∷ es) caller = let rest = turn-events (step w e).world es caller in omega (arith, rest)

-- an ask of a run is counted behind those before it
pub asks-past : (caller : ℕ) (turns : List Turn) (j : ℕ) (t : Turn) → slice_get turns j ≡ Some t
    → asks_of caller (take j turns) + asks_in caller t.event ≤ asks_of caller turns
asks-past caller [] j t is = absurd (cc is)
asks-past caller (u ∷ turns) zero t is = let same : asks_in caller u.event ≡ asks_in caller t.event =
    ap (λ (o : Option Turn). elim o [ None ↦ asks_in caller u.event | Some x ↦ asks_in caller x.event ]) is in
    omega (arith, same)
asks-past caller (u ∷ turns) (suc j) t is = let rest = asks-past caller turns j t is in omega (arith, rest)

-- the calls that runs reply to were asked
pub asked-of-logged : (s : Dimensions) (made : List Made) → Makes s made
    → (name : CallName) (op : Asked) (j : ℕ) (ask : Turn) → IsAsk (turns_of s (events_in made)) j ask name op
    → name.call < asked_by made name.caller
asked-of-logged s made m name op j ask is =
    let past = asks-past name.caller (turns_of s (events_in made)) j ask is.there in
    let one : asks_in name.caller ask.event ≡ 1 = ap (asks_in name.caller) is.event ∙ asks-self name.caller op is.at in
    let place = is.place in
    let all = turn-events (opening s) (events_in made) name.caller in
    omega (arith, past, one, place, all)

-- what is handed out was asked
pub handed-asked : (s : Dimensions) (made : List Made) (caller call : ℕ) (p : ProcessId) (reply : Reply) → Makes s made
    → Makes s (made ++ record { event = event.Collect caller call p; answer = says.Reply reply } ∷ [])
    → call < asked_by made caller
handed-asked s made caller call p reply m n =
    let logged : IsLoggedSince (turns_of s es) (length (turns_of s (events_in made))) (record { caller = caller; call = call }) reply =
    (headline_always s es n.run).one_log.within.later (length (turns_of s (events_in made))) turn
    (record { caller = caller; call = call }) reply there fetches answer in
    let low = asked-of-logged s (made ++ x ∷ []) n (record { caller = caller; call = call }) logged.op logged.j logged.ask logged.asked in
    let same = asks-made caller made (x ∷ []) in
    omega (arith, low, same)
  where
    x : Made
    x = record { event = event.Collect caller call p; answer = says.Reply reply }

    es : List Event
    es = events_in (made ++ record { event = event.Collect caller call p; answer = says.Reply reply } ∷ [])

    turn : Turn
    turn = (step (after s (events_in made)) (event.Collect caller call p)).turn

    turns : turns_of s
        (events_in (made ++ record { event = event.Collect caller call p; answer = says.Reply reply } ∷ []))
        ≡ turns_of s (events_in made) ++ (step (after s (events_in made)) (event.Collect caller call p)).turn ∷ []
    turns = ap (turns_of s)
        (events-more made (record { event = event.Collect caller call p; answer = says.Reply reply }))
        ∙ turns-more (opening s) (events_in made) (event.Collect caller call p)

    there : slice_get
        (turns_of s (events_in (made ++ record { event = event.Collect caller call p; answer = says.Reply reply }
        ∷ []))) (length (turns_of s (events_in made)))
        ≡ Some (step (after s (events_in made)) (event.Collect caller call p)).turn
    there = ap (λ (ts : List Turn). slice_get ts (length (turns_of s (events_in made)))) turns
        ∙ get-last (turns_of s (events_in made)) (step (after s (events_in made)) (event.Collect caller call p)).turn

    fetches : (caller ≡ caller) × (call ≡ call)
    fetches = (refl, refl)

    last-of : (ts : List Turn) (t : Turn) (ms : List Made) (y : Made) → map (λ (t : Turn). t.answer) (ts ++ t ∷ [])
        ≡ map (λ x. x.answer) (ms ++ y ∷ []) → map (λ (t : Turn). t.answer) ts ≡ map (λ x. x.answer) ms
        → t.answer ≡ y.answer
    last-of [] t [] y same before = ap first same where
      first : List Answer → Answer
      first [] = t.answer
      first (a ∷ rest) = a
    last-of [] t (m ∷ ms) y same before = cc before
    last-of (u ∷ ts) t [] y same before = cc before
    last-of (u ∷ ts) t (m ∷ ms) y same before = last-of ts t ms y (ap rest same) (ap rest before) where
      rest : List Answer → List Answer
      rest [] = []
      rest (a ∷ more) = more

    answer : (step (after s (events_in made)) (event.Collect caller call p)).turn.answer ≡ says.Reply reply
    answer = last-of (turns_of s (events_in made)) (step (after s (events_in made)) (event.Collect caller call p)).turn
        made (record { event = event.Collect caller call p; answer = says.Reply reply })
        (sym (ap (λ (ts : List Turn). map (λ (t : Turn). t.answer) ts) turns) ∙ n.answers) m.answers

-- all that holds
pub record Whole (c : Composed) : Type 0 where
  pub limits : IsShape c.group.shape
  pub barred : Barred c.group.shape c.group.words c.failed
  pub signed : Signed c.group.signs c.failed c.lived
  pub positioned : PositionedAt c.group c.failed (asked_in c)
  pub composes : Composes c.group.shape c.group.words.cut c.failed c.group.words.taken c.group.works c.made

-- the machine's part of what an action leaves
abbrev pub ComposesAt : Composed → Type 0
ComposesAt c = Composes c.group.shape c.group.words.cut c.failed c.group.words.taken c.group.works c.made

module _ (c : Composed) (h : Whole c) where
  abbrev s : Dimensions
  s = c.group.shape

  -- where no event is made, and members that haven't failed stay as they are
  still : (cut : ProcessId → Processes) (taken : ProcessId → Processes) (works : Works)
      → Mirrors c.group.shape (after c.group.shape (events_in c.made)).nodes cut c.failed taken works
      → Composes c.group.shape cut c.failed taken works (c.made ++ [])
  still cut taken works mirrors = subst (λ (m : List Made). Composes c.group.shape cut c.failed taken works m)
      (sym (append-nil c.made)) (record { makes = h.composes.makes; mirrors = mirrors })

  same : Composes c.group.shape c.group.words.cut c.failed c.group.words.taken c.group.works (c.made ++ [])
  same = still c.group.words.cut c.group.words.taken c.group.works h.composes.mirrors

  many : length (after c.group.shape (events_in c.made)).nodes ≡ c.group.shape.k + c.group.shape.m
  many = nodes-many c.group.shape (events_in c.made) h.composes.makes.run

  ghost-step : (p : ProcessId) (t : ProcessStep) → c.failed p ≡ true → Composes c.group.shape c.group.words.cut c.failed
      c.group.words.taken (stepped c.group.words.cut p t c.group.works) (c.made ++ [])
  ghost-step p t lost = still c.group.words.cut c.group.words.taken (stepped c.group.words.cut p t c.group.works)
      (mirrors-ghost c.group.shape (after c.group.shape (events_in c.made)).nodes many c.group.words.cut c.failed
      c.group.words.taken c.group.works h.composes.mirrors p t lost)

  treats : (p : ProcessId) (place : ℕ) (r : Option Request) (lost : Bool) → IsProcess c.group.shape p → parked_at c.group p place ≡ r → c.failed p ≡ lost
      → Composes c.group.shape c.group.words.cut c.failed c.group.words.taken
      (works_treated c.group.shape c.group.words.cut p r c.group.works)
      (c.made ++ stands_if lost (request_made c.group p r))
  treats p place None true pin is lost = same
  treats p place None false pin is lost = same
  treats p place (Some r) true pin is lost = ghost-step p (treating c.group.shape r (c.group.works.process p)).step lost
  treats p place (Some (AskFor caller call op)) false pin is lives =
      let fits : FitsAsked c.group.shape (asked_in c) (AskFor caller call op) =
      each-entry (FitsAsked c.group.shape (asked_in c)) (c.group.gateways.parked p) place (AskFor caller call op) is
      (h.positioned.placed.parks p (pin, lives)) in
      composes-ask c.group.shape c.group.words.cut c.failed c.group.words.taken c.group.works c.made h.composes
      h.barred.lost p caller call op (pin, lives) fits.0 fits.2 fits.1
  treats p place (Some (TraceOf caller call d)) false pin is lives =
      let fits : FitsAsked c.group.shape (asked_in c) (TraceOf caller call d) =
      each-entry (FitsAsked c.group.shape (asked_in c)) (c.group.gateways.parked p) place (TraceOf caller call d) is
      (h.positioned.placed.parks p (pin, lives)) in
      composes-trace c.group.shape c.group.words.cut c.failed c.group.words.taken c.group.works c.made h.composes
      h.barred.lost p caller call d (pin, lives) fits.0 fits.1 fits.2

  was-living : (x p : ProcessId) → IsProcess c.group.shape p → c.failed p ≡ false → c.group.words.cut p x ≡ false → c.failed x ≡ false
  was-living x p pin lives uncut = by (c.failed x) refl where
    by : (lost : Bool) → c.failed x ≡ lost → c.failed x ≡ false
    by false is = is
    by true is = cc (h.barred.cut p x pin lives is, uncut)

  receives : (x p : ProcessId) (ms : List Message) (lost : Bool) → MayAct c.group (Receive x p) → c.group.works.messages x p ≡ ms → c.failed p ≡ lost
      → Composes c.group.shape c.group.words.cut c.failed c.group.words.taken
      (works_received c.group.shape c.group.words.cut x p ms c.group.works)
      (c.made ++ stands_if lost (message_made x p ms))
  receives x p [] true may is lost = same
  receives x p [] false may is lost = same
  receives x p (m ∷ rest) true may is lost = still c.group.words.cut c.group.words.taken _
      (mirrors-ghost c.group.shape (after c.group.shape (events_in c.made)).nodes many c.group.words.cut c.failed
      c.group.words.taken (record c.group.works { messages = changed_from c.group.works.messages x p rest })
      (mirrors-ghost-read c.group.shape (after c.group.shape (events_in c.made)).nodes many c.group.words.cut c.failed
      c.group.words.taken c.group.works h.composes.mirrors x p rest lost) p
      (receive c.group.shape x m (c.group.works.process p)) lost)
  receives x p (m ∷ rest) false may is lives =
      composes-receive c.group.shape c.group.words.cut c.failed c.group.words.taken c.group.works c.made h.composes h.barred.lost x p m rest
      (may.reads.sender, was-living x p may.reads.here.member lives may.reads.uncut) (may.reads.here.member, lives) may.other is

  takes : (x p : ProcessId) (lost : Bool) → MayAct c.group (Take x p) → c.failed p ≡ lost
      → Composes c.group.shape c.group.words.cut c.failed
      (changed c.group.words.taken p (with_one (c.group.words.taken p) x))
      (stepped c.group.words.cut p (receive c.group.shape x (tells.Notice x) (c.group.works.process p)) c.group.works)
      (c.made ++ stands_if lost (record { event = event.Deliver x p; answer = says.Done } ∷ []))
  takes x p false may lives =
      composes-take c.group.shape c.group.words.cut c.failed c.group.words.taken c.group.works c.made h.composes
      h.barred.lost x p may.1 (h.barred.permits p may.0.member lives x may.2) (may.0.member, lives) may.3
  takes x p true may lost = still c.group.words.cut (changed c.group.words.taken p (with_one (c.group.words.taken p) x)) _
      (mirrors-others c.group.shape (after c.group.shape (events_in c.made)).nodes many c.group.words.cut c.failed
      c.group.words.taken
      (stepped c.group.words.cut p (receive c.group.shape x (tells.Notice x) (c.group.works.process p)) c.group.works)
      (mirrors-ghost c.group.shape (after c.group.shape (events_in c.made)).nodes many c.group.words.cut c.failed
      c.group.words.taken c.group.works h.composes.mirrors p
      (receive c.group.shape x (tells.Notice x) (c.group.works.process p)) lost)
      (changed c.group.words.taken p (with_one (c.group.words.taken p) x))
      (stepped c.group.words.cut p (receive c.group.shape x (tells.Notice x) (c.group.works.process p)) c.group.works)
      (λ q ql. refl) (λ y q yl ql. refl)
      (λ q y ql. changed-each (λ q set. Living c.group.shape c.failed q → set y ≡ c.group.words.taken q y)
      c.group.words.taken p (with_one (c.group.words.taken p) x) (λ pl. cc (pl.1, lost)) (λ q _ _. refl) q ql))

  -- an ask that is given up is asked of the dead
  gives-up : (caller : ℕ) (lost : Bool) (call : Option OpenCall) → MayAct c.group (GiveUp caller)
      → c.group.gateways.call caller ≡ call → c.failed (gateway_of c.group.shape caller) ≡ lost
      → Composes c.group.shape c.group.words.cut c.failed c.group.words.taken c.group.works (c.made ++ stands_if lost (call_given_up (events_of c) caller call))
  gives-up caller true call may is lost = same
  gives-up caller false None may is lives = same
  gives-up caller false (Some o) may is lives = by o.stage refl fits.1 where
    fits : CallFits c.group.shape c.failed (waits c.group.shape c.group.words.cut c.group.gateways.requests
        c.group.gateways.parked caller) (asked_in c caller) (c.group.gateways.next caller) (Some o)
    fits = subst (CallFits c.group.shape c.failed (waits c.group.shape c.group.words.cut c.group.gateways.requests
        c.group.gateways.parked caller) (asked_in c caller) (c.group.gateways.next caller)) is
        (h.positioned.calls caller lives)

    dead : c.failed may.1.member ≡ true
    dead = h.barred.permits (gateway_of c.group.shape caller) may.0.gateway.member lives may.1.member
        (h.barred.taken (gateway_of c.group.shape caller) may.1.member may.1.taken)

    by : (stage : Stage) → o.stage ≡ stage
        → StageFits c.group.shape c.failed (waits c.group.shape c.group.words.cut c.group.gateways.requests
        c.group.gateways.parked caller) (asked_in c caller) (c.group.gateways.next caller) o.position stage
        → Composes c.group.shape c.group.words.cut c.failed c.group.words.taken c.group.works (c.made ++ given_up (events_of c) caller o stage)
    by Unasked at_stage f = same
    by Unknown at_stage f = same
    by (TracedAt x) at_stage f = same
    by (Answered t n) at_stage f = same
    by (AskedOf x) at_stage f = which (nat_le (asks_among caller (events_of c)) o.position) where
      waits_at : Some x ≡ Some may.1.member
      waits_at = sym (ap call_waits_for is ∙ ap awaited_member at_stage) ∙ may.1.waits

      member : x ≡ may.1.member
      member = ap (λ (q : Option ProcessId). elim q [ None ↦ x | Some y ↦ y ]) waits_at

      which : (b : Bool) → Composes c.group.shape c.group.words.cut c.failed c.group.words.taken c.group.works (c.made ++ lost_ask b caller o.op x)
      which true = composes-lost c.group.shape c.group.words.cut c.failed c.group.words.taken c.group.works c.made
          h.composes h.barred.lost x caller o.op f.0 (ap c.failed member ∙ dead) may.0.low fits.0
      which false = same

  -- what a member replies to a collect was asked
  held : (a : Action) → MayAct c.group a → (caller call : ℕ) (p : ProcessId) (reply : Reply) → a ≡ Collect caller call p → c.failed p ≡ false
      → (collect_from caller call (c.group.works.process p) (range_with_len 0 c.group.shape.k)).answer ≡ says.Reply reply → call < asked_in c caller
  held a may caller call p reply is lives answer =
      let now : MayAct c.group (Collect caller call p) = subst (MayAct c.group) is may in
      handed-asked c.group.shape c.made caller call p reply h.composes.makes
      (subst (λ (a : Answer). Makes c.group.shape (c.made ++ record { event = event.Collect caller call p; answer = a } ∷ [])) answer
      (composes-collect c.group.shape c.group.words.cut c.failed c.group.words.taken c.group.works c.made h.composes
      h.barred.lost p caller call (now.1.member, lives) now.0).makes)

  collects : (caller call : ℕ) (p : ProcessId) (lost : Bool) → MayAct c.group (Collect caller call p) → c.failed p ≡ lost
      → Composes c.group.shape c.group.words.cut c.failed c.group.words.taken
      (stepped c.group.words.cut p
      (collect_from caller call (c.group.works.process p) (range_with_len 0 c.group.shape.k)).step c.group.works)
      (c.made ++ stands_if lost
      (record {
        event = event.Collect caller call p;
        answer = (collect_from caller call (c.group.works.process p) (range_with_len 0 c.group.shape.k)).answer;
      } ∷ []))
  collects caller call p true may lost = ghost-step p (collect_from caller call (c.group.works.process p) (range_with_len 0 c.group.shape.k)).step lost
  collects caller call p false may lives = composes-collect c.group.shape c.group.words.cut c.failed c.group.words.taken
      c.group.works c.made h.composes h.barred.lost p caller call (may.1.member, lives) may.0

  flushes : (p : ProcessId) (lost : Bool) → MayAct c.group (Flush p) → c.failed p ≡ lost
      → Composes c.group.shape c.group.words.cut c.failed c.group.words.taken
      (stepped c.group.words.cut p (flush_process c.group.shape (c.group.works.process p)).step c.group.works)
      (c.made ++ stands_if lost (record { event = event.Flush p; answer = says.Done } ∷ []))
  flushes p true may lost = ghost-step p (flush_process c.group.shape (c.group.works.process p)).step lost
  flushes p false may lives = composes-flush c.group.shape c.group.words.cut c.failed c.group.words.taken c.group.works
      c.made h.composes h.barred.lost p (may.member, lives)

  composes-step : (a : Action) → MayAct c.group a → ComposesAt (composed_with c a)
  composes-step (Begin caller op) may = same
  composes-step (Send caller x) may = same
  composes-step (Read x p) may = same
  composes-step (Treat p place) may = treats p place (parked_at c.group p place) (c.failed p) may.member refl refl
  composes-step (Collect caller call p) may = collects caller call p (c.failed p) may refl
  composes-step (Flush p) may = flushes p (c.failed p) may refl
  composes-step (Learn x p) may = same
  composes-step (Receive x p) may = receives x p (c.group.works.messages x p) (c.failed p) may refl refl
  composes-step (GiveUp caller) may = gives-up caller (c.failed (gateway_of c.group.shape caller)) (c.group.gateways.call caller) may refl refl
  composes-step (Cut x p) may = still (words_after c.group.words (Cut x p)).cut c.group.words.taken c.group.works
      (mirrors-cut c.group.shape (after c.group.shape (events_in c.made)).nodes many c.group.words.cut c.failed
      c.group.words.taken c.group.works h.composes.mirrors (words_after c.group.words (Cut x p)).cut
      (changed-each (λ r set. (g : ProcessId) → c.group.words.cut r g ≡ true → set g ≡ true) c.group.words.cut p
      (with_one (c.group.words.cut p) x) (grown-set (c.group.words.cut p) x) (λ r _ y is. is)))
  composes-step (Say p) may = same
  composes-step (Hear x p) may = by (c.group.words.said x p) where
    by : (sets : List Processes) → Composes c.group.shape (heard_first x p sets c.group.words).cut c.failed
        (heard_first x p sets c.group.words).taken c.group.works (c.made ++ [])
    by [] = same
    by (set ∷ rest) = same
  composes-step (Permit p) may = by (c.failed p) where
    by : (lost : Bool)
        → Composes c.group.shape c.group.words.cut (one_or lost c.failed (either c.failed (c.group.words.cut p)))
        c.group.words.taken c.group.works
        (c.made ++ stands_if lost (failures_at c.group.shape c.failed (c.group.words.cut p) (range_with_len 0 (c.group.shape.k + c.group.shape.m))))
    by true = same
    by false = composes-permit c.group.shape c.group.words.cut c.group.words.taken c.group.works c.failed (c.group.words.cut p)
        (λ q x ql is. h.barred.permits q ql.0 ql.1 x (h.barred.taken q x is)) c.made h.composes
  composes-step (Take x p) may = takes x p (c.failed p) may refl
  composes-step (Ping to p) may = same
  composes-step (Pong x p) may = same
  composes-step (Count x p) may = same
  composes-step (Show caller ping) may = same
  composes-step (LetGo caller) may = same
  composes-step (Stop p) may = same

  pub whole-step : (a : Action) → MayAct c.group a → Whole (composed_with c a)
  whole-step a may = record {
    limits = h.limits;
    barred = barred-step c a may h.barred;
    signed = signed-step c a may h.barred h.signed;
    positioned = positioned-step c a (let some = h.limits.k.0 in omega (arith, some)) may h.barred (held a may) h.positioned;
    composes = composes-step a may;
  }

pub whole-from : (c : Composed) (actions : List Action) → AreActionsFrom c actions → Whole c → Whole (composed_from c actions)
whole-from c [] run h = h
whole-from c (a ∷ rest) run h = whole-from (composed_with c a) rest run.1 (whole-step c h a run.0)

pub whole-opening : (s : Dimensions) → IsShape s → Whole (opening_composed s)
whole-opening s limits = record {
  limits = limits;
  barred = barred-opening s;
  signed = signed-opening s;
  positioned = positioned-opening s (λ p. false);
  composes = record {
    makes = record { run = (limits, tt); answers = refl; asked = λ caller. at-replicate 0 callers caller };
    mirrors = record {
      dead = λ p pin. opens.living p pin;
      process = λ p pl. opens.process p pl.0;
      links = λ p q pl ql other. record { lost = []; is = opens.links p q pl.0 ql.0; whole = λ _. refl };
      notices = λ x p xin fails pl. cc fails;
    };
  };
} where
  opens : Opens s (state_of (no_history s))
  opens = (runs_move s).opens

pub whole : (s : Dimensions) (actions : List Action) → AreActions s actions → Whole (composed s actions)
whole s actions run = whole-from (opening_composed s) actions run.1 (whole-opening s run.0)
