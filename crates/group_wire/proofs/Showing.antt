-- What is shown is the answer of a member's event, and a reply stands in the log since the call began.
use Rattle.std.proofs.Common.{ℕ, zero, suc, ◌≡◌, ◌<◌, ◌≤◌, ◌+◌, ◌⊎◌, inl, inr, false, List, [], ◌∷◌, ◌++◌, Option, Some}
use Rattle.std.proofs.Common.{None, length, take, drop, map, refl, sym, ap, subst, ◌∙◌, arith}
use Rattle.std.proofs.lemmas.Bool.{cases_lt}
use Rattle.std.proofs.lemmas.List.{append_assoc, length-append, take-append-drop}
use Rattle.std.specs.Prelude.{slice_get}
use Rattle.group_types.specs.Dimensions.{Dimensions}
use Rattle.group_types.specs.declared.process.ProcessId.{ProcessId}
use Rattle.memc_table.specs.Asked.{Asked}
use Rattle.memc_table.specs.declared.reply.Reply.{Reply}
use Rattle.group_calls.specs.Turns.{CallName, Turn, asks_in, asks_of, call_entry, log_of}
use Rattle.group_calls.specs.Within.{Fetches, IsAsk, IsLoggedSince}
use Rattle.group_calls.specs.declared.entry.Entry.{Entry}
use Rattle.group_calls.specs.declared.event.Answer.{Answer}
use Rattle.group_calls.specs.declared.event.Answer.TheVariants as says
use Rattle.group_calls.specs.declared.event.Event.{Event}
use Rattle.group_calls.specs.declared.event.Event.TheVariants as event
use Rattle.group_run.specs.Headline.{OneLog}
use Rattle.group_run.specs.World.{World, opening, step, turns_from, turns_of}
use Rattle.law_log.proofs.Turnings.{asks-self, contained-get, get-left}
use Rattle.law_headline.proofs.Headlines.{headline_always}
use Rattle.group_wire.specs.Actions.{Action, Show}
use Rattle.group_run.specs.Causes.{asks_among}
use Rattle.group_wire.specs.Composed.{AreActions, Composed, Made, composed, events_of}
use Rattle.group_wire.specs.Laws.{NoTwoHoldAll, SentAlive}
use Rattle.group_wire.specs.May.{CallIsTold, IsToldBefore, MayAct}
use Rattle.group_wire.specs.Shown.{IsLoggedSinceBegun, IsOfCall, ShownIsLogged, ShownIsMade, Shows, events_before}
use Rattle.group_wire.specs.State.{Answered, OpenCall, Stage, Told, gateway_of}
use Rattle.group_wire.proofs.Answering.{Solid, SolidCall, SolidStage}
use Rattle.group_wire.proofs.Extending.{events_in}
use Rattle.group_wire.proofs.Honest.{honest, shown-alive}
use Rattle.group_wire.proofs.Positions.{asked_by}
use Rattle.group_wire.proofs.Spending.{carries}
use Rattle.group_wire.proofs.Telling.{LearnedAt, learned}
use Rattle.group_wire.proofs.Wanting.{AskIs}
use Rattle.group_wire.proofs.Wants.{FirmCall, FirmStage}
use Rattle.group_wire.proofs.Whole.{Whole, whole}

-- a list of turns, and what was made beside it
pub made-turn : (w : World) (made : List Made) (place : ℕ) (x : Made) → slice_get made place ≡ Some x
    → map (λ (t : Turn). t.answer) (turns_from w (events_in made)) ≡ map (λ x. x.answer) made
    → (turn : Turn) × (slice_get (turns_from w (events_in made)) place ≡ Some turn) × (turn.event ≡ x.event) × (turn.answer ≡ x.answer)
made-turn w [] place x is same = absurd (cc is)
made-turn w (y ∷ made) zero x is same = (
  (step w y.event).turn,
  refl,
  ap (λ (o : Option Made). elim o [ None ↦ y.event | Some z ↦ z.event ]) is,
  ap first same ∙ ap (λ (o : Option Made). elim o [ None ↦ y.answer | Some z ↦ z.answer ]) is,
)
  where
    first : List Answer → Answer
    first [] = y.answer
    first (a ∷ rest) = a
made-turn w (y ∷ made) (suc place) x is same = made-turn (step w y.event).world made place x is (ap rest same) where
  rest : List Answer → List Answer
  rest [] = []
  rest (a ∷ more) = more

-- what was made beside a turn
pub turn-made : (w : World) (made : List Made) (j : ℕ) (t : Turn) → slice_get (turns_from w (events_in made)) j ≡ Some t
    → (y : Made) × (slice_get made j ≡ Some y) × (y.event ≡ t.event)
turn-made w [] j t is = absurd (cc is)
turn-made w (y ∷ made) zero t is = (y, refl, ap (λ (o : Option Turn). elim o [ None ↦ y.event | Some z ↦ z.event ]) is)
turn-made w (y ∷ made) (suc j) t is = turn-made (step w y.event).world made j t is

-- the asks among the first turns are those among the first events
pub asks-front : (w : World) (made : List Made) (n caller : ℕ) → asks_of caller (take n (turns_from w (events_in made)))
    ≡ asks_among caller (map (λ x. x.event) (take n made))
asks-front w made zero caller = refl
asks-front w [] (suc n) caller = refl
asks-front w (y ∷ made) (suc n) caller = let rest = asks-front (step w y.event).world made n caller in omega (arith, rest)

-- the logs of more turns prolong those of fewer
log-both : (xs ys : List Turn) → log_of (xs ++ ys) ≡ log_of xs ++ log_of ys
log-both [] ys = refl
log-both (x ∷ xs) ys = ap (λ (rest : List Entry). x.logged ++ rest) (log-both xs ys) ∙ sym (append_assoc x.logged (log_of xs) (log_of ys))

log-rises : (turns : List Turn) (i j : ℕ) → i ≤ j → length (log_of (take i turns)) ≤ length (log_of (take j turns))
log-rises turns zero j low = omega arith
log-rises [] (suc i) j low = omega arith
log-rises (t ∷ turns) (suc i) zero low = absurd (omega (arith, low))
log-rises (t ∷ turns) (suc i) (suc j) low =
    let rest = log-rises turns i j (omega (arith, low)) in
    let one = length-append t.logged (log_of (take i turns)) in
    let two = length-append t.logged (log_of (take j turns)) in omega (arith, rest, one, two)

get-right : {X : Type 0} (xs ys : List X) (i : ℕ) (x : X) → slice_get ys i ≡ Some x → slice_get (xs ++ ys) (length xs + i) ≡ Some x
get-right [] ys i x is = subst (λ (n : ℕ). slice_get ys n ≡ Some x) (omega arith) is
get-right (y ∷ xs) ys i x is = subst (λ (n : ℕ). slice_get (y ∷ xs ++ ys) n ≡ Some x) (next (length xs) i) (get-right xs ys i x is) where
  next : (a b : ℕ) → suc (a + b) ≡ suc a + b
  next a b = omega arith

-- what a turn logged stands behind what those before it logged
log-at : (turns : List Turn) (i : ℕ) (turn : Turn) (j : ℕ) (e : Entry) → slice_get turns i ≡ Some turn
    → slice_get turn.logged j ≡ Some e → slice_get (log_of turns) (length (log_of (take i turns)) + j) ≡ Some e
log-at [] i turn j e is at = absurd (cc is)
log-at (t ∷ turns) zero turn j e is at = subst (λ (n : ℕ). slice_get (log_of (t ∷ turns)) n ≡ Some e) (first j)
    (get-left t.logged (log_of turns) j e
    (ap (λ (o : Option Turn). elim o [ None ↦ slice_get t.logged j | Some u ↦ slice_get u.logged j ]) is ∙ at)) where
      first : (j : ℕ) → j ≡ 0 + j
      first j = omega arith
log-at (t ∷ turns) (suc i) turn j e is at =
    let long = length-append t.logged (log_of (take i turns)) in
    let same : length (t.logged ++ log_of (take i turns)) + j ≡ length t.logged + (length (log_of (take i turns)) + j) = omega (arith, long) in
    ap (slice_get (t.logged ++ log_of turns)) same ∙ get-right t.logged (log_of turns) (length (log_of (take i turns)) + j) e (log-at turns i turn j e is at)

-- an entry of the first turns is one of all
log-whole : (turns : List Turn) (n place : ℕ) (e : Entry) → slice_get (log_of (take n turns)) place ≡ Some e → slice_get (log_of turns) place ≡ Some e
log-whole turns n place e is =
    ap (λ (l : List Entry). slice_get l place) (ap log_of (sym (take-append-drop n turns)) ∙ log-both (take n turns) (drop n turns))
    ∙ get-left (log_of (take n turns)) (log_of (drop n turns)) place e is

-- asks rise
asks-rise : (caller : ℕ) (turns : List Turn) (i j : ℕ) → i ≤ j → asks_of caller (take i turns) ≤ asks_of caller (take j turns)
asks-rise caller turns zero j low = omega arith
asks-rise caller [] (suc i) j low = omega arith
asks-rise caller (t ∷ turns) (suc i) zero low = absurd (omega (arith, low))
asks-rise caller (t ∷ turns) (suc i) (suc j) low = let rest = asks-rise caller turns i j (omega (arith, low)) in omega (arith, rest)

asks-next : (caller : ℕ) (turns : List Turn) (i : ℕ) (t : Turn) → slice_get turns i ≡ Some t
    → asks_of caller (take i turns) + asks_in caller t.event ≤ asks_of caller (take (suc i) turns)
asks-next caller [] i t is = absurd (cc is)
asks-next caller (u ∷ turns) zero t is = let same : asks_in caller u.event ≡ asks_in caller t.event =
    ap (λ (o : Option Turn). elim o [ None ↦ asks_in caller u.event | Some x ↦ asks_in caller x.event ]) is in
    omega (arith, same)
asks-next caller (u ∷ turns) (suc i) t is = let rest = asks-next caller turns i t is in omega (arith, rest)

-- a gateway that shows an answer had not failed when it was told
pub told-alive : (c : Composed) (caller ping : ℕ) (o : OpenCall) (t : Told)
    → SentAlive c (gateway_of c.group.shape caller) ping → MayAct c.group (Show caller ping)
    → (shows : Shows c caller o t)
    → (c.failed (gateway_of c.group.shape caller) ≡ false) ⊎ (shows.pinged < c.lived (gateway_of c.group.shape caller))
told-alive c caller ping o t alive may shows = by alive where
  before : shows.pinged ≤ ping
  before = subst (λ (stage : Stage). IsToldBefore c.group stage ping) shows.stage
      (subst (λ (call : Option OpenCall). CallIsTold c.group call ping) shows.call may.1.told)

  by : (c.failed (gateway_of c.group.shape caller) ≡ false) ⊎ (ping < c.lived (gateway_of c.group.shape caller))
      → (c.failed (gateway_of c.group.shape caller) ≡ false)
      ⊎ (shows.pinged < c.lived (gateway_of c.group.shape caller))
  by (inl lives) = inl lives
  by (inr low) = inr (let first = before in omega (arith, first, low))

module _ (c : Composed) (h : Whole c) (b : LearnedAt c) where
  -- what is shown by a living gateway, or one that lived when it sent the ping, is solid
  pub shown-solid : (caller ping : ℕ) (o : OpenCall) (t : Told) → SentAlive c (gateway_of c.group.shape caller) ping
      → MayAct c.group (Show caller ping) → Shows c caller o t → Solid c.made c.begun caller o.position t
  shown-solid caller ping o t alive may shows = sol.1 (told-alive c caller ping o t alive may shows) where
    sol : SolidStage c.made c.begun (c.failed (gateway_of c.group.shape caller))
        (c.lived (gateway_of c.group.shape caller)) (c.group.signs.pinged (gateway_of c.group.shape caller)) caller
        o.position (Answered t shows.pinged)
    sol = subst (SolidStage c.made c.begun (c.failed (gateway_of c.group.shape caller))
        (c.lived (gateway_of c.group.shape caller)) (c.group.signs.pinged (gateway_of c.group.shape caller)) caller
        o.position) shows.stage
        (subst (SolidCall c.made c.begun (c.failed (gateway_of c.group.shape caller))
        (c.lived (gateway_of c.group.shape caller)) (c.group.signs.pinged (gateway_of c.group.shape caller)) caller)
        shows.call (b.solid caller))

  -- an ask of the call was made since the call began
  since-begun : (caller position : ℕ) (op : Asked) (j : ℕ) (ask : Turn) → asked_by (take (c.begun caller) c.made) caller
      ≤ position → IsAsk (turns_of c.group.shape (events_of c)) j ask (record { caller = caller; call = position }) op
      → c.begun caller ≤ j
  since-begun caller position op j ask low is = by (cases_lt j (c.begun caller)) where
    by : (j < c.begun caller) ⊎ (c.begun caller ≤ j) → c.begun caller ≤ j
    by (inr later) = later
    by (inl early) =
        let one : asks_in caller ask.event ≡ 1 = ap (asks_in caller) is.event ∙ asks-self caller op is.at in
        let next = asks-next caller (turns_of c.group.shape (events_of c)) j ask is.there in
        let rise = asks-rise caller (turns_of c.group.shape (events_of c)) (suc j) (c.begun caller) (omega (arith, early)) in
        let front = asks-front (opening c.group.shape) c.made (c.begun caller) caller in
        let place = is.place in
        absurd (omega (arith, one, next, rise, front, place, low))

  pub solid-logged : (caller : ℕ) (o : OpenCall) (t : Told) (reply : Reply) → Solid c.made c.begun caller o.position t
      → AskIs c.made caller o.position o.op → t.answer ≡ says.Reply reply → IsLoggedSinceBegun c caller o reply
  solid-logged caller o t reply sol asks told =
      by sol.made_it.event.event refl
      (subst (λ (e : Event). IsOfCall e t (asks_among t.caller (events_before c.made sol.made_it.place))) refl
      sol.made_it.of_call) where
        name : CallName
        name = record { caller = caller; call = o.position }

        log : OneLog c.group.shape (events_of c)
        log = (headline_always c.group.shape (events_of c) h.composes.makes.run).one_log

        found : (turn : Turn) × (slice_get (turns_of c.group.shape (events_of c)) sol.made_it.place ≡ Some turn)
            × (turn.event ≡ sol.made_it.event.event) × (turn.answer ≡ sol.made_it.event.answer)
        found = made-turn (opening c.group.shape) c.made sol.made_it.place sol.made_it.event sol.made_it.there h.composes.makes.answers

        answer : found.0.answer ≡ says.Reply reply
        answer = found.3 ∙ sol.made_it.answer ∙ told

        -- a reply to an ask
        asked : (op : Asked) (p : ProcessId) → sol.made_it.event.event ≡ event.Ask caller op p
            → asks_among t.caller (events_before c.made sol.made_it.place) ≡ t.call → IsLoggedSinceBegun c caller o reply
        asked op p is place = record {
          place = length (log_of (take sol.made_it.place (turns_of c.group.shape (events_of c)))) + there.0;
          entry = ap (λ (l : List Entry). slice_get l (length (log_of (take sol.made_it.place (turns_of c.group.shape (events_of c)))) + there.0)) log.kept
              ∙ log-at (turns_of c.group.shape (events_of c)) sol.made_it.place found.0 there.0
              (call_entry (record { caller = caller; call = o.position }) op reply) found.1 there.1
              ∙ ap (λ (a : Asked). Some (call_entry (record { caller = caller; call = o.position }) a reply))
              (asks sol.made_it.place sol.made_it.event op p sol.made_it.there is before);
          since =
              let first = log-rises (turns_of c.group.shape (events_of c)) (c.begun caller) sol.made_it.place
              (since-begun caller o.position op sol.made_it.place found.0 sol.since is-ask) in omega (arith, first);
        } where
          before : asks_among caller (events_before c.made sol.made_it.place) ≡ o.position
          before = ap (λ (n : ℕ). asks_among n (events_before c.made sol.made_it.place)) (sym sol.caller_is) ∙ place ∙ sol.call_is

          is-ask : IsAsk (turns_of c.group.shape (events_of c)) sol.made_it.place found.0 (record { caller = caller; call = o.position }) op
          is-ask = record {
            there = found.1;
            at = p;
            event = found.2 ∙ is;
            place = asks-front (opening c.group.shape) c.made sol.made_it.place caller
                ∙ ap (λ (n : ℕ). asks_among n (events_before c.made sol.made_it.place)) (sym sol.caller_is) ∙ place
                ∙ sol.call_is;
          }

          there : (i : ℕ) × (slice_get found.0.logged i ≡ Some (call_entry (record { caller = caller; call = o.position }) op reply))
          there = contained-get found.0.logged (call_entry (record { caller = caller; call = o.position }) op reply)
              (log.within.at_once sol.made_it.place found.0 (record { caller = caller; call = o.position }) op reply is-ask
              answer)

        -- an ask of the call is for what the client asked
        its-op : (l : IsLoggedSince (turns_of c.group.shape (events_of c)) sol.made_it.place
            (record { caller = caller; call = o.position }) reply) → l.op ≡ o.op
        its-op l =
            let y = turn-made (opening c.group.shape) c.made l.j l.ask l.asked.there in
            asks l.j y.0 l.op l.asked.at y.1 (y.2 ∙ l.asked.event) (sym (asks-front (opening c.group.shape) c.made l.j caller) ∙ l.asked.place)

        -- a reply to a collect or a trace
        fetched : Fetches found.0.event (record { caller = caller; call = o.position }) → IsLoggedSinceBegun c caller o reply
        fetched fetches =
            let l : IsLoggedSince (turns_of c.group.shape (events_of c)) sol.made_it.place (record { caller = caller; call = o.position }) reply =
            log.within.later sol.made_it.place found.0 (record { caller = caller; call = o.position }) reply found.1 fetches answer in record {
              place = l.place;
              entry = ap (λ (log : List Entry). slice_get log l.place) log.kept
                  ∙ log-whole (turns_of c.group.shape (events_of c)) (sol.made_it.place + 1) l.place
                  (call_entry (record { caller = caller; call = o.position }) l.op reply) l.entry
                  ∙ ap (λ (a : Asked). Some (call_entry (record { caller = caller; call = o.position }) a reply)) (its-op l);
              since =
                  let first = log-rises (turns_of c.group.shape (events_of c)) (c.begun caller) l.j
                  (since-begun caller o.position l.op l.j l.ask sol.since l.asked) in
                  let then = l.since in omega (arith, first, then);
            }

        by : (e : Event) → sol.made_it.event.event ≡ e
            → IsOfCall sol.made_it.event.event t (asks_among t.caller (events_before c.made sol.made_it.place))
            → IsLoggedSinceBegun c caller o reply
        by (event.Ask who op p) is of =
            let its : IsOfCall (event.Ask who op p) t (asks_among t.caller (events_before c.made sol.made_it.place)) =
            subst (λ (e : Event). IsOfCall e t (asks_among t.caller (events_before c.made sol.made_it.place))) is of in
            asked op p (is ∙ ap (λ (n : ℕ). event.Ask n op p) (its.0 ∙ sol.caller_is)) its.1
        by (event.Collect who call p) is of =
            let its : IsOfCall (event.Collect who call p) t (asks_among t.caller (events_before c.made sol.made_it.place)) =
            subst (λ (e : Event). IsOfCall e t (asks_among t.caller (events_before c.made sol.made_it.place))) is of in
            fetched (subst (λ (e : Event). Fetches e (record { caller = caller; call = o.position })) (sym (found.2 ∙ is))
            (its.0 ∙ sol.caller_is, its.1 ∙ sol.call_is))
        by (event.Trace who call d p) is of =
            let its : IsOfCall (event.Trace who call d p) t (asks_among t.caller (events_before c.made sol.made_it.place)) =
            subst (λ (e : Event). IsOfCall e t (asks_among t.caller (events_before c.made sol.made_it.place))) is of in
            fetched (subst (λ (e : Event). Fetches e (record { caller = caller; call = o.position })) (sym (found.2 ∙ is))
            (its.0 ∙ sol.caller_is, its.1 ∙ sol.call_is))
        by (event.Deliver x p) is of = absurd (subst (λ (e : Event). IsOfCall e t (asks_among t.caller (events_before c.made sol.made_it.place))) is of)
        by (event.Fail p keep) is of = absurd (subst (λ (e : Event). IsOfCall e t (asks_among t.caller (events_before c.made sol.made_it.place))) is of)
        by (event.Flush p) is of = absurd (subst (λ (e : Event). IsOfCall e t (asks_among t.caller (events_before c.made sol.made_it.place))) is of)

solid : (s : Dimensions) (actions : List Action) (caller ping : ℕ) (o : OpenCall) (t : Told) → AreActions s actions → NoTwoHoldAll (composed s actions).group
    → MayAct (composed s actions).group (Show caller ping) → Shows (composed s actions) caller o t
    → Solid (composed s actions).made (composed s actions).begun caller o.position t
solid s actions caller ping o t run apart may shows =
    shown-solid (composed s actions) (whole s actions run) (learned s actions run) caller ping o t
    (shown-alive (composed s actions) (honest s actions run) apart caller ping may) may shows

pub shown_is_made : ShownIsMade
shown_is_made s actions caller ping o t run apart may shows =
    let sol = solid s actions caller ping o t run apart may shows in (sol.made_it, sol.caller_is, sol.call_is)

pub shown_is_logged : ShownIsLogged
shown_is_logged s actions caller ping o t reply run apart may shows told =
    solid-logged c (whole s actions run) (learned s actions run) caller o t reply (solid s actions caller ping o t run apart may shows) (firm early).1 told
  where
    c : Composed
    c = composed s actions

    early : (c.failed (gateway_of c.group.shape caller) ≡ false) ⊎ (shows.pinged < c.lived (gateway_of c.group.shape caller))
    early = told-alive c caller ping o t (shown-alive c (honest s actions run) apart caller ping may) may shows

    firm : FirmStage c.made caller (c.failed (gateway_of c.group.shape caller))
        (c.lived (gateway_of c.group.shape caller)) o.position o.op (Answered t shows.pinged)
    firm = subst (FirmStage c.made caller (c.failed (gateway_of c.group.shape caller)) (c.lived (gateway_of c.group.shape caller)) o.position o.op) shows.stage
        (subst (FirmCall c.made caller (c.failed (gateway_of c.group.shape caller))
        (c.lived (gateway_of c.group.shape caller))) shows.call ((carries s actions run).wanted.firm caller))
