-- Every action that may come keeps positions.
use Rattle.std.proofs.Common.{ℕ, zero, suc, ◌≡◌, ◌<◌, ◌+◌, ◌%◌, ◌⊎◌, ◌&&◌, inl, inr, nat_le, not, Bool, true, false}
use Rattle.std.proofs.Common.{List, [], ◌∷◌, ◌++◌, Option, Some, None, map, refl, sym, ap, subst, ◌∙◌, arith}
use Rattle.std.proofs.lemmas.Grind.{common_steps}
use Rattle.std.proofs.lemmas.List.{append-nil}
use Rattle.std.specs.List.{range_with_len}
use Rattle.group_types.specs.Dimensions.{Dimensions}
use Rattle.group_types.specs.Each.{Each}
use Rattle.group_types.specs.Hash.{home_of}
use Rattle.group_types.specs.Names.{IsProcess, process_at}
use Rattle.group_types.specs.declared.process.ProcessId.{ProcessId}
use Rattle.memc_table.specs.Act.{key_of}
use Rattle.memc_table.specs.Asked.{Asked}
use Rattle.memc_table.specs.declared.reply.Reply.{Reply}
use Rattle.group_message.specs.declared.message.Message.{Message}
use Rattle.group_calls.specs.declared.event.Answer.{Answer}
use Rattle.group_calls.specs.declared.event.Answer.TheVariants as says
use Rattle.group_calls.specs.declared.event.Event.TheVariants as event
use Rattle.group_run.specs.Asking.{collect_from}
use Rattle.group_run.specs.Heading.{partition}
use Rattle.group_run.specs.World.{front_if}
use Rattle.group_wire.specs.Actions.{Action, Begin, Send, Read, Treat, Collect, Flush, Learn, Receive, GiveUp, Cut, Say}
use Rattle.group_wire.specs.Actions.{Hear, Permit, Take, Ping, Pong, Count, Show, LetGo, Stop}
use Rattle.group_run.specs.Causes.{asks_among}
use Rattle.group_wire.specs.Composed.{Composed, Made, call_given_up, composed_with, events_of, failed_after}
use Rattle.group_wire.specs.Composed.{failures_at, given_up, lost_ask, message_made, request_made, stands_if}
use Rattle.group_wire.specs.May.{CallIsTold, IsToldBefore, MayAct, WaitsForDead, awaited_member, call_waits_for}
use Rattle.group_wire.specs.Sets.{Processes, changed, either, one_or, with_one, without_nth}
use Rattle.group_wire.specs.State.{Request, AskFor, TraceOf, Told, Stage, Unasked, AskedOf, Unknown, TracedAt, Answered}
use Rattle.group_wire.specs.State.{OpenCall, Gateways, Group, gateway_of, opening_group}
use Rattle.group_wire.specs.Sending.{heard_first, parked_at, sent_on, treating, words_after}
use Rattle.group_wire.specs.Serving.{again, gateways_after, handed_to, if_open, learned_first, read_first}
use Rattle.group_wire.specs.Serving.{request_treated, sends_by, stage_given_up, staged, tell, told_of}
use Rattle.group_wire.proofs.Barrier.{Barred}
use Rattle.group_wire.proofs.Calling.{given-up-fits, positioned-asks, positioned-learns, positioned-traces}
use Rattle.group_wire.proofs.Changes.{changed-each, changed_at-here, either-not, grown-set}
use Rattle.group_wire.proofs.Positions.{CallFits, NoneWait, Positioned, StageFits, asked_by, asked_in, asks-once}
use Rattle.group_wire.proofs.Positions.{asks-quiet, positioned-as, positioned-call, positioned-cut, positioned-fail}
use Rattle.group_wire.proofs.Positions.{positioned-once, positioned-read, positioned-taken, positioned-told}
use Rattle.group_wire.proofs.Positions.{positioned-treated}
use Rattle.group_wire.proofs.Requests.{FitsAsked, Living, asked_once, each-entry, waits}

-- what a group's words, failures and gateways are
abbrev pub PositionedAt : Group → Processes → (ℕ → ℕ) → Type 0
PositionedAt g failed asked = Positioned g.shape g.words.cut failed g.gateways asked

pub positioned-opening : (s : Dimensions) (failed : Processes) → PositionedAt (opening_group s) failed (λ caller. 0)
positioned-opening s failed = record {
  placed = record {
    owned = λ y x. tt;
    lanes = λ g x lives uncut. tt;
    parks = λ x lives. tt;
    one = record { here = λ caller x lives. omega arith; there = λ caller x y xl yl some more. absurd (omega (arith, some)) };
  };
  calls = λ caller lives. (refl, λ z zl. refl);
  told = λ x g lives. tt;
  theirs = λ x g. tt;
}

-- what is told, one after the other
tells : (g : Group) (failed : Processes) (gw : Gateways) (asked : ℕ → ℕ) (p : ProcessId) (ts : List Told)
    → (Living g.shape failed p → Each (λ (t : Told). t.call < asked t.caller) ts)
    → Positioned g.shape g.words.cut failed gw asked → Positioned g.shape g.words.cut failed (tell g p ts gw) asked
tells g failed gw asked p [] low b = b
tells g failed gw asked p (t ∷ ts) low b =
    tells g failed (record gw { answers = sent_on g.words.cut gw.answers p (gateway_of g.shape t.caller) t }) asked p ts
    (λ lives. (low lives).1) (positioned-told g.shape g.words.cut failed gw asked b p t (λ lives. (low lives).0))

told-low : (asked : ℕ → ℕ) (r : Request) (answer : Answer)
    → ((caller call : ℕ) (op : Asked) → r ≡ AskFor caller call op → call < asked caller)
    → ((caller call d : ℕ) → r ≡ TraceOf caller call d → call < asked caller)
    → Each (λ (t : Told). t.call < asked t.caller) (told_of r answer)
told-low asked (AskFor caller call op) answer low traced = by answer where
  by : (answer : Answer) → Each (λ (t : Told). t.call < asked t.caller) (told_of (AskFor caller call op) answer)
  by (says.Ticket n) = tt
  by (says.Reply reply) = (low caller call op refl, tt)
  by says.NotYet = (low caller call op refl, tt)
  by says.NoSpace = (low caller call op refl, tt)
  by (says.Retry cause) = (low caller call op refl, tt)
  by says.Moved = (low caller call op refl, tt)
  by says.Lost = (low caller call op refl, tt)
  by says.Down = (low caller call op refl, tt)
  by says.Idle = (low caller call op refl, tt)
  by says.Stranger = (low caller call op refl, tt)
  by says.Done = (low caller call op refl, tt)
  by says.AlreadyDead = (low caller call op refl, tt)
  by says.Gone = (low caller call op refl, tt)
  by (says.Stale n) = (low caller call op refl, tt)
told-low asked (TraceOf caller call d) answer low traced = by answer where
  by : (answer : Answer) → Each (λ (t : Told). t.call < asked t.caller) (told_of (TraceOf caller call d) answer)
  by (says.Ticket n) = tt
  by (says.Reply reply) = (traced caller call d refl, tt)
  by says.NotYet = (traced caller call d refl, tt)
  by says.NoSpace = (traced caller call d refl, tt)
  by (says.Retry cause) = (traced caller call d refl, tt)
  by says.Moved = (traced caller call d refl, tt)
  by says.Lost = (traced caller call d refl, tt)
  by says.Down = (traced caller call d refl, tt)
  by says.Idle = (traced caller call d refl, tt)
  by says.Stranger = (traced caller call d refl, tt)
  by says.Done = (traced caller call d refl, tt)
  by says.AlreadyDead = (traced caller call d refl, tt)
  by says.Gone = (traced caller call d refl, tt)
  by (says.Stale n) = (traced caller call d refl, tt)

handed-low : (asked : ℕ → ℕ) (caller call : ℕ) (answer : Answer)
    → ((reply : Reply) → answer ≡ says.Reply reply → call < asked caller)
    → Each (λ (t : Told). t.call < asked t.caller) (handed_to caller call answer)
handed-low asked caller call answer low = by answer refl where
  by : (a : Answer) → answer ≡ a → Each (λ (t : Told). t.call < asked t.caller) (handed_to caller call a)
  by (says.Reply reply) is = (low reply is, tt)
  by (says.Ticket n) is = tt
  by (says.Retry cause) is = tt
  by (says.Stale n) is = tt
  by says.NotYet is = tt
  by says.NoSpace is = tt
  by says.Moved is = tt
  by says.Lost is = tt
  by says.Down is = tt
  by says.Idle is = tt
  by says.Stranger is = tt
  by says.Done is = tt
  by says.AlreadyDead is = tt
  by says.Gone is = tt

-- failures ask nothing
pub failures-quiet : (s : Dimensions) (failed set : Processes) (xs : List ℕ) (caller : ℕ)
    → asks_among caller (map (λ x. x.event) (failures_at s failed set xs)) ≡ 0
failures-quiet s failed set [] caller = refl
failures-quiet s failed set (x ∷ xs) caller = by (set (process_at s x) && not (failed (process_at s x))) (failures-quiet s failed set xs caller) where
  by : (b : Bool) → asks_among caller (map (λ x. x.event) (failures_at s failed set xs)) ≡ 0
      → asks_among caller
      (map (λ x. x.event) (front_if b (record { event = event.Fail (process_at s x) 0; answer = says.Done })
      (failures_at s failed set xs))) ≡ 0
  by true rest = omega (arith, rest)
  by false rest = rest

pub quiet-none : (made : List Made) → asked_by made ≡ asked_by (made ++ [])
quiet-none made = ap asked_by (sym (append-nil made))

-- an event stands or doesn't, and asks nothing
pub quiet-if : (made : List Made) (lost : Bool) (x : Made) → ((caller : ℕ) → asks_among caller (x.event ∷ []) ≡ 0)
    → asked_by made ≡ asked_by (made ++ stands_if lost (x ∷ []))
quiet-if made true x none = quiet-none made
quiet-if made false x none = asks-quiet made (x ∷ []) none

-- a treated request
module _ (c : Composed) (p : ProcessId) (place : ℕ) (b : PositionedAt c.group c.failed (asked_in c)) (pin : IsProcess c.group.shape p) where
  g : Group
  g = c.group

  treats : (r : Option Request) (lost : Bool) → parked_at c.group p place ≡ r → c.failed p ≡ lost
      → Positioned c.group.shape c.group.words.cut c.failed (request_treated c.group p place r) (asked_by (c.made ++ stands_if lost (request_made c.group p r)))
  treats None true is lives = positioned-as _ _ _ _ _ _ (quiet-none c.made) b
  treats None false is lives = positioned-as _ _ _ _ _ _ (quiet-none c.made) b
  treats (Some r) true is lost = positioned-as _ _ _ _ _ _ (quiet-none c.made)
      (tells c.group c.failed
      (record c.group.gateways {
        parked = changed c.group.gateways.parked p
            (without_nth (c.group.gateways.parked p) place);
      }) (asked_in c) p
      (told_of r (treating c.group.shape r (c.group.works.process p)).answer) (λ lives. cc (lives.1, lost))
      (positioned-taken c.group.shape c.group.words.cut c.failed c.group.gateways (asked_in c) b p place))
  treats (Some (AskFor caller call op)) false is lives =
      let made : Made = record { event = event.Ask caller op p; answer = (treating c.group.shape (AskFor caller call op) (c.group.works.process p)).answer } in
      let fits : FitsAsked c.group.shape (asked_in c) (AskFor caller call op) =
      each-entry (FitsAsked c.group.shape (asked_in c)) (c.group.gateways.parked p) place (AskFor caller call op) is
      (b.placed.parks p (pin, lives)) in
      positioned-as _ _ _ _ _ _ (asks-once c.made made caller op p refl)
      (tells c.group c.failed
      (record c.group.gateways {
        parked = changed c.group.gateways.parked p
            (without_nth (c.group.gateways.parked p) place);
      }) (asked_once (asked_in c) caller) p
      (told_of (AskFor caller call op) (treating c.group.shape (AskFor caller call op) (c.group.works.process p)).answer)
      (λ _. told-low (asked_once (asked_in c) caller) (AskFor caller call op) (treating c.group.shape (AskFor caller call op) (c.group.works.process p)).answer
      (λ who n o same. ask-low who n o same fits) (λ who n d same. cc same))
      (positioned-treated c.group.shape c.group.words.cut c.failed c.group.gateways (asked_in c) b p place caller call op (pin, lives) is))
    where
      ask-low : (who n : ℕ) (o : Asked) → AskFor caller call op ≡ AskFor who n o
          → FitsAsked c.group.shape (asked_in c) (AskFor caller call op) → n < asked_once (asked_in c) caller who
      ask-low who n o same fits =
          let is_now : asked_once (asked_in c) caller caller ≡ suc (asked_in c caller) = changed_at-here (asked_in c) caller (suc (asked_in c caller)) in
          let its : call ≡ asked_in c caller = fits.1 in
          let low : call < asked_once (asked_in c) caller caller = omega (arith, is_now, its) in
          subst (λ (r : Request). elim r as (λ _. Type 0) [ AskFor a m q ↦ m < asked_once (asked_in c) caller a | TraceOf a m q ↦ Unit {0} ]) same low
  treats (Some (TraceOf caller call d)) false is lives =
      let made : Made =
      record {
        event = event.Trace caller call (partition d) p;
        answer = (treating c.group.shape (TraceOf caller call d) (c.group.works.process p)).answer;
      } in
      let fits : FitsAsked c.group.shape (asked_in c) (TraceOf caller call d) =
      each-entry (FitsAsked c.group.shape (asked_in c)) (c.group.gateways.parked p) place (TraceOf caller call d) is
      (b.placed.parks p (pin, lives)) in
      positioned-as _ _ _ _ _ _ (asks-quiet c.made (made ∷ []) (λ _. refl))
      (tells c.group c.failed
      (record c.group.gateways {
        parked = changed c.group.gateways.parked p
            (without_nth (c.group.gateways.parked p) place);
      }) (asked_in c) p
      (told_of (TraceOf caller call d) (treating c.group.shape (TraceOf caller call d) (c.group.works.process p)).answer)
      (λ _. told-low (asked_in c) (TraceOf caller call d) (treating c.group.shape (TraceOf caller call d) (c.group.works.process p)).answer
      (λ who n o same. cc same)
      (λ who n e same.
      subst (λ (r : Request). elim r as (λ _. Type 0) [ AskFor a m q ↦ Unit {0} | TraceOf a m q ↦ m < asked_in c a ])
      same fits.1))
      (positioned-taken c.group.shape c.group.words.cut c.failed c.group.gateways (asked_in c) b p place))

at_most : (a b : ℕ) → a ≡ b → nat_le a b ≡ true
at_most a b same = grind (arith, common_steps)

above : (a b : ℕ) → b < a → nat_le a b ≡ false
above a b low = grind (arith, common_steps)

-- a gateway gives up what it asked of a member that has failed
module _ (c : Composed) (caller : ℕ) (b : PositionedAt c.group c.failed (asked_in c))
    (dead : WaitsForDead c.group caller) (fails : c.failed (gateway_of c.group.shape caller) ≡ false
    → c.failed dead.member ≡ true) where
  abbrev gw : Gateways
  gw = c.group.gateways

  abbrev Fits : Option OpenCall → Type 0
  Fits call = CallFits c.group.shape c.failed (waits c.group.shape c.group.words.cut c.group.gateways.requests
      c.group.gateways.parked caller) (asked_in c caller) (c.group.gateways.next caller) call

  abbrev Goal : OpenCall → Stage → Bool → Type 0
  Goal o stage lost = Positioned c.group.shape c.group.words.cut c.failed
      (staged caller o (stage_given_up o.op stage) c.group.gateways)
      (asked_by (c.made ++ stands_if lost (given_up (events_of c) caller o stage)))

  -- where no event is made
  same : (o : OpenCall) (stage : Stage) (lost : Bool) → given_up (events_of c) caller o stage ≡ []
      → (c.failed (gateway_of c.group.shape caller) ≡ false
      → Fits (Some (record o { stage = stage_given_up o.op stage }))) → Goal o stage lost
  same o stage lost none fits =
      positioned-as _ _ _ _ _ _ (nothing lost)
      (positioned-call c.group.shape c.group.words.cut c.failed c.group.gateways (asked_in c) b caller
      (Some (record o { stage = stage_given_up o.op stage })) fits)
    where
      nothing : (lost : Bool) → asked_by c.made ≡ asked_by (c.made ++ stands_if lost (given_up (events_of c) caller o stage))
      nothing true = quiet-none c.made
      nothing false = quiet-none c.made ∙ ap (λ (m : List Made). asked_by (c.made ++ m)) (sym none)

  ghost : (o : OpenCall) (stage : Stage) → c.failed (gateway_of c.group.shape caller) ≡ true → Goal o stage true
  ghost o stage lost = positioned-as _ _ _ _ _ _ (quiet-none c.made)
      (positioned-call c.group.shape c.group.words.cut c.failed c.group.gateways (asked_in c) b caller
      (Some (record o { stage = stage_given_up o.op stage })) (λ lives. cc (lives, lost)))

  gives-up : (o : OpenCall) (stage : Stage) (lost : Bool) → gw.call caller ≡ Some o → o.stage ≡ stage
      → c.failed (gateway_of c.group.shape caller) ≡ lost → Goal o stage lost
  gives-up o stage true call is lost = ghost o stage lost
  gives-up o Unasked false call is lives = same o Unasked false refl (λ _. (fits lives).0) where
    fits : c.failed (gateway_of c.group.shape caller) ≡ false → Fits (Some (record o { stage = Unasked })) × Unit {0}
    fits lives = let f : Fits (Some o) = subst Fits call (b.calls caller lives) in (
      (
        f.0,
        subst (StageFits c.group.shape c.failed (waits c.group.shape c.group.words.cut c.group.gateways.requests
            c.group.gateways.parked caller) (asked_in c caller) (c.group.gateways.next caller) o.position) is f.1,
      ),
      tt,
    )
  gives-up o Unknown false call is lives = same o Unknown false refl (λ _. (fits lives).0) where
    fits : c.failed (gateway_of c.group.shape caller) ≡ false → Fits (Some (record o { stage = Unknown })) × Unit {0}
    fits lives = let f : Fits (Some o) = subst Fits call (b.calls caller lives) in (
      (
        f.0,
        subst (StageFits c.group.shape c.failed (waits c.group.shape c.group.words.cut c.group.gateways.requests
            c.group.gateways.parked caller) (asked_in c caller) (c.group.gateways.next caller) o.position) is f.1,
      ),
      tt,
    )
  gives-up o (Answered t n) false call is lives = same o (Answered t n) false refl (λ _. (fits lives).0) where
    fits : c.failed (gateway_of c.group.shape caller) ≡ false → Fits (Some (record o { stage = Answered t n })) × Unit {0}
    fits lives = let f : Fits (Some o) = subst Fits call (b.calls caller lives) in (
      (
        f.0,
        subst (StageFits c.group.shape c.failed (waits c.group.shape c.group.words.cut c.group.gateways.requests
            c.group.gateways.parked caller) (asked_in c caller) (c.group.gateways.next caller) o.position) is f.1,
      ),
      tt,
    )
  gives-up o (TracedAt x) false call is lives = same o (TracedAt x) false refl (λ _. (fits lives).0) where
    fits : c.failed (gateway_of c.group.shape caller) ≡ false → Fits (Some (record o { stage = Unknown })) × Unit {0}
    fits lives = let f : Fits (Some o) = subst Fits call (b.calls caller lives) in (
      (
        f.0,
        subst (StageFits c.group.shape c.failed (waits c.group.shape c.group.words.cut c.group.gateways.requests
            c.group.gateways.parked caller) (asked_in c caller) (c.group.gateways.next caller) o.position) is f.1,
      ),
      tt,
    )
  gives-up o (AskedOf x) false call is lives = which stage.2 where
    wait : ProcessId → ℕ
    wait = waits c.group.shape c.group.words.cut c.group.gateways.requests c.group.gateways.parked caller

    fits : Fits (Some o)
    fits = subst Fits call (b.calls caller lives)

    stage : StageFits c.group.shape c.failed (waits c.group.shape c.group.words.cut c.group.gateways.requests
        c.group.gateways.parked caller) (asked_in c caller) (c.group.gateways.next caller) o.position (AskedOf x)
    stage = subst
        (StageFits c.group.shape c.failed (waits c.group.shape c.group.words.cut c.group.gateways.requests
        c.group.gateways.parked caller) (asked_in c caller) (c.group.gateways.next caller) o.position) is fits.1

    waits_at : Some x ≡ Some dead.member
    waits_at = sym (ap call_waits_for call ∙ ap awaited_member is) ∙ dead.waits

    member : x ≡ dead.member
    member = ap (λ (q : Option ProcessId). elim q [ None ↦ x | Some y ↦ y ]) waits_at

    none : NoneWait c.group.shape c.failed (waits c.group.shape c.group.words.cut c.group.gateways.requests c.group.gateways.parked caller)
    none z zl = by (waits c.group.shape c.group.words.cut c.group.gateways.requests c.group.gateways.parked caller z) refl where
      by : (n : ℕ) → waits c.group.shape c.group.words.cut c.group.gateways.requests c.group.gateways.parked caller z
          ≡ n → waits c.group.shape c.group.words.cut c.group.gateways.requests c.group.gateways.parked caller z ≡ 0
      by zero is = is
      by (suc n) is = let here : z ≡ x = stage.3 z zl (omega (arith, is)) in cc (fails lives, zl.1, ap c.failed (here ∙ member))

    which : (asked_in c caller ≡ o.position)
        ⊎ ((asked_in c caller ≡ c.group.gateways.next caller)
        × NoneWait c.group.shape c.failed (waits c.group.shape c.group.words.cut c.group.gateways.requests
        c.group.gateways.parked caller)) → Goal o (AskedOf x) false
    which (inl at_it) =
        let le : nat_le (asks_among caller (events_of c)) o.position ≡ true = at_most (asks_among caller (events_of c)) o.position at_it in
        let next : suc o.position ≡ c.group.gateways.next caller = stage.1 in
        subst (λ (d : Bool). Positioned c.group.shape c.group.words.cut c.failed
        (staged caller o (stage_given_up o.op (AskedOf x)) c.group.gateways)
        (asked_by (c.made ++ lost_ask d caller o.op x))) (sym le)
        (positioned-as _ _ _ _ _ _ (asks-once c.made (record { event = event.Ask caller o.op x; answer = says.Lost }) caller o.op x refl)
        (positioned-once c.group.shape c.group.words.cut c.failed c.group.gateways (asked_in c) b caller (Some (record o { stage = again o.op.act })) none (
          fits.0,
          given-up-fits c.group.shape c.failed (waits c.group.shape c.group.words.cut c.group.gateways.requests
              c.group.gateways.parked caller) (suc (asked_in c caller)) (c.group.gateways.next caller) o.position o.op.act
              (omega (arith, at_it, next), none, next),
        )))
    which (inr (at_next, _)) =
        let next : suc o.position ≡ c.group.gateways.next caller = stage.1 in
        let gt : nat_le (asks_among caller (events_of c)) o.position ≡ false =
        above (asks_among caller (events_of c)) o.position (omega (arith, at_next, next)) in
        subst (λ (d : Bool). Positioned c.group.shape c.group.words.cut c.failed
        (staged caller o (stage_given_up o.op (AskedOf x)) c.group.gateways)
        (asked_by (c.made ++ lost_ask d caller o.op x))) (sym gt)
        (positioned-as _ _ _ _ _ _ (quiet-none c.made)
        (positioned-call c.group.shape c.group.words.cut c.failed c.group.gateways (asked_in c) b caller (Some (record o { stage = again o.op.act }))
        (λ _. (
          fits.0,
          given-up-fits c.group.shape c.failed
              (waits c.group.shape c.group.words.cut c.group.gateways.requests c.group.gateways.parked caller)
              (asked_in c caller) (c.group.gateways.next caller) o.position o.op.act (at_next, none, next),
        ))))

  gives-up-any : (call : Option OpenCall) (lost : Bool) → gw.call caller ≡ call → c.failed (gateway_of c.group.shape caller) ≡ lost
      → Positioned c.group.shape c.group.words.cut c.failed
      (if_open call c.group.gateways (λ o. staged caller o (stage_given_up o.op o.stage) c.group.gateways))
      (asked_by (c.made ++ stands_if lost (call_given_up (events_of c) caller call)))
  gives-up-any None true is lost = positioned-as _ _ _ _ _ _ (quiet-none c.made) b
  gives-up-any None false is lost = positioned-as _ _ _ _ _ _ (quiet-none c.made) b
  gives-up-any (Some o) lost is fails = gives-up o o.stage lost is refl fails

mod-below : (n k : ℕ) → 0 < k → n % k < k
mod-below n k some = omega (arith, some)

-- every action that may come keeps it; what is handed out was asked
pub positioned-step : (c : Composed) (a : Action) → 0 < c.group.shape.k → MayAct c.group a → Barred c.group.shape c.group.words c.failed
    → ((caller call : ℕ) (p : ProcessId) (reply : Reply) → a ≡ Collect caller call p → c.failed p ≡ false
    → (collect_from caller call (c.group.works.process p) (range_with_len 0 c.group.shape.k)).answer
    ≡ says.Reply reply → call < asked_in c caller)
    → PositionedAt c.group c.failed (asked_in c) → Positioned c.group.shape (words_after c.group.words a).cut
    (failed_after c a) (gateways_after c.group a) (asked_in (composed_with c a))
positioned-step c (Begin caller op) some may barred held b = positioned-as _ _ _ _ _ _ (quiet-none c.made)
    (positioned-call c.group.shape c.group.words.cut c.failed c.group.gateways (asked_in c) b caller (Some (record { op = op; position = 0; stage = Unasked }))
    (λ lives. let f : CallFits c.group.shape c.failed (waits c.group.shape c.group.words.cut c.group.gateways.requests
    c.group.gateways.parked caller) (asked_in c caller) (c.group.gateways.next caller) None =
    subst (CallFits c.group.shape c.failed (waits c.group.shape c.group.words.cut c.group.gateways.requests
    c.group.gateways.parked caller) (asked_in c caller) (c.group.gateways.next caller)) may.1 (b.calls caller lives)
    in (may.2, f)))
positioned-step c (Send caller x) some may barred held b = positioned-as _ _ _ _ _ _ (quiet-none c.made) (sends (c.group.gateways.call caller) refl) where
  shut : Living c.group.shape c.failed x → c.failed (gateway_of c.group.shape caller) ≡ true → c.group.words.cut x (gateway_of c.group.shape caller) ≡ true
  shut lives lost = barred.cut x (gateway_of c.group.shape caller) lives.0 lives.1 lost

  by : (o : OpenCall) (stage : Stage) → c.group.gateways.call caller ≡ Some o → o.stage ≡ stage
      → PositionedAt (record c.group { gateways = sends_by c.group caller x o stage }) c.failed (asked_in c)
  by o Unasked call is = positioned-asks c.group.shape c.group.words.cut c.failed c.group.gateways (asked_in c) b caller x o call is may.0.low may.1 shut
  by o Unknown call is = positioned-traces c.group.shape c.group.words.cut c.failed c.group.gateways (asked_in c) b
      caller x o (home_of (key_of o.op.act) c.group.shape.k) call is may.0.low (mod-below _ c.group.shape.k some) shut
  by o (AskedOf y) call is = b
  by o (TracedAt y) call is = b
  by o (Answered t n) call is = b

  sends : (call : Option OpenCall) → c.group.gateways.call caller ≡ call
      → Positioned c.group.shape c.group.words.cut c.failed
      (if_open call c.group.gateways (λ o. sends_by c.group caller x o o.stage)) (asked_in c)
  sends None is = b
  sends (Some o) is = by o o.stage is refl
positioned-step c (Read x p) some may barred held b = positioned-as _ _ _ _ _ _ (quiet-none c.made) (by (c.group.gateways.requests x p) refl) where
  by : (rs : List Request) → c.group.gateways.requests x p ≡ rs → Positioned c.group.shape c.group.words.cut c.failed
      (read_first x p rs c.group.gateways) (asked_in c)
  by [] is = b
  by (r ∷ rest) is = positioned-read c.group.shape c.group.words.cut c.failed c.group.gateways (asked_in c) b x p r rest is may.uncut
positioned-step c (Treat p place) some may barred held b = treats c p place b may.member (parked_at c.group p place) (c.failed p) refl refl
positioned-step c (Collect caller call p) some may barred held b = positioned-as _ _ _ _ _ _
    (quiet-if c.made (c.failed p)
    (record {
      event = event.Collect caller call p;
      answer = (collect_from caller call (c.group.works.process p) (range_with_len 0 c.group.shape.k)).answer;
    })
    (λ _. refl))
    (tells c.group c.failed c.group.gateways (asked_in c) p
    (handed_to caller call
    (collect_from caller call (c.group.works.process p) (range_with_len 0 c.group.shape.k)).answer)
    (λ lives. handed-low (asked_in c) caller call
    (collect_from caller call (c.group.works.process p) (range_with_len 0 c.group.shape.k)).answer
    (λ reply is. held caller call p reply refl lives.1 is)) b)
positioned-step c (Flush p) some may barred held b =
    positioned-as _ _ _ _ _ _ (quiet-if c.made (c.failed p) (record { event = event.Flush p; answer = says.Done })
    (λ _. refl)) b
positioned-step c (Learn x p) some may barred held b = positioned-as _ _ _ _ _ _ (quiet-none c.made) (by (c.group.gateways.answers x p) refl) where
  lives : c.failed p ≡ false → Living c.group.shape c.failed x
  lives pl = (may.sender, was (c.failed x) refl) where
    was : (lost : Bool) → c.failed x ≡ lost → c.failed x ≡ false
    was false is = is
    was true is = cc (barred.cut p x may.here.member pl is, may.uncut)

  by : (ts : List Told) → c.group.gateways.answers x p ≡ ts → Positioned c.group.shape c.group.words.cut c.failed
      (learned_first x p (c.group.signs.pinged p) ts c.group.gateways) (asked_in c)
  by [] is = b
  by (t ∷ rest) is = positioned-learns c.group.shape c.group.words.cut c.failed c.group.gateways (asked_in c) b x p (c.group.signs.pinged p) t rest is lives
positioned-step c (Receive x p) some may barred held b = by (c.group.works.messages x p) where
  by : (ms : List Message) → Positioned c.group.shape c.group.words.cut c.failed c.group.gateways
      (asked_by (c.made ++ stands_if (c.failed p) (message_made x p ms)))
  by [] = which (c.failed p) where
    which : (lost : Bool) → Positioned c.group.shape c.group.words.cut c.failed c.group.gateways (asked_by (c.made ++ stands_if lost []))
    which true = positioned-as _ _ _ _ _ _ (quiet-none c.made) b
    which false = positioned-as _ _ _ _ _ _ (quiet-none c.made) b
  by (m ∷ rest) = positioned-as _ _ _ _ _ _ (quiet-if c.made (c.failed p) (record { event = event.Deliver x p; answer = says.Done }) (λ _. refl)) b
positioned-step c (GiveUp caller) some may barred held b = gives-up-any c caller b may.1
    (λ lives. barred.permits (gateway_of c.group.shape caller) may.0.gateway.member lives may.1.member
    (barred.taken (gateway_of c.group.shape caller) may.1.member may.1.taken))
    (c.group.gateways.call caller) (c.failed (gateway_of c.group.shape caller)) refl refl
positioned-step c (Cut x p) some may barred held b = positioned-as _ _ _ _ _ _ (quiet-none c.made)
    (positioned-cut c.group.shape c.group.words.cut c.failed c.group.gateways (asked_in c) b (words_after c.group.words (Cut x p)).cut
    (changed-each (λ r set. (g : ProcessId) → c.group.words.cut r g ≡ true → set g ≡ true) c.group.words.cut p
    (with_one (c.group.words.cut p) x) (grown-set (c.group.words.cut p) x) (λ r _ y is. is)))
positioned-step c (Say p) some may barred held b = positioned-as _ _ _ _ _ _ (quiet-none c.made) b
positioned-step c (Hear x p) some may barred held b = positioned-as _ _ _ _ _ _ (quiet-none c.made) (by (c.group.words.said x p)) where
  by : (sets : List Processes) → Positioned c.group.shape (heard_first x p sets c.group.words).cut c.failed c.group.gateways (asked_in c)
  by [] = b
  by (set ∷ rest) = b
positioned-step c (Permit p) some may barred held b = by (c.failed p) where
  by : (lost : Bool) → Positioned c.group.shape c.group.words.cut (one_or lost c.failed (either c.failed (c.group.words.cut p))) c.group.gateways
      (asked_by (c.made ++ stands_if lost (failures_at c.group.shape c.failed (c.group.words.cut p) (range_with_len 0 (c.group.shape.k + c.group.shape.m)))))
  by true = positioned-as _ _ _ _ _ _ (quiet-none c.made) b
  by false = positioned-as _ _ _ _ _ _
      (asks-quiet c.made
      (failures_at c.group.shape c.failed (c.group.words.cut p) (range_with_len 0 (c.group.shape.k + c.group.shape.m)))
      (failures-quiet c.group.shape c.failed (c.group.words.cut p)
      (range_with_len 0 (c.group.shape.k + c.group.shape.m))))
      (positioned-fail c.group.shape c.group.words.cut c.failed c.group.gateways (asked_in c) b
      (either c.failed (c.group.words.cut p)) (λ x out. (either-not c.failed (c.group.words.cut p) x out).0))
positioned-step c (Take x p) some may barred held b =
    positioned-as _ _ _ _ _ _ (quiet-if c.made (c.failed p) (record { event = event.Deliver x p; answer = says.Done })
    (λ _. refl)) b
positioned-step c (Ping to p) some may barred held b = positioned-as _ _ _ _ _ _ (quiet-none c.made) b
positioned-step c (Pong x p) some may barred held b = positioned-as _ _ _ _ _ _ (quiet-none c.made) b
positioned-step c (Count x p) some may barred held b = positioned-as _ _ _ _ _ _ (quiet-none c.made) b
positioned-step c (Show caller ping) some may barred held b = positioned-as _ _ _ _ _ _ (quiet-none c.made)
    (positioned-call c.group.shape c.group.words.cut c.failed c.group.gateways (asked_in c) b caller None
    (λ lives. shown (c.group.gateways.call caller) (b.calls caller lives) may.1.told))
  where
    at_end : (o : OpenCall) (stage : Stage)
        → StageFits c.group.shape c.failed (waits c.group.shape c.group.words.cut c.group.gateways.requests
        c.group.gateways.parked caller) (asked_in c caller) (c.group.gateways.next caller) o.position stage
        → IsToldBefore c.group stage ping
        → CallFits c.group.shape c.failed (waits c.group.shape c.group.words.cut c.group.gateways.requests
        c.group.gateways.parked caller) (asked_in c caller) (c.group.gateways.next caller) None
    at_end o (Answered t n) f told = (f.0, f.1)
    at_end o Unasked f told = absurd told
    at_end o (AskedOf y) f told = absurd told
    at_end o Unknown f told = absurd told
    at_end o (TracedAt y) f told = absurd told

    shown : (call : Option OpenCall)
        → CallFits c.group.shape c.failed (waits c.group.shape c.group.words.cut c.group.gateways.requests
        c.group.gateways.parked caller) (asked_in c caller) (c.group.gateways.next caller) call
        → CallIsTold c.group call ping
        → CallFits c.group.shape c.failed (waits c.group.shape c.group.words.cut c.group.gateways.requests
        c.group.gateways.parked caller) (asked_in c caller) (c.group.gateways.next caller) None
    shown None f told = absurd told
    shown (Some o) f told = at_end o o.stage f.1 told
positioned-step c (LetGo caller) some may barred held b = positioned-as _ _ _ _ _ _ (quiet-none c.made)
    (positioned-call c.group.shape c.group.words.cut c.failed c.group.gateways (asked_in c) b caller None
    (λ lives. goes (c.group.gateways.call caller) may.1 (b.calls caller lives)))
  where
    -- a call that waits for no member has no ask that can still be treated
    at_end : (o : OpenCall) (stage : Stage) → awaited_member stage ≡ None
        → StageFits c.group.shape c.failed (waits c.group.shape c.group.words.cut c.group.gateways.requests
        c.group.gateways.parked caller) (asked_in c caller) (c.group.gateways.next caller) o.position stage
        → CallFits c.group.shape c.failed (waits c.group.shape c.group.words.cut c.group.gateways.requests
        c.group.gateways.parked caller) (asked_in c caller) (c.group.gateways.next caller) None
    at_end o Unasked none f = f
    at_end o Unknown none f = (f.0, f.1)
    at_end o (Answered t n) none f = (f.0, f.1)
    at_end o (AskedOf y) none f = cc none
    at_end o (TracedAt y) none f = cc none

    goes : (call : Option OpenCall) → call_waits_for call ≡ None
        → CallFits c.group.shape c.failed (waits c.group.shape c.group.words.cut c.group.gateways.requests
        c.group.gateways.parked caller) (asked_in c caller) (c.group.gateways.next caller) call
        → CallFits c.group.shape c.failed (waits c.group.shape c.group.words.cut c.group.gateways.requests
        c.group.gateways.parked caller) (asked_in c caller) (c.group.gateways.next caller) None
    goes None none f = f
    goes (Some o) none f = at_end o o.stage none f.1
positioned-step c (Stop p) some may barred held b = positioned-as _ _ _ _ _ _ (quiet-none c.made) b
