-- What the events of one call log, from a group in which no op waits to be logged.
use Rattle.std.proofs.Common.{ℕ, suc, ◌≡◌, ◌≢◌, ◌<◌, ◌≤◌, Bool, true, false, List, [], ◌∷◌, ◌++◌, ◌⊎◌, inl, inr, Option}
use Rattle.std.proofs.Common.{Some, None, refl, sym, ap, subst, ◌∙◌, append-nil, append_assoc}
use Rattle.std.specs.Prelude.{Contains}
use Rattle.group_types.specs.Dimensions.{Dimensions}
use Rattle.group_types.specs.Lists.{at}
use Rattle.group_types.specs.declared.process.ProcessId.{ProcessId}
use Rattle.memc_table.specs.Asked.{Asked}
use Rattle.memc_table.specs.declared.reply.Reply.{Reply}
use Rattle.memc_proto.specs.declared.end.CallEnd.{CallEnd}
use Rattle.memc_proto.specs.declared.end.CallEnd.TheVariants as ends
use Rattle.group_calls.specs.Turns.{CallName, call_entry, name_of}
use Rattle.group_calls.specs.declared.entry.Entry.{Entry}
use Rattle.group_calls.specs.declared.event.Answer.{Answer}
use Rattle.group_calls.specs.declared.event.Answer.TheVariants as says
use Rattle.group_calls.specs.declared.event.Cause.TheVariants as cause
use Rattle.group_calls.specs.declared.event.Event.{Event}
use Rattle.group_calls.specs.declared.event.Event.TheVariants.{Ask, Collect, Deliver, Fail, Flush, Trace}
use Rattle.law_moves.proofs.Reading.{grown-is}
use Rattle.group_run.specs.Draining.{next_delivery}
use Rattle.group_run.specs.Headline.{MayCome}
use Rattle.group_run.specs.Meaning.{IsDown}
use Rattle.group_run.specs.World.{Ticket, World, after, call_of, group_step, is_issued, logged_at_once, next_name, step, world_after}
use Rattle.group_run.specs.Shown.{is_down}
use Rattle.group_types.specs.Each.{Each, EachTwo}
use Rattle.group_types.proofs.Eaches.{each-append}
use Rattle.law_log.proofs.Ties.{NamesDiffer}
use Rattle.group_run.specs.Causes.{IsDelivery}
use Rattle.law_progress.proofs.Whole.{next-comes}
use Rattle.world_caller.specs.Calling.{EventsBring, IsEvent, IsFirstOrOwn, IsOwnStep, due, next_of_ask, next_of_collect}
use Rattle.world_caller.proofs.Delivering.{due-first}
use Rattle.world_caller.specs.declared.stage.Next.{Next}
use Rattle.world_caller.specs.declared.stage.Next.TheVariants.{Goes, Ends}
use Rattle.world_caller.specs.declared.stage.Stage.{Stage}
use Rattle.world_caller.specs.declared.stage.Stage.TheVariants.{Asks, Collects}
use Rattle.caller_table.proofs.Entering.{IsOf, NoneWaits, OneWaits, ask-done, ask-nothing, ask-of, ask-one, quiet-done, quiet-none, quiet-of, quiet-waits}
use Rattle.caller_table.proofs.Naming.{IsLed, at-once, collected, led-fresh, led-once, led-step, single, single-behind}

-- where entries were logged, no op waits
abbrev pub DoneIf : List Entry → List Ticket → Type 0
DoneIf [] tickets = Unit {0}
DoneIf (x ∷ xs) tickets = NoneWaits tickets

-- a call that was ticketed: what was logged since is of it
pub record Under (n : CallName) (op : Asked) (log : List Entry) (w : World) : Type 0 where
  pub more : List Entry
  pub whole : w.log ≡ log ++ more
  pub mine : Each (IsOf n op) more
  pub one : OneWaits n op w.tickets
  pub done : DoneIf more w.tickets

-- an event that asks nothing
under-quiet : (n : CallName) (op : Asked) (log : List Entry) (w : World) (e : Event) → call_of w e ≡ None → Under n op log w → Under n op log (step w e).world
under-quiet n op log w e quiet u = record {
  more = u.more ++ logged;
  whole = grown-is w.log logged ∙ ap (λ (es : List Entry). es ++ logged) u.whole ∙ append_assoc log u.more logged;
  mine = each-append (IsOf n op) u.more logged u.mine (quiet-of w e quiet n op u.one);
  one = λ name o is. u.one name o (quiet-waits w e quiet name o is);
  done = by u.more u.done logged refl;
}
  where
    logged : List Entry
    logged = (step w e).turn.logged

    by : (more : List Entry) → DoneIf more w.tickets → (es : List Entry) → (step w e).turn.logged ≡ es → DoneIf (more ++ es) (step w e).world.tickets
    by (x ∷ xs) done es is = λ name o there. done name o (quiet-waits w e quiet name o there)
    by [] done [] is = tt
    by [] done (x ∷ xs) is = quiet-done w e quiet n op u.one x xs is

under-ask : (w : World) (caller : ℕ) (op : Asked) (p : ProcessId) → NoneWaits w.tickets → Under (next_name w caller) op w.log (step w (Ask caller op p)).world
under-ask w caller op p none = record {
  more = (step w (Ask caller op p)).turn.logged;
  whole = grown-is w.log (step w (Ask caller op p)).turn.logged;
  mine = ask-of w caller op p none;
  one = ask-one w caller op p none;
  done = by (step w (Ask caller op p)).turn.logged refl;
}
  where
    by : (es : List Entry) → (step w (Ask caller op p)).turn.logged ≡ es → DoneIf es (step w (Ask caller op p)).world.tickets
    by [] is = tt
    by (x ∷ xs) is = ask-done w caller op p none x xs is

-- the log stands as it did, and no op waits
abbrev pub Idle : List Entry → World → Type 0
Idle log w = (w.log ≡ log) × NoneWaits w.tickets

-- how far a call came since the log was this
abbrev pub Came : ℕ → Asked → List Entry → World → Next → Type 0
Came caller op log w (Goes Asks) = Idle log w
Came caller op log w (Goes (Collects call p)) =
    Under (record { caller = caller; call = call }) op log w × Each (λ e. name_of e ≢ record { caller = caller; call = call }) log
Came caller op log w (Ends (ends.Reply reply)) =
    (call : ℕ) × (w.log ≡ log ++ call_entry (record { caller = caller; call = call }) op reply ∷ []) × NoneWaits w.tickets
Came caller op log w (Ends ends.NoSpace) = Idle log w
Came caller op log w (Ends ends.Down) = Idle log w
Came caller op log w (Ends ends.Worn) = ⊥
Came caller op log w (Ends ends.Moves) = ⊥

-- an event that asks nothing logs nothing where no op waits
pub idle-quiet : (log : List Entry) (w : World) (e : Event) → call_of w e ≡ None → Idle log w → Idle log (step w e).world
idle-quiet log w e quiet idle = (
  grown-is w.log (step w e).turn.logged ∙ ap (λ (es : List Entry). w.log ++ es) (quiet-none w e quiet idle.1) ∙ append-nil w.log ∙ idle.0,
  λ name op is. idle.1 name op (quiet-waits w e quiet name op is),
)

idle-ask : (log : List Entry) (w : World) (caller : ℕ) (op : Asked) (p : ProcessId) → Idle log w → is_issued (group_step w (Ask caller op p)).answer ≡ false
    → logged_at_once (call_of w (Ask caller op p)) (group_step w (Ask caller op p)).answer ≡ [] → Idle log (step w (Ask caller op p)).world
idle-ask log w caller op p idle issued silent = let nothing = ask-nothing w caller op p idle.1 issued silent in (
  grown-is w.log (step w (Ask caller op p)).turn.logged ∙ ap (λ (es : List Entry). w.log ++ es) nothing.0 ∙ append-nil w.log ∙ idle.0,
  nothing.1,
)

delivery-quiet : (w : World) (e : Event) → IsDelivery e → call_of w e ≡ None
delivery-quiet w (Deliver from to) delivery = refl
delivery-quiet w (Ask caller op p) delivery = absurd delivery
delivery-quiet w (Collect caller call p) delivery = absurd delivery
delivery-quiet w (Fail p keep) delivery = absurd delivery
delivery-quiet w (Flush p) delivery = absurd delivery
delivery-quiet w (Trace caller call d p) delivery = absurd delivery

same-next : {x y : Next} → Some x ≡ Some y → y ≡ x
same-next is = cc is

never : {X : Type 0} {x : X} → None ≡ Some x → ⊥
never is = cc is

-- an ask
asked-came : (s : Dimensions) (w : World) → IsLed s w → (caller : ℕ) (op : Asked) (log : List Entry) (p : ProcessId)
    (next : Next) → MayCome w (Ask caller op p) → Idle log w
    → (a : Answer) → (group_step w (Ask caller op p)).answer ≡ a → next_of_ask (at 0 w.asked caller) p a ≡ Some next
    → Came caller op log (step w (Ask caller op p)).world next
asked-came s w led caller op log p next may idle (says.Reply reply) answered leads =
    subst (Came caller op log (step w (Ask caller op p)).world) (sym (same-next leads)) (
      at 0 w.asked caller,
      grown-is w.log (step w (Ask caller op p)).turn.logged ∙ ap (λ (es : List Entry). w.log ++ es) alone
          ∙ ap (λ (es : List Entry). es ++ call_entry (next_name w caller) op reply ∷ []) idle.0,
      ask-done w caller op p idle.1 (call_entry (next_name w caller) op reply) [] alone,
    )
  where
    two : EachTwo NamesDiffer (w.log ++ (step w (Ask caller op p)).turn.logged)
    two = subst (EachTwo NamesDiffer) (grown-is w.log (step w (Ask caller op p)).turn.logged)
        (led-once s (step w (Ask caller op p)).world (led-step s w (Ask caller op p) led may))

    alone : (step w (Ask caller op p)).turn.logged ≡ call_entry (next_name w caller) op reply ∷ []
    alone = single w.log (next_name w caller) op (step w (Ask caller op p)).turn.logged
        (call_entry (next_name w caller) op reply) two (ask-of w caller op p idle.1)
        (at-once s w led caller op p may reply answered)
asked-came s w led caller op log p next may idle (says.Ticket number) answered leads =
    subst (Came caller op log (step w (Ask caller op p)).world) (sym (same-next leads)) (
      subst (λ (es : List Entry). Under (next_name w caller) op es (step w (Ask caller op p)).world) idle.0 (under-ask w caller op p idle.1),
      subst (Each (λ e. name_of e ≢ next_name w caller)) idle.0 (led-fresh s w caller led),
    )
asked-came s w led caller op log p next may idle (says.Retry (cause.Block block)) answered leads =
    subst (Came caller op log (step w (Ask caller op p)).world) (sym (same-next leads))
    (idle-ask log w caller op p idle (ap is_issued answered) (ap (logged_at_once (call_of w (Ask caller op p))) answered))
asked-came s w led caller op log p next may idle says.NoSpace answered leads =
    subst (Came caller op log (step w (Ask caller op p)).world) (sym (same-next leads))
    (idle-ask log w caller op p idle (ap is_issued answered) (ap (logged_at_once (call_of w (Ask caller op p))) answered))
asked-came s w led caller op log p next may idle says.Down answered leads = subst (Came caller op log (step w (Ask caller op p)).world) (sym (same-next leads))
    (idle-ask log w caller op p idle (ap is_issued answered) (ap (logged_at_once (call_of w (Ask caller op p))) answered))
asked-came s w led caller op log p next may idle (says.Retry (cause.Pending d number)) answered leads = absurd (never leads)
asked-came s w led caller op log p next may idle says.NotYet answered leads = absurd (never leads)
asked-came s w led caller op log p next may idle says.Moved answered leads = absurd (never leads)
asked-came s w led caller op log p next may idle says.Lost answered leads = absurd (never leads)
asked-came s w led caller op log p next may idle says.Idle answered leads = absurd (never leads)
asked-came s w led caller op log p next may idle says.Stranger answered leads = absurd (never leads)
asked-came s w led caller op log p next may idle says.Done answered leads = absurd (never leads)
asked-came s w led caller op log p next may idle says.AlreadyDead answered leads = absurd (never leads)
asked-came s w led caller op log p next may idle says.Gone answered leads = absurd (never leads)
asked-came s w led caller op log p next may idle (says.Stale call) answered leads = absurd (never leads)

-- a collect
collected-came : (s : Dimensions) (w : World) → IsLed s w → (caller call : ℕ) (op : Asked) (log : List Entry)
    (p : ProcessId) (next : Next) → MayCome w (Collect caller call p)
    → Came caller op log w (Goes (Collects call p)) → (a : Answer) → (group_step w (Collect caller call p)).answer ≡ a
    → next_of_collect a ≡ Some next → Came caller op log (step w (Collect caller call p)).world next
collected-came s w led caller call op log p next may came (says.Reply reply) answered leads =
    subst (Came caller op log v) (sym (same-next leads)) (call, logged, none) where
      v : World
      v = (step w (Collect caller call p)).world

      n : CallName
      n = record { caller = caller; call = call }

      u : Under n op log v
      u = under-quiet n op log w (Collect caller call p) refl came.0

      found : (o : Asked) × Contains v.log (call_entry n o reply)
      found = collected s w led caller call p may reply answered

      two : EachTwo NamesDiffer (log ++ u.more)
      two = subst (EachTwo NamesDiffer) u.whole (led-once s v (led-step s w (Collect caller call p) led may))

      alone : u.more ≡ call_entry n found.0 reply ∷ []
      alone = single-behind log n op u.more (call_entry n found.0 reply) two u.mine came.1 refl
          (subst (λ (es : List Entry). Contains es (call_entry n found.0 reply)) u.whole found.1)

      same : found.0 ≡ op
      same = (subst (Each (IsOf n op)) alone u.mine).0.1

      logged : v.log ≡ log ++ call_entry n op reply ∷ []
      logged = u.whole ∙ ap (λ (es : List Entry). log ++ es) alone ∙ ap (λ (o : Asked). log ++ call_entry n o reply ∷ []) same

      none : NoneWaits v.tickets
      none = subst (λ (es : List Entry). DoneIf es v.tickets) alone u.done
collected-came s w led caller call op log p next may came (says.Ticket number) answered leads = absurd (never leads)
collected-came s w led caller call op log p next may came (says.Retry why) answered leads = absurd (never leads)
collected-came s w led caller call op log p next may came says.NoSpace answered leads = absurd (never leads)
collected-came s w led caller call op log p next may came says.Down answered leads = absurd (never leads)
collected-came s w led caller call op log p next may came says.NotYet answered leads = absurd (never leads)
collected-came s w led caller call op log p next may came says.Moved answered leads = absurd (never leads)
collected-came s w led caller call op log p next may came says.Lost answered leads = absurd (never leads)
collected-came s w led caller call op log p next may came says.Idle answered leads = absurd (never leads)
collected-came s w led caller call op log p next may came says.Stranger answered leads = absurd (never leads)
collected-came s w led caller call op log p next may came says.Done answered leads = absurd (never leads)
collected-came s w led caller call op log p next may came says.AlreadyDead answered leads = absurd (never leads)
collected-came s w led caller call op log p next may came says.Gone answered leads = absurd (never leads)
collected-came s w led caller call op log p next may came (says.Stale c) answered leads = absurd (never leads)

-- the delivery that comes first asks nothing
first-quiet : (s : Dimensions) (w : World) → IsLed s w → (e : Event) → due w ≡ Some e → call_of w e ≡ None
first-quiet s w led e first =
    let both = due-first (after s led.events) e (ap due (sym led.is) ∙ first) in
    delivery-quiet w e (next-comes s led.events led.run both.0 e both.1).delivery

event-came : (s : Dimensions) (w : World) → IsLed s w → (caller : ℕ) (op : Asked) (log : List Entry) (stage : Stage) (e : Event) (next : Next)
    → Came caller op log w (Goes stage) → IsEvent caller op w stage e next → Came caller op log (step w e).world next
event-came s w led caller op log stage e next came event = by (due w) refl event.done where
  quiet-came : (stage : Stage) (d : Event) → call_of w d ≡ None → Came caller op log w (Goes stage) → Came caller op log (step w d).world (Goes stage)
  quiet-came Asks d quiet came = idle-quiet log w d quiet came
  quiet-came (Collects call p) d quiet came = (under-quiet (record { caller = caller; call = call }) op log w d quiet came.0, came.1)

  own : (stage : Stage) → Came caller op log w (Goes stage) → IsOwnStep caller op w stage e next → Came caller op log (step w e).world next
  own Asks came (p, serves, is, leads) = subst (λ (x : Event). Came caller op log (step w x).world next) (sym is)
      (asked-came s w led caller op log p next (subst (MayCome w) is event.may) came (group_step w (Ask caller op p)).answer refl
      (ap (λ (x : Event). next_of_ask (at 0 w.asked caller) p (step w x).turn.answer) (sym is) ∙ leads))
  own (Collects call p) came (is, leads) = subst (λ (x : Event). Came caller op log (step w x).world next) (sym is)
      (collected-came s w led caller call op log p next (subst (MayCome w) is event.may) came (group_step w (Collect caller call p)).answer refl
      (ap (λ (x : Event). next_of_collect (step w x).turn.answer) (sym is) ∙ leads))

  by : (o : Option Event) → due w ≡ o → IsFirstOrOwn o caller op w stage e next → Came caller op log (step w e).world next
  by (Some d) first done = subst (Came caller op log (step w e).world) (sym done.1)
      (subst (λ (x : Event). Came caller op log (step w x).world (Goes stage)) (sym done.0)
      (quiet-came stage d (first-quiet s w led d first) came))
  by None first done = own stage came done

-- the events of a call
pub events-came : (s : Dimensions) (es : List Event) (w : World) → IsLed s w → (caller : ℕ) (op : Asked) (log : List Entry) (next last : Next)
    → Came caller op log w next → EventsBring caller op w next es last → Came caller op log (world_after w es) last × IsLed s (world_after w es)
events-came s [] w led caller op log next last came is = (subst (Came caller op log w) (sym is) came, led)
events-came s (e ∷ es) w led caller op log (Goes stage) last came (next, event, brings) =
    events-came s es (step w e).world (led-step s w e led event.may) caller op log next last (event-came s w led caller op log stage e next came event) brings
events-came s (e ∷ es) w led caller op log (Ends end) last came brings = absurd brings
