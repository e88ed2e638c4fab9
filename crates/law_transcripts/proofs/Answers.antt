-- A group answers each event as one of its kind may be answered.
use Rattle.std.proofs.Common.{ℕ, ℤ, ◌≡◌, ◌+◌, Bool, true, false, List, Option, Some, None, if◌then◌else◌, refl, sym, ap, ◌∙◌}
use Rattle.group_types.specs.Dimensions.{Dimensions}
use Rattle.group_types.specs.declared.process.ProcessId.{ProcessId}
use Rattle.memc_table.specs.Asked.{Asked}
use Rattle.memc_table.specs.Contents.{Contents, after_ruling, count_of, holding_at, reply_in, reply_of}
use Rattle.memc_table.specs.Expiry.{live_at}
use Rattle.memc_table.specs.Ruling.{ruling_of}
use Rattle.memc_table.specs.declared.act.Act.{Act}
use Rattle.memc_table.specs.declared.act.Act.TheVariants.{Get, Set, Add, Replace, Cas, Delete, Touch, Append, Prepend, Incr, Decr}
use Rattle.memc_table.specs.declared.holding.Holding.{Holding}
use Rattle.group_calls.specs.Turns.{accepts}
use Rattle.group_calls.specs.declared.event.Answer.{Answer}
use Rattle.group_calls.specs.declared.event.Answer.TheVariants as says
use Rattle.group_calls.specs.declared.event.Event.{Event}
use Rattle.group_calls.specs.declared.event.Event.TheVariants.{Ask, Collect, Deliver, Fail, Flush, Trace}
use Rattle.group_run.specs.Causes.{AskCause, Leaves, table_now, CollectCause, DeliverCause, FailCause, FlushCause, TraceCause}
use Rattle.group_run.specs.Headline.{IsRun, MayCome}
use Rattle.group_run.specs.World.{World, after, step}
use Rattle.law_updates.proofs.Keys.{key-refl}
use Rattle.law_answers.proofs.Answering.{answers_always}
use Rattle.transcript_text.specs.Forms.{MayAnswer, kind_of_act, kind_of_event}
use Rattle.transcript_text.specs.declared.kind.Kind.TheVariants as kind

-- no get is accepted
refused-get : (t : Contents) (moment : ℕ) (key : List ℕ) → accepts (reply_of t (record { moment = moment; act = Get key })) ≡ false
refused-get t moment key = by (live_at moment (t.items key)) where
  by : (o : Option Holding) → accepts (reply_in (ruling_of moment (count_of t key + 1) (Get key) o)) ≡ false
  by None = refl
  by (Some h) = refl

-- no delete leaves a value
own-key : (t : Contents) (key : List ℕ) → holding_at key None t.items key ≡ None
own-key t key = ap (λ (b : Bool). if b then None else t.items key) (key-refl key)

leaves-none : (w : World) (moment : ℕ) (key : List ℕ) (h : Holding) → Leaves w (record { moment = moment; act = Delete key }) h → ⊥
leaves-none w moment key h leaves = by (live_at moment ((table_now w).items key)) leaves where
  by : (o : Option Holding)
      → (accepts (reply_in (ruling_of moment (count_of (table_now w) key + 1) (Delete key) o)) ≡ true)
      × ((after_ruling (table_now w) key (ruling_of moment (count_of (table_now w) key + 1) (Delete key) o)).items key ≡ Some h) → ⊥
  by None both = cc both.0
  by (Some old) both = cc (sym (own-key (table_now w) key) ∙ both.1)

-- an update of any act is answered as its kind may be
store : (w after : World) (p : ProcessId) (op : Asked) (a : Answer) → AskCause w after p op a → MayAnswer kind.Store a
store w after p op says.NotYet cause = absurd cause.2
store w after p op says.Idle cause = absurd cause.2
store w after p op says.Stranger cause = absurd cause.2
store w after p op says.Done cause = absurd cause.2
store w after p op says.AlreadyDead cause = absurd cause.2
store w after p op says.Gone cause = absurd cause.2
store w after p op (says.Stale x) cause = absurd cause.2
store w after p op answer cause = refl

-- a get
get : (w after : World) (p : ProcessId) (moment : ℕ) (key : List ℕ) (a : Answer)
    → AskCause w after p (record { moment = moment; act = Get key }) a → MayAnswer kind.Read a
get w after p moment key (says.Ticket x) cause = absurd (cc (sym (refused-get (table_now w) moment key) ∙ cause.2.accepted))
get w after p moment key says.NotYet cause = absurd cause.2
get w after p moment key says.NoSpace cause = absurd (cc (sym (refused-get (table_now w) moment key) ∙ cause.2.leaves.0))
get w after p moment key says.Idle cause = absurd cause.2
get w after p moment key says.Stranger cause = absurd cause.2
get w after p moment key says.Done cause = absurd cause.2
get w after p moment key says.AlreadyDead cause = absurd cause.2
get w after p moment key says.Gone cause = absurd cause.2
get w after p moment key (says.Stale x) cause = absurd cause.2
get w after p moment key answer cause = refl

-- a delete, and a touch
delete : (w after : World) (p : ProcessId) (moment : ℕ) (key : List ℕ) (a : Answer)
    → AskCause w after p (record { moment = moment; act = Delete key }) a → MayAnswer kind.Alter a
delete w after p moment key says.NotYet cause = absurd cause.2
delete w after p moment key says.NoSpace cause = absurd (leaves-none w moment key cause.2.value cause.2.leaves)
delete w after p moment key says.Idle cause = absurd cause.2
delete w after p moment key says.Stranger cause = absurd cause.2
delete w after p moment key says.Done cause = absurd cause.2
delete w after p moment key says.AlreadyDead cause = absurd cause.2
delete w after p moment key says.Gone cause = absurd cause.2
delete w after p moment key (says.Stale x) cause = absurd cause.2
delete w after p moment key answer cause = refl

touch : (w after : World) (p : ProcessId) (moment : ℕ) (key : List ℕ) (expiry : ℤ) (a : Answer)
    → AskCause w after p (record { moment = moment; act = Touch key expiry }) a → MayAnswer kind.Alter a
touch w after p moment key expiry says.NotYet cause = absurd cause.2
touch w after p moment key expiry says.NoSpace cause = absurd (cc cause.2.written)
touch w after p moment key expiry says.Idle cause = absurd cause.2
touch w after p moment key expiry says.Stranger cause = absurd cause.2
touch w after p moment key expiry says.Done cause = absurd cause.2
touch w after p moment key expiry says.AlreadyDead cause = absurd cause.2
touch w after p moment key expiry says.Gone cause = absurd cause.2
touch w after p moment key expiry (says.Stale x) cause = absurd cause.2
touch w after p moment key expiry answer cause = refl

-- an ask of any act
asked : (w after : World) (p : ProcessId) (moment : ℕ) (act : Act) (a : Answer)
    → AskCause w after p (record { moment = moment; act = act }) a → MayAnswer (kind_of_act act) a
asked w after p moment (Get key) a cause = get w after p moment key a cause
asked w after p moment (Delete key) a cause = delete w after p moment key a cause
asked w after p moment (Touch key expiry) a cause = touch w after p moment key expiry a cause
asked w after p moment (Set key flags expiry value) a cause = store w after p (record { moment = moment; act = Set key flags expiry value }) a cause
asked w after p moment (Add key flags expiry value) a cause = store w after p (record { moment = moment; act = Add key flags expiry value }) a cause
asked w after p moment (Replace key flags expiry value) a cause = store w after p (record { moment = moment; act = Replace key flags expiry value }) a cause
asked w after p moment (Cas key flags expiry cas value) a cause = store w after p (record { moment = moment; act = Cas key flags expiry cas value }) a cause
asked w after p moment (Append key value) a cause = store w after p (record { moment = moment; act = Append key value }) a cause
asked w after p moment (Prepend key value) a cause = store w after p (record { moment = moment; act = Prepend key value }) a cause
asked w after p moment (Incr key by) a cause = store w after p (record { moment = moment; act = Incr key by }) a cause
asked w after p moment (Decr key by) a cause = store w after p (record { moment = moment; act = Decr key by }) a cause

collected : (w : World) (p : ProcessId) (caller call : ℕ) (a : Answer) → CollectCause w p caller call a → MayAnswer kind.Collect a
collected w p caller call (says.Reply x) cause = refl
collected w p caller call says.NotYet cause = refl
collected w p caller call says.Lost cause = refl
collected w p caller call says.Down cause = refl
collected w p caller call says.Stranger cause = refl
collected w p caller call answer cause = absurd cause

delivered : (w : World) (from to : ProcessId) (a : Answer) → DeliverCause w from to a → MayAnswer kind.Deliver a
delivered w from to says.Down cause = refl
delivered w from to says.Idle cause = refl
delivered w from to says.Done cause = refl
delivered w from to answer cause = absurd cause

failed : (w : World) (p : ProcessId) (a : Answer) → FailCause w p a → MayAnswer kind.Fail a
failed w p says.Done cause = refl
failed w p says.AlreadyDead cause = refl
failed w p answer cause = absurd cause

flushed : (w : World) (p : ProcessId) (a : Answer) → FlushCause w p a → MayAnswer kind.Flush a
flushed w p says.Lost cause = refl
flushed w p says.Down cause = refl
flushed w p says.Done cause = refl
flushed w p answer cause = absurd cause

traced : (w : World) (p : ProcessId) (caller call d : ℕ) (a : Answer) → TraceCause w p caller call d a → MayAnswer kind.Trace a
traced w p caller call d (says.Ticket x) cause = absurd cause.2
traced w p caller call d says.NoSpace cause = absurd cause.2
traced w p caller call d (says.Retry x) cause = absurd cause.2
traced w p caller call d says.Idle cause = absurd cause.2
traced w p caller call d says.Stranger cause = absurd cause.2
traced w p caller call d says.Done cause = absurd cause.2
traced w p caller call d says.AlreadyDead cause = absurd cause.2
traced w p caller call d answer cause = refl

pub may-answer : (s : Dimensions) (es : List Event) (e : Event) → IsRun s es → MayCome (after s es) e
    → MayAnswer (kind_of_event e) (step (after s es) e).turn.answer
may-answer s es (Ask caller op p) run may =
    asked (after s es) (step (after s es) (Ask caller op p)).world p op.moment op.act (step (after s es) (Ask caller op p)).turn.answer
    (answers_always s es run (Ask caller op p) may)
may-answer s es (Collect caller call p) run may =
    collected (after s es) p caller call (step (after s es) (Collect caller call p)).turn.answer (answers_always s es run (Collect caller call p) may)
may-answer s es (Deliver from to) run may = delivered (after s es) from to (step (after s es) (Deliver from to)).turn.answer
    (answers_always s es run (Deliver from to) may)
may-answer s es (Fail p keep) run may = failed (after s es) p (step (after s es) (Fail p keep)).turn.answer (answers_always s es run (Fail p keep) may)
may-answer s es (Flush p) run may = flushed (after s es) p (step (after s es) (Flush p)).turn.answer (answers_always s es run (Flush p) may)
may-answer s es (Trace caller call d p) run may =
    traced (after s es) p caller call d.0 (step (after s es) (Trace caller call d p)).turn.answer (answers_always s es run (Trace caller call d p) may)
