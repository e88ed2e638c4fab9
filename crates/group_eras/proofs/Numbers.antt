-- Answers to other events than asks have no number of a partition.
use Rattle.std.proofs.Common.{ℕ, sym, subst}
use Rattle.group_types.specs.declared.process.ProcessId.{ProcessId}
use Rattle.memc_table.specs.declared.reply.Reply.{Reply}
use Rattle.group_message.specs.declared.update.Outcome.{Outcome}
use Rattle.group_message.specs.declared.update.Outcome.TheVariants as ends
use Rattle.group_calls.specs.declared.event.Answer.{Answer}
use Rattle.group_calls.specs.declared.event.Answer.TheVariants as says
use Rattle.group_calls.specs.declared.event.Event.{Event}
use Rattle.group_calls.specs.declared.event.Event.TheVariants.{Ask, Collect, Deliver, Fail, Flush, Trace}
use Rattle.group_run.specs.Asking.{reply_from}
use Rattle.group_run.specs.Causes.{AnswersHaveCauses, CauseOf, CollectCause, DeliverCause, FailCause, FlushCause, TraceCause}
use Rattle.group_run.specs.Headline.{MayCome}
use Rattle.group_run.specs.World.{World, step}
use Rattle.law_answers.proofs.Answering.{answers_always}
use Rattle.group_eras.specs.Eras.{turn_in}
use Rattle.group_eras.specs.Numbers.{HasNumber, IsAsking, OthersTellNone}
use Rattle.group_eras.proofs.Promises.{led-stands}
use Rattle.group_eras.proofs.Standing.{Stands}

outcome-none : (o : Outcome) → ¬ (HasNumber (says.Reply (reply_from o)))
outcome-none ends.Stored has = has
outcome-none ends.Deleted has = has
outcome-none ends.Touched has = has
outcome-none (ends.Number n) has = has

collect-none : (w : World) (p : ProcessId) (caller call : ℕ) (a : Answer) → CollectCause w p caller call a → ¬ (HasNumber a)
collect-none w p caller call (says.Reply r) causes has = outcome-none causes.1.1.outcome (subst (λ (x : Reply). HasNumber (says.Reply x)) causes.1.4 has)
collect-none w p caller call (says.Ticket n) causes has = causes
collect-none w p caller call (says.Retry why) causes has = causes
collect-none w p caller call says.NotYet causes has = has
collect-none w p caller call says.NoSpace causes has = has
collect-none w p caller call says.Moved causes has = has
collect-none w p caller call says.Lost causes has = has
collect-none w p caller call says.Down causes has = has
collect-none w p caller call says.Idle causes has = has
collect-none w p caller call says.Stranger causes has = has
collect-none w p caller call says.Done causes has = has
collect-none w p caller call says.AlreadyDead causes has = has
collect-none w p caller call says.Gone causes has = has
collect-none w p caller call (says.Stale n) causes has = has

trace-none : (w : World) (p : ProcessId) (caller call d : ℕ) (a : Answer) → TraceCause w p caller call d a → ¬ (HasNumber a)
trace-none w p caller call d (says.Reply r) causes has = outcome-none causes.2.1.0.outcome (subst (λ (x : Reply). HasNumber (says.Reply x)) causes.2.1.3 has)
trace-none w p caller call d (says.Ticket n) causes has = causes.2
trace-none w p caller call d (says.Retry why) causes has = causes.2
trace-none w p caller call d says.NotYet causes has = has
trace-none w p caller call d says.NoSpace causes has = has
trace-none w p caller call d says.Moved causes has = has
trace-none w p caller call d says.Lost causes has = has
trace-none w p caller call d says.Down causes has = has
trace-none w p caller call d says.Idle causes has = has
trace-none w p caller call d says.Stranger causes has = has
trace-none w p caller call d says.Done causes has = has
trace-none w p caller call d says.AlreadyDead causes has = has
trace-none w p caller call d says.Gone causes has = has
trace-none w p caller call d (says.Stale n) causes has = has

deliver-none : (w : World) (from to : ProcessId) (a : Answer) → DeliverCause w from to a → ¬ (HasNumber a)
deliver-none w from to (says.Reply r) causes has = causes
deliver-none w from to (says.Ticket n) causes has = causes
deliver-none w from to (says.Retry why) causes has = causes
deliver-none w from to says.NotYet causes has = has
deliver-none w from to says.NoSpace causes has = has
deliver-none w from to says.Moved causes has = has
deliver-none w from to says.Lost causes has = has
deliver-none w from to says.Down causes has = has
deliver-none w from to says.Idle causes has = has
deliver-none w from to says.Stranger causes has = has
deliver-none w from to says.Done causes has = has
deliver-none w from to says.AlreadyDead causes has = has
deliver-none w from to says.Gone causes has = has
deliver-none w from to (says.Stale n) causes has = has

fail-none : (w : World) (p : ProcessId) (a : Answer) → FailCause w p a → ¬ (HasNumber a)
fail-none w p (says.Reply r) causes has = causes
fail-none w p (says.Ticket n) causes has = causes
fail-none w p (says.Retry why) causes has = causes
fail-none w p says.NotYet causes has = has
fail-none w p says.NoSpace causes has = has
fail-none w p says.Moved causes has = has
fail-none w p says.Lost causes has = has
fail-none w p says.Down causes has = has
fail-none w p says.Idle causes has = has
fail-none w p says.Stranger causes has = has
fail-none w p says.Done causes has = has
fail-none w p says.AlreadyDead causes has = has
fail-none w p says.Gone causes has = has
fail-none w p (says.Stale n) causes has = has

flush-none : (w : World) (p : ProcessId) (a : Answer) → FlushCause w p a → ¬ (HasNumber a)
flush-none w p (says.Reply r) causes has = causes
flush-none w p (says.Ticket n) causes has = causes
flush-none w p (says.Retry why) causes has = causes
flush-none w p says.NotYet causes has = has
flush-none w p says.NoSpace causes has = has
flush-none w p says.Moved causes has = has
flush-none w p says.Lost causes has = has
flush-none w p says.Down causes has = has
flush-none w p says.Idle causes has = has
flush-none w p says.Stranger causes has = has
flush-none w p says.Done causes has = has
flush-none w p says.AlreadyDead causes has = has
flush-none w p says.Gone causes has = has
flush-none w p (says.Stale n) causes has = has

event-none : (w v : World) (e : Event) (a : Answer) → ¬ (IsAsking e) → CauseOf w e v a → ¬ (HasNumber a)
event-none w v (Ask caller op p) a other causes = λ has. other tt
event-none w v (Collect caller call p) a other causes = collect-none w p caller call a causes
event-none w v (Deliver from to) a other causes = deliver-none w from to a causes
event-none w v (Fail p keep) a other causes = fail-none w p a causes
event-none w v (Flush p) a other causes = flush-none w p a causes
event-none w v (Trace caller call d p) a other causes = trace-none w p caller call d.0 a causes

pub others_tell_none : OthersTellNone
others_tell_none e event led may other = by event may.may other where
  stands : Stands e
  stands = led-stands e led

  causes : AnswersHaveCauses e.world
  causes = subst AnswersHaveCauses (sym stands.era.stands) (answers_always e.world.shape stands.era.events stands.era.run)

  by : (x : Event) → MayCome e.world x → ¬ (IsAsking x) → ¬ (HasNumber (turn_in e x).answer)
  by (Ask caller op p) may other = λ has. other tt
  by (Collect caller call p) may other = event-none e.world (step e.world (Collect caller call p)).world
      (Collect caller call p) (step e.world (Collect caller call p)).turn.answer other
      (causes (Collect caller call p) may)
  by (Deliver from to) may other = event-none e.world (step e.world (Deliver from to)).world (Deliver from to)
      (step e.world (Deliver from to)).turn.answer other (causes (Deliver from to) may)
  by (Fail p keep) may other = event-none e.world (step e.world (Fail p keep)).world (Fail p keep)
      (step e.world (Fail p keep)).turn.answer other (causes (Fail p keep) may)
  by (Flush p) may other = event-none e.world (step e.world (Flush p)).world (Flush p) (step e.world (Flush p)).turn.answer other (causes (Flush p) may)
  by (Trace caller call d p) may other = event-none e.world (step e.world (Trace caller call d p)).world
      (Trace caller call d p) (step e.world (Trace caller call d p)).turn.answer other
      (causes (Trace caller call d p) may)
