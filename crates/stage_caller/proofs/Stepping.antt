-- What one call of a seat makes of it, as a step of a call.
use Rattle.std.proofs.Common.{ℕ, ◌≡◌, ◌+◌, [], ◌∷◌, length, refl, sym, ap, subst, ◌∙◌}
use Rattle.std.proofs.lemmas.List.{append-nil}
use Rattle.group_types.specs.declared.process.ProcessId.{ProcessId}
use Rattle.group_calls.specs.declared.event.Answer.{Answer}
use Rattle.group_calls.specs.declared.event.Event.{Event}
use Rattle.group_stage.specs.Ended.{Ended, HasReturned}
use Rattle.group_stage.specs.Looked.{HasLooked}
use Rattle.group_stage.specs.Seated.{IsOf, view_of}
use Rattle.group_stage.specs.declared.answer.StageAnswer.{StageAnswer}
use Rattle.group_stage.specs.declared.answer.StageAnswer.TheVariants.{Busy, Made, Worn}
use Rattle.group_stage.specs.declared.looking.Looked.{Looked}
use Rattle.group_stage.specs.declared.looking.Looked.TheVariants as look
use Rattle.group_stage.specs.declared.seat.Seat.{Seat}
use Rattle.group_stage.specs.declared.stage.Stage.{Stage}
use Rattle.group_stage.specs.declared.view.View.{View}
use Rattle.stage_caller.specs.Calling.{IsOver, IsOwnEvent, IsSameSeat, Wish}
use Rattle.stage_caller.specs.Moving.{HasStepped, SaysByAnswer, SaysByLook, StepLeads, StepSays}
use Rattle.stage_caller.specs.declared.phase.Next.{Next}
use Rattle.stage_caller.specs.declared.phase.Next.TheVariants.{Goes}
use Rattle.stage_caller.specs.declared.phase.Phase.{Phase}
use Rattle.stage_caller.specs.declared.step.Step.{Step}
use Rattle.stage_caller.specs.declared.step.Step.TheVariants as steps

pub same-seat : (stage : Stage) (before after : Seat) → IsOf stage before → IsOf stage after → after.caller ≡ before.caller → IsSameSeat before after
same-seat stage before after was is caller = record { table = is.table ∙ sym was.table; shape = is.shape ∙ sym was.shape; caller = caller }

-- the seat counts its calls as its view does
calls-more : (before after : Seat) → HasReturned (view_of before) (view_of after) → after.calls ≡ before.calls + 1
calls-more before after returned = after.is_seat.counted ∙ returned.calls ∙ ap (λ (n : ℕ). n + 1) (sym before.is_seat.counted)

leads : (before after : Seat) (next : Next) (step : Step) → HasReturned (view_of before) (view_of after) → StepSays next step → StepLeads before after next step
leads before after next (steps.Goes phase heard) returned says = (says, calls-more before after returned)
leads before after next (steps.Ends end) returned says = subst (λ (n : Next). IsOver after n end) (sym says) refl

pub stepped : (wish : Wish) (phase : Phase) (event : Event) (to : Answer → Next) (before after : Seat)
    (answer : StageAnswer) (step : Step) → IsSameSeat before after
    → Ended event (view_of before) answer (view_of after) → ((a : Answer) → IsOwnEvent wish before.asks phase event a (to a))
    → SaysByAnswer to phase answer step
    → HasStepped wish phase before step after
stepped wish phase event to before after (Made a) step same ended own gives = record {
  same = same;
  events = record { number = length ended.1.0; event = event; answer = a } ∷ [];
  last = to a;
  made = ended.1.1.made;
  brings = (to a, own a, refl);
  leads = leads before after (to a) step ended.0 gives;
}
stepped wish phase event to before after (Busy p) step same ended own gives = record {
  same = same;
  events = [];
  last = Goes phase;
  made = ended.1.made ∙ sym (append-nil (view_of before).made);
  brings = refl;
  leads = leads before after (Goes phase) step ended.0 gives;
}
stepped wish phase event to before after Worn step same ended own gives = record {
  same = same;
  events = [];
  last = Goes phase;
  made = ap (λ (v : View). v.made) ended.same ∙ sym (append-nil (view_of before).made);
  brings = refl;
  leads = subst (StepLeads before after (Goes phase)) (sym gives) (ap (λ (v : View). v.calls) ended.same ∙ ended.spent, refl);
}

pub shown : (wish : Wish) (phase : Phase) (sender receiver : ProcessId) (before after : Seat) (looked : Looked) (step : Step) → IsSameSeat before after
    → HasLooked sender receiver (view_of before) looked (view_of after) → SaysByLook phase looked step → HasStepped wish phase before step after
shown wish phase sender receiver before after looked step same has shows = by looked has shows where
  none : (view_of after).made ≡ (view_of before).made → StepLeads before after (Goes phase) step → HasStepped wish phase before step after
  none made leads = record { same = same; events = []; last = Goes phase; made = made ∙ sym (append-nil (view_of before).made); brings = refl; leads = leads }

  by : (looked : Looked) → HasLooked sender receiver (view_of before) looked (view_of after) → SaysByLook phase looked step
      → HasStepped wish phase before step after
  by look.Waits has shows = none has.1.unmade.made (leads before after (Goes phase) step has.1.unmade.returned shows)
  by look.Empty has shows = none has.1.unmade.made (leads before after (Goes phase) step has.1.unmade.returned shows)
  by look.Busy has shows = none has.1.made (leads before after (Goes phase) step has.0 shows)
  by look.Worn has shows = none (ap (λ (v : View). v.made) has.same)
      (subst (StepLeads before after (Goes phase)) (sym shows) (ap (λ (v : View). v.calls) has.same ∙ has.spent, refl))
