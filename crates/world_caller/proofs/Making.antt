-- What an event of a call's own makes, and a call as a whole.
use Rattle.std.proofs.Common.{ℕ, ◌≡◌, ◌<◌, ◌≤◌, ◌+◌, Option, Some, None, refl, sym, ap, subst, ◌∙◌}
use Rattle.group_types.specs.Lists.{at}
use Rattle.group_types.specs.declared.process.ProcessId.{ProcessId}
use Rattle.memc_table.specs.Asked.{Asked}
use Rattle.memc_proto.specs.declared.end.CallEnd.{CallEnd}
use Rattle.group_calls.specs.declared.event.Answer.{Answer}
use Rattle.group_calls.specs.declared.event.Event.{Event}
use Rattle.group_calls.specs.declared.event.Event.TheVariants.{Ask, Collect}
use Rattle.group_run.specs.Causes.{home_in}
use Rattle.group_run.specs.Headline.{MayCome}
use Rattle.group_run.specs.World.{World, step}
use Rattle.group_core.specs.Runs.{HasRun}
use Rattle.scenario_run.proofs.Leading.{IsLedTo, led-step}
use Rattle.world_caller.specs.Calling.{HasMovedGroup, IsCallMade, IsCallOver, IsFirstOrOwn, Serves, due, most_events, next_of_ask, next_of_collect}
use Rattle.world_caller.specs.Laws.{AsksFew, AsksLeadOn, AsksLeadOnAlways, CanGoOn, CollectsLeadOn, CollectsLeadOnAlways, Delivers}
use Rattle.world_caller.specs.Laws.{DueDelivers, DueDeliversAlways, EventLeadsOn, FewAlways, IsTicketed}
use Rattle.world_caller.specs.Making.{AreDelivered, IsFirstDelivered, IsStepMade}
use Rattle.world_caller.specs.declared.stage.Next.{Next}
use Rattle.world_caller.specs.declared.stage.Stage.TheVariants.{Asks, Collects}
use Rattle.world_caller.proofs.Bringing.{delivered-more}

-- a run that led to the group
pub led-to : (w : World) → HasRun w → IsLedTo w.shape w
led-to w run = record { events = run.events; run = run.run; is = run.is }

leads-there : (caller : ℕ) (v : World) (to : Option Next) (next : Next) → EventLeadsOn caller v to → to ≡ Some next → CanGoOn caller v next
leads-there caller v to next leads is = let same : leads.next ≡ next = cc (sym leads.is ∙ is) in subst (CanGoOn caller v) same leads.stands

pub ask-made : (w v : World) (caller call : ℕ) (op : Asked) (p : ProcessId) (answer : Answer) (next : Next) → AsksLeadOnAlways → HasRun w
    → due w ≡ None → w.events < most_events → MayCome w (Ask caller op p)
    → Serves w (home_in w op) p → v ≡ (step w (Ask caller op p)).world → answer ≡ (step w (Ask caller op p)).turn.answer
    → next_of_ask call p answer ≡ Some next → call ≡ at 0 w.asked caller
    → IsStepMade caller op w Asks v next
ask-made w v caller call op p answer next law run none counted may serves after answered is named = record {
  event = Ask caller op p;
  is = record {
    counted = counted;
    may = may;
    done = subst (λ (o : Option Event). IsFirstOrOwn o caller op w Asks (Ask caller op p) next) (sym none)
        (p, serves, refl, there);
  };
  after = after;
  stands = subst (λ (x : World). CanGoOn caller x next) (sym after)
      (leads-there caller (step w (Ask caller op p)).world
      (next_of_ask (at 0 w.asked caller) p (step w (Ask caller op p)).turn.answer) next
      (lead caller op p none may serves) there);
} where
  lead : AsksLeadOn w
  lead = subst AsksLeadOn (sym run.is) (law w.shape run.events run.run)

  there : next_of_ask (at 0 w.asked caller) p (step w (Ask caller op p)).turn.answer ≡ Some next
  there = ap (next_of_ask (at 0 w.asked caller) p) (sym answered) ∙ ap (λ (n : ℕ). next_of_ask n p answer) (sym named) ∙ is

pub collect-made : (w v : World) (caller call : ℕ) (op : Asked) (p : ProcessId) (answer : Answer) (next : Next) → CollectsLeadOnAlways → HasRun w
    → due w ≡ None → w.events < most_events → MayCome w (Collect caller call p)
    → IsTicketed w caller call p → v ≡ (step w (Collect caller call p)).world
    → answer ≡ (step w (Collect caller call p)).turn.answer → next_of_collect answer ≡ Some next
    → IsStepMade caller op w (Collects call p) v next
collect-made w v caller call op p answer next law run none counted may ticket after answered is = record {
  event = Collect caller call p;
  is = record {
    counted = counted;
    may = may;
    done = subst (λ (o : Option Event). IsFirstOrOwn o caller op w (Collects call p) (Collect caller call p) next)
        (sym none) (refl, there);
  };
  after = after;
  stands = subst (λ (x : World). CanGoOn caller x next) (sym after)
      (leads-there caller (step w (Collect caller call p)).world
      (next_of_collect (step w (Collect caller call p)).turn.answer) next (lead caller call p none may ticket) there);
} where
  lead : CollectsLeadOn w
  lead = subst CollectsLeadOn (sym run.is) (law w.shape run.events run.run)

  there : next_of_collect (step w (Collect caller call p)).turn.answer ≡ Some next
  there = ap next_of_collect (sym answered) ∙ is

-- a call that is over
pub called : (caller : ℕ) (op : Asked) (w v : World) (next : Next) (end : CallEnd) → FewAlways → HasRun w
    → HasMovedGroup caller op w v next → IsCallOver v next end → IsCallMade caller op w end v
called caller op w v next end law run come over = record {
  events = come.events;
  last = next;
  brings = come.brings;
  after = come.after;
  over = over;
  few = subst (λ (x : World). at 0 x.asked caller ≤ at 0 w.asked caller + (w.shape.blocks + 1)) (sym come.after) (few caller op come.events next come.brings);
} where
  few : AsksFew w
  few = subst AsksFew (sym run.is) (law w.shape run.events run.run)

-- the delivery that comes first leaves all as it should be
module _ (w v u : World) (law : DueDeliversAlways) (led : IsLedTo v.shape v) (is : IsFirstDelivered v u) where
  pub delivers : Delivers v is.event
  delivers = first is.event is.first where
    first : DueDelivers v
    first = subst DueDelivers (sym led.is) (law v.shape led.events led.run)

  pub led-on : IsLedTo u.shape u
  led-on = subst (λ (x : World). IsLedTo x.shape x) (sym is.after) (led-step v.shape v is.event led delivers.may)

  pub more-delivered : AreDelivered w v → v.events < most_events → AreDelivered w u
  more-delivered are counted = delivered-more w v u are counted is delivers
