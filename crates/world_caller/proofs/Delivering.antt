-- What comes first in a group that a run led to: a delivery, or the call's own event, where the group is drained or down.
use Rattle.std.proofs.Common.{ℕ, ◌≡◌, Bool, true, false, List, Some, None, if◌then◌else◌, ◌⊎◌, inl, inr, refl, sym, subst, arith}
use Rattle.std.proofs.lemmas.Bool.Decides.{nat_tests}
use Rattle.group_types.specs.Dimensions.{Dimensions}
use Rattle.group_types.specs.declared.process.ProcessId.{ProcessId}
use Rattle.group_calls.specs.declared.event.Event.{Event}
use Rattle.group_calls.specs.declared.event.Event.TheVariants.{Ask, Collect, Deliver, Fail, Flush, Trace}
use Rattle.group_run.specs.Draining.{next_delivery}
use Rattle.group_run.specs.Headline.{IsRun, MayCome}
use Rattle.group_run.specs.History.{History, history_of, no_history}
use Rattle.group_run.specs.Meaning.{IsDown, IsDrained}
use Rattle.group_run.specs.World.{World, after, step}
use Rattle.law_moves.proofs.Events.{FramedHistory}
use Rattle.law_moves.proofs.Runs.{framed-from, framed-opening}
use Rattle.law_progress.specs.Drains.{NextComes}
use Rattle.group_run.specs.Causes.{IsDelivery}
use Rattle.law_progress.proofs.Whole.{next-comes}
use Rattle.law_progress.proofs.Steps.{world-is}
use Rattle.group_run.specs.Shown.{is_down}
use Rattle.scenario_run.proofs.Draining.{Lightens, lightens}
use Rattle.scenario_run.proofs.Truth.{up}
use Rattle.world_caller.specs.Calling.{due}
use Rattle.world_caller.specs.Laws.{CanGoOnFrom, DueDeliversAlways, IsTicketed}
use Rattle.world_caller.specs.declared.stage.Stage.{Stage}
use Rattle.world_caller.specs.declared.stage.Stage.TheVariants.{Asks, Collects}
use Rattle.world_caller.proofs.Standing.{ticket-stays}
use Rattle.group_core.proofs.Waiting.{none-waits}

pub isdown : (w : World) → is_down w ≡ true → IsDown w
isdown w is = grind (arith, nat_tests)

pub due-first : (w : World) (e : Event) → due w ≡ Some e → (¬ (IsDown w)) × (next_delivery w ≡ Some e)
due-first w e = by (is_down w) refl where
  by : (b : Bool) → is_down w ≡ b → (if b then None else next_delivery w) ≡ Some e → (¬ (IsDown w)) × (next_delivery w ≡ Some e)
  by true down is = cc is
  by false down is = (up w down, is)

-- where none comes first the group is down, or drained
pub due-none : (w : World) → due w ≡ None → IsDown w ⊎ ((¬ (IsDown w)) × IsDrained w)
due-none w = by (is_down w) refl where
  by : (b : Bool) → is_down w ≡ b → (if b then None else next_delivery w) ≡ None → IsDown w ⊎ ((¬ (IsDown w)) × IsDrained w)
  by true down is = inl (isdown w down)
  by false down is = inr (up w down, none-waits w is)

pub framed : (s : Dimensions) (es : List Event) → IsRun s es → FramedHistory (history_of s es)
framed s es run = framed-from (no_history s) es (framed-opening s) run.1

ticket-kept : (h : History) → FramedHistory h → (e : Event) → IsDelivery e → MayCome h.world e
    → (caller call : ℕ) (p : ProcessId) → IsTicketed h.world caller call p
    → IsTicketed (step h.world e).world caller call p
ticket-kept h frame (Deliver from to) delivery may caller call p t = ticket-stays h frame from to may caller call p t
ticket-kept h frame (Ask caller op q) delivery may who number p t = absurd delivery
ticket-kept h frame (Collect caller call q) delivery may who number p t = absurd delivery
ticket-kept h frame (Fail q keep) delivery may who number p t = absurd delivery
ticket-kept h frame (Flush q) delivery may who number p t = absurd delivery
ticket-kept h frame (Trace caller call d q) delivery may who number p t = absurd delivery

pub delivers_always : DueDeliversAlways
delivers_always s es run e first = record {
  may = light.may;
  lower = light.lower;
  keeps = keeps;
} where
  both : (¬ (IsDown (after s es))) × (next_delivery (after s es) ≡ Some e)
  both = due-first (after s es) e first

  light : Lightens (after s es) e
  light = lightens s (after s es) e (record { events = es; run = run; is = refl }) both.0 both.1

  comes : NextComes (after s es) e
  comes = next-comes s es run both.0 e both.1

  keeps : (caller : ℕ) (stage : Stage) → CanGoOnFrom caller (after s es) stage → CanGoOnFrom caller (step (after s es) e).world stage
  keeps caller Asks stands = stands
  keeps caller (Collects call p) stands =
      subst (λ (w : World). IsTicketed (step w e).world caller call p) (world-is s es run)
      (ticket-kept (history_of s es) (framed s es run) e comes.delivery (subst (λ (w : World). MayCome w e) (sym (world-is s es run)) light.may) caller call p
      (subst (λ (w : World). IsTicketed w caller call p) (sym (world-is s es run)) stands))
