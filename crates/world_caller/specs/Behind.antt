-- Callers of one group, of which one comes behind another.
use Rattle.std.specs.Prelude.{ℕ, ◌≡◌, ◌++◌, List, [], ◌∷◌}
use Rattle.std.proofs.Common.{refl, sym, ap, ◌∙◌, subst}
use Rattle.group_types.specs.declared.process.ProcessId.{ProcessId}
use Rattle.memc_proto.specs.declared.end.FailEnd.{FailEnd}
use Rattle.memc_proto.specs.declared.end.FailEnd.TheVariants as ends
use Rattle.front_end.specs.Calls.{Ways}
use Rattle.front_end.specs.Order.{IsOrder, LeadsOn}
use Rattle.group_calls.specs.declared.event.Event.{Event}
use Rattle.group_calls.specs.declared.event.Event.TheVariants.{Fail}
use Rattle.group_run.specs.World.{World, step, world_after}
use Rattle.world_caller.specs.Callers.{GroupCaller, HasCalledGroup, HasFailedProcess, HasLackedMemory, IsFailureOrdered, IsSameCaller}

-- the group of the last is that of the first after some events
pub record IsLaterGroup (first last : GroupCaller) : Type 0 where
  pub same : IsSameCaller first last
  pub events : List Event
  pub after : last.world ≡ world_after first.world events

-- what a caller comes to by its calls and orders; an order that found no memory has made nothing
abbrev pub world_ways : Ways GroupCaller
world_ways = record { made = HasCalledGroup; failed = IsFailureOrdered; kept = HasLackedMemory; unmade = λ before after. after ≡ before }

both : (w : World) (es fs : List Event) → world_after w (es ++ fs) ≡ world_after (world_after w es) fs
both w [] fs = refl
both w (e ∷ es) fs = both (step w e).world es fs

at_itself : (c : GroupCaller) → IsLaterGroup c c
at_itself c = record { same = record { caller = refl; control = refl }; events = []; after = refl }

further : (first then last : GroupCaller) → IsLaterGroup first then → IsLaterGroup then last → IsLaterGroup first last
further first then last before after = record {
  same = record { caller = after.same.caller ∙ before.same.caller; control = after.same.control ∙ before.same.control };
  events = before.events ++ after.events;
  after = after.after ∙ ap (λ (w : World). world_after w after.events) before.after ∙ sym (both first.world before.events after.events);
}

failed : (before : GroupCaller) (p : ProcessId) (keep : ℕ) (end : FailEnd) (after : GroupCaller)
    → HasFailedProcess before p keep end after → IsLaterGroup before after
failed before p keep end after is = record { same = is.same; events = Fail p keep ∷ []; after = is.world }

ordered : (before : GroupCaller) (p : ProcessId) (keep : ℕ) (end : FailEnd) (after : GroupCaller)
    → IsFailureOrdered before p keep end after → IsLaterGroup before after
ordered before p keep ends.Off after is = subst (IsLaterGroup before) (sym is.1) (at_itself before)
ordered before p keep ends.NoProcess after is = subst (IsLaterGroup before) (sym is.2) (at_itself before)
ordered before p keep ends.Worn after is = subst (IsLaterGroup before) (sym is.2) (at_itself before)
ordered before p keep ends.Made after is = failed before p keep ends.Made after is
ordered before p keep ends.AlreadyDead after is = failed before p keep ends.AlreadyDead after is

pub world_order : IsOrder IsLaterGroup
world_order = record { same = at_itself; on = further }

pub world_onward : LeadsOn world_ways IsLaterGroup
world_onward = record {
  made = λ before op end after is. record { same = is.same; events = is.called.events; after = is.called.after };
  failed = ordered;
  kept = λ before op after is. record { same = is.same; events = is.stopped.come.events; after = is.stopped.come.after };
  unmade = λ before after stayed. subst (IsLaterGroup before) (sym stayed) (at_itself before);
}
