-- Callers from one seat, of which one comes behind another.
use Rattle.std.specs.Prelude.{ℕ, ◌≡◌, ◌++◌, List, [], ◌∷◌}
use Rattle.std.proofs.Common.{append-nil, append_assoc, refl, sym, ap, ◌∙◌, subst}
use Rattle.group_types.specs.declared.process.ProcessId.{ProcessId}
use Rattle.memc_proto.specs.declared.end.FailEnd.{FailEnd}
use Rattle.memc_proto.specs.declared.end.FailEnd.TheVariants as ends
use Rattle.front_end.specs.Calls.{Ways}
use Rattle.front_end.specs.Order.{IsOrder, LeadsOn}
use Rattle.group_stage.specs.Seated.{view_of}
use Rattle.group_stage.specs.declared.view.Numbered.{Numbered}
use Rattle.stage_caller.specs.Calling.{IsSameSeat}
use Rattle.stage_caller.specs.Ordering.{HasCalledStage, HasGone, HasMadeNone, IsOrdered, IsSameStage}
use Rattle.stage_caller.specs.declared.caller.StageCaller.{StageCaller}

-- what the seat of the first made stands at the front of what that of the last made
pub record IsLaterSeat (first last : StageCaller) : Type 0 where
  pub kept : IsSameStage first last
  pub same : IsSameSeat first.seat last.seat
  pub more : List Numbered
  pub made : (view_of last.seat).made ≡ (view_of first.seat).made ++ more

-- what a caller comes to by its calls and orders
abbrev pub stage_ways : Ways StageCaller
stage_ways = record { made = HasCalledStage; failed = IsOrdered; kept = HasGone; unmade = HasMadeNone }

at_itself : (c : StageCaller) → IsLaterSeat c c
at_itself c = record {
  kept = record { stage = refl; control = refl };
  same = record { table = refl; shape = refl; caller = refl };
  more = [];
  made = sym (append-nil (view_of c.seat).made);
}

further : (first then last : StageCaller) → IsLaterSeat first then → IsLaterSeat then last → IsLaterSeat first last
further first then last before after = record {
  kept = record { stage = after.kept.stage ∙ before.kept.stage; control = after.kept.control ∙ before.kept.control };
  same = record { table = after.same.table ∙ before.same.table; shape = after.same.shape ∙ before.same.shape; caller = after.same.caller ∙ before.same.caller };
  more = before.more ++ after.more;
  made = after.made ∙ ap (λ (xs : List Numbered). xs ++ after.more) before.made ∙ append_assoc (view_of first.seat).made before.more after.more;
}

ordered : (before : StageCaller) (at : ProcessId) (keep : ℕ) (end : FailEnd) (after : StageCaller)
    → IsOrdered before at keep end after → IsLaterSeat before after
ordered before at keep ends.Off after is = subst (IsLaterSeat before) (sym is.1) (at_itself before)
ordered before at keep ends.NoProcess after is = subst (IsLaterSeat before) (sym is.2) (at_itself before)
ordered before at keep ends.Made after is = record { kept = is.1; same = is.2.same; more = is.2.event ∷ []; made = is.2.made }
ordered before at keep ends.AlreadyDead after is = record { kept = is.1; same = is.2.same; more = is.2.event ∷ []; made = is.2.made }
ordered before at keep ends.Worn after is = record {
  kept = is.1;
  same = is.2.0.same;
  more = [];
  made = is.2.0.made
      ∙ sym (append-nil (view_of before.seat).made);
}

pub stage_order : IsOrder IsLaterSeat
stage_order = record { same = at_itself; on = further }

pub stage_onward : LeadsOn stage_ways IsLaterSeat
stage_onward = record {
  made = λ before op end after is. record { kept = is.same; same = is.called.come.same; more = is.called.come.events; made = is.called.come.made };
  failed = ordered;
  kept = λ before op after is. record { kept = is.same; same = is.stopped.come.same; more = is.stopped.come.events; made = is.stopped.come.made };
  unmade = λ before after is. record { kept = is.same; same = is.idle.same; more = []; made = is.idle.made ∙ sym (append-nil (view_of before.seat).made) };
}
