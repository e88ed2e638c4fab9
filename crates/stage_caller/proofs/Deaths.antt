-- What stands of a seat after an order that found no memory.
use Rattle.std.proofs.Common.{OnErr, ◌∙◌}
use Rattle.std.specs.Prelude.{Result, Ok, Err}
use Rattle.group_stage.specs.Ended.{IsUnmade}
use Rattle.group_stage.specs.Seated.{view_of}
use Rattle.group_stage.specs.declared.seat.Seat.{Seat}
use Rattle.stage_caller.specs.Calling.{IsSameSeat, MadeNoEvent}

pub idle-on : (before middle after : Seat) → MadeNoEvent before middle → IsSameSeat middle after → IsUnmade (view_of middle) (view_of after)
    → MadeNoEvent before after
idle-on before middle after idle same unmade = record {
  same = record { table = same.table ∙ idle.same.table; shape = same.shape ∙ idle.same.shape; caller = same.caller ∙ idle.same.caller };
  made = unmade.made ∙ idle.made;
}

pub on-err : {T E : Type 0} (result : Result T E) (P : Type 0) → P → OnErr result P
on-err (Ok t) P p = tt
on-err (Err e) P p = p
