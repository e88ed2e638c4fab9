-- A seat after a look at a link.
use Rattle.std.proofs.Common.{ℕ, ◌≡◌, ◌+◌, ◌<◌, [], sym, ap, ◌∙◌, arith}
use Rattle.group_types.specs.declared.process.ProcessId.{ProcessId}
use Rattle.group_stage.specs.Ended.{HasReturned, IsSeat}
use Rattle.group_stage.specs.Kept.{most_calls}
use Rattle.group_stage.specs.Looked.{HasLooked}
use Rattle.group_stage.specs.Steps.{Sat}
use Rattle.group_stage.specs.Views.{asks_by}
use Rattle.group_stage.specs.declared.looking.Looked.{Looked}
use Rattle.group_stage.specs.declared.looking.Looked.TheVariants.{Busy, Empty, Waits, Worn}

-- a seat after a call that made no event
seat-again : (m n : Sat) (caller calls asks : ℕ) → IsSeat m caller calls asks → calls < most_calls → HasReturned m.0 n.0
    → n.0.made ≡ m.0.made → n.1 ≡ [] → IsSeat n caller (calls + 1) asks
seat-again m n caller calls asks seat low back made slots = record {
  part = back.parts ∙ seat.part;
  number = back.numbers ∙ seat.number;
  low = seat.low;
  counted = let same = seat.counted in let up = back.calls in omega (arith, same, up);
  asked = seat.asked ∙ ap (asks_by caller) (sym made);
  few = omega (arith, low);
  fewer = let less = seat.fewer in omega (arith, less);
  idle = back.idle;
  slots = slots;
}

-- a seat after a look
pub seat-looked : (sender receiver : ProcessId) (m n : Sat) (caller calls asks : ℕ) (said : Looked) → IsSeat m caller calls asks → calls < most_calls
    → HasLooked sender receiver m.0 said n.0 → n.1 ≡ [] → IsSeat n caller (calls + 1) asks
seat-looked sender receiver m n caller calls asks Empty seat low looked slots =
    seat-again m n caller calls asks seat low looked.1.unmade.returned looked.1.unmade.made slots
seat-looked sender receiver m n caller calls asks Waits seat low looked slots =
    seat-again m n caller calls asks seat low looked.1.unmade.returned looked.1.unmade.made slots
seat-looked sender receiver m n caller calls asks Busy seat low looked slots = seat-again m n caller calls asks seat low looked.0 looked.1.made slots
seat-looked sender receiver m n caller calls asks Worn seat low looked slots =
    absurd (let spent = looked.spent in let same = seat.counted in omega (arith, low, spent, same))
