-- The worked carry, computed.
use Rattle.std.proofs.Common.{ℕ, zero, suc, ◌<◌, ◌≤◌, List, [], ◌∷◌, refl, arith}
use Rattle.group_types.specs.Dimensions.{space_of}
use Rattle.group_types.specs.Shape.{IsShape}
use Rattle.group_types.specs.declared.process.ProcessId.TheVariants.{DataNode, ParityNode}
use Rattle.group_calls.specs.declared.event.Event.{Event}
use Rattle.group_calls.specs.declared.event.Event.TheVariants.{Ask, Deliver, Fail}
use Rattle.group_run.specs.Headline.{IsRun}
use Rattle.group_run.specs.World.{opening}
use Rattle.law_causes.proofs.Drained.{next_always}
use Rattle.group_eras.specs.Eras.{first_era}
use Rattle.group_eras.specs.Items.{bytes_in_partition}
use Rattle.group_eras.specs.Promise.{all_done}
use Rattle.law_causes.specs.Worked.{small_shape}
use Rattle.group_eras.specs.Worked.{LogIsAsWorked, MayBeWorked, before_carry, next_shape, small_set}

pub log_is_as_worked : LogIsAsWorked
log_is_as_worked = refl

events : List Event
events = Ask 0 small_set (DataNode 0) ∷ Deliver (DataNode 0) (ParityNode 0) ∷ Deliver (ParityNode 0) (DataNode 0)
    ∷ Fail (DataNode 0) 0 ∷ Deliver (DataNode 0) (ParityNode 0) ∷ []

shaped : IsShape small_shape
unfolding lib.Count.ones
shaped = record {
  k = (omega arith, omega arith);
  m = omega arith;
  block = (omega arith, omega arith, refl);
  blocks = (omega arith, omega arith);
}

runs : IsRun small_shape events
unfolding events
runs = (
  shaped,
  (
    (omega arith, omega arith, λ i b low. absurd (omega (arith, low))),
    (
      (omega arith, omega arith, λ same. cc same),
      ((omega arith, omega arith, λ same. cc same), (omega arith, ((omega arith, omega arith, λ same. cc same), tt))),
    ),
  ),
)

pub may_be_worked : MayBeWorked
unfolding events
may_be_worked = (
  (
    record {
      may = (omega arith, omega arith, λ i b low. absurd (omega (arith, low)));
      others = omega arith;
      range = record { moment = omega arith; expiry = omega arith };
    },
    (
      record { may = (omega arith, omega arith, λ same. cc same); others = tt; range = tt },
      (
        record { may = (omega arith, omega arith, λ same. cc same); others = tt; range = tt },
        (
          record { may = omega arith; others = tt; range = tt },
          (record { may = (omega arith, omega arith, λ same. cc same); others = tt; range = tt }, tt),
        ),
      ),
    ),
  ),
  record {
    rest = record { up = λ down. omega (arith, down); drained = (next_always small_shape events runs).0 refl };
    space = no-bytes;
  },
) where
  no-bytes : (d : ℕ) → d < 1 → bytes_in_partition (all_done (first_era (opening small_shape)) before_carry).world d ≤ space_of next_shape
  no-bytes zero low = omega arith
  no-bytes (suc d) low = absurd (omega (arith, low))
