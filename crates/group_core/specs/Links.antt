-- Deliveries by the indices of their processes.
use Rattle.std.specs.Prelude.{ℕ}
use Rattle.group_types.specs.Dimensions.{Dimensions}
use Rattle.group_types.specs.Names.{process_at}
use Rattle.group_calls.specs.declared.event.Event.{Event}
use Rattle.group_calls.specs.declared.event.Event.TheVariants.{Deliver}

-- the delivery from one index to another
abbrev pub delivery : Dimensions → ℕ × ℕ → Event
delivery s p = Deliver (process_at s p.0) (process_at s p.1)
