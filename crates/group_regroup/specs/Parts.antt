-- A group in which the first of some events were made.
use Rattle.std.specs.Prelude.{ℕ, ◌≡◌, List, take}
use Rattle.group_types.specs.declared.process.ProcessId.{ProcessId}
use Rattle.memc_table.specs.Asked.{Asked}
use Rattle.group_calls.specs.declared.event.Event.{Event}
use Rattle.group_calls.specs.declared.event.Event.TheVariants.{Ask}
use Rattle.group_run.specs.Headline.{MayCome}
use Rattle.group_run.specs.World.{World, world_after}

abbrev pub IsPart : World → List Event → World → Type 0
IsPart w events v = (many : ℕ) × (v ≡ world_after w (take many events))

-- the event is an ask that may come
pub record MayAsk (w : World) (e : Event) : Type 0 where
  pub caller : ℕ
  pub op : Asked
  pub at : ProcessId
  pub is : e ≡ Ask caller op at
  pub may : MayCome w e
