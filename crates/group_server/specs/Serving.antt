-- A group that is served by settings.
use Rattle.std.specs.Prelude.{◌≡◌, ◌+◌, length, List}
use Rattle.group_config.specs.Keys.{HasWorkers}
use Rattle.group_config.specs.declared.settings.Settings.{Settings}
use Rattle.group_stage.specs.Seated.{AreSeatsOf, shape_of}
use Rattle.group_stage.specs.declared.seat.Seat.{Seat}
use Rattle.group_stage.specs.declared.stage.Stage.{Stage}

-- the stage has the settings' shape, and there is a seat for each of their workers, one for the accepting thread and one that
-- delivers
pub record IsGroupOf (settings : Settings) (stage : Stage) (seats : List Seat) : Type 0 where
  pub of_stage : AreSeatsOf stage seats
  pub shape : shape_of stage ≡ settings.shape
  pub workers : HasWorkers settings.workers
  pub count : length seats ≡ settings.workers + 2
