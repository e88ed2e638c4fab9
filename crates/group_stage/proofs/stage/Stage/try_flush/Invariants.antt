use Rattle.group_calls.specs.declared.event.Event.TheVariants.{Flush}
use Rattle.group_stage.proofs.stage.Stage.try_flush.Given as goal

abbrev pub ghosts-flush_as : goal.ghosts-flush_as
ghosts-flush_as a = record { event = Flush a.at }
