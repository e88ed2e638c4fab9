use Rattle.group_calls.specs.declared.event.Event.TheVariants.{Collect}
use Rattle.group_stage.proofs.stage.Stage.try_collect.Given as goal

abbrev pub ghosts-collect_as : goal.ghosts-collect_as
ghosts-collect_as a = record { event = Collect a.caller a.call a.at }
