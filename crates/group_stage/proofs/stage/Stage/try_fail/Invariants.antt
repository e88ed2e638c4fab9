use Rattle.group_calls.specs.declared.event.Event.TheVariants.{Fail}
use Rattle.group_stage.proofs.stage.Stage.try_fail.Given as goal

abbrev pub ghosts-fail_as : goal.ghosts-fail_as
ghosts-fail_as a = record { event = Fail a.at a.keep }
