use Rattle.group_calls.specs.declared.event.Event.TheVariants.{Deliver}
use Rattle.group_stage.proofs.stage.Stage.try_look.Given as goal

abbrev pub ghosts-look_as : goal.ghosts-look_as
ghosts-look_as a = record { event = Deliver a.from a.to }
