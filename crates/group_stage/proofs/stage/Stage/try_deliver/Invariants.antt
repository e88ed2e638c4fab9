use Rattle.group_calls.specs.declared.event.Event.TheVariants.{Deliver}
use Rattle.group_stage.proofs.stage.Stage.try_deliver.Given as goal

abbrev pub ghosts-deliver_as : goal.ghosts-deliver_as
ghosts-deliver_as a = record { event = Deliver a.from a.to }
