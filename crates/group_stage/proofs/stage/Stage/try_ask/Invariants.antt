use Rattle.group_calls.specs.declared.event.Event.TheVariants.{Ask}
use Rattle.group_stage.proofs.stage.Stage.try_ask.Given as goal

abbrev pub ghosts-ask_as : goal.ghosts-ask_as
ghosts-ask_as a = record { event = Ask a.call.caller a.op.now a.at }
