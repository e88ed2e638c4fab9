use Rattle.group_calls.specs.declared.event.Event.TheVariants.{Trace}
use Rattle.group_stage.proofs.stage.Stage.try_trace.Given as goal

abbrev pub ghosts-trace_as : goal.ghosts-trace_as
ghosts-trace_as a = record { event = Trace a.caller a.call a.partition a.at }
