-- A script of one group as a whole: its turns, its transcript, and the first line that is refused.
use Rattle.std.specs.Prelude.{ℕ, List, map, Option, None}
use Rattle.group_types.specs.Dimensions.{Dimensions}
use Rattle.group_calls.specs.Turns.{Turn}
use Rattle.group_calls.specs.declared.event.Event.{Event}
use Rattle.scenario_text.specs.declared.line.LineFault.{LineFault}
use Rattle.scenario_text.specs.declared.line.LineFault.TheVariants.{BadLine}
use Rattle.scenario_run.specs.Course.{Fault, fault_in, named_in, text_in, turns_of_lines}
use Rattle.scenario_run.specs.Lines.{lines_of}
use Rattle.scenario_run.specs.Playing.{next_of, shape_in}

-- a script's turns, its events, its transcript, its first fault, and its shape
abbrev pub script_turns : List ℕ → List Turn
script_turns text = turns_of_lines next_of None (lines_of text)

abbrev pub script_events : List ℕ → List Event
script_events text = map (λ turn. turn.event) (script_turns text)

abbrev pub transcript : List ℕ → List ℕ
transcript text = text_in next_of None (lines_of text)

abbrev pub first_fault : List ℕ → Option (Fault LineFault)
first_fault text = fault_in next_of BadLine 1 None (lines_of text)

abbrev pub script_shape : List ℕ → Option Dimensions
script_shape text = shape_in (named_in next_of None (lines_of text))
