-- A script over eras as a whole: its moves, its transcript, and the first line that is refused.
use Rattle.std.specs.Prelude.{ℕ, List, Option, None}
use Rattle.group_types.specs.Dimensions.{Dimensions}
use Rattle.scenario_text.specs.declared.line.LineFault.{LineFault}
use Rattle.scenario_text.specs.declared.line.LineFault.TheVariants.{BadLine}
use Rattle.scenario_run.specs.Course.{Fault, fault_in, named_in, text_in, turns_of_lines}
use Rattle.scenario_run.specs.Lines.{lines_of}
use Rattle.group_eras.specs.Promise.{EraMove}
use Rattle.regroup_run.specs.Playing.{next_of, shape_in}

-- a script's moves, its transcript, its first fault, and the shape of its first era
abbrev pub era_moves_of : List ℕ → List EraMove
era_moves_of text = turns_of_lines next_of None (lines_of text)

abbrev pub transcript : List ℕ → List ℕ
transcript text = text_in next_of None (lines_of text)

abbrev pub first_fault : List ℕ → Option (Fault LineFault)
first_fault text = fault_in next_of BadLine 1 None (lines_of text)

abbrev pub era_script_shape : List ℕ → Option Dimensions
era_script_shape text = shape_in (named_in next_of None (lines_of text))
