use Rattle.std.proofs.Common.{◌++◌, List, length}
use Rattle.scenario_run.specs.Lines.{lines_of}
use Rattle.transcript_text.specs.declared.place.Place.{Place}
use Rattle.run_verify.specs.Runs.{ArePlacesOf}
use Rattle.run_verify.proofs.places.read_places.Given as goal

abbrev pub invariant-lines : goal.invariant-lines
invariant-lines l = record { are : (more : List Place) → ArePlacesOf (lines_of l.rest) more → ArePlacesOf (lines_of l.text) (l.places.items ++ more) }

abbrev pub decreases-lines : goal.decreases-lines
decreases-lines l = length l.rest
