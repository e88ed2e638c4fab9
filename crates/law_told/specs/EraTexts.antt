-- What the transcript of a script over eras tells: of each line its answer and what it logged, and in all the log.
use Rattle.std.specs.Prelude.{ℕ, ◌≡◌, ◌⊎◌, List, [], ◌∷◌, ◌++◌, codes, length, Option, Some, None, Ok}
use Rattle.std.specs.Fmt.{decimal}
use Rattle.group_types.specs.Dimensions.{Dimensions}
use Rattle.group_calls.specs.declared.event.Event.{Event}
use Rattle.group_run.specs.World.{opening}
use Rattle.scenario_text.specs.Meaning.{line_meaning}
use Rattle.scenario_text.specs.Texts.{answer_text}
use Rattle.scenario_text.specs.declared.line.Line.TheVariants.{Drain}
use Rattle.scenario_run.specs.Course.{Goes}
use Rattle.group_eras.specs.Carry.{many_carried}
use Rattle.group_eras.specs.Eras.{EraEntry, era_step, first_era}
use Rattle.group_eras.specs.Promise.{Carries, EraMove, Makes, all_done}
use Rattle.regroup_run.specs.Playing.{EraPlay, next_of, shape_in}
use Rattle.regroup_run.specs.Script.{era_moves_of, era_script_shape, first_fault, transcript}
use Rattle.regroup_run.specs.Texts.{era_entry_text}
use Rattle.law_told.specs.Lines.{TellsLines}

-- the one event of a line is answered
pub record IsEraAnswer (p : EraPlay) (moves : List EraMove) (said : List (List ℕ)) : Type 0 where
  pub event : Event
  pub only : moves ≡ Makes event ∷ []
  pub answer : said ≡ answer_text (era_step p.eras event).answer ∷ []

-- deliveries are counted
pub record IsCounted (p : EraPlay) (line : List ℕ) (moves : List EraMove) (said : List (List ℕ)) : Type 0 where
  pub drains : line_meaning (shape_in (Some p)) line ≡ Ok Drain
  pub many : said ≡ (codes "drained " ++ decimal (length moves)) ∷ []

-- items that are carried are counted
pub record IsCarryCounted (p : EraPlay) (moves : List EraMove) (said : List (List ℕ)) : Type 0 where
  pub shape : Dimensions
  pub only : moves ≡ Carries shape ∷ []
  pub many : said ≡ (codes "regrouped " ++ decimal (many_carried p.eras)) ∷ []

-- what a line says beside the log: anything where it does nothing
abbrev pub IsSaidOfEras : EraPlay → List ℕ → List EraMove → List (List ℕ) → Type 0
IsSaidOfEras p line moves said = (moves ≡ []) ⊎ (IsEraAnswer p moves said ⊎ (IsCounted p line moves said ⊎ IsCarryCounted p moves said))

-- what a line writes is that, and the entries by which its moves prolong the log
pub record LineTells (p : EraPlay) (line : List ℕ) (moves : List EraMove) (text : List ℕ) : Type 0 where
  pub said : List (List ℕ)
  pub is_said : IsSaidOfEras p line moves said
  pub logged : List EraEntry
  pub grows : (all_done p.eras moves).log ≡ p.eras.log ++ logged
  pub tells : TellsLines era_entry_text text logged said

abbrev pub EraLinesTell : Type 0
EraLinesTell = (p : EraPlay) (line : List ℕ) (next : Option EraPlay) (moves : List EraMove) (text : List ℕ)
    → next_of (Some p) line ≡ Goes next moves text → LineTells p line moves text

-- the lines of a transcript that begin with `=` are the log at the end
pub record HasEraLog (text : List ℕ) : Type 0 where
  pub shape : Dimensions
  pub named : era_script_shape text ≡ Some shape
  pub said : List (List ℕ)
  pub tells : TellsLines era_entry_text (transcript text) (all_done (first_era (opening shape)) (era_moves_of text)).log said

abbrev pub EraTranscriptsTell : Type 0
EraTranscriptsTell = (text : List ℕ) → first_fault text ≡ None → HasEraLog text
