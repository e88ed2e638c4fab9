-- What a transcript tells for each step of its script, and the lines that tell it.
use Rattle.std.specs.Prelude.{ℕ, suc, ◌≡◌, ◌+◌, ◌<◌, ◌^◌, List, [], ◌∷◌, ◌++◌, All, map, codes, Option, Some, None, ⊤}
use Rattle.std.specs.Fmt.{decimal}
use Rattle.group_types.specs.declared.run.Run.{Run}
use Rattle.group_calls.specs.Turns.{Turn, log_of}
use Rattle.group_calls.specs.declared.event.Event.{Event}
use Rattle.group_calls.specs.declared.event.Event.TheVariants as happens
use Rattle.group_run.specs.Causes.{IsDelivery}
use Rattle.scenario_text.specs.Texts.{answer_text, entry_text, many_placed, place_text, shown_text}
use Rattle.transcript_text.specs.Forms.{FitsAnswer, MayAnswer, kind_of_event}
use Rattle.run_verify.specs.declared.step.Step.{Step}
use Rattle.run_verify.specs.declared.step.Step.TheVariants.{Make, Deliveries, Look, Placing}

-- what is told for a step: an event with its answer and what it logged; deliveries, and a number of them, which
-- nobody checks; the stamp and the bytes of a process; that it is dead; that the group is down; and the runs of each
-- partition's updates, by number
pub data ToldStep : Type 0 where
  Made : Turn → ToldStep
  Drained : List Turn → ℕ → ToldStep
  Shown : List ℕ → List ℕ → ToldStep
  Lost : ToldStep
  Down : ToldStep
  Placed : List (List (Option Run)) → ToldStep

-- the lines of the runs of a partition's updates behind this number
abbrev pub run_lines : ℕ → ℕ → List (Option Run) → List (List ℕ)
run_lines d number [] = []
run_lines d number (None ∷ runs) = run_lines d (suc number) runs
run_lines d number (Some run ∷ runs) = place_text d (suc number) run ∷ run_lines d (suc number) runs

-- those of all partitions from d on
abbrev pub place_lines : ℕ → List (List (Option Run)) → List (List ℕ)
place_lines d [] = []
place_lines d (runs ∷ others) = run_lines d 0 runs ++ place_lines (suc d) others

-- how many they are
abbrev pub count_placed : List (List (Option Run)) → ℕ
count_placed [] = 0
count_placed (runs ∷ others) = many_placed runs + count_placed others

abbrev pub drained_line : ℕ → List ℕ
drained_line n = codes "drained " ++ decimal n

abbrev pub placed_line : ℕ → List ℕ
placed_line n = codes "placed " ++ decimal n

-- the lines of what is told for a step
abbrev pub told_lines : ToldStep → List (List ℕ)
told_lines (Made turn) = answer_text turn.answer ∷ map entry_text turn.logged
told_lines (Drained turns n) = map entry_text (log_of turns) ++ drained_line n ∷ []
told_lines (Shown stamp bytes) = shown_text stamp bytes ∷ []
told_lines Lost = codes "lost" ∷ []
told_lines Down = codes "down" ∷ []
told_lines (Placed runs) = place_lines 0 runs ++ placed_line (count_placed runs) ∷ []

-- and of all that is told
abbrev pub lines_told : List ToldStep → List (List ℕ)
lines_told [] = []
lines_told (told ∷ more) = told_lines told ++ lines_told more

-- the turns that are told
abbrev pub turns_told_in : ToldStep → List Turn
turns_told_in (Made turn) = turn ∷ []
turns_told_in (Drained turns n) = turns
turns_told_in _ = []

abbrev pub turns_told : List ToldStep → List Turn
turns_told [] = []
turns_told (told ∷ more) = turns_told_in told ++ turns_told more

-- the runs that are told
abbrev pub runs_told_in : ToldStep → List (List (Option Run))
runs_told_in (Placed runs) = runs
runs_told_in _ = []

abbrev pub runs_told : List ToldStep → List (List (Option Run))
runs_told [] = []
runs_told (told ∷ more) = runs_told_in told ++ runs_told more

-- how many lines show bytes
abbrev pub count_shown : List ToldStep → ℕ
count_shown [] = 0
count_shown (Shown stamp bytes ∷ more) = suc (count_shown more)
count_shown (told ∷ more) = count_shown more

-- this can be told for a step: an answer that its event can have, within the limits of its numbers
abbrev pub CanBeTold : Step → ToldStep → Type 0
CanBeTold (Make event) (Made turn) = (turn.event ≡ event) × MayAnswer (kind_of_event event) turn.answer × FitsAnswer turn.answer
CanBeTold Deliveries (Drained turns n) = All (λ turn. IsDelivery turn.event) turns × (n < 2 ^ 64)
CanBeTold (Look p run) (Shown stamp bytes) = ⊤
CanBeTold (Look p run) Lost = ⊤
CanBeTold (Look p run) Down = ⊤
CanBeTold Placing (Placed runs) = ⊤
CanBeTold _ _ = ⊥

-- and for all steps, in order
abbrev pub TellAll : List Step → List ToldStep → Type 0
TellAll [] [] = Unit {0}
TellAll (step ∷ steps) (told ∷ more) = CanBeTold step told × TellAll steps more
TellAll [] (told ∷ more) = ⊥
TellAll (step ∷ steps) [] = ⊥
