-- What is due for the places, change by change, and what judging the line for a change comes to.
use Rattle.std.specs.Prelude.{ℕ, zero, suc, ◌≡◌, ◌≢◌, ◌<◌, ◌≤◌, ◌+◌, ◌-◌, ◌⊎◌, Bool, true, false, List, [], ◌∷◌, ◌++◌, drop, length, Option, Some, None, ⊤}
use Rattle.group_types.specs.Dimensions.{Dimensions}
use Rattle.group_types.specs.Lists.{at}
use Rattle.group_types.specs.declared.run.Run.{Run}
use Rattle.scenario_text.specs.Texts.{place_text}
use Rattle.scenario_run.specs.Lines.{lines_of}
use Rattle.run_verify.specs.Items.{IsMarked, IsOff, StandBehind, item_runs_of, with_run}
use Rattle.run_verify.specs.Passing.{DuePlace, RunFitsValue, TellsRun, due_places_of}
use Rattle.run_verify.specs.Placings.{ArePlacedFrom}
use Rattle.run_verify.specs.Told.{placed_line}
use Rattle.run_verify.specs.declared.change.Change.{Change}
use Rattle.run_verify.specs.declared.change.Effect.{Effect}
use Rattle.run_verify.specs.declared.change.Effect.TheVariants.{Writes, Removes, Keeps}
use Rattle.run_verify.specs.declared.items.Items.{Items}
use Rattle.run_verify.specs.declared.judging.Passed.{Passed}
use Rattle.run_verify.specs.declared.judging.Passed.TheVariants as passed
use Rattle.run_verify.specs.declared.judging.Spot.{Spot}
use Rattle.run_verify.specs.declared.placing.Told.{Told}
use Rattle.run_verify.specs.declared.placing.Told.TheVariants as told

-- the due of a change of partition d, behind others
abbrev pub due_at : ℕ → List Change → List ℕ → Option Run → DuePlace
due_at d before value run = record { partition = d; number = length before + 1; value = value; run = run; before = before }

-- whether an effect writes a value
abbrev pub is_written : Effect → Bool
is_written (Writes value run) = true
is_written Removes = false
is_written Keeps = false

-- what is due for the changes of so many partitions from d on
abbrev pub dues_in : List (List Change) → ℕ → ℕ → List DuePlace
dues_in changes d zero = []
dues_in changes d (suc n) = due_places_of d [] (at [] changes d) ++ dues_in changes (d + 1) n

-- and for those of all partitions from d on
abbrev pub dues_on : List (List Change) → ℕ → List DuePlace
dues_on changes d = dues_in changes d (length changes - d)

-- what is due behind so many places
abbrev pub dues_left : List (List Change) → ℕ → List DuePlace
dues_left changes placed = drop placed (dues_on changes 0)

-- a text begins with this line, and the rest is behind it
abbrev pub Cuts : List ℕ → List ℕ → List ℕ → Type 0
Cuts text line rest = (lines_of text ≡ line ∷ lines_of rest) × (length rest < length text)

-- the first line is such a one
abbrev pub HasFirst : (List ℕ → Type 0) → List ℕ → List ℕ → Type 0
HasFirst P text rest = (line : List ℕ) × Cuts text line rest × P line

-- the first line isn't, or there is none
abbrev pub LacksFirst : (List ℕ → Type 0) → List (List ℕ) → Type 0
LacksFirst P [] = ⊤
LacksFirst P (line ∷ lines) = ¬ (P line)

-- a line tells this run of a value of this length at a spot, where no item has an address of it
abbrev pub TellsAt : Dimensions → Spot → Run → ℕ → (List ℕ → Option Run) → List ℕ → Type 0
TellsAt s spot run len runs line = RunFitsValue s len run × IsOff runs run × (line ≡ place_text spot.partition (spot.place + 1) run)

-- the first line tells it, and the item has the run; or it doesn't
abbrev pub HasToldAt : Items → Spot → List ℕ → Run → ℕ → List ℕ → Items → Passed → Type 0
HasToldAt before spot key run len text now (passed.Line rest) = HasFirst (TellsAt before.shape spot run len (item_runs_of before)) text rest.now
    × IsMarked now × ((other : List ℕ) → item_runs_of now other ≡ with_run key (Some run) (item_runs_of before) other)
HasToldAt before spot key run len text now passed.Fails = LacksFirst (TellsAt before.shape spot run len (item_runs_of before)) (lines_of text)
HasToldAt before spot key run len text now passed.Silent = ⊥

-- the items are those behind changes, and their addresses are marked
abbrev pub AreBehind : List Change → Items → Type 0
AreBehind before items = IsMarked items × StandBehind before items

-- what comes of the line for a change of partition d, behind others: none is due; the first line tells the run; or it doesn't
abbrev pub HasPassed : Dimensions → ℕ → List Change → Change → List ℕ → Items → Passed → Type 0
HasPassed s d before change text now passed.Silent = (is_written change.effect ≡ false) × AreBehind (before ++ change ∷ []) now
HasPassed s d before change text now (passed.Line rest) = (value : List ℕ) × (run : Option Run) × (change.effect ≡ Writes value run)
    × HasFirst (TellsRun s (due_at d before value run)) text rest.now × AreBehind (before ++ change ∷ []) now
HasPassed s d before change text now passed.Fails = (value : List ℕ) × (run : Option Run) × (change.effect ≡ Writes value run)
    × LacksFirst (TellsRun s (due_at d before value run)) (lines_of text)

-- all lines behind so many places pass, or this one is the first that fails, where they are numbered from the first place on
abbrev pub ArePlacedBehind : Dimensions → List (List Change) → ℕ → List (List ℕ) → Option ℕ → Type 0
ArePlacedBehind s changes placed lines None = ArePlacedFrom s changes placed lines None
ArePlacedBehind s changes placed lines (Some n) = (m : ℕ) × (n ≡ placed + m) × ArePlacedFrom s changes placed lines (Some m)

-- what is found of the lines behind so many places is found of these
abbrev pub LeadsTo : Dimensions → List (List Change) → ℕ → List (List ℕ) → ℕ → List (List ℕ) → Type 0
LeadsTo s changes placed lines now rest = (found : Option ℕ) → ArePlacedBehind s changes now rest found → ArePlacedBehind s changes placed lines found

-- what comes of the lines for the changes of partition d
abbrev pub HasToldPart : Dimensions → List (List Change) → ℕ → ℕ → List ℕ → Told → Type 0
HasToldPart s changes d placed text (told.All now rest) = (dues_left changes now ≡ dues_on changes (d + 1))
    × LeadsTo s changes placed (lines_of text) now (lines_of rest.now)
    × (now + length rest.now ≤ placed + length text)
HasToldPart s changes d placed text (told.Fails n) = ArePlacedBehind s changes placed (lines_of text) (Some n)

-- lines tell how many places there were, and no more
abbrev pub HasCountedPlaces : ℕ → List (List ℕ) → Option ℕ → Type 0
HasCountedPlaces placed [] found = found ≡ Some (placed + 1)
HasCountedPlaces placed (line ∷ []) None = line ≡ placed_line placed
HasCountedPlaces placed (line ∷ []) (Some n) = (line ≢ placed_line placed) × (n ≡ placed + 1)
HasCountedPlaces placed (line ∷ next ∷ lines) None = ⊥
HasCountedPlaces placed (line ∷ next ∷ lines) (Some n) = ((line ≢ placed_line placed) × (n ≡ placed + 1)) ⊎ ((line ≡ placed_line placed) × (n ≡ placed + 2))
