-- What the judging of a line comes to, and that of all lines.
use Rattle.std.specs.Prelude.{ℕ, ◌≡◌, ◌≢◌, ◌<◌, ◌≤◌, ◌+◌, ◌^◌, Bool, true, false, All, List, ◌∷◌, Option, Result, length}
use Rattle.group_types.specs.Dimensions.{Dimensions}
use Rattle.group_types.specs.declared.run.Run.{Run}
use Rattle.group_calls.specs.Turns.{accepts}
use Rattle.group_calls.specs.declared.entry.Entry.{Entry}
use Rattle.transcript_text.specs.declared.place.Place.{Place}
use Rattle.run_verify.specs.Judging.{IsAnswerJudged, Judges}
use Rattle.run_verify.specs.Passing.{Account, FailsAt, IsToldRun, JudgingState, LineTellsEntry, PassAll, PassesBy}
use Rattle.run_verify.specs.Passing.{account_after_entry, begins_entry, first_state}
use Rattle.run_verify.specs.Placings.{placing}
use Rattle.run_verify.specs.Runs.{ArePlacesOf}
use Rattle.run_verify.specs.Sheet.{Sheet}
use Rattle.run_verify.specs.Showing.{IsFitChange, IsLooked}
use Rattle.run_verify.specs.Told.{drained_line}
use Rattle.run_verify.specs.declared.pass.Found.{Found}
use Rattle.run_verify.specs.declared.pass.Found.TheVariants as found
use Rattle.run_verify.specs.declared.step.Step.{Step}
use Rattle.run_verify.specs.declared.step.Step.TheVariants.{Make, Deliveries, Look, Placing}
use Rattle.run_verify.specs.declared.verdict.Verdict.{Verdict}
use Rattle.run_verify.specs.declared.verdict.Verdict.TheVariants.{Verified, Refused}

abbrev pub judging_state : Account → List Step → Bool → JudgingState
judging_state a steps logging = record { account = a; steps = steps; logging = logging }

-- a sheet of a group of this shape, whose transcript tells these places
pub record IsSheetOf (s : Dimensions) (places : List Place) (sheet : Sheet) : Type 0 where
  pub shape : sheet.script.shape ≡ s
  pub places_are : ArePlacesOf sheet.lines places

-- a line of the log tells the next entry, behind which the account is this
abbrev pub IsLineLogged : Sheet → Account → List ℕ → Account → Type 0
IsLineLogged sheet a line next = (e : Entry) × (run : Option Run) × LineTellsEntry a line e
    × IsToldRun (accepts e.reply) sheet a e run × (next ≡ account_after_entry sheet a e run)

-- a line of the log was judged, by the places alone
abbrev pub HasLogged : {E : Type 0} → Dimensions → List Place → Account → List ℕ → Account → Result Bool E → Type 0
HasLogged s places a line now result = (sheet : Sheet) → IsSheetOf s places sheet → Judges (IsLineLogged sheet a line) now result

-- another line tells what a step asks for that isn't the one of the places
abbrev pub IsMet : Dimensions → Account → Step → List ℕ → List (List ℕ) → Account → Type 0
IsMet s a (Make event) line ahead next = IsAnswerJudged a event line ahead next
IsMet s a Deliveries line ahead next = ((n : ℕ) × (n < 2 ^ 64) × (line ≡ drained_line n)) × (next ≡ a)
IsMet s a (Look p run) line ahead next = IsLooked s a p run line next
IsMet s a Placing line ahead next = ⊥

-- what a line was found to be, which is one of the log or isn't, with this step in turn and these to come
abbrev pub HasFoundBy : Bool → Sheet → Account → Step → List Step → Bool → List ℕ → List (List ℕ) → Account → Found → Type 0
HasFoundBy is_log sheet a step steps logging line ahead now found.Entry = (is_log ≡ true)
    × PassesBy is_log sheet (judging_state a (step ∷ steps) logging) line ahead
    (judging_state now (step ∷ steps) logging)
HasFoundBy is_log sheet a step steps logging line ahead now found.Answer = (step ≢ Placing)
    × PassesBy is_log sheet (judging_state a (step ∷ steps) logging) line ahead (judging_state now steps true)
HasFoundBy is_log sheet a step steps logging line ahead now found.Over = (step ≢ Placing)
    × PassesBy is_log sheet (judging_state a (step ∷ steps) logging) line ahead (judging_state now steps false)
HasFoundBy is_log sheet a step steps logging line ahead now found.Fails = (next : JudgingState)
    → ¬ (PassesBy is_log sheet (judging_state a (step ∷ steps) logging) line ahead next)
HasFoundBy is_log sheet a step steps logging line ahead now found.Places = (step ≡ Placing) × (is_log ≡ false) × (now ≡ a)

-- so it is on each sheet of the group with these places, whatever steps are to come
abbrev pub HasFoundOn : Bool → Dimensions → List Place → Account → Step → Bool → List ℕ → List (List ℕ) → Account → Found → Type 0
HasFoundOn is_log s places a step logging line ahead now what =
    (sheet : Sheet) (steps : List Step) → IsSheetOf s places sheet → HasFoundBy is_log sheet a step steps logging line ahead now what

abbrev pub HasFound : Dimensions → List Place → Account → Step → Bool → List ℕ → List (List ℕ) → Account → Found → Type 0
HasFound s places a step logging line ahead now what = HasFoundOn (begins_entry line) s places a step logging line ahead now what

-- an account is right for the group, and nothing in it counts more than n
pub record IsAccountWithin (s : Dimensions) (n : ℕ) (a : Account) : Type 0 where
  pub partitions : length a.changes ≡ s.k
  pub fit : All (All (IsFitChange s)) a.changes
  pub few : All (λ changes. length changes ≤ n) a.changes
  pub low : All (λ count. count ≤ n) a.table.counts
  pub entries : a.entries ≤ n
  pub placed : a.placed ≡ 0
  pub shown : a.shown ≤ n

-- the steps in turn and to come behind such a line, which are these as before or those behind the first, and whether lines of
-- the log may come
abbrev pub turn_by : Found → List Step → List Step → List Step
turn_by found.Answer turn more = more
turn_by found.Over turn more = more
turn_by found.Entry turn more = turn
turn_by found.Places turn more = turn
turn_by found.Fails turn more = turn

abbrev pub logging_by : Found → Bool → Bool
logging_by found.Answer logging = true
logging_by found.Over logging = false
logging_by found.Entry logging = logging
logging_by found.Places logging = logging
logging_by found.Fails logging = logging

-- the sheet of these steps and lines
abbrev pub sheet_on : Dimensions → List Step → List (List ℕ) → Sheet
sheet_on s steps lines = record { script = record { shape = s; steps = steps }; lines = lines }

-- what comes of lines behind so many, from a state on
abbrev pub IsJudgedBehind : ℕ → Sheet → JudgingState → List (List ℕ) → Verdict → Type 0
IsJudgedBehind done sheet s lines (Verified many shows) = (account : Account) × PassAll sheet s lines account
    × (account.entries ≡ many) × (account.shown ≡ shows)
IsJudgedBehind done sheet s lines (Refused n) = (m : ℕ) × (n ≡ done + m) × FailsAt sheet m s lines

-- what comes of all lines of a sheet
abbrev pub IsJudged : Sheet → Verdict → Type 0
IsJudged sheet verdict = IsJudgedBehind 0 sheet (first_state sheet.script) sheet.lines verdict

-- whether lines of the log may come where a step is in turn
abbrev pub logs : Step → Bool
logs Deliveries = true
logs (Make event) = false
logs (Look p run) = false
logs Placing = false

abbrev pub may_log : Bool → Step → Bool
may_log true step = true
may_log false step = logs step

-- what a line is that tells what a step asks for
abbrev pub met_by : Step → Found
met_by (Make event) = found.Answer
met_by Deliveries = found.Over
met_by (Look p run) = found.Over
met_by Placing = found.Over

-- what comes of the lines for the places behind so many, on each sheet of the group
abbrev pub IsPlacedBehind : ℕ → Dimensions → Account → List (List ℕ) → Verdict → Type 0
IsPlacedBehind done s a lines verdict = (sheet : Sheet) → sheet.script.shape ≡ s → IsJudgedBehind done sheet (placing a) lines verdict
