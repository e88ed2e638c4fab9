-- What it means that a transcript is checked: what it tells is legal, answered within its time, placed apart, and shown
-- as it was written.
use Rattle.std.specs.Prelude.{ℕ, ◌≡◌, ◌≢◌, ◌<◌, ◌≤◌, List, [], ◌∷◌, ◌++◌, length, map, slice_get, Option, Some, Contains, ⊤}
use Rattle.group_types.specs.Dimensions.{Dimensions}
use Rattle.group_types.specs.Lists.{at}
use Rattle.group_types.specs.declared.run.Run.{Run}
use Rattle.memc_table.specs.Asked.{Asked}
use Rattle.memc_table.specs.declared.reply.Reply.{Reply}
use Rattle.group_calls.specs.Log.{IsLegal}
use Rattle.group_calls.specs.Turns.{CallName, Turn, call_entry, log_of, name_of}
use Rattle.group_calls.specs.Within.{Fetches, IsAsk, IsLoggedSince, IsTaken}
use Rattle.group_calls.specs.declared.entry.Entry.{Entry}
use Rattle.group_calls.specs.declared.event.Answer.TheVariants as answered
use Rattle.run_verify.specs.Steps.{Script}
use Rattle.run_verify.specs.declared.step.Step.{Step}
use Rattle.run_verify.specs.declared.step.Step.TheVariants.{Look}
use Rattle.run_verify.specs.Told.{Shown, ToldStep, TellAll, lines_told, runs_told, turns_told_in, turns_told}
use Rattle.run_verify.specs.Updates.{IsStampOf, StandRight, shown_at, space_after_updates, updates_by}

-- the replies are given within their time: all that `AnswersWithin` says but of calls that are gone
pub record RepliesWithin (turns : List Turn) : Type 0 where
  -- no two entries have one name
  pub once : (i j : ℕ) (a b : Entry) → i < j → slice_get (log_of turns) i ≡ Some a → slice_get (log_of turns) j ≡ Some b → name_of a ≢ name_of b
  -- each entry has the op of the ask of its name, which is not later than the event that logged it
  pub asked : (i : ℕ) (turn : Turn) (entry : Entry) → slice_get turns i ≡ Some turn → Contains turn.logged entry
      → (j : ℕ) × (ask : Turn) × (j ≤ i) × IsAsk turns j ask (name_of entry) entry.op
  -- a reply to an ask is the one of its entry, which this event logged
  pub at_once : (i : ℕ) (turn : Turn) (name : CallName) (op : Asked) (reply : Reply) → IsAsk turns i turn name op
      → turn.answer ≡ answered.Reply reply → Contains turn.logged (call_entry name op reply)
  -- a reply to a collect or a trace is the one of its entry
  pub later : (i : ℕ) (turn : Turn) (name : CallName) (reply : Reply) → slice_get turns i ≡ Some turn
      → Fetches turn.event name → turn.answer ≡ answered.Reply reply → IsLoggedSince turns i name reply
  -- a call that got neither a reply nor a ticket is in no entry
  pub refused : (i : ℕ) (turn : Turn) (name : CallName) (op : Asked) (entry : Entry) → IsAsk turns i turn name op
      → ¬ (IsTaken turn.answer) → Contains (log_of turns) entry → name_of entry ≢ name

-- the runs name exactly the updates that bring a value, each where it is clear of the items before it
pub record ArePlaced (s : Dimensions) (log : List Entry) (runs : List (List (Option Run))) : Type 0 where
  pub partitions : length runs ≡ s.k
  pub numbers : (d : ℕ) → d < s.k → map (λ u. u.run) (updates_by s runs log d) ≡ at [] runs d
  pub right : (d : ℕ) → d < s.k → StandRight s [] (updates_by s runs log d)

-- the bytes of a process are those of the updates that were logged before, up to a stamp that it can have
abbrev pub IsWellShown : Dimensions → List (List (Option Run)) → List Entry → Step → ToldStep → Type 0
IsWellShown s runs log (Look p run) (Shown stamp bytes) = IsStampOf s (λ d. length (updates_by s runs log d)) p stamp
    × (bytes ≡ shown_at s (λ d n. space_after_updates s (updates_by s runs log d) n) p run stamp)
IsWellShown s runs log _ _ = ⊤

-- so it is with all that is told, where this is the log before
abbrev pub AreWellShown : Dimensions → List (List (Option Run)) → List Entry → List Step → List ToldStep → Type 0
AreWellShown s runs log (step ∷ steps) (told ∷ more) = IsWellShown s runs log step told × AreWellShown s runs (log ++ log_of (turns_told_in told)) steps more
AreWellShown s runs log _ _ = Unit {0}

-- a transcript of these lines is checked: something is told for each step, whose lines these are
pub record IsChecked (script : Script) (transcript : List (List ℕ)) : Type 0 where
  pub told : List ToldStep
  pub tells : TellAll script.steps told
  pub lines : transcript ≡ lines_told told
  pub legal : IsLegal script.shape.k (log_of (turns_told told))
  pub within : RepliesWithin (turns_told told)
  pub placed : ArePlaced script.shape (log_of (turns_told told)) (runs_told told)
  pub shown : AreWellShown script.shape (runs_told told) [] script.steps told
