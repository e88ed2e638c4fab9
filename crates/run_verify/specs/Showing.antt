-- Changes that can be written, and the spaces that they leave.
use Rattle.std.specs.Prelude.{ℕ, ◌≡◌, ◌≤◌, ◌+◌, ◌⊎◌, codes, List, [], ◌∷◌, length, take, Some, None, ⊤}
use Rattle.group_types.specs.Dimensions.{Dimensions}
use Rattle.erasure_code.specs.Spaces.{bytes_at}
use Rattle.group_types.specs.Lists.{at}
use Rattle.group_types.specs.declared.process.ProcessId.{ProcessId}
use Rattle.group_types.specs.declared.process.ProcessId.TheVariants.{DataNode, ParityNode}
use Rattle.group_types.specs.declared.run.Run.{Run}
use Rattle.scenario_text.specs.Texts.{value_text}
use Rattle.run_verify.specs.Changes.{space_behind}
use Rattle.run_verify.specs.Passing.{Account, RunFitsValue, TellsBytes, with_shown}
use Rattle.run_verify.specs.Updates.{space_at}
use Rattle.run_verify.specs.declared.change.Change.{Change}
use Rattle.run_verify.specs.declared.change.Effect.{Effect}
use Rattle.run_verify.specs.declared.change.Effect.TheVariants.{Writes, Removes, Keeps}

-- the run of a value fits it, and lies in the space
abbrev pub IsFitEffect : Dimensions → Effect → Type 0
IsFitEffect s (Writes value (Some run)) = RunFitsValue s (length value) run
IsFitEffect s (Writes value None) = ⊤
IsFitEffect s Removes = ⊤
IsFitEffect s Keeps = ⊤

abbrev pub IsFitChange : Dimensions → Change → Type 0
IsFitChange s change = IsFitEffect s change.effect

-- the space of a partition behind so many of its changes
abbrev pub spaces_in : Dimensions → List (List Change) → ℕ → ℕ → List ℕ
spaces_in s changes d n = space_behind s (take n (at [] changes d))

-- no number of a stamp is above what there is
abbrev pub AreBelow : List (List Change) → ℕ → List ℕ → Type 0
AreBelow changes d [] = Unit {0}
AreBelow changes d (n ∷ ns) = (n ≤ length (at [] changes d)) × AreBelow changes (d + 1) ns

-- how many numbers a stamp of a process has
abbrev pub stamp_len : Dimensions → ProcessId → ℕ
stamp_len s (DataNode d) = 1
stamp_len s (ParityNode i) = s.k

-- a stamp of a process is not above what was logged
abbrev pub IsStamped : List (List Change) → ProcessId → List ℕ → Type 0
IsStamped changes (DataNode d) stamp = AreBelow changes d stamp
IsStamped changes (ParityNode i) stamp = AreBelow changes 0 stamp

-- the space that is seen at a stamp
abbrev pub space_seen : Dimensions → List (List Change) → ProcessId → List ℕ → List ℕ
space_seen s changes p stamp = space_at s (spaces_in s changes) p stamp

-- a stamp can be, and a word is the text of the bytes of a run there
abbrev pub IsWordTold : Dimensions → List (List Change) → ProcessId → Run → List ℕ → List ℕ → Type 0
IsWordTold s changes p run stamp word = IsStamped changes p stamp × (value_text (bytes_at run.at run.len (space_seen s changes p stamp)) ≡ word)

-- what comes next behind a line for a look
abbrev pub IsLooked : Dimensions → Account → ProcessId → Run → List ℕ → Account → Type 0
IsLooked s a p run line next = (TellsBytes s a p run line × (next ≡ with_shown a)) ⊎ (((line ≡ codes "lost") ⊎ (line ≡ codes "down")) × (next ≡ a))
