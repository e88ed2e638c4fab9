-- Scripts of any kind: what their lines do, what is told of them, and what treating a line comes to.
use Rattle.std.specs.Prelude.{ℕ, ◌≡◌, ◌+◌, ◌⊎◌, List, [], ◌++◌, Option, Some, None, Result, Ok, Err}
use Rattle.scenario_run.specs.Course.{Ends, Goes, LineRules, Next, Refused}
use Rattle.scenario_play.specs.Status.{TellsOfLine}
use Rattle.scenario_play.specs.declared.status.Status.{Status}
use Rattle.scenario_play.specs.declared.status.Status.TheVariants.{BadLine, Want}

-- scripts with states S, whose lines make turns T, and are refused for causes F: what each line does; why a script is refused
-- that names no state, and that there was no memory; what is told of a line of a number that is refused; how many entries will
-- have been logged, behind these turns; and that a line of a number may come
pub record Scripts (S T F : Type 0) : Type 1 where
  pub rules : LineRules S T F
  pub lacking : F
  pub want : F
  pub told : ℕ → F → Status
  pub logged : Option S → List T → ℕ
  pub Ready : ℕ → Option S → Type 0

-- a line that goes on leaves what the next may have, and its turns in the log
pub record Left {S T F : Type 0} (script : Scripts S T F) (n : ℕ) (before now : Option S) (turns : List T) : Type 0 where
  pub ready : script.Ready (n + 1) now
  pub logged : (more : List T) → script.logged before (turns ++ more) ≡ script.logged now more

-- so it is with each line
abbrev pub LeavesReady : {S T F : Type 0} → Scripts S T F → Type 0
LeavesReady {S} {T} {F} script = (n : ℕ) (before now : Option S) (line : List ℕ) (turns : List T) (text : List ℕ) → script.Ready n before → script.rules before line ≡ Goes now turns text
    → Left script n before now turns

-- each cause is told of as a refusal, but for want of memory
pub record TellsCauses {S T F : Type 0} (script : Scripts S T F) : Type 0 where
  pub lacking : (n : ℕ) → script.told n script.lacking ≡ BadLine n
  pub want : (n : ℕ) → script.told n script.want ≡ Want
  pub refused : (n : ℕ) (cause : F) → (script.told n cause ≡ Want) ⊎ TellsOfLine (script.told n cause)

-- a line before the state is named was treated, or the one that names it
abbrev pub HasBegun : {S T F : Type 0} → F → Next S T F → Result (Option S) F → Type 0
HasBegun want next (Ok state) = next ≡ Goes state [] []
HasBegun want next (Err cause) = (cause ≡ want) ⊎ (next ≡ Refused cause)

-- the state is the one behind a line, and this was written for it
abbrev pub HasLedOn : {S T F : Type 0} → Next S T F → Option S → List ℕ → Type 0
HasLedOn (Goes state turns text) now written = (now ≡ state) × (written ≡ text)
HasLedOn Ends now written = ⊥
HasLedOn (Refused cause) now written = ⊥

-- what a line does was done: it went on; or there is no text at the end; or the line was refused; or there was no memory
abbrev pub HasDone : {S T F : Type 0} → F → Option S → Next S T F → Option S → Result (Option (List ℕ)) F → Type 0
HasDone want before next now (Ok (Some written)) = HasLedOn next now written
HasDone want before next now (Ok None) = (next ≡ Ends) × (now ≡ before)
HasDone want before next now (Err cause) = (cause ≡ want) ⊎ (next ≡ Refused cause)
