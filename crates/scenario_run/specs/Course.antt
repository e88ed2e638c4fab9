-- The course of a script, in any language of lines: what comes of lines, one after the other, by what each does.
use Rattle.std.specs.Prelude.{ℕ, ◌+◌, List, [], ◌∷◌, ◌++◌, Option, Some, None}

-- what a line does, in a language whose scripts have states S, turns T, and causes F for which a line is refused: the
-- script goes on, with the turns of the line and what is written for it; or it ends; or the line is refused
pub data Next (S T F : Type 0) : Type 0 where
  Goes : Option S → List T → List ℕ → Next S T F
  Ends : Next S T F
  Refused : F → Next S T F

-- a line that is refused, by its number, and why
pub record Fault (F : Type 0) : Type 0 where
  pub number : ℕ
  pub cause : F

-- what each line does: to no state, until a line names one
abbrev pub LineRules : Type 0 → Type 0 → Type 0 → Type 0
LineRules S T F = Option S → List ℕ → Next S T F

-- the turns of lines, up to the end or to a line that is refused
abbrev pub turns_of_lines : {S T F : Type 0} → LineRules S T F → Option S → List (List ℕ) → List T
turns_of_lines rules state [] = []
turns_of_lines rules state (line ∷ lines) =
    elim (rules state line) [
      | Goes next turns text ↦ turns ++ turns_of_lines rules next lines
      | Ends ↦ []
      | Refused cause ↦ []
    ]

-- what is written for these lines
abbrev pub text_in : {S T F : Type 0} → LineRules S T F → Option S → List (List ℕ) → List ℕ
text_in rules state [] = []
text_in rules state (line ∷ lines) = elim (rules state line) [ Goes next turns text ↦ text ++ text_in rules next lines | Ends ↦ [] | Refused cause ↦ [] ]

-- the first line before the end that is refused, where the next line has the number n; a script that ends before its
-- state is named lacks the line after its last
abbrev pub fault_in : {S T F : Type 0} → LineRules S T F → F → ℕ → Option S → List (List ℕ) → Option (Fault F)
fault_in rules lacking n None [] = Some (record { number = n; cause = lacking })
fault_in rules lacking n (Some p) [] = None
fault_in rules lacking n state (line ∷ lines) =
    elim (rules state line) [
      | Goes next turns text ↦ fault_in rules lacking (n + 1) next lines
      | Ends ↦ None
      | Refused cause ↦ Some (record { number = n; cause = cause })
    ]

-- the state as it was first named
abbrev pub named_in : {S T F : Type 0} → LineRules S T F → Option S → List (List ℕ) → Option S
named_in rules (Some p) lines = Some p
named_in rules None [] = None
named_in rules None (line ∷ lines) = elim (rules None line) [ Goes next turns text ↦ named_in rules next lines | Ends ↦ None | Refused cause ↦ None ]

-- so it is with each line that goes on, up to the first that does not: by what stands before it, the line, and what is written for it
abbrev pub AllLines : {S T F : Type 0} → LineRules S T F → (Option S → List ℕ → List ℕ → Type 0) → Option S → List (List ℕ) → Type 0
AllLines rules Is state [] = Unit {0}
AllLines rules Is state (line ∷ lines) = elim (rules state line) [ Goes next turns text ↦ Is state line text × AllLines rules Is next lines | Ends ↦ Unit {0} | Refused cause ↦ Unit {0} ]
