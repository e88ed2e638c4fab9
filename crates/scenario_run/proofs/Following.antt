-- What lines log, write and refuse behind a line, by what it does.
use Rattle.std.proofs.Common.{ℕ, ◌≡◌, ◌+◌, List, [], ◌∷◌, ◌++◌, Option, Some, None, ap}
use Rattle.scenario_run.specs.Course.{AllLines, Ends, Fault, Goes, LineRules, Next, Refused, fault_in, named_in, text_in, turns_of_lines}

module _ {S T F : Type 0} (rules : LineRules S T F) where
  abbrev pub turns_after : Next S T F → List (List ℕ) → List T
  turns_after next lines = elim next [ Goes state turns text ↦ turns ++ turns_of_lines rules state lines | Ends ↦ [] | Refused cause ↦ [] ]

  abbrev pub text_after : Next S T F → List (List ℕ) → List ℕ
  text_after next lines = elim next [ Goes state turns text ↦ text ++ text_in rules state lines | Ends ↦ [] | Refused cause ↦ [] ]

  abbrev pub fault_after : F → ℕ → Next S T F → List (List ℕ) → Option (Fault F)
  fault_after lacking n next lines =
      elim next [
        | Goes state turns text ↦ fault_in rules lacking (n + 1) state lines
        | Ends ↦ None
        | Refused cause ↦
            Some (record { number = n; cause = cause })
      ]

  pub text-line : (before : Option S) (bytes : List ℕ) (lines : List (List ℕ)) (next : Next S T F)
      → rules before bytes ≡ next → text_in rules before (bytes ∷ lines) ≡ text_after next lines
  text-line before bytes lines next is = ap (λ (n : Next S T F). text_after n lines) is

  pub fault-line : (lacking : F) (n : ℕ) (before : Option S) (bytes : List ℕ) (lines : List (List ℕ)) (next : Next S T F) → rules before bytes ≡ next
      → fault_in rules lacking n before (bytes ∷ lines) ≡ fault_after lacking n next lines
  fault-line lacking n None bytes lines next is = ap (λ (x : Next S T F). fault_after lacking n x lines) is
  fault-line lacking n (Some p) bytes lines next is = ap (λ (x : Next S T F). fault_after lacking n x lines) is

  pub turns-line : (before : Option S) (bytes : List ℕ) (lines : List (List ℕ)) (next : Next S T F)
      → rules before bytes ≡ next → turns_of_lines rules before (bytes ∷ lines) ≡ turns_after next lines
  turns-line before bytes lines next is = ap (λ (n : Next S T F). turns_after n lines) is

  -- the state that is named first behind a line
  abbrev pub named_after : Next S T F → List (List ℕ) → Option S
  named_after next lines = elim next [ Goes state turns text ↦ named_in rules state lines | Ends ↦ None | Refused cause ↦ None ]

  pub named-line : (bytes : List ℕ) (lines : List (List ℕ)) (next : Next S T F) → rules None bytes ≡ next
      → named_in rules None (bytes ∷ lines) ≡ named_after next lines
  named-line bytes lines next is = ap (λ (n : Next S T F). named_after n lines) is

  -- what is so of a line and of those behind it
  abbrev pub AllAfter : (Option S → List ℕ → List ℕ → Type 0) → Option S → List ℕ → Next S T F → List (List ℕ) → Type 0
  AllAfter Is before line next lines =
      elim next [
        | Goes state turns text ↦ Is before line text × AllLines rules Is state lines
        | Ends ↦ Unit {0}
        | Refused cause ↦ Unit {0}
      ]
