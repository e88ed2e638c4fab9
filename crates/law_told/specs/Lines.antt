-- Texts of lines, of which some are of a log.
use Rattle.std.specs.Prelude.{ℕ, ◌≡◌, ◌==◌, Bool, false, not, List, [], ◌∷◌, ◌++◌, filter, map}

-- lines as a text: each with a line end
abbrev pub text_of : List (List ℕ) → List ℕ
text_of [] = []
text_of (line ∷ lines) = line ++ 10 ∷ text_of lines

-- whether a line begins with `=`
abbrev pub is_log_line : List ℕ → Bool
is_log_line [] = false
is_log_line (b ∷ bs) = b == 61

-- the text is that of lines, of which those that begin with `=` are these entries in order, and the others are what is said
pub record TellsLines {E : Type 0} (entry_text : E → List ℕ) (text : List ℕ) (logged : List E) (said : List (List ℕ)) : Type 0 where
  pub lines : List (List ℕ)
  pub written : text ≡ text_of lines
  pub log : filter is_log_line lines ≡ map entry_text logged
  pub others : filter (λ line. not (is_log_line line)) lines ≡ said
