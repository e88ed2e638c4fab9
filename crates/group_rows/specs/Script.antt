-- Scripts by their lines, and what is written for them.
use Rattle.std.specs.Prelude.{ℕ, ◌≡◌, List, [], ◌∷◌, ◌++◌, Option, Some, None}
use Rattle.group_types.specs.Dimensions.{Dimensions}
use Rattle.group_run.specs.World.{opening}
use Rattle.scenario_text.specs.declared.line.Line.{Line}
use Rattle.scenario_run.specs.Course.{Goes, Ends, Refused}
use Rattle.scenario_run.specs.Playing.{Play, then_by}

-- what is written for the lines behind the group line, up to the end or to a line that is refused
abbrev pub text_from : Option Play → List Line → List ℕ
text_from None lines = []
text_from (Some p) [] = []
text_from (Some p) (line ∷ lines) = elim (then_by p line) [ Goes next turns text ↦ text ++ text_from next lines | Ends ↦ [] | Refused fault ↦ [] ]

abbrev pub shape : ℕ → ℕ → ℕ → ℕ → Dimensions
shape k m blocks block = record { k = k; m = m; blocks = blocks; block = block }

-- lines of text, each with its end
abbrev pub rows_text : List (List ℕ) → List ℕ
rows_text [] = []
rows_text (line ∷ lines) = line ++ 10 ∷ rows_text lines

-- the script of a group, from its start on, writes these lines
abbrev pub writes : Dimensions → List Line → List (List ℕ) → Type 0
writes s script lines = text_from (Some (record { world = opening s; moment = 0 })) script ≡ rows_text lines
