-- Entries of a log under a mark of their own.
use Rattle.std.specs.Prelude.{ℕ, List, [], ◌∷◌, ◌++◌, drop}
use Rattle.group_calls.specs.declared.entry.Entry.{Entry}
use Rattle.scenario_text.specs.Texts.{entry_text}

-- entries, each with this text on a line
abbrev pub entries_by : {E : Type 0} → (E → List ℕ) → List E → List ℕ
entries_by text [] = []
entries_by text (entry ∷ entries) = text entry ++ 10 ∷ entries_by text entries

-- an entry as it is written, but that this mark stands in place of its `= `
abbrev pub marked : List ℕ → Entry → List ℕ
marked mark entry = mark ++ drop 2 (entry_text entry)

-- entries, each on a line
abbrev pub marked_entries : List ℕ → List Entry → List ℕ
marked_entries mark [] = []
marked_entries mark (entry ∷ entries) = marked mark entry ++ 10 ∷ marked_entries mark entries
