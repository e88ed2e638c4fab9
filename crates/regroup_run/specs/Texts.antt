-- How entries of the log over eras are written: those of the first era as a group's, and those of a later one with the
-- era behind the mark.
use Rattle.std.specs.Prelude.{ℕ, zero, suc, List, ◌++◌, codes}
use Rattle.std.specs.Fmt.{decimal}
use Rattle.scenario_run.specs.Marks.{entries_by, marked}
use Rattle.group_eras.specs.Eras.{EraEntry}

-- the mark `= ` of a log line, with an era from 1 on
abbrev pub era_mark : ℕ → List ℕ
era_mark zero = codes "= "
era_mark (suc n) = codes "= e" ++ decimal (suc n) ++ codes " "

-- an entry of the log
abbrev pub era_entry_text : EraEntry → List ℕ
era_entry_text e = marked (era_mark e.0) e.1

-- entries of the log, each on a line
abbrev pub era_entries_text : List EraEntry → List ℕ
era_entries_text entries = entries_by era_entry_text entries
