-- What a line `regroup` writes.
use Rattle.std.specs.Prelude.{ℕ, ◌≡◌, ⊤, List, [], ◌∷◌, ◌++◌, codes, drop, Option, Some, Result, Ok, Err}
use Rattle.std.specs.Fmt.{decimal}
use Rattle.group_types.specs.Dimensions.{Dimensions}
use Rattle.scenario_run.specs.Marks.{marked_entries}
use Rattle.scenario_text.specs.declared.line.LineFault.{LineFault}
use Rattle.scenario_text.specs.declared.line.LineFault.TheVariants as line
use Rattle.group_eras.specs.Carry.{carried, many_carried}
use Rattle.group_eras.specs.Eras.{Eras}
use Rattle.group_eras.specs.Refusal.{CanCarry, IsRefused}
use Rattle.group_eras.specs.declared.fault.CarryFault.{CarryFault}
use Rattle.group_eras.specs.declared.fault.CarryFault.TheVariants.{Down, NoSpace, NotDrained, Want}
use Rattle.group_regroup.specs.Last.{entries_of_era}
use Rattle.regroup_run.specs.Texts.{era_mark}

-- an era's entries from a place on, each on a line
abbrev pub since_text : Eras → ℕ → ℕ → List ℕ
since_text e era from = marked_entries (era_mark era) (drop from (entries_of_era era e.log))

-- so many items were carried, and what was logged of it: of reading in an era, and of setting in the current one
abbrev pub carried_text : Eras → ℕ → ℕ → ℕ → List ℕ
carried_text e era from count = codes "regrouped " ++ (decimal count ++ 10 ∷ (since_text e era from ++ since_text e e.era 0))

-- why nothing was carried
abbrev pub carry_fault_text : CarryFault → List ℕ
carry_fault_text Down = codes "down\n"
carry_fault_text NotDrained = codes "not_drained\n"
carry_fault_text (NoSpace d) = codes "no_space\n"
carry_fault_text Want = []

-- a text was written, or there was no memory
abbrev pub IsWrittenAs : List ℕ → Result (Option (List ℕ)) LineFault → Type 0
IsWrittenAs text (Ok (Some written)) = written ≡ text
IsWrittenAs text (Err line.Want) = ⊤
IsWrittenAs text _ = ⊥

abbrev pub HasToldRefusal : CarryFault → Result (Option (List ℕ)) LineFault → Type 0
HasToldRefusal Want (Err line.Want) = ⊤
HasToldRefusal Want _ = ⊥
HasToldRefusal fault result = IsWrittenAs (carry_fault_text fault) result

-- items were carried, where that could be; or nothing was, for this reason; or there was no memory
abbrev pub HasCarriedOn : Eras → Eras → Dimensions → Result ℕ CarryFault → Type 0
HasCarriedOn before now s (Ok n) = CanCarry before.world s × (now ≡ carried before s) × (n ≡ many_carried before)
HasCarriedOn before now s (Err Want) = ⊤
HasCarriedOn before now s (Err fault) = IsRefused before.world s fault × (now ≡ before)
