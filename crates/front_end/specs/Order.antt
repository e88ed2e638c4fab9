-- Which callers come behind others, and what that makes of the calls of one connection among others.
use Rattle.std.specs.Prelude.{ℕ}
use Rattle.group_types.specs.declared.process.ProcessId.{ProcessId}
use Rattle.memc_table.specs.Asked.{Asked}
use Rattle.memc_proto.specs.declared.end.CallEnd.{CallEnd}
use Rattle.memc_proto.specs.declared.end.FailEnd.{FailEnd}
use Rattle.front_end.specs.Calls.{Ways}

-- each stands behind itself, and behind those behind which others stand that it stands behind
pub record IsOrder {C : Type 0} (later : C → C → Type 0) : Type 0 where
  pub same : (c : C) → later c c
  pub on : (first then last : C) → later first then → later then last → later first last

-- calls lead on
pub record LeadsOn {C : Type 0} (ways : Ways C) (later : C → C → Type 0) : Type 0 where
  pub made : (before : C) (op : Asked) (end : CallEnd) (after : C) → ways.made before op end after → later before after
  pub failed : (before : C) (at : ProcessId) (keep : ℕ) (end : FailEnd) (after : C) → ways.failed before at keep end after → later before after
  pub kept : (before : C) (op : Asked) (after : C) → ways.kept before op after → later before after
  pub unmade : (before after : C) → ways.unmade before after → later before after

-- what the calls of a connection may come to among those of others: each begins where its last one ended, or later
abbrev pub among : {C : Type 0} → (C → C → Type 0) → Ways C → Ways C
among {C} later ways = record {
  made = λ last op end after. (before : C) × later last before × ways.made before op end after;
  failed = λ last at keep end after. (before : C) × later last before × ways.failed before at keep end after;
  kept = λ last op after. (before : C) × later last before × ways.kept before op after;
  unmade = λ last after. (before : C) × later last before × ways.unmade before after;
}
