-- Calls of one connection that are under way together: those of one sequence are made one behind the other.
use Rattle.std.specs.Prelude.{ℕ, ◌≡◌, List, [], if◌then◌else◌}
use Rattle.group_types.specs.Lists.{same_key}
use Rattle.memc_table.specs.Act.{key_of}
use Rattle.memc_table.specs.declared.act.Act.{Act}
use Rattle.front_end.specs.Calls.{Ways}
use Rattle.front_end.specs.declared.overlap.Overlap.{Overlap}
use Rattle.front_end.specs.declared.overlap.Overlap.TheVariants.{Never, OtherKeys}

-- the sequence of a call: all calls of a connection are in one, or those on each key in one of its own
abbrev pub sequence_of : Overlap → Act → List ℕ
sequence_of Never _ = []
sequence_of OtherKeys asked = key_of asked

-- where the last call of each sequence left the caller, once one of this sequence left it here
abbrev pub with_end : {C : Type 0} → (List ℕ → C) → List ℕ → C → List ℕ → C
with_end ends sequence now other = if same_key sequence other then now else ends other

-- what the calls of a connection may come to among those of others, from where the last call of each sequence left the caller:
-- each begins where the last one of its sequence ended, or later, and an order where all did
abbrev pub in_sequence : {C : Type 0} → (Act → List ℕ) → (C → C → Type 0) → Ways C → Ways (List ℕ → C)
in_sequence {C} sequence later ways = record {
  made = λ ends op end after. (before : C) × (now : C) × later (ends (sequence op.act)) before × ways.made before op end now
      × (after ≡ with_end ends (sequence op.act) now);
  failed = λ ends at keep end after. (before : C) × (now : C) × ((s : List ℕ) → later (ends s) before) × ways.failed before at keep end now
      × (after ≡ (λ _. now));
  kept = λ ends op after. (before : C) × (now : C) × later (ends (sequence op.act)) before × ways.kept before op now
      × (after ≡ with_end ends (sequence op.act) now);
  unmade = λ ends after. (before : C) × (now : C) × ((s : List ℕ) → later (ends s) before) × ways.unmade before now × (after ≡ (λ _. now));
}
