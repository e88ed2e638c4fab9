-- What bytes the processes hold: spaces, copies of blocks and rebuilt blocks are those of the settled
-- updates, each partition's up to a number.
use Rattle.std.specs.Prelude.{ℕ, ◌≡◌, ◌<◌, ◌≤◌, List, length, take, unwrap_or, Option, Some, None}
use Rattle.group_types.specs.Dimensions.{Dimensions, space_of}
use Rattle.group_types.specs.Lists.{at}
use Rattle.group_types.specs.Each.{Each}
use Rattle.group_message.specs.declared.update.Update.{Update}
use Rattle.group_run.specs.Applying.{replica_of}
use Rattle.group_run.specs.Leaders.{rebuilt_block}
use Rattle.group_run.specs.Process.{Copy, Process}
use Rattle.law_bytes.specs.Areas.{IsArea, IsBlock, held, value}

-- the settled updates that a process has applied, of each partition
abbrev pub stand : (ℕ → List Update) → Process → ℕ → List Update
stand settled p d = take (replica_of p d).applied (settled d)

-- the number of a partition at which a copy stands: its mark's, and elsewhere the process's applied number
abbrev pub marked_at : List (Option ℕ) → Process → ℕ → ℕ
marked_at marks p d = unwrap_or (at None marks d) (replica_of p d).applied

-- the settled updates up to these numbers
abbrev pub marked_stand : (ℕ → List Update) → List (Option ℕ) → Process → ℕ → List Update
marked_stand settled marks p d = take (marked_at marks p d) (settled d)

-- a copy of a block holds what the process had of it at the copy's numbers
pub record CopyHolds (s : Dimensions) (settled : ℕ → List Update) (p : Process) (c : Copy) : Type 0 where
  pub bytes : IsBlock s c.block (held s p.name (marked_stand settled c.marks p)) c.bytes
  pub marks : (d n : ℕ) → d < s.k → at None c.marks d ≡ Some n → n ≤ length (settled d)

-- a process holds the bytes of the settled updates that it has applied: in its space, in its copies, and
-- in the blocks that it rebuilt
pub record Holds (s : Dimensions) (settled : ℕ → List Update) (p : Process) : Type 0 where
  pub within : (d : ℕ) → d < s.k → (replica_of p d).applied ≤ length (settled d)
  pub space : IsArea 0 (space_of s) (held s p.name (stand settled p)) p.space
  pub copies : Each (CopyHolds s settled p) p.as_row.copies
  pub rebuilt : (d b : ℕ) (bytes : List ℕ) → d < s.k → rebuilt_block p.as_leader d b ≡ Some bytes → IsBlock s b (value (stand settled p d)) bytes
