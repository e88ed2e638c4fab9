-- A leader that opens a session for a block, and marks lost partitions in its own row.
use Rattle.std.specs.Prelude.{◌≡◌, ◌<◌, ◌==◌, ℕ, true, false, ⊤, List, [], ◌∷◌, All, AllPairs, Option, Some, None, is_some}
use Rattle.std.specs.List.{list_any, range_with_len}
use Rattle.group_types.specs.Dimensions.{Dimensions}
use Rattle.group_types.specs.Lists.{at}
use Rattle.group_types.specs.declared.process.ProcessId.TheVariants.{ParityNode}
use Rattle.membership.specs.Members.{knows_dead}
use Rattle.memc_table.specs.Asked.{Asked}
use Rattle.group_calls.specs.Turns.{CallName}
use Rattle.group_run.specs.Asking.{ask_process, oldest_inherited, retry_block}
use Rattle.group_run.specs.Process.{Copy, Process}
use Rattle.group_run.specs.Rows.{copy_in}
use Rattle.head_service.specs.Serving.{Serving}
use Rattle.parity_process.specs.Marking.{WaitForOwnRow}

-- it heads a partition
abbrev pub HeadsOne : Serving → Type 0
HeadsOne v = (d : ℕ) × (d < v.shape.k) × (is_some (at None v.heads d) ≡ true)

-- its copy for the session is there, with no mark of these partitions, unless there are none
abbrev pub AreUnmarked : List ℕ → Option Copy → Type 0
AreUnmarked [] copy = ⊤
AreUnmarked (d ∷ ds) None = ⊥
AreUnmarked (d ∷ ds) (Some copy) = All (λ e. at None copy.marks e ≡ None) (d ∷ ds)

-- these different partitions can be marked in its own row
pub record AreMarkable (s : Dimensions) (leader number block : ℕ) (ds : List ℕ) (p : Process) : Type 0 where
  pub name : p.name ≡ ParityNode leader
  pub living : knows_dead p.known (ParityNode leader) ≡ false
  pub accepted : at 0 p.as_row.ceased leader < number
  pub below : All (λ d. d < s.k) ds
  pub differ : AllPairs (λ d e. d < e) ds
  pub unmarked : AreUnmarked ds (copy_in p.as_row.copies leader number)
  pub own : WaitForOwnRow p

-- a session is opened for a block: nothing inherited is unfinished, and none is open for it
abbrev pub Opens : Dimensions → ℕ → Process → Type 0
Opens s block p = (oldest_inherited p (range_with_len 0 s.k) ≡ None) × (list_any (λ g. g.block == block) p.as_leader.sessions ≡ false)

-- a call opens one: what the machine makes of it is that a block has to be rebuilt first, for which a session is opened
abbrev pub CallOpens : Dimensions → CallName → Asked → Process → Type 0
CallOpens s name op p = (block : ℕ) × (ask_process s name op p ≡ retry_block s block (oldest_inherited p (range_with_len 0 s.k)) p) × Opens s block p
