-- Where a head stays off the blocks that it hasn't rebuilt, these keep their values.
use Rattle.std.specs.Prelude.{ℕ, ◌≤◌, List, length}
use Rattle.group_types.specs.Dimensions.{Dimensions}
use Rattle.group_message.specs.declared.update.Update.{Update}
use Rattle.group_run.specs.Applying.{replica_of}
use Rattle.group_run.specs.Process.{Process}
use Rattle.law_headline.proofs.Apart.{HeadOff, SameValues}

-- so it is of every process and partition
abbrev pub BlocksRest : Type 0
BlocksRest = (s : Dimensions) (d : ℕ) (settled : List Update) (p : Process) → (replica_of p d).applied ≤ length settled
    → HeadOff s d settled p → SameValues s d settled p
