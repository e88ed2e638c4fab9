-- What is settled of a partition, and its updates.
use Rattle.std.specs.Prelude.{ℕ, ◌≡◌, ◌≤◌, ◌++◌, [], List, map}
use Rattle.group_message.specs.declared.update.Update.{Update}
use Rattle.group_run.specs.Applying.{Settlement, bytes_after}
use Rattle.group_run.specs.Heading.{settlements}
use Rattle.group_run.specs.Replica.{Replica, applied_to, up_to}
use Rattle.head_service.specs.Storage.{Storage}

-- the updates that were settled, in order
abbrev pub updates_settled : List Settlement → List Update
updates_settled settled = map (λ x. x.update) settled

-- partition d was settled up to n: its replica is applied up to there, and the updates were added to the bytes
pub record HasApplied (d n : ℕ) (r s : Replica) (b c : Storage) : Type 0 where
  pub replica : s ≡ applied_to n r
  pub process : c.process ≡ bytes_after b.shape d (up_to n r) b.process

-- and these settlements were added to a list
pub record HasSettled (d n : ℕ) (r s : Replica) (b c : Storage) (before after : List Settlement) : Type 0 where
  pub applied : HasApplied d n r s b c
  pub settled : after ≡ before ++ settlements d (up_to n r)

-- an empty list has room for so many
pub record IsRoomFor {X : Type 0} (n : ℕ) (items : List X) (capacity : ℕ) : Type 0 where
  pub empty : items ≡ []
  pub fits : n ≤ capacity
