-- What can come to a parity process.
use Rattle.std.specs.Prelude.{◌≡◌, ◌≤◌, ℕ}
use Rattle.group_types.specs.Dimensions.{Dimensions}
use Rattle.group_types.specs.declared.process.ProcessId.{ProcessId}
use Rattle.group_message.specs.declared.message.Message.{Message}
use Rattle.group_run.specs.Fitting.{Fits, IsForParity}
use Rattle.group_run.specs.Process.{Process}
use Rattle.group_run.specs.Replica.{Replica, last_of}
use Rattle.leader_role.specs.Sound.{IsOfGroup}

-- a message fits, is for the process, and comes as in a group that isn't down
pub record FitsParity (s : Dimensions) (from : ProcessId) (m : Message) (p : Process) : Type 0 where
  pub fits : Fits s from m p
  pub kind : IsForParity p.name m
  pub group : IsOfGroup s m p

-- a number up to which a replica can be applied, and was not before
pub record CanBeApplied (r : Replica) (n : ℕ) : Type 0 where
  pub above : r.applied ≤ n
  pub issued : n ≤ last_of r
