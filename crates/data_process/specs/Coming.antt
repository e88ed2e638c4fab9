-- What can come to a data process.
use Rattle.std.specs.Prelude.{ℕ, ◌≢◌, ◌<◌, List, All, AllPairs}
use Rattle.group_types.specs.Dimensions.{Dimensions}
use Rattle.group_types.specs.declared.process.ProcessId.{ProcessId}
use Rattle.group_message.specs.declared.message.Message.{Message}
use Rattle.group_message.specs.declared.message.Session.{Session}
use Rattle.group_run.specs.Fitting.{Fits, IsForData}
use Rattle.group_run.specs.Process.{Process}
use Rattle.process_service.specs.Coming.{IsParity, LeavesFew}

-- a message fits, is of a kind that is for a data process, and leaves no more than m known dead
pub record FitsData (s : Dimensions) (from : ProcessId) (m : Message) (p : Process) : Type 0 where
  pub fits : Fits s from m p
  pub kind : IsForData m
  pub few : LeavesFew s m p

-- different numbers below m
pub record AreRows (m : ℕ) (rows : List ℕ) : Type 0 where
  pub in_group : All (λ i. i < m) rows
  pub differ : AllPairs (λ i j. i ≢ j) rows

-- a session of a parity process of the group can ask for a block of the space, with different rows of the group
pub record CanAsk (s : Dimensions) (session : Session) (block : ℕ) (rows : List ℕ) : Type 0 where
  pub leader : IsParity s session.leader
  pub inside : block < s.blocks
  pub rows_are : AreRows s.m rows
