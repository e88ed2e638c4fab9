-- What comes to a node.
use Rattle.group_types.specs.Dimensions.{Dimensions}
use Rattle.group_types.specs.declared.process.ProcessId.{ProcessId}
use Rattle.group_message.specs.declared.message.Message.{Message}
use Rattle.group_run.specs.Fitting.{Fits}
use Rattle.group_run.specs.Process.{Process}
use Rattle.leader_role.specs.Sound.{IsOfGroup}
use Rattle.law_answers.specs.Deliveries.{IsFor}

-- a message that fits a process, is of a kind that is for it, and comes as in a group that is not down
pub record Comes (s : Dimensions) (from : ProcessId) (m : Message) (p : Process) : Type 0 where
  pub fits : Fits s from m p
  pub kind : IsFor p.name m
  pub group : IsOfGroup s m p
