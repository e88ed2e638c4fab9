-- What stands of a member always.
use Rattle.std.specs.Prelude.{◌≡◌, ◌+◌, false, List, length, All}
use Rattle.group_types.specs.Dimensions.{Dimensions}
use Rattle.group_run.specs.Process.{Node}
use Rattle.group_wire.specs.State.{Request}
use Rattle.group_member.specs.Callers.{AreCallersOf, OwnCallers}
use Rattle.group_member.specs.Requests.{IsTreatable}
use Rattle.group_member.specs.Standing.{OwnSigns, OwnWords}
use Rattle.group_member.specs.Words.{AreWords, AreAmong}

-- its node is of its group and lives, and knows dead none but whose deaths the member has taken; it has a count of answered
-- pings for each process
pub record IsWholeMember (shape : Dimensions) (w : OwnWords) (v : OwnSigns) (node : Node) : Type 0 where
  pub words : AreWords w
  pub shape_is : shape ≡ w.shape
  pub lives : node.dead ≡ false
  pub up : node.down ≡ false
  pub known : AreAmong node.process.known w.taken
  pub counts : length v.answered ≡ w.shape.k + w.shape.m

-- all of a member: these, its callers, and what it has read, each a request that it can treat
pub record IsMemberWhole (shape : Dimensions) (w : OwnWords) (v : OwnSigns) (c : OwnCallers) (parked : List Request) (node : Node) : Type 0 where
  pub member : IsWholeMember shape w v node
  pub own : AreCallersOf w.shape w.name c
  pub fit : All (IsTreatable w.shape) parked
