-- What comes to a data process.
use Rattle.std.specs.Prelude.{◌≡◌, ◌<◌, false}
use Rattle.group_types.specs.Dimensions.{Dimensions}
use Rattle.group_types.specs.Names.{IsProcess}
use Rattle.group_types.specs.declared.process.ProcessId.{ProcessId}
use Rattle.membership.specs.Members.{knows_dead}
use Rattle.group_message.specs.declared.message.Message.{Message}
use Rattle.group_message.specs.declared.message.Message.TheVariants as tells
use Rattle.group_run.specs.Process.{Process}

-- a message of the group that comes to a data process: an update was acknowledged, a leader asks for a block, or a process is dead
-- that wasn't known to be
abbrev pub ComesToData : Dimensions → ProcessId → Message → Process → Type 0
ComesToData s from (tells.Ack _ d _) p = IsProcess s from × (d.0 < s.k)
ComesToData s from (tells.ReadBlock _ block _) p = block < s.blocks
ComesToData s from (tells.Notice dead) p = IsProcess s dead × (knows_dead p.known dead ≡ false)
ComesToData s from _ p = ⊥
