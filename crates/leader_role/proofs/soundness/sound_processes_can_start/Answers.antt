use Rattle.leader_role.proofs.Laws.{sound_can_start}
use Rattle.leader_role.proofs.soundness.sound_processes_can_start.Goals as goal

pub returns : goal.returns
returns c = sound_can_start
