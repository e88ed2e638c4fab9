use Rattle.law_updates.proofs.Decides.{decisions_are_sound}
use Rattle.law_updates.proofs.decisions_are_sound.Goals as goal

pub returns : goal.returns
returns c = decisions_are_sound
