use Rattle.law_bytes.proofs.Sound.{sessions_always_sound}
use Rattle.law_bytes.proofs.sessions_always_sound.Goals as goal

pub returns : goal.returns
returns c = sessions_always_sound
