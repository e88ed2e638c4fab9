use Rattle.law_told.proofs.Regroups.{regroups_tell}
use Rattle.law_told.proofs.transcripts.regroups_tell.Goals as goal

pub returns : goal.returns
returns c = regroups_tell
