use Rattle.law_transcripts.proofs.Checked.{transcripts_are_checked}
use Rattle.law_transcripts.proofs.transcripts_are_checked.Goals as goal

pub returns : goal.returns
returns c = transcripts_are_checked
