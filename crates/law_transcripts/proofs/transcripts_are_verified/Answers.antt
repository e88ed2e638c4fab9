use Rattle.law_transcripts.proofs.Checked.{transcripts_are_verified}
use Rattle.law_transcripts.proofs.transcripts_are_verified.Goals as goal

pub returns : goal.returns
returns c = transcripts_are_verified
