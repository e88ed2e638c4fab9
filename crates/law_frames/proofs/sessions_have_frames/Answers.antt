use Rattle.law_frames.proofs.Words as words
use Rattle.law_frames.proofs.sessions_have_frames.Goals as goal

pub returns : goal.returns
returns c = words.sessions_have_frames
