use Rattle.law_frames.proofs.Logs as logs
use Rattle.law_frames.proofs.tellings_have_frames.Goals as goal

pub returns : goal.returns
returns c = logs.tellings_have_frames
