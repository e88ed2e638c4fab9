use Rattle.law_frames.proofs.Logs as logs
use Rattle.law_frames.proofs.logs_have_frames.Goals as goal

pub returns : goal.returns
returns c = logs.logs_have_frames
