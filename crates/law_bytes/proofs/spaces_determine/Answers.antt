use Rattle.law_bytes.proofs.Survivors.{spaces_determine}
use Rattle.law_bytes.proofs.spaces_determine.Goals as goal

pub returns : goal.returns
returns c = spaces_determine
