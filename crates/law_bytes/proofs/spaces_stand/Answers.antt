use Rattle.law_bytes.proofs.Decode.{spaces_stand}
use Rattle.law_bytes.proofs.spaces_stand.Goals as goal

pub returns : goal.returns
returns c = spaces_stand
