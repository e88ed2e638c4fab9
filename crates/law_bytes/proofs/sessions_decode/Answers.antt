use Rattle.law_bytes.proofs.Decode.{sessions_decode}
use Rattle.law_bytes.proofs.sessions_decode.Goals as goal

pub returns : goal.returns
returns c = sessions_decode
