use Rattle.erasure_code.proofs.Decoding.{only_one_agrees}
use Rattle.erasure_code.proofs.only_one_agrees.Goals as goal

pub returns : goal.returns
returns c = only_one_agrees
