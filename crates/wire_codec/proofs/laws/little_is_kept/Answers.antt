use Rattle.wire_codec.proofs.Streams.{kept-few}
use Rattle.wire_codec.proofs.laws.little_is_kept.Goals as goal

pub returns : goal.returns
returns c = kept-few
