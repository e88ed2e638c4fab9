use Rattle.memc_proto.proofs.Reading.{reads-once}
use Rattle.memc_proto.proofs.laws.input_reads_once.Goals as goal

pub returns : goal.returns
returns c = λ input requests others rest left one other. reads-once requests others input rest left one other
