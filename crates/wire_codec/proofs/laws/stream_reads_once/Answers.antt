use Rattle.wire_codec.proofs.Cuts.{partial-none}
use Rattle.wire_codec.proofs.Streams.{reads-once}
use Rattle.wire_codec.proofs.laws.stream_reads_once.Goals as goal

pub returns-clause-once : goal.returns-clause-once
returns-clause-once c = λ input rest left messages others one none other last. reads-once messages others input rest left one none other last

pub returns-clause-partial : goal.returns-clause-partial
returns-clause-partial c = partial-none
