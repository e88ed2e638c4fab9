use Rattle.link_frames.proofs.Sequences.{link-reads-once}
use Rattle.link_frames.proofs.Whole.{short-none}
use Rattle.link_frames.proofs.laws.link_stream_reads_once.Goals as goal

pub returns-clause-once : goal.returns-clause-once
returns-clause-once c = λ s input rest left frames others one none other last. link-reads-once s frames others input rest left one none other last

pub returns-clause-partial : goal.returns-clause-partial
returns-clause-partial c = short-none
