-- The status that tells a fault.
use Rattle.edge_io.specs.declared.fault.SinkFault.{SinkFault}
use Rattle.edge_io.specs.declared.fault.SinkFault.TheVariants as sink
use Rattle.wire_codec.specs.declared.decoder.DecodeFault.{DecodeFault}
use Rattle.wire_codec.specs.declared.decoder.DecodeFault.TheVariants as decoder
use Rattle.wire_frames.specs.declared.status.FramesStatus.{FramesStatus}
use Rattle.wire_frames.specs.declared.status.FramesStatus.TheVariants.{BadFrame, WriteFault, Want}

abbrev pub status_of_sink : SinkFault → FramesStatus
status_of_sink sink.Failed = WriteFault
status_of_sink sink.Want = Want

abbrev pub status_of_decoder : DecodeFault → FramesStatus
status_of_decoder (decoder.BadFrame at) = BadFrame at
status_of_decoder decoder.Want = Want
