use Rattle.wire_frames.proofs.Going.{framed-early, handed-on}
use Rattle.wire_frames.proofs.listing.list_stream.Goals as goal

pub returns-in_err-room-clause-framed : goal.returns-in_err-room-clause-framed
returns-in_err-room-clause-framed g c = handed-on _ _ _ _ _ c.from_residual.result
    (framed-early (g.S.Source.input c.args.source.now) (g.K.Sink.held c.args.sink.now)) c.from_residual.ensures.1
