use Rattle.std.proofs.Common.{rules}
use Rattle.group_types.specs.Shape.{IsShape}
use Rattle.scenario_session.proofs.Opening.{served-nothing, served-by}
use Rattle.scenario_session.proofs.connection.serve_fresh.Goals as goal

pub returns-in_err-new-clause-served : goal.returns-in_err-new-clause-served
returns-in_err-new-clause-served g c = let shape : IsShape c.args.shape = search rules in
    served-nothing _ _ _ _ c.from_residual.result shape c.from_residual.ensures.1

pub returns-clause-served : goal.returns-clause-served
returns-clause-served g c =
    let shape : IsShape c.args.shape = search rules in
    served-by c.args.shape (g.T.Clock.moment c.args.clock.now) (g.S.Source.input c.args.source.now) (g.S.Source.input c.serve_connection.new.source)
    (g.K.Sink.held c.args.sink.now) (g.K.Sink.held c.serve_connection.new.sink) c.in_ok-new.field-0 c.new-caller.result c.serve_connection.new.caller
    c.serve_connection.result shape c.in_ok-new.ensures c.new-caller.ensures c.serve_connection.ensures.served
