use Rattle.front_end.proofs.Serving.{served-early}
use Rattle.front_end.proofs.serve.serve_connection.Goals as goal

pub returns-in_err-room-clause-served : goal.returns-in_err-room-clause-served
returns-in_err-room-clause-served g c = served-early _ _ _ _ _ c.from_residual.result c.new-connection.ensures.kept c.from_residual.ensures.1
