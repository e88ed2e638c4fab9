use Rattle.group_server.proofs.Reports.{no-line}
use Rattle.group_server.proofs.service.report.Goals as goal

pub returns-in_err-line-clause-told : goal.returns-in_err-line-clause-told
returns-in_err-line-clause-told g c = no-line (g.K.Sink.held c.args.sink.now) c.args.end c.in_ok-n.n
    c.from_residual-in_err-line.result c.in_ok-n.was c.from_residual-in_err-line.ensures.1
