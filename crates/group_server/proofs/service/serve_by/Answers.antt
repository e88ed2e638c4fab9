use Rattle.std.proofs.Common.{◌∙◌}
use Rattle.group_server.specs.Service.{tally_with}
use Rattle.group_server.proofs.Reports.{not-opened, opened}
use Rattle.group_server.proofs.service.serve_by.Goals as goal

pub returns-in_err-open-clause-served : goal.returns-in_err-open-clause-served
returns-in_err-open-clause-served g c =
    not-opened g.L.Listener.listened (λ l. tally_with (g.L.Listener.at l) (g.L.Listener.accepted l) (g.L.Listener.over l)) c.args.settings.now
    (g.K.Sink.held c.args.sink.now) (g.K.Sink.held c.open.new.sink) c.args.listener.now c.open.new.listener
    c.in_err-open.field-0.0 c.from_residual-in_err-open.result c.open.ensures.accepted c.in_err-open.ensures.failed c.from_residual-in_err-open.ensures.1

pub returns-clause-served : goal.returns-clause-served
returns-clause-served g c =
    opened g.L.Listener.listened (λ l. tally_with (g.L.Listener.at l) (g.L.Listener.accepted l) (g.L.Listener.over l)) c.args.settings.now
    (g.K.Sink.held c.args.sink.now) (g.K.Sink.held c.report.new.sink) c.args.listener.now c.serve_group-end.new.listener
    c.open.new.listener (g.K.Sink.held c.open.new.sink) c.in_ok-open.ensures.listens (c.serve_group-end.ensures.same_at
    ∙ c.in_ok-open.ensures.at) c.in_ok-open.ensures.written
    c.serve_group-end.result c.report.result c.serve_group-end.ensures.accepted c.serve_group-end.ensures.done
    c.serve_group-end.ensures.at_fault c.report.ensures.told
