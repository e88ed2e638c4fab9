use Rattle.std.proofs.Common.{◌≡◌, ℕ, List, subst}
use Rattle.std.specs.List.{list_any}
use Rattle.memc_proto.specs.Reader.{HasRead}
use Rattle.memc_proto.specs.Reads.{is_quit}
use Rattle.memc_proto.specs.declared.request.Request.{Request}
use Rattle.front_end.specs.Progress.{EndsConnection, Progress}
use Rattle.front_end.proofs.connection.Connection.close.Goals as goal

pub returns-clause-closed : goal.returns-clause-closed
returns-clause-closed g c =
    subst (λ (p : Progress). (input : List ℕ) (requests : List Request) → (read : HasRead p.kept input requests)
    → list_any is_quit requests ≡ p.quits → EndsConnection p.quits read.rest (g.K.Sink.held c.args.sink.now)
    (g.K.Sink.held c.close_at.new.sink) c.close_at.result)
    c.self.view_is c.close_at.ensures.closed
