use Rattle.std.proofs.Common.{sym, ap, ◌∙◌}
use Rattle.head_service.specs.Serving.{Serving}
use Rattle.process_service.proofs.Lent.{IsLent, here, same-shape}
use Rattle.process_service.proofs.service.Service.replica.Goals as goal

pub returns-clause-shape : goal.returns-clause-shape
returns-clause-shape c =
    let lent : IsLent c.self.inside c.args.self.now c.args.partition.0 c.index.result.now
    = record { place = record { view = c.self.view_is; kept = c.self.invariant; below = c.requires }; entry = c.index.ensures } in
    same-shape lent ∙ ap (λ (v : Serving). v.shape) c.self.view_is

pub returns-clause-replica : goal.returns-clause-replica
returns-clause-replica c =
    let lent : IsLent c.self.inside c.args.self.now c.args.partition.0 c.index.result.now
    = record { place = record { view = c.self.view_is; kept = c.self.invariant; below = c.requires }; entry = c.index.ensures } in
    sym (here lent)
