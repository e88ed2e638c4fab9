use Rattle.std.proofs.Common.{sym, ap, ◌∙◌}
use Rattle.process_service.proofs.Lent.{IsLent, here}
use Rattle.process_service.proofs.service.Service.applied.Goals as goal

pub returns : goal.returns
returns c =
    let lent : IsLent c.self.inside c.args.self.now c.args.partition.0 c.index.result.now
    = record { place = record { view = c.self.view_is; kept = c.self.invariant; below = c.requires }; entry = c.index.ensures } in
    c.applied.ensures ∙ sym (ap (λ r. r.applied) (here lent))
