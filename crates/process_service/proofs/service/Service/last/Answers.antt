use Rattle.std.proofs.Common.{sym, ap, ◌∙◌}
use Rattle.group_run.specs.Replica.{last_of}
use Rattle.process_service.proofs.Lent.{IsLent, here}
use Rattle.process_service.proofs.service.Service.last.Goals as goal

pub returns : goal.returns
returns c =
    let lent : IsLent c.self.inside c.args.self.now c.args.partition.0 c.index.result.now
    = record { place = record { view = c.self.view_is; kept = c.self.invariant; below = c.requires }; entry = c.index.ensures } in
    c.last.ensures.last ∙ sym (ap last_of (here lent))
