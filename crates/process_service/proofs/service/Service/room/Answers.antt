use Rattle.std.proofs.Common.{◌≡◌, vec_capacity, IfOk, length, sym, subst}
use Rattle.group_run.specs.Replica.{Replica, up_to}
use Rattle.process_service.proofs.Lent.{IsLent, here}
use Rattle.process_service.proofs.service.Service.room.Goals as goal

pub returns-clause-fits : goal.returns-clause-fits
returns-clause-fits c =
    let lent : IsLent c.self.inside c.args.self.now c.args.partition.0 c.index.result.now
    = record { place = record { view = c.self.view_is; kept = c.self.invariant; below = c.requires }; entry = c.index.ensures } in
    subst (λ (r : Replica). IfOk c.room.result (λ room. vec_capacity room ≡ length (up_to c.args.number r))) (sym (here lent)) c.room.ensures.fits
