use Rattle.std.proofs.Common.{ℕ, Bool, Some, true, ap, sym, ◌∙◌}
use Rattle.group_types.specs.Dimensions.{Dimensions}
use Rattle.group_types.specs.Lists.{at}
use Rattle.group_run.specs.Process.{Head, new_head}
use Rattle.group_run.specs.Replica.{Replica, empty_replica, last_of}
use Rattle.head_service.specs.Serving.{Serving}
use Rattle.process_service.specs.Noticing.{successor_if}
use Rattle.process_service.proofs.Lent.{IsLent, here}
use Rattle.process_service.proofs.service.Service.successor_if.Goals as goal

pub returns : goal.returns
returns c =
    let lent : IsLent c.self.inside c.args.self.now c.args.partition.0 c.index-replica.result.now
    = record { place = record { view = c.self.view_is; kept = c.self.invariant; below = c.requires }; entry = c.index-replica.ensures } in
    ap (λ (h : Head). Some h) c.in_ok-head.ensures
    ∙ ap (λ (s : Dimensions). Some (new_head s c.next_rank.result.0 (last_of c.index-replica.result.now.replica)))
    (ap (λ (v : Serving). v.shape) c.self.view_is)
    ∙ ap (λ (n : ℕ). Some (new_head c.args.self.now.shape n (last_of c.index-replica.result.now.replica))) c.next_rank.ensures
    ∙ ap (λ (r : Replica). successor_if true c.args.self.now.shape c.args.self.now.name r) (sym (here lent))
    ∙ ap (λ (due : Bool). successor_if due c.args.self.now.shape c.args.self.now.name
    (at empty_replica c.args.self.now.replicas c.args.partition.0)) (sym c.if-not-due.false)
