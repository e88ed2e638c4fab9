use Rattle.std.proofs.Common.{vec_capacity, length, ap, ◌∙◌}
use Rattle.group_types.specs.Dimensions.{Dimensions}
use Rattle.group_run.specs.Applying.{apply_to}
use Rattle.group_run.specs.Process.{Process}
use Rattle.group_run.specs.Replica.{up_to}
use Rattle.head_service.specs.Serving.{Serving, serving}
use Rattle.head_service.specs.Settling.{IsRoomFor}
use Rattle.process_service.proofs.Followed.{applied-as}
use Rattle.process_service.proofs.Lent.{IsLent, applied-kept, here, lends, put-back, seat-of, stays-over}
use Rattle.process_service.proofs.service.Service.apply.Given as given
use Rattle.process_service.proofs.service.Service.apply.Goals as goal

module _ (g : given.Over) (c : goal.After-apply-arg-1 g) where
  lent : IsLent c.self.inside c.args.self.now c.args.partition.0 c.index_mut-replica.result.now
  lent = record { place = record { view = c.self.view_is; kept = c.self.invariant; below = c.requires.partition }; entry = c.index_mut-replica.ensures.value }

pub apply-requires-clause-room : goal.apply-requires-clause-room
apply-requires-clause-room g c =
    lends (lent g c) (λ _ r. IsRoomFor (length (up_to c.args.number r)) c.args.room.items (vec_capacity c.args.room))
    c.requires.room

pub apply-requires-clause-seat : goal.apply-requires-clause-seat
apply-requires-clause-seat g c = seat-of (lent g c) c.requires.beneath

pub returns-clause-stays : goal.returns-clause-stays
returns-clause-stays g c = stays-over (lent g c.before.before) c.requires.beneath c.apply.new.replica c.apply.ensures.seat
    (applied-kept (lent g c.before.before) c.requires.beneath (g.B.Beneath.storage c.apply.new.below) c.args.number
    c.apply.ensures.applied.process) c.apply.ensures.stays

pub returns-clause-process : goal.returns-clause-process
returns-clause-process g c =
    let f : goal.After-apply-arg-1 g = c.before.before in
    let b : Process = (g.B.Beneath.storage c.args.below.now).process in
    let b2 : Process = (g.B.Beneath.storage c.apply.new.below).process in
    ap (λ (w : Serving). serving w b2) (put-back (lent g f) c.apply.new.replica)
    ∙ applied-as (g.B.Beneath.storage c.args.below.now).shape c.args.partition.0 c.args.self.now b
    c.index_mut-replica.result.now.replica (here (lent g f)) c.args.number
    c.apply.new.replica.replica b2 c.apply.ensures.applied.replica c.apply.ensures.applied.process
    ∙ ap (λ (x : Dimensions). apply_to x c.args.partition.0 c.args.number (serving c.args.self.now b)) c.requires.beneath.shape
