use Rattle.std.proofs.Common.{◌-◌, ap}
use Rattle.group_stage.specs.Steps.{Sat}
use Rattle.group_stage.specs.Views.{begun}
use Rattle.group_stage.proofs.Hands.{none-took}
use Rattle.group_stage.proofs.Ordering.{back-both, may-take, met-second, none-taken}
use Rattle.group_stage.proofs.Pairs.{can-end, ends, may-deliver, receiver-up, second-busy}
use Rattle.group_stage.proofs.stage.Stage.deliver_as.Goals as goal

pub returns-in_default-take_next-clause-ended : goal.returns-in_default-take_next-clause-ended
returns-in_default-take_next-clause-ended g c =
    second-busy c.args.self.now.plan c.args.seat.now.me.0 g.J.Calls.event c.is_before-up.result c.args.from c.args.to
    c.in_order-one.result.0 c.in_order-one.result.1 c.index_of-low.result c.index_of-high.result c.args.seat.now.me.1
    c.in-Some.first c.take_first.new.seat.me
    c.requires.ready c.requires.shape c.requires.event c.requires.from c.requires.to c.requires.apart
    c.in_order-one.ensures.one c.in_order-one.ensures.other c.index_of-low.ensures c.index_of-high.ensures
    c.in-Some.ensures.took
    c.take_next.new.seat.me c.put_back.new.seat.me
    (none-took c.take_first.new.seat.me.0 c.index_of-high.result c.take_first.new.seat.me.1 c.take_next.result
    c.take_next.new.seat.me c.in_default-take_next.not-Some c.take_next.ensures.took)
    (c.put_back.ensures.released.0, ap (λ (m : Sat). m.0) c.put_back.ensures.released.1)

pub deliver_in_order-requires : goal.deliver_in_order-requires
deliver_in_order-requires g c =
    record {
      can = may-deliver c.args.self.now.plan c.args.seat.now.me.0 g.J.Calls.event c.is_before-up.result c.args.from
          c.args.to c.in_order-one.result.0 c.in_order-one.result.1 c.index_of-low.result c.index_of-high.result
          c.args.seat.now.me.1 c.in-Some.first c.take_first.new.seat.me
          c.requires.ready c.requires.shape c.requires.event c.requires.from c.requires.to c.requires.apart
          c.in_order-one.ensures.one c.in_order-one.ensures.other c.index_of-low.ensures c.index_of-high.ensures
          c.in-Some.ensures.took
          c.in-Some-take_next.second c.take_next.new.seat.me c.in-Some-take_next.ensures.took;
    }

pub finish_two-requires-clause-can : goal.finish_two-requires-clause-can
finish_two-requires-clause-can g c =
    can-end c.args.self.now.plan c.args.seat.now.me.0 g.J.Calls.event c.is_before-up.result c.args.from c.args.to
    c.in_order-one.result.0 c.in_order-one.result.1 c.index_of-low.result c.index_of-high.result c.args.seat.now.me.1
    c.in-Some.first c.take_first.new.seat.me
    c.requires.ready c.requires.shape c.requires.event c.requires.from c.requires.to c.requires.apart
    c.in_order-one.ensures.one c.in_order-one.ensures.other c.index_of-low.ensures c.index_of-high.ensures
    c.in-Some.ensures.took
    c.in-Some-take_next.second c.take_next.new.seat.me c.in-Some-take_next.ensures.took c.deliver_in_order.new.first
    c.deliver_in_order.new.second c.in-Ok.out c.in-Ok.ensures.delivered

pub returns-in-Ok-clause-ended : goal.returns-in-Ok-clause-ended
returns-in-Ok-clause-ended g c =
    ends c.args.self.now.plan c.args.seat.now.me.0 g.J.Calls.event c.is_before-up.result c.args.from c.args.to
    c.in_order-one.result.0 c.in_order-one.result.1 c.index_of-low.result c.index_of-high.result c.args.seat.now.me.1
    c.in-Some.first c.take_first.new.seat.me
    c.requires.ready c.requires.shape c.requires.event c.requires.from c.requires.to c.requires.apart
    c.in_order-one.ensures.one c.in_order-one.ensures.other c.index_of-low.ensures c.index_of-high.ensures
    c.in-Some.ensures.took
    c.in-Some-take_next.second c.take_next.new.seat.me c.in-Some-take_next.ensures.took c.deliver_in_order.new.first
    c.deliver_in_order.new.second c.in-Ok.out c.in-Ok.ensures.delivered
    c.finish_two.new.seat.me c.finish_two.ensures.finished

pub returns-in-Err-clause-wanted : goal.returns-in-Err-clause-wanted
returns-in-Err-clause-wanted g c =
    receiver-up c.args.self.now.plan c.args.seat.now.me.0 g.J.Calls.event c.is_before-up.result c.args.from c.args.to
    c.in_order-one.result.0 c.in_order-one.result.1 c.index_of-low.result c.index_of-high.result c.args.seat.now.me.1
    c.in-Some.first c.take_first.new.seat.me
    c.requires.ready c.requires.shape c.requires.event c.requires.from c.requires.to c.requires.apart
    c.in_order-one.ensures.one c.in_order-one.ensures.other c.index_of-low.ensures c.index_of-high.ensures
    c.in-Some.ensures.took
    c.in-Some-take_next.second c.take_next.new.seat.me c.in-Some-take_next.ensures.took c.in-Err.ensures.down c.in-Err.ensures.dead

pub take_next-requires-clause-take : goal.take_next-requires-clause-take
take_next-requires-clause-take g c =
    may-take c.args.self.now.plan c.args.seat.now.me.0 g.J.Calls.event c.is_before-up.result c.args.from c.args.to
    c.in_order-one.result.0 c.in_order-one.result.1 c.index_of-low.result c.index_of-high.result c.args.seat.now.me.1
    c.in-Some.first c.take_first.new.seat.me
    c.requires.ready c.requires.shape c.requires.event c.requires.from c.requires.to c.requires.apart
    c.in_order-one.ensures.one c.in_order-one.ensures.other c.index_of-low.ensures c.index_of-high.ensures
    c.is_before-up.ensures.before c.in-Some.ensures.took

pub returns-in_default-clause-order : goal.returns-in_default-clause-order
returns-in_default-clause-order g c =
    none-taken c.args.seat.now.me.0 c.take_first.new.seat.me.0 _
    (ap (λ (m : Sat). m.0.cleared) (none-took (begun g.J.Calls.event c.args.seat.now.me.0) c.index_of-low.result
    c.args.seat.now.me.1 c.take_first.result c.take_first.new.seat.me c.in_default.not-Some
    c.take_first.ensures.took))

pub returns-in_default-take_next-clause-order : goal.returns-in_default-take_next-clause-order
returns-in_default-take_next-clause-order g c =
    met-second c.args.self.now.plan c.args.seat.now.me.0 g.J.Calls.event c.is_before-up.result c.args.from c.args.to
    c.in_order-one.result.0 c.in_order-one.result.1 c.index_of-low.result c.index_of-high.result c.args.seat.now.me.1
    c.in-Some.first c.take_first.new.seat.me
    c.requires.ready c.requires.shape c.requires.event c.requires.from c.requires.to c.requires.apart
    c.in_order-one.ensures.one c.in_order-one.ensures.other c.index_of-low.ensures c.index_of-high.ensures
    c.is_before-up.ensures.before c.in-Some.ensures.took
    c.take_next.new.seat.me c.put_back.new.seat.me
    (none-took c.take_first.new.seat.me.0 c.index_of-high.result c.take_first.new.seat.me.1 c.take_next.result
    c.take_next.new.seat.me c.in_default-take_next.not-Some c.take_next.ensures.took)
    (c.put_back.ensures.released.0, ap (λ (m : Sat). m.0) c.put_back.ensures.released.1)

pub returns-in-Ok-clause-order : goal.returns-in-Ok-clause-order
returns-in-Ok-clause-order g c =
    let finished = c.finish_two.ensures.finished.2 in
    back-both c.args.self.now.plan c.args.seat.now.me.0 g.J.Calls.event c.is_before-up.result c.args.from c.args.to
    c.in_order-one.result.0 c.in_order-one.result.1 c.index_of-low.result c.index_of-high.result c.args.seat.now.me.1
    c.in-Some.first c.take_first.new.seat.me
    c.requires.ready c.requires.shape c.requires.event c.requires.from c.requires.to c.requires.apart
    c.in_order-one.ensures.one c.in_order-one.ensures.other c.index_of-low.ensures c.index_of-high.ensures
    c.is_before-up.ensures.before c.in-Some.ensures.took
    c.in-Some-take_next.second c.take_next.new.seat.me c.finish_two.new.seat.me (finished.0 - 1) (finished.1 - 1) _
    c.in-Some-take_next.ensures.took (ap (λ (m : Sat). m.0.cleared) finished.2) tt

pub returns-in-Err-clause-order : goal.returns-in-Err-clause-order
returns-in-Err-clause-order g c =
    let released = c.put_two_back.ensures.released in
    back-both c.args.self.now.plan c.args.seat.now.me.0 g.J.Calls.event c.is_before-up.result c.args.from c.args.to
    c.in_order-one.result.0 c.in_order-one.result.1 c.index_of-low.result c.index_of-high.result c.args.seat.now.me.1
    c.in-Some.first c.take_first.new.seat.me
    c.requires.ready c.requires.shape c.requires.event c.requires.from c.requires.to c.requires.apart
    c.in_order-one.ensures.one c.in_order-one.ensures.other c.index_of-low.ensures c.index_of-high.ensures
    c.is_before-up.ensures.before c.in-Some.ensures.took
    c.in-Some-take_next.second c.take_next.new.seat.me c.put_two_back.new.seat.me (released.0 - 1) (released.1 - 1) _
    c.in-Some-take_next.ensures.took (ap (λ (m : Sat). m.0.cleared) released.2) tt
