use Rattle.std.proofs.Common.{rules}
use Rattle.std.proofs.Math.Seq.{of_parts}
use Rattle.group_core.proofs.Halves.{comes-down, exchanged-down}
use Rattle.group_core.proofs.delivering.deliver_down.Goals as goal

pub deliver_between-requires-clause-comes : goal.deliver_between-requires-clause-comes
deliver_between-requires-clause-comes c =
    let cut = c.split_at_mut-front in
    comes-down c.args.nodes.now cut.result.0.now cut.result.1.now c.args.to c.args.from c.index-front-to.result
    c.index-back-0.result c.requires.order c.requires.within
    cut.ensures.front cut.ensures.back c.requires.can

pub returns-clause-step : goal.returns-clause-step
returns-clause-step c =
    let cut = c.split_at_mut-front in
    exchanged-down c.args.nodes.now cut.result.0.now cut.result.1.now c.args.to c.args.from c.index-front-to.result
    c.index-back-0.result c.requires.order c.requires.within
    cut.ensures.front cut.ensures.back _ c.deliver_between.new.sender c.deliver_between.new.receiver c.deliver_between.result (search (rules, of_parts))
    c.deliver_between.ensures.sender_shape c.deliver_between.ensures.receiver_shape c.deliver_between.ensures.step
