use Rattle.std.proofs.Common.{length, ap, arith}
use Rattle.group_message.specs.declared.update.Update.{Update}
use Rattle.wire_codec.specs.Frame.{update}
use Rattle.wire_codec.proofs.Puts.{length_front}
use Rattle.wire_codec.proofs.length.updates_length.Goals as goal

pub returns-in-None-clause-none : goal.returns-in-None-clause-none
returns-in-None-clause-none c =
    let none = c.in-None.ensures.none in
    let sums = c.updates.invariant.sums in
    let front = length_front update c.args.updates.now c.updates.u-index c.u-item.result c.updates-test.true in
    let same = ap (λ (u : Update). length (update u)) c.u-item.is in
    omega (arith, none, sums, front, same)
