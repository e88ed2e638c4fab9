use Rattle.std.proofs.Common.{◌∙◌, ◌++◌, ap}
use Rattle.group_message.specs.declared.update.Update.{Update}
use Rattle.wire_codec.specs.Frame.{update}
use Rattle.wire_codec.proofs.Puts.{one_more}
use Rattle.wire_codec.proofs.put_message.put_updates.Goals as goal

pub updates-preserved : goal.updates-preserved
updates-preserved c =
    one_more update c.args.out.now.items c.updates.out.items c.put_update.new.out.items c.args.updates.now
    c.updates.u-index c.u-item.result c.updates-test.true c.updates.invariant
    (c.in_ok-put_update.ensures ∙ ap (λ (u : Update). c.updates.out.items ++ update u) c.u-item.is)
