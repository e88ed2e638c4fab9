use Rattle.std.proofs.Common.{not, ap, ◌∙◌}
use Rattle.partition_replica.proofs.Keys.{items_in-same, waits_as_found, ready_in-tidy, ready_in-waiting}
use Rattle.partition_replica.proofs.items.tidy.Goals as goal

pub returns-then-is_none-clause-items : goal.returns-then-is_none-clause-items
returns-then-is_none-clause-items c = items_in-same _ _ c.tidy.ensures.slots

pub returns-then-is_none-clause-ready : goal.returns-then-is_none-clause-ready
returns-then-is_none-clause-ready c q =
    let none = waits_as_found c.args.log.now.updates c.args.key.now c.holds_key.result c.holds_key.ensures ∙ c.is_none.ensures ∙ ap not c.if-is_none.true in
    ready_in-tidy c.args.index.now c.args.log.now.updates c.args.key.now q c.tidy.new.self none (c.tidy.ensures.ready q)

pub returns-else-is_none-clause-ready : goal.returns-else-is_none-clause-ready
returns-else-is_none-clause-ready c q =
    let waits = waits_as_found c.args.log.now.updates c.args.key.now c.holds_key.result c.holds_key.ensures ∙ c.is_none.ensures ∙ ap not c.if-is_none.false in
    ready_in-waiting c.args.index.now c.args.log.now.updates c.args.key.now q waits
