use Rattle.std.proofs.Common.{◌==◌, ◌&&◌, ◌∙◌, rules}
use Rattle.std.proofs.lemmas.Iterator.Consumers.{YieldsList-from_deque}
use Rattle.std.proofs.lemmas.Iterator.Search.{any_from_yields_List}
use Rattle.group_message.specs.declared.update.Update.{Update}
use Rattle.partition_replica.proofs.Indices.{any_is}
use Rattle.partition_replica.proofs.replica.Replica.waits.Goals as goal

pub returns : goal.returns
returns c =
    let test = λ (u : Update). u.caller == c.args.caller && u.call == c.args.call in
    rw (← c.self.view_is) (any_from_yields_List test _ _ c.any.result c.any.ensures.ran
    (YieldsList-from_deque c.self.inside.log.updates c.iter.ensures.rest) (λ x b q k. search (rules))
    ∙ any_is test c.self.inside.log.updates)
