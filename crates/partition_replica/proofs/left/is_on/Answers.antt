use Rattle.std.proofs.Common.{sym, ◌∙◌}
use Rattle.partition_replica.proofs.Behind.{ends_differ}
use Rattle.partition_replica.proofs.Keys.{equal_is}
use Rattle.partition_replica.proofs.left.is_on.Goals as goal

pub returns-then-ends_alike : goal.returns-then-ends_alike
returns-then-ends_alike c = c.eq.ensures ∙ equal_is c.args.update.now.key c.args.key.now

pub returns-else-ends_alike : goal.returns-else-ends_alike
returns-else-ends_alike c =
    c.if-ends_alike.false
    ∙ ends_differ c.args.update.now.key c.args.key.now c.ends_alike.result
    (λ same. c.ends_alike.ensures (c.bytes.ensures.value ∙ same ∙ sym c.bytes-2.ensures.value)) c.if-ends_alike.false
