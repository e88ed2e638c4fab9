use Rattle.std.proofs.Common.{None, ◌∙◌, arith}
use Rattle.partition_replica.proofs.Indices.{at_read}
use Rattle.partition_replica.proofs.replica.Replica.kept.Goals as goal

pub returns : goal.returns
returns c = rw (← c.self.view_is) (c.index.ensures ∙ at_read None c.index.result.now c.self.inside.kept.items
    c.args.caller (omega (arith, c.self.invariant.callers, c.requires)))
