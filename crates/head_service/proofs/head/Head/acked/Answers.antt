use Rattle.std.proofs.Common.{None, ◌<◌, length, sym, subst, ◌∙◌}
use Rattle.group_run.specs.Process.{Head}
use Rattle.partition_replica.proofs.Indices.{at_read}
use Rattle.head_service.proofs.head.Head.acked.Goals as goal

pub returns : goal.returns
returns c = rw (← c.self.view_is)
    (c.index.ensures ∙ at_read None c.index.result.now c.self.inside.acks.items c.args.parity
    (subst (λ (h : Head). c.args.parity < length h.acks) (sym c.self.view_is) c.requires))
