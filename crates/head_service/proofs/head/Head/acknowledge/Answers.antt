use Rattle.std.proofs.Common.{ℕ, ◌<◌, List, length, Some, None, Option, sym, subst, ap, ◌∙◌}
use Rattle.group_run.specs.Heading.{acknowledged}
use Rattle.group_run.specs.Process.{Head}
use Rattle.partition_replica.proofs.Indices.{set_put}
use Rattle.head_service.proofs.head.Head.acknowledge.Goals as goal

pub returns : goal.returns
returns c =
    ap (λ (acks : List (Option ℕ)). record { rank = c.self.inside.rank.0; inherited = c.self.inside.inherited; acks = acks })
    (set_put None c.self.inside.acks.items c.args.parity (Some c.args.number)
    (subst (λ (h : Head). c.args.parity < length h.acks) (sym c.self.view_is) c.requires))
    ∙ ap (acknowledged c.args.parity c.args.number) c.self.view_is
