use Rattle.std.proofs.Common.{sym, ap, ◌∙◌, arith}
use Rattle.group_types.specs.Lists.{at}
use Rattle.head_service.specs.Serving.{Serving}
use Rattle.process_service.proofs.Lists.{part-at}
use Rattle.process_service.proofs.service.Service.rank.Goals as goal

pub returns : goal.returns
returns c = sym (ap (λ (v : Serving). at 0 v.ranks c.args.partition.0) (sym c.self.view_is)
    ∙ part-at (λ r. r.0) 0 c.self.inside.ranks.items c.args.partition.0 c.index.result.now
    (omega (arith, c.requires, ap (λ (v : Serving). v.shape.k) c.self.view_is, c.self.invariant.ranks_long)) c.index.ensures)
