use Rattle.std.proofs.Common.{ap}
use Rattle.head_service.specs.Serving.{Serving}
use Rattle.process_service.proofs.Beyond.{followed-beyond}
use Rattle.process_service.proofs.service.Service.follows.Goals as goal

pub returns-then-k-partition : goal.returns-then-k-partition
returns-then-k-partition c =
    followed-beyond c.self.inside.ranks.items c.args.self.now.ranks c.self.inside.shape.k c.k.result c.args.partition.0 c.args.rank.0
    (ap (λ (v : Serving). v.ranks) c.self.view_is) c.self.invariant.ranks_long c.k.ensures.value c.if-k-partition.true
