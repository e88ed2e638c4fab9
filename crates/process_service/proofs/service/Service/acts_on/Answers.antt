use Rattle.process_service.proofs.Beyond.{headed-beyond}
use Rattle.process_service.proofs.service.Service.acts_on.Goals as goal

pub returns-else-partition-k : goal.returns-else-partition-k
returns-else-partition-k c = λ b.
    headed-beyond _ c.args.self.now b c.self.inside.shape.k c.k.result c.args.message.now c.in-Ack.rank c.in-Ack.partition c.in-Ack.number c.in-Ack.is
    c.self.view_is c.self.invariant.heads_long c.k.ensures.value c.if-partition-k.false
