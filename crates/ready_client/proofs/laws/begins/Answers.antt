use Rattle.ready_client.proofs.Calling.{begins}
use Rattle.ready_client.proofs.laws.begins.Goals as goal

pub returns : goal.returns
returns g c = λ overlap told input gateway held. begins g.G.Gateway.rules g.G.Gateway.order overlap told input input gateway held held
