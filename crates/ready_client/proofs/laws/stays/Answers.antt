use Rattle.ready_client.proofs.Calling.{stays}
use Rattle.ready_client.proofs.laws.stays.Goals as goal

pub returns : goal.returns
returns g c = λ overlap told input input_now first now next before. stays g.G.Gateway.rules g.G.Gateway.order overlap told input input_now first before now next
