use Rattle.ready_client.proofs.Ordering.{answered-in-sequences}
use Rattle.ready_client.proofs.laws.keeps_sequences.Goals as goal

pub returns : goal.returns
returns g c = λ overlap. answered-in-sequences g.G.Gateway.rules overlap
