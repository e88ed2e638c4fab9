use Rattle.group_core.proofs.Waiting.{none-next}
use Rattle.group_core.proofs.world.World.is_drained.Goals as goal

pub returns-clause-drained : goal.returns-clause-drained
returns-clause-drained c = λ none_left. none-next c.args.self.now c.next_indices.result c.is_none.result
    c.is_none.ensures none_left c.next_indices.ensures.delivery
