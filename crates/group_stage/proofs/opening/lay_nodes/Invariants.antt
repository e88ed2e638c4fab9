use Rattle.group_stage.specs.Opened.{AreLaid}
use Rattle.group_stage.proofs.opening.lay_nodes.Given as goal

abbrev pub invariant-processes : goal.invariant-processes
invariant-processes l = AreLaid l.fn.shape l.x l.slots.items
