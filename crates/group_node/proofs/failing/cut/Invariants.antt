use Rattle.group_node.proofs.Cut.{IsCutting}
use Rattle.group_node.proofs.failing.cut.Given as goal

abbrev pub invariant-targets : goal.invariant-targets
invariant-targets l = IsCutting l.dead l.keep l.to l.initial.links l.links
