use Rattle.std.proofs.Common.{◌/◌}
use Rattle.block_sessions.proofs.Blocks.{AddsTo}
use Rattle.block_sessions.proofs.rebuilt.add_run.Given as goal

abbrev pub invariant-numbers : goal.invariant-numbers
invariant-numbers l = AddsTo l.fn.shape l.at l.delta l.initial.pages l.pages (l.at / l.block) l.b
