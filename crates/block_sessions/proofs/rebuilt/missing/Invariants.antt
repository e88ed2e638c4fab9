use Rattle.std.proofs.Common.{◌≡◌, ◌-◌, find}
use Rattle.std.specs.List.{range_with_len}
use Rattle.group_run.specs.Leaders.{blocks_met}
use Rattle.block_sessions.proofs.Blocks.{unmade}
use Rattle.block_sessions.proofs.rebuilt.missing.Given as goal

abbrev pub invariant-numbers : goal.invariant-numbers
invariant-numbers l = find (unmade l.pages) (range_with_len l.b (l.b-end - l.b)) ≡ find (unmade l.pages) (blocks_met l.fn.shape l.fn.run)
