use Rattle.std.proofs.Common.{length}
use Rattle.group_config.proofs.finding_entry.find_twice.Given as goal

abbrev pub decreases-left : goal.decreases-left
decreases-left l = length l.left
