use Rattle.std.proofs.Common.{◌≡◌, replicate}
use Rattle.page_map.specs.Pages.{no_pages}
use Rattle.block_sessions.proofs.sessions.Sessions.new.Given as goal

abbrev pub invariant-partitions : goal.invariant-partitions
invariant-partitions l = l.rebuilt.items ≡ replicate l.counter (no_pages l.shape.blocks l.shape.block)
