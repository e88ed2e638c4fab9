use Rattle.std.proofs.Common.{◌≡◌, ◌++◌}
use Rattle.item_index.proofs.Listing.{listed}
use Rattle.item_index.proofs.Index.entries.Given as goal

abbrev pub invariant-pairs : goal.invariant-pairs
invariant-pairs g l = l.pairs.items ++ listed l.key-iterator ≡ listed l.self
