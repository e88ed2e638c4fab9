use Rattle.std.proofs.Common.{◌∙◌}
use Rattle.partition_replica.proofs.Listing.{count-items_in}
use Rattle.partition_replica.proofs.replica.Replica.item_count.Goals as goal

pub returns : goal.returns
returns c = rw (← c.self.view_is) (c.count.ensures.count ∙ count-items_in c.self.inside.index c.count.ensures.once)
