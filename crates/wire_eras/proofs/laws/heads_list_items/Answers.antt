use Rattle.wire_eras.proofs.Listing.{heads_list_items}
use Rattle.wire_eras.proofs.laws.heads_list_items.Goals as goal

pub returns : goal.returns
returns c = heads_list_items
