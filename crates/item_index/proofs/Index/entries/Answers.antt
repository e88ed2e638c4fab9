use Rattle.std.proofs.Common.{List, ◌++◌, sym, ap, subst, ◌∙◌, append-nil}
use Rattle.item_index.specs.declared.slot.Slot.{Slot}
use Rattle.item_index.specs.Keys.{IsListing}
use Rattle.item_index.proofs.Listing.{listed, listing}
use Rattle.item_index.proofs.Index.entries.Goals as goal

-- nothing is left, so all entries are listed
pub returns : goal.returns
returns g c =
    let none_left = ap listed c.in-None.ensures.steps.0 in
    let all = c.new.ensures ∙ sym (append-nil c.pairs.pairs.items)
    ∙ ap (λ (rest : List (g.row.K.Denot × Slot)). c.pairs.pairs.items ++ rest) (sym none_left) ∙ c.pairs.invariant in
    subst (IsListing g.K.PartialEq.eq c.args.self.now) (sym all)
    (listing g.K.PartialEq.eq g.met.K.Eq.laws c.args.self.now (rw (← c.self.view_is) c.iter-key-items.ensures.unique))
