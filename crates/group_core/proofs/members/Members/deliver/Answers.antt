use Rattle.std.proofs.Common.{◌≡◌, false, [], ◌∷◌, List, sym, ap, subst, ◌∙◌}
use Rattle.group_types.specs.Lists.{at}
use Rattle.group_types.specs.Names.{index_of}
use Rattle.group_message.specs.declared.message.Message.{Message}
use Rattle.group_node.specs.Delivering.{Comes}
use Rattle.group_core.specs.Seats.{Seats, seat, seats_of}
use Rattle.group_core.proofs.members.Members.deliver.Goals as goal

pub deliver_in-requires-clause-comes : goal.deliver_in-requires-clause-comes
deliver_in-requires-clause-comes c =
    let same = ap (seats_of c.self.inside.shape) c.deref_mut.ensures.value ∙ c.self.view_is in
    subst (λ (v : Seats). (seat v c.args.to).down ≡ false → (seat v c.args.to).dead ≡ false → (m : Message) (rest : List Message)
    → at [] (seat v c.args.from).links (index_of v.shape c.args.to) ≡ m ∷ rest
    → Comes v.shape c.args.from m (seat v c.args.to).process) (sym same) c.requires.comes
