use Rattle.std.proofs.Common.{ℕ, ◌≡◌, ◌==◌, List, [], length, ap, sym, subst, ◌∙◌}
use Rattle.group_types.specs.Lists.{at}
use Rattle.group_types.specs.Names.{index_of}
use Rattle.group_message.specs.declared.message.Message.{Message}
use Rattle.group_node.specs.Rooms.{messages}
use Rattle.group_node.specs.Standing.{NodeStanding}
use Rattle.group_node.proofs.Links.{messages-at}
use Rattle.group_node.proofs.node.Node.is_empty.Goals as goal

pub returns : goal.returns
returns c =
    subst (λ (v : NodeStanding). c.is_empty.result ≡ (length (at [] v.node.links (index_of v.shape c.args.to)) == 0)) c.self.view_is
    (c.is_empty.ensures ∙ ap (λ (link : List Message). length link == 0) (sym (messages-at c.self.inside.links c.index_of.result))
    ∙ ap (λ (x : ℕ). length (at [] (messages c.self.inside.links) x) == 0) c.index_of.ensures)
