use Rattle.std.proofs.Common.{ℕ, ◌≡◌, ◌↔◌, IsTrue, [], subst}
use Rattle.group_types.specs.Lists.{at}
use Rattle.group_node.specs.Standing.{NodeStanding}
use Rattle.group_node.proofs.Links.{all-idle, idle-at}
use Rattle.group_node.proofs.node.Node.is_idle.Goals as goal

pub returns : goal.returns
returns c =
    let links = c.self.inside.links in
    subst (λ (v : NodeStanding). IsTrue c.is_idle.result ↔ ((to : ℕ) → at [] v.node.links to ≡ [])) c.self.view_is
    ((λ yes. idle-at links (c.is_idle.ensures.0 yes)), (λ idle. c.is_idle.ensures.1 (all-idle links idle)))
