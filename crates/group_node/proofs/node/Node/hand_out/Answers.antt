use Rattle.std.proofs.Common.{ℕ, ◌≡◌, List, [], drop, ap, sym, subst, ◌∙◌}
use Rattle.std.specs.Prelude.{slice_get}
use Rattle.group_types.specs.Lists.{at, put}
use Rattle.group_types.specs.Names.{IsProcess, index_of}
use Rattle.group_message.specs.declared.message.Message.{Message}
use Rattle.group_run.specs.World.{with_link}
use Rattle.group_node.specs.Rooms.{messages}
use Rattle.group_node.specs.Standing.{NodeStanding, node_standing}
use Rattle.group_node.proofs.Delivered.{popped}
use Rattle.group_node.proofs.Links.{messages-at}
use Rattle.group_node.proofs.node.Node.hand_out.Goals as goal

pub returns-clause-first : goal.returns-clause-first
returns-clause-first c =
    subst (λ (v : NodeStanding). c.pop.result ≡ slice_get (at [] v.node.links (index_of v.shape c.args.to)) 0) c.self.view_is
    (c.pop.ensures.first ∙ ap (λ (link : List Message). slice_get link 0) (sym (messages-at c.self.inside.links c.index_of.result))
    ∙ ap (λ (x : ℕ). slice_get (at [] (messages c.self.inside.links) x) 0) c.index_of.ensures)

pub returns-clause-rest : goal.returns-clause-rest
returns-clause-rest c =
    let n = c.self.inside in
    let named = subst (λ (v : NodeStanding). IsProcess v.shape c.args.to) (sym c.self.view_is) c.requires in
    let gone = popped n.shape c.args.to n.links c.pop.new.self c.index_of.result _ named c.self.invariant.many c.index_of.ensures c.pop.ensures.rest in
    let first = sym (messages-at n.links c.index_of.result) ∙ ap (at [] (messages n.links)) c.index_of.ensures in
    subst (λ (v : NodeStanding). (node_standing n.shape n.process c.pop.new.self n.dead n.down).node
    ≡ with_link v.shape c.args.to (drop 1 (at [] v.node.links (index_of v.shape c.args.to))) v.node) c.self.view_is
    (ap (λ (links : List (List Message)). record { process = n.process.process; links = links; dead = n.dead; down = n.down })
    (gone ∙ ap (λ (link : List Message). put [] (messages n.links) (index_of n.shape c.args.to) (drop 1 link)) first))
