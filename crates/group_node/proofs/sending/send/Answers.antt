use Rattle.std.proofs.Common.{◌≡◌, ◌∷◌, subst}
use Rattle.group_run.specs.Applying.{Sent}
use Rattle.group_run.specs.World.{links_after}
use Rattle.group_node.specs.Rooms.{messages}
use Rattle.group_node.proofs.Sent.{none-sent, one-behind}
use Rattle.group_node.proofs.sending.send.Goals as goal

pub returns-in-None-clause-messages : goal.returns-in-None-clause-messages
returns-in-None-clause-messages c rest =
    let links = messages c.args.links.now in
    subst (λ (one : Sent). links_after c.args.shape c.args.known rest links ≡ links_after c.args.shape c.args.known (one ∷ rest) links) c.one.view_is
    (none-sent c.args.shape c.args.known (record { to = c.one.inside.to; message = c.one.inside.message }) rest links c.in-None.ensures.none)

pub returns-in-Some-clause-messages : goal.returns-in-Some-clause-messages
returns-in-Some-clause-messages c rest =
    subst (λ (one : Sent). links_after c.args.shape c.args.known rest (messages c.send.new.self) ≡ links_after c.args.shape c.args.known (one ∷ rest)
    (messages c.args.links.now)) c.one.view_is
    (one-behind c.args.shape c.args.known (record { to = c.one.inside.to; message = c.one.inside.message }) c.args.links.now c.send.new.self c.in-Some.to
    c.requires.many c.in-Some.ensures.some.0 c.in-Some.ensures.some.1 c.send.ensures rest)
