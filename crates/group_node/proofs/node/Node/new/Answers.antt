use Rattle.std.proofs.Common.{ℕ, ◌≡◌, ◌+◌, replicate, ap, ◌∙◌, arith}
use Rattle.link_core.specs.Outgoing.{empty_link}
use Rattle.group_node.proofs.Treated.{starts}
use Rattle.group_node.proofs.node.Node.new.Goals as goal

pub returns : goal.returns
returns c =
    let targets : c.k.result + c.m.result ≡ c.args.shape.k + c.args.shape.m = omega (arith, c.k.ensures.value, c.m.ensures.value) in
    starts c.args.shape c.args.name c.in_ok-process.process c.in_ok-links.links c.make_room.new.links c.in_ok-process.ensures
    (c.in_ok-links.ensures ∙ ap (λ (n : ℕ). replicate n empty_link) targets) c.make_room.ensures.messages
