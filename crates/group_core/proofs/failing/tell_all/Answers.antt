use Rattle.std.proofs.Common.{◌≡◌, ◌<◌, length, ap, ◌∙◌, sym, arith}
use Rattle.std.proofs.lemmas.List.{length-set}
use Rattle.std.proofs.lemmas.List.Elements.{All-set}
use Rattle.group_node.specs.Standing.{NodeStanding}
use Rattle.group_core.specs.Seats.{nodes_of}
use Rattle.group_core.proofs.Changed.{many-nodes}
use Rattle.group_core.proofs.Told.{next-told}
use Rattle.group_core.proofs.failing.tell_all.Goals as goal

pub nodes-preserved : goal.nodes-preserved
nodes-preserved c =
    let below : c.nodes.x < length c.nodes.nodes = omega (arith, c.nodes-test.true, c.nodes.invariant.many) in
    record {
      told = next-told c.args.down (nodes_of c.args.nodes.now) c.nodes.nodes c.nodes.x c.tell_down.new.self
          c.index-nodes-x.result below (c.nodes.invariant.many ∙ sym (many-nodes c.args.nodes.now))
          c.nodes.invariant.told (ap (λ (x : NodeStanding). x.node) c.tell_down.ensures);
      shapes = λ s all. All-set (λ x. x.shape ≡ s) c.nodes.nodes c.nodes.x c.tell_down.new.self
          (ap (λ (x : NodeStanding). x.shape) c.tell_down.ensures ∙ c.nodes.invariant.shapes s all c.nodes.x
          c.index-nodes-x.result below) (c.nodes.invariant.shapes s all);
      many = length-set c.nodes.nodes c.nodes.x c.tell_down.new.self ∙ c.nodes.invariant.many;
    }
