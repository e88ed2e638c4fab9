use Rattle.std.proofs.Common.{◌≡◌, false, nat_lt, get_or, ap, ◌∙◌, sym}
use Rattle.std.proofs.lemmas.List.{length-set}
use Rattle.std.proofs.lemmas.List.Elements.{All-set}
use Rattle.group_node.specs.Standing.{NodeStanding}
use Rattle.group_core.proofs.Changed.{seat-is, within}
use Rattle.group_core.proofs.Exchanges.{any-at}
use Rattle.group_core.proofs.Killed.{already, died-shape, killed}
use Rattle.group_core.proofs.failing.kill.Goals as goal

pub returns-then-is_dead-clause-step : goal.returns-then-is_dead-clause-step
returns-then-is_dead-clause-step c = already _ c.args.shape _ c.args.at c.args.keep
    (sym (ap (λ (n : _). n.dead) (seat-is c.args.shape c.args.nodes.now c.requires.seated c.args.at c.requires.process
    c.index_of-at.result c.index_of-at.ensures c.index-nodes-at.result))
    ∙ sym c.is_dead.ensures ∙ c.if-is_dead.true)

pub returns-clause-seated : goal.returns-clause-seated
returns-clause-seated c =
    let xs = c.args.nodes.now in
    let x = c.index_of-at.result in
    let y = get_or xs x c.index-nodes-at-2.result in
    let below = within c.args.shape xs c.requires.seated c.args.at c.requires.process x c.index_of-at.ensures in
    record {
      many = c.tell_all.ensures.many ∙ length-set xs x c.die.new.self ∙ c.requires.seated.many;
      shapes = c.tell_all.ensures.shapes c.args.shape (All-set (λ z. z.shape ≡ c.args.shape) xs x c.die.new.self
          (died-shape c.args.shape xs c.requires.seated c.args.at c.requires.process x c.index_of-at.ensures c.requires.name c.args.keep y c.die.new.self
          (any-at xs x c.index-nodes-at-2.result y below) c.die.ensures) c.requires.seated.shapes);
    }

pub returns-clause-step : goal.returns-clause-step
returns-clause-step c =
    let xs = c.args.nodes.now in
    let x = c.index_of-at.result in
    let y = get_or xs x c.index-nodes-at-2.result in
    let below = within c.args.shape xs c.requires.seated c.args.at c.requires.process x c.index_of-at.ensures in
    let lives : y.node.dead ≡ false
    = ap (λ (z : NodeStanding). z.node.dead) (any-at xs x c.index-nodes-at-2.result c.index-nodes-at.result below)
    ∙ sym c.is_dead.ensures ∙ c.if-is_dead.false in
    killed c.args.shape xs c.requires.seated c.args.at c.requires.process x c.index_of-at.ensures c.requires.name c.args.keep y c.die.new.self
    (any-at xs x c.index-nodes-at-2.result y below) c.die.ensures (nat_lt c.m-most.result c.count_dead.result) c.tell_all.new.nodes lives
    (λ i. nat_lt (c.m-most.ensures.value i) (c.count_dead.ensures i)) c.tell_all.ensures.nodes
