use Rattle.std.proofs.Common.{◌≡◌, false, sym, subst}
use Rattle.memc_table.specs.Act.{key_of}
use Rattle.group_run.specs.Process.{Node}
use Rattle.group_run.specs.World.{ask_node}
use Rattle.head_service.specs.Acting.{name_of_call}
use Rattle.group_node.proofs.Numbers.{all-low}
use Rattle.group_core.specs.Seats.{IsKnownLow}
use Rattle.group_core.proofs.Changed.{changed, own-node, same-seats, weaker}
use Rattle.group_core.proofs.members.Members.ask.Goals as goal

pub ask-requires-clause-numbers : goal.ask-requires-clause-numbers
ask-requires-clause-numbers c = λ up lives.
    let low =
    (subst (λ (n : Node). n.down ≡ false → n.dead ≡ false → IsKnownLow n.process)
    (sym (own-node c.args.self.now c.self.inside.shape c.self.inside.nodes.items c.self.view_is c.self.invariant
    c.args.at c.requires.process c.index_of-at.result c.index_of-at.ensures
    c.index_mut.result.now c.index_mut.ensures.value)) c.requires.numbers up lives) in
    all-low c.index_mut.result.now.shape (key_of c.args.op.now.act) c.index_mut.result.now.node.process low.updates low.sessions

pub returns-clause-step : goal.returns-clause-step
returns-clause-step c =
    weaker c.ask.result (λ out is. changed c.args.self.now c.self.inside.shape c.self.inside.nodes.items c.self.view_is
    c.self.invariant c.args.at c.requires.process
    c.index_of-at.result c.index_of-at.ensures c.index_mut.result.now c.index_mut.ensures.value
    (λ s n. ask_node s (name_of_call c.args.call) c.args.op.now n) c.ask.new.self out is) c.ask.ensures.step

pub returns-clause-refusal : goal.returns-clause-refusal
returns-clause-refusal c =
    weaker c.ask.result (λ out same refused. same-seats c.args.self.now c.self.inside.shape c.self.inside.nodes.items
    c.index_of-at.result c.index_mut.result.now c.ask.new.self
    c.self.view_is c.index_mut.ensures.value (same refused)) c.ask.ensures.refusal
