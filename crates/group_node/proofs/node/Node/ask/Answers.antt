use Rattle.std.proofs.Common.{◌↔◌, nat_lt, IsTrue, sym, subst, ◌∙◌}
use Rattle.group_types.specs.Dimensions.{Dimensions}
use Rattle.memc_table.specs.Act.{key_of}
use Rattle.head_service.specs.Acting.{name_of_call}
use Rattle.group_node.specs.Asking.{HasNumbers, HasOpened}
use Rattle.group_node.specs.Standing.{NodeStanding}
use Rattle.group_node.proofs.Numbers.{opened-word}
use Rattle.group_node.proofs.Refused.{refused-stays}
use Rattle.group_node.proofs.Treated.{few-asked}
use Rattle.group_node.proofs.Unmade.{unmade-stays}
use Rattle.group_node.proofs.node.Node.ask.Goals as goal

pub ask-requires-clause-numbers : goal.ask-requires-clause-numbers
ask-requires-clause-numbers c =
    subst (λ (s : Dimensions). HasNumbers s (key_of c.args.op.now.act) c.self.inside.process.process) (sym c.self.invariant.shape)
    (subst (λ (v : NodeStanding). HasNumbers v.shape (key_of c.args.op.now.act) v.node.process) (sym c.self.view_is)
    (c.requires.numbers c.in_default.ensures.none.0 c.in_default.ensures.none.1))

pub send_all-requires-clause-few : goal.send_all-requires-clause-few
send_all-requires-clause-few c =
    few-asked c.self.inside.shape c.self.inside.process.shape c.self.inside.process.process c.ask.new.self.process
    (name_of_call c.args.call) c.args.op.now c.in_ok-step.step
    c.sends_few.ensures c.make_room.ensures.shape c.self.invariant.shape c.in_ok-step.ensures.step

pub returns-clause-refusal : goal.returns-clause-refusal
returns-clause-refusal c = λ refused.
    let n = c.self.inside in
    refused-stays n.shape n.process.shape (name_of_call c.args.call) c.args.op.now n.process c.ask.new.self n.links
    c.make_room.new.links c.send_all.new.links c.known.result c.in_ok-step.step n.dead n.down
    c.self.invariant.shape c.self.invariant.many c.in_ok-step.ensures.step refused c.make_room.ensures.messages c.send_all.ensures.messages ∙ c.self.view_is

pub returns-clause-stays : goal.returns-clause-stays
returns-clause-stays c = λ nothing.
    let n = c.self.inside in
    unmade-stays n.shape n.process.shape (name_of_call c.args.call) c.args.op.now n.process c.ask.new.self n.links
    c.make_room.new.links c.send_all.new.links c.known.result c.in_ok-step.step n.dead n.down
    c.self.invariant.shape c.self.invariant.many c.in_ok-step.ensures.step nothing c.make_room.ensures.messages c.send_all.ensures.messages ∙ c.self.view_is

pub returns-clause-opened : goal.returns-clause-opened
returns-clause-opened c =
    let a = c.last_session-last.result in
    let b = c.last_session.result in
    subst (λ (v : NodeStanding). IsTrue (nat_lt a b) ↔ HasOpened v.node.process c.ask.new.self.process) c.self.view_is
    (opened-word c.self.inside.process.process c.ask.new.self.process a b c.last_session-last.ensures.parity c.last_session-last.ensures.data_process
    c.last_session.ensures.parity c.last_session.ensures.data_process c.ask.ensures.name)
