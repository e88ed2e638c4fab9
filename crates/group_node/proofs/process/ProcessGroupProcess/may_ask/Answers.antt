use Rattle.group_node.proofs.Numbers.{numbers-data, numbers-parity}
use Rattle.group_node.proofs.process.ProcessGroupProcess.may_ask.Goals as goal

pub returns-in-Data : goal.returns-in-Data
returns-in-Data c =
    numbers-data c.self.inside.role c.in-Data.process c.args.self.now c.args.key.now c.may_ask.result
    c.self.view_is c.self.invariant c.in-Data.is c.deref.result.now c.deref.ensures c.may_ask.ensures

pub returns-in-Parity : goal.returns-in-Parity
returns-in-Parity c =
    numbers-parity c.self.inside.role c.in-Parity.process c.args.self.now c.args.key.now c.may_ask-in-Parity.result
    c.self.view_is c.self.invariant c.in-Parity.is c.deref-in-Parity.result.now c.deref-in-Parity.ensures c.may_ask-in-Parity.ensures
