use Rattle.group_node.proofs.Admitting.{told-data, told-parity}
use Rattle.group_node.proofs.process.Process.may_come.Goals as goal

pub returns-in-Data : goal.returns-in-Data
returns-in-Data c =
    told-data c.self.inside.role c.in-Data.process c.args.self.now c.args.from c.args.message.now c.may_come.result
    c.self.view_is c.self.invariant c.in-Data.is c.deref.result.now c.deref.ensures c.may_come.ensures

pub returns-in-Parity : goal.returns-in-Parity
returns-in-Parity c =
    told-parity c.self.inside.role c.in-Parity.process c.args.self.now c.args.from c.args.message.now c.may_come-in-Parity.result
    c.self.view_is c.self.invariant c.in-Parity.is c.deref-in-Parity.result.now c.deref-in-Parity.ensures c.may_come-in-Parity.ensures
