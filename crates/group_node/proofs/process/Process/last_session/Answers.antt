use Rattle.std.proofs.Common.{ap, ◌∙◌}
use Rattle.process_service.specs.Standing.{Standing}
use Rattle.group_node.proofs.Numbers.{last-data, last-is, last-parity}
use Rattle.group_node.proofs.process.Process.last_session.Goals as goal

pub returns-in-Data-clause-parity : goal.returns-in-Data-clause-parity
returns-in-Data-clause-parity c =
    λ i other. absurd (last-data c.self.inside.role c.in-Data.field-0 c.args.self.now c.self.view_is c.self.invariant
    c.in-Data.is i other)

pub returns-in-Parity-clause-parity : goal.returns-in-Parity-clause-parity
returns-in-Parity-clause-parity c = λ i own.
    last-is c.self.inside.role c.in-Parity.process c.args.self.now c.self.view_is c.self.invariant c.last_session.result c.in-Parity.is
    (c.last_session.ensures ∙ ap (λ (p : Standing). p.process.as_leader.last_session) c.deref.ensures)

pub returns-in-Parity-clause-data_process : goal.returns-in-Parity-clause-data_process
returns-in-Parity-clause-data_process c = λ d other.
    absurd (last-parity c.self.inside.role c.in-Parity.process c.args.self.now c.self.view_is c.self.invariant c.in-Parity.is d other)
