use Rattle.std.proofs.Common.{ap, ◌∙◌}
use Rattle.process_service.specs.Standing.{Standing}
use Rattle.group_node.proofs.Standing.{data-name, data-named, parity-name, parity-named}
use Rattle.group_node.proofs.process.ProcessGroupProcess.ask.Goals as goal
use Rattle.group_node.proofs.process.ProcessGroupProcess.ask.Goals.{in-Data, in-Parity}

pub invariant_of-self : goal.invariant_of-self
invariant_of-self c = elim c.match-self.branch [
  | in-Data w ↦
      data-named c.match-self.self-inside.role c.self.inside.role _ w.in-Data.process (ap (λ (p : _). p.role) w.self-inside-is) w.in-Data.is
      (w.ask.ensures.name ∙ ap (λ (p : Standing). p.process.name) w.deref_mut.ensures.value) c.self.invariant
  | in-Parity w ↦
      parity-named c.match-self.self-inside.role c.self.inside.role _ w.in-Parity.process
      (ap (λ (p : _). p.role) w.self-inside-is) w.in-Parity.is (w.ask-in-Parity.ensures.name ∙ ap (λ (p : Standing). p.process.name) w.deref_mut-in-Parity.ensures.value) c.self.invariant
]

pub returns-clause-name : goal.returns-clause-name
returns-clause-name c = elim c.match-self.branch [
  | in-Data w ↦
      data-name c.match-self.self-inside.role c.self.inside.role _ w.in-Data.process c.args.self.now
      (ap (λ (p : _). p.role) w.self-inside-is) w.in-Data.is c.self.view_is (w.ask.ensures.name ∙ ap (λ (p : Standing). p.process.name) w.deref_mut.ensures.value)
  | in-Parity w ↦
      parity-name c.match-self.self-inside.role c.self.inside.role _ w.in-Parity.process c.args.self.now
      (ap (λ (p : _). p.role) w.self-inside-is) w.in-Parity.is c.self.view_is (w.ask-in-Parity.ensures.name ∙ ap (λ (p : Standing). p.process.name) w.deref_mut-in-Parity.ensures.value)
]
