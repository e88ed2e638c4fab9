use Rattle.std.proofs.Common.{ap, ◌∙◌, subst}
use Rattle.process_service.specs.Standing.{Standing}
use Rattle.process_service.specs.Paging.{MakesPagesFor}
use Rattle.group_node.proofs.Paging.{data-pages, parity-pages}
use Rattle.group_node.proofs.Standing.{data-name, data-named, parity-name, parity-named}
use Rattle.group_node.proofs.process.ProcessGroupProcess.receive.Goals as goal
use Rattle.group_node.proofs.process.ProcessGroupProcess.receive.Goals.{in-Data, in-Parity}

pub invariant_of-self : goal.invariant_of-self
invariant_of-self c = elim c.match-self.branch [
  | in-Data w ↦
      data-named c.match-self.self-inside.role c.self.inside.role _ w.in-Data.process (ap (λ (p : _). p.role) w.self-inside-is) w.in-Data.is
      (w.receive.ensures.name ∙ ap (λ (p : Standing). p.process.name) w.deref_mut.ensures.value) c.self.invariant
  | in-Parity w ↦
      parity-named c.match-self.self-inside.role c.self.inside.role _ w.in-Parity.process
      (ap (λ (p : _). p.role) w.self-inside-is) w.in-Parity.is (w.receive-in-Parity.ensures.name ∙ ap (λ (p : Standing). p.process.name) w.deref_mut-in-Parity.ensures.value) c.self.invariant
]

pub returns-clause-name : goal.returns-clause-name
returns-clause-name c = elim c.match-self.branch [
  | in-Data w ↦
      data-name c.match-self.self-inside.role c.self.inside.role _ w.in-Data.process c.args.self.now
      (ap (λ (p : _). p.role) w.self-inside-is) w.in-Data.is c.self.view_is (w.receive.ensures.name ∙ ap (λ (p : Standing). p.process.name) w.deref_mut.ensures.value)
  | in-Parity w ↦
      parity-name c.match-self.self-inside.role c.self.inside.role _ w.in-Parity.process c.args.self.now
      (ap (λ (p : _). p.role) w.self-inside-is) w.in-Parity.is c.self.view_is (w.receive-in-Parity.ensures.name ∙ ap (λ (p : Standing). p.process.name) w.deref_mut-in-Parity.ensures.value)
]

pub returns-clause-pages : goal.returns-clause-pages
returns-clause-pages c = elim c.match-self.branch [
  | in-Data w ↦
      data-pages c.args.message.now c.match-self.self-inside.role c.self.inside.role _ w.in-Data.process c.args.self.now
      (ap (λ (p : _). p.role) w.self-inside-is) w.in-Data.is c.self.view_is (w.receive.ensures.pages ∙ ap (λ (p : Standing). p.made) w.deref_mut.ensures.value)
  | in-Parity w ↦
      parity-pages c.args.message.now c.match-self.self-inside.role c.self.inside.role _ w.in-Parity.process c.args.self.now
      (ap (λ (p : _). p.role) w.self-inside-is) w.in-Parity.is c.self.view_is (subst (λ (p : Standing). MakesPagesFor c.args.message.now p w.receive-in-Parity.new.self) w.deref_mut-in-Parity.ensures.value
      w.receive-in-Parity.ensures.pages)
]
