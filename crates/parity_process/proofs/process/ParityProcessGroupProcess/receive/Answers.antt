use Rattle.std.proofs.Common.{◌∙◌, ap, sym, subst}
use Rattle.group_run.specs.Fitting.{Fits}
use Rattle.process_service.specs.Standing.{Standing}
use Rattle.leader_role.specs.Sound.{IsOfGroup}
use Rattle.parity_process.proofs.Standing.{received-named, received-ready}
use Rattle.parity_process.proofs.process.ParityProcessGroupProcess.receive.Goals as goal

pub invariant_of-self : goal.invariant_of-self
invariant_of-self c = received-ready c.self.inside.service c.receive.new.service c.self.inside.bytes c.receive.new.bytes
    c.args.from c.args.message.now c.receive.result
    c.self.invariant
    (subst (λ (p : Standing). Fits p.shape c.args.from c.args.message.now p.process) (sym c.self.view_is) c.requires.0)
    (subst (λ (p : Standing). IsOfGroup p.shape c.args.message.now p.process) (sym c.self.view_is) c.requires.1)
    c.receive.ensures.shape c.receive.ensures.over c.receive.ensures.step c.receive.ensures.service_err c.receive.ensures.bytes_err

pub returns-clause-pages : goal.returns-clause-pages
returns-clause-pages c = rw (← c.self.view_is) c.receive.ensures.pages

pub returns-clause-name : goal.returns-clause-name
returns-clause-name c =
    received-named c.self.inside.service c.receive.new.service c.self.inside.bytes c.receive.new.bytes c.args.from c.args.message.now
    c.receive.result c.receive.ensures.step c.receive.ensures.service_err c.receive.ensures.bytes_err
    ∙ ap (λ (p : Standing). p.process.name) c.self.view_is
