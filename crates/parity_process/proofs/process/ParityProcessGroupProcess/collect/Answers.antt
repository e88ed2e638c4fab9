use Rattle.parity_process.proofs.Standing.{collected-ready}
use Rattle.parity_process.proofs.process.ParityProcessGroupProcess.collect.Goals as goal

pub invariant_of-self : goal.invariant_of-self
invariant_of-self c = collected-ready c.self.inside.service c.collect.new.self c.self.inside.bytes c.args.caller c.args.call c.collect.result
    c.collect.ensures.shape c.collect.ensures.name c.collect.ensures.replicas (c.collect.ensures.answer c.self.inside.bytes.process) c.self.invariant

pub returns-clause-answer : goal.returns-clause-answer
returns-clause-answer c = rw (← c.self.view_is) (c.collect.ensures.answer c.self.inside.bytes.process)
