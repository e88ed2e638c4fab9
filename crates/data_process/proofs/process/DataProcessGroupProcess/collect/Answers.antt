use Rattle.data_process.specs.Values.{data_process_of}
use Rattle.data_process.proofs.Standing.{same-replicas}
use Rattle.data_process.proofs.process.DataProcessGroupProcess.collect.Goals as goal

pub invariant_of-self : goal.invariant_of-self
invariant_of-self c = same-replicas c.self.inside.service c.collect.new.self c.self.inside.values
    c.collect.ensures.shape c.collect.ensures.name c.collect.ensures.replicas c.self.invariant

pub returns-clause-answer : goal.returns-clause-answer
returns-clause-answer c = rw (← c.self.view_is) (c.collect.ensures.answer (data_process_of c.self.inside.values))
