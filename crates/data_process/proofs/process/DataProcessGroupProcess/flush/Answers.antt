use Rattle.data_process.specs.Values.{data_process_of}
use Rattle.data_process.proofs.process.DataProcessGroupProcess.flush.Goals as goal

pub returns : goal.returns
returns c = rw (← c.self.view_is) (c.flush.ensures (data_process_of c.self.inside.values) c.self.invariant.beneath.name)
