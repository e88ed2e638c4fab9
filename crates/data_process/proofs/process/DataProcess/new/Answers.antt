use Rattle.data_process.proofs.Standing.{starts-ready}
use Rattle.data_process.proofs.process.DataProcess.new.Goals as goal

pub invariant_of-result : goal.invariant_of-result
invariant_of-result c = starts-ready c.args.shape c.args.number c.in_ok-new.field-0 c.in_ok-new-2.field-0 c.requires
    c.in_ok-new.ensures.value c.in_ok-new-2.ensures
