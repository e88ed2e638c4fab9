use Rattle.data_process.specs.Values.{data_process_of}
use Rattle.data_process.proofs.Admitting.{fits-few, fits-only, told-of}
use Rattle.data_process.proofs.process.DataProcess.may_come.Goals as goal

pub returns-in-Ack : goal.returns-in-Ack
returns-in-Ack c =
    told-of c.self.inside.service (data_process_of c.self.inside.values) c.in-Ack.is c.self.view_is
    (fits-only tt tt (c.may_acknowledge.ensures (data_process_of c.self.inside.values)))

pub returns-in-Notice : goal.returns-in-Notice
returns-in-Notice c =
    told-of c.self.inside.service (data_process_of c.self.inside.values) c.in-Notice.is c.self.view_is
    (fits-few (c.may_notice.ensures (data_process_of c.self.inside.values) c.self.invariant.beneath.name))
