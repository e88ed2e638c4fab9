use Rattle.parity_process.proofs.Fitting.{fits-few, fits-only, told-of}
use Rattle.parity_process.proofs.process.ParityProcess.may_come.Goals as goal

pub returns-in-Update : goal.returns-in-Update
returns-in-Update c =
    told-of c.self.inside.service c.self.inside.bytes.process c.in-Update.is c.self.view_is
    (fits-only tt tt (c.may_follow.ensures c.self.inside.bytes.process))

pub returns-in-Ack : goal.returns-in-Ack
returns-in-Ack c =
    told-of c.self.inside.service c.self.inside.bytes.process c.in-Ack.is c.self.view_is
    (fits-only tt tt (c.may_acknowledge.ensures c.self.inside.bytes.process))

pub returns-in-Stable : goal.returns-in-Stable
returns-in-Stable c =
    told-of c.self.inside.service c.self.inside.bytes.process c.in-Stable.is c.self.view_is
    (fits-only tt tt (c.may_settle.ensures c.self.inside.bytes.process))

pub returns-in-Adopt : goal.returns-in-Adopt
returns-in-Adopt c =
    told-of c.self.inside.service c.self.inside.bytes.process c.in-Adopt.is c.self.view_is
    (fits-only tt tt (c.may_adopt.ensures c.self.inside.bytes.process))

pub returns-in-Mark : goal.returns-in-Mark
returns-in-Mark c = told-of c.self.inside.service c.self.inside.bytes.process c.in-Mark.is c.self.view_is (c.may_mark.ensures c.args.from)

pub returns-in-Notice : goal.returns-in-Notice
returns-in-Notice c =
    told-of c.self.inside.service c.self.inside.bytes.process c.in-Notice.is c.self.view_is
    (fits-few (c.may_notice.ensures c.self.inside.bytes.process c.self.invariant.over.name))
