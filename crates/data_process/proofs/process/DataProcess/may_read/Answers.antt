use Rattle.data_process.proofs.Admitting.{read-told}
use Rattle.data_process.proofs.process.DataProcess.may_read.Goals as goal

pub returns : goal.returns
returns c =
    read-told c.self.inside.service c.self.inside.values c.can_ask.result c.args.session c.args.block c.args.rows.now
    c.self.view_is c.self.invariant.within c.can_ask.ensures
