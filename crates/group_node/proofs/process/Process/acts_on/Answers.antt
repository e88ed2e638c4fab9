use Rattle.group_node.proofs.Admitting.{data-unmarked}
use Rattle.group_node.proofs.process.Process.acts_on.Goals as goal

pub acts_on-requires : goal.acts_on-requires
acts_on-requires c =
    data-unmarked c.self.inside.role c.in-Data.process c.args.self.now c.args.message.now c.self.view_is c.self.invariant c.in-Data.is c.requires
