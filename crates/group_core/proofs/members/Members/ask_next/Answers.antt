use Rattle.group_core.specs.Runs.{group_from}
use Rattle.group_core.proofs.Known.{known-low}
use Rattle.group_core.proofs.members.Members.ask_next.Goals as goal

pub ask-requires-clause-numbers : goal.ask-requires-clause-numbers
ask-requires-clause-numbers c = λ up lives. known-low (group_from c.args.self.now c.args.ledger.now.books) c.requires.run
    c.requires.events c.args.at c.requires.process lives
