use Rattle.std.proofs.Common.{subst}
use Rattle.group_run.specs.Headline.{MayCome}
use Rattle.group_core.specs.Runs.{group_from}
use Rattle.group_core.proofs.Known.{first-comes}
use Rattle.group_core.proofs.Runs.{named}
use Rattle.group_core.proofs.members.Members.pass.Goals as goal

pub deliver-requires-clause-from_name : goal.deliver-requires-clause-from_name
deliver-requires-clause-from_name c =
    let w = group_from c.args.self.now c.args.ledger.now.books in
    named w c.requires.run c.in-Deliver.from (subst (MayCome w) c.in-Deliver.is c.requires.may).0

pub deliver-requires-clause-to_name : goal.deliver-requires-clause-to_name
deliver-requires-clause-to_name c =
    let w = group_from c.args.self.now c.args.ledger.now.books in
    named w c.requires.run c.in-Deliver.to (subst (MayCome w) c.in-Deliver.is c.requires.may).1

pub deliver-requires-clause-comes : goal.deliver-requires-clause-comes
deliver-requires-clause-comes c = λ up lives m rest first.
    let w = group_from c.args.self.now c.args.ledger.now.books in
    let may = subst (MayCome w) c.in-Deliver.is c.requires.may in
    first-comes w c.requires.run c.in-Deliver.from c.in-Deliver.to m rest may.0 may.1 may.2 (named w c.requires.run c.in-Deliver.to may.1) up lives first

pub fail-requires-clause-name : goal.fail-requires-clause-name
fail-requires-clause-name c =
    let w = group_from c.args.self.now c.args.ledger.now.books in
    named w c.requires.run c.in-Fail.at (subst (MayCome w) c.in-Fail.is c.requires.may)
