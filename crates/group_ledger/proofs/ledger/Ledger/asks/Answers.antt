use Rattle.std.proofs.Common.{◌<◌, length, sym, ap, ◌∙◌, arith}
use Rattle.group_types.specs.Lists.{at}
use Rattle.group_types.proofs.Lists.{at_index}
use Rattle.group_ledger.specs.Books.{KeptBooks}
use Rattle.group_ledger.proofs.ledger.Ledger.asks.Goals as goal

pub returns : goal.returns
returns c =
    let within : c.args.caller < length c.self.inside.asked.items = omega (arith, c.requires, c.self.invariant.0.callers_all) in
    c.index.ensures ∙ sym (at_index 0 c.index.result.now c.self.inside.asked.items c.args.caller within)
    ∙ ap (λ (v : KeptBooks). at 0 v.books.asked c.args.caller) c.self.view_is
