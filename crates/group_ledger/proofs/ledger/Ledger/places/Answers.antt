use Rattle.std.proofs.Common.{◌≡◌, ◌<◌, [], Vec, Global, Option, length, ap, ◌∙◌, arith}
use Rattle.std.proofs.lemmas.Grind.{common_steps}
use Rattle.group_types.specs.Lists.{at}
use Rattle.group_types.specs.declared.run.Run.{Run}
use Rattle.group_ledger.specs.Books.{KeptBooks}
use Rattle.group_ledger.proofs.Partitions.{place-at}
use Rattle.group_ledger.proofs.ledger.Ledger.places.Goals as goal

pub returns : goal.returns
returns c =
    let wide = ap (λ (v : KeptBooks). v.books.shape.k) c.self.view_is in
    let within : c.args.partition.0 < length c.self.inside.places.items = omega (arith, c.requires, wide, c.self.invariant.0.partitions_all) in
    c.deref.ensures.value ∙ ap (λ (p : Vec (Option Run) Global). p.items) c.index.ensures
    ∙ place-at c.self.inside.places.items c.args.partition.0 c.index.result.now within
    ∙ ap (λ (v : KeptBooks). at [] v.books.places c.args.partition.0) c.self.view_is
