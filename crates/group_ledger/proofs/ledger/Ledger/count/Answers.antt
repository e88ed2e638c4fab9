use Rattle.std.proofs.Common.{◌≡◌, ◌<◌, [], Vec, Global, Option, length, ap, ◌∙◌, arith}
use Rattle.std.proofs.lemmas.Grind.{common_steps}
use Rattle.group_types.specs.Lists.{at}
use Rattle.group_types.specs.declared.run.Run.{Run}
use Rattle.group_ledger.specs.Books.{KeptBooks}
use Rattle.group_ledger.proofs.Partitions.{place-at}
use Rattle.group_ledger.proofs.ledger.Ledger.count.Goals as goal

pub returns : goal.returns
returns c =
    let wide = ap (λ (v : KeptBooks). v.books.shape.k) c.self.view_is in
    let within : c.args.partition.0 < length c.self.inside.places.items = omega (arith, c.requires, wide, c.self.invariant.0.partitions_all) in
    let long : c.len.result ≡ length c.index.result.now.items = grind (arith, common_steps) in
    long ∙ ap (λ (p : Vec (Option Run) Global). length p.items) c.index.ensures
    ∙ ap length (place-at c.self.inside.places.items c.args.partition.0 c.index.result.now within)
    ∙ ap (λ (v : KeptBooks). length (at [] v.books.places c.args.partition.0)) c.self.view_is
