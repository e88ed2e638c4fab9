use Rattle.std.proofs.Common.{arith}
use Rattle.std.proofs.lemmas.List.Elements.{All-pop}
use Rattle.run_alloc.specs.Order.{order_key}
use Rattle.run_alloc.specs.Shelves.{IsBlank}
use Rattle.run_alloc.proofs.Splits.{even_still, halved_runs, halved_laid, halved_starts, halved_even}
use Rattle.run_alloc.proofs.chunks.halve_full.Goals as goal

pub returns-then-len-lt-FULL-clause-even : goal.returns-then-len-lt-FULL-clause-even
returns-then-len-lt-FULL-clause-even c =
    even_still (order_key c.args.order) c.args.chunks.now.items c.args.place c.requires.rich c.index.result.now
    c.index.ensures c.requires.laid (omega (arith, c.len.ensures))

pub returns-clause-runs : goal.returns-clause-runs
returns-clause-runs c = rw c.in-Ok.ensures.items
    (halved_runs (order_key c.args.order) c.args.chunks.now.items c.args.place c.requires.rich c.index_mut.result.now
    c.index_mut.ensures.value c.requires.laid c.halve-upper.new.chunk c.halve-upper.result c.halve-upper.ensures)

pub returns-clause-laid : goal.returns-clause-laid
returns-clause-laid c = rw c.in-Ok.ensures.items
    (halved_laid (order_key c.args.order) c.args.chunks.now.items c.args.place c.requires.rich c.index_mut.result.now
    c.index_mut.ensures.value c.requires.laid c.halve-upper.new.chunk c.halve-upper.result c.halve-upper.ensures)

pub returns-clause-starts : goal.returns-clause-starts
returns-clause-starts c = rw c.in-Ok.ensures.items
    (halved_starts (order_key c.args.order) c.args.chunks.now.items c.args.place c.requires.rich c.index_mut.result.now
    c.index_mut.ensures.value c.requires.laid c.halve-upper.new.chunk c.halve-upper.result c.halve-upper.ensures)

pub returns-clause-even : goal.returns-clause-even
returns-clause-even c = rw c.in-Ok.ensures.items
    (halved_even (order_key c.args.order) c.args.chunks.now.items c.args.place c.requires.rich c.index_mut.result.now
    c.index_mut.ensures.value c.requires.laid c.halve-upper.new.chunk c.halve-upper.result c.halve-upper.ensures)

pub returns-clause-blank : goal.returns-clause-blank
returns-clause-blank c = (All-pop IsBlank c.args.stock.now.items c.pop.new.self.items c.pop.result c.pop.ensures.items c.requires.blank).0
