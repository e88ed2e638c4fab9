use Rattle.std.proofs.Common.{◌+◌, ◌<◌, ◌^◌, refl, arith}
use Rattle.std.proofs.lemmas.List.Elements.{All-contains}
use Rattle.run_alloc.specs.declared.order.Run.{Run}
use Rattle.run_alloc.specs.Runs.{IsClear}
use Rattle.run_alloc.proofs.Apart.{All-removed, spread-ends}
use Rattle.run_alloc.proofs.Best.{widened_behind, clear_behind}
use Rattle.run_alloc.proofs.joins.join_behind.Goals as goal

pub overflow_add-result : goal.overflow_add-result
overflow_add-result c =
    omega (
      arith,
      c.in-Some.ensures.1,
      All-contains (λ (r : Run). r.at + r.len < 2 ^ 32) c.args.kept.now.runs
          c.in-Some.next (spread-ends c.args.kept.now.runs 0 (2 ^ 32) c.requires.spread) c.in-Some.ensures.0,
    )

pub returns-in-Some-clause-widened : goal.returns-in-Some-clause-widened
returns-in-Some-clause-widened c = widened_behind c.args.kept.now.runs c.remove.new.self.runs c.args.run c.in-Some.next
    _ c.in-Some.ensures.0 c.remove.ensures.cut c.requires.spread c.remove.ensures.apart refl refl c.in-Some.ensures.1

pub returns-in-Some-clause-clear : goal.returns-in-Some-clause-clear
returns-in-Some-clause-clear c = clear_behind c.args.kept.now.runs c.remove.new.self.runs c.args.run c.in-Some.next _
    c.in-Some.ensures.0 c.remove.ensures.cut c.requires.spread c.remove.ensures.apart refl refl c.in-Some.ensures.1
    (All-removed (IsClear c.args.run) c.args.kept.now.runs c.remove.new.self.runs c.in-Some.next c.remove.ensures.adds
    c.requires.clear)
