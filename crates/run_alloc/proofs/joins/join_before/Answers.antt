use Rattle.std.proofs.Common.{◌≢◌, ◌+◌, refl}
use Rattle.run_alloc.specs.declared.order.Run.{Run}
use Rattle.run_alloc.specs.Runs.{IsClear}
use Rattle.run_alloc.proofs.Apart.{All-removed}
use Rattle.run_alloc.proofs.Best.{widened_before, apart_before}
use Rattle.run_alloc.proofs.joins.join_before.Goals as goal

pub returns-in-Some-clause-widened : goal.returns-in-Some-clause-widened
returns-in-Some-clause-widened c = widened_before c.args.kept.now.runs c.remove.new.self.runs c.args.run c.in-Some.last
    _ c.in-Some.ensures.0 c.remove.ensures.cut c.requires.spread c.remove.ensures.apart refl refl c.in-Some.ensures.1

pub returns-in-Some-clause-apart : goal.returns-in-Some-clause-apart
returns-in-Some-clause-apart c = apart_before c.args.kept.now.runs c.remove.new.self.runs c.args.run c.in-Some.last _
    c.in-Some.ensures.0 c.remove.ensures.cut c.requires.spread c.remove.ensures.apart refl refl c.in-Some.ensures.1
    (All-removed (IsClear c.args.run) c.args.kept.now.runs c.remove.new.self.runs c.in-Some.last c.remove.ensures.adds
    c.requires.clear)
    (All-removed (λ (r : Run). r.at ≢ c.args.run.at + c.args.run.len) c.args.kept.now.runs c.remove.new.self.runs
    c.in-Some.last c.remove.ensures.adds c.requires.behind)
