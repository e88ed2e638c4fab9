use Rattle.run_alloc.proofs.Best.{joined_by}
use Rattle.run_alloc.proofs.joins.join.Goals as goal

pub returns-clause-joined : goal.returns-clause-joined
returns-clause-joined c = joined_by c.args.kept.now.runs c.join_behind-run.new.kept.runs c.join_before-run.new.kept.runs
    _ c.args.run c.join_behind-run.result c.join_before-run.result c.join_behind-run.ensures.widened
    c.join_before-run.ensures.widened c.add.ensures.joined
