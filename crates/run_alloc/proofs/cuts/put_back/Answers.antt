use Rattle.run_alloc.proofs.Apart.{adds_cases}
use Rattle.run_alloc.proofs.cuts.put_back.Goals as goal

pub returns-then-run-gt0-clause-others : goal.returns-then-run-gt0-clause-others
returns-then-run-gt0-clause-others c other is = adds_cases c.args.kept.now.runs c.add.new.self.runs c.args.run other c.add.ensures.adds is
