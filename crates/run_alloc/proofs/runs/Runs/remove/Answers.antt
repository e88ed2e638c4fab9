use Rattle.std.proofs.Common.{◌^◌}
use Rattle.run_alloc.proofs.Apart.{removed_apart, removed_cut}
use Rattle.run_alloc.proofs.Pairs.{paired_removed}
use Rattle.run_alloc.proofs.runs.Runs.remove.Goals as goal

pub invariant_of-self : goal.invariant_of-self
invariant_of-self c = paired_removed c.self.inside.by_address c.self.inside.by_length c.self.inside.spare
    c.self.invariant _ _ c.args.run c.remove.ensures.order c.remove-2.ensures.order c.remove.ensures.adds
    c.remove-2.ensures.adds
    c.remove.ensures.rises c.remove-2.ensures.rises c.remove.ensures.spare c.remove-2.ensures.spare

pub returns-clause-cut : goal.returns-clause-cut
returns-clause-cut c =
    rw (← c.self.view_is) (removed_cut c.self.inside.by_address.runs c.remove.new.self.runs c.args.run
    c.remove.ensures.adds c.self.invariant.spread)

pub returns-clause-apart : goal.returns-clause-apart
returns-clause-apart c = removed_apart c.self.inside.by_address.runs c.remove.new.self.runs c.args.run c.remove.ensures.adds (2 ^ 32) c.self.invariant.spread
