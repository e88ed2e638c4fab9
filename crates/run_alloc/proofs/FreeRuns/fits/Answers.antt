use Rattle.run_alloc.proofs.Best.{place_in_set, no_place_in_set}
use Rattle.run_alloc.proofs.FreeRuns.fits.Goals as goal

pub returns-in_err-run : goal.returns-in_err-run
returns-in_err-run c = rw (c.from_residual.ensures, ← c.self.view_is)
    (no_place_in_set c.self.inside.kept.runs c.self.inside.size c.args.len c.self.invariant c.in_err-run.ensures)

pub returns : goal.returns
returns c = rw (← c.self.view_is) (place_in_set c.self.inside.kept.runs c.self.inside.size c.args.len c.in_ok-run.run' c.self.invariant c.in_ok-run.ensures)
