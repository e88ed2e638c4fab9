-- A relation of what a process was and what it is, which goes on from step to step, holds over many steps.
use Rattle.std.proofs.Common.{ℕ, Bool, true, false, List, [], ◌∷◌}
use Rattle.group_run.specs.Applying.{ProcessStep, for_each, when}
use Rattle.group_run.specs.Process.{Process}

module _ (Goes : Process → Process → Type 0) (self : (p : Process) → Goes p p) where
  -- where each step of a list makes it so
  pub goes-each : ((p q r : Process) → Goes p q → Goes q r → Goes p r) → (xs : List ℕ) (f : ℕ → Process → ProcessStep) (p : Process)
      → ((x : ℕ) (q : Process) → Goes q (f x q).process) → Goes p (for_each xs f p).process
  goes-each further [] f p all = self p
  goes-each further (x ∷ xs) f p all = further p (f x p).process (for_each xs f (f x p).process).process (all x p) (goes-each further xs f (f x p).process all)

  -- where a step is made or left out
  pub goes-when : (b : Bool) (p : Process) (step : ProcessStep) → Goes p step.process → Goes p (when b p step).process
  goes-when true p step goes = goes
  goes-when false p step goes = self p
