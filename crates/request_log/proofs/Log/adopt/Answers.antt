use Rattle.std.proofs.Common.{◌≡◌, ℕ, ◌+◌, ◌-◌, drop, subst, arith}
use Rattle.request_log.specs.Logged.{IsNumbered}
use Rattle.request_log.proofs.Numbered.{numbered_drop}
use Rattle.request_log.proofs.Log.adopt.Goals as goal

-- what is kept begins above the applied number
pub invariant_of-self : goal.invariant_of-self
invariant_of-self g c =
    let applied = rw (← c.self.view_is) at c.requires.reach in
    let above : c.args.base + (c.applied.counter - c.args.base) ≡ c.self.inside.applied = omega (arith, rw (← c.self.view_is) at c.requires.base) in
    let kept = numbered_drop g.N.Numbering.number_of (c.applied.counter - c.args.base) c.args.base c.args.list c.requires.numbers (omega (arith, applied)) in
    rw c.replace.ensures.after (
      omega arith,
      rw c.applied.invariant (subst (λ (n : ℕ). IsNumbered g.N.Numbering.number_of n (drop (c.applied.counter - c.args.base) c.args.list)) above kept),
    )
