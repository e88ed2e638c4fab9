use Rattle.std.proofs.Common.{ℕ, ◌<◌, not, List, [], ◌∷◌, refl, sym, ap, ◌∙◌, arith}
use Rattle.group_types.specs.declared.process.ProcessId.TheVariants.{ParityNode}
use Rattle.membership.specs.Members.{knows_dead}
use Rattle.leader_role.specs.Starting.{living_parity}
use Rattle.leader_role.proofs.Ranges.{added, skipped}
use Rattle.leader_role.proofs.rows.living_parity.Goals as goal

pub parities-preserved-then-is_dead : goal.parities-preserved-then-is_dead
parities-preserved-then-is_dead c =
    let within : c.parities.i < c.args.shape.m = omega (arith, c.parities-test.true, c.m-i-end.ensures.value) in
    skipped (λ (i : ℕ). not (knows_dead c.args.known.now (ParityNode i))) c.args.shape.m c.parities.i within
    (λ (is : List ℕ). is) c.parities.living.items (living_parity c.args.shape c.args.known.now)
    (ap not (sym c.is_dead.ensures ∙ c.if-is_dead.true)) c.parities.invariant

pub parities-preserved : goal.parities-preserved
parities-preserved c =
    let within : c.parities.i < c.args.shape.m = omega (arith, c.parities-test.true, c.m-i-end.ensures.value) in
    added (λ (i : ℕ). not (knows_dead c.args.known.now (ParityNode i))) c.args.shape.m c.parities.i within
    (λ (is : List ℕ). is) c.parities.living.items c.push.new.self.items (c.parities.i ∷ []) (living_parity c.args.shape c.args.known.now)
    (ap not (sym c.is_dead.ensures ∙ c.if-is_dead.false)) c.in_ok-push.ensures.items refl c.parities.invariant
