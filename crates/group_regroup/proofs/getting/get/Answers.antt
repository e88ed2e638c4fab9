use Rattle.std.proofs.Common.{◌≡◌, ℕ, List, subst}
use Rattle.std.specs.Prelude.{OnErr}
use Rattle.group_types.specs.declared.process.ProcessId.{ProcessId}
use Rattle.group_regroup.specs.Parts.{IsPart}
use Rattle.group_regroup.specs.Reading.{get_at, tried}
use Rattle.group_regroup.proofs.getting.get.Goals as goal

pub returns-clause-err : goal.returns-clause-err
returns-clause-err c =
    let same : c.in_ok-key.key ≡ c.args.key.now = c.in_ok-key.ensures.cases in
    subst (λ (p : ProcessId). OnErr c.ask_at.result
    (IsPart c.args.world.now (tried c.args.world.now (get_at c.args.key.now p)).events c.ask_at.new.world))
    c.head-at.ensures.head
    (subst (λ (key : List ℕ). OnErr c.ask_at.result
    (IsPart c.args.world.now (tried c.args.world.now (get_at key c.head-at.result)).events c.ask_at.new.world)) same
    c.ask_at.ensures.err)
