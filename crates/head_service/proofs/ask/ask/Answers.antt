use Rattle.std.proofs.Common.{ℕ, subst}
use Rattle.group_types.specs.Dimensions.{space_of}
use Rattle.group_calls.specs.declared.decision.Decision.{Decision}
use Rattle.group_run.specs.Deciding.{decide}
use Rattle.head_service.specs.Beneath.{found_by}
use Rattle.head_service.specs.Paging.{DecisionMisses}
use Rattle.head_service.specs.Storage.{MakesReady}
use Rattle.head_service.proofs.ask.ask.Goals as goal

pub returns-clause-makes : goal.returns-clause-makes
returns-clause-makes g c =
    let makes : Decision → Type 0
    = λ d. MakesReady (DecisionMisses (g.B.Beneath.storage c.args.below.now).shape.block d)
    (g.B.Beneath.storage c.args.below.now) (g.B.Beneath.storage c.act.new.below) in
    subst (λ (n : ℕ). makes (decide (space_of c.args.replica.now.shape) n c.args.replica.now.replica c.args.op.now
    (found_by c.args.partition.0 (g.B.Beneath.storage c.args.below.now)))) c.inherited.ensures
    (subst makes c.in_ok-decision.ensures.decision c.act.ensures.makes)
