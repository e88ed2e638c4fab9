use Rattle.std.proofs.Common.{ℕ, ◌≡◌, ◌==◌, sym, ap, ◌∙◌, arith}
use Rattle.std.proofs.lemmas.Grind.{common_steps}
use Rattle.process_service.specs.Standing.{is_under}
use Rattle.process_service.proofs.Lent.{HasPlace, head-at}
use Rattle.process_service.proofs.service.Service.heads_under.Goals as goal

turned : (x y : ℕ) → (x == y) ≡ (y == x)
turned x y = grind (arith, common_steps)

pub returns-in-None : goal.returns-in-None
returns-in-None c =
    let place : HasPlace c.self.inside c.args.self.now c.args.partition.0 = record { view = c.self.view_is; kept = c.self.invariant; below = c.requires } in
    sym (ap (is_under c.args.rank.0) (head-at place c.index.result.now c.index.ensures ∙ c.in-None.is))

pub returns-in-Some : goal.returns-in-Some
returns-in-Some c =
    let place : HasPlace c.self.inside c.args.self.now c.args.partition.0 = record { view = c.self.view_is; kept = c.self.invariant; below = c.requires } in
    c.eq.ensures ∙ ap (λ (x : ℕ). x == c.args.rank.0) c.rank.ensures ∙ turned c.in-Some.head.rank c.args.rank.0
    ∙ sym (ap (is_under c.args.rank.0) (head-at place c.index.result.now c.index.ensures ∙ c.in-Some.is))
