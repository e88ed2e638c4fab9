use Rattle.std.proofs.Common.{◌^◌, ap, subst, sym, ◌∙◌, arith}
use Rattle.std.specs.List.{All}
use Rattle.run_alloc.specs.declared.order.Order.{Order}
use Rattle.run_alloc.specs.Order.{order_key}
use Rattle.run_alloc.specs.Kept.{KeptRuns}
use Rattle.run_alloc.specs.Runs.{IsApart}
use Rattle.run_alloc.specs.Shelves.{Rises}
use Rattle.run_alloc.proofs.Apart.{added_spread, added_joined}
use Rattle.run_alloc.proofs.Pairs.{fresh_by_length, paired_added}
use Rattle.run_alloc.proofs.runs.Runs.add.Goals as goal

pub insert-requires-2-clause-fresh : goal.insert-requires-2-clause-fresh
insert-requires-2-clause-fresh c =
    let apart = subst (λ (k : KeptRuns). All (IsApart c.args.run) k.runs) (sym c.self.view_is) c.requires.apart in
    fresh_by_length c.self.inside.by_address c.self.inside.by_length c.self.inside.spare c.self.invariant c.args.run apart c.requires.inside

pub invariant_of-self : goal.invariant_of-self
invariant_of-self c =
    let apart = subst (λ (k : KeptRuns). All (IsApart c.args.run) k.runs) (sym c.self.view_is) c.requires.apart in
    let rises = subst (λ (o : Order). Rises (order_key o) 0 c.insert.new.self.runs (2 ^ 64))
    (c.insert.ensures.order ∙ c.self.invariant.by_address) c.insert.ensures.rises in
    let spread = added_spread c.self.inside.by_address.runs c.insert.new.self.runs c.args.run (2 ^ 64) (2 ^ 32)
    c.insert.ensures.adds c.self.invariant.spread apart rises c.requires.some c.requires.inside in
    paired_added c.self.inside.by_address c.self.inside.by_length c.self.inside.spare c.self.invariant c.args.run apart
    c.requires.inside _ _ _ c.insert.ensures.order c.insert-2.ensures.order c.insert.ensures.adds
    c.insert-2.ensures.adds spread c.insert.ensures.spare c.insert-2.ensures.spare
    (omega (arith, c.requires.room, ap (λ (k : KeptRuns). k.spare) c.self.view_is))

pub returns-clause-joined : goal.returns-clause-joined
returns-clause-joined c =
    let apart = subst (λ (k : KeptRuns). All (IsApart c.args.run) k.runs) (sym c.self.view_is) c.requires.apart in
    let rises = subst (λ (o : Order). Rises (order_key o) 0 c.insert.new.self.runs (2 ^ 64))
    (c.insert.ensures.order ∙ c.self.invariant.by_address) c.insert.ensures.rises in
    rw (← c.self.view_is) (added_joined c.self.inside.by_address.runs c.insert.new.self.runs c.args.run (2 ^ 64)
    c.insert.ensures.adds apart rises c.requires.some)
