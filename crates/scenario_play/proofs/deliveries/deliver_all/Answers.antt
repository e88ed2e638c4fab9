use Rattle.std.proofs.Common.{ℕ, ◌<◌, ◌+◌, List, sym, subst}
use Rattle.group_calls.specs.declared.event.Event.TheVariants.{Deliver}
use Rattle.group_run.specs.Progress.{load_of}
use Rattle.group_run.specs.World.{World, step}
use Rattle.scenario_play.proofs.Delivering.{Delivered, Delivered-more, all-counted, all-delivered, all-written, next-lightens}
use Rattle.scenario_play.proofs.deliveries.deliver_all.Goals as goal

pub deliver-requires-clause-may : goal.deliver-requires-clause-may
deliver-requires-clause-may c =
    (next-lightens c.args.world.now c.deliveries.world c.args.text.now.items c.deliveries.text.items c.deliveries.count
    c.deliveries.invariant (Deliver c.in-Some.from c.in-Some.to) (sym c.in-Some.ensures)).may

pub deliveries-smaller : goal.deliveries-smaller
deliveries-smaller c =
    let v : World = c.deliveries.world in
    subst (λ (x : World). load_of x < load_of v) (sym c.in_ok-deliver.ensures.world)
    (next-lightens c.args.world.now v c.args.text.now.items c.deliveries.text.items c.deliveries.count
    c.deliveries.invariant (Deliver c.in-Some.from c.in-Some.to) (sym c.in-Some.ensures)).lower

pub deliveries-preserved : goal.deliveries-preserved
deliveries-preserved c =
    let w : World = c.args.world.now in
    let before : List ℕ = c.args.text.now.items in
    subst (λ (x : World). Delivered w x before c.deliver.new.text.items (c.deliveries.count + 1)) (sym c.in_ok-deliver.ensures.world)
    (subst (λ (xs : List ℕ). Delivered w (step c.deliveries.world (Deliver c.in-Some.from c.in-Some.to)).world before xs
    (c.deliveries.count + 1)) (sym c.in_ok-deliver.ensures.text)
    (Delivered-more w c.deliveries.world before c.deliveries.text.items c.deliveries.count c.deliveries.invariant
    (Deliver c.in-Some.from c.in-Some.to) (sym c.in-Some.ensures)))

pub returns-clause-world : goal.returns-clause-world
returns-clause-world c = all-delivered c.args.world.now c.deliveries.world c.args.text.now.items c.deliveries.text.items
    c.deliveries.count c.deliveries.invariant (sym c.in_default.ensures)

pub returns-clause-text : goal.returns-clause-text
returns-clause-text c = all-written c.args.world.now c.deliveries.world c.args.text.now.items c.deliveries.text.items
    c.deliveries.count c.deliveries.invariant (sym c.in_default.ensures)

pub returns-clause-count : goal.returns-clause-count
returns-clause-count c = all-counted c.args.world.now c.deliveries.world c.args.text.now.items c.deliveries.text.items
    c.deliveries.count c.deliveries.invariant (sym c.in_default.ensures)
