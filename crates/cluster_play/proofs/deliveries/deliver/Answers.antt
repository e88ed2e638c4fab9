use Rattle.std.proofs.Common.{ℕ, ◌≡◌, ◌-◌, ◌++◌, List, OnOk, drop, length, ap, subst, ◌∙◌}
use Rattle.group_calls.specs.declared.event.Event.TheVariants.{Deliver}
use Rattle.group_run.specs.World.{World}
use Rattle.scenario_run.specs.Marks.{marked_entries}
use Rattle.cluster_play.proofs.Logged.{Last, last-in}
use Rattle.cluster_play.proofs.Ready.{there-after}
use Rattle.cluster_play.proofs.deliveries.deliver.Goals as goal

pub world-requires : goal.world-requires
world-requires c = there-after c.args.cluster.now c.args.group (Deliver c.args.from c.args.to) c.make_event.new.cluster
    c.in_ok-out.ensures.cluster c.requires.may.0.0

pub write_last-requires : goal.write_last-requires
write_last-requires c =
    (last-in c.args.cluster.now c.args.group (Deliver c.args.from c.args.to) c.make_event.new.cluster c.log.result.now
    c.logged_by-logged.result c.in_ok-out.ensures.cluster
    (c.log.ensures.log ∙ ap (λ (w : World). w.log) c.world.ensures) (c.logged_by-logged.ensures
    ∙ c.in_ok-out.ensures.logged)).few

pub returns-clause-text : goal.returns-clause-text
returns-clause-text c =
    let last : Last c.args.cluster.now c.args.group (Deliver c.args.from c.args.to) c.log.result.now c.logged_by-logged.result
    = last-in c.args.cluster.now c.args.group (Deliver c.args.from c.args.to) c.make_event.new.cluster c.log.result.now
    c.logged_by-logged.result c.in_ok-out.ensures.cluster
    (c.log.ensures.log ∙ ap (λ (w : World). w.log) c.world.ensures) (c.logged_by-logged.ensures
    ∙ c.in_ok-out.ensures.logged) in
    subst (λ (xs : List ℕ). OnOk c.write_last.result (c.write_last.new.text.items ≡ c.args.text.now.items ++ xs)) last.text
    (subst (λ (mark : List ℕ). OnOk c.write_last.result (c.write_last.new.text.items ≡ c.args.text.now.items
    ++ marked_entries mark (drop (length c.log.result.now - c.logged_by-logged.result) c.log.result.now)))
    c.requires.mark c.write_last.ensures)
