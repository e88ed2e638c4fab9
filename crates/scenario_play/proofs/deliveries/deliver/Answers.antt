use Rattle.std.proofs.Common.{◌≡◌, ◌++◌, ℕ, List, OnOk, codes, subst}
use Rattle.group_calls.specs.declared.entry.Entry.{Entry}
use Rattle.group_calls.specs.declared.event.Event.TheVariants.{Deliver}
use Rattle.group_run.specs.World.{step}
use Rattle.scenario_run.specs.Marks.{marked_entries}
use Rattle.scenario_play.proofs.Delivering.{last-of, marked-plain}
use Rattle.scenario_play.proofs.deliveries.deliver.Goals as goal

pub returns-clause-text : goal.returns-clause-text
returns-clause-text c =
    subst (λ (xs : List ℕ). OnOk c.write_last.result (c.write_last.new.text.items ≡ c.args.text.now.items ++ xs))
    (marked-plain (step c.args.world.now (Deliver c.args.from c.args.to)).turn.logged)
    (subst (λ (xs : List Entry). OnOk c.write_last.result (c.write_last.new.text.items ≡ c.args.text.now.items ++ marked_entries (codes "= ") xs))
    (last-of c.args.world.now (Deliver c.args.from c.args.to) c.make_event.new.world c.log.result.now
    c.in_ok-out.out.logged c.log.ensures.log c.in_ok-out.ensures.world c.in_ok-out.ensures.logged)
    c.write_last.ensures)
