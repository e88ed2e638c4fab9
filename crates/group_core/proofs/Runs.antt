-- A run goes on, and what is known of every run is known of its group.
use Rattle.std.proofs.Common.{◌≡◌, ◌≢◌, ◌++◌, [], ◌∷◌, AllPairs, refl, sym, ap, subst, ◌∙◌}
use Rattle.group_types.specs.Dimensions.{Dimensions}
use Rattle.group_types.specs.Names.{IsProcess}
use Rattle.group_types.specs.Shape.{IsShape}
use Rattle.group_types.specs.declared.process.ProcessId.{ProcessId}
use Rattle.group_calls.specs.Turns.{name_of}
use Rattle.group_calls.specs.declared.event.Event.{Event}
use Rattle.group_run.specs.Headline.{MayCome}
use Rattle.group_run.specs.History.{no_history}
use Rattle.group_run.specs.World.{World, opening, process_node, step}
use Rattle.law_moves.proofs.Runs.{world-from}
use Rattle.law_moves.proofs.Keeping.{members_always}
use Rattle.law_answers.specs.Numbers.{NumbersAreLow}
use Rattle.law_answers.specs.Tickets.{TicketsStand}
use Rattle.law_answers.proofs.Entries.{after-more, entries_always, run-more}
use Rattle.law_answers.proofs.Numbers.{numbers_low_always}
use Rattle.law_answers.proofs.Tickets.{tickets_always}
use Rattle.group_core.specs.Runs.{HasRun}

pub begun : (s : Dimensions) → IsShape s → HasRun (opening s)
begun s limits = record { events = []; run = (limits, tt); is = refl }

pub goes-on : (w : World) (e : Event) → HasRun w → MayCome w e → HasRun (step w e).world
goes-on w e has may = record {
  events = has.events ++ e ∷ [];
  run = (has.run.0, run-more (opening w.shape) has.events e has.run.1 (subst (λ (v : World). MayCome v e) has.is may));
  is = ap (λ (v : World). (step v e).world) has.is ∙ sym (after-more (opening w.shape) has.events e);
}

pub numbers-low : (w : World) → HasRun w → NumbersAreLow w
numbers-low w has = subst NumbersAreLow (sym has.is) (numbers_low_always w.shape has.events has.run)

pub tickets-stand : (w : World) → HasRun w → TicketsStand w
tickets-stand w has = subst TicketsStand (sym has.is) (tickets_always w.shape has.events has.run)

pub entries-differ : (w : World) (e : Event) → HasRun w → MayCome w e → AllPairs (λ a b. name_of a ≢ name_of b) (step w e).turn.logged
entries-differ w e has may = subst (λ (v : World). AllPairs (λ a b. name_of a ≢ name_of b) (step v e).turn.logged) (sym has.is)
    (entries_always w.shape has.events e has.run (subst (λ (v : World). MayCome v e) has.is may))

-- each node is that of its process
abbrev pub AreNamed : Dimensions → World → Type 0
AreNamed s w = (p : ProcessId) → IsProcess s p → (process_node w p).process.name ≡ p

pub named : (w : World) → HasRun w → AreNamed w.shape w
named w has = subst (AreNamed w.shape) (world-from (no_history w.shape) has.events ∙ sym has.is)
    (λ p pin. (members_always w.shape has.events has.run).named p pin)
