-- Runs of the machine, one behind the other.
use Rattle.std.proofs.Common.{◌≡◌, List, [], ◌∷◌, ◌++◌, refl, sym, ap, subst, ◌∙◌, append-nil, append_assoc}
use Rattle.group_types.specs.Dimensions.{Dimensions}
use Rattle.group_types.specs.Shape.{IsShape}
use Rattle.group_calls.specs.Turns.{Turn, log_of}
use Rattle.group_calls.specs.declared.entry.Entry.{Entry}
use Rattle.group_calls.specs.declared.event.Event.{Event}
use Rattle.group_run.specs.Headline.{IsRun, IsRunFrom, MayCome}
use Rattle.group_run.specs.World as machine
use Rattle.group_run.specs.World.{World, after, opening, step, world_after}
use Rattle.law_moves.proofs.Reading.{grown-is}

-- events that lead from one group to another
pub record Leads (w v : World) (turns : List Turn) : Type 0 where
  pub events : List Event
  pub run : IsRunFrom w events
  pub turns_are : machine.turns_from w events ≡ turns
  pub to : world_after w events ≡ v

-- the group that a run led to
pub record IsLedTo (s : Dimensions) (w : World) : Type 0 where
  pub events : List Event
  pub run : IsRun s events
  pub is : w ≡ after s events

pub opened : (s : Dimensions) → IsShape s → IsLedTo s (opening s)
opened s limits = record { events = []; run = (limits, tt); is = refl }

-- runs, one behind the other
run-append : (w : World) (es fs : List Event) → IsRunFrom w es → IsRunFrom (world_after w es) fs → IsRunFrom w (es ++ fs)
run-append w [] fs run more = more
run-append w (e ∷ es) fs run more = (run.0, run-append (step w e).world es fs run.1 more)

turns-append : (w : World) (es fs : List Event) → machine.turns_from w (es ++ fs) ≡ machine.turns_from w es ++ machine.turns_from (world_after w es) fs
turns-append w [] fs = refl
turns-append w (e ∷ es) fs = ap (λ (ts : List Turn). (step w e).turn ∷ ts) (turns-append (step w e).world es fs)

after-append : (w : World) (es fs : List Event) → world_after w (es ++ fs) ≡ world_after (world_after w es) fs
after-append w [] fs = refl
after-append w (e ∷ es) fs = after-append (step w e).world es fs

pub leads-then : (u v w : World) (ts us : List Turn) → Leads u v ts → Leads v w us → Leads u w (ts ++ us)
leads-then u v w ts us first then = record {
  events = first.events ++ then.events;
  run = run-append u first.events then.events first.run (subst (λ (x : World). IsRunFrom x then.events) (sym first.to) then.run);
  turns_are = turns-append u first.events then.events
      ∙ ap (λ (xs : List Turn). xs ++ machine.turns_from (world_after u first.events) then.events) first.turns_are
      ∙ ap (λ (xs : List Turn). ts ++ xs) (ap (λ (x : World). machine.turns_from x then.events) first.to ∙ then.turns_are);
  to = after-append u first.events then.events ∙ ap (λ (x : World). world_after x then.events) first.to ∙ then.to;
}

-- a group that a run led to, after a run from there
pub led-on : (s : Dimensions) (w v : World) (ts : List Turn) → IsLedTo s w → Leads w v ts → IsLedTo s v
led-on s w v ts led leads = record {
  events = led.events ++ leads.events;
  run = (led.run.0, run-append (opening s) led.events leads.events led.run.1 (subst (λ (x : World). IsRunFrom x leads.events) led.is leads.run));
  is = sym leads.to ∙ ap (λ (x : World). world_after x leads.events) led.is ∙ sym (after-append (opening s) led.events leads.events);
}

-- the group keeps its shape
pub keeps-shape : (w : World) (es : List Event) → (world_after w es).shape ≡ w.shape
keeps-shape w [] = refl
keeps-shape w (e ∷ es) = keeps-shape (step w e).world es

pub led-shape : (s : Dimensions) (w : World) → IsLedTo s w → w.shape ≡ s
led-shape s w led = ap (λ (x : World). x.shape) led.is ∙ keeps-shape (opening s) led.events

pub led-step : (s : Dimensions) (w : World) (e : Event) → IsLedTo s w → MayCome w e → IsLedTo s (step w e).world
led-step s w e led may = led-on s w (step w e).world ((step w e).turn ∷ []) led (record { events = e ∷ []; run = (may, tt); turns_are = refl; to = refl })

-- the log after a run
pub log-after : (w : World) (es : List Event) → (world_after w es).log ≡ w.log ++ log_of (machine.turns_from w es)
log-after w [] = sym (append-nil w.log)
log-after w (e ∷ es) =
    let logged : List Entry = (step w e).turn.logged in
    log-after (step w e).world es ∙ ap (λ (xs : List Entry). xs ++ log_of (machine.turns_from (step w e).world es)) (grown-is w.log logged)
    ∙ append_assoc w.log logged (log_of (machine.turns_from (step w e).world es))

pub leads-log : (w v : World) (turns : List Turn) → Leads w v turns → v.log ≡ w.log ++ log_of turns
leads-log w v turns leads =
    ap (λ (x : World). x.log) (sym leads.to) ∙ log-after w leads.events ∙ ap (λ (ts : List Turn). w.log ++ log_of ts) leads.turns_are
