-- The events of a drain are deliveries.
use Rattle.std.proofs.Common.{◌≡◌, ◌+◌, ℕ, zero, suc, Bool, true, false, List, [], ◌∷◌, Option, Some, None, if◌then◌else◌, refl, subst, ◌∙◌}
use Rattle.std.proofs.lemmas.List.Elements.{All-cons, All-nil}
use Rattle.std.specs.List.{range_with_len}
use Rattle.std.specs.Prelude.{All}
use Rattle.group_types.specs.Names.{process_at}
use Rattle.group_calls.specs.declared.event.Event.{Event}
use Rattle.group_calls.specs.declared.event.Event.TheVariants as happens
use Rattle.group_run.specs.Draining.{drain_events, event_or, next_among, next_delivery, next_from, next_target}
use Rattle.group_run.specs.Progress.{load_of}
use Rattle.group_run.specs.Shown.{is_down}
use Rattle.group_run.specs.World.{World, step}
use Rattle.group_run.specs.Causes.{IsDelivery}
use Rattle.scenario_run.specs.Playing.{draining_unless_down}

from-delivers : (w : World) (x : ℕ) (o : Option ℕ) (e : Event) → next_from w x o ≡ Some e → IsDelivery e
from-delivers w x None e is = cc is
from-delivers w x (Some y) e is = let same : happens.Deliver (process_at w.shape x) (process_at w.shape y) ≡ e = cc is in subst IsDelivery same tt

among-delivers : (w : World) (xs : List ℕ) (e : Event) → next_among w xs ≡ Some e → IsDelivery e
among-delivers w [] e is = cc is
among-delivers w (x ∷ xs) e is = by (next_from w x (next_target w x (range_with_len 0 (w.shape.k + w.shape.m)))) refl is (among-delivers w xs e)
  where
    by : (o : Option Event) → next_from w x (next_target w x (range_with_len 0 (w.shape.k + w.shape.m))) ≡ o → event_or o (next_among w xs) ≡ Some e
        → (next_among w xs ≡ Some e → IsDelivery e) → IsDelivery e
    by None none there later = later there
    by (Some f) some here later = from-delivers w x (next_target w x (range_with_len 0 (w.shape.k + w.shape.m))) e (some ∙ here)

-- the events of a drain from this one on
abbrev drained_from : ℕ → World → Option Event → List Event
drained_from n w o = elim o [ None ↦ [] | Some e ↦ e ∷ drain_events n (step w e).world ]

drain-delivers : (n : ℕ) (w : World) → All IsDelivery (drain_events n w)
drain-delivers zero w = All-nil IsDelivery
drain-delivers (suc n) w = by (next_delivery w) refl (λ v. drain-delivers n v)
  where
    by : (o : Option Event) → next_delivery w ≡ o → ((v : World) → All IsDelivery (drain_events n v)) → All IsDelivery (drained_from n w o)
    by None none later = All-nil IsDelivery
    by (Some e) some later = All-cons IsDelivery e (drain_events n (step w e).world) (among-delivers w (range_with_len 0 (w.shape.k + w.shape.m)) e some)
        (later (step w e).world)

pub draining-delivers : (w : World) → All IsDelivery (draining_unless_down w)
draining-delivers w = by (is_down w)
  where
    by : (b : Bool) → All IsDelivery (if b then [] else drain_events (load_of w) w)
    by true = All-nil IsDelivery
    by false = drain-delivers (load_of w) w
