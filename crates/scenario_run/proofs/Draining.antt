-- The deliveries of a drain are a run, and each lightens the group: how many events a line makes.
use Rattle.std.proofs.Common.{ℕ, zero, suc, ◌≡◌, ◌≤◌, ◌<◌, ◌+◌, ◌^◌, Bool, true, false, List, [], ◌∷◌, length, Option}
use Rattle.std.proofs.Common.{Some, None, if◌then◌else◌, refl, sym, ap, subst, ◌∙◌, arith}
use Rattle.group_types.specs.Dimensions.{Dimensions}
use Rattle.group_types.specs.Lists.{at}
use Rattle.group_types.specs.Names.{IsProcess, index_of, process_at}
use Rattle.group_types.specs.declared.process.ProcessId.{ProcessId}
use Rattle.group_types.proofs.Lists.{at-replicate}
use Rattle.group_types.proofs.Names.{process_at-index}
use Rattle.group_message.specs.declared.message.Message.{Message}
use Rattle.group_calls.specs.declared.event.Answer.TheVariants as says
use Rattle.group_calls.specs.declared.event.Event.{Event}
use Rattle.group_calls.specs.declared.event.Event.TheVariants.{Deliver}
use Rattle.group_run.specs.Draining.{drain_events, next_delivery}
use Rattle.group_run.specs.Headline.{IsRunFrom, MayCome}
use Rattle.group_run.specs.Meaning.{IsDown}
use Rattle.group_run.specs.Progress.{load_of}
use Rattle.group_run.specs.Process.{Node}
use Rattle.group_run.specs.World.{World, opening, opening_node, step, world_after}
use Rattle.law_moves.specs.State.{State, state_from}
use Rattle.law_moves.proofs.Reading.{at-indices}
use Rattle.law_bytes.proofs.Tokens.{everyone}
use Rattle.law_bytes.proofs.Sums.{everyone-inside, sum-zero}
use Rattle.law_progress.specs.Drains.{NextComes}
use Rattle.law_progress.proofs.Drained.{ready-after, still-up}
use Rattle.law_progress.proofs.Loads.{load-is, on_way, way_from, weights}
use Rattle.law_progress.proofs.Rising.{rises-little}
use Rattle.law_progress.proofs.Whole.{next-comes}
use Rattle.law_progress.proofs.Always.{deliveries_lower}
use Rattle.group_run.specs.Causes.{IsDelivery}
use Rattle.group_run.specs.Shown.{is_down}
use Rattle.scenario_run.specs.Playing.{draining_unless_down}
use Rattle.scenario_run.proofs.Leading.{IsLedTo, led-step}
use Rattle.scenario_run.proofs.Truth.{up}

-- the events and the weight of a group
abbrev pub burden : World → ℕ
burden w = w.events + load_of w

-- what a line adds to it at most
abbrev pub line_burden : ℕ
line_burden = 2 ^ 18

-- the delivery that is next
pub record Lightens (w : World) (e : Event) : Type 0 where
  pub may : MayCome w e
  pub up : ¬ (IsDown (step w e).world)
  pub lower : load_of (step w e).world < load_of w

-- a drain
pub record Drains (w : World) (es : List Event) : Type 0 where
  pub run : IsRunFrom w es
  pub light : burden (world_after w es) ≤ burden w

module _ (s : Dimensions) where
  pub event-light : (w : World) (e : Event) → IsLedTo s w → MayCome w e → burden (step w e).world ≤ burden w + line_burden
  event-light w e led may =
      let rises : load_of (step w e).world ≤ load_of w + 131072
      = subst (λ (v : World). load_of (step v e).world ≤ load_of v + 131072) (sym led.is)
      (rises-little s led.events led.run e (subst (λ (v : World). MayCome v e) led.is may)) in
      omega (arith, rises)

  lower : (w : World) (e : Event) → IsLedTo s w → IsDelivery e → MayCome w e → (step w e).turn.answer ≡ says.Done → load_of (step w e).world < load_of w
  lower w (Deliver from to) led delivery may done =
      subst (λ (v : World). load_of (step v (Deliver from to)).world < load_of v) (sym led.is)
      (deliveries_lower s led.events led.run from to (subst (λ (v : World). MayCome v (Deliver from to)) led.is may)
      (subst (λ (v : World). (step v (Deliver from to)).turn.answer ≡ says.Done) led.is done))
  lower w e led delivery may done = absurd delivery

  stays-up : (w : World) (e : Event) → IsLedTo s w → IsDelivery e → MayCome w e → ¬ (IsDown w) → ¬ (IsDown (step w e).world)
  stays-up w (Deliver from to) led delivery may up = still-up w many from to may up where
    many : length w.nodes ≡ w.shape.k + w.shape.m
    many = subst (λ (v : World). length v.nodes ≡ v.shape.k + v.shape.m) (sym led.is) (ready-after s led.events led.run).many
  stays-up w e led delivery may up = absurd delivery

  coming : (w : World) (e : Event) → IsLedTo s w → ¬ (IsDown w) → next_delivery w ≡ Some e → NextComes w e
  coming w e led up is = subst (λ (v : World). NextComes v e) (sym led.is)
      (next-comes s led.events led.run (λ d. up (subst IsDown (sym led.is) d)) e (subst (λ (v : World). next_delivery v ≡ Some e) led.is is))

  pub next-delivers : (w : World) (e : Event) → IsLedTo s w → ¬ (IsDown w) → next_delivery w ≡ Some e → IsDelivery e
  next-delivers w e led up is = (coming w e led up is).delivery

  pub lightens : (w : World) (e : Event) → IsLedTo s w → ¬ (IsDown w) → next_delivery w ≡ Some e → Lightens w e
  lightens w e led up is =
      let comes : NextComes w e = coming w e led up is in
      record {
        may = comes.may;
        up = stays-up w e led comes.delivery comes.may up;
        lower = lower w e led comes.delivery comes.may comes.done;
      }

  -- the deliveries behind the next one
  abbrev pub behind : ℕ → World → Option Event → List Event
  behind n w None = []
  behind n w (Some e) = e ∷ drain_events n (step w e).world

  pub drained-by : (n : ℕ) (w : World) → IsLedTo s w → ¬ (IsDown w) → Drains w (drain_events n w)
  drained-by zero w led up = record { run = tt; light = omega arith }
  drained-by (suc n) w led up = by (next_delivery w) refl (λ v. drained-by n v) where
    by : (next : Option Event) → next_delivery w ≡ next → ((v : World) → IsLedTo s v → ¬ (IsDown v) → Drains v (drain_events n v)) → Drains w (behind n w next)
    by None is later = record { run = tt; light = omega arith }
    by (Some e) is later =
        let one = lightens w e led up is in
        let rest = later (step w e).world (led-step s w e led one.may) one.up in
        record { run = (one.may, rest.run); light = let light = rest.light in let less = one.lower in omega (arith, light, less) }

  pub drains : (w : World) → IsLedTo s w → Drains w (draining_unless_down w)
  drains w led = by (is_down w) refl where
    by : (b : Bool) → is_down w ≡ b → Drains w (if b then [] else drain_events (load_of w) w)
    by true is = record { run = tt; light = omega arith }
    by false is = drained-by (load_of w) w led (up w is)

-- nothing is on its way at the start
pub load-opening : (s : Dimensions) → load_of (opening s) ≡ 0
load-opening s = load-is (opening s) ∙ sum-zero (everyone s) (way_from s v)
    (λ p there. sum-zero (everyone s) (on_way v p) (λ q here. quiet p q (everyone-inside s p there))) where
      v : State
      v = state_from s (opening s).nodes []

      silent : (p q : ProcessId) → IsProcess s p → v.link p q ≡ []
      silent p q pin =
          ap (λ (n : Node). at [] n.links (index_of s q))
          (at-indices s (opening_node s p) (λ x. opening_node s (process_at s x)) p pin
          ∙ ap (opening_node s) (process_at-index s p pin))
          ∙ at-replicate [] (s.k + s.m) (index_of s q)

      quiet : (p q : ProcessId) → IsProcess s p → on_way v p q ≡ 0
      quiet p q pin = quiet-is where
        by : (b : Bool) → (if b then 0 else weights []) ≡ 0
        by true = refl
        by false = refl

        quiet-is : on_way v p q ≡ 0
        quiet-is = ap (λ (link : List Message). if v.dead q then 0 else weights link) (silent p q pin) ∙ by (v.dead q)
