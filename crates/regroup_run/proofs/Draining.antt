-- The deliveries of a drain may be made.
use Rattle.std.proofs.Common.{ℕ, zero, suc, ◌≡◌, Bool, true, false, List, [], ◌∷◌, Option, Some, None, if◌then◌else◌, refl, sym, ap, subst, ◌∙◌}
use Rattle.group_types.specs.Dimensions.{Dimensions}
use Rattle.group_calls.specs.declared.event.Event.{Event}
use Rattle.group_calls.specs.declared.event.Event.TheVariants.{Deliver}
use Rattle.group_run.specs.Draining.{drain_events, next_delivery}
use Rattle.group_run.specs.Headline.{MayCome}
use Rattle.group_run.specs.Meaning.{IsDown}
use Rattle.group_run.specs.Progress.{load_of}
use Rattle.group_run.specs.Shown.{is_down}
use Rattle.group_run.specs.World.{World, step}
use Rattle.group_run.specs.Causes.{IsDelivery}
use Rattle.scenario_run.specs.Playing.{draining_unless_down}
use Rattle.scenario_run.proofs.Draining.{Lightens, lightens, next-delivers}
use Rattle.scenario_run.proofs.Leading.{IsLedTo, led-step}
use Rattle.scenario_run.proofs.Truth.{up}
use Rattle.group_eras.specs.Eras.{Eras, MayMake, era_step}
use Rattle.regroup_run.proofs.Leading.{MayAllMake}

-- a delivery is made as it was asked
delivers : (e : Eras) (x : Event) → IsDelivery x → MayCome e.world x → MayMake e x × ((era_step e x).eras.world ≡ (step e.world x).world)
delivers e (Deliver from to) delivery may = (record { may = may; others = tt; range = tt }, refl)
delivers e another delivery may = absurd delivery

abbrev behind : ℕ → World → Option Event → List Event
behind n w None = []
behind n w (Some e) = e ∷ drain_events n (step w e).world

module _ (s : Dimensions) where
  drained-by : (n : ℕ) (e : Eras) (w : World) → e.world ≡ w → IsLedTo s w → ¬ (IsDown w) → MayAllMake e (drain_events n w)
  drained-by zero e w same led up = tt
  drained-by (suc n) e w same led up = by (next_delivery w) refl (λ f v. drained-by n f v) where
    by : (next : Option Event) → next_delivery w ≡ next
        → ((f : Eras) (v : World) → f.world ≡ v → IsLedTo s v → ¬ (IsDown v) → MayAllMake f (drain_events n v))
        → MayAllMake e (behind n w next)
    by None is later = tt
    by (Some x) is later =
        let one : Lightens w x = lightens s w x led up is in
        let makes = delivers e x (next-delivers s w x led up is) (subst (λ (v : World). MayCome v x) (sym same) one.may) in
        (makes.0, later (era_step e x).eras (step w x).world (makes.1 ∙ ap (λ (v : World). (step v x).world) same) (led-step s w x led one.may) one.up)

  pub drains : (e : Eras) → IsLedTo s e.world → MayAllMake e (draining_unless_down e.world)
  drains e led = by (is_down e.world) refl where
    by : (b : Bool) → is_down e.world ≡ b → MayAllMake e (if b then [] else drain_events (load_of e.world) e.world)
    by true is = tt
    by false is = drained-by (load_of e.world) e e.world refl led (up e.world is)
