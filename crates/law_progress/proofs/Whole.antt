-- As many deliveries as the weight, each the next, leave no message on its way.
use Rattle.std.proofs.Common.{ℕ, zero, suc, ◌≡◌, ◌<◌, ◌≤◌, List, [], ◌∷◌, Option, Some, None, arith, refl}
use Rattle.group_types.specs.declared.process.ProcessId.{ProcessId}
use Rattle.group_types.specs.Dimensions.{Dimensions}
use Rattle.group_calls.specs.declared.event.Event.{Event}
use Rattle.group_calls.specs.declared.event.Event.TheVariants.{Ask, Collect, Deliver, Fail, Flush, Trace}
use Rattle.group_run.specs.Draining.{drain_events, next_delivery}
use Rattle.group_run.specs.Headline.{IsRun, IsRunFrom}
use Rattle.group_run.specs.Meaning.{IsDown, Lives, link}
use Rattle.group_run.specs.Progress.{load_of}
use Rattle.group_run.specs.World.{World, after, opening, step, world_after}
use Rattle.law_progress.specs.Drains.{DrainsWholeAlways, NextComes, NextComesAlways}
use Rattle.law_progress.proofs.Alone.{alone-after}
use Rattle.law_progress.proofs.Drained.{Ready, ready-after, still-up}
use Rattle.law_progress.proofs.Next.{next-of}

-- what is asked of a group at every moment: that it is ready, and that nobody has a message for itself
record Drainable (w : World) : Type 0 where
  ready : Ready w
  alone : (p : ProcessId) → Lives w p → link w p p ≡ []

drainable-after : (s : Dimensions) (es : List Event) → IsRun s es → Drainable (after s es)
drainable-after s es run = record { ready = ready-after s es run; alone = alone-after s es run }

next-in : (w : World) → Drainable w → ¬ (IsDown w) → (e : Event) → next_delivery w ≡ Some e → NextComes w e
next-in w drainable up e found = next-of w drainable.ready.words up drainable.alone e found

pub next-comes : NextComesAlways
next-comes s es run up e found = next-in (after s es) (drainable-after s es run) up e found

-- the delivery that is next lowers the weight, and no process dies of it
lowers : (w : World) → Ready w → ¬ (IsDown w) → (e : Event) → NextComes w e → (load_of (step w e).world < load_of w) × (¬ (IsDown (step w e).world))
lowers w ready up (Deliver from to) comes = (ready.lowers from to comes.may comes.done, still-up w ready.many from to comes.may up)
lowers w ready up (Ask caller op p) comes = absurd comes.delivery
lowers w ready up (Collect caller call p) comes = absurd comes.delivery
lowers w ready up (Fail p keep) comes = absurd comes.delivery
lowers w ready up (Flush p) comes = absurd comes.delivery
lowers w ready up (Trace caller call d p) comes = absurd comes.delivery

whole : (n : ℕ) (w : World) → ((gs : List Event) → IsRunFrom w gs → Drainable (world_after w gs)) → ¬ (IsDown w)
    → load_of w ≤ n → next_delivery (world_after w (drain_events n w)) ≡ None
whole zero w always up most = by (next_delivery w) refl where
  by : (o : Option Event) → next_delivery w ≡ o → next_delivery w ≡ None
  by None is = is
  by (Some e) is = let less = (lowers w (always [] tt).ready up e (next-in w (always [] tt) up e is)).0 in absurd (omega (arith, less, most))
whole (suc n) w always up most = by (next_delivery w) refl (λ v. whole n v) where
  by : (o : Option Event) → next_delivery w ≡ o
      → ((v : World) → ((gs : List Event) → IsRunFrom v gs → Drainable (world_after v gs)) → ¬ (IsDown v) → load_of v
      ≤ n → next_delivery (world_after v (drain_events n v)) ≡ None)
      → next_delivery (world_after w (elim o [ None ↦ [] | Some e ↦ e ∷ drain_events n (step w e).world ])) ≡ None
  by None is later = is
  by (Some e) is later =
      let comes = next-in w (always [] tt) up e is in
      let less = lowers w (always [] tt).ready up e comes in
      later (step w e).world (λ gs more. always (e ∷ gs) (comes.may, more)) less.1 (let lower = less.0 in omega (arith, lower, most))

-- what is asked at every moment is asked at every moment of what is left of a run
always-after : (w : World) → ((gs : List Event) → IsRunFrom w gs → Drainable (world_after w gs)) → (es : List Event) → IsRunFrom w es
    → (gs : List Event) → IsRunFrom (world_after w es) gs → Drainable (world_after (world_after w es) gs)
always-after w always [] run = always
always-after w always (e ∷ es) run = always-after (step w e).world (λ gs more. always (e ∷ gs) (run.0, more)) es run.1

pub drains-whole : DrainsWholeAlways
drains-whole s es run up = whole (load_of (after s es)) (after s es)
    (always-after (opening s) (λ gs more. drainable-after s gs (run.0, more)) es run.1) up (omega arith)
