-- A drain is a list of deliveries that may come, after which the group is at rest; and who is dead stays so where no
-- process fails.
use Rattle.std.proofs.Common.{ℕ, zero, suc, ◌≡◌, ◌<◌, List, [], ◌∷◌, ◌++◌, Option, Some, None, refl, sym, ap, subst, ◌∙◌, arith}
use Rattle.group_types.proofs.Eaches.{each-weaker}
use Rattle.group_types.specs.Dimensions.{Dimensions}
use Rattle.group_types.specs.Each.{Each}
use Rattle.group_types.specs.Names.{index_of}
use Rattle.group_types.specs.declared.process.ProcessId.{ProcessId}
use Rattle.group_calls.specs.declared.event.Event.{Event}
use Rattle.group_calls.specs.declared.event.Event.TheVariants.{Ask, Collect, Deliver, Fail, Flush, Trace}
use Rattle.group_run.specs.Draining.{drain_events, next_delivery}
use Rattle.group_run.specs.Headline.{IsRun, IsRunFrom, MayCome}
use Rattle.group_run.specs.Meaning.{IsDown, is_dead}
use Rattle.group_run.specs.Progress.{load_of}
use Rattle.group_run.specs.World.{World, after, opening, opening_node, step, world_after}
use Rattle.law_answers.proofs.Entries.{after-more, run-more}
use Rattle.law_progress.specs.Drains.{NextComes}
use Rattle.law_progress.proofs.Whole.{drains-whole, next-comes}
use Rattle.law_causes.proofs.Drained.{next_always}
use Rattle.group_run.specs.Causes.{IsDelivery, IsFailure}
use Rattle.group_layout.proofs.Deaths.{dead-step, same-dead}
use Rattle.group_eras.specs.Carry.{drained, draining}
use Rattle.group_eras.proofs.Resting.{IsStill, Rests}

pub after-both : (w : World) (es fs : List Event) → world_after w (es ++ fs) ≡ world_after (world_after w es) fs
after-both w [] fs = refl
after-both w (e ∷ es) fs = after-both (step w e).world es fs

pub run-both : (w : World) (es fs : List Event) → IsRunFrom w es → IsRunFrom (world_after w es) fs → IsRunFrom w (es ++ fs)
run-both w [] fs run more = more
run-both w (e ∷ es) fs run more = (run.0, run-both (step w e).world es fs run.1 more)

-- an event that is no failure leaves who is dead
abbrev pub NoFailure : Event → Type 0
NoFailure e = ¬ (IsFailure e)

pub dead-still : (w : World) (e : Event) → NoFailure e → (p : ProcessId) → is_dead (step w e).world p ≡ is_dead w p
dead-still w e none p = same-dead w e none (opening_node w.shape p) refl (index_of w.shape p)

pub dead-after : (w : World) (es : List Event) → Each NoFailure es → (p : ProcessId) → is_dead (world_after w es) p ≡ is_dead w p
dead-after w [] none p = refl
dead-after w (e ∷ es) none p = dead-after (step w e).world es none.1 p ∙ dead-still w e none.0 p

pub shape-after : (w : World) (es : List Event) → (world_after w es).shape ≡ w.shape
shape-after w [] = refl
shape-after w (e ∷ es) = shape-after (step w e).world es

pub up-still : (w : World) (e : Event) → NoFailure e → ¬ (IsDown w) → ¬ (IsDown (step w e).world)
up-still w e none up down = let same = dead-step w e none in let above : w.shape.m < _ = down in up (omega (arith, same, above))

pub still-none : (e : Event) → IsStill e → NoFailure e
still-none (Ask caller op p) still fails = fails
still-none (Deliver from to) still fails = fails
still-none (Collect caller call p) still fails = fails
still-none (Fail p keep) still fails = still
still-none (Flush p) still fails = fails
still-none (Trace caller call d p) still fails = fails

pub delivery-still : (e : Event) → IsDelivery e → IsStill e
delivery-still (Deliver from to) is = tt
delivery-still (Ask caller op p) is = absurd is
delivery-still (Collect caller call p) is = absurd is
delivery-still (Fail p keep) is = absurd is
delivery-still (Flush p) is = absurd is
delivery-still (Trace caller call d p) is = absurd is

module _ (s : Dimensions) where
  -- one event more
  pub more-run : (es : List Event) (e : Event) → IsRun s es → MayCome (after s es) e → IsRun s (es ++ e ∷ [])
  more-run es e run may = (run.0, run-more (opening s) es e run.1 may)

  pub more-up : (es : List Event) (e : Event) → NoFailure e → ¬ (IsDown (after s es)) → ¬ (IsDown (after s (es ++ e ∷ [])))
  more-up es e none up = subst (λ (w : World). ¬ (IsDown w)) (sym (after-more (opening s) es e)) (up-still (after s es) e none up)

  -- the deliveries of a drain
  pub record Delivers (es fs : List Event) : Type 0 where
    pub run : IsRunFrom (after s es) fs
    pub deliveries : Each IsDelivery fs
    pub up : ¬ (IsDown (world_after (after s es) fs))

  abbrev behind : ℕ → World → Option Event → List Event
  behind n w None = []
  behind n w (Some e) = e ∷ drain_events n (step w e).world

  delivers-by : (n : ℕ) (es : List Event) → IsRun s es → ¬ (IsDown (after s es)) → Delivers es (drain_events n (after s es))
  delivers-by zero es run up = record { run = tt; deliveries = tt; up = up }
  delivers-by (suc n) es run up = by (next_delivery (after s es)) refl (λ e. delivers-by n (es ++ e ∷ [])) where
    none : (e : Event) → IsDelivery e → NoFailure e
    none e is = still-none e (delivery-still e is)

    by : (o : Option Event) → next_delivery (after s es) ≡ o
        → ((e : Event) → IsRun s (es ++ e ∷ []) → ¬ (IsDown (after s (es ++ e ∷ []))) → Delivers (es ++ e ∷ [])
        (drain_events n (after s (es ++ e ∷ [])))) → Delivers es (behind n (after s es) o)
    by None is later = record { run = tt; deliveries = tt; up = up }
    by (Some e) is later =
        let comes : NextComes (after s es) e = next-comes s es run up e is in
        let next : after s (es ++ e ∷ []) ≡ (step (after s es) e).world = after-more (opening s) es e in
        let rest : Delivers (es ++ e ∷ []) (drain_events n (after s (es ++ e ∷ []))) =
        later e (more-run es e run comes.may) (more-up es e (none e comes.delivery) up) in
        let events : drain_events n (after s (es ++ e ∷ [])) ≡ drain_events n (step (after s es) e).world = ap (drain_events n) next in
        record {
          run = (comes.may, subst (λ (w : World). IsRunFrom w (drain_events n w)) next rest.run);
          deliveries = (comes.delivery, subst (Each IsDelivery) events rest.deliveries);
          up = subst (λ (w : World). ¬ (IsDown (world_after w (drain_events n w)))) next rest.up;
        }

  pub delivers : (es : List Event) → IsRun s es → ¬ (IsDown (after s es)) → Delivers es (draining (after s es))
  delivers es run up = delivers-by (load_of (after s es)) es run up

  pub after-is : (es fs : List Event) → after s (es ++ fs) ≡ world_after (after s es) fs
  after-is es fs = after-both (opening s) es fs

  -- after it the group is at rest
  pub drained-rests : (es : List Event) → IsRun s es → ¬ (IsDown (after s es)) → Rests s (es ++ draining (after s es))
  drained-rests es run up =
      let all : Delivers es (draining (after s es)) = delivers es run up in
      let whole : IsRun s (es ++ draining (after s es)) = (run.0, run-both (opening s) es (draining (after s es)) run.1 all.run) in
      let same : after s (es ++ draining (after s es)) ≡ drained (after s es) = after-is es (draining (after s es)) in
      let none : next_delivery (after s (es ++ draining (after s es))) ≡ None = ap next_delivery same ∙ drains-whole s es run up in
      record {
        run = whole;
        drained = (next_always s (es ++ draining (after s es)) whole).0 none;
        up = subst (λ (w : World). ¬ (IsDown w)) (sym same) all.up;
      }

  pub drain-still : (es : List Event) → IsRun s es → ¬ (IsDown (after s es)) → Each IsStill (draining (after s es))
  drain-still es run up = each-weaker IsDelivery IsStill delivery-still (draining (after s es)) (delivers es run up).deliveries
