-- Deliveries that lead from one world to another, and how many calls had to wait for a block since a world was drained.
use Rattle.std.proofs.Common.{ℕ, suc, ◌≡◌, ◌+◌, List, [], ◌∷◌, ◌++◌, refl, sym, ap, subst, ◌∙◌, if◌then◌else◌, arith}
use Rattle.std.proofs.lemmas.List.Sums.{sum_by_push}
use Rattle.group_types.specs.Each.{Each}
use Rattle.group_types.specs.declared.process.ProcessId.{ProcessId}
use Rattle.group_types.proofs.Eaches.{each-append}
use Rattle.group_types.proofs.Names.{same-refl}
use Rattle.memc_table.specs.Asked.{Asked}
use Rattle.group_calls.specs.Turns.{Turn}
use Rattle.group_calls.specs.declared.event.Answer.TheVariants as says
use Rattle.group_calls.specs.declared.event.Cause.TheVariants as cause
use Rattle.group_calls.specs.declared.event.Event.{Event}
use Rattle.group_calls.specs.declared.event.Event.TheVariants as event
use Rattle.group_run.specs.Headline.{IsRunFrom, MayCome}
use Rattle.group_run.specs.Meaning.{IsDrained}
use Rattle.group_run.specs.Progress.{AskedDrained, AsksDrained, IsNoFailure, block_waits, waits_here}
use Rattle.group_run.specs.World.{World, step, turns_from, world_after}
use Rattle.law_answers.proofs.Entries.{after-more, run-more, turns-more}
use Rattle.group_run.specs.Causes.{IsDelivery}

pub record Delivers (v w : World) : Type 0 where
  pub events : List Event
  pub may : IsRunFrom v events
  pub each : Each IsDelivery events
  pub leads : world_after v events ≡ w

pub delivers-none : (w : World) → Delivers w w
delivers-none w = record { events = []; may = tt; each = tt; leads = refl }

pub delivers-one : (w : World) (from to : ProcessId) → MayCome w (event.Deliver from to) → Delivers w (step w (event.Deliver from to)).world
delivers-one w from to may = record { events = event.Deliver from to ∷ []; may = (may, tt); each = (tt, tt); leads = refl }

run-append : (w : World) (es fs : List Event) → IsRunFrom w es → IsRunFrom (world_after w es) fs → IsRunFrom w (es ++ fs)
run-append w [] fs run more = more
run-append w (e ∷ es) fs run more = (run.0, run-append (step w e).world es fs run.1 more)

after-append : (w : World) (es fs : List Event) → world_after w (es ++ fs) ≡ world_after (world_after w es) fs
after-append w [] fs = refl
after-append w (e ∷ es) fs = after-append (step w e).world es fs

pub delivers-then : (u v w : World) → Delivers u v → Delivers v w → Delivers u w
delivers-then u v w a b = record {
  events = a.events ++ b.events;
  may = run-append u a.events b.events a.may (subst (λ (x : World). IsRunFrom x b.events) (sym a.leads) b.may);
  each = each-append IsDelivery a.events b.events a.each b.each;
  leads = after-append u a.events b.events ∙ ap (λ (x : World). world_after x b.events) a.leads ∙ b.leads;
}

-- calls were asked where the group was drained, n of which had to wait for a block at a process
pub record Waited (u : World) (p : ProcessId) (n : ℕ) (w : World) : Type 0 where
  pub events : List Event
  pub may : IsRunFrom u events
  pub drained : AskedDrained u events
  pub leads : world_after u events ≡ w
  pub count : block_waits p (turns_from u events) ≡ n

pub waited-none : (u : World) (p : ProcessId) → Waited u p 0 u
waited-none u p = record { events = []; may = tt; drained = tt; leads = refl; count = refl }

drained-more : (w : World) (es : List Event) (e : Event) → AskedDrained w es → IsNoFailure e → AsksDrained (world_after w es) e → AskedDrained w (es ++ e ∷ [])
drained-more w [] e all goes asks = (goes, asks, tt)
drained-more w (x ∷ es) e all goes asks = (all.0, all.1, drained-more (step w x).world es e all.2 goes asks)

module _ (u : World) (p : ProcessId) where
  -- one event more
  waited-more : (n : ℕ) (w : World) (e : Event) → MayCome w e → IsNoFailure e → AsksDrained w e → Waited u p n w
      → Waited u p (n + waits_here p e (step w e).turn.answer) (step w e).world
  waited-more n w e may goes asks h = record {
    events = h.events ++ e ∷ [];
    may = run-more u h.events e h.may (subst (λ (x : World). MayCome x e) (sym h.leads) may);
    drained = drained-more u h.events e h.drained goes (subst (λ (x : World). AsksDrained x e) (sym h.leads) asks);
    leads = after-more u h.events e ∙ ap (λ (x : World). (step x e).world) h.leads;
    count = ap (block_waits p) (turns-more u h.events e)
        ∙ sum_by_push (λ (turn : Turn). waits_here p turn.event turn.answer) (turns_from u h.events)
        (step (world_after u h.events) e).turn
        ∙ (let now : waits_here p e (step (world_after u h.events) e).turn.answer
        ≡ waits_here p e (step w e).turn.answer = ap (λ (x : World). waits_here p e (step x e).turn.answer) h.leads in
        let before = h.count in omega (arith, now, before));
  }

  -- a call that has to wait
  pub waited-ask : (n : ℕ) (w : World) (caller b : ℕ) (op : Asked) → MayCome w (event.Ask caller op p) → IsDrained w
      → (step w (event.Ask caller op p)).turn.answer ≡ says.Retry (cause.Block b)
      → Waited u p n w → Waited u p (suc n) (step w (event.Ask caller op p)).world
  waited-ask n w caller b op may drained waits h = subst (λ (m : ℕ). Waited u p m (step w (event.Ask caller op p)).world)
      (let one = ap (waits_here p (event.Ask caller op p)) waits ∙ ap (λ (t : _). if t then 1 else 0) (same-refl p) in omega (arith, one))
      (waited-more n w (event.Ask caller op p) may tt drained h)

  -- deliveries
  waited-all : (n : ℕ) (es : List Event) (w : World) → IsRunFrom w es → Each IsDelivery es → Waited u p n w → Waited u p n (world_after w es)
  waited-all n [] w run each h = h
  waited-all n (event.Deliver from to ∷ es) w run each h =
      waited-all n es (step w (event.Deliver from to)).world run.1 each.1
      (subst (λ (m : ℕ). Waited u p m (step w (event.Deliver from to)).world) (omega arith) (waited-more n w (event.Deliver from to) run.0 tt tt h))
  waited-all n (event.Ask caller op q ∷ es) w run each h = absurd each.0
  waited-all n (event.Collect caller call q ∷ es) w run each h = absurd each.0
  waited-all n (event.Fail q keep ∷ es) w run each h = absurd each.0
  waited-all n (event.Flush q ∷ es) w run each h = absurd each.0
  waited-all n (event.Trace caller call d q ∷ es) w run each h = absurd each.0

  pub waited-delivers : (n : ℕ) (v w : World) → Delivers v w → Waited u p n v → Waited u p n w
  waited-delivers n v w d h = subst (Waited u p n) d.leads (waited-all n d.events v d.may d.each h)
