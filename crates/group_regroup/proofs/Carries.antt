-- A carry, and the beginning of one, as moves that lead on.
use Rattle.std.proofs.Common.{◌≡◌, ℕ, zero, suc, ◌+◌, ◌<◌, ◌≤◌, ◌^◌, List, [], ◌∷◌, ◌++◌, length, take, sym, ap, subst, ◌∙◌, length-append, arith}
use Rattle.std.specs.Prelude.{All}
use Rattle.std.proofs.lemmas.List.Elements.{All-nil, All-weaker}
use Rattle.group_types.specs.Dimensions.{Dimensions}
use Rattle.group_types.specs.Each.{Each}
use Rattle.group_types.specs.Lists.{at}
use Rattle.group_calls.specs.declared.entry.Entry.{Entry}
use Rattle.group_calls.specs.declared.event.Event.{Event}
use Rattle.group_run.specs.Headline.{IsRunFrom}
use Rattle.group_run.specs.Meaning.{count_logged}
use Rattle.group_run.specs.World.{World, opening, step, world_after}
use Rattle.law_moves.proofs.Reading.{grown-is}
use Rattle.group_core.specs.Runs.{HasRun}
use Rattle.group_eras.specs.Carry.{IsBegun, begun, carried, reading, setting}
use Rattle.group_eras.specs.Eras.{Eras}
use Rattle.group_eras.specs.Items.{loads}
use Rattle.group_eras.specs.Promise.{HasCarried, IsLed}
use Rattle.group_eras.specs.Promise.EraMove.{Begins, Carries}
use Rattle.group_eras.specs.Refusal.{CanCarry, IsAtRest, IsSuccessor}
use Rattle.group_eras.specs.Told.{Bases}
use Rattle.group_eras.proofs.Counting.{counts_are_low, events-are}
use Rattle.group_eras.proofs.Lists.{take-whole}
use Rattle.group_eras.proofs.Promises.{carries_keep, reads_may_come, sets_may_come}
use Rattle.group_eras.proofs.Short.{carries_are_short}
use Rattle.scenario_run.proofs.Leading.{keeps-shape}
use Rattle.group_regroup.specs.Carrying.{IsFresh}
use Rattle.group_regroup.specs.Kept.{AreLed, IsLowBase, eras_of}
use Rattle.group_regroup.specs.Parts.{IsPart}
use Rattle.group_regroup.specs.declared.changing.Lowered.{Lowered}
use Rattle.group_regroup.specs.declared.fresh.Fresh.{Fresh}
use Rattle.group_regroup.proofs.Behind.{at-low, range-all, range-long, read-after}
use Rattle.group_regroup.proofs.CarriedOver.{carried-over}
use Rattle.group_regroup.proofs.Led.{led-more}
use Rattle.group_regroup.proofs.Plain.{IsPlain, plain-after, plain-reads}

-- the first of some events
run-take : (n : ℕ) (w : World) (es : List Event) → IsRunFrom w es → IsRunFrom w (take n es)
run-take zero w es run = tt
run-take (suc n) w [] run = tt
run-take (suc n) w (e ∷ es) run = (run.0, run-take n (step w e).world es run.1)

each-take : (P : Event → Type 0) (n : ℕ) (es : List Event) → Each P es → Each P (take n es)
each-take P zero es each = tt
each-take P (suc n) [] each = tt
each-take P (suc n) (e ∷ es) each = (each.0, each-take P n es each.1)

log-grows : (w : World) (es : List Event) → length w.log ≤ length (world_after w es).log
log-grows w [] = omega arith
log-grows w (e ∷ es) =
    let rest = log-grows (step w e).world es in
    let grows = ap length (grown-is w.log (step w e).turn.logged) ∙ length-append w.log (step w e).turn.logged in
    omega (arith, rest, grows)

module _ (w : World) (bases : Bases) (past : List (List Entry)) (l : List Lowered) (has : HasRun w) (before : AreLed w bases past l) (rest : IsAtRest w) where
  abbrev e : Eras
  e = eras_of w bases past l

  reads : IsRunFrom w (reading w).events
  reads = reads_may_come e before.led rest

  -- the first events of the reading
  module _ (n : ℕ) where
    abbrev part : World
    part = world_after w (take n (reading w).events)

    part-is : eras_of part bases past l ≡ begun e n
    part-is = plain-after bases past l w (take n (reading w).events) has (run-take n w (reading w).events reads)
        (each-take (IsPlain bases w.shape.k) n (reading w).events (plain-reads bases w.shape.k w (loads w))) before.kept.within

    part-led : AreLed part bases past l
    part-led = record {
      kept = record {
        many = before.kept.many ∙ ap (λ (s : Dimensions). s.k) (sym (keeps-shape w (take n (reading w).events)));
        low = before.kept.low;
        within = All-weaker (λ (x : Lowered). x.until ≤ length w.log) (λ (x : Lowered). x.until ≤ length part.log)
            (λ x low. let grows = log-grows w (take n (reading w).events) in omega (arith, low, grows)) l before.kept.within;
      };
      led = led-more e (eras_of part bases past l) (Begins n) before.led rest part-is;
    }

  -- want of memory cut the reading short
  module _ (v : World) (is : IsPart w (reading w).events v) where
    pub begun-led : AreLed v bases past l
    begun-led = subst (λ (u : World). AreLed u bases past l) (sym is.1) (part-led is.0)

    pub begun-is : IsBegun e (eras_of v bases past l)
    begun-is = (is.0, ap (λ (u : World). eras_of u bases past l) is.1 ∙ part-is is.0)

  abbrev old : World
  old = world_after w (reading w).events

  old-led : IsLed (eras_of old bases past l)
  old-led = subst (λ (es : List Event). IsLed (eras_of (world_after w es) bases past l))
      (take-whole (reading w).events (length (reading w).events) (omega arith))
      (part-led (length (reading w).events)).led

  -- all were read and set
  module _ (s : Dimensions) (successor : IsSuccessor w s) (can : CanCarry w s) (fresh : Fresh)
      (made : IsFresh (reading w).world bases l s (reading w).parcels fresh) where
    is-fresh : IsFresh old bases l s (reading w).parcels fresh
    is-fresh = subst (λ (v : World). IsFresh v bases l s (reading w).parcels fresh) (read-after w (loads w)) made

    abbrev new_past : List (List Entry)
    new_past = past ++ fresh.told.items ∷ []

    pub carried-is : eras_of fresh.world fresh.bases.items new_past [] ≡ carried e s
    carried-is = (λ i. eras_of (is-fresh.world i) (is-fresh.bases i) (past ++ is-fresh.told i ∷ []) [])
        ∙ carried-over w bases past l s has before.kept.within successor.shape reads (sets_may_come e s before.led successor can)

    pub carried-keeps : HasCarried e s
    carried-keeps = carries_keep e s before.led successor can

    module _ (low : All (λ base. base < 2 ^ 62) bases) (few : w.events < 2 ^ 58) where
      width : old.shape.k ≡ w.shape.k
      width = ap (λ (t : Dimensions). t.k) (keeps-shape w (reading w).events)

      low-at : (d : ℕ) → d < 0 + old.shape.k → IsLowBase (at 0 bases d + count_logged old d)
      low-at d below =
          let base : at 0 bases d < 4611686018427387904 = at-low bases d 4611686018427387904 (omega arith) low in
          let count : count_logged old d ≤ old.events = counts_are_low (eras_of old bases past l) old-led d (omega (arith, below)) in
          let events : old.events ≡ w.events + length (reading w).events = events-are w (reading w).events in
          let short : w.events + length (reading w).events < 4611686018427387904 = (carries_are_short e s before.led successor can few).reads in
          omega (arith, base, count, events, short)

      new-many : length fresh.bases.items ≡ fresh.world.shape.k
      new-many = ap length is-fresh.bases ∙ range-long (λ d. at 0 bases d + count_logged old d) old.shape.k 0 ∙ width ∙ sym successor.partitions
          ∙ sym (ap (λ (u : World). u.shape.k) is-fresh.world
          ∙ ap (λ (t : Dimensions). t.k) (keeps-shape (opening s) (setting (opening s) (reading w).parcels)))

      pub carried-led : AreLed fresh.world fresh.bases.items new_past []
      carried-led = record {
        kept = record {
          many = new-many;
          low = subst (All IsLowBase) (sym is-fresh.bases) (range-all IsLowBase (λ d. at 0 bases d + count_logged old d) old.shape.k 0 low-at);
          within = All-nil (λ (x : Lowered). x.until ≤ length fresh.world.log);
        };
        led = led-more e (eras_of fresh.world fresh.bases.items new_past []) (Carries s) before.led (successor, can) carried-is;
      }
