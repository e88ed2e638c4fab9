-- The deliveries that drain a group, one after the other.
use Rattle.std.proofs.Common.{◌≡◌, ℕ, zero, suc, ◌+◌, ◌-◌, ◌≤◌, ◌<◌, List, [], ◌∷◌, ◌++◌, length, take, Option, Some}
use Rattle.std.proofs.Common.{None, Result, Ok, Err, refl, sym, ap, ◌∙◌, append_assoc, append-nil, length-append, arith}
use Rattle.std.specs.Prelude.{OnErr}
use Rattle.group_calls.specs.declared.event.Event.{Event}
use Rattle.group_run.specs.Draining.{drain_events, next_delivery}
use Rattle.group_run.specs.Meaning.{IsDown}
use Rattle.group_run.specs.Progress.{load_of}
use Rattle.group_run.specs.World.{World, step, world_after}
use Rattle.group_eras.specs.Carry.{drained, draining}
use Rattle.scenario_run.proofs.Draining.{Lightens, lightens}
use Rattle.scenario_run.proofs.Leading.{IsLedTo, led-step}
use Rattle.group_core.specs.Runs.{HasRun}
use Rattle.group_regroup.specs.Parts.{IsPart}

pub led-to : (w : World) → HasRun w → IsLedTo w.shape w
led-to w has = record { events = has.events; run = has.run; is = has.is }

-- some of the deliveries were made, and these are left
pub record Delivering (w v : World) : Type 0 where
  pub led : IsLedTo w.shape v
  pub up : ¬ (IsDown v)
  pub made : List Event
  pub fuel : load_of v + length made ≤ load_of w
  pub after : v ≡ world_after w made
  pub whole : draining w ≡ made ++ drain_events (load_of w - length made) v

pub after-push : (w : World) (es : List Event) (e : Event) → world_after w (es ++ e ∷ []) ≡ (step (world_after w es) e).world
after-push w [] e = refl
after-push w (x ∷ es) e = after-push (step w x).world es e

pub Delivering-none : (w : World) → HasRun w → ¬ (IsDown w) → Delivering w w
Delivering-none w has up = record {
  led = led-to w has;
  up = up;
  made = [];
  fuel = omega arith;
  after = refl;
  whole = ap (λ (n : ℕ). drain_events n w) all;
} where
  all : load_of w ≡ load_of w - 0
  all = omega arith

one-left : (n m : ℕ) (v : World) (e : Event) → n ≡ suc m → next_delivery v ≡ Some e → drain_events n v ≡ e ∷ drain_events m (step v e).world
one-left zero m v e more is = absurd (cc more)
one-left (suc n) m v e more is = let same : n ≡ m = omega (arith, more) in
    ap (λ (next : Option Event). elim next [ None ↦ [] | Some x ↦ x ∷ drain_events n (step v x).world ]) is
    ∙ ap (λ (k : ℕ). e ∷ drain_events k (step v e).world) same

none-left : (n : ℕ) (v : World) → next_delivery v ≡ None → drain_events n v ≡ []
none-left zero v is = refl
none-left (suc n) v is = ap (λ (next : Option Event). elim next [ None ↦ [] | Some x ↦ x ∷ drain_events n (step v x).world ]) is

pub take-front : {X : Type 0} (xs ys : List X) → take (length xs) (xs ++ ys) ≡ xs
take-front [] ys = refl
take-front {X} (x ∷ xs) ys = ap (λ (zs : List X). x ∷ zs) (take-front xs ys)

module _ (w v : World) (d : Delivering w v) where
  pub next-lightens : (e : Event) → next_delivery v ≡ Some e → Lightens v e
  next-lightens e is = lightens w.shape v e d.led d.up is

  pub Delivering-more : (e : Event) → next_delivery v ≡ Some e → Delivering w (step v e).world
  Delivering-more e is = record {
    led = led-step w.shape v e d.led one.may;
    up = one.up;
    made = d.made ++ e ∷ [];
    fuel = let long = length-append d.made (e ∷ []) in omega (arith, lower, fuel, long);
    after = ap (λ (u : World). (step u e).world) d.after ∙ sym (after-push w d.made e);
    whole = d.whole ∙ ap (λ (es : List Event). d.made ++ es)
        (one-left (load_of w - length d.made) (load_of w - length (d.made ++ e ∷ [])) v e fewer is)
        ∙ sym (append_assoc d.made (e ∷ []) _);
  } where
    one : Lightens v e
    one = next-lightens e is

    lower : load_of (step v e).world < load_of v
    lower = one.lower

    fuel : load_of v + length d.made ≤ load_of w
    fuel = d.fuel

    fewer : load_of w - length d.made ≡ suc (load_of w - length (d.made ++ e ∷ []))
    fewer = let long = length-append d.made (e ∷ []) in omega (arith, lower, fuel, long)

  pub all-made : next_delivery v ≡ None → v ≡ drained w
  all-made is = d.after
      ∙ ap (world_after w)
      (sym (append-nil d.made)
      ∙ sym (ap (λ (es : List Event). d.made ++ es) (none-left (load_of w - length d.made) v is)) ∙ sym d.whole)

  pub part-made : IsPart w (draining w) v
  part-made = (length d.made, d.after ∙ ap (world_after w) (sym (take-front d.made _) ∙ ap (take (length d.made)) (sym d.whole)))

-- what holds anyway holds where a call failed
pub on-err : {T E P : Type 0} (r : Result T E) → P → OnErr r P
on-err (Ok x) p = tt
on-err (Err e) p = p
