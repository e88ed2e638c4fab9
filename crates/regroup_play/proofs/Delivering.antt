-- The deliveries of a drain over eras, one after the other.
use Rattle.std.proofs.Common.{ℕ, suc, ◌≡◌, ◌+◌, ◌-◌, ◌≤◌, ◌<◌, List, [], ◌∷◌, length, Some, None, refl, sym, ap, ◌∙◌, arith}
use Rattle.group_types.specs.declared.process.ProcessId.{ProcessId}
use Rattle.group_calls.specs.declared.event.Event.{Event}
use Rattle.group_calls.specs.declared.event.Event.TheVariants.{Deliver}
use Rattle.group_run.specs.Draining.{drain_events, next_delivery}
use Rattle.group_run.specs.Meaning.{IsDown}
use Rattle.group_run.specs.Progress.{load_of}
use Rattle.scenario_run.specs.Playing.{draining_unless_down}
use Rattle.scenario_run.proofs.Draining.{Lightens, lightens}
use Rattle.scenario_play.proofs.Delivering.{draining-down, draining-up, none-left, one-left}
use Rattle.group_eras.specs.Eras.{Eras, MayMake, era_step, eras_after}
use Rattle.group_eras.specs.Promise.{IsLed, Makes}
use Rattle.regroup_run.proofs.Leading as leading
use Rattle.regroup_play.proofs.Lines.{led-to}

-- the deliveries that are left, of as many as the weight at first
abbrev pub left_of : Eras → Eras → ℕ → List Event
left_of e f count = drain_events (load_of e.world - count) f.world

abbrev pub all_of : Eras → List Event
all_of e = drain_events (load_of e.world) e.world

-- so many deliveries were made
pub record Made (e f : Eras) (count : ℕ) : Type 0 where
  pub led : IsLed f
  pub up : ¬ (IsDown f.world)
  pub fuel : load_of f.world + count ≤ load_of e.world
  pub after : eras_after f (left_of e f count) ≡ eras_after e (all_of e)
  pub many : count + length (left_of e f count) ≡ length (all_of e)
  pub events : count ≤ f.world.events

pub Made-none : (e : Eras) → IsLed e → ¬ (IsDown e.world) → Made e e 0
Made-none e led up = record {
  led = led;
  up = up;
  fuel = omega arith;
  after = ap (eras_after e) whole;
  many = let same = ap length whole in omega (arith, same);
  events = omega arith;
} where
  all : load_of e.world - 0 ≡ load_of e.world
  all = omega arith

  whole : left_of e e 0 ≡ all_of e
  whole = ap (λ (n : ℕ). drain_events n e.world) all

module _ (e f : Eras) (count : ℕ) (made : Made e f count) where
  -- the next delivery
  pub record NextMade (from to : ProcessId) : Type 0 where
    pub may : MayMake f (Deliver from to)
    pub lower : load_of (era_step f (Deliver from to)).eras.world < load_of f.world
    pub more : Made e (era_step f (Deliver from to)).eras (count + 1)

  pub next-made : (from to : ProcessId) → next_delivery f.world ≡ Some (Deliver from to) → NextMade from to
  next-made from to is = record {
    may = may;
    lower = lower;
    more = record {
      led = leading.is-led made.led.s g (leading.led-on made.led.s f g (Makes x ∷ []) (led-to f made.led) (record { may = (may, tt); to = refl }));
      up = one.up;
      fuel = omega (arith, lower, fuel);
      after = sym (ap (eras_after f) split) ∙ made.after;
      many = let same = ap length split in let all = made.many in omega (arith, same, all);
      events = let before = made.events in omega (arith, before);
    };
  } where
    x : Event
    x = Deliver from to

    g : Eras
    g = (era_step f x).eras

    one : Lightens f.world x
    one = lightens f.world.shape f.world x (leading.world-led made.led.s f (led-to f made.led)) made.up is

    may : MayMake f x
    may = record { may = one.may; others = tt; range = tt }

    lower : load_of g.world < load_of f.world
    lower = one.lower

    fuel : load_of f.world + count ≤ load_of e.world
    fuel = made.fuel

    fewer : load_of e.world - count ≡ suc (load_of e.world - (count + 1))
    fewer = omega (arith, lower, fuel)

    split : left_of e f count ≡ x ∷ left_of e g (count + 1)
    split = one-left (load_of e.world - count) (load_of e.world - (count + 1)) f.world x fewer is

  module _ (up : ¬ (IsDown e.world)) (is : next_delivery f.world ≡ None) where
    none : left_of e f count ≡ []
    none = none-left (load_of e.world - count) f.world is

    all : draining_unless_down e.world ≡ all_of e
    all = draining-up e.world up

    -- none is left
    pub all-delivered : f ≡ eras_after e (draining_unless_down e.world)
    all-delivered = sym (ap (eras_after f) none) ∙ made.after ∙ sym (ap (eras_after e) all)

    pub all-counted : count ≡ length (draining_unless_down e.world)
    all-counted = let left = ap length none in let whole = made.many in let same = ap length all in omega (arith, left, whole, same)

-- there are none while the group is down
pub down-none : (e : Eras) → IsDown e.world → draining_unless_down e.world ≡ []
down-none e down = draining-down e.world down
