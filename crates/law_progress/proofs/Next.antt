-- The next delivery is of a message that waits for a living process.
use Rattle.std.proofs.Common.{ℕ, zero, suc, ◌≡◌, ◌≢◌, ◌<◌, ◌≤◌, ◌+◌, Bool, true, false, not, ◌&&◌, if◌then◌else◌, List}
use Rattle.std.proofs.Common.{[], ◌∷◌, Option, Some, None, refl, sym, ap, subst, ◌∙◌, arith}
use Rattle.std.specs.List.{range_with_len}
use Rattle.group_types.specs.Lists.{at}
use Rattle.group_types.specs.Names.{process_at}
use Rattle.group_types.specs.declared.process.ProcessId.{ProcessId}
use Rattle.group_types.proofs.Names.{index-process_at, process_at-in}
use Rattle.group_message.specs.declared.message.Message.{Message}
use Rattle.group_calls.specs.declared.event.Event.{Event}
use Rattle.group_calls.specs.declared.event.Event.TheVariants.{Deliver}
use Rattle.group_run.specs.Draining.{event_or, is_waiting, next_among, next_delivery, next_from, next_target, node_at, some_message}
use Rattle.group_run.specs.Keeping.{NodesKnowDown}
use Rattle.group_run.specs.Meaning.{IsDown, Lives, link}
use Rattle.group_run.specs.World.{World}
use Rattle.law_progress.specs.Drains.{NextComes}
use Rattle.law_progress.proofs.Drained.{message-comes}

both-true : (a b : Bool) → (not a && b) ≡ true → (a ≡ false) × (b ≡ true)
both-true true b is = cc is
both-true false b is = (refl, is)

module _ (w : World) where
  abbrev count : ℕ
  count = w.shape.k + w.shape.m

  -- the target that is found is waited for
  target-waits : (x a n y : ℕ) → next_target w x (range_with_len a n) ≡ Some y → (y < a + n) × (is_waiting w x y ≡ true)
  target-waits x a zero y is = cc is
  target-waits x a (suc n) y is = by (is_waiting w x a) refl is (target-waits x (a + 1) n y) where
    by : (b : Bool) → is_waiting w x a ≡ b → (if b then Some a else next_target w x (range_with_len (a + 1) n)) ≡ Some y
        → (next_target w x (range_with_len (a + 1) n) ≡ Some y → (y < a + 1 + n) × (is_waiting w x y ≡ true)) → (y < a + suc n) × (is_waiting w x y ≡ true)
    by true waits found rest = let same : a ≡ y = cc found in (omega (arith, same), ap (is_waiting w x) (sym same) ∙ waits)
    by false waits found rest = let later = rest found in (let low = later.0 in omega (arith, low), later.1)

  -- a message on its way from one index to another
  pub record Waits (e : Event) : Type 0 where
    pub from : ℕ
    pub to : ℕ
    pub from_low : from < count
    pub to_low : to < count
    pub waiting : is_waiting w from to ≡ true
    pub is : Deliver (process_at w.shape from) (process_at w.shape to) ≡ e

  among-waits : (a n : ℕ) (e : Event) → a + n ≤ count → next_among w (range_with_len a n) ≡ Some e → Waits e
  among-waits a zero e low found = cc found
  among-waits a (suc n) e low found = by (next_target w a (range_with_len 0 count)) refl found (among-waits (a + 1) n e (omega (arith, low))) where
    by : (o : Option ℕ) → next_target w a (range_with_len 0 count) ≡ o → event_or (next_from w a o) (next_among w (range_with_len (a + 1) n)) ≡ Some e
        → (next_among w (range_with_len (a + 1) n) ≡ Some e → Waits e) → Waits e
    by None is here rest = rest here
    by (Some y) is here rest =
        let waits = target-waits a 0 count y is in record {
          from = a;
          to = y;
          from_low = omega (arith, low);
          to_low = let below = waits.0 in omega (arith, below);
          waiting = waits.1;
          is = cc here;
        }

  pub next-waits : (e : Event) → next_delivery w ≡ Some e → Waits e
  next-waits e found = among-waits 0 count e (omega arith) found

  module _ (words : NodesKnowDown w) (up : ¬ (IsDown w)) (alone : (p : ProcessId) → Lives w p → link w p p ≡ []) where
    -- what waits is delivered
    waiting-comes : (x y : ℕ) → x < count → y < count → is_waiting w x y ≡ true → NextComes w (Deliver (process_at w.shape x) (process_at w.shape y))
    waiting-comes x y x-low y-low waiting =
        by (at [] (node_at w x).links y) (both-true (node_at w y).dead (some_message (at [] (node_at w x).links y))
        waiting) (ap (at [] (node_at w x).links) (index-process_at w.shape y))
      where
        from : ProcessId
        from = process_at w.shape x

        to : ProcessId
        to = process_at w.shape y

        by : (ms : List Message) → ((node_at w y).dead ≡ false) × (some_message ms ≡ true) → link w from to ≡ ms → NextComes w (Deliver from to)
        by [] waits is = cc waits.1
        by (m ∷ rest) waits is =
            let lives : Lives w to = (process_at-in w.shape y y-low, waits.0) in
            let apart : from ≢ to = λ same. cc (sym (alone to lives) ∙ ap (λ (p : ProcessId). link w p to) (sym same) ∙ is) in record {
              delivery = tt;
              may = (process_at-in w.shape x x-low, lives.0, apart);
              done = message-comes w words up from to m rest lives is;
            }

    pub next-of : (e : Event) → next_delivery w ≡ Some e → NextComes w e
    next-of e found = let there = next-waits e found in
        subst (NextComes w) there.is (waiting-comes there.from there.to there.from_low there.to_low there.waiting)
