-- No delivery is next exactly where the group is drained.
use Rattle.std.proofs.Common.{ℕ, zero, suc, ◌≡◌, ◌≢◌, ◌<◌, ◌≤◌, ◌+◌, ◌⊎◌, inl, inr, Bool, true, false, not, ◌&&◌}
use Rattle.std.proofs.Common.{if◌then◌else◌, List, [], ◌∷◌, Option, Some, None, refl, sym, ap, ◌∙◌, arith}
use Rattle.std.proofs.lemmas.Bool.{cases_eq}
use Rattle.std.specs.List.{range_with_len}
use Rattle.group_types.specs.Lists.{at}
use Rattle.group_types.specs.Names.{index_of, process_at}
use Rattle.group_types.specs.declared.process.ProcessId.{ProcessId}
use Rattle.group_types.proofs.Names.{index-below, index-process_at, process_at-in, process_at-index, same-cases}
use Rattle.group_message.specs.declared.message.Message.{Message}
use Rattle.group_calls.specs.declared.event.Event.{Event}
use Rattle.group_run.specs.Draining.{event_or, is_waiting, next_among, next_delivery, next_from, next_target, node_at, some_message}
use Rattle.group_run.specs.Meaning.{IsDrained, Lives, link}
use Rattle.group_run.specs.Process.{Node}
use Rattle.group_run.specs.World.{World, after, process_node}
use Rattle.law_progress.proofs.Alone.{alone-after}
use Rattle.law_progress.proofs.Next.{Waits, next-waits}
use Rattle.law_causes.specs.Drained.{NextAlways}

module _ (w : World) where
  abbrev count : ℕ
  count = w.shape.k + w.shape.m

  none-target : (x n a y : ℕ) → next_target w x (range_with_len a n) ≡ None → a ≤ y → y < a + n → is_waiting w x y ≡ false
  none-target x zero a y none low high = absurd (omega (arith, low, high))
  none-target x (suc n) a y none low high = by (is_waiting w x a) refl none (cases_eq y a)
      (λ later other. none-target x n (a + 1) y later (omega (arith, low, other)) (omega (arith, high))) where
        by : (b : Bool) → is_waiting w x a ≡ b → (if b then Some a else next_target w x (range_with_len (a + 1) n)) ≡ None → (y ≡ a) ⊎ (y ≢ a)
            → (next_target w x (range_with_len (a + 1) n) ≡ None → y ≢ a → is_waiting w x y ≡ false) → is_waiting w x y ≡ false
        by true waits none either rest = absurd (cc none)
        by false waits none (inl same) rest = ap (is_waiting w x) same ∙ waits
        by false waits none (inr other) rest = rest none other

  none-among : (n a x : ℕ) → next_among w (range_with_len a n) ≡ None → a ≤ x → x < a + n → next_target w x (range_with_len 0 count) ≡ None
  none-among zero a x none low high = absurd (omega (arith, low, high))
  none-among (suc n) a x none low high =
      by (next_target w a (range_with_len 0 count)) refl none (cases_eq x a)
      (λ later other. none-among n (a + 1) x later (omega (arith, low, other)) (omega (arith, high))) where
        by : (o : Option ℕ) → next_target w a (range_with_len 0 count) ≡ o
            → event_or (next_from w a o) (next_among w (range_with_len (a + 1) n)) ≡ None → (x ≡ a) ⊎ (x ≢ a)
            → (next_among w (range_with_len (a + 1) n) ≡ None → x ≢ a → next_target w x (range_with_len 0 count) ≡ None)
            → next_target w x (range_with_len 0 count) ≡ None
        by (Some y) is none either rest = absurd (cc none)
        by None is none (inl same) rest = ap (λ (z : ℕ). next_target w z (range_with_len 0 count)) same ∙ is
        by None is none (inr other) rest = rest none other

  silent : (ms : List Message) → some_message ms ≡ false → ms ≡ []
  silent [] is = refl
  silent (m ∷ ms) is = absurd (cc is)

  quiet-there : (dead b : Bool) → dead ≡ false → (not dead && b) ≡ false → b ≡ false
  quiet-there true b lives is = absurd (cc lives)
  quiet-there false b lives is = is

  drained : next_delivery w ≡ None → IsDrained w
  drained none from to fin lives apart =
      let x : ℕ = index_of w.shape from in
      let y : ℕ = index_of w.shape to in
      let x-low = index-below w.shape from fin in
      let y-low = index-below w.shape to lives.0 in
      let here : node_at w x ≡ process_node w from = ap (process_node w) (process_at-index w.shape from fin) in
      let there : node_at w y ≡ process_node w to = ap (process_node w) (process_at-index w.shape to lives.0) in
      let quiet : is_waiting w x y ≡ false =
      none-target x count 0 y (none-among count 0 x none (omega arith) (omega (arith, x-low))) (omega arith)
      (omega (arith, y-low)) in
      ap (λ (n : Node). at [] n.links y) (sym here)
      ∙ silent (at [] (node_at w x).links y) (quiet-there (node_at w y).dead _ (ap (λ (n : Node). n.dead) there ∙ lives.1) quiet)

  both-true : (a b : Bool) → (not a && b) ≡ true → (a ≡ false) × (b ≡ true)
  both-true true b is = cc is
  both-true false b is = (refl, is)

  none-next : ((p : ProcessId) → Lives w p → link w p p ≡ []) → IsDrained w → next_delivery w ≡ None
  none-next alone empty = by (next_delivery w) refl where
    no_message : (ms : List Message) → ms ≡ [] → some_message ms ≡ true → ⊥
    no_message ms none some = cc (ap some_message none, some)

    waiting : (e : Event) → Waits w e → ⊥
    waiting e waits = by_process (same-cases from to) where
      from : ProcessId
      from = process_at w.shape waits.from

      to : ProcessId
      to = process_at w.shape waits.to

      words : ((node_at w waits.to).dead ≡ false) × (some_message (at [] (node_at w waits.from).links waits.to) ≡ true)
      words = both-true (node_at w waits.to).dead (some_message (at [] (node_at w waits.from).links waits.to)) waits.waiting

      lives : Lives w to
      lives = (process_at-in w.shape waits.to waits.to_low, words.0)

      at_index : link w from to ≡ at [] (node_at w waits.from).links waits.to
      at_index = ap (at [] (node_at w waits.from).links) (index-process_at w.shape waits.to)

      by_process : (from ≡ to) ⊎ (from ≢ to) → ⊥
      by_process (inl same) = no_message _ (sym at_index ∙ ap (λ (z : ProcessId). link w z to) same ∙ alone to lives) words.1
      by_process (inr other) = no_message _ (sym at_index ∙ empty from to (process_at-in w.shape waits.from waits.from_low) lives other) words.1

    by : (o : Option Event) → next_delivery w ≡ o → next_delivery w ≡ None
    by None is = is
    by (Some e) is = absurd (waiting e (next-waits w e is))

pub next_always : NextAlways
next_always s es run = (drained (after s es), none-next (after s es) (alone-after s es run))
