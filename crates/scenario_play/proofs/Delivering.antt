-- The deliveries of a drain, one after the other.
use Rattle.std.proofs.Common.{◌≡◌, ℕ, zero, suc, ◌+◌, ◌-◌, ◌≤◌, ◌<◌, Bool, true, false, if◌then◌else◌, codes, List, []}
use Rattle.std.proofs.Common.{◌∷◌, ◌++◌, length, drop, Option, Some, None, refl, sym, ap, ◌∙◌, append_assoc, append-nil}
use Rattle.std.proofs.Common.{length-append, arith}
use Rattle.std.proofs.Math.Seq.{drop-append_seam}
use Rattle.std.proofs.lemmas.Bool.Decides.{nat_tests}
use Rattle.std.specs.Fmt.{decimal}
use Rattle.group_calls.specs.Turns.{log_of}
use Rattle.group_calls.specs.declared.entry.Entry.{Entry}
use Rattle.group_calls.specs.declared.event.Event.{Event}
use Rattle.group_run.specs.Draining.{drain_events, next_delivery}
use Rattle.group_run.specs.Meaning.{IsDown}
use Rattle.group_run.specs.Progress.{load_of}
use Rattle.group_run.specs.World.{World, step, turns_from, world_after}
use Rattle.law_moves.proofs.Reading.{grown-is}
use Rattle.group_calls.specs.declared.event.Answer.{Answer}
use Rattle.scenario_text.specs.Texts.{answer_text, entries_text, entry_text}
use Rattle.group_run.specs.Shown.{is_down}
use Rattle.scenario_run.specs.Marks.{marked_entries}
use Rattle.scenario_run.specs.Playing.{drained_text, draining_unless_down, turn_text}
use Rattle.scenario_run.proofs.Draining.{Lightens, burden, lightens}
use Rattle.scenario_run.proofs.Leading.{IsLedTo, led-step}
use Rattle.scenario_run.proofs.Truth.{up}

-- what an event logged stands last in the log
pub log-more : (w : World) (e : Event) → (step w e).world.log ≡ w.log ++ (step w e).turn.logged
log-more w e = grown-is w.log (step w e).turn.logged

pub last-few : (w : World) (e : Event) → length (step w e).turn.logged ≤ length (step w e).world.log
last-few w e = let both = ap length (log-more w e) ∙ length-append w.log (step w e).turn.logged in omega (arith, both)

pub last-logged : (w : World) (e : Event) → drop (length (step w e).world.log - length (step w e).turn.logged) (step w e).world.log ≡ (step w e).turn.logged
last-logged w e =
    let both = ap length (log-more w e) ∙ length-append w.log (step w e).turn.logged in
    let front : length (step w e).world.log - length (step w e).turn.logged ≡ length w.log = omega (arith, both) in
    ap (λ (n : ℕ). drop n (step w e).world.log) front ∙ ap (drop (length w.log)) (log-more w e) ∙ drop-append_seam w.log (step w e).turn.logged

pub entries-append : (a b : List Entry) → entries_text (a ++ b) ≡ entries_text a ++ entries_text b
entries-append [] b = refl
entries-append (x ∷ a) b = ap (λ (ys : List ℕ). entry_text x ++ 10 ∷ ys) (entries-append a b)
    ∙ sym (append_assoc (entry_text x) (10 ∷ entries_text a) (entries_text b))

-- entries under the mark of one group's log
pub marked-plain : (es : List Entry) → marked_entries (codes "= ") es ≡ entries_text es
marked-plain [] = refl
marked-plain (e ∷ es) = ap (λ (xs : List ℕ). entry_text e ++ 10 ∷ xs) (marked-plain es)

-- the deliveries that are left, of as many as the weight at first
abbrev pub left_of : World → World → ℕ → List Event
left_of w v count = drain_events (load_of w - count) v

-- so many deliveries were made, and what they wrote
pub record Delivered (w v : World) (before text : List ℕ) (count : ℕ) : Type 0 where
  pub led : IsLedTo w.shape v
  pub up : ¬ (IsDown v)
  pub fuel : load_of v + count ≤ load_of w
  pub light : burden v ≤ burden w
  pub after : world_after v (left_of w v count) ≡ world_after w (drain_events (load_of w) w)
  pub written : text ++ entries_text (log_of (turns_from v (left_of w v count))) ≡ before ++ entries_text (log_of (turns_from w (drain_events (load_of w) w)))
  pub many : count + length (left_of w v count) ≡ length (drain_events (load_of w) w)

pub Delivered-none : (w : World) (text : List ℕ) → IsLedTo w.shape w → ¬ (IsDown w) → Delivered w w text text 0
Delivered-none w text led up = record {
  led = led;
  up = up;
  fuel = omega arith;
  light = omega arith;
  after = ap (world_after w) whole;
  written = ap (λ (es : List Event). text ++ entries_text (log_of (turns_from w es))) whole;
  many = let same = ap length whole in omega (arith, same);
} where
  all : load_of w - 0 ≡ load_of w
  all = omega arith

  whole : left_of w w 0 ≡ drain_events (load_of w) w
  whole = ap (λ (n : ℕ). drain_events n w) all

-- the deliveries, where this one is next
pub one-left : (n m : ℕ) (v : World) (e : Event) → n ≡ suc m → next_delivery v ≡ Some e → drain_events n v ≡ e ∷ drain_events m (step v e).world
one-left zero m v e more is = absurd (cc more)
one-left (suc n) m v e more is = let same : n ≡ m = omega (arith, more) in
    ap (λ (next : Option Event). elim next [ None ↦ [] | Some x ↦ x ∷ drain_events n (step v x).world ]) is
    ∙ ap (λ (k : ℕ). e ∷ drain_events k (step v e).world) same

pub none-left : (n : ℕ) (v : World) → next_delivery v ≡ None → drain_events n v ≡ []
none-left zero v is = refl
none-left (suc n) v is = ap (λ (next : Option Event). elim next [ None ↦ [] | Some x ↦ x ∷ drain_events n (step v x).world ]) is

module _ (w v : World) (before text : List ℕ) (count : ℕ) (d : Delivered w v before text count) where
  pub next-lightens : (e : Event) → next_delivery v ≡ Some e → Lightens v e
  next-lightens e is = lightens w.shape v e d.led d.up is

  pub Delivered-more : (e : Event) → next_delivery v ≡ Some e → Delivered w (step v e).world before (text ++ entries_text (step v e).turn.logged) (count + 1)
  Delivered-more e is = record {
    led = led-step w.shape v e d.led one.may;
    up = one.up;
    fuel = omega (arith, lower, fuel);
    light = omega (arith, lower, light);
    after = sym (ap (world_after v) split) ∙ d.after;
    written = append_assoc text (entries_text (step v e).turn.logged) rest
        ∙ ap (λ (xs : List ℕ). text ++ xs)
        (sym (entries-append (step v e).turn.logged
        (log_of (turns_from (step v e).world (left_of w (step v e).world (count + 1))))))
        ∙ ap (λ (es : List Event). text ++ entries_text (log_of (turns_from v es))) (sym split) ∙ d.written;
    many = let same = ap length split in let all = d.many in omega (arith, same, all);
  } where
    one : Lightens v e
    one = next-lightens e is

    lower : load_of (step v e).world < load_of v
    lower = one.lower

    fuel : load_of v + count ≤ load_of w
    fuel = d.fuel

    light : burden v ≤ burden w
    light = d.light

    rest : List ℕ
    rest = entries_text (log_of (turns_from (step v e).world (left_of w (step v e).world (count + 1))))

    fewer : load_of w - count ≡ suc (load_of w - (count + 1))
    fewer = omega (arith, lower, fuel)

    split : left_of w v count ≡ e ∷ left_of w (step v e).world (count + 1)
    split = one-left (load_of w - count) (load_of w - (count + 1)) v e fewer is

  -- none is left
  pub all-delivered : next_delivery v ≡ None → v ≡ world_after w (drain_events (load_of w) w)
  all-delivered is = sym (ap (world_after v) (none-left (load_of w - count) v is)) ∙ d.after

  pub all-written : next_delivery v ≡ None → text ≡ before ++ entries_text (log_of (turns_from w (drain_events (load_of w) w)))
  all-written is = sym (append-nil text)
      ∙ sym (ap (λ (es : List Event). text ++ entries_text (log_of (turns_from v es)))
      (none-left (load_of w - count) v is)) ∙ d.written

  pub all-counted : next_delivery v ≡ None → count ≡ length (drain_events (load_of w) w)
  all-counted is = let none = ap length (none-left (load_of w - count) v is) in let all = d.many in omega (arith, none, all)

-- the last entries of a log behind an event are what it logged
pub last-of : (w : World) (e : Event) (v : World) (log : List Entry) (n : ℕ) → log ≡ v.log → v ≡ (step w e).world
    → n ≡ length (step w e).turn.logged → drop (length log - n) log ≡ (step w e).turn.logged
last-of w e v log n same is few =
    let whole : log ≡ (step w e).world.log = same ∙ ap (λ (x : World). x.log) is in
    ap (λ (xs : List Entry). drop (length xs - n) xs) whole ∙ ap (λ (k : ℕ). drop (length (step w e).world.log - k) (step w e).world.log) few ∙ last-logged w e

-- the answer on a line, and what the event logged
pub turn-written : (w : World) (e : Event) (answer : Answer) (front line text : List ℕ) (logged : List Entry)
    → front ≡ answer_text answer → answer ≡ (step w e).turn.answer → line ≡ front ++ 10 ∷ []
    → text ≡ line ++ entries_text logged → logged ≡ (step w e).turn.logged → text ≡ turn_text (step w e).turn
turn-written w e answer front line text logged front_is answer_is line_is text_is logged_is =
    text_is ∙ ap (λ (xs : List ℕ). xs ++ entries_text logged) line_is ∙ append_assoc front (10 ∷ []) (entries_text logged)
    ∙ ap (λ (xs : List ℕ). xs ++ 10 ∷ entries_text logged) (front_is ∙ ap answer_text answer_is)
    ∙ ap (λ (xs : List Entry). answer_text (step w e).turn.answer ++ 10 ∷ entries_text xs) logged_is

-- the deliveries of a drain, by whether the group is down
pub draining-down : (w : World) → IsDown w → draining_unless_down w ≡ []
draining-down w down = by (is_down w) refl where
  by : (b : Bool) → is_down w ≡ b → (if b then [] else drain_events (load_of w) w) ≡ []
  by true is = refl
  by false is = absurd (up w is down)

pub draining-up : (w : World) → ¬ (IsDown w) → draining_unless_down w ≡ drain_events (load_of w) w
draining-up w not_down = by (is_down w) refl where
  by : (b : Bool) → is_down w ≡ b → (if b then [] else drain_events (load_of w) w) ≡ drain_events (load_of w) w
  by true is = absurd (not_down (grind (arith, nat_tests)))
  by false is = refl

turns-many : (w : World) (es : List Event) → length (turns_from w es) ≡ length es
turns-many w [] = refl
turns-many w (e ∷ es) = ap suc (turns-many (step w e).world es)

-- what a drain writes
pub drained-is : (w : World) (es : List Event) (count : ℕ) (text end all : List ℕ) → count ≡ length es
    → text ≡ entries_text (log_of (turns_from w es)) → end ≡ codes "drained " ++ (decimal count ++ codes "\n")
    → all ≡ text ++ end
    → all ≡ drained_text (turns_from w es)
drained-is w es count text end all many text_is end_is is =
    is ∙ ap (λ (xs : List ℕ). xs ++ end) text_is ∙ ap (λ (xs : List ℕ). entries_text (log_of (turns_from w es)) ++ xs)
    (end_is ∙ ap (λ (n : ℕ). codes "drained " ++ (decimal n ++ codes "\n")) (many ∙ sym (turns-many w es)))
