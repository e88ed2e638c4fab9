-- No session has a number above that of the events, whether its leader lives or not.
use Rattle.std.proofs.Common.{◌≡◌, ◌≢◌, ◌≤◌, ℕ, suc, Bool, true, false, List, [], ◌∷◌, ◌++◌, ◌⊎◌, inl, inr, refl, sym, ap, subst, ◌∙◌, arith}
use Rattle.group_types.specs.Dimensions.{Dimensions}
use Rattle.group_types.specs.Names.{IsProcess}
use Rattle.group_types.specs.declared.process.ProcessId.{ProcessId}
use Rattle.group_types.proofs.Names.{same-cases}
use Rattle.group_calls.specs.declared.event.Event.{Event}
use Rattle.group_run.specs.Applying.{ProcessStep}
use Rattle.group_run.specs.Headline.{IsRun, MayCome}
use Rattle.group_run.specs.History.{History, no_history, prolonged}
use Rattle.group_run.specs.Process.{Process}
use Rattle.group_run.specs.World.{after}
use Rattle.law_moves.specs.State.{State, state_of}
use Rattle.law_moves.proofs.Moves.{Acted, Failed, Moves, Received, Stays, Treated}
use Rattle.law_moves.proofs.Runs.{runs_move}
use Rattle.law_log.specs.Book.{book_of, booked, no_book}
use Rattle.law_log.proofs.Books.{book-history, book-shape, book-world, book_always}
use Rattle.law_answers.specs.Numbers.{NumbersAreLow}
use Rattle.law_answers.proofs.Numbers.{numbers_low_always}

abbrev last : State → ProcessId → ℕ
last v p = (v.process p).as_leader.last_session

-- of those that live, and of those that don't
abbrev LivingLow : Dimensions → ℕ → State → Type 0
LivingLow s n v = (p : ProcessId) → IsProcess s p → v.dead p ≡ false → last v p ≤ n

abbrev DeadLow : Dimensions → ℕ → State → Type 0
DeadLow s n v = (p : ProcessId) → IsProcess s p → v.dead p ≡ true → last v p ≤ n

same-last : (v w : State) (p : ProcessId) (n : ℕ) → w.process p ≡ v.process p → last v p ≤ n → last w p ≤ suc n
same-last v w p n same low = subst (λ (q : Process). q.as_leader.last_session ≤ suc n) (sym same) (omega (arith, low))

acted-low : (s : Dimensions) (n : ℕ) (v u w : State) (x : ProcessId) (t : ProcessStep)
    → ((p : ProcessId) → IsProcess s p → u.process p ≡ v.process p)
    → ((p : ProcessId) → IsProcess s p → u.dead p ≡ v.dead p)
    → IsProcess s x → v.dead x ≡ false → Acted s u w x t → DeadLow s n v → DeadLow s (suc n) w
acted-low s n v u w x t processes dead xin lives acts low p pin died =
    let was : v.dead p ≡ true = sym (dead p pin) ∙ (sym (acts.dead p pin) ∙ died) in
    let other : p ≢ x = λ (same : p ≡ x). cc (was, ap v.dead same, lives) in
    same-last v w p n (acts.others p pin other ∙ processes p pin) (low p pin was)

moved-low : (s : Dimensions) (n : ℕ) (v w : State) → Moves s v w → LivingLow s n v → DeadLow s n v → DeadLow s (suc n) w
moved-low s n v w (Stays same) living low p pin died = same-last v w p n (ap (λ (u : State). u.process p) same)
    (low p pin (sym (ap (λ (u : State). u.dead p) same) ∙ died))
moved-low s n v w (Treated x t xin up lives treats acts) living low p pin died =
    acted-low s n v v w x t (λ p pin. refl) (λ p pin. refl) xin lives acts low p pin died
moved-low s n v w (Received u y x m yin xin apart up lives pops acts) living low p pin died =
    acted-low s n v u w x _ pops.processes pops.dead xin lives acts low p pin died
moved-low s n v w (Failed x keep xin dies) living low p pin died = by (same-cases p x) where
  by : (p ≡ x) ⊎ (p ≢ x) → last w p ≤ suc n
  by (inl same) = same-last v w p n (dies.processes p pin) (living p pin (ap v.dead same ∙ dies.lived))
  by (inr other) = same-last v w p n (dies.processes p pin) (low p pin (sym (dies.others p pin other) ∙ died))

living-low : (s : Dimensions) (h : History) → h.world.shape ≡ s → NumbersAreLow h.world → LivingLow s h.world.events (state_of h)
living-low s h shape low p pin lives = low.sessions p (subst (λ (t : Dimensions). IsProcess t p) (sym shape) pin, lives)

living-always : (s : Dimensions) (es : List Event) → IsRun s es → LivingLow s (book_of s es).history.world.events (state_of (book_of s es).history)
living-always s es run = living-low s (book_of s es).history (book-shape s es) (subst NumbersAreLow (sym (book-world s es)) (numbers_low_always s es run))

dead-always : (s : Dimensions) (es : List Event) → IsRun s es → DeadLow s (book_of s es).history.world.events (state_of (book_of s es).history)
dead-always s es run = book_always s (λ b. DeadLow s b.history.world.events (state_of b.history)) start next es run where
  start : DeadLow s 0 (state_of (no_history s))
  start p pin died = let lives = (runs_move s).opens.living p pin in absurd (cc (lives, died))

  next : (done : List Event) (e : Event) → IsRun s done → IsRun s (done ++ e ∷ []) → MayCome (after s done) e
      → DeadLow s (book_of s done).history.world.events (state_of (book_of s done).history)
      → DeadLow s (booked (book_of s done) e).history.world.events (state_of (booked (book_of s done) e).history)
  next done e ran more may low = moved-low s (book_of s done).history.world.events (state_of (book_of s done).history)
      (state_of (prolonged (book_of s done).history e))
      (subst (λ (h : History). Moves s (state_of h) (state_of (prolonged h e))) (sym (book-history (no_book s) done))
      ((runs_move s).moves done e ran may)) (living-always s done ran) low

pub sessions-low : (s : Dimensions) (es : List Event) → IsRun s es → (p : ProcessId) → IsProcess s p
    → last (state_of (book_of s es).history) p ≤ (book_of s es).history.world.events
sessions-low s es run p pin = by ((state_of (book_of s es).history).dead p) refl where
  by : (b : Bool) → (state_of (book_of s es).history).dead p ≡ b → last (state_of (book_of s es).history) p ≤ (book_of s es).history.world.events
  by true died = dead-always s es run p pin died
  by false lives = living-always s es run p pin lives
