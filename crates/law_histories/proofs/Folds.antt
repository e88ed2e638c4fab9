-- What comes of messages that are received one after the other, and the laws of it, told once for any state and any step.
use Rattle.std.proofs.Common.{ℕ, zero, suc, ◌≡◌, List, [], ◌∷◌, ◌++◌, take, refl}

module _ {S M : Type 0} (next : S → M → S) where
  -- the state after messages, in order
  abbrev pub run : S → List M → S
  run s [] = s
  run s (m ∷ ms) = run (next s m) ms

  -- each message fits the state in which it comes
  abbrev pub Along : (S → M → Type 0) → S → List M → Type 0
  Along Ok s [] = Unit {0}
  Along Ok s (m ∷ ms) = Ok s m × Along Ok (next s m) ms

  -- messages behind others come to the state that those leave
  pub run-append : (s : S) (ms ns : List M) → run s (ms ++ ns) ≡ run (run s ms) ns
  run-append s [] ns = refl
  run-append s (m ∷ ms) ns = run-append (next s m) ms ns

  pub along-append : (Ok : S → M → Type 0) (s : S) (ms ns : List M) → Along Ok s ms → Along Ok (run s ms) ns → Along Ok s (ms ++ ns)
  along-append Ok s [] ns fits rest = rest
  along-append Ok s (m ∷ ms) ns fits rest = (fits.0, along-append Ok (next s m) ms ns fits.1 rest)

  -- the first messages of a link fit by themselves: a link that is cut still fits
  pub along-take : (Ok : S → M → Type 0) (n : ℕ) (s : S) (ms : List M) → Along Ok s ms → Along Ok s (take n ms)
  along-take Ok zero s ms fits = tt
  along-take Ok (suc n) s [] fits = tt
  along-take Ok (suc n) s (m ∷ ms) fits = (fits.0, along-take Ok n (next s m) ms fits.1)

  -- what fits a stronger condition fits a weaker one
  pub along-weaker : (Ok Weak : S → M → Type 0) → ((s : S) (m : M) → Ok s m → Weak s m) → (s : S) (ms : List M) → Along Ok s ms → Along Weak s ms
  along-weaker Ok Weak weaker s [] fits = tt
  along-weaker Ok Weak weaker s (m ∷ ms) fits = (weaker s m fits.0, along-weaker Ok Weak weaker (next s m) ms fits.1)
