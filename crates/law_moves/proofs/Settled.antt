-- The settled updates of each partition, after a step.
use Rattle.std.proofs.Common.{ℕ, zero, suc, ◌≡◌, ◌≢◌, ◌<◌, ◌≤◌, ◌+◌, ◌⊎◌, inl, inr, List, [], length, refl, sym, ap, ◌∙◌, arith}
use Rattle.std.proofs.lemmas.Bool.{cases_eq}
use Rattle.std.proofs.lemmas.List.{append-nil}
use Rattle.std.specs.List.{range_with_len}
use Rattle.group_types.specs.Lists.{at, put}
use Rattle.group_types.proofs.Lists.{at-put, at-put-other, length-put, put-at}
use Rattle.group_message.specs.declared.update.Update.{Update}
use Rattle.group_run.specs.Applying.{Settlement}
use Rattle.group_run.specs.History.{settled_after, settled_with}

-- partitions below those that are looked at stay as they are
below : (t : List Settlement) (n a d : ℕ) (settled : List (List Update)) → d < a → at [] (settled_after t (range_with_len a n) settled) d ≡ at [] settled d
below t zero a d settled low = refl
below t (suc n) a d settled low =
    let other : d ≢ a = λ (same : d ≡ a). absurd (omega (arith, same)) in
    below t n (a + 1) d (put [] settled a (settled_with t a (at [] settled a))) (omega arith)
    ∙ at-put-other [] settled a d (settled_with t a (at [] settled a)) other

-- the others have what was settled for the first time behind
pub settled-at : (t : List Settlement) (n a d : ℕ) (settled : List (List Update)) → a ≤ d → d < a + n
    → at [] (settled_after t (range_with_len a n) settled) d ≡ settled_with t d (at [] settled d)
settled-at t zero a d settled low high = absurd (omega arith)
settled-at t (suc n) a d settled low high =
    by (cases_eq d a) (λ above. settled-at t n (a + 1) d (put [] settled a (settled_with t a (at [] settled a))) above
    (omega arith)) where
      next : List (List Update)
      next = put [] settled a (settled_with t a (at [] settled a))

      by : (d ≡ a) ⊎ (d ≢ a) → (a + 1 ≤ d → at [] (settled_after t (range_with_len (a + 1) n) next) d ≡ settled_with t d (at [] next d))
          → at [] (settled_after t (range_with_len (a + 1) n) next) d ≡ settled_with t d (at [] settled d)
      by (inl here) later =
          below t n (a + 1) d next (omega (arith, here))
          ∙ ap (λ (e : ℕ). at [] next e) here
          ∙ at-put [] [] settled a (settled_with t a (at [] settled a))
          ∙ ap (λ (e : ℕ). settled_with t e (at [] settled e)) (sym here)
      by (inr other) later =
          later (omega (arith, other))
          ∙ ap (λ (us : List Update). settled_with t d us) (at-put-other [] settled a d (settled_with t a (at [] settled a)) other)

-- where nothing is settled all stay
pub settled-quiet : (n a : ℕ) (settled : List (List Update)) → a + n ≤ length settled → settled_after [] (range_with_len a n) settled ≡ settled
settled-quiet zero a settled within = refl
settled-quiet (suc n) a settled within =
    ap (λ (next : List (List Update)). settled_after [] (range_with_len (a + 1) n) next)
    (ap (λ (us : List Update). put [] settled a us) (append-nil (at [] settled a)) ∙ put-at [] [] settled a (omega arith))
    ∙ settled-quiet n (a + 1) settled (omega arith)

-- as many partitions as before
pub settled-many : (t : List Settlement) (n a : ℕ) (settled : List (List Update)) → a + n ≤ length settled
    → length (settled_after t (range_with_len a n) settled) ≡ length settled
settled-many t zero a settled within = refl
settled-many t (suc n) a settled within =
    let same : length (put [] settled a (settled_with t a (at [] settled a))) ≡ length settled =
    length-put [] settled a (settled_with t a (at [] settled a)) (omega arith) in
    settled-many t n (a + 1) (put [] settled a (settled_with t a (at [] settled a))) (omega (arith, same)) ∙ same
