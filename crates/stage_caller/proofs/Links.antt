-- The two processes of a place near a route differ, so where no link stands at it none is left.
use Rattle.std.proofs.Common.{ℕ, zero, suc, ◌≡◌, ◌≢◌, ◌<◌, ◌≤◌, ◌+◌, ◌-◌, ◌%◌, refl, sym, ap, ◌∙◌, arith}
use Rattle.std.proofs.Math.Nat.{add-mod_left, mod-eq_of_lt, mod-lt}
use Rattle.std.proofs.lemmas.Grind.{common_steps}
use Rattle.std.specs.Prelude.{Bool, true, false, nat_lt, Option, Some, None, IfNone}
use Rattle.group_types.specs.Names.{of_rank}
use Rattle.group_types.specs.declared.process.ProcessId.{ProcessId}

-- whoever goes on by fewer places than there are, and by one at least, comes to another place
pub turned-apart : (n x r : ℕ) → x < n → 0 < r → r < n → (x + r) % n ≢ x
turned-apart n x r low some short same = by (nat_lt (x + r) n) refl
  where
    by : (b : Bool) → nat_lt (x + r) n ≡ b → ⊥
    by true within =
        let less : x + r < n = grind (arith, common_steps) in
        let stays : (x + r) % n ≡ x + r = mod-eq_of_lt less in
        omega (arith, some, same, stays)
    by false beyond =
        let more : n ≤ x + r = grind (arith, common_steps) in
        let k : ℕ = x + r - n in
        let split : n + k ≡ x + r = omega (arith, more) in
        let fewer : k < n = omega (arith, split, low, short) in
        let turned : (x + r) % n ≡ k = ap (λ (m : ℕ). m % n) (sym split) ∙ add-mod_left n k ∙ mod-eq_of_lt fewer in
        omega (arith, same, turned, split, short)

rank-one : (d q r : ℕ) → of_rank d q ≡ of_rank d r → q ≡ r
rank-one d zero zero same = refl
rank-one d zero (suc r) same = absurd (cc same)
rank-one d (suc q) zero same = absurd (cc same)
rank-one d (suc q) (suc r) same = cc same

-- a process of the partition and the one some ranks further
pub ranks-apart : (d m rank place further : ℕ) (one other : ProcessId) → 0 < m → rank ≤ m → further ≡ (rank + (1 + place % m) % (m + 1)) % (m + 1)
    → one ≡ of_rank d rank → other ≡ of_rank d further → one ≢ other
ranks-apart d m rank place further one other some within is one_is other_is same =
    let low : place % m < m = mod-lt place some in
    let step : (1 + place % m) % (m + 1) ≡ 1 + place % m = mod-eq_of_lt (omega (arith, low)) in
    turned-apart (m + 1) rank (1 + place % m) (omega (arith, within)) (omega arith) (omega (arith, low))
    (ap (λ (k : ℕ). (rank + k) % (m + 1)) (sym step) ∙ sym is ∙ sym (rank-one d rank further (sym one_is ∙ same ∙ other_is)))

-- none stands where it would say what is not so
pub none-where : {A : Type 0} (r : Option A) (P Q : Type 0) → IfNone r P → ¬ P → IfNone r Q
none-where None P Q is not = absurd (not is)
none-where (Some a) P Q is not = tt
