-- A payload that was made of a vector written over.
use Rattle.std.proofs.Common.{◌≡◌, ℕ, List, ◌++◌, length, take, Result, Ok, Err, IfOk, sym, ap, ◌∙◌}
use Rattle.std.proofs.Math.Seq.{take-append_seam}

pub delta_is : {E : Type 0} (r : Result (List ℕ) E) (n : ℕ) (dst rest whole : List ℕ) → length dst ≡ n → dst ≡ whole
    → IfOk r (λ p. p ≡ take n (dst ++ rest)) → IfOk r (λ p. p ≡ whole)
delta_is (Ok p) n dst rest whole long is made = made ∙ (ap (λ k. take k (dst ++ rest)) (sym long) ∙ (take-append_seam dst rest ∙ is))
delta_is (Err e) n dst rest whole long is made = tt
