-- A step for each partition: what is left of it, once the first is made.
use Rattle.std.proofs.Common.{ℕ, suc, ◌≡◌, ◌<◌, ◌+◌, ◌-◌, List, [], ◌∷◌, ◌++◌, sym, ap, ◌∙◌, arith}
use Rattle.std.proofs.lemmas.List.{append-nil, append_assoc}
use Rattle.std.specs.List.{range_with_len}
use Rattle.group_run.specs.Applying.{ProcessStep, Sent, Settlement, and_then, for_each}
use Rattle.group_run.specs.Process.{Process}
use Rattle.process_service.specs.Steps.{HasMade}

module _ (f : ℕ → Process → ProcessStep) where
  -- the steps for the partitions from d on, of k
  abbrev pub left : ℕ → ℕ → Process → ProcessStep
  left k d p = for_each (range_with_len d (k - d)) f p

  -- what is made with these behind is what all make
  pub record IsLeft (k d : ℕ) (p : Process) (now : List Settlement) (all : ProcessStep) (before : List Settlement) : Type 0 where
    pub process : (left k d p).process ≡ all.process
    pub settled : now ++ (left k d p).settled ≡ before ++ all.settled

  pub left-step : (k d : ℕ) (p : Process) → d < k → left k d p ≡ and_then (f d p) (left k (d + 1))
  left-step k d p below = let e : k - d ≡ suc (k - (d + 1)) = omega (arith, below) in ap (λ (n : ℕ). for_each (range_with_len d n) f p) e

  pub left-next : (k d : ℕ) (p q : Process) (now next before : List Settlement) (all : ProcessStep) → d < k → HasMade (f d p) now q next
      → IsLeft k d p now all before → IsLeft k (d + 1) q next all before
  left-next k d p q now next before all below made is =
      let first : ProcessStep = f d p in
      let rest : Process → ProcessStep = left k (d + 1) in
      record {
        process = ap (λ (x : Process). (rest x).process) made.process ∙ sym (ap (λ (x : ProcessStep). x.process) (left-step k d p below)) ∙ is.process;
        settled = ap (λ (xs : List Settlement). xs ++ (rest q).settled) made.settled
            ∙ append_assoc now first.settled (rest q).settled
            ∙ ap (λ (x : Process). now ++ (first.settled ++ (rest x).settled)) made.process
            ∙ sym (ap (λ (x : ProcessStep). now ++ x.settled) (left-step k d p below))
            ∙ is.settled;
      }

  pub left-first : (k : ℕ) (p : Process) (before : List Settlement) → IsLeft k 0 p before (for_each (range_with_len 0 k) f p) before
  left-first k p before =
      let e : k - 0 ≡ k = omega arith in
      record {
        process = ap (λ (n : ℕ). (for_each (range_with_len 0 n) f p).process) e;
        settled = ap (λ (n : ℕ). before ++ (for_each (range_with_len 0 n) f p).settled) e;
      }

  pub left-last : (k d : ℕ) (p : Process) (now before : List Settlement) (all : ProcessStep) → k - d ≡ 0
      → IsLeft k d p now all before → HasMade all before p now
  left-last k d p now before all done is =
      let e : left k d p ≡ record { process = p; sent = []; settled = [] } = ap (λ (n : ℕ). for_each (range_with_len d n) f p) done in
      record {
        process = sym (ap (λ (x : ProcessStep). x.process) e) ∙ is.process;
        settled = sym (append-nil now) ∙ sym (ap (λ (x : ProcessStep). now ++ x.settled) e) ∙ is.settled;
      }

-- the partitions that are left, the first of them in front
pub range-front : (d k : ℕ) → d < k → range_with_len d (k - d) ≡ d ∷ range_with_len (d + 1) (k - (d + 1))
range-front d k below = let e : k - d ≡ suc (k - (d + 1)) = omega (arith, below) in ap (range_with_len d) e

-- a step by its parts
pub step-is : (x : ProcessStep) (p : Process) (sent : List Sent) (settled : List Settlement) → x.process ≡ p → x.sent ≡ sent → x.settled ≡ settled
    → x ≡ record { process = p; sent = sent; settled = settled }
step-is x p sent settled p-is sent-is settled-is =
    ap (λ (q : Process). record { process = q; sent = x.sent; settled = x.settled }) p-is
    ∙ ap (λ (xs : List Sent). record { process = p; sent = xs; settled = x.settled }) sent-is
    ∙ ap (λ (xs : List Settlement). record { process = p; sent = sent; settled = xs }) settled-is
