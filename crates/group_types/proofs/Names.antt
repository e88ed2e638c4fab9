use Rattle.std.proofs.Common.{ℕ, ◌≡◌, ◌≢◌, ◌<◌, ◌≤◌, ◌+◌, ◌-◌, nat_lt, Bool, true, false}
use Rattle.std.proofs.Common.{if◌then◌else◌, ◌⊎◌, inl, inr, refl, sym, ap, ◌∙◌, arith}
use Rattle.std.proofs.lemmas.Grind.{common_steps}
use Rattle.group_types.specs.Dimensions.{Dimensions}
use Rattle.group_types.specs.Names.{IsProcess, index_of, process_at, same_process}
use Rattle.group_types.specs.declared.process.ProcessId.{ProcessId}
use Rattle.group_types.specs.declared.process.ProcessId.TheVariants.{DataNode, ParityNode}

-- the process at its index is it
pub process_at-index : (s : Dimensions) (p : ProcessId) → IsProcess s p → process_at s (index_of s p) ≡ p
process_at-index s (DataNode d) within = let low : nat_lt d s.k ≡ true = grind (arith, common_steps) in
    ap (λ (b : Bool). if b then DataNode d else ParityNode (d - s.k)) low
process_at-index s (ParityNode i) within =
    let high : nat_lt (s.k + i) s.k ≡ false = grind (arith, common_steps) in
    ap (λ (b : Bool). if b then DataNode (s.k + i) else ParityNode (s.k + i - s.k)) high ∙ ap ParityNode (omega arith)

-- each process of the group has an index in it
pub index-below : (s : Dimensions) (p : ProcessId) → IsProcess s p → index_of s p < s.k + s.m
index-below s (DataNode d) within = omega arith
index-below s (ParityNode i) within = omega arith

-- two processes of the group with one index are one
pub index-one : (s : Dimensions) (p q : ProcessId) → IsProcess s p → IsProcess s q → index_of s p ≡ index_of s q → p ≡ q
index-one s p q pin qin same = sym (process_at-index s p pin) ∙ ap (process_at s) same ∙ process_at-index s q qin

pub same-refl : (p : ProcessId) → same_process p p ≡ true
same-refl (DataNode d) = grind (arith, common_steps)
same-refl (ParityNode i) = grind (arith, common_steps)

-- names that pass the test are equal
pub same-eq : (p q : ProcessId) → same_process p q ≡ true → p ≡ q
same-eq (DataNode a) (DataNode b) same = ap DataNode (grind (arith, common_steps))
same-eq (ParityNode a) (ParityNode b) same = ap ParityNode (grind (arith, common_steps))
same-eq (DataNode a) (ParityNode b) same = absurd (cc same)
same-eq (ParityNode a) (DataNode b) same = absurd (cc same)

-- names that differ don't
pub same-ne : (p q : ProcessId) → p ≢ q → same_process p q ≡ false
same-ne p q other = by (same_process p q) refl where
  by : (b : Bool) → same_process p q ≡ b → same_process p q ≡ false
  by true e = absurd (other (same-eq p q e))
  by false e = e

-- two names are of one process, or not
pub same-cases : (p q : ProcessId) → (p ≡ q) ⊎ (p ≢ q)
same-cases p q = by (same_process p q) refl where
  by : (b : Bool) → same_process p q ≡ b → (p ≡ q) ⊎ (p ≢ q)
  by true e = inl (same-eq p q e)
  by false e = inr (λ (same : p ≡ q). cc (e, same-refl p, ap (same_process p) same))

-- the index of the process at an index
pub index-process_at : (s : Dimensions) (x : ℕ) → index_of s (process_at s x) ≡ x
index-process_at s x = by (nat_lt x s.k) refl where
  by : (b : Bool) → nat_lt x s.k ≡ b → index_of s (if b then DataNode x else ParityNode (x - s.k)) ≡ x
  by true low = refl
  by false high = let above : s.k ≤ x = grind (arith, common_steps) in omega arith

-- it is a process of the group
pub process_at-in : (s : Dimensions) (x : ℕ) → x < s.k + s.m → IsProcess s (process_at s x)
process_at-in s x below = by (nat_lt x s.k) refl where
  by : (b : Bool) → nat_lt x s.k ≡ b → IsProcess s (if b then DataNode x else ParityNode (x - s.k))
  by true low = grind (arith, common_steps)
  by false high = let above : s.k ≤ x = grind (arith, common_steps) in omega arith
