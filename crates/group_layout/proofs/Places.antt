-- Places of processes on nodes.
use Rattle.std.proofs.Common.{ℕ, suc, ◌≡◌, ◌<◌, ◌≤◌, ◌+◌, ◌-◌, ◌%◌, ◌==◌, true, false, Bool, Some, if◌then◌else◌, ◌⊎◌, inl, inr, sym, ap, ◌∙◌, arith}
use Rattle.std.specs.List.{range_with_len}
use Rattle.std.proofs.Math.Nat.{mod-add-mod, mod-eq_of_lt, mod-eq-sub-mod}
use Rattle.std.proofs.lemmas.Bool.{cases_lt}
use Rattle.std.proofs.lemmas.Nat.{mod_below}
use Rattle.group_layout.specs.Layout.{OneANode, first_on, node_of}

-- a number that is added and leaves no trace is none
no-trace : (n r d : ℕ) → r < n → d < n → (r + d) % n ≡ r → d ≡ 0
no-trace n r d rl dl same = by (cases_lt (r + d) n) where
  by : (r + d < n) ⊎ (n ≤ r + d) → d ≡ 0
  by (inl low) = let is : (r + d) % n ≡ r + d = mod-eq_of_lt low in omega (arith, is, same)
  by (inr high) =
      let once : (r + d) % n ≡ (r + d - n) % n = mod-eq-sub-mod high in
      let is : (r + d - n) % n ≡ r + d - n = mod-eq_of_lt (omega (arith, rl, dl, high)) in
      omega (arith, once, is, same, rl, dl, high)

-- of two numbers less than n apart that leave the same rest, the first isn't lower
no-lower : (n a d : ℕ) → d < n → a % n ≡ (a + d) % n → d ≡ 0
no-lower n a d dl same =
    let some : 0 < n = omega (arith, dl) in
    no-trace n (a % n) d (mod_below a n some) dl (mod-add-mod a n d ∙ sym same)

pub one_a_node : OneANode
one_a_node n count j q r wide ql rl same = by (cases_lt q r) where
  by : (q < r) ⊎ (r ≤ q) → q ≡ r
  by (inl low) =
      let there : j + r ≡ j + q + (r - q) = omega (arith, low) in
      let none : r - q ≡ 0 = no-lower n (j + q) (r - q) (omega (arith, rl, wide)) (same ∙ ap (λ (x : ℕ). x % n) there) in
      omega (arith, none, low)
  by (inr high) =
      let there : j + q ≡ j + r + (q - r) = omega (arith, high) in
      let none : q - r ≡ 0 = no-lower n (j + r) (q - r) (omega (arith, ql, wide)) (sym same ∙ ap (λ (x : ℕ). x % n) there) in
      omega (arith, none, high)

-- where the first of some processes isn't there, the next are looked through
pub first-next : (n node j q m : ℕ) → (node_of n j q == node) ≡ false → first_on n node j (range_with_len q (suc m))
    ≡ first_on n node j (range_with_len (q + 1) m)
first-next n node j q m word = ap (λ (b : Bool). if b then Some q else first_on n node j (range_with_len (q + 1) m)) word

pub first-here : (n node j q m : ℕ) → (node_of n j q == node) ≡ true → first_on n node j (range_with_len q (suc m)) ≡ Some q
first-here n node j q m word = ap (λ (b : Bool). if b then Some q else first_on n node j (range_with_len (q + 1) m)) word
