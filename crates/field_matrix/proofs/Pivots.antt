-- No step of the elimination of a Cauchy square meets a pivot of 0: what a step leaves below and
-- right of its pivot, times the sums of the bytes of its row and column, is a product of a row's
-- byte and a column's byte again. Those bytes are powers here, and their exponents are kept.
use Rattle.std.proofs.Common.{◌≡◌, ◌≢◌, ℕ, zero, suc, ◌+◌, ◌-◌, ◌<◌, ◌≤◌, bit_xor, inl, inr, sym, ap, ap₂, ◌∙◌, arith}
use Rattle.std.specs.Int.Bits.{xor_self, xor_zero_r}
use Rattle.std.proofs.lemmas.Bool.{cases_eq}
use Rattle.std.proofs.lemmas.Nat.Bits.{same_from_bits, bit_at_xor}
use Rattle.field_byte.specs.Field.{product, inverse, power}
use Rattle.field_byte.proofs.Sums.{sum_lt, same_from_sum_zero}
use Rattle.field_byte.proofs.Powers.{log, power_zero, log_of_byte, power_add, power_lt, power_nonzero, turn_more}
use Rattle.field_byte.proofs.Products.{product_lt, product_comm, product_assoc, product_sum_l, product_sum_r}
use Rattle.field_byte.proofs.Products.{product_one_r, product_zero_r, product_of_turn, product_inverse, inverse_lt}
use Rattle.field_byte.proofs.Products.{nonzero_factor}
use Rattle.field_matrix.specs.Grids.{Grid, unit, HasBytes}
use Rattle.field_matrix.specs.Cauchy.{IsCauchy}
use Rattle.field_matrix.specs.Steps.{divided, step}
use Rattle.field_matrix.proofs.Products.{unit_same, unit_other}
use Rattle.field_matrix.proofs.Steps.{step_here, step_other, work_after, HasBytes-work}

-- the exponent of the inverse
abbrev colog : ℕ → ℕ
colog a = 255 - log a

-- a factor goes to the other side as its inverse
quotient : (d w s : ℕ) → d < 256 → w < 256 → d ≢ 0 → product d w ≡ power s → w ≡ power (s + colog d)
quotient d w s d_byte w_byte nonzero is =
    sym (product_one_r w w_byte)
    ∙ (ap (product w) (sym (product_of_turn d d_byte nonzero))
    ∙ (sym (product_assoc w d (power (colog d)) w_byte d_byte (power_lt (colog d)))
    ∙ (ap (λ x. product x (power (colog d))) (product_comm w d w_byte d_byte ∙ is) ∙ power_add s (colog d))))

expanded : (a b c d : ℕ) → a < 256 → b < 256 → c < 256 → d < 256
    → product (bit_xor a b) (bit_xor c d) ≡ bit_xor (bit_xor (product a c) (product a d)) (bit_xor (product b c) (product b d))
expanded a b c d a_byte b_byte c_byte d_byte =
    product_sum_l a b (bit_xor c d) a_byte b_byte ∙ ap₂ bit_xor (product_sum_r a c d a_byte c_byte d_byte) (product_sum_r b c d b_byte c_byte d_byte)

cancelled : (a b c d f g : ℕ) → bit_xor (bit_xor (bit_xor a b) (bit_xor c d)) (bit_xor (bit_xor a f) (bit_xor g d)) ≡ bit_xor (bit_xor b f) (bit_xor g c)
cancelled a b c d f g = same_from_bits _ _ (λ i. simp bit_at_xor (omega arith))

-- the sums of two rows and two columns, multiplied crosswise
cross : (x y x0 y0 : ℕ) → x < 256 → y < 256 → x0 < 256 → y0 < 256
    → bit_xor (product (bit_xor x y0) (bit_xor x0 y)) (product (bit_xor x y) (bit_xor x0 y0)) ≡ product (bit_xor x x0) (bit_xor y y0)
cross x y x0 y0 x_byte y_byte x0_byte y0_byte =
    let left = expanded x y0 x0 y x_byte y0_byte x0_byte y_byte in
    let right = expanded x y x0 y0 x_byte y_byte x0_byte y0_byte in
    let all = expanded x x0 y y0 x_byte x0_byte y_byte y0_byte in
    ap₂ bit_xor
    (left ∙ ap (bit_xor (bit_xor (product x x0) (product x y))) (ap₂ bit_xor (product_comm y0 x0 y0_byte x0_byte) (product_comm y0 y y0_byte y_byte)))
    (right ∙ ap (λ k. bit_xor (bit_xor (product x x0) (product x y0)) (bit_xor k (product y y0))) (product_comm y x0 y_byte x0_byte))
    ∙ (cancelled (product x x0) (product x y) (product x0 y0) (product y y0) (product x y0) (product x0 y) ∙ sym all)

-- one entry: a in row i and column j, b in row i and e in column j beside the pivot q, whose
-- inverse is c; the sums of the bytes of their rows and columns are dij, dip, dpj and dpp
module _ (dij dip dpj dpp x y : ℕ) (dij_byte : dij < 256) (dip_byte : dip < 256) (dpj_byte : dpj < 256)
    (dpp_byte : dpp < 256) (x_byte : x < 256) (y_byte : y < 256)
    (dij_nonzero : dij ≢ 0) (dip_nonzero : dip ≢ 0) (dpj_nonzero : dpj ≢ 0) (dpp_nonzero : dpp ≢ 0) (x_nonzero : x ≢ 0) (y_nonzero : y ≢ 0)
    (crosswise : bit_xor (product dip dpj) (product dij dpp) ≡ product x y) (ui up vj vp : ℕ) where
  kept : ℕ
  kept = ui + vj + colog dip + colog dpj

  -- what stood there
  first_part : (a : ℕ) → product dij a ≡ power (ui + vj) → product dij a ≡ product (power kept) (product dip dpj)
  unfolding kept
  first_part a is =
      let ip = log_of_byte dip dip_byte dip_nonzero in
      let pj = log_of_byte dpj dpj_byte dpj_nonzero in
      let sides : product dip dpj ≡ power (log dip + log dpj) = ap₂ product (sym ip.power) (sym pj.power) ∙ power_add (log dip) (log dpj) in
      is ∙ (sym (turn_more (ui + vj)) ∙ (sym (turn_more (ui + vj + 255))
      ∙ (ap power (omega (arith, ip.below, pj.below)) ∙ (sym (power_add kept (log dip + log dpj)) ∙ ap (product (power kept)) (sym sides)))))

  -- what the step adds
  second_part : (b c e q : ℕ) → b < 256 → c < 256 → e < 256 → q < 256
      → product dip b ≡ power (ui + vp) → product dpj e ≡ power (up + vj) → product dpp q ≡ power (up + vp) → product q c ≡ 1
      → product dij (product b (product c e)) ≡ product (power kept) (product dij dpp)
  unfolding kept
  second_part b c e q b_byte c_byte e_byte q_byte b_is e_is q_is inverts =
      let ij = log_of_byte dij dij_byte dij_nonzero in
      let pp = log_of_byte dpp dpp_byte dpp_nonzero in
      let c_nonzero = nonzero_factor c q (product_comm c q c_byte q_byte ∙ inverts) in
      let c_log = log_of_byte c c_byte c_nonzero in
      let b_power = quotient dip b (ui + vp) dip_byte b_byte dip_nonzero b_is in
      let e_power = quotient dpj e (up + vj) dpj_byte e_byte dpj_nonzero e_is in
      let q_power = quotient dpp q (up + vp) dpp_byte q_byte dpp_nonzero q_is in
      let turn : power (up + vp + colog dpp + log c) ≡ 1 = sym (power_add (up + vp + colog dpp) (log c)) ∙ (ap₂ product (sym q_power) c_log.power ∙ inverts) in
      let sides : product dij dpp ≡ power (log dij + log dpp) = ap₂ product (sym ij.power) (sym pp.power) ∙ power_add (log dij) (log dpp) in
      let middle : product c e ≡ power (log c + (up + vj + colog dpj)) = ap₂ product (sym c_log.power) e_power ∙ power_add (log c) (up + vj + colog dpj) in
      let added : product b (product c e) ≡ power (ui + vp + colog dip + (log c + (up + vj + colog dpj))) =
      ap₂ product b_power middle ∙ power_add (ui + vp + colog dip) (log c + (up + vj + colog dpj)) in
      ap₂ product (sym ij.power) added
      ∙ (power_add (log dij) (ui + vp + colog dip + (log c + (up + vj + colog dpj)))
      ∙ (sym (turn_more (log dij + (ui + vp + colog dip + (log c + (up + vj + colog dpj)))))
      ∙ (ap power (omega (arith, pp.below))
      ∙ (sym (power_add (kept + (log dij + log dpp)) (up + vp + colog dpp + log c))
      ∙ (ap (product (power (kept + (log dij + log dpp)))) turn
      ∙ (product_one_r _ (power_lt (kept + (log dij + log dpp)))
      ∙ (sym (power_add kept (log dij + log dpp)) ∙ ap (product (power kept)) (sym sides))))))))

  pub entry_after : (a b c e q : ℕ) → a < 256 → b < 256 → c < 256 → e < 256 → q < 256
      → product dij a ≡ power (ui + vj) → product dip b ≡ power (ui + vp) → product dpj e ≡ power (up + vj) → product dpp q ≡ power (up + vp) → product q c ≡ 1
      → product dij (bit_xor a (product b (product c e))) ≡ power (ui + log x + colog dip + (vj + log y + colog dpj))
  unfolding kept
  entry_after a b c e q a_byte b_byte c_byte e_byte q_byte a_is b_is e_is q_is inverts =
      let x_log = log_of_byte x x_byte x_nonzero in
      let y_log = log_of_byte y y_byte y_nonzero in
      product_sum_r dij a (product b (product c e)) dij_byte a_byte (product_lt b _ b_byte)
      ∙ (ap₂ bit_xor (first_part a a_is) (second_part b c e q b_byte c_byte e_byte q_byte b_is e_is q_is inverts)
      ∙ (sym (product_sum_r (power kept) (product dip dpj) (product dij dpp) (power_lt kept) (product_lt dip dpj dip_byte) (product_lt dij dpp dij_byte))
      ∙ (ap (product (power kept)) (crosswise ∙ (ap₂ product (sym x_log.power) (sym y_log.power) ∙ power_add (log x) (log y)))
      ∙ (power_add kept (log x + log y) ∙ ap power (omega arith)))))

-- the sum of the bytes of a row and a column
abbrev pub side : {n : ℕ} {a : Grid} → IsCauchy n a → Grid
side cauchy i j = bit_xor (cauchy.x i) (cauchy.y j)

-- after p steps: p columns are done, and the rest has the form of its rows' and columns' powers
pub record Reduced (n p : ℕ) (w d : Grid) : Type 0 where
  pub u : ℕ → ℕ
  pub v : ℕ → ℕ
  pub units : (i j : ℕ) → i < n → j < p → w i j ≡ unit i j
  pub entries : (i j : ℕ) → p ≤ i → i < n → p ≤ j → j < n → product (d i j) (w i j) ≡ power (u i + v j)

module _ (n : ℕ) (a : Grid) (cauchy : IsCauchy n a) where
  side_byte : (i j : ℕ) → i < n → j < n → side cauchy i j < 256
  side_byte i j i_below j_below = sum_lt _ _ (cauchy.x_bytes i i_below) (cauchy.y_bytes j j_below)

  side_nonzero : (i j : ℕ) → i < n → j < n → side cauchy i j ≢ 0
  side_nonzero i j i_below j_below = nonzero_factor _ (a i j) (cauchy.inverses i j i_below j_below)

  reduced_first : Reduced n 0 a (side cauchy)
  reduced_first = record {
    u = λ i. 0;
    v = λ j. 0;
    units = λ i j i_below j_below. absurd (omega arith);
    entries = λ i j _ i_below _ j_below. cauchy.inverses i j i_below j_below ∙ sym power_zero;
  }

  module _ (p : ℕ) (w : Grid) (bytes : HasBytes n w) (within : p < n) (reduced : Reduced n p w (side cauchy)) where
    pub pivot_nonzero : w p p ≢ 0
    pivot_nonzero is_zero =
        power_nonzero (reduced.u p + reduced.v p)
        (sym (reduced.entries p p (omega arith) within (omega arith) within) ∙ (ap (product (side cauchy p p)) is_zero ∙ product_zero_r (side cauchy p p)))

    inverts : product (w p p) (inverse (w p p)) ≡ 1
    inverts = product_inverse (w p p) (bytes p p within within) pivot_nonzero

    -- the divided row is 1 at the pivot and 0 before it
    divided_pivot : divided p w w p ≡ 1
    divided_pivot = product_comm (inverse (w p p)) (w p p) (inverse_lt (w p p)) (bytes p p within within) ∙ inverts

    divided_before : (j : ℕ) → j < p → divided p w w j ≡ 0
    divided_before j before =
        ap (product (inverse (w p p))) (reduced.units p j within before ∙ unit_other p j (λ same. omega arith)) ∙ product_zero_r (inverse (w p p))

    divided_unit : (j : ℕ) → j < suc p → divided p w w j ≡ unit p j
    divided_unit j below = elim (cases_eq j p) [
      | inl here ↦ ap (divided p w w) here ∙ (divided_pivot ∙ (sym (unit_same p) ∙ ap (unit p) (sym here)))
      | inr other ↦ divided_before j (omega arith) ∙ sym (unit_other p j (λ same. other (sym same)))
    ]

    cleared : (i j : ℕ) → i < n → i ≢ p → j < suc p → bit_xor (w i j) (product (w i p) (divided p w w j)) ≡ unit i j
    cleared i j i_below other below = elim (cases_eq j p) [
      | inl here ↦
          ap₂ bit_xor (ap (w i) here) (ap (product (w i p)) (ap (divided p w w) here ∙ divided_pivot) ∙ product_one_r (w i p) (bytes i p i_below within))
          ∙ (xor_self (w i p) ∙ sym (unit_other i j (λ same. other (same ∙ here))))
      | inr before ↦
          ap (bit_xor (w i j)) (ap (product (w i p)) (divided_before j (omega arith)) ∙ product_zero_r (w i p))
          ∙ (xor_zero_r (w i j) ∙ reduced.units i j i_below (omega arith))
    ]

    units_after : (i j : ℕ) → i < n → j < suc p → step p w w i j ≡ unit i j
    units_after i j i_below below = elim (cases_eq i p) [
      | inl here ↦ ap (λ r. step p w w r j) here ∙ (step_here p w w j ∙ (divided_unit j below ∙ ap (λ r. unit r j) (sym here)))
      | inr other ↦ step_other p w w i j other ∙ cleared i j i_below other below
    ]

    row_part : ℕ → ℕ
    row_part i = reduced.u i + log (bit_xor (cauchy.x i) (cauchy.x p)) + colog (side cauchy i p)

    column_part : ℕ → ℕ
    column_part j = reduced.v j + log (bit_xor (cauchy.y j) (cauchy.y p)) + colog (side cauchy p j)

    entries_after : (i j : ℕ) → suc p ≤ i → i < n → suc p ≤ j → j < n → product (side cauchy i j) (step p w w i j) ≡ power (row_part i + column_part j)
    unfolding row_part column_part
    entries_after i j i_after i_below j_after j_below =
        let other : i ≢ p = omega arith in
        let rows_differ : bit_xor (cauchy.x i) (cauchy.x p) ≢ 0 = λ is_zero. other (cauchy.x_differ i p i_below within (same_from_sum_zero _ _ is_zero)) in
        let columns_differ : bit_xor (cauchy.y j) (cauchy.y p) ≢ 0 =
        λ is_zero. omega (arith, cauchy.y_differ j p j_below within (same_from_sum_zero _ _ is_zero)) in
        let xi = cauchy.x_bytes i i_below in
        let yj = cauchy.y_bytes j j_below in
        let xp = cauchy.x_bytes p within in
        let yp = cauchy.y_bytes p within in
        ap (product (side cauchy i j)) (step_other p w w i j other)
        ∙ entry_after (side cauchy i j) (side cauchy i p) (side cauchy p j) (side cauchy p p)
        (bit_xor (cauchy.x i) (cauchy.x p)) (bit_xor (cauchy.y j) (cauchy.y p))
        (side_byte i j i_below j_below) (side_byte i p i_below within) (side_byte p j within j_below)
        (side_byte p p within within) (sum_lt _ _ xi xp) (sum_lt _ _ yj yp)
        (side_nonzero i j i_below j_below) (side_nonzero i p i_below within) (side_nonzero p j within j_below)
        (side_nonzero p p within within) rows_differ columns_differ
        (cross (cauchy.x i) (cauchy.y j) (cauchy.x p) (cauchy.y p) xi yj xp yp) (reduced.u i) (reduced.u p) (reduced.v j) (reduced.v p)
        (w i j) (w i p) (inverse (w p p)) (w p j) (w p p) (bytes i j i_below j_below) (bytes i p i_below within)
        (inverse_lt (w p p)) (bytes p j within j_below) (bytes p p within within)
        (reduced.entries i j (omega arith) i_below (omega arith) j_below) (reduced.entries i p (omega arith) i_below (omega arith) within)
        (reduced.entries p j (omega arith) within (omega arith) j_below) (reduced.entries p p (omega arith) within (omega arith) within) inverts

    reduced_more : Reduced n (suc p) (step p w w) (side cauchy)
    reduced_more = record { u = row_part; v = column_part; units = units_after; entries = entries_after }

  -- the form holds after each step
  pub reduced_after : (p : ℕ) → p ≤ n → HasBytes n a → Reduced n p (work_after p a) (side cauchy)
  unfolding work_after
  reduced_after zero within bytes = reduced_first
  reduced_after (suc p) within bytes = reduced_more p (work_after p a) (HasBytes-work n p a (omega arith) bytes)
      (omega arith) (reduced_after p (omega arith) bytes)
