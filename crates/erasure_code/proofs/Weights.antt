-- The closed form of a Cauchy square's inverse inverts it.
use Rattle.std.proofs.Common.{◌≡◌, ◌≢◌, ℕ, zero, suc, ◌+◌, ◌<◌, ◌≤◌, List, [], ◌∷◌, length, bit_xor, inl, inr, sym, ap, ap₂, ◌∙◌, refl, arith}
use Rattle.std.specs.Int.Bits.{xor_assoc, xor_self, xor_zero_l, xor_zero_r}
use Rattle.std.proofs.lemmas.Nat.{xor_comm}
use Rattle.field_byte.specs.Field.{product, inverse}
use Rattle.field_byte.proofs.Sums.{sum_lt, same_from_sum_zero}
use Rattle.field_byte.proofs.Products.{product_lt, product_zero_r, product_comm, product_assoc, product_one_l}
use Rattle.field_byte.proofs.Products.{product_one_r, product_nonzero, zero_factor, product_inverse, inverse_lt}
use Rattle.erasure_code.specs.Code.{coefficient, others_than, product_over, weight}
use Rattle.erasure_code.proofs.Partitions.{sum_over}
use Rattle.erasure_code.proofs.Nodes.{Among, Apart, AreNodes, GivesBytes, among_others, difference, gaps, gaps_byte}
use Rattle.erasure_code.proofs.Nodes.{gaps_nonzero, inverse_product, one_factor, others_among, others_apart}
use Rattle.erasure_code.proofs.Nodes.{others_here, others_length, others_nodes, others_none, others_there, over_same}
use Rattle.erasure_code.proofs.Nodes.{over_times, product_byte, product_is_nonzero, product_out, product_same}
use Rattle.erasure_code.proofs.Nodes.{taken_out, over_byte}

-- the difference of a constant over so many nodes more than one
level : ℕ → ℕ
level zero = product 1 (inverse 1)
level (suc n) = 0

constants : (n : ℕ) (zs : List ℕ) → length zs ≡ suc n → AreNodes zs → difference zs (λ w. 1) ≡ level n
unfolding sum_over level
constants zero [] long nodes = absurd (omega (arith, long))
constants zero (z ∷ []) long nodes =
    xor_zero_r (product 1 (inverse (gaps (z ∷ []) z))) ∙ ap (λ ys. product 1 (inverse (product_over ys (λ r. bit_xor z r)))) (others_here z [])
constants zero (z ∷ x ∷ xs) long nodes = absurd (omega (arith, long))
constants (suc n) [] long nodes = absurd (omega (arith, long))
constants (suc n) (z ∷ []) long nodes = absurd (omega (arith, long))
constants (suc n) (z ∷ x ∷ xs) long nodes =
    let zs = z ∷ x ∷ xs in
    let one : ℕ → ℕ = λ w. 1 in
    let bytes : GivesBytes zs one = λ w among. omega arith in
    let z_byte = nodes.1 z (inl refl) in
    let x_byte = nodes.1 x (inr (inl refl)) in
    let without_z = constants n (others_than z zs) (omega (arith, long, others_length z zs nodes.0 (inl refl))) (others_nodes z zs nodes) in
    let without_x = constants n (others_than x zs) (omega (arith, long, others_length x zs nodes.0 (inr (inl refl)))) (others_nodes x zs nodes) in
    let both : level n ≡ bit_xor (level n) (product (bit_xor z x) (difference zs one)) =
    sym (taken_out zs x one nodes (inr (inl refl)) bytes ∙ without_x)
    ∙ (one_factor zs z x one nodes (inl refl) x_byte bytes ∙ ap (λ v. bit_xor v (product (bit_xor z x) (difference zs one))) without_z) in
    let none : product (bit_xor z x) (difference zs one) ≡ 0 =
    sym (xor_zero_l _) ∙ (ap (λ v. bit_xor v (product (bit_xor z x) (difference zs one))) (sym (xor_self (level n)))
    ∙ (xor_assoc (level n) (level n) _ ∙ (ap (bit_xor (level n)) (sym both) ∙ xor_self (level n)))) in
    elim (zero_factor (bit_xor z x) (difference zs one) (sum_lt z x z_byte x_byte)
    (over_byte zs (λ w. product 1 (inverse (gaps zs w)))
    (λ w among. product_lt 1 (inverse (gaps zs w)) (omega arith))) none) [
      | inl same ↦ absurd (nodes.0.0 (inl (same_from_sum_zero z x same)))
      | inr zero_difference ↦ zero_difference
    ]

-- the product of the sums of w and each m + c
abbrev pub roots : ℕ → List ℕ → ℕ → ℕ
roots m cs w = product_over cs (λ c. bit_xor w (m + c))

pub roots_byte : (m : ℕ) (cs : List ℕ) (w : ℕ) → w < 256 → ((c : ℕ) → Among c cs → m + c < 256) → roots m cs w < 256
roots_byte m cs w w_byte bytes = product_byte cs _ (λ c there. sum_lt w (m + c) w_byte (bytes c there))

pub vanish : (m : ℕ) (zs cs : List ℕ) → AreNodes zs → ((c : ℕ) → Among c cs → m + c < 256) → length cs + 2 ≤ length zs → difference zs (roots m cs) ≡ 0
unfolding level
vanish m [] [] nodes bytes few = absurd (omega (arith, few))
vanish m (z ∷ []) [] nodes bytes few = absurd (omega (arith, few))
vanish m (z ∷ x ∷ xs) [] nodes bytes few = constants (suc (length xs)) (z ∷ x ∷ xs) refl nodes
vanish m [] (c ∷ cs) nodes bytes few = absurd (omega (arith, few))
vanish m (z ∷ zs) (c ∷ cs) nodes bytes few =
    let rest = λ (d : ℕ) (there : Among d cs). bytes d (inr there) in
    let fewer = others_length z (z ∷ zs) nodes.0 (inl refl) in
    one_factor (z ∷ zs) z (m + c) (roots m cs) nodes (inl refl) (bytes c (inl refl)) (λ w among. roots_byte m cs w (nodes.1 w among) rest)
    ∙ (ap₂ bit_xor (vanish m (others_than z (z ∷ zs)) cs (others_nodes z (z ∷ zs) nodes) rest (omega (arith, few, fewer)))
    (ap (product (bit_xor z (m + c))) (vanish m (z ∷ zs) cs nodes rest (omega (arith, few))) ∙ product_zero_r (bit_xor z (m + c))) ∙ xor_self 0)

-- ---- products in another order
swap_last : (a b c : ℕ) → a < 256 → b < 256 → c < 256 → product (product a b) c ≡ product (product a c) b
swap_last a b c a_byte b_byte c_byte =
    product_assoc a b c a_byte b_byte c_byte ∙ (ap (product a) (product_comm b c b_byte c_byte) ∙ sym (product_assoc a c b a_byte c_byte b_byte))

divided : (a b : ℕ) → a < 256 → b < 256 → a ≢ 0 → product (product a b) (inverse a) ≡ b
divided a b a_byte b_byte a_some =
    swap_last a b (inverse a) a_byte b_byte (inverse_lt a) ∙ (ap (λ x. product x b) (product_inverse a a_byte a_some) ∙ product_one_l b b_byte)

-- b q r over b g h
term : (b q r g h : ℕ) → b < 256 → q < 256 → r < 256 → g < 256 → h < 256 → b ≢ 0 → g ≢ 0 → h ≢ 0
    → product (product (product b q) r) (inverse (product b (product g h))) ≡ product (product q (inverse g)) (product r (inverse h))
term b q r g h b_byte q_byte r_byte g_byte h_byte b_some g_some h_some =
    let b' = inverse b in
    let g' = inverse g in
    let h' = inverse h in
    let gh_some = product_nonzero g h g_byte h_byte g_some h_some in
    let bq_byte = product_lt b q b_byte in
    let qr_byte = product_lt q r q_byte in
    ap (product (product (product b q) r)) (inverse_product b (product g h) b_byte (product_lt g h g_byte) b_some
    gh_some ∙ ap (product b') (inverse_product g h g_byte h_byte g_some h_some))
    ∙ (sym (product_assoc (product (product b q) r) b' (product g' h') (product_lt _ r bq_byte) (inverse_lt b) (product_lt g' h' (inverse_lt g)))
    ∙ (ap (λ x. product x (product g' h')) (swap_last (product b q) r b' bq_byte r_byte (inverse_lt b)
    ∙ ap (λ x. product x r) (divided b q b_byte q_byte b_some))
    ∙ (sym (product_assoc (product q r) g' h' qr_byte (inverse_lt g) (inverse_lt h))
    ∙ (ap (λ x. product x h') (swap_last q r g' q_byte r_byte (inverse_lt g))
    ∙ product_assoc (product q g') r h' (product_lt q g' q_byte) r_byte (inverse_lt h)))))

module _ (m : ℕ) (rows lost : List ℕ) (l : ℕ) (nodes : AreNodes rows) (lost_apart : Apart lost) (lost_bytes : (c : ℕ) → Among c lost → m + c < 256)
    (separate : (i c : ℕ) → Among i rows → Among c lost → i ≢ m + c) (as_many : length rows ≡ length lost) (l_lost : Among l lost) where
  -- what does not depend on the row
  above : ℕ
  above = product_over rows (λ r. bit_xor r (m + l))

  below : ℕ
  below = product_over (others_than l lost) (λ c. bit_xor (m + l) (m + c))

  y_byte : m + l < 256
  y_byte = lost_bytes l l_lost

  above_byte : above < 256
  unfolding above
  above_byte = product_byte rows _ (λ r there. sum_lt r (m + l) (nodes.1 r there) y_byte)

  above_some : above ≢ 0
  unfolding above
  above_some = product_is_nonzero rows _ (λ r there. sum_lt r (m + l) (nodes.1 r there) y_byte)
      (λ r there zero_sum. separate r l there l_lost (same_from_sum_zero r (m + l) zero_sum))

  other_bytes : (c : ℕ) → Among c (others_than l lost) → m + c < 256
  other_bytes c there = lost_bytes c (among_others l c lost there).0

  below_byte : below < 256
  unfolding below
  below_byte = product_byte (others_than l lost) _ (λ c there. sum_lt (m + l) (m + c) y_byte (other_bytes c there))

  below_some : below ≢ 0
  unfolding below
  below_some = product_is_nonzero (others_than l lost) _ (λ c there. sum_lt (m + l) (m + c) y_byte (other_bytes c there))
      (λ c there zero_sum. (among_others l c lost there).1 (let same = same_from_sum_zero (m + l) (m + c) zero_sum in omega (arith, same)))

  root_bytes : (i : ℕ) → Among i rows → GivesBytes lost (λ c. bit_xor i (m + c))
  root_bytes i there c c_there = sum_lt i (m + c) (nodes.1 i there) (lost_bytes c c_there)

  root_some : (i c : ℕ) → Among i rows → Among c lost → bit_xor i (m + c) ≢ 0
  root_some i c there c_there zero_sum = separate i c there c_there (same_from_sum_zero i (m + c) zero_sum)

  -- the weight of a row
  weight_is : (i : ℕ) → Among i rows
      → weight m rows lost l i ≡ product (product (roots m (others_than l lost) i) (inverse (gaps rows i)))
      (product above (inverse below))
  unfolding above below
  weight_is i there =
      ap (λ x. product (product x above) (inverse (product (bit_xor i (m + l)) (product (gaps rows i) below))))
      (product_out l lost _ lost_apart l_lost (root_bytes i there))
      ∙ term (bit_xor i (m + l)) (roots m (others_than l lost) i) above (gaps rows i) below
      (root_bytes i there l l_lost) (roots_byte m (others_than l lost) i (nodes.1 i there) other_bytes) above_byte
      (gaps_byte rows i nodes there) below_byte (root_some i l there l_lost) (gaps_nonzero rows i nodes there) below_some

  pub weight_byte : (i : ℕ) → Among i rows → weight m rows lost l i < 256
  weight_byte i there = rw (weight_is i there) (product_lt _ _ (product_lt _ _ (roots_byte m (others_than l lost) i (nodes.1 i there) other_bytes)))

  -- a weight by the coefficient of its own column
  own_term : (i : ℕ) → Among i rows → product (weight m rows lost l i) (coefficient m i l)
      ≡ product (product above (inverse below))
      (product (roots m (others_than l lost) i) (inverse (product (bit_xor i (m + l)) (gaps rows i))))
  own_term i there =
      let p = roots m (others_than l lost) i in
      let g' = inverse (gaps rows i) in
      let b = bit_xor i (m + l) in
      let k = product above (inverse below) in
      let p_byte = roots_byte m (others_than l lost) i (nodes.1 i there) other_bytes in
      let k_byte = product_lt above (inverse below) above_byte in
      let pg_byte = product_lt p g' p_byte in
      ap (λ x. product x (inverse b)) (weight_is i there)
      ∙ (swap_last (product p g') k (inverse b) pg_byte k_byte (inverse_lt b)
      ∙ (ap (λ x. product x k) (product_assoc p g' (inverse b) p_byte (inverse_lt _) (inverse_lt b)
      ∙ ap (product p) (product_comm g' (inverse b) (inverse_lt _) (inverse_lt b)
      ∙ sym (inverse_product b (gaps rows i) (root_bytes i there l l_lost) (gaps_byte rows i nodes there)
      (root_some i l there l_lost) (gaps_nonzero rows i nodes there))))
      ∙ product_comm _ k (product_lt p _ p_byte) k_byte))

  -- and of another column
  other_term : (i j : ℕ) → Among i rows → Among j lost → j ≢ l
      → product (weight m rows lost l i) (coefficient m i j) ≡ product (product above (inverse below))
      (product (roots m (others_than j (others_than l lost)) i) (inverse (gaps rows i)))
  other_term i j there j_lost differ =
      let a = bit_xor i (m + j) in
      let q = roots m (others_than j (others_than l lost)) i in
      let g' = inverse (gaps rows i) in
      let k = product above (inverse below) in
      let a_byte = root_bytes i there j j_lost in
      let k_byte = product_lt above (inverse below) above_byte in
      let q_byte = roots_byte m (others_than j (others_than l lost)) i (nodes.1 i there)
      (λ c among. other_bytes c (among_others j c (others_than l lost) among).0) in
      let aq_byte = product_lt a q a_byte in
      ap (λ x. product x (inverse a)) (weight_is i there
      ∙ ap (λ x. product (product x g') k) (product_out j (others_than l lost) _ (others_apart l lost lost_apart)
      (others_among l j lost j_lost differ) (λ c among. root_bytes i there c (among_others l c lost among).0)))
      ∙ (swap_last (product (product a q) g') k (inverse a) (product_lt _ g' aq_byte) k_byte (inverse_lt a)
      ∙ (ap (λ x. product x k) (swap_last (product a q) g' (inverse a) aq_byte (inverse_lt _) (inverse_lt a)
      ∙ ap (λ x. product x g') (divided a q a_byte q_byte (root_some i j there j_lost)))
      ∙ product_comm (product q g') k (product_lt q g' q_byte) k_byte))

  pub at_other : (j : ℕ) → Among j lost → j ≢ l → sum_over rows (λ i. product (weight m rows lost l i) (coefficient m i j)) ≡ 0
  at_other j j_lost differ =
      let k = product above (inverse below) in
      let few = others_length l lost lost_apart l_lost in
      let fewer = others_length j (others_than l lost) (others_apart l lost lost_apart) (others_among l j lost j_lost differ) in
      let bytes : (c : ℕ) → Among c (others_than j (others_than l lost)) → m + c < 256 =
      λ c among. other_bytes c (among_others j c (others_than l lost) among).0 in
      over_same rows _ _ (λ i there. other_term i j there j_lost differ)
      ∙ (over_times rows k _ (product_lt above (inverse below) above_byte) (λ i there. product_lt _ _ (roots_byte m _ i (nodes.1 i there) bytes))
      ∙ (ap (product k) (vanish m rows (others_than j (others_than l lost)) nodes bytes (omega (arith, as_many, few, fewer))) ∙ product_zero_r k))

  pub at_itself : sum_over rows (λ i. product (weight m rows lost l i) (coefficient m i l)) ≡ 1
  unfolding sum_over above below
  at_itself =
      let y = m + l in
      let k = product above (inverse below) in
      let k_byte = product_lt above (inverse below) above_byte in
      let others = others_than l lost in
      let f : ℕ → ℕ = λ i. product (roots m others i) (inverse (product (bit_xor i y) (gaps rows i))) in
      let apart : ¬ (Among y rows) = λ there. separate y l there l_lost refl in
      let all : AreNodes (y ∷ rows) = ((apart, nodes.0), λ z among. elim among [ inl same ↦ omega (arith, same, y_byte) | inr there ↦ nodes.1 z there ]) in
      let few = others_length l lost lost_apart l_lost in
      let none = vanish m (y ∷ rows) others all other_bytes (omega (arith, as_many, few)) in
      let head_gaps : gaps (y ∷ rows) y ≡ above =
      ap (λ ys. product_over ys (λ r. bit_xor y r)) (others_here y rows ∙ others_none y rows apart) ∙ product_same rows _ _ (λ r there. xor_comm y r) in
      let rest : sum_over rows (λ i. product (roots m others i) (inverse (gaps (y ∷ rows) i))) ≡ sum_over rows f =
      over_same rows _ _
      (λ i there. ap (λ ys. product (roots m others i) (inverse (product_over ys (λ r. bit_xor i r))))
      (others_there i y rows (λ same. apart (rw same there)))) in
      let value : sum_over rows f ≡ product below (inverse above) =
      sym (same_from_sum_zero _ _ (ap₂ bit_xor (ap (λ g. product below (inverse g)) (sym head_gaps)) (sym rest) ∙ none)) in
      over_same rows _ _ (λ i there. own_term i there)
      ∙ (over_times rows k f k_byte (λ i there. product_lt _ _ (roots_byte m others i (nodes.1 i there) other_bytes))
      ∙ (ap (product k) value
      ∙ (sym (product_assoc k below (inverse above) k_byte below_byte (inverse_lt above))
      ∙ (ap (λ x. product x (inverse above)) (product_assoc above (inverse below) below above_byte (inverse_lt below) below_byte
      ∙ (ap (product above) (product_comm (inverse below) below (inverse_lt below) below_byte
      ∙ product_inverse below below_byte below_some) ∙ product_one_r above above_byte))
      ∙ product_inverse above above_byte above_some))))
