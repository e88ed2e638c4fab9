-- The sums of four products, by parts.
use Rattle.std.proofs.Common.{◌≡◌, ℕ, ◌+◌, ◌-◌, ◌<◌, ◌≤◌, Bool, true, false, List, [], ◌∷◌, length, take, get_or, replicate, sym, ap, ap₂, ◌∙◌, refl, arith}
use Rattle.std.specs.Int.Bits.{xor_zero_l}
use Rattle.std.specs.Simd.Lanes.{chunk}
use Rattle.std.proofs.lemmas.Grind.{get_or_default_zero}
use Rattle.std.proofs.lemmas.List.{drop-replicate, length-replicate, take-replicate}
use Rattle.std.proofs.lemmas.Simd.{length-chunk}
use Rattle.field_byte.specs.Vectors.{add_bytes, scale}
use Rattle.field_byte.proofs.Vectors.{add_bytes_assoc, chunk-add_bytes, chunk-scale, length-add_bytes, length-add_scaled, length-scale}
use Rattle.lane_kernel.specs.Sums.{add_two, kept, sum_of_four}
use Rattle.lane_kernel.proofs.Chunks.{ByParts, Written, product_more, put_mid, rest_written}

pub zeros_added : (xs : List ℕ) → add_bytes (replicate (length xs) 0) xs ≡ xs
unfolding add_bytes
zeros_added [] = refl
zeros_added (x ∷ xs) = ap₂ (λ y ys. y ∷ ys) (xor_zero_l x) (zeros_added xs)

length-kept : (keep : Bool) (bytes : List ℕ) → length (kept keep bytes) ≡ length bytes
length-kept true bytes = refl
length-kept false bytes = length-replicate (length bytes) 0

chunk-kept : (keep : Bool) (bytes : List ℕ) (at n : ℕ) → at + n ≤ length bytes → kept keep (chunk at n bytes) ≡ chunk at n (kept keep bytes)
chunk-kept true bytes at n within = refl
chunk-kept false bytes at n within =
    ap (λ k. replicate k 0) (length-chunk at n bytes within)
    ∙ sym (ap (take n) (drop-replicate at (length bytes) 0) ∙ take-replicate n (length bytes - at) 0 (omega arith))

-- the product by a coefficient that was read of four
by_read : (by xs : List ℕ) (i p : ℕ) → length by ≡ 4 → i < 4 → scale (get_or by i p) xs ≡ scale (get_or by i 0) xs
by_read by xs i p four within = ap (λ q. scale q xs) (get_or_default_zero by i p (omega (arith, four, within)))

-- four coefficients that were read one after another
module _ (by a b c d : List ℕ) (p q r s : ℕ) (four : length by ≡ 4) where
  pub four_summed : (of_a of_b of_c of_d : List ℕ) → of_a ≡ scale (get_or by 0 p) a
      → of_b ≡ add_bytes of_a (scale (get_or by 1 q) b) → of_c ≡ add_bytes of_b (scale (get_or by 2 r) c)
      → of_d ≡ add_bytes of_c (scale (get_or by 3 s) d) → of_d ≡ sum_of_four by a b c d
  four_summed of_a of_b of_c of_d is_a is_b is_c is_d =
      is_d ∙ ap₂ add_bytes
      (is_c ∙ ap₂ add_bytes (is_b ∙ ap₂ add_bytes (is_a ∙ by_read by a 0 p four (omega arith))
      (by_read by b 1 q four (omega arith))) (by_read by c 2 r four (omega arith)))
      (by_read by d 3 s four (omega arith))

  pub two_and_two : (old of_b of_d : List ℕ) → of_b ≡ add_two (get_or by 0 p) (get_or by 1 q) a b old → of_d ≡ add_two (get_or by 2 r) (get_or by 3 s) c d of_b
      → of_d ≡ add_two (get_or by 2 0) (get_or by 3 0) c d (add_two (get_or by 0 0) (get_or by 1 0) a b old)
  two_and_two old of_b of_d is_b is_d =
      let by_b = is_b ∙ ap₂ (λ xs ys. add_bytes (add_bytes old xs) ys) (by_read by a 0 p four (omega arith)) (by_read by b 1 q four (omega arith)) in
      is_d ∙ (ap (add_two (get_or by 2 r) (get_or by 3 s) c d) by_b
      ∙ ap₂ (λ xs ys. add_bytes (add_bytes (add_two (get_or by 0 0) (get_or by 1 0) a b old) xs) ys)
      (by_read by c 2 r four (omega arith)) (by_read by d 3 s four (omega arith)))

module _ (by a b c d old : List ℕ) (a_same : length a ≡ length old) (b_same : length b ≡ length old)
    (c_same : length c ≡ length old) (d_same : length d ≡ length old) where
  abbrev pub four : List ℕ
  four = sum_of_four by a b c d

  abbrev of_a : List ℕ
  of_a = scale (get_or by 0 0) a

  abbrev of_b : List ℕ
  of_b = add_bytes of_a (scale (get_or by 1 0) b)

  abbrev of_c : List ℕ
  of_c = add_bytes of_b (scale (get_or by 2 0) c)

  length-a : length of_a ≡ length old
  length-a = length-scale _ a ∙ a_same

  length-b : length of_b ≡ length old
  length-b = length-add_scaled _ b of_a (b_same ∙ sym length-a) ∙ length-a

  length-c : length of_c ≡ length old
  length-c = length-add_scaled _ c of_b (c_same ∙ sym length-b) ∙ length-b

  pub length-four : length four ≡ length old
  length-four = length-add_scaled _ d of_c (d_same ∙ sym length-c) ∙ length-c

  four_of_chunks : (at n : ℕ) → sum_of_four by (chunk at n a) (chunk at n b) (chunk at n c) (chunk at n d) ≡ chunk at n four
  four_of_chunks at n =
      product_more _ d of_c _ at n (d_same ∙ sym length-c)
      (product_more _ c of_b _ at n (c_same ∙ sym length-b)
      (product_more _ b of_a _ at n (b_same ∙ sym length-a) (sym (chunk-scale _ at n a))))

  pub four_parts : (keep : Bool)
      → ByParts old (add_bytes (kept keep old) four)
      (λ at n l. add_bytes (kept keep l) (sum_of_four by (chunk at n a) (chunk at n b) (chunk at n c) (chunk at n d)))
  four_parts keep =
      let same = length-kept keep old ∙ sym length-four in
      record {
        same = length-add_bytes (kept keep old) four same ∙ length-kept keep old;
        parts = λ at n within. ap₂ add_bytes (chunk-kept keep old at n within) (four_of_chunks at n) ∙ sym (chunk-add_bytes at n (kept keep old) four same);
      }

  pub four_alone : add_bytes (kept false old) four ≡ four
  four_alone = ap (λ n. add_bytes (replicate n 0) four) (sym length-four) ∙ zeros_added four

  -- the rest goes to its place
  pub four_rest : (keep : Bool) (at end : ℕ) (now rest : List ℕ) → at ≡ end → end ≤ length old
      → rest ≡ add_bytes (kept keep (chunk end (length now - end) now))
      (sum_of_four by (chunk end (length a - end) a) (chunk end (length b - end) b) (chunk end (length c - end) c) (chunk end (length d - end) d))
      → Written at old (add_bytes (kept keep old) four) now → put_mid end (length now - end) now rest ≡ add_bytes (kept keep old) four
  four_rest keep at end now rest reached within is before =
      rest_written (four_parts keep) at end now rest reached within (rw (a_same, b_same, c_same, d_same) at is) before

  -- product by product is the same as their sum
  pub one_by_one : add_bytes (add_bytes (add_bytes (add_bytes old of_a) (scale (get_or by 1 0) b))
      (scale (get_or by 2 0) c)) (scale (get_or by 3 0) d) ≡ add_bytes old four
  one_by_one =
      let by_b = add_bytes_assoc old of_a (scale (get_or by 1 0) b) (sym length-a) (length-a ∙ sym (length-scale _ b ∙ b_same)) in
      let by_c = add_bytes_assoc old of_b (scale (get_or by 2 0) c) (sym length-b) (length-b ∙ sym (length-scale _ c ∙ c_same)) in
      let by_d = add_bytes_assoc old of_c (scale (get_or by 3 0) d) (sym length-c) (length-c ∙ sym (length-scale _ d ∙ d_same)) in
      ap (λ l. add_bytes (add_bytes l (scale (get_or by 2 0) c)) (scale (get_or by 3 0) d)) by_b
      ∙ (ap (λ l. add_bytes l (scale (get_or by 3 0) d)) by_c ∙ by_d)
