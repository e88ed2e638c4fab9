-- Shuffles as look-ups of products.
use Rattle.std.proofs.Common.{◌≡◌, ℕ, ◌+◌, ◌*◌, ◌/◌, ◌^◌, ◌<◌, true, ◌==◌, List, [], ◌∷◌, ◌++◌, ◌%◌, map, length}
use Rattle.std.proofs.Common.{get_or, replicate, bit_xor, bit_and, refl, sym, ap, ap₂, ◌∙◌, arith, w8, Fits}
use Rattle.std.specs.Simd.Lanes.{zip2, Each1, all_below, pick_l}
use Rattle.std.proofs.Math.Dec.{T}
use Rattle.std.proofs.lemmas.Bool.{agree_below, agree_below_at, eqb-true}
use Rattle.std.proofs.lemmas.List.{get_or-map, length-map, ext_get_or}
use Rattle.std.proofs.lemmas.Nat.{and_le_r}
use Rattle.std.proofs.lemmas.Simd.{Each1-all, Each1-weaker, Each1-zip2, Each1-get_or, Each2-splat, below_from_Fits}
use Rattle.std.proofs.lemmas.Simd.{zip2_splat, zip2_of_maps, pick_l_left, swz_l, SwzOk, SwzOk-from_below, length-swz_l}
use Rattle.std.proofs.lemmas.Simd.{get_or-swz_l_below}
use Rattle.field_byte.specs.Field.{product}
use Rattle.field_byte.specs.Halves.{products_of_nibbles}
use Rattle.field_byte.specs.Vectors.{scale}
use Rattle.field_byte.proofs.Nibbles.{product_at, product_of_halves}
use Rattle.lane_kernel.specs.declared.lanes.TheConstants.{FOUR_TIMES, TWICE}

abbrev pub low_half : ℕ → ℕ
low_half b = bit_and b 15

abbrev pub high_half : ℕ → ℕ
high_half b = b / 2 ^ 4

low_below : (b : ℕ) → low_half b < 16
low_below b = omega (arith, and_le_r b 15)

abbrev pub by_shift : ℕ → ℕ → ℕ
by_shift a b = a / 2 ^ b

-- what the shuffle asks of its positions
pub low_ok : (b n : ℕ) (v : List ℕ) → n ≡ b * 16 → length v ≡ n → SwzOk w8 16 n 0 (zip2 bit_and v (replicate n 15))
low_ok b n v blocks long =
    let small = Each1-all (λ x. low_half x < 16) low_below v in
    SwzOk-from_below w8 16 b n 0 _ blocks (omega (arith, ap length (zip2_splat bit_and v n 15 long), length-map v low_half))
    (Each1-zip2 bit_and (λ j. j < 16) v (replicate n 15) (Each2-splat (λ x y. bit_and x y < 16) v n 15 small))

pub high_ok : (b n : ℕ) (v : List ℕ) → n ≡ b * 16 → length v ≡ n → Each1 (Fits w8) v → SwzOk w8 16 n 0 (zip2 by_shift v (replicate n 4))
high_ok b n v blocks long fits =
    let small = Each1-weaker (λ x. x < 256) (λ x. high_half x < 16) (λ x byte. omega arith) v (below_from_Fits w8 v fits) in
    SwzOk-from_below w8 16 b n 0 _ blocks (omega (arith, ap length (zip2_splat by_shift v n 4 long), length-map v high_half))
    (Each1-zip2 by_shift (λ j. j < 16) v (replicate n 4) (Each2-splat (λ x y. by_shift x y < 16) v n 4 small))

-- each sixteen of the n numbers are f at 0 to 15
pub record IsTable (n : ℕ) (table : List ℕ) (f : ℕ → ℕ) : Type 0 where
  pub reads : (i j : ℕ) → i < n → j < 16 → get_or table (16 * ((0 + i) / 16) + j) 0 ≡ f j

pub sixteen_products : (coef step : ℕ) (table : List ℕ) → table ≡ products_of_nibbles coef step → IsTable 16 table (λ j. product coef (j * step))
sixteen_products coef step table is = record {
  reads = λ i j i_below j_below. ap₂ (λ (l : List ℕ) (k : ℕ). get_or l k 0) is (omega arith) ∙ product_at coef step j j_below;
}

-- the same of places that repeat 0 to 15
module _ (blocks : ℕ) (places : List ℕ) (whole : length places ≡ blocks * 16) (below : T (all_below 16 places))
    (repeat : agree_below (λ m. get_or places m 0 == m % 16) (λ m. true) (length places) ≡ true) where
  copied : (coef step : ℕ) (table rest : List ℕ) → table ≡ products_of_nibbles coef step
      → IsTable (length places) (pick_l 0 (table ++ rest) places) (λ j. product coef (j * step))
  copied coef step table rest is = record {
    reads = λ i j i_below j_below.
        let m : ℕ = 16 * ((0 + i) / 16) + j in
        let m_below : m < length places = omega (arith, whole) in
        let place : get_or places m 0 ≡ j =
        eqb-true _ _ (agree_below_at (λ m. get_or places m 0 == m % 16) (λ m. true) (length places) m repeat m_below)
        ∙ omega arith in
        ap (λ l. get_or l m 0) (pick_l_left 0 table rest 16 places (ap length is) below)
        ∙ (get_or-map (λ k. get_or table k 0) places m 0 0 m_below
        ∙ (ap₂ (λ (l : List ℕ) (k : ℕ). get_or l k 0) is place ∙ product_at coef step j j_below));
  }

pub sixteen_products_twice : (coef step : ℕ) (table rest : List ℕ) → table ≡ products_of_nibbles coef step
    → IsTable 32 (pick_l 0 (table ++ rest) TWICE) (λ j. product coef (j * step))
sixteen_products_twice = copied 2 TWICE refl tt refl

pub sixteen_products_four_times : (coef step : ℕ) (table rest : List ℕ) → table ≡ products_of_nibbles coef step
    → IsTable 64 (pick_l 0 (table ++ rest) FOUR_TIMES) (λ j. product coef (j * step))
sixteen_products_four_times = copied 4 FOUR_TIMES refl tt refl

-- a shuffle reads f at the positions
shuffled : (n : ℕ) (table : List ℕ) (f g : ℕ → ℕ) (v js : List ℕ) → IsTable n table f → length v ≡ n → Each1 (Fits w8) v
    → js ≡ map g v → ((x : ℕ) → x < 256 → g x < 16) → swz_l w8 16 table 0 js ≡ map (λ x. f (g x)) v
shuffled n table f g v js is_table long fits positions small =
    let js_long : length js ≡ n = ap length positions ∙ (length-map v g ∙ long) in
    ext_get_or 0 _ _ (length-swz_l w8 16 table 0 js ∙ (js_long ∙ sym (length-map v (λ x. f (g x)) ∙ long))) (λ i within.
    let i_below : i < n = omega (arith, length-swz_l w8 16 table 0 js) in
    let in_v : i < length v = omega arith in
    let lane : get_or js i 0 ≡ g (get_or v i 0) = ap (λ l. get_or l i 0) positions ∙ get_or-map g v i 0 0 in_v in
    let below : get_or js i 0 < 16 = omega (arith, small (get_or v i 0) (Each1-get_or (λ x. x < 256) v i 0 in_v (below_from_Fits w8 v fits))) in
    get_or-swz_l_below w8 16 table 0 js i (omega arith) below
    ∙ (is_table.reads i (get_or js i 0) i_below below ∙ (ap f lane ∙ sym (get_or-map (λ x. f (g x)) v i 0 0 in_v))))

map_of_bytes : (f g : ℕ → ℕ) (v : List ℕ) → Each1 (Fits w8) v → ((x : ℕ) → x < 256 → f x ≡ g x) → map f v ≡ map g v
map_of_bytes f g [] fits same = refl
map_of_bytes f g (x ∷ xs) fits same = ap₂ (λ y ys. y ∷ ys) (same x fits.0.fits) (map_of_bytes f g xs fits.1 same)

-- both look-ups give the products of the lanes
pub products_looked_up : (n coef : ℕ) (v lows highs : List ℕ) → coef < 256 → length v ≡ n → Each1 (Fits w8) v
    → IsTable n lows (λ j. product coef (j * 1)) → IsTable n highs (λ j. product coef (j * 16))
    → zip2 bit_xor (swz_l w8 16 lows 0 (zip2 bit_and v (replicate n 15))) (swz_l w8 16 highs 0 (zip2 by_shift v (replicate n 4))) ≡ scale coef v
unfolding scale
products_looked_up n coef v lows highs byte long fits low_table high_table =
    let low = shuffled n lows (λ j. product coef (j * 1)) low_half v _ low_table long fits (zip2_splat bit_and v n 15 long) (λ x x_byte. low_below x) in
    let high = shuffled n highs (λ j. product coef (j * 16)) high_half v _ high_table long fits (zip2_splat by_shift v n 4 long) (λ x x_byte. omega arith) in
    zip2_of_maps bit_xor (λ x. product coef (low_half x * 1)) (λ x. product coef (high_half x * 16)) v low high
    ∙ map_of_bytes _ (product coef) v fits (λ x x_byte. product_of_halves coef x byte x_byte)
