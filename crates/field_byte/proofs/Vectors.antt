-- Sums and multiples of lists of bytes.
use Rattle.std.proofs.Common.{◌≡◌, ℕ, zero, suc, ◌<◌, List, [], ◌∷◌, take, drop, length, get_or, bit_xor, sym, ap, ap₂, ◌∙◌, refl, arith}
use Rattle.std.specs.Int.Bits.{xor_assoc}
use Rattle.std.specs.Simd.Lanes.{chunk}
use Rattle.std.proofs.lemmas.Grind.{same_number_lists}
use Rattle.std.proofs.lemmas.List.{length-map, take-map, drop-map}
use Rattle.std.proofs.lemmas.Nat.{xor_comm}
use Rattle.std.proofs.lemmas.Simd.{length-zip2}
use Rattle.field_byte.specs.Field.{product}
use Rattle.field_byte.specs.Vectors.{add_bytes, scale}
use Rattle.field_byte.proofs.Sums.{sum_lt}
use Rattle.field_byte.proofs.Products.{product_lt, product_assoc, product_sum_r, product_zero_r}

-- each number of the list is a byte
abbrev pub AreBytes : List ℕ → Type 0
AreBytes xs = (k : ℕ) → get_or xs k 0 < 256

pub length-add_bytes : (xs ys : List ℕ) → length xs ≡ length ys → length (add_bytes xs ys) ≡ length xs
unfolding add_bytes
length-add_bytes xs ys same = length-zip2 bit_xor xs ys same

pub length-scale : (coef : ℕ) (xs : List ℕ) → length (scale coef xs) ≡ length xs
unfolding scale
length-scale coef xs = length-map xs (product coef)

-- also past the end, where each list reads 0
pub get_or-add_bytes : (xs ys : List ℕ) (k : ℕ) → length xs ≡ length ys → get_or (add_bytes xs ys) k 0 ≡ bit_xor (get_or xs k 0) (get_or ys k 0)
unfolding add_bytes
get_or-add_bytes [] [] k same = refl
get_or-add_bytes [] (y ∷ ys) k same = absurd (omega arith)
get_or-add_bytes (x ∷ xs) [] k same = absurd (omega arith)
get_or-add_bytes (x ∷ xs) (y ∷ ys) zero same = refl
get_or-add_bytes (x ∷ xs) (y ∷ ys) (suc k) same = get_or-add_bytes xs ys k (omega arith)

pub get_or-scale : (coef : ℕ) (xs : List ℕ) (k : ℕ) → get_or (scale coef xs) k 0 ≡ product coef (get_or xs k 0)
unfolding scale
get_or-scale coef [] k = sym (product_zero_r coef)
get_or-scale coef (x ∷ xs) zero = refl
get_or-scale coef (x ∷ xs) (suc k) = get_or-scale coef xs k

-- what a kernel leaves at each place
pub get_or-add_scaled : (coef : ℕ) (xs ys : List ℕ) (k : ℕ) → length xs ≡ length ys
    → get_or (add_bytes ys (scale coef xs)) k 0 ≡ bit_xor (get_or ys k 0) (product coef (get_or xs k 0))
get_or-add_scaled coef xs ys k same =
    get_or-add_bytes ys (scale coef xs) k (sym (length-scale coef xs ∙ same)) ∙ ap (bit_xor (get_or ys k 0)) (get_or-scale coef xs k)

pub length-add_scaled : (coef : ℕ) (xs ys : List ℕ) → length xs ≡ length ys → length (add_bytes ys (scale coef xs)) ≡ length ys
length-add_scaled coef xs ys same = length-add_bytes ys (scale coef xs) (sym (length-scale coef xs ∙ same))

pub AreBytes-add_bytes : (xs ys : List ℕ) → length xs ≡ length ys → AreBytes xs → AreBytes ys → AreBytes (add_bytes xs ys)
AreBytes-add_bytes xs ys same xs_bytes ys_bytes k = rw (get_or-add_bytes xs ys k same) (sum_lt _ _ (xs_bytes k) (ys_bytes k))

pub AreBytes-scale : (coef : ℕ) (xs : List ℕ) → coef < 256 → AreBytes (scale coef xs)
AreBytes-scale coef xs coef_byte k = rw (get_or-scale coef xs k) (product_lt coef _ coef_byte)

-- a sum may be read in either order
pub add_bytes_comm : (xs ys : List ℕ) → length xs ≡ length ys → add_bytes xs ys ≡ add_bytes ys xs
add_bytes_comm xs ys same =
    same_number_lists _ _ (length-add_bytes xs ys same ∙ (same ∙ sym (length-add_bytes ys xs (sym same)))) (λ k below.
    get_or-add_bytes xs ys k same ∙ (xor_comm (get_or xs k 0) (get_or ys k 0) ∙ sym (get_or-add_bytes ys xs k (sym same))))

pub add_bytes_assoc : (xs ys zs : List ℕ) → length xs ≡ length ys → length ys ≡ length zs → add_bytes (add_bytes xs ys) zs ≡ add_bytes xs (add_bytes ys zs)
add_bytes_assoc xs ys zs same same_too =
    let left = length-add_bytes xs ys same in
    let right = length-add_bytes ys zs same_too in
    same_number_lists _ _ (length-add_bytes (add_bytes xs ys) zs (left ∙ (same ∙ same_too))
    ∙ (left ∙ sym (length-add_bytes xs (add_bytes ys zs) (same ∙ sym right)))) (λ k below.
    get_or-add_bytes (add_bytes xs ys) zs k (left ∙ (same ∙ same_too)) ∙ (ap (λ x. bit_xor x (get_or zs k 0)) (get_or-add_bytes xs ys k same)
    ∙ (xor_assoc (get_or xs k 0) (get_or ys k 0) (get_or zs k 0) ∙ (ap (bit_xor (get_or xs k 0)) (sym (get_or-add_bytes ys zs k same_too))
    ∙ sym (get_or-add_bytes xs (add_bytes ys zs) k (same ∙ sym right))))))

-- a multiple of a sum is the sum of the multiples
pub scale_add_bytes : (coef : ℕ) (xs ys : List ℕ) → length xs ≡ length ys → coef < 256 → AreBytes xs → AreBytes ys
    → scale coef (add_bytes xs ys) ≡ add_bytes (scale coef xs) (scale coef ys)
scale_add_bytes coef xs ys same coef_byte xs_bytes ys_bytes =
    let scaled = length-scale coef xs ∙ (same ∙ sym (length-scale coef ys)) in
    same_number_lists _ _ (length-scale coef (add_bytes xs ys)
    ∙ (length-add_bytes xs ys same ∙ (sym (length-scale coef xs) ∙ sym (length-add_bytes _ _ scaled)))) (λ k below.
    get_or-scale coef (add_bytes xs ys) k ∙ (ap (product coef) (get_or-add_bytes xs ys k same)
    ∙ (product_sum_r coef _ _ coef_byte (xs_bytes k) (ys_bytes k)
    ∙ (ap₂ bit_xor (sym (get_or-scale coef xs k)) (sym (get_or-scale coef ys k)) ∙ sym (get_or-add_bytes _ _ k scaled)))))

-- a multiple of a multiple is that by the product
pub scale_scale : (b c : ℕ) (xs : List ℕ) → b < 256 → c < 256 → AreBytes xs → scale b (scale c xs) ≡ scale (product b c) xs
scale_scale b c xs b_byte c_byte xs_bytes =
    same_number_lists _ _ (length-scale b (scale c xs) ∙ (length-scale c xs ∙ sym (length-scale (product b c) xs))) (λ k below.
    get_or-scale b (scale c xs) k ∙ (ap (product b) (get_or-scale c xs k)
    ∙ (sym (product_assoc b c (get_or xs k 0) b_byte c_byte (xs_bytes k)) ∙ sym (get_or-scale (product b c) xs k))))

pub take-add_bytes : (n : ℕ) (xs ys : List ℕ) → take n (add_bytes xs ys) ≡ add_bytes (take n xs) (take n ys)
unfolding add_bytes
take-add_bytes zero xs ys = refl
take-add_bytes (suc n) [] ys = refl
take-add_bytes (suc n) (x ∷ xs) [] = refl
take-add_bytes (suc n) (x ∷ xs) (y ∷ ys) = ap (λ rest. bit_xor x y ∷ rest) (take-add_bytes n xs ys)

pub drop-add_bytes : (n : ℕ) (xs ys : List ℕ) → length xs ≡ length ys → drop n (add_bytes xs ys) ≡ add_bytes (drop n xs) (drop n ys)
unfolding add_bytes
drop-add_bytes zero xs ys same = refl
drop-add_bytes (suc n) [] [] same = refl
drop-add_bytes (suc n) [] (y ∷ ys) same = absurd (omega arith)
drop-add_bytes (suc n) (x ∷ xs) [] same = absurd (omega arith)
drop-add_bytes (suc n) (x ∷ xs) (y ∷ ys) same = drop-add_bytes n xs ys (omega arith)

pub chunk-add_bytes : (at n : ℕ) (xs ys : List ℕ) → length xs ≡ length ys → chunk at n (add_bytes xs ys) ≡ add_bytes (chunk at n xs) (chunk at n ys)
chunk-add_bytes at n xs ys same = ap (take n) (drop-add_bytes at xs ys same) ∙ take-add_bytes n (drop at xs) (drop at ys)

pub chunk-scale : (coef at n : ℕ) (xs : List ℕ) → chunk at n (scale coef xs) ≡ scale coef (chunk at n xs)
unfolding scale
chunk-scale coef at n xs = ap (take n) (drop-map (product coef) at xs) ∙ take-map (product coef) n (drop at xs)
