-- The sum of bytes is exclusive or.
use Rattle.std.proofs.Common.{◌≡◌, ℕ, ◌<◌, bit_xor, sym, ap, ◌∙◌}
use Rattle.std.specs.Int.Bits.{xor_assoc, xor_self, xor_zero_l, xor_zero_r}
use Rattle.std.proofs.lemmas.Nat.{xor_comm, xor_of_8}

-- the sum of two bytes is a byte
pub sum_lt : (a b : ℕ) → a < 256 → b < 256 → bit_xor a b < 256
sum_lt a b a_byte b_byte = xor_of_8 a b a_byte b_byte

-- the second and the third of four terms change places
pub sum_swap : (a b c d : ℕ) → bit_xor (bit_xor a b) (bit_xor c d) ≡ bit_xor (bit_xor a c) (bit_xor b d)
sum_swap a b c d = xor_assoc a b (bit_xor c d)
    ∙ (ap (bit_xor a) (sym (xor_assoc b c d) ∙ (ap (λ x. bit_xor x d) (xor_comm b c) ∙ xor_assoc c b d))
    ∙ sym (xor_assoc a c (bit_xor b d)))

-- what is added twice is gone
pub sum_cancel : (a b : ℕ) → bit_xor a (bit_xor a b) ≡ b
sum_cancel a b = sym (xor_assoc a a b) ∙ (ap (λ x. bit_xor x b) (xor_self a) ∙ xor_zero_l b)

-- two terms whose sum is 0 are the same
pub same_from_sum_zero : (a b : ℕ) → bit_xor a b ≡ 0 → a ≡ b
same_from_sum_zero a b zero_sum = sym (xor_zero_r a) ∙ (ap (bit_xor a) (sym zero_sum) ∙ sum_cancel a b)
