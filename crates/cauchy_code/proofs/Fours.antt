-- Four more terms of the sums that a column consists of.
use Rattle.std.proofs.Common.{◌≡◌, ℕ, ◌+◌, ◌<◌, List, length, get_or, bit_xor, replicate, sym, refl, ap, ◌∙◌, arith}
use Rattle.std.specs.Int.Bits.{xor_zero_l}
use Rattle.std.proofs.lemmas.List.{length-replicate}
use Rattle.field_byte.specs.Vectors.{add_bytes}
use Rattle.field_matrix.specs.Grids.{entry}
use Rattle.group_types.specs.Pieces.{contents_of}
use Rattle.group_types.specs.declared.piece_list.Piece.{Piece}
use Rattle.erasure_code.proofs.Lists.{get_or-zeros}
use Rattle.lane_kernel.specs.Sums.{add_two, sum_of_four}
use Rattle.lane_kernel.proofs.Chunks.{length-both}
use Rattle.lane_kernel.proofs.FourSums.{four_alone, one_by_one}
use Rattle.cauchy_code.specs.Solving.{IsAdded, pieces_sum}
use Rattle.cauchy_code.proofs.Terms.{none_added, two_added}

-- two more pieces, and then two of another list or of the same
module _ (by a b c d now : List ℕ) (a_same : length a ≡ length now) (b_same : length b ≡ length now)
    (c_same : length c ≡ length now) (d_same : length d ≡ length now) where
  half : List ℕ
  half = add_two (get_or by 0 0) (get_or by 1 0) a b now

  length-half : length half ≡ length now
  unfolding half
  length-half = length-both (get_or by 0 0) (get_or by 1 0) a b now a_same b_same

  pub four_added : (n : ℕ) (weights : ℕ → ℕ) (pieces : List Piece) (at k old : ℕ)
      → get_or now k 0 ≡ bit_xor old (pieces_sum n weights pieces at)
      → ((i : ℕ) → i < 4 → get_or by i 0 ≡ weights (n + i))
      → get_or a k 0 ≡ entry (contents_of pieces) n at → get_or b k 0 ≡ entry (contents_of pieces) (n + 1) at
      → get_or c k 0 ≡ entry (contents_of pieces) (n + 2) at → get_or d k 0 ≡ entry (contents_of pieces) (n + 3) at
      → get_or (add_bytes now (sum_of_four by a b c d)) k 0 ≡ bit_xor old (pieces_sum (n + 4) weights pieces at)
  unfolding half
  four_added n weights pieces at k old sum coefs a_here b_here c_here d_here =
      let first_two = two_added n weights pieces at k old (get_or by 0 0) (get_or by 1 0) a b now a_same b_same sum
      (coefs 0 (omega arith) ∙ ap weights (omega arith)) (coefs 1 (omega arith)) a_here b_here in
      let all_four = two_added (n + 2) weights pieces at k old (get_or by 2 0) (get_or by 3 0) c d half
      (c_same ∙ sym length-half) (d_same ∙ sym length-half) first_two (coefs 2 (omega arith))
      (coefs 3 (omega arith) ∙ ap weights (omega arith))
      c_here (d_here ∙ ap (λ m. entry (contents_of pieces) m at) (omega arith)) in
      ap (λ (l : List ℕ). get_or l k 0) (sym (one_by_one by a b c d now a_same b_same c_same d_same))
      ∙ (all_four ∙ ap (λ m. bit_xor old (pieces_sum m weights pieces at)) (omega arith))

  pub both_added : (u v : ℕ → ℕ) (rows known : List Piece) (at k : ℕ) → get_or now k 0 ≡ 0 → get_or by 0 0 ≡ u 0
      → get_or by 1 0 ≡ u 1 → get_or by 2 0 ≡ v 0 → get_or by 3 0 ≡ v 1
      → get_or a k 0 ≡ entry (contents_of rows) 0 at → get_or b k 0 ≡ entry (contents_of rows) 1 at
      → get_or c k 0 ≡ entry (contents_of known) 0 at → get_or d k 0 ≡ entry (contents_of known) 1 at
      → get_or (add_bytes now (sum_of_four by a b c d)) k 0 ≡ bit_xor (pieces_sum 2 u rows at) (pieces_sum 2 v known at)
  unfolding half
  both_added u v rows known at k zero a_is b_is c_is d_is a_here b_here c_here d_here =
      let from_rows = two_added 0 u rows at k 0 (get_or by 0 0) (get_or by 1 0) a b now a_same b_same
      (zero ∙ none_added u rows at 0) a_is b_is a_here b_here ∙ xor_zero_l (pieces_sum 2 u rows at) in
      let all_four = two_added 0 v known at k (pieces_sum 2 u rows at) (get_or by 2 0) (get_or by 3 0) c d half
      (c_same ∙ sym length-half) (d_same ∙ sym length-half)
      (from_rows ∙ none_added v known at (pieces_sum 2 u rows at)) c_is d_is c_here d_here in
      ap (λ (l : List ℕ). get_or l k 0) (sym (one_by_one by a b c d now a_same b_same c_same d_same)) ∙ all_four

-- where nothing stood before
pub start_added : (n : ℕ) (by a b c d : List ℕ) → length a ≡ n → length b ≡ n → length c ≡ n → length d ≡ n → (u v : ℕ → ℕ) (rows known : List Piece) (at k : ℕ)
    → get_or by 0 0 ≡ u 0 → get_or by 1 0 ≡ u 1 → get_or by 2 0 ≡ v 0 → get_or by 3 0 ≡ v 1
    → get_or a k 0 ≡ entry (contents_of rows) 0 at → get_or b k 0 ≡ entry (contents_of rows) 1 at
    → get_or c k 0 ≡ entry (contents_of known) 0 at → get_or d k 0 ≡ entry (contents_of known) 1 at
    → get_or (sum_of_four by a b c d) k 0 ≡ bit_xor (pieces_sum 2 u rows at) (pieces_sum 2 v known at)
start_added n by a b c d a_long b_long c_long d_long u v rows known at k a_is b_is c_is d_is a_here b_here c_here d_here =
    let b_same = b_long ∙ sym a_long in
    let c_same = c_long ∙ sym a_long in
    let d_same = d_long ∙ sym a_long in
    let long = sym (length-replicate (length a) 0) in
    ap (λ (l : List ℕ). get_or l k 0) (sym (four_alone by a b c d a refl b_same c_same d_same))
    ∙ both_added by a b c d (replicate (length a) 0) long (b_same ∙ long) (c_same ∙ long) (d_same ∙ long) u v rows known
    at k (get_or-zeros (length a) k) a_is b_is c_is d_is a_here b_here c_here d_here

-- the rows, and then the known columns
pub all_added : (n at : ℕ) (u v : ℕ → ℕ) (rows known : List Piece) (zeros mid new : List ℕ) → zeros ≡ replicate n 0
    → length mid ≡ n → IsAdded u rows 0 at zeros mid → IsAdded v known 0 at mid new
    → (k : ℕ) → k < n → get_or new k 0 ≡ bit_xor (pieces_sum (length rows) u rows (at + k)) (pieces_sum (length known) v known (at + k))
all_added n at u v rows known zeros mid new cleared long by_rows by_known k below =
    let none : get_or zeros k 0 ≡ 0 = ap (λ (l : List ℕ). get_or l k 0) cleared ∙ get_or-zeros n k in
    let zeros_long : length zeros ≡ n = ap length cleared ∙ length-replicate n 0 in
    let rows_in = by_rows k 0 (omega (arith, below, zeros_long)) (none ∙ none_added u rows (at + k) 0)
    ∙ xor_zero_l (pieces_sum (length rows) u rows (at + k)) in
    by_known k (pieces_sum (length rows) u rows (at + k)) (omega (arith, below, long))
    (rows_in ∙ none_added v known (at + k) (pieces_sum (length rows) u rows (at + k)))
