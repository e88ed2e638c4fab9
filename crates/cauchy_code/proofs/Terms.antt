-- One more term of the sums that a lost column consists of.
use Rattle.std.proofs.Common.{◌≡◌, ℕ, ◌+◌, ◌<◌, List, [], length, get_or, bit_xor, All, replicate, add-one, sym, ap, ap₂, ◌∙◌, refl, arith}
use Rattle.std.specs.Int.Bits.{xor_assoc, xor_zero_r}
use Rattle.std.proofs.lemmas.List.{length-map, get_or-map}
use Rattle.std.proofs.lemmas.List.Elements.{All-get_or}
use Rattle.field_byte.specs.Field.{product}
use Rattle.field_byte.specs.Vectors.{add_bytes, scale, field_sum}
use Rattle.field_byte.proofs.Vectors.{get_or-add_scaled, length-add_scaled}
use Rattle.field_matrix.specs.Grids.{entry}
use Rattle.group_types.specs.Pieces.{contents_of, numbers_of}
use Rattle.group_types.specs.declared.piece_list.Piece.{Piece}
use Rattle.group_types.proofs.Places.{number_at}
use Rattle.erasure_code.proofs.Lists.{get_or-zeros}
use Rattle.lane_kernel.specs.Sums.{add_two}
use Rattle.cauchy_code.specs.Solving.{row_coefficient, known_weight, pieces_sum, known_sum}

pub sum_none : (f : ℕ → ℕ) → 0 ≡ field_sum 0 f
unfolding field_sum
sum_none f = refl

pub sum_more : (n : ℕ) (f : ℕ → ℕ) → bit_xor (field_sum n f) (f n) ≡ field_sum (n + 1) f
unfolding field_sum
sum_more n f = sym (ap (λ k. field_sum k f) (add-one n))

pub content_at : (pieces : List Piece) (i : ℕ) (d : Piece) → i < length pieces → get_or (contents_of pieces) i [] ≡ (get_or pieces i d).bytes
content_at pieces i d within = get_or-map (λ p. p.bytes) pieces i d [] within

-- a fact of all numbers, at one piece
pub number_holds : (P : ℕ → Type 0) (pieces : List Piece) (i : ℕ) (d : Piece) → All P (numbers_of pieces) → i < length pieces → P (get_or pieces i d).number
number_holds P pieces i d all within =
    rw (← number_at pieces i d within) (All-get_or P (numbers_of pieces) i 0 (omega (arith, length-map pieces (λ p. p.number), within)) all)

pub weight_more : (n m : ℕ) (weights : ℕ → ℕ) (rows : List Piece) (d w x y : ℕ) → w ≡ known_weight n m weights rows d
    → x ≡ weights n → y ≡ row_coefficient m rows n d
    → bit_xor w (product x y) ≡ known_weight (n + 1) m weights rows d
weight_more n m weights rows d w x y sum weight coefficient =
    ap₂ bit_xor sum (ap₂ product weight coefficient) ∙ sum_more n (λ a. product (weights a) (row_coefficient m rows a d))

pub rows_more : (n : ℕ) (weights : ℕ → ℕ) (rows : List Piece) (coef : ℕ) (src dst : List ℕ) → length src ≡ length dst
    → coef ≡ weights n → src ≡ get_or (contents_of rows) n []
    → ((at : ℕ) → get_or dst at 0 ≡ pieces_sum n weights rows at) → (at : ℕ) → get_or (add_bytes dst (scale coef src)) at 0 ≡ pieces_sum (n + 1) weights rows at
rows_more n weights rows coef src dst same weight here sum at =
    get_or-add_scaled coef src dst at same
    ∙ (ap₂ bit_xor (sum at) (ap₂ product weight (ap (λ (bytes : List ℕ). get_or bytes at 0) here))
    ∙ sum_more n (λ a. product (weights a) (entry (contents_of rows) a at)))

pub known_more : (n m : ℕ) (weights : ℕ → ℕ) (rows known : List Piece) (coef : ℕ) (src dst : List ℕ) (before : ℕ → ℕ) → length src ≡ length dst
    → coef ≡ known_weight (length rows) m weights rows (get_or (numbers_of known) n 0) → src ≡ get_or (contents_of known) n []
    → ((at : ℕ) → get_or dst at 0 ≡ bit_xor (before at) (known_sum n m weights rows known at))
    → (at : ℕ) → get_or (add_bytes dst (scale coef src)) at 0 ≡ bit_xor (before at) (known_sum (n + 1) m weights rows known at)
known_more n m weights rows known coef src dst before same weight here sum at =
    get_or-add_scaled coef src dst at same
    ∙ (ap₂ bit_xor (sum at) (ap₂ product weight (ap (λ (bytes : List ℕ). get_or bytes at 0) here))
    ∙ (xor_assoc (before at) (known_sum n m weights rows known at) _
    ∙ ap (bit_xor (before at))
    (sum_more n (λ j. product (known_weight (length rows) m weights rows (get_or (numbers_of known) j 0))
    (entry (contents_of known) j at)))))

-- zeros, before the first row
pub cleared : (bytes : List ℕ) (n : ℕ) (weights : ℕ → ℕ) (rows : List Piece) → bytes ≡ replicate n 0 → (at : ℕ)
    → get_or bytes at 0 ≡ pieces_sum 0 weights rows at
cleared bytes n weights rows zeros at =
    ap (λ (bytes : List ℕ). get_or bytes at 0) zeros ∙ (get_or-zeros n at ∙ sum_none (λ a. product (weights a) (entry (contents_of rows) a at)))

-- the rows, before the first known column
pub column_begun : (m : ℕ) (weights : ℕ → ℕ) (rows known : List Piece) (at : ℕ)
    → pieces_sum (length rows) weights rows at ≡ bit_xor (pieces_sum (length rows) weights rows at)
    (known_sum 0 m weights rows known at)
column_begun m weights rows known at =
    sym (ap (bit_xor (pieces_sum (length rows) weights rows at))
    (sym (sum_none (λ j. product (known_weight (length rows) m weights rows (get_or (numbers_of known) j 0))
    (entry (contents_of known) j at))))
    ∙ xor_zero_r (pieces_sum (length rows) weights rows at))

-- one more piece in a sum
pub pieces_more : (n : ℕ) (weights : ℕ → ℕ) (pieces : List Piece) (at old now x byte : ℕ)
    → now ≡ bit_xor old (pieces_sum n weights pieces at) → x ≡ weights n → byte ≡ entry (contents_of pieces) n at
    → bit_xor now (product x byte) ≡ bit_xor old (pieces_sum (n + 1) weights pieces at)
pieces_more n weights pieces at old now x byte sum weight here =
    ap₂ bit_xor sum (ap₂ product weight here)
    ∙ (xor_assoc old (pieces_sum n weights pieces at) (product (weights n) (entry (contents_of pieces) n at))
    ∙ ap (bit_xor old) (sum_more n (λ a. product (weights a) (entry (contents_of pieces) a at))))

-- a byte that was read of a part of a piece
pub part_at : (pieces : List Piece) (i at x : ℕ) (p : Piece) → i < length pieces → p ≡ get_or pieces i p
    → x ≡ get_or p.bytes at 0 → x ≡ entry (contents_of pieces) i at
part_at pieces i at x p within is read = read
    ∙ (ap (λ (q : Piece). get_or q.bytes at 0) is
    ∙ sym (ap (λ (bytes : List ℕ). get_or bytes at 0) (content_at pieces i p within)))

-- one more piece, and two more, where their parts are added
pub one_added : (n : ℕ) (weights : ℕ → ℕ) (pieces : List Piece) (at k old coef : ℕ) (xs now : List ℕ)
    → length xs ≡ length now → get_or now k 0 ≡ bit_xor old (pieces_sum n weights pieces at) → coef ≡ weights n
    → get_or xs k 0 ≡ entry (contents_of pieces) n at → get_or (add_bytes now (scale coef xs)) k 0 ≡ bit_xor old (pieces_sum (n + 1) weights pieces at)
one_added n weights pieces at k old coef xs now same sum weight here = get_or-add_scaled coef xs now k same
    ∙ pieces_more n weights pieces at old _ coef _ sum weight here

pub two_added : (n : ℕ) (weights : ℕ → ℕ) (pieces : List Piece) (at k old p q : ℕ) (xs ys now : List ℕ)
    → length xs ≡ length now → length ys ≡ length now → get_or now k 0 ≡ bit_xor old (pieces_sum n weights pieces at)
    → p ≡ weights n → q ≡ weights (n + 1) → get_or xs k 0 ≡ entry (contents_of pieces) n at → get_or ys k 0 ≡ entry (contents_of pieces) (n + 1) at
    → get_or (add_two p q xs ys now) k 0 ≡ bit_xor old (pieces_sum (n + 2) weights pieces at)
two_added n weights pieces at k old p q xs ys now x_same y_same sum p_is q_is x_here y_here =
    one_added (n + 1) weights pieces at k old q ys (add_bytes now (scale p xs))
    (y_same ∙ sym (length-add_scaled p xs now x_same)) (one_added n weights pieces at k old p xs now x_same sum p_is
    x_here) q_is y_here
    ∙ ap (λ m. bit_xor old (pieces_sum m weights pieces at)) (omega arith)

-- before the first piece
pub none_added : (weights : ℕ → ℕ) (pieces : List Piece) (at x : ℕ) → x ≡ bit_xor x (pieces_sum 0 weights pieces at)
none_added weights pieces at x = sym (ap (bit_xor x) (sym (sum_none (λ a. product (weights a) (entry (contents_of pieces) a at)))) ∙ xor_zero_r x)
