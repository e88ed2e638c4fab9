use Rattle.std.proofs.Common.{◌≡◌, ℕ, ◌+◌, ◌-◌, ◌<◌, ◌≤◌, ◌==◌, nat_lt, Bool, true, false, List, [], ◌∷◌, ◌++◌, length}
use Rattle.std.proofs.Common.{take, drop, get_or, slice_index, All, add-one, if◌then◌else◌, append_assoc, refl, sym, ap}
use Rattle.std.proofs.Common.{◌∙◌, subst, arith}
use Rattle.std.proofs.Math.Seq.{drop-cons, take-length}
use Rattle.std.proofs.lemmas.Grind.{get_or_default_zero}
use Rattle.std.proofs.lemmas.List.{take-append-drop, length-take-le, get_or-take, length-drop}
use Rattle.std.proofs.lemmas.List.Splits.{slice_split_at, slice_split_none}
use Rattle.std.specs.List.{slice_split, filter}
use Rattle.memc_proto.specs.Words.{words_of}

-- a word, and none where there is no byte
abbrev pub one_word : List ℕ → List (List ℕ)
one_word word = if nat_lt 0 (length word) then word ∷ [] else []

-- a test that no place before the end passes
abbrev pub NoneBelow : ℕ → List ℕ → ℕ → Type 0
NoneBelow byte text end = (k : ℕ) → k < end → (slice_index text k == byte) ≡ true → ⊥

pub false_of : (b : Bool) → (b ≡ true → ⊥) → b ≡ false
false_of true differs = absurd (differs refl)
false_of false _ = refl

-- none of the first bytes is this byte
pub is_plain : (byte : ℕ) (text : List ℕ) (end : ℕ) → end ≤ length text → NoneBelow byte text end → All (λ b. (b == byte) ≡ false) (take end text)
is_plain byte text end within before k d below =
    let low : k < end = omega (arith, length-take-le end text within) in
    let high : k < length text = omega arith in
    let same : get_or (take end text) k d ≡ slice_index text k = get_or-take end text k d low ∙ get_or_default_zero text k d high in
    subst (λ (b : ℕ). (b == byte) ≡ false) (sym same) (false_of (slice_index text k == byte) (before k low))

-- a text is what stands before a place, the byte there, and the rest
pub cut_at : (text : List ℕ) (end : ℕ) → end < length text → text ≡ take end text ++ slice_index text end ∷ drop (end + 1) text
cut_at text end within =
    let tail : drop end text ≡ slice_index text end ∷ drop (end + 1) text = rw add-one (drop-cons text end 0 within) in
    sym (take-append-drop end text) ∙ ap (λ (xs : List ℕ). take end text ++ xs) tail

filter-first : (word : List ℕ) (words : List (List ℕ)) (b : Bool) → nat_lt 0 (length word) ≡ b
    → filter (λ w. nat_lt 0 (length w)) (word ∷ words) ≡ (if b then word ∷ [] else [])
    ++ filter (λ w. nat_lt 0 (length w)) words
filter-first word words true is = rw is refl
filter-first word words false is = rw is refl

-- a word that a space ends is the first
pub words_of-cut : (text : List ℕ) (end : ℕ) → end < length text → NoneBelow 32 text end → (slice_index text end == 32) ≡ true
    → words_of text ≡ one_word (take end text) ++ words_of (drop (end + 1) text)
words_of-cut text end within before here =
    let is_space : ℕ → Bool = λ b. b == 32 in
    let rest : List ℕ = drop (end + 1) text in
    let pieces : slice_split is_space text ≡ take end text ∷ slice_split is_space rest =
    ap (slice_split is_space) (cut_at text end within) ∙ slice_split_at is_space (take end text)
    (slice_index text end) rest (is_plain 32 text end (omega arith) before) here in
    ap (filter (λ w. nat_lt 0 (length w))) pieces ∙ filter-first (take end text) (slice_split is_space rest) (nat_lt 0 (length (take end text))) refl

-- a text without a space is one word
pub words_of-last : (text : List ℕ) → NoneBelow 32 text (length text) → words_of text ≡ one_word text
words_of-last text none =
    let plain = subst (All (λ b. (b == 32) ≡ false)) (take-length text) (is_plain 32 text (length text) (omega arith) none) in
    ap (filter (λ w. nat_lt 0 (length w))) (slice_split_none (λ b. b == 32) text plain)
    ∙ filter-first text [] (nat_lt 0 (length text)) refl ∙ right (one_word text)
  where
    right : (ws : List (List ℕ)) → ws ++ [] ≡ ws
    right [] = refl
    right (w ∷ ws) = ap (λ (xs : List (List ℕ)). w ∷ xs) (right ws)

pub take_rest : (text : List ℕ) (n : ℕ) → take (length text - n) (drop n text) ≡ drop n text
take_rest text n = ap (λ (m : ℕ). take m (drop n text)) (sym (length-drop n text)) ∙ take-length (drop n text)

-- the step of a loop that cuts words off at their spaces
pub words_of-step : (found : List (List ℕ)) (line text : List ℕ) (end : ℕ) → found ++ words_of text ≡ words_of line
    → end < length text → NoneBelow 32 text end → (slice_index text end == 32) ≡ true
    → (found ++ one_word (take end text)) ++ words_of (take (length text - (end + 1)) (drop (end + 1) text)) ≡ words_of line
words_of-step found line text end before within none here =
    rw (take_rest text (end + 1)) (append_assoc found (one_word (take end text)) (words_of (drop (end + 1) text))
    ∙ ap (λ (ws : List (List ℕ)). found ++ ws) (sym (words_of-cut text end within none here)) ∙ before)

-- its end
pub words_of-done : (found : List (List ℕ)) (line text : List ℕ) → found ++ words_of text ≡ words_of line
    → NoneBelow 32 text (length text) → found ++ one_word text ≡ words_of line
words_of-done found line text before none = ap (λ (ws : List (List ℕ)). found ++ ws) (sym (words_of-last text none)) ∙ before
