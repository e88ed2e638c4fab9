-- A line shows one stamp, and one word behind it.
use Rattle.std.proofs.Common.{◌≡◌, ℕ, List, [], ◌∷◌, ◌++◌, codes, All, length, refl, sym, ap, ◌∙◌, append_assoc, arith}
use Rattle.std.proofs.lemmas.Fmt.{decimal_injective}
use Rattle.std.proofs.lemmas.List.{append-nil, append_cancel_left}
use Rattle.std.proofs.lemmas.List.Elements.{All-head, All-tail}
use Rattle.std.specs.Fmt.{decimal}
use Rattle.scenario_text.specs.Texts.{behind_commas, stamp_text}
use Rattle.transcript_text.specs.Texts.{FitsNumber, ShowsValue}
use Rattle.transcript_text.proofs.Cuts.{cut_same}
use Rattle.transcript_text.proofs.Numbers.{Lacks-decimal}
use Rattle.transcript_text.proofs.Stamps.{Lacks-stamp}

-- numbers of two stamps that are as long and have one text
stamp_same : (ns ms : List ℕ) → All FitsNumber ns → All FitsNumber ms → length ns ≡ length ms → stamp_text ns ≡ stamp_text ms → ns ≡ ms
stamp_same [] [] fn fm long same = refl
stamp_same [] (m ∷ ms) fn fm long same = absurd (omega (arith, long))
stamp_same (n ∷ ns) [] fn fm long same = absurd (omega (arith, long))
stamp_same (n ∷ []) (m ∷ []) fn fm long same =
    let a = All-head FitsNumber n [] fn in let b = All-head FitsNumber m [] fm in
    ap (λ (k : ℕ). k ∷ []) (decimal_injective n m a b (sym (append-nil (decimal n)) ∙ same ∙ append-nil (decimal m)))
stamp_same (n ∷ []) (m ∷ k ∷ ks) fn fm long same = absurd (omega (arith, long))
stamp_same (n ∷ k ∷ ks) (m ∷ []) fn fm long same = absurd (omega (arith, long))
stamp_same (n ∷ k ∷ ks) (m ∷ j ∷ js) fn fm long same =
    let a = All-head FitsNumber n (k ∷ ks) fn in let b = All-head FitsNumber m (j ∷ js) fm in
    let both = cut_same 44 (decimal n) (decimal m) (decimal k ++ behind_commas ks) (decimal j ++ behind_commas js)
    (Lacks-decimal 44 n (omega arith) a) (Lacks-decimal 44 m (omega arith) b) same in
    let rest = stamp_same (k ∷ ks) (j ∷ js) (All-tail FitsNumber n (k ∷ ks) fn) (All-tail FitsNumber m (j ∷ js) fm) (omega (arith, long)) both.1 in
    ap (λ (x : ℕ). x ∷ k ∷ ks) (decimal_injective n m a b both.0) ∙ ap (λ (xs : List ℕ). m ∷ xs) rest

-- so of a line
pub shows_same : (line : List ℕ) (ns ms v w : List ℕ) → All FitsNumber ns → All FitsNumber ms → length ns ≡ length ms
    → ShowsValue line ns v → ShowsValue line ms w → (ns ≡ ms) × (v ≡ w)
shows_same line ns ms v w fn fm long a b =
    let left : codes "shown " ++ (stamp_text ns ++ 32 ∷ v) ≡ line = ap (λ (t : List ℕ). codes "shown " ++ t)
    (sym (append_assoc (stamp_text ns) (32 ∷ []) v)) ∙ a in
    let right : codes "shown " ++ (stamp_text ms ++ 32 ∷ w) ≡ line = ap (λ (t : List ℕ). codes "shown " ++ t)
    (sym (append_assoc (stamp_text ms) (32 ∷ []) w)) ∙ b in
    let both = cut_same 32 (stamp_text ns) (stamp_text ms) v w (Lacks-stamp ns fn) (Lacks-stamp ms fm)
    (append_cancel_left (codes "shown ") _ _ (left ∙ sym right)) in
    (stamp_same ns ms fn fm long both.0, both.1)
