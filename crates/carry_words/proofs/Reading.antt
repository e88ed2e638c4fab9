-- What stands behind the front of a text.
use Rattle.std.proofs.Common.{ℕ, ◌≡◌, ◌+◌, ◌-◌, false, true, List, ◌++◌, length, take, drop, Option, Some, None}
use Rattle.std.proofs.Common.{MatchOption, IfSome, Bor, refl, sym, ap, subst, ◌∙◌}
use Rattle.std.proofs.lemmas.List.{append_assoc, take-append-drop}
use Rattle.std.proofs.lemmas.Slice.Eq.{bytes_eq-Decides}
use Rattle.std.specs.Str.{bytes_eq}
use Rattle.carry_words.specs.Answers.{Answers, IsHeard, IsRest, head_text, tail_text}
use Rattle.carry_words.specs.declared.answering.Found.{Found}
use Rattle.carry_words.specs.declared.heard.Heard.{Heard}
use Rattle.carry_words.specs.declared.heard.Heard.TheVariants as heard
use Rattle.carry_words.specs.declared.listed.Listed.{Listed}

pub stripped : (text front : List ℕ) (result : Option (Bor (List ℕ)))
    → MatchOption result (bytes_eq (take (length front) text) front ≡ false)
    (λ x. (bytes_eq (take (length front) text) front ≡ true) × (x.now ≡ drop (length front) text)
    × (length x.now + length front ≡ length text))
    → IfSome result (λ rest. text ≡ front ++ rest.now)
stripped text front None cases = tt
stripped text front (Some rest) cases =
    sym (take-append-drop (length front) text)
    ∙ ap (λ (l : List ℕ). l ++ drop (length front) text) ((bytes_eq-Decides (take (length front) text) front).0 cases.0)
    ∙ ap (λ (l : List ℕ). front ++ l) (sym cases.1)

-- a text that is cut in two
pub joined : (n : ℕ) (text value front back left : List ℕ) → front ≡ take n text → back ≡ drop n text → value ≡ front
    → back ≡ tail_text ++ left → text ≡ (value ++ tail_text) ++ left
joined n text value front back left is_front is_back is_value is_left =
    sym (take-append-drop n text)
    ∙ ap (λ (l : List ℕ). l ++ drop n text) (sym (is_value ∙ is_front))
    ∙ ap (λ (l : List ℕ). value ++ l) (sym is_back ∙ is_left)
    ∙ sym (append_assoc value tail_text left)

pub is-heard : (item : Listed) (h : Heard) (text answer left : List ℕ) (found : Found)
    → found ≡ record { heard = h; count = length text - length left } → text ≡ answer ++ left → Answers item h answer
    → IsHeard item text found
is-heard item h text answer left found is begins answers =
    subst (IsHeard item text) (sym is) (record { answer = answer; left = left; is = begins; count = refl; answers = answers })

-- an item behind its head
pub has-value : (item : Listed) (value text rest left : List ℕ) (found : Found)
    → found ≡ record { heard = heard.Found value; count = length text - length left } → text ≡ head_text item ++ rest
    → IsRest item.length value rest left → IsHeard item text found
has-value item value text rest left found is begins has =
    is-heard item (heard.Found value) text (head_text item ++ (value ++ tail_text)) left found is
    (begins ∙ ap (λ (l : List ℕ). head_text item ++ l) has.is ∙ sym (append_assoc (head_text item) (value ++ tail_text) left)) (refl, has.long)
