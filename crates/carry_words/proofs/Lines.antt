-- Lines of a text, as the code and as the definitions go through them.
use Rattle.std.proofs.Common.{subst, Bool, true, false, ℕ, ◌≡◌, ◌<◌, ◌++◌, ◌||◌, ◌&&◌, List, [], ◌∷◌, length, map}
use Rattle.std.proofs.Common.{codes, Option, Some, None, IfSome, get_or, Bor, refl, sym, ap, ◌∙◌}
use Rattle.std.proofs.lemmas.List.{get_or-map, length-map}
use Rattle.std.specs.List.{list_any, list_all}
use Rattle.std.specs.Str.{bytes_eq}
use Rattle.memc_table.specs.Numeral.{number_of}
use Rattle.carry_words.specs.Standing.{HasNumberLine, has_line, is_at_rest, is_settled, status_lines}

pub any_lines : (text : List ℕ) (lines : List (Bor (List ℕ))) → list_any (λ line. bytes_eq line.now text) lines ≡ has_line (map (λ line. line.now) lines) text
any_lines text [] = refl
any_lines text (line ∷ lines) = ap (λ b. bytes_eq line.now text || b) (any_lines text lines)

pub all_lines : (lines : List (Bor (List ℕ))) → list_all (λ line. is_settled line.now) lines ≡ list_all is_settled (map (λ line. line.now) lines)
all_lines [] = refl
all_lines (line ∷ lines) = ap (λ b. is_settled line.now && b) (all_lines lines)

-- what the lines are found to say is what the status says
pub at_rest : (status : List ℕ) (lines : List (Bor (List ℕ))) (closed still settled : Bool) → map (λ line. line.now) lines ≡ status_lines status
    → closed ≡ list_any (λ line. bytes_eq line.now (codes "closed 1")) lines → still ≡ list_any (λ line. bytes_eq line.now (codes "changing 0")) lines
    → settled ≡ list_all (λ line. is_settled line.now) lines → (closed && (still && settled)) ≡ is_at_rest status
at_rest status lines closed still settled are for_closed for_still for_settled =
    subst (λ (ls : List (List ℕ)). (closed && (still && settled))
    ≡ (has_line ls (codes "closed 1") && (has_line ls (codes "changing 0") && list_all is_settled ls))) are
    (ap (λ a. a && (still && settled)) (for_closed ∙ any_lines (codes "closed 1") lines)
    ∙ ap (λ b. has_line (map (λ (line : Bor (List ℕ)). line.now) lines) (codes "closed 1") && (b && settled)) (for_still ∙ any_lines (codes "changing 0") lines)
    ∙ ap (λ c. has_line (map (λ (line : Bor (List ℕ)). line.now) lines) (codes "closed 1") &&
    (has_line (map (λ (line : Bor (List ℕ)). line.now) lines) (codes "changing 0") && c))
    (for_settled ∙ all_lines lines))

pub not_closed : (status : List ℕ) (lines : List (Bor (List ℕ))) → map (λ line. line.now) lines ≡ status_lines status
    → false ≡ list_any (λ line. bytes_eq line.now (codes "closed 1")) lines → false ≡ is_at_rest status
not_closed status lines are closed = at_rest status lines false _ _ are closed refl refl

pub not_still : (status : List ℕ) (lines : List (Bor (List ℕ))) → map (λ line. line.now) lines ≡ status_lines status
    → true ≡ list_any (λ line. bytes_eq line.now (codes "closed 1")) lines → false ≡ list_any (λ line. bytes_eq line.now (codes "changing 0")) lines
    → false ≡ is_at_rest status
not_still status lines are closed still = at_rest status lines true false _ are closed still refl

pub still : (status : List ℕ) (lines : List (Bor (List ℕ))) (settled : Bool) → map (λ line. line.now) lines ≡ status_lines status
    → true ≡ list_any (λ line. bytes_eq line.now (codes "closed 1")) lines → true ≡ list_any (λ line. bytes_eq line.now (codes "changing 0")) lines
    → settled ≡ list_all (λ line. is_settled line.now) lines → settled ≡ is_at_rest status
still status lines settled are closed is_still for_settled = at_rest status lines true true settled are closed is_still for_settled

-- a line that begins with a front has what stands behind it
pub number_in : (lines : List (Bor (List ℕ))) (front : List ℕ) (k : ℕ) (other : Bor (List ℕ)) → k < length lines
    → (result : Option (Bor (List ℕ))) (digits : Bor (List ℕ))
    → result ≡ Some digits → IfSome result (λ rest. (get_or lines k other).now ≡ front ++ rest.now) → (found : Option ℕ) → found ≡ number_of digits.now
    → IfSome found (HasNumberLine (map (λ line. line.now) lines) front)
number_in lines front k other below result digits is begins None number = tt
number_in lines front k other below result digits is begins (Some n) number =
    let line : (get_or lines k other).now ≡ front ++ digits.now = subst (λ r. IfSome r (λ rest. (get_or lines k other).now ≡ front ++ rest.now)) is begins in
    record {
      digits = digits.now;
      line = (
        k,
        (subst (λ n. k < n) (sym (length-map lines (λ (line : Bor (List ℕ)). line.now))) below),
        (get_or-map (λ line. line.now) lines k other (front ++ digits.now) below ∙ line),
      );
      is = sym number;
    }
