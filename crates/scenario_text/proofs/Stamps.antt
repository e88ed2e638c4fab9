use Rattle.std.proofs.Common.{◌≡◌, ◌+◌, ◌<◌, ℕ, List, ◌∷◌, ◌++◌, ◌∙◌, length, drop, append_assoc}
use Rattle.std.proofs.Math.ListN.{get_or}
use Rattle.std.proofs.lemmas.List.{drop_more}
use Rattle.std.specs.Fmt.{decimal}
use Rattle.scenario_text.specs.Texts.{behind_commas}

-- a text that gained a comma and the number at i has one number less before it
pub next_number : (ns : List ℕ) (i : ℕ) (front text all : List ℕ) → i < length ns → text ≡ front ++ 44 ∷ decimal (get_or ns i 0)
    → front ++ behind_commas (drop i ns) ≡ all → text ++ behind_commas (drop (i + 1) ns) ≡ all
next_number ns i front text all below gained before =
    let next = rw (drop_more ns i 0 below) at before in
    rw gained (append_assoc front (44 ∷ decimal (get_or ns i 0)) (behind_commas (drop (i + 1) ns)) ∙ next)
