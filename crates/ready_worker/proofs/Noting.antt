-- What is noted of things, one after another.
use Rattle.std.proofs.Common.{◌≡◌, List, [], ◌∷◌, ◌++◌, map, append_assoc, sym, ap, ◌∙◌}

-- one more was noted
pub noted : {A B : Type 0} (f : A → B) (notes now all : List B) (note : B) (rest next : List A) (x : A)
    → notes ++ map f rest ≡ all → rest ≡ x ∷ next → now ≡ notes ++ note ∷ [] → note ≡ f x → now ++ map f next ≡ all
noted f notes now all note rest next x before is pushed same = ap (λ (ns : List _). ns ++ map f next) pushed
    ∙ append_assoc notes (note ∷ []) (map f next) ∙ ap (λ n. notes ++ n ∷ map f next) same
    ∙ sym (ap (λ (xs : List _). notes ++ map f xs) is) ∙ before
