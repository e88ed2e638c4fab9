-- Parts of lists: what two lists have together, each has, and what stands in the first stands in both.
use Rattle.std.proofs.Common.{◌≡◌, ℕ, zero, suc, List, [], ◌∷◌, ◌++◌, ◌∙◌, append_assoc, slice_get, Some, refl, sym, ap}
use Rattle.std.proofs.lemmas.List.Elements.{All-cons, All-head, All-nil, All-tail}
use Rattle.std.specs.Prelude.{All}
use Rattle.group_calls.specs.Turns.{Turn, log_of}
use Rattle.group_calls.specs.declared.entry.Entry.{Entry}

pub front-all : {X : Type 0} (P : X → Type 0) (xs ys : List X) → All P (xs ++ ys) → All P xs
front-all P [] ys all = All-nil P
front-all P (x ∷ xs) ys all = All-cons P x xs (All-head P x (xs ++ ys) all) (front-all P xs ys (All-tail P x (xs ++ ys) all))

pub back-all : {X : Type 0} (P : X → Type 0) (xs ys : List X) → All P (xs ++ ys) → All P ys
back-all P [] ys all = all
back-all P (x ∷ xs) ys all = back-all P xs ys (All-tail P x (xs ++ ys) all)

pub get-front : {X : Type 0} (xs ys : List X) (i : ℕ) (x : X) → slice_get xs i ≡ Some x → slice_get (xs ++ ys) i ≡ Some x
get-front [] ys i x is = cc is
get-front (y ∷ xs) ys zero x is = is
get-front (y ∷ xs) ys (suc i) x is = get-front xs ys i x is

-- the log of turns behind others
pub log-append : (xs ys : List Turn) → log_of (xs ++ ys) ≡ log_of xs ++ log_of ys
log-append [] ys = refl
log-append (t ∷ xs) ys = ap (λ (es : List Entry). t.logged ++ es) (log-append xs ys) ∙ sym (append_assoc t.logged (log_of xs) (log_of ys))
