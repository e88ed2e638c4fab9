-- The requests that a member has read, of which one is taken out.
use Rattle.std.proofs.Common.{ℕ, zero, suc, ◌≡◌, true, ◌<◌, List, [], ◌∷◌, length, refl, sym, ap, ◌∙◌, arith}
use Rattle.std.specs.List.{remove}
use Rattle.std.specs.Prelude.{All, Some, Result, Ok, Err, OnOk, is_ok, slice_index_or}
use Rattle.group_types.specs.Dimensions.{Dimensions}
use Rattle.group_run.specs.Process.{Process}
use Rattle.group_wire.specs.Sets.{entry_at, without_nth}
use Rattle.group_wire.specs.State.{Request}
use Rattle.group_member.specs.Requests.{CanTreat}

pub remove-is : {X : Type 0} (xs : List X) (i : ℕ) → remove xs i ≡ without_nth xs i
remove-is [] zero = refl
remove-is [] (suc i) = refl
remove-is (x ∷ xs) zero = refl
remove-is (x ∷ xs) (suc i) = ap (λ (l : List _). x ∷ l) (remove-is xs i)

pub entry-index : {X : Type 0} (d : X) (xs : List X) (i : ℕ) → i < length xs → entry_at xs i ≡ Some (slice_index_or xs i d)
entry-index d [] i within = absurd (omega arith)
entry-index d (x ∷ xs) zero within = refl
entry-index d (x ∷ xs) (suc i) within = entry-index d xs i (omega arith)

pub treat-below : (s : Dimensions) (p : Process) (rs : List Request) (place : ℕ) → CanTreat s p (entry_at rs place) → place < length rs
treat-below s p [] place can = absurd can
treat-below s p (r ∷ rs) zero can = omega arith
treat-below s p (r ∷ rs) (suc place) can = let rest = treat-below s p rs place can in omega (arith, rest)

pub all-front : (P : Request → Type 0) (r : Request) (rs : List Request) → P r → All P rs → All P (r ∷ rs)
all-front P r rs first rest zero d below = first
all-front P r rs first rest (suc k) d below = rest k d (omega (arith, below))

pub all-without : (P : Request → Type 0) (rs : List Request) (place : ℕ) → All P rs → All P (without_nth rs place)
all-without P [] place all = all
all-without P (r ∷ rs) zero all = λ k d below. all (suc k) d (omega (arith, below))
all-without P (r ∷ rs) (suc place) all =
    all-front P r (without_nth rs place) (all zero r (omega arith)) (all-without P rs place (λ j e low. all (suc j) e (omega (arith, low))))

pub same-entry : (rs : List Request) (place : ℕ) (r q : Request) → place < length rs → r ≡ slice_index_or rs place r → q ≡ slice_index_or rs place q → r ≡ q
same-entry rs place r q below one other =
    let same : Some (slice_index_or rs place r) ≡ Some (slice_index_or rs place q) = sym (entry-index r rs place below) ∙ entry-index q rs place below in
    cc (same, one, other)

pub on-ok : {T E P : Type 0} (r : Result T E) → (is_ok r ≡ true → P) → OnOk r P
on-ok (Ok x) holds = holds refl
on-ok (Err e) holds = tt
