-- When a permit may come, by the indices of a group.
use Rattle.std.proofs.Common.{ℕ, ◌≡◌, ◌≢◌, ◌↔◌, ◌+◌, ◌<◌, Bool, false, IsTrue, subst, sym, ap, ◌∙◌, length, inl, inr, arith}
use Rattle.std.specs.Prelude.{slice_index_or}
use Rattle.std.proofs.lemmas.Bool.{cases_eq}
use Rattle.group_types.specs.Lists.{at}
use Rattle.group_types.specs.Names.{index_of, process_at}
use Rattle.group_types.proofs.Lists.{at_index}
use Rattle.group_types.proofs.Names.{index-below, index-process_at, process_at-index}
use Rattle.membership.specs.Members.{Membership, all_living, knows_dead}
use Rattle.group_member.specs.Standing.{OwnWords, heard_of}
use Rattle.group_member.specs.Words.{CanPermit, HasSaidAll, AreAmong}

pub by-index : (w : OwnWords) → ((x : ℕ) → x < w.shape.k + w.shape.m → HasSaidAll w (process_at w.shape x)) → CanPermit w
by-index w each r member =
    subst (HasSaidAll w) (process_at-index w.shape r member) (each (index_of w.shape r) (index-below w.shape r member))

pub heard-at : (w : OwnWords) (d : Membership) (x : ℕ) → x < length w.heard → heard_of w (process_at w.shape x) ≡ slice_index_or w.heard x d
heard-at w d x within =
    ap (at (all_living w.shape) w.heard) (index-process_at w.shape x) ∙ at_index (all_living w.shape) d w.heard x within

pub said-all : (w : OwnWords) (d : Membership) (x : ℕ) (told : Bool) → x < length w.heard → d ≡ slice_index_or w.heard x d
    → (IsTrue told ↔ AreAmong w.cut d) → process_at w.shape x ≢ w.name → knows_dead w.cut (process_at w.shape x) ≡ false
    → IsTrue told ↔ HasSaidAll w (process_at w.shape x)
said-all w d x told within value same other uncut =
    let is : d ≡ heard_of w (process_at w.shape x) = value ∙ sym (heard-at w d x within) in
    (λ yes. λ _ _. subst (AreAmong w.cut) is (same.0 yes), λ all. same.1 (subst (AreAmong w.cut) (sym is) (all other uncut)))

-- one index more
pub one-more : (w : OwnWords) (x : ℕ) → ((y : ℕ) → y < x → HasSaidAll w (process_at w.shape y)) → HasSaidAll w (process_at w.shape x)
    → (y : ℕ) → y < x + 1 → HasSaidAll w (process_at w.shape y)
one-more w x before here y below = elim (cases_eq y x) [
  | inl same ↦ subst (λ (z : ℕ). HasSaidAll w (process_at w.shape z)) (sym same) here
  | inr other ↦ before y (omega (arith, below, other))
]
