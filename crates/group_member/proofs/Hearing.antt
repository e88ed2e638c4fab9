-- What is heard of one process changes nothing that was heard of others.
use Rattle.std.proofs.Common.{ℕ, ◌≡◌, ◌≢◌, ◌+◌, ◌<◌, ◌||◌, List, length, ap, sym, ◌∙◌, arith}
use Rattle.std.specs.Prelude.{slice_index_or, slice_set}
use Rattle.group_types.specs.Lists.{at, put}
use Rattle.group_types.specs.Names.{IsProcess, index_of}
use Rattle.group_types.specs.declared.process.ProcessId.{ProcessId}
use Rattle.group_types.proofs.Lists.{at-put, at-put-other, at_index, set_put}
use Rattle.group_types.proofs.Names.{index-below}
use Rattle.membership.specs.Members.{Membership, all_living, knows_dead}
use Rattle.group_member.specs.Standing.{OwnWords, heard_of}

module _ (w : OwnWords) (from : ProcessId) (member : IsProcess w.shape from) (many : length w.heard ≡ w.shape.k + w.shape.m)
    (i : ℕ) (at-i : i ≡ index_of w.shape from) (new : Membership) where
  within : i < length w.heard
  within = let below = index-below w.shape from member in omega (arith, below, many, at-i)

  pub heard-others : (q : ℕ) → q ≢ index_of w.shape from → at (all_living w.shape) (slice_set w.heard i new) q ≡ at (all_living w.shape) w.heard q
  heard-others q other =
      ap (λ (sets : List Membership). at (all_living w.shape) sets q) (set_put (all_living w.shape) w.heard i new within)
      ∙ at-put-other (all_living w.shape) w.heard i q new (λ same. other (same ∙ at-i))

  pub heard-here : (old set : Membership) (x : ProcessId) → old ≡ slice_index_or w.heard i old → knows_dead new x ≡ (knows_dead old x || knows_dead set x)
      → knows_dead (at (all_living w.shape) (slice_set w.heard i new) (index_of w.shape from)) x ≡ (knows_dead (heard_of w from) x || knows_dead set x)
  heard-here old set x value known =
      let d = all_living w.shape in
      ap (λ (sets : List Membership). knows_dead (at d sets (index_of w.shape from)) x) (set_put d w.heard i new within)
      ∙ ap (λ (j : ℕ). knows_dead (at d (put d w.heard i new) j) x) (sym at-i)
      ∙ ap (λ (known : Membership). knows_dead known x) (at-put d d w.heard i new)
      ∙ known
      ∙ ap (λ (known : Membership). knows_dead known x || knows_dead set x) (value ∙ sym (at_index d old w.heard i within) ∙ ap (at d w.heard) at-i)
