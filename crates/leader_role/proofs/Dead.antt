-- Who is known dead once a death more is known.
use Rattle.std.proofs.Common.{ℕ, ◌≡◌, ◌≢◌, ◌⊎◌, Bool, true, false, not, ◌&&◌, List, [], ◌∷◌, inl, inr, refl, sym, ap, ◌∙◌}
use Rattle.std.proofs.lemmas.Bool.{and_from, and_parts, cases_eq}
use Rattle.std.specs.Prelude.{is_some}
use Rattle.std.specs.List.{list_all, range_with_len}
use Rattle.group_types.specs.Lists.{at, put}
use Rattle.group_types.specs.declared.process.ProcessId.{ProcessId}
use Rattle.group_types.specs.declared.process.ProcessId.TheVariants.{DataNode, ParityNode}
use Rattle.group_types.proofs.Lists.{at-put, at-put-other}
use Rattle.membership.specs.Members.{Membership, knows_dead, with_dead}
use Rattle.group_run.specs.Applying.{head_at}
use Rattle.group_run.specs.Process.{Process}
use Rattle.group_run.specs.Receiving.{takes_over}
use Rattle.group_run.specs.Rows.{parity_number}
use Rattle.leader_role.specs.Sound.{IsVacant}

pub shape-stays : (known : Membership) (dead : ProcessId) → (with_dead known dead).shape ≡ known.shape
shape-stays known (DataNode d) = refl
shape-stays known (ParityNode i) = refl

-- the others are known as before
pub knows-other : (known : Membership) (dead q : ProcessId) → dead ≢ q → knows_dead (with_dead known dead) q ≡ knows_dead known q
knows-other known (DataNode a) (DataNode b) other = at-put-other false known.data_dead a b true (λ same. other (ap DataNode (sym same)))
knows-other known (ParityNode a) (ParityNode b) other = at-put-other false known.parity_dead a b true (λ same. other (ap ParityNode (sym same)))
knows-other known (DataNode a) (ParityNode b) other = refl
knows-other known (ParityNode a) (DataNode b) other = refl

-- a word that says dead does so after
still-dead : (words : List Bool) (a b : ℕ) → at false words b ≡ true → at false (put false words a true) b ≡ true
still-dead words a b says = by (cases_eq b a) where
  by : (b ≡ a) ⊎ (b ≢ a) → at false (put false words a true) b ≡ true
  by (inl same) = ap (at false (put false words a true)) same ∙ at-put false false words a true
  by (inr other) = at-put-other false words a b true other ∙ says

pub knows-still : (known : Membership) (dead q : ProcessId) → knows_dead known q ≡ true → knows_dead (with_dead known dead) q ≡ true
knows-still known (DataNode a) (DataNode b) knows = still-dead known.data_dead a b knows
knows-still known (ParityNode a) (ParityNode b) knows = still-dead known.parity_dead a b knows
knows-still known (DataNode a) (ParityNode b) knows = knows
knows-still known (ParityNode a) (DataNode b) knows = knows

all-still : (f g : ℕ → Bool) → ((x : ℕ) → f x ≡ true → g x ≡ true) → (xs : List ℕ) → list_all f xs ≡ true → list_all g xs ≡ true
all-still f g turns [] all = refl
all-still f g turns (x ∷ xs) all =
    let parts = and_parts (f x) (list_all f xs) all in
    and_from (g x) (list_all g xs) (turns x parts.0) (all-still f g turns xs parts.1)

-- what was vacant stays so
pub vacant-still : (known : Membership) (dead : ProcessId) (d number : ℕ) → IsVacant known d number → IsVacant (with_dead known dead) d number
vacant-still known dead d number vacant = record {
  lost = knows-still known dead (DataNode d) vacant.lost;
  lower = all-still (λ j. knows_dead known (ParityNode j)) (λ j. knows_dead (with_dead known dead) (ParityNode j))
      (λ j. knows-still known dead (ParityNode j)) (range_with_len 0 number) vacant.lower;
}

-- what a process takes over is vacant
pub taken-vacant : (p : Process) (d : ℕ) (name : ProcessId) → takes_over p d name ≡ true → IsVacant p.known d (parity_number name)
taken-vacant p d (DataNode e) takes = absurd (cc takes)
taken-vacant p d (ParityNode i) takes =
    let lower = list_all (λ j. knows_dead p.known (ParityNode j)) (range_with_len 0 i) in
    let both = and_parts (not (is_some (head_at p d)) && knows_dead p.known (DataNode d)) lower takes in
    record { lost = (and_parts (not (is_some (head_at p d))) (knows_dead p.known (DataNode d)) both.0).1; lower = both.1 }
