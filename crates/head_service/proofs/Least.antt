-- Whom a head waits for, from a number on.
use Rattle.std.proofs.Common.{ℕ, suc, ◌≡◌, ◌+◌, ◌-◌, ◌<◌, Bool, true, false, not, ◌&&◌, List, ◌∷◌, filter, length}
use Rattle.std.proofs.Common.{Option, Some, None, refl, sym, ap, subst, ◌∙◌, arith}
use Rattle.std.specs.List.{range_with_len}
use Rattle.group_types.specs.Names.{same_process}
use Rattle.group_types.specs.declared.process.ProcessId.{ProcessId}
use Rattle.group_types.specs.declared.process.ProcessId.TheVariants.{ParityNode}
use Rattle.group_types.specs.Lists.{at, put}
use Rattle.group_types.proofs.Lists.{length-put, put-at, put-put}
use Rattle.membership.specs.Members.{Membership, knows_dead}
use Rattle.group_run.specs.Heading.{acknowledged}
use Rattle.group_run.specs.Process.{Head}

-- a parity process other than this one, that isn't known dead
abbrev pub is_peer : ProcessId → Membership → ℕ → Bool
is_peer name known i = not (same_process name (ParityNode i)) && not (knows_dead known (ParityNode i))

-- the peers from a number on
abbrev pub peers_from : ProcessId → Membership → ℕ → ℕ → List ℕ
peers_from name known m i = filter (is_peer name known) (range_with_len i (m - i))

module _ (name : ProcessId) (known : Membership) (m i : ℕ) (within : i < m) where
  front : range_with_len i (m - i) ≡ i ∷ range_with_len ((i + 1)) (m - (i + 1))
  front = let e : m - i ≡ suc (m - (i + 1)) = omega arith in ap (range_with_len i) e

  pub peers-without : is_peer name known i ≡ false → peers_from name known m i ≡ peers_from name known m ((i + 1))
  peers-without isnt = ap (filter (is_peer name known)) front ∙ by (is_peer name known i) isnt where
    by : (b : Bool) → b ≡ false → filter (is_peer name known) (i ∷ range_with_len ((i + 1)) (m - (i + 1))) ≡ peers_from name known m ((i + 1))
    by b test = rw isnt refl

  pub peers-with : is_peer name known i ≡ true → peers_from name known m i ≡ i ∷ peers_from name known m ((i + 1))
  peers-with is = ap (filter (is_peer name known)) front ∙ rw is refl

-- an acknowledgement that is taken back leaves the head as it was
pub acks-back : (i n m : ℕ) (h k : Head) → k ≡ acknowledged i n h → i < m → length h.acks ≡ m → record k { acks = put None k.acks i (at None h.acks i) } ≡ h
acks-back i n m h k is below long = ap (λ (x : Head). record x { acks = put None x.acks i (at None h.acks i) }) is
    ∙ ap (λ (xs : List (Option ℕ)). record h { acks = xs })
    (put-put None h.acks i (Some n) (at None h.acks i) ∙ put-at None None h.acks i (subst (λ (x : ℕ). i < x) (sym long) below))

-- an acknowledgement leaves the number of places
pub acks-long : (i n m : ℕ) (h k : Head) → k ≡ acknowledged i n h → i < m → length h.acks ≡ m → length k.acks ≡ length h.acks
acks-long i n m h k is below long = ap (λ (x : Head). length x.acks) is ∙ length-put None h.acks i (Some n) (subst (λ (x : ℕ). i < x) (sym long) below)
