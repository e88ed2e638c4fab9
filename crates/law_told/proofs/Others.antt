-- An ask whose key is of another group.
use Rattle.std.proofs.Common.{ℕ, ◌≡◌, ◌≢◌, Bool, true, false, length, Option, Some, None, if◌then◌else◌, ◌⊎◌, inl, inr, sym, ap, ◌∙◌}
use Rattle.std.proofs.lemmas.Bool.{cases_eq, eq-eqb, ne_eqb}
use Rattle.memc_table.specs.Act.{key_of}
use Rattle.memc_table.specs.Asked.{Asked}
use Rattle.group_types.specs.declared.process.ProcessId.{ProcessId}
use Rattle.group_calls.specs.Turns.{Turn}
use Rattle.group_calls.specs.declared.event.Event.TheVariants.{Ask, Collect, Deliver, Fail, Flush, Trace}
use Rattle.group_layout.specs.Cluster.{Cluster, Move, all_moved, inner_unless, move_unless, turn_of, unless_own}
use Rattle.group_layout.specs.Layout.{group_of}
use Rattle.group_layout.specs.declared.event.ClusterAnswer.TheVariants.{AlreadyDead, Done, WrongGroup}
use Rattle.group_layout.specs.declared.event.ClusterEvent.TheVariants.{FailNode, InGroup}
use Rattle.law_told.specs.Clusters.{NamesAnother, OtherGroupsAreNamed}

of-node : (b : Bool) (i : ℕ) → (if b then AlreadyDead else Done) ≡ WrongGroup i → ⊥
of-node true i is = cc is
of-node false i is = cc is

module _ (c : Cluster) (j : ℕ) (caller : ℕ) (op : Asked) (p : ProcessId) (i : ℕ) where
  abbrev own : ℕ
  own = group_of (key_of op.act) c.groups.shape.k (length c.groups.worlds)

  abbrev move : Move
  move = record { group = j; event = Ask caller op p }

  abbrev turn : Turn
  turn = turn_of c.groups (record { group = j; event = Ask caller op p })

  other : own ≢ j → unless_own j own ≡ Some own
  other apart = ap (λ (b : Bool). if b then None else Some own) (ne_eqb own j apart)

  same : own ≡ j → unless_own j own ≡ None
  same is = ap (λ (b : Bool). if b then None else Some own) (eq-eqb own j is)

  asks : NamesAnother c (InGroup j (Ask caller op p)) i
  asks = record {
    named = λ another. ap (λ (o : Option ℕ). inner_unless o turn) (other (λ is. another.1 (sym another.0 ∙ is))) ∙ ap WrongGroup another.0;
    stays = λ another.
        ap (λ (o : Option ℕ). record { failed = c.failed; groups = all_moved c.groups (move_unless o move) })
        (other (λ is. another.1 (sym another.0 ∙ is)));
    only = λ is. by is (cases_eq own j);
  } where
    by : inner_unless (unless_own j own) turn ≡ WrongGroup i → (own ≡ j) ⊎ (own ≢ j) → (own ≡ i) × (i ≢ j)
    by is (inl here) = absurd (cc (sym (ap (λ (o : Option ℕ). inner_unless o turn) (same here)) ∙ is))
    by is (inr apart) =
        let named : WrongGroup own ≡ WrongGroup i = sym (ap (λ (o : Option ℕ). inner_unless o turn) (other apart)) ∙ is in
        let both : own ≡ i = cc named in
        (both, λ there. apart (both ∙ there))

pub other_groups_are_named : OtherGroupsAreNamed
other_groups_are_named c (InGroup j (Ask caller op p)) i = asks c j caller op p i
other_groups_are_named c (InGroup j (Collect caller call p)) i =
    record { named = λ another. absurd another; stays = λ another. absurd another; only = λ is. cc is }
other_groups_are_named c (InGroup j (Deliver from to)) i = record { named = λ another. absurd another; stays = λ another. absurd another; only = λ is. cc is }
other_groups_are_named c (InGroup j (Fail p keep)) i = record { named = λ another. absurd another; stays = λ another. absurd another; only = λ is. cc is }
other_groups_are_named c (InGroup j (Flush p)) i = record { named = λ another. absurd another; stays = λ another. absurd another; only = λ is. cc is }
other_groups_are_named c (InGroup j (Trace caller call d p)) i =
    record { named = λ another. absurd another; stays = λ another. absurd another; only = λ is. cc is }
other_groups_are_named c (FailNode node keep) i = record { named = λ another. absurd another; stays = λ another. absurd another; only = λ is. of-node _ i is }
