-- A group has no more dead processes than nodes have failed.
use Rattle.std.proofs.Common.{ℕ, zero, suc, ◌≡◌, ◌≢◌, ◌<◌, ◌≤◌, ◌+◌, Bool, true, false, List, [], ◌∷◌, ◌++◌, length}
use Rattle.std.proofs.Common.{replicate, Option, Some, None, inl, inr, if◌then◌else◌, refl, ap, subst, ◌∙◌, arith}
use Rattle.std.specs.List.{range_with_len}
use Rattle.group_types.specs.Dimensions.{Dimensions}
use Rattle.group_types.specs.Lists.{at, put}
use Rattle.group_types.specs.Names.{process_at}
use Rattle.group_types.proofs.Lists.{at-replicate}
use Rattle.membership.specs.Members.{count_dead_words}
use Rattle.group_calls.specs.declared.event.Event.TheVariants.{Fail}
use Rattle.group_run.specs.World.{World, dead_nodes, opening, step}
use Rattle.group_run.specs.Causes.{IsFailure}
use Rattle.group_layout.specs.Cluster.{Cluster, Groups, MayAllHappen, MayHappen, Move, all_moved}
use Rattle.group_layout.specs.Cluster.{cluster_after, cluster_step, failure_of, failures, move_unless, moved, moves_of}
use Rattle.group_layout.specs.Cluster.{node_failure, opening_cluster, other_group, world_in}
use Rattle.group_layout.specs.Layout.{process_on}
use Rattle.group_layout.specs.Promise.{FewFailuresAreBorne}
use Rattle.group_layout.specs.declared.event.ClusterEvent.{ClusterEvent}
use Rattle.group_layout.specs.declared.event.ClusterEvent.TheVariants.{FailNode, InGroup}
use Rattle.group_layout.proofs.Deaths.{dead-fail, dead-step, none-dead, one-if}
use Rattle.group_layout.proofs.Happening.{Even, even-after, even-start, moved-append, moves-may}
use Rattle.group_layout.proofs.Moves.{IsOrNot, is-or-not, other-world, own-world}

-- how many processes of a group are dead
abbrev pub dead_in : Groups → ℕ → ℕ
dead_in g j = dead_nodes (world_in g j).nodes

-- a move that is no failure
no-failure : (g : Groups) (m : Move) (j : ℕ) → ¬ (IsFailure m.event) → dead_in (moved g m) j ≡ dead_in g j
no-failure g m j other = by (is-or-not m.group j) where
  by : IsOrNot m.group j → dead_in (moved g m) j ≡ dead_in g j
  by (inl (word, is)) = ap (λ (w : World). dead_nodes w.nodes) (own-world g m j is) ∙ dead-step (world_in g j) m.event other
  by (inr (word, apart)) = ap (λ (w : World). dead_nodes w.nodes) (other-world g m j apart)

-- failures of processes of one group
here-one : (s : Dimensions) (g : Groups) (keep j : ℕ) (q : Option ℕ) → dead_in (all_moved g (failure_of s keep j q)) j ≤ suc (dead_in g j)
here-one s g keep j None = omega arith
here-one s g keep j (Some x) =
    let m : Move = record { group = j; event = Fail (process_at s x) keep } in
    let few = dead-fail (world_in g j) (process_at s x) keep in
    let is : dead_in (moved g m) j ≡ dead_nodes (step (world_in g j) m.event).world.nodes = ap (λ (w : World). dead_nodes w.nodes) (own-world g m j refl) in
    omega (arith, few, is)

elsewhere : (s : Dimensions) (g : Groups) (keep i j : ℕ) (q : Option ℕ) → i ≢ j → world_in (all_moved g (failure_of s keep i q)) j ≡ world_in g j
elsewhere s g keep i j None apart = refl
elsewhere s g keep i j (Some x) apart = other-world g (record { group = i; event = Fail (process_at s x) keep }) j apart

later : (s : Dimensions) (n node keep a m j : ℕ) (g : Groups) → j < a → world_in (all_moved g (failures s n node keep (range_with_len a m))) j ≡ world_in g j
later s n node keep a zero j g low = refl
later s n node keep a (suc m) j g low =
    let here : List Move = failure_of s keep a (process_on n (s.k + s.m) node a) in
    ap (λ (v : Groups). world_in v j) (moved-append g here (failures s n node keep (range_with_len (a + 1) m)))
    ∙ later s n node keep (a + 1) m j (all_moved g here) (omega (arith, low))
    ∙ elsewhere s g keep a j (process_on n (s.k + s.m) node a) (λ same. omega (arith, same, low))

one-each : (s : Dimensions) (n node keep a m j : ℕ) (g : Groups) → dead_in (all_moved g (failures s n node keep (range_with_len a m))) j ≤ suc (dead_in g j)
one-each s n node keep a zero j g = omega arith
one-each s n node keep a (suc m) j g = by (one-each s n node keep (a + 1) m j (all_moved g here)) (is-or-not a j) where
  here : List Move
  here = failure_of s keep a (process_on n (s.k + s.m) node a)

  rest : List Move
  rest = failures s n node keep (range_with_len (a + 1) m)

  parts : dead_in (all_moved g (here ++ rest)) j ≡ dead_in (all_moved (all_moved g here) rest) j
  parts = ap (λ (v : Groups). dead_in v j) (moved-append g here rest)

  by : dead_in (all_moved (all_moved g here) rest) j ≤ suc (dead_in (all_moved g here) j) → IsOrNot a j
      → dead_in (all_moved g (here ++ rest)) j ≤ suc (dead_in g j)
  by few (inl (word, is)) =
      let stays : dead_in (all_moved (all_moved g here) rest) j ≡ dead_in (all_moved g here) j
      = ap (λ (w : World). dead_nodes w.nodes) (later s n node keep (a + 1) m j (all_moved g here) (omega (arith, is))) in
      let one : dead_in (all_moved g here) j ≤ suc (dead_in g j)
      = subst (λ (i : ℕ). dead_in (all_moved g here) i ≤ suc (dead_in g i)) is (here-one s g keep a (process_on n (s.k + s.m) node a)) in
      omega (arith, parts, stays, one)
  by few (inr (word, apart)) =
      let same : dead_in (all_moved g here) j ≡ dead_in g j =
      ap (λ (w : World). dead_nodes w.nodes) (elsewhere s g keep a j (process_on n (s.k + s.m) node a) apart) in
      omega (arith, parts, few, same)

-- how many nodes have failed
more-failed : (failed : List Bool) (i : ℕ) → at false failed i ≡ false → count_dead_words (put false failed i true) ≡ suc (count_dead_words failed)
more-failed [] zero lives = refl
more-failed [] (suc i) lives = let rest = more-failed [] i lives in omega (arith, rest)
more-failed (x ∷ xs) zero lives = let none : one-if x ≡ 0 = ap one-if lives in omega (arith, none)
more-failed (x ∷ xs) (suc i) lives = let rest = more-failed xs i lives in omega (arith, rest)

no-fewer : (failed : List Bool) (i : ℕ) → count_dead_words failed ≤ count_dead_words (put false failed i true)
no-fewer [] i = omega arith
no-fewer (true ∷ xs) zero = omega arith
no-fewer (false ∷ xs) zero = omega arith
no-fewer (x ∷ xs) (suc i) = let rest = no-fewer xs i in omega (arith, rest)

none-failed : (n : ℕ) → count_dead_words (replicate n false) ≡ 0
none-failed zero = refl
none-failed (suc n) = let rest = none-failed n in omega (arith, rest)

-- each event
unless-none : (g : Groups) (m : Move) (o : Option ℕ) (j : ℕ) → ¬ (IsFailure m.event) → dead_in (all_moved g (move_unless o m)) j ≡ dead_in g j
unless-none g m (Some own) j other = refl
unless-none g m None j other = no-failure g m j other

borne : (c : Cluster) (e : ClusterEvent) (j : ℕ) → MayHappen c e → dead_in c.groups j ≤ count_dead_words c.failed
    → dead_in (cluster_step c e).cluster.groups j ≤ count_dead_words (cluster_step c e).cluster.failed
borne c (InGroup i event) j may few =
    let same = unless-none c.groups (record { group = i; event = event }) (other_group c.groups i event) j may.1 in
    omega (arith, same, few)
borne c (FailNode node keep) j may few = by (at false c.failed node) refl where
  after : Bool → Groups
  after b = all_moved c.groups (if b then [] else node_failure c node keep)

  one : dead_in (all_moved c.groups (node_failure c node keep)) j ≤ suc (dead_in c.groups j)
  one = one-each c.groups.shape (length c.failed) node keep 0 (length c.groups.worlds) j c.groups

  by : (b : Bool) → at false c.failed node ≡ b
      → dead_in (all_moved c.groups (if b then [] else node_failure c node keep)) j
      ≤ count_dead_words (put false c.failed node true)
  by true word = let more = no-fewer c.failed node in omega (arith, more, few)
  by false word = let more = more-failed c.failed node word in omega (arith, more, few, one)

all-borne : (c : Cluster) (es : List ClusterEvent) (j : ℕ) → MayAllHappen c es
    → dead_in c.groups j ≤ count_dead_words c.failed → dead_in (cluster_after c es).groups j
    ≤ count_dead_words (cluster_after c es).failed
all-borne c [] j may few = few
all-borne c (e ∷ es) j may few = all-borne (cluster_step c e).cluster es j may.1 (borne c e j may.0 few)

-- the groups keep their shape
even-all : (s : Dimensions) (count : ℕ) (c : Cluster) (es : List ClusterEvent) → Even s count c.groups
    → MayAllHappen c es → Even s count (cluster_after c es).groups
even-all s count c [] even may = even
even-all s count c (e ∷ es) even may =
    even-all s count (cluster_step c e).cluster es (even-after s count c.groups (moves_of c e) even (moves-may s count c e even may.0)) may.1

pub few_failures_are_borne : FewFailuresAreBorne
few_failures_are_borne s n count es limits layout may few j below down =
    let c : Cluster = opening_cluster s n count in
    let even : Even s count (cluster_after c es).groups = even-all s count c es (even-start s count) may in
    let none : dead_in c.groups j ≡ 0 = ap (λ (w : World). dead_nodes w.nodes) (at-replicate (opening s) count j) ∙ none-dead s in
    let all : dead_in (cluster_after c es).groups j ≤ count_dead_words (cluster_after c es).failed = all-borne c es j may (omega (arith, none)) in
    let most : (world_in (cluster_after c es).groups j).shape.m ≡ s.m = ap (λ (t : Dimensions). t.m) (even.worlds j) in
    let above : (world_in (cluster_after c es).groups j).shape.m < dead_in (cluster_after c es).groups j = down in
    omega (arith, most, above, all, few)
