-- Processes that are dead stand on nodes that failed, and all that stand there are dead.
use Rattle.std.proofs.Common.{ℕ, zero, suc, ◌≡◌, ◌≢◌, ◌<◌, ◌≤◌, ◌+◌, ◌==◌, Bool, true, false, List, [], ◌∷◌, length}
use Rattle.std.proofs.Common.{map, replicate, Option, Some, None, if◌then◌else◌, ◌⊎◌, inl, inr, refl, sym, ap, subst}
use Rattle.std.proofs.Common.{◌∙◌, arith}
use Rattle.std.specs.List.{range_with_len}
use Rattle.std.proofs.lemmas.Bool.{cases_eq, eq-eqb, eqb-true, ne_eqb}
use Rattle.group_types.specs.Dimensions.{Dimensions}
use Rattle.group_types.specs.Lists.{at, put}
use Rattle.group_types.specs.Names.{index_of, process_at}
use Rattle.group_types.specs.declared.process.ProcessId.{ProcessId}
use Rattle.group_types.specs.declared.process.ProcessId.TheVariants.{DataNode}
use Rattle.group_types.proofs.Lists.{at-put, at-put-other, at-replicate, length-put}
use Rattle.group_types.proofs.Names.{index-process_at}
use Rattle.group_calls.specs.declared.event.Event.TheVariants.{Fail}
use Rattle.group_run.specs.Process.{Node}
use Rattle.group_run.specs.World.{World, all_change, node_failed, opening, opening_node, process_node, step, with_down, with_node}
use Rattle.group_run.specs.Causes.{IsFailure}
use Rattle.group_layout.specs.Cluster.{Cluster, Groups, IsLayout, MayAllHappen, MayHappen, Move, all_moved}
use Rattle.group_layout.specs.Cluster.{cluster_after, cluster_step, failure_of, failures, move_unless, moved, moves_of}
use Rattle.group_layout.specs.Cluster.{node_failure, opening_cluster, other_group, world_in}
use Rattle.group_layout.specs.Layout as layout
use Rattle.group_layout.specs.Layout.{first_on, process_on}
use Rattle.group_layout.specs.declared.event.ClusterEvent.{ClusterEvent}
use Rattle.group_layout.specs.declared.event.ClusterEvent.TheVariants.{FailNode, InGroup}
use Rattle.group_layout.proofs.Deaths.{fail-dead, none-dead-at, same-dead}
use Rattle.group_layout.proofs.Happening.{Even, even-after, even-start, moved-append, moves-may}
use Rattle.group_layout.proofs.Moves.{IsOrNot, is-or-not, other-world, own-world}
use Rattle.group_layout.proofs.Places.{one_a_node}
use Rattle.law_told.specs.Clusters.{DeadAreOnFailedNodes, fails_in}

-- one of two
abbrev or : Bool → Bool → Bool
or a b = if a then true else b

-- nodes of which each is as dead as another
any-default : (d e : Node) → d.dead ≡ false → e.dead ≡ false → (nodes : List Node) (i : ℕ) → (at d nodes i).dead ≡ (at e nodes i).dead
any-default d e dl el [] i = dl ∙ sym el
any-default d e dl el (x ∷ xs) zero = refl
any-default d e dl el (x ∷ xs) (suc i) = any-default d e dl el xs i

told-same : (down : Bool) (d : Node) (nodes : List Node) (i : ℕ) → (at d (map (with_down down) nodes) i).dead ≡ (at d nodes i).dead
told-same down d [] i = refl
told-same down d (x ∷ xs) zero = refl
told-same down d (x ∷ xs) (suc i) = told-same down d xs i

-- a process that fails is dead then
fail-own : (w : World) (p : ProcessId) (keep : ℕ) → (at (opening_node w.shape p) (step w (Fail p keep)).world.nodes (index_of w.shape p)).dead ≡ true
fail-own w p keep = by (process_node w p).dead refl where
  cut : List Node
  cut = with_node w.shape p (node_failed w.shape p keep (process_node w p)) w.nodes

  by : (dead : Bool) → (process_node w p).dead ≡ dead
      → (at (opening_node w.shape p) (all_change dead w.shape w.nodes p keep).nodes (index_of w.shape p)).dead ≡ true
  by true is = is
  by false is = told-same _ (opening_node w.shape p) cut (index_of w.shape p)
      ∙ ap (λ (x : Node). x.dead) (at-put (opening_node w.shape p) (opening_node w.shape p) w.nodes (index_of w.shape p)
      (node_failed w.shape p keep (process_node w p)))

-- which process of a group stands on a node
on-none : (n node j a m : ℕ) → first_on n node j (range_with_len a m) ≡ None → (x : ℕ) → a ≤ x → x < a + m → (layout.node_of n j x == node) ≡ false
on-none n node j a zero none x from to = absurd (omega (arith, from, to))
on-none n node j a (suc m) none x from to = by (layout.node_of n j a == node) refl (on-none n node j (a + 1) m) (cases_eq x a) where
  by : (b : Bool) → (layout.node_of n j a == node) ≡ b
      → (first_on n node j (range_with_len (a + 1) m) ≡ None → (y : ℕ) → a + 1 ≤ y → y < a + 1 + m
      → (layout.node_of n j y == node) ≡ false)
      → (x ≡ a) ⊎ (x ≢ a) → (layout.node_of n j x == node) ≡ false
  by true word later which = absurd (cc (sym (ap (λ (b : Bool). if b then Some a else first_on n node j (range_with_len (a + 1) m)) word) ∙ none))
  by false word later (inl here) = ap (λ (y : ℕ). layout.node_of n j y == node) here ∙ word
  by false word later (inr apart) =
      later (sym (ap (λ (b : Bool). if b then Some a else first_on n node j (range_with_len (a + 1) m)) word) ∙ none) x
      (omega (arith, from, apart)) (omega (arith, to))

record Found (n node j a m q : ℕ) : Type 0 where
  pub there : (layout.node_of n j q == node) ≡ true
  pub low : q < a + m

on-some : (n node j a m q : ℕ) → first_on n node j (range_with_len a m) ≡ Some q → Found n node j a m q
on-some n node j a zero q some = absurd (cc some)
on-some n node j a (suc m) q some = by (layout.node_of n j a == node) refl (on-some n node j (a + 1) m q) where
  by : (b : Bool) → (layout.node_of n j a == node) ≡ b
      → (first_on n node j (range_with_len (a + 1) m) ≡ Some q → Found n node j (a + 1) m q)
      → Found n node j a (suc m) q
  by true word later =
      let here : Some a ≡ Some q = sym (ap (λ (b : Bool). if b then Some a else first_on n node j (range_with_len (a + 1) m)) word) ∙ some in
      let same : a ≡ q = cc here in
      record { there = ap (λ (y : ℕ). layout.node_of n j y == node) (sym same) ∙ word; low = omega (arith, same) }
  by false word later =
      let found = later (sym (ap (λ (b : Bool). if b then Some a else first_on n node j (range_with_len (a + 1) m)) word) ∙ some) in
      record { there = found.there; low = (let low = found.low in omega (arith, low)) }

module _ (s : Dimensions) (n count : ℕ) (is : IsLayout s n count) where
  -- whether process number x of group j is dead
  abbrev start : Node
  start = opening_node s (DataNode 0)

  abbrev dead_in : Groups → ℕ → ℕ → Bool
  dead_in g j x = (at (opening_node s (DataNode 0)) (world_in g j).nodes x).dead

  -- the groups are of the shape
  abbrev Shaped : Groups → Type 0
  Shaped g = (j : ℕ) → (world_in g j).shape ≡ s

  still-shaped : (g : Groups) (m : Move) → Shaped g → Shaped (moved g m)
  still-shaped g m shaped j = by (is-or-not m.group j) where
    by : IsOrNot m.group j → (world_in (moved g m) j).shape ≡ s
    by (inl (word, same)) = ap (λ (w : World). w.shape) (own-world g m j same) ∙ shaped j
    by (inr (word, apart)) = ap (λ (w : World). w.shape) (other-world g m j apart) ∙ shaped j

  -- an event that is no failure
  quiet : (g : Groups) (m : Move) → ¬ (IsFailure m.event) → (j x : ℕ) → dead_in (moved g m) j x ≡ dead_in g j x
  quiet g m none j x = by (is-or-not m.group j) where
    by : IsOrNot m.group j → dead_in (moved g m) j x ≡ dead_in g j x
    by (inl (word, here)) = ap (λ (w : World). (at start w.nodes x).dead) (own-world g m j here) ∙ same-dead (world_in g j) m.event none start refl x
    by (inr (word, apart)) = ap (λ (w : World). (at start w.nodes x).dead) (other-world g m j apart)

  -- the failure of a process of group j
  abbrev fails : ℕ → ℕ → ℕ → Move
  fails keep j q = record { group = j; event = Fail (process_at s q) keep }

  failed-own : (g : Groups) → Shaped g → (keep j q : ℕ) → dead_in (moved g (fails keep j q)) j q ≡ true
  failed-own g shaped keep j q =
      let w : World = world_in g j in
      let p : ProcessId = process_at s q in
      let index : index_of w.shape p ≡ q = ap (λ (t : Dimensions). index_of t p) (shaped j) ∙ index-process_at s q in
      ap (λ (v : World). (at start v.nodes q).dead) (own-world g (fails keep j q) j refl)
      ∙ any-default start (opening_node w.shape p) refl refl (step w (Fail p keep)).world.nodes q
      ∙ ap (λ (x : ℕ). (at (opening_node w.shape p) (step w (Fail p keep)).world.nodes x).dead) (sym index)
      ∙ fail-own w p keep

  failed-other : (g : Groups) → Shaped g → (keep j q x : ℕ) → x ≢ q → dead_in (moved g (fails keep j q)) j x ≡ dead_in g j x
  failed-other g shaped keep j q x apart =
      let w : World = world_in g j in
      let p : ProcessId = process_at s q in
      let index : index_of w.shape p ≡ q = ap (λ (t : Dimensions). index_of t p) (shaped j) ∙ index-process_at s q in
      ap (λ (v : World). (at start v.nodes x).dead) (own-world g (fails keep j q) j refl)
      ∙ fail-dead w p keep start refl x (λ same. apart (same ∙ index))

  -- that of the one which stands on a node, if one does
  abbrev fails_on : ℕ → ℕ → ℕ → List Move
  fails_on node keep j = failure_of s keep j (process_on n (s.k + s.m) node j)

  here : (g : Groups) → Shaped g → (node keep j x : ℕ) → x < s.k + s.m → dead_in (all_moved g (fails_on node keep j)) j
      x ≡ or (layout.node_of n j x == node) (dead_in g j x)
  here g shaped node keep j x below = by (process_on n (s.k + s.m) node j) refl where
    by : (o : Option ℕ) → process_on n (s.k + s.m) node j ≡ o → dead_in (all_moved g (failure_of s keep j o)) j x
        ≡ or (layout.node_of n j x == node) (dead_in g j x)
    by None none = sym (ap (λ (b : Bool). or b (dead_in g j x)) (on-none n node j 0 (s.k + s.m) none x (omega arith) (omega (arith, below))))
    by (Some q) some = which (cases_eq x q) where
      found : Found n node j 0 (s.k + s.m) q
      found = on-some n node j 0 (s.k + s.m) q some

      which : (x ≡ q) ⊎ (x ≢ q) → dead_in (moved g (fails keep j q)) j x ≡ or (layout.node_of n j x == node) (dead_in g j x)
      which (inl same) =
          ap (dead_in (moved g (fails keep j q)) j) same ∙ failed-own g shaped keep j q
          ∙ sym (ap (λ (b : Bool). or b (dead_in g j x)) (ap (λ (y : ℕ). layout.node_of n j y == node) same ∙ found.there))
      which (inr apart) =
          let low = found.low in
          let off : layout.node_of n j x ≢ node
          = λ on. apart (one_a_node n (s.k + s.m) j x q is.wide below (omega (arith, low)) (on ∙ sym (eqb-true (layout.node_of n j q) node found.there))) in
          failed-other g shaped keep j q x apart ∙ sym (ap (λ (b : Bool). or b (dead_in g j x)) (ne_eqb (layout.node_of n j x) node off))

  away : (g : Groups) (node keep i j : ℕ) → i ≢ j → world_in (all_moved g (fails_on node keep i)) j ≡ world_in g j
  away g node keep i j apart = by (process_on n (s.k + s.m) node i) where
    by : (o : Option ℕ) → world_in (all_moved g (failure_of s keep i o)) j ≡ world_in g j
    by None = refl
    by (Some q) = other-world g (fails keep i q) j apart

  shaped-here : (g : Groups) → Shaped g → (node keep i : ℕ) → Shaped (all_moved g (fails_on node keep i))
  shaped-here g shaped node keep i = by (process_on n (s.k + s.m) node i) where
    by : (o : Option ℕ) → Shaped (all_moved g (failure_of s keep i o))
    by None = shaped
    by (Some q) = still-shaped g (fails keep i q) shaped

  -- the failures of groups from number a on
  abbrev all_on : ℕ → ℕ → ℕ → ℕ → List Move
  all_on node keep a m = failures s n node keep (range_with_len a m)

  behind : (g : Groups) (node keep a m j : ℕ) → j < a → world_in (all_moved g (all_on node keep a m)) j ≡ world_in g j
  behind g node keep a zero j low = refl
  behind g node keep a (suc m) j low =
      ap (λ (v : Groups). world_in v j) (moved-append g (fails_on node keep a) (all_on node keep (a + 1) m))
      ∙ behind (all_moved g (fails_on node keep a)) node keep (a + 1) m j (omega (arith, low))
      ∙ away g node keep a j (λ same. omega (arith, same, low))

  within : (g : Groups) → Shaped g → (node keep a m j x : ℕ) → a ≤ j → j < a + m → x < s.k + s.m
      → dead_in (all_moved g (all_on node keep a m)) j x ≡ or (layout.node_of n j x == node) (dead_in g j x)
  within g shaped node keep a zero j x from to below = absurd (omega (arith, from, to))
  within g shaped node keep a (suc m) j x from to below =
      ap (λ (v : Groups). dead_in v j x) (moved-append g (fails_on node keep a) (all_on node keep (a + 1) m))
      ∙ by (cases_eq a j) (λ above. within first (shaped-here g shaped node keep a) node keep (a + 1) m j x above (omega (arith, to)) below)
    where
      first : Groups
      first = all_moved g (fails_on node keep a)

      by : (a ≡ j) ⊎ (a ≢ j) → (a + 1 ≤ j → dead_in (all_moved first (all_on node keep (a + 1) m)) j x ≡ or (layout.node_of n j x == node) (dead_in first j x))
          → dead_in (all_moved first (all_on node keep (a + 1) m)) j x ≡ or (layout.node_of n j x == node) (dead_in g j x)
      by (inl same) later =
          ap (λ (w : World). (at start w.nodes x).dead) (behind first node keep (a + 1) m j (omega (arith, same)))
          ∙ subst (λ (i : ℕ). dead_in (all_moved g (fails_on node keep i)) j x ≡ or (layout.node_of n j x == node)
          (dead_in g j x)) (sym same) (here g shaped node keep j x below)
      by (inr apart) later =
          later (omega (arith, from, apart))
          ∙ ap (λ (w : World). or (layout.node_of n j x == node) ((at start w.nodes x).dead)) (away g node keep a j apart)

  -- the dead of a cluster are those on nodes that count as failed
  record Matches (c : Cluster) : Type 0 where
    pub even : Even s count c.groups
    pub nodes : length c.failed ≡ n
    pub dead : (j x : ℕ) → j < count → x < s.k + s.m → dead_in c.groups j x ≡ at false c.failed (layout.node_of n j x)

  put-failed : (failed : List Bool) (node i : ℕ) → at false (put false failed node true) i ≡ or (i == node) (at false failed i)
  put-failed failed node i = by (cases_eq i node) where
    by : (i ≡ node) ⊎ (i ≢ node) → at false (put false failed node true) i ≡ or (i == node) (at false failed i)
    by (inl same) =
        ap (at false (put false failed node true)) same ∙ at-put false false failed node true
        ∙ sym (ap (λ (b : Bool). or b (at false failed i)) (eq-eqb i node same))
    by (inr apart) = at-put-other false failed node i true apart ∙ sym (ap (λ (b : Bool). or b (at false failed i)) (ne_eqb i node apart))

  unless-quiet : (g : Groups) (m : Move) (o : Option ℕ) (j x : ℕ) → ¬ (IsFailure m.event) → dead_in (all_moved g (move_unless o m)) j x ≡ dead_in g j x
  unless-quiet g m (Some own) j x none = refl
  unless-quiet g m None j x none = quiet g m none j x

  step-even : (c : Cluster) (e : ClusterEvent) → MayHappen c e → Matches c → Even s count (cluster_step c e).cluster.groups
  step-even c e may matches = even-after s count c.groups (moves_of c e) matches.even (moves-may s count c e matches.even may)

  steps : (c : Cluster) (e : ClusterEvent) → MayHappen c e → Matches c → Matches (cluster_step c e).cluster
  steps c (InGroup i event) may matches = record {
    even = step-even c (InGroup i event) may matches;
    nodes = matches.nodes;
    dead = λ j x low below. unless-quiet c.groups (record { group = i; event = event }) (other_group c.groups i event) j x may.1 ∙ matches.dead j x low below;
  }
  steps c (FailNode node keep) may matches = record {
    even = step-even c (FailNode node keep) may matches;
    nodes = length-put false c.failed node true may ∙ matches.nodes;
    dead = λ j x low below. by j x low below (at false c.failed node) refl ∙ sym (put-failed c.failed node (layout.node_of n j x));
  } where
    moves : node_failure c node keep ≡ all_on node keep 0 count
    moves =
        ap (λ (t : Dimensions). failures t (length c.failed) node keep (range_with_len 0 (length c.groups.worlds))) matches.even.shape
        ∙ ap (λ (l : ℕ). failures s l node keep (range_with_len 0 (length c.groups.worlds))) matches.nodes
        ∙ ap (λ (l : ℕ). failures s n node keep (range_with_len 0 l)) matches.even.many

    by : (j x : ℕ) → j < count → x < s.k + s.m → (b : Bool) → at false c.failed node ≡ b
        → dead_in (all_moved c.groups (if b then [] else node_failure c node keep)) j x
        ≡ or (layout.node_of n j x == node) (at false c.failed (layout.node_of n j x))
    by j x low below false word =
        ap (λ (ms : List Move). dead_in (all_moved c.groups ms) j x) moves
        ∙ within c.groups matches.even.worlds node keep 0 count j x (omega arith) (omega (arith, low)) below
        ∙ ap (or (layout.node_of n j x == node)) (matches.dead j x low below)
    by j x low below true word = matches.dead j x low below ∙ which (cases_eq (layout.node_of n j x) node) where
      which : (layout.node_of n j x ≡ node) ⊎ (layout.node_of n j x ≢ node)
          → at false c.failed (layout.node_of n j x) ≡ or (layout.node_of n j x == node) (at false c.failed (layout.node_of n j x))
      which (inl same) =
          ap (at false c.failed) same ∙ word
          ∙ sym (ap (λ (b : Bool). or b (at false c.failed (layout.node_of n j x)))
          (eq-eqb (layout.node_of n j x) node same))
      which (inr apart) = sym (ap (λ (b : Bool). or b (at false c.failed (layout.node_of n j x))) (ne_eqb (layout.node_of n j x) node apart))

  all-steps : (c : Cluster) (es : List ClusterEvent) → MayAllHappen c es → Matches c → Matches (cluster_after c es)
  all-steps c [] may matches = matches
  all-steps c (e ∷ es) may matches = all-steps (cluster_step c e).cluster es may.1 (steps c e may.0 matches)

  opens : Matches (opening_cluster s n count)
  opens = record {
    even = even-start s count;
    nodes = long n;
    dead = λ j x low below. ap (λ (w : World). (at start w.nodes x).dead) (at-replicate (opening s) count j)
        ∙ none-dead-at s start refl (range_with_len 0 (s.k + s.m)) x
        ∙ sym (at-replicate false n (layout.node_of n j x));
  } where
    long : (l : ℕ) → length (replicate l false) ≡ l
    long zero = refl
    long (suc l) = ap suc (long l)

-- a node counts as failed where it did, or fails
failed-are : (c : Cluster) (es : List ClusterEvent) (node : ℕ) → at false (cluster_after c es).failed node ≡ or (at false c.failed node) (fails_in node es)
failed-are c [] node = by (at false c.failed node) where
  by : (b : Bool) → b ≡ or b false
  by true = refl
  by false = refl
failed-are c (InGroup j event ∷ es) node = failed-are (cluster_step c (InGroup j event)).cluster es node
failed-are c (FailNode other keep ∷ es) node =
    failed-are (cluster_step c (FailNode other keep)).cluster es node ∙ by (cases_eq node other)
  where
    with : Bool → Bool
    with b = or b (fails_in node es)

    order : (b : Bool) → with (or b (at false c.failed node)) ≡ or (at false c.failed node) (or b (fails_in node es))
    order true = twice (at false c.failed node) where
      twice : (a : Bool) → true ≡ or a true
      twice true = refl
      twice false = refl
    order false = refl

    by : (node ≡ other) ⊎ (node ≢ other) → with (at false (put false c.failed other true) node)
        ≡ or (at false c.failed node) (or (other == node) (fails_in node es))
    by (inl same) =
        ap with (ap (at false (put false c.failed other true)) same ∙ at-put false false c.failed other true) ∙ order true
        ∙ sym (ap (λ (b : Bool). or (at false c.failed node) (or b (fails_in node es))) (eq-eqb other node (sym same)))
    by (inr apart) =
        ap with (at-put-other false c.failed other node true apart) ∙ order false
        ∙ sym (ap (λ (b : Bool). or (at false c.failed node) (or b (fails_in node es))) (ne_eqb other node (λ same. apart (sym same))))

pub dead_are_on_failed_nodes : DeadAreOnFailedNodes
dead_are_on_failed_nodes s n count es limits is may j q low below =
    let c : Cluster = cluster_after (opening_cluster s n count) es in
    let matches : Matches s n count is c = all-steps s n count is (opening_cluster s n count) es may (opens s n count is) in
    let w : World = world_in c.groups j in
    let shape : w.shape ≡ s = matches.even.worlds j in
    let p : ProcessId = process_at s q in
    ap (λ (t : Dimensions). (at (opening_node t p) w.nodes (index_of t p)).dead) shape
    ∙ any-default (opening_node s p) (opening_node s (DataNode 0)) refl refl w.nodes (index_of s p)
    ∙ ap (λ (x : ℕ). (at (opening_node s (DataNode 0)) w.nodes x).dead) (index-process_at s q)
    ∙ matches.dead j q low below
    ∙ failed-are (opening_cluster s n count) es (layout.node_of n j q)
    ∙ ap (λ (b : Bool). or b (fails_in (layout.node_of n j q) es)) (at-replicate false n (layout.node_of n j q))
