-- Events of a cluster, as moves of its groups.
use Rattle.std.proofs.Common.{ℕ, zero, suc, ◌≡◌, ◌<◌, ◌≤◌, ◌+◌, ◌==◌, Bool, true, false, List, [], ◌∷◌, ◌++◌, length}
use Rattle.std.proofs.Common.{replicate, Option, Some, None, inl, inr, if◌then◌else◌, refl, sym, ap, subst, ◌∙◌, arith}
use Rattle.std.specs.List.{range_with_len}
use Rattle.group_types.specs.Dimensions.{Dimensions}
use Rattle.group_types.specs.Lists.{at}
use Rattle.group_types.specs.Names.{IsProcess, process_at}
use Rattle.group_types.proofs.Lists.{at-put, at-put-other, at-replicate, length-put}
use Rattle.group_types.proofs.Names.{process_at-in}
use Rattle.group_run.specs.World.{World, opening, step}
use Rattle.group_layout.specs.Cluster.{Cluster, GroupTurn, Groups, MayAllHappen, MayAllMove, MayHappen, MayMove, Move}
use Rattle.group_layout.specs.Cluster.{all_moved, cluster_after, cluster_step, cluster_turns, failure_of, failures}
use Rattle.group_layout.specs.Cluster.{move_unless, moved, moves_of, node_failure, opening_cluster, opening_groups}
use Rattle.group_layout.specs.Cluster.{other_group, turn_of, turns_made, world_in}
use Rattle.group_layout.specs.Layout.{first_on, node_of, process_on}
use Rattle.group_layout.specs.Promise.{AreRuns, ClustersAreRuns}
use Rattle.group_layout.specs.declared.event.ClusterEvent.{ClusterEvent}
use Rattle.group_layout.specs.declared.event.ClusterEvent.TheVariants.{FailNode, InGroup}
use Rattle.group_layout.proofs.Moves.{IsOrNot, is-or-not}
use Rattle.group_layout.proofs.Runs.{moves_are_runs}

-- all moves of which events are made
abbrev pub all_moves : Cluster → List ClusterEvent → List Move
all_moves c [] = []
all_moves c (e ∷ es) = moves_of c e ++ all_moves (cluster_step c e).cluster es

pub moved-append : (g : Groups) (ms ns : List Move) → all_moved g (ms ++ ns) ≡ all_moved (all_moved g ms) ns
moved-append g [] ns = refl
moved-append g (m ∷ ms) ns = moved-append (moved g m) ms ns

pub turns-append : (g : Groups) (ms ns : List Move) → turns_made g (ms ++ ns) ≡ turns_made g ms ++ turns_made (all_moved g ms) ns
turns-append g [] ns = refl
turns-append g (m ∷ ms) ns = ap (λ (ts : List GroupTurn). record { group = m.group; turn = turn_of g m } ∷ ts) (turns-append (moved g m) ms ns)

pub may-append : (g : Groups) (ms ns : List Move) → MayAllMove g ms → MayAllMove (all_moved g ms) ns → MayAllMove g (ms ++ ns)
may-append g [] ns first rest = rest
may-append g (m ∷ ms) ns first rest = (first.0, may-append (moved g m) ms ns first.1 rest)

pub groups-after : (c : Cluster) (es : List ClusterEvent) → (cluster_after c es).groups ≡ all_moved c.groups (all_moves c es)
groups-after c [] = refl
groups-after c (e ∷ es) = groups-after (cluster_step c e).cluster es ∙ sym (moved-append c.groups (moves_of c e) (all_moves (cluster_step c e).cluster es))

pub turns-after : (c : Cluster) (es : List ClusterEvent) → cluster_turns c es ≡ turns_made c.groups (all_moves c es)
turns-after c [] = refl
turns-after c (e ∷ es) =
    ap (λ (ts : List GroupTurn). (cluster_step c e).turns ++ ts) (turns-after (cluster_step c e).cluster es)
    ∙ sym (turns-append c.groups (moves_of c e) (all_moves (cluster_step c e).cluster es))

-- groups of one shape, so many
pub record Even (s : Dimensions) (count : ℕ) (g : Groups) : Type 0 where
  pub shape : g.shape ≡ s
  pub worlds : (j : ℕ) → (world_in g j).shape ≡ s
  pub many : length g.worlds ≡ count

pub even-start : (s : Dimensions) (count : ℕ) → Even s count (opening_groups s count)
even-start s count = record {
  shape = refl;
  worlds = λ j. ap (λ (w : World). w.shape) (at-replicate (opening s) count j);
  many = long count;
}
  where
    long : (n : ℕ) → length (replicate n (opening s)) ≡ n
    long zero = refl
    long (suc n) = ap suc (long n)

even-moved : (s : Dimensions) (count : ℕ) (g : Groups) (m : Move) → Even s count g → m.group < length g.worlds → Even s count (moved g m)
even-moved s count g m even low = record {
  shape = even.shape;
  worlds = λ j. by j (is-or-not j m.group);
  many = length-put (opening g.shape) g.worlds m.group (step (world_in g m.group) m.event).world low ∙ even.many;
}
  where
    by : (j : ℕ) → IsOrNot j m.group → (world_in (moved g m) j).shape ≡ s
    by j (inl (word, is)) =
        ap (λ (i : ℕ). (world_in (moved g m) i).shape) is
        ∙ ap (λ (w : World). w.shape) (at-put (opening g.shape) (opening g.shape) g.worlds m.group (step (world_in g m.group) m.event).world)
        ∙ even.worlds m.group
    by j (inr (word, other)) =
        ap (λ (w : World). w.shape)
        (at-put-other (opening g.shape) g.worlds m.group j (step (world_in g m.group) m.event).world other)
        ∙ even.worlds j

pub even-after : (s : Dimensions) (count : ℕ) (g : Groups) (ms : List Move) → Even s count g → MayAllMove g ms → Even s count (all_moved g ms)
even-after s count g [] even may = even
even-after s count g (m ∷ ms) even may = even-after s count (moved g m) ms (even-moved s count g m even may.0.0) may.1

-- the process that stands on a node is one of the group's
first-low : (n node j a m q : ℕ) → first_on n node j (range_with_len a m) ≡ Some q → q < a + m
first-low n node j a zero q is = absurd (nothing is) where
  nothing : first_on n node j (range_with_len a zero) ≡ Some q → ⊥
  nothing same = cc
first-low n node j a (suc m) q is = by (first-low n node j (a + 1) m q) (node_of n j a == node) refl where
  by : (first_on n node j (range_with_len (a + 1) m) ≡ Some q → q < a + 1 + m) → (b : Bool) → (node_of n j a == node) ≡ b → q < a + suc m
  by rest true word =
      let here : Some a ≡ Some q = sym (ap (λ (b : Bool). if b then Some a else first_on n node j (range_with_len (a + 1) m)) word) ∙ is in
      let same : a ≡ q = cc in
      omega (arith, same)
  by rest false word =
      let low = rest (sym (ap (λ (b : Bool). if b then Some a else first_on n node j (range_with_len (a + 1) m)) word) ∙ is) in
      omega (arith, low)

-- failures of processes may come
failure-may : (s : Dimensions) (count : ℕ) (g : Groups) (keep j : ℕ) (q : Option ℕ) → Even s count g → j < count
    → ((x : ℕ) → q ≡ Some x → x < s.k + s.m) → MayAllMove g (failure_of s keep j q)
failure-may s count g keep j None even low within = tt
failure-may s count g keep j (Some x) even low within = (
  (
    subst (λ (n : ℕ). j < n) (sym even.many) low,
    subst (λ (t : Dimensions). IsProcess t (process_at s x))
        (sym (even.worlds j)) (process_at-in s x (within x refl)),
  ),
  tt,
)

failures-may : (s : Dimensions) (count n node keep a m : ℕ) (g : Groups) → Even s count g → a + m ≤ count
    → MayAllMove g (failures s n node keep (range_with_len a m))
failures-may s count n node keep a zero g even low = tt
failures-may s count n node keep a (suc m) g even low =
    let here : List Move = failure_of s keep a (process_on n (s.k + s.m) node a) in
    let first : MayAllMove g here = failure-may s count g keep a (process_on n (s.k + s.m) node a) even
    (omega (arith, low)) (λ x is. let low = first-low n node a 0 (s.k + s.m) x is in omega (arith, low)) in
    may-append g here (failures s n node keep (range_with_len (a + 1) m)) first
    (failures-may s count n node keep (a + 1) m (all_moved g here) (even-after s count g here even first) (omega (arith, low)))

-- what an event is made of may come
unless-may : (g : Groups) (m : Move) (o : Option ℕ) → MayMove g m → MayAllMove g (move_unless o m)
unless-may g m (Some own) may = tt
unless-may g m None may = (may, tt)

pub moves-may : (s : Dimensions) (count : ℕ) (c : Cluster) (e : ClusterEvent) → Even s count c.groups → MayHappen c e → MayAllMove c.groups (moves_of c e)
moves-may s count c (InGroup j event) even may = unless-may c.groups (record { group = j; event = event }) (other_group c.groups j event) may.0
moves-may s count c (FailNode node keep) even may = by (at false c.failed node) where
  all : MayAllMove c.groups (node_failure c node keep)
  all = subst (λ (t : Dimensions). MayAllMove c.groups (failures t (length c.failed) node keep (range_with_len 0 (length c.groups.worlds)))) (sym even.shape)
      (failures-may s count (length c.failed) node keep 0 (length c.groups.worlds) c.groups even (omega (arith, even.many)))

  by : (b : Bool) → MayAllMove c.groups (if b then [] else node_failure c node keep)
  by true = tt
  by false = all

pub all-may : (s : Dimensions) (count : ℕ) (c : Cluster) (es : List ClusterEvent) → Even s count c.groups
    → MayAllHappen c es → MayAllMove c.groups (all_moves c es)
all-may s count c [] even may = tt
all-may s count c (e ∷ es) even may =
    let first : MayAllMove c.groups (moves_of c e) = moves-may s count c e even may.0 in
    may-append c.groups (moves_of c e) (all_moves (cluster_step c e).cluster es) first
    (all-may s count (cluster_step c e).cluster es (even-after s count c.groups (moves_of c e) even first) may.1)

pub clusters_are_runs : ClustersAreRuns
clusters_are_runs s n count es limits layout may =
    let c : Cluster = opening_cluster s n count in
    let moves : List Move = all_moves c es in
    let runs : AreRuns s count (all_moved c.groups moves) (turns_made c.groups moves) =
    moves_are_runs s count moves limits (all-may s count c es (even-start s count) may) in
    subst (λ (g : Groups). AreRuns s count g (cluster_turns c es)) (sym (groups-after c es))
    (subst (λ (ts : List GroupTurn). AreRuns s count (all_moved c.groups moves) ts) (sym (turns-after c es)) runs)
