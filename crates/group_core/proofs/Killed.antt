-- What a death makes of the nodes.
use Rattle.std.proofs.Common.{ℕ, ◌≡◌, Bool, true, false, nat_lt, List, [], map, get_or, set, refl, sym, ap, ◌∙◌}
use Rattle.group_types.specs.Dimensions.{Dimensions}
use Rattle.group_types.specs.Names.{IsProcess, index_of}
use Rattle.group_types.specs.declared.process.ProcessId.{ProcessId}
use Rattle.group_calls.specs.declared.event.Answer.TheVariants as says
use Rattle.group_run.specs.Process.{Node}
use Rattle.group_run.specs.World.{all_change, dead_nodes, failed_nodes, node_failed, node_in, with_down, with_node}
use Rattle.group_node.specs.Standing.{NodeStanding}
use Rattle.group_core.specs.Seats.{AreSeated, nodes_of, seat, seats_of}
use Rattle.group_core.proofs.Changed.{nodes-changed, seat-is, shape-is}

pub already : (dead : Bool) (s : Dimensions) (nodes : List Node) (p : ProcessId) (keep : ℕ) → dead ≡ true
    → all_change dead s nodes p keep ≡ record { nodes = nodes; answer = says.AlreadyDead; settled = [] }
already true s nodes p keep is = refl
already false s nodes p keep is = absurd (cc is)

living : (dead : Bool) (s : Dimensions) (nodes : List Node) (p : ProcessId) (keep : ℕ) → dead ≡ false
    → all_change dead s nodes p keep ≡ record { nodes = failed_nodes s nodes p keep; answer = says.Done; settled = [] }
living true s nodes p keep is = absurd (cc is)
living false s nodes p keep is = refl

module _ (s : Dimensions) (xs : List NodeStanding) (seated : AreSeated s xs) (p : ProcessId) (pin : IsProcess s p)
    (x : ℕ) (here : x ≡ index_of s p) (name : (seat (seats_of s xs) p).process.name ≡ p)
    (keep : ℕ) (y died : NodeStanding) (value : y ≡ get_or xs x y)
    (dies : died ≡ record { shape = y.shape; node = node_failed y.shape y.node.process.name keep y.node }) where
  own : y.node ≡ seat (seats_of s xs) p
  own = ap (λ (z : NodeStanding). z.node) value ∙ seat-is s xs seated p pin x here y

  shape : y.shape ≡ s
  shape = ap (λ (z : NodeStanding). z.shape) value ∙ shape-is s xs seated p pin x here y

  pub died-shape : died.shape ≡ s
  died-shape = ap (λ (z : NodeStanding). z.shape) dies ∙ shape

  died-node : died.node ≡ node_failed s p keep (seat (seats_of s xs) p)
  died-node = ap (λ (z : NodeStanding). z.node) dies ∙ (λ i. node_failed (shape i) ((ap (λ (n : Node). n.process.name) own ∙ name) i) keep (own i))

  pub killed : (down : Bool) (ys : List NodeStanding) → y.node.dead ≡ false
      → down ≡ nat_lt s.m (dead_nodes (nodes_of (set xs x died)))
      → nodes_of ys ≡ map (with_down down) (nodes_of (set xs x died))
      → all_change (seat (seats_of s xs) p).dead s (nodes_of xs) p keep ≡ record { nodes = nodes_of ys; answer = says.Done; settled = [] }
  killed down ys lives word told =
      let cut : nodes_of (set xs x died) ≡ with_node s p (node_failed s p keep (node_in s (nodes_of xs) p)) (nodes_of xs)
      = nodes-changed s xs seated p pin x here died ∙ ap (λ (n : Node). with_node s p n (nodes_of xs)) died-node in
      let all : nodes_of ys ≡ failed_nodes s (nodes_of xs) p keep
      = told ∙ ap (λ (d : Bool). map (with_down d) (nodes_of (set xs x died))) word
      ∙ ap (λ (ns : List Node). map (with_down (nat_lt s.m (dead_nodes ns))) ns) cut in
      living (seat (seats_of s xs) p).dead s (nodes_of xs) p keep (ap (λ (n : Node). n.dead) (sym own) ∙ lives)
      ∙ ap (λ (ns : List Node). record { nodes = ns; answer = says.Done; settled = [] }) (sym all)
