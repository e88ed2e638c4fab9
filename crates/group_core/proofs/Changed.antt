-- The nodes after one of them changed.
use Rattle.std.proofs.Common.{ℕ, zero, suc, ◌≡◌, ◌<◌, ◌+◌, List, [], ◌∷◌, Result, Ok, Err, IfOk, length, get_or, set, refl, sym, ap, subst, ◌∙◌, arith}
use Rattle.std.proofs.lemmas.List.{length-set}
use Rattle.std.proofs.lemmas.List.Elements.{All-set}
use Rattle.std.specs.declared.alloc.AllocError.{AllocError}
use Rattle.group_types.specs.Dimensions.{Dimensions}
use Rattle.group_types.specs.Lists.{at, put}
use Rattle.group_types.specs.Names.{IsProcess, index_of}
use Rattle.group_types.specs.declared.process.ProcessId.{ProcessId}
use Rattle.group_types.proofs.Names.{index-below}
use Rattle.group_calls.specs.declared.event.Answer.{Answer}
use Rattle.group_run.specs.Process.{Node}
use Rattle.group_run.specs.World.{NodeStep, opening_node, unchanged, with_node}
use Rattle.law_moves.proofs.Reading.{node-back}
use Rattle.group_node.specs.Standing.{NodeStanding}
use Rattle.group_node.specs.Steps as node
use Rattle.group_node.specs.declared.node.NodeOut.{NodeOut}
use Rattle.group_core.specs.Seats.{AreSeated, Seats, made, nodes_of, one_changed, seat, seats_of}

-- the node at an index
pub node-at : (d : Node) (xs : List NodeStanding) (x : ℕ) (e : NodeStanding) → x < length xs → (get_or xs x e).node ≡ at d (nodes_of xs) x
node-at d [] x e below = absurd (omega (arith, below))
node-at d (y ∷ ys) zero e below = refl
node-at d (y ∷ ys) (suc x) e below = node-at d ys x e (omega (arith, below))

-- the nodes where one is put
pub node-put : (d : Node) (xs : List NodeStanding) (x : ℕ) (y : NodeStanding) → x < length xs → nodes_of (set xs x y) ≡ put d (nodes_of xs) x y.node
node-put d [] x y below = absurd (omega (arith, below))
node-put d (z ∷ zs) zero y below = refl
node-put d (z ∷ zs) (suc x) y below = ap (λ (rest : List Node). z.node ∷ rest) (node-put d zs x y (omega (arith, below)))

pub many-nodes : (xs : List NodeStanding) → length (nodes_of xs) ≡ length xs
many-nodes [] = refl
many-nodes (x ∷ xs) = ap suc (many-nodes xs)

module _ (s : Dimensions) (xs : List NodeStanding) (seated : AreSeated s xs) (p : ProcessId) (pin : IsProcess s p) (x : ℕ) (here : x ≡ index_of s p) where
  pub within : x < length xs
  within = let low = index-below s p pin in omega (arith, here, low, seated.many)

  -- the node of a process
  pub seat-is : (e : NodeStanding) → (get_or xs x e).node ≡ seat (seats_of s xs) p
  seat-is e = node-at (opening_node s p) xs x e within ∙ ap (at (opening_node s p) (nodes_of xs)) here

  pub shape-is : (e : NodeStanding) → (get_or xs x e).shape ≡ s
  shape-is e = seated.shapes x e within

  -- the nodes after it changed
  pub nodes-changed : (y : NodeStanding) → nodes_of (set xs x y) ≡ with_node s p y.node (nodes_of xs)
  nodes-changed y = node-put (opening_node s p) xs x y within ∙ ap (λ (i : ℕ). put (opening_node s p) (nodes_of xs) i y.node) here

  pub still-seated : (y : NodeStanding) → y.shape ≡ s → AreSeated s (set xs x y)
  still-seated y same = record { many = length-set xs x y ∙ seated.many; shapes = All-set (λ z. z.shape ≡ s) xs x y same seated.shapes }

-- an answer that settles nothing
pub only-is : (n : Node) (answer : Answer) (out : NodeOut) → out.answer ≡ answer → out.settled.items ≡ [] → unchanged answer n ≡ node.made n out
only-is n answer out is none = (λ i. record { node = n; answer = (sym is) i; settled = (sym none) i })

-- what holds of all that comes out
pub weaker : {P Q : NodeOut → Type 0} (r : Result NodeOut AllocError) → ((out : NodeOut) → P out → Q out) → IfOk r P → IfOk r Q
weaker (Ok out) f holds = f out holds
weaker (Err e) f holds = tt

set-own : {X : Type 0} (xs : List X) (x : ℕ) (y : X) → y ≡ get_or xs x y → set xs x y ≡ xs
set-own [] x y is = refl
set-own (z ∷ zs) zero y is = ap (λ (w : _). w ∷ zs) is
set-own (z ∷ zs) (suc x) y is = ap (λ (rest : _). z ∷ rest) (set-own zs x y is)

-- one that is as it was
pub same-seats : (v : Seats) (s : Dimensions) (xs : List NodeStanding) (x : ℕ) (y new : NodeStanding)
    → seats_of s xs ≡ v → y ≡ get_or xs x y → new ≡ y → seats_of s (set xs x new) ≡ v
same-seats v s xs x y new view value same = ap (λ (z : NodeStanding). seats_of s (set xs x z)) same ∙ ap (seats_of s) (set-own xs x y value) ∙ view

-- one node, seen among all
module _ (v : Seats) (s : Dimensions) (xs : List NodeStanding) (view : seats_of s xs ≡ v) (seated : AreSeated s xs)
    (p : ProcessId) (named : IsProcess v.shape p) (x : ℕ) (here : x ≡ index_of s p)
    (y : NodeStanding) (value : y ≡ get_or xs x y) where
  inside : IsProcess s p
  inside = subst (λ (t : Dimensions). IsProcess t p) (sym (ap (λ (w : Seats). w.shape) view)) named

  pub own-node : y.node ≡ seat v p
  own-node = ap (λ (z : NodeStanding). z.node) value ∙ seat-is s xs seated p inside x here y ∙ ap (λ (w : Seats). seat w p) view

  pub own-shape : y.shape ≡ v.shape
  own-shape = ap (λ (z : NodeStanding). z.shape) value ∙ shape-is s xs seated p inside x here y ∙ ap (λ (w : Seats). w.shape) view

  pub changed : (t : Dimensions → Node → NodeStep) (new : NodeStanding) (out : NodeOut) → t y.shape y.node ≡ node.made new.node out
      → one_changed v p (t v.shape (seat v p)) ≡ made (seats_of s (set xs x new)) out
  changed t new out is =
      let step : t v.shape (seat v p) ≡ node.made new.node out = (λ i. t ((sym own-shape) i) ((sym own-node) i)) ∙ is in
      ap (one_changed v p) step
      ∙ ap (λ (w : Seats). one_changed w p (node.made new.node out)) (sym view)
      ∙ ap (λ (nodes : List Node). record { nodes = nodes; answer = out.answer; settled = out.settled.items })
      (sym (nodes-changed s xs seated p inside x here new))

-- one that stays as it is
pub still : (v : Seats) (s : Dimensions) (xs : List NodeStanding) → seats_of s xs ≡ v → AreSeated s xs → (p : ProcessId)
    → IsProcess v.shape p → (y : NodeStanding) → y.shape ≡ v.shape → y.node ≡ seat v p
    → (t : Dimensions → Node → NodeStep) (out : NodeOut) → t y.shape y.node ≡ node.made y.node out → one_changed v p (t v.shape (seat v p)) ≡ made v out
still v s xs view seated p named y own-shape own-node t out is =
    let step : t v.shape (seat v p) ≡ node.made (seat v p) out = (λ i. t ((sym own-shape) i) ((sym own-node) i)) ∙ is
    ∙ ap (λ (n : Node). node.made n out) own-node in
    let long : length v.nodes ≡ v.shape.k + v.shape.m
    = ap (λ (w : Seats). length w.nodes) (sym view) ∙ many-nodes xs ∙ seated.many ∙ ap (λ (w : Seats). w.shape.k + w.shape.m) view in
    ap (one_changed v p) step
    ∙ ap (λ (nodes : List Node). record { nodes = nodes; answer = out.answer; settled = out.settled.items }) (node-back v.shape v.nodes p named long)
