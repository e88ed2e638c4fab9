-- A delivery between the two halves of a list of nodes.
use Rattle.std.proofs.Common.{ℕ, ◌≡◌, ◌<◌, false, List, [], ◌∷◌, ◌++◌, Result, Ok, Err, IfOk, length, take, drop, get_or, set, sym, ap, subst, ◌∙◌}
use Rattle.std.specs.declared.alloc.AllocError.{AllocError}
use Rattle.group_types.specs.Lists.{at}
use Rattle.group_types.specs.Names.{index_of}
use Rattle.group_message.specs.declared.message.Message.{Message}
use Rattle.group_run.specs.World.{deliver_nodes}
use Rattle.group_node.specs.Delivering.{Comes}
use Rattle.group_node.specs.Standing.{NodeStanding}
use Rattle.group_node.specs.Steps as node
use Rattle.group_node.specs.declared.node.NodeOut.{NodeOut}
use Rattle.group_core.specs.Pairs.{Delivered, Exchanged, FirstCanCome, IsNodeAt}
use Rattle.group_core.proofs.Paired.{back-at, front-at, set-either, two-set}

abbrev pub ComesTo : NodeStanding → NodeStanding → Type 0
ComesTo a b = b.node.down ≡ false → b.node.dead ≡ false → (m : Message) (rest : List Message)
    → at [] a.node.links (index_of b.shape b.node.process.name) ≡ m ∷ rest
    → Comes b.shape a.node.process.name m b.node.process

-- what a delivery from a to b makes
abbrev pub Makes : NodeStanding → NodeStanding → NodeStanding → NodeStanding → Result NodeOut AllocError → Type 0
Makes a b a2 b2 r = IfOk r (λ out. deliver_nodes b.shape a.node.process.name b.node.process.name a.node b.node
    ≡ record { sender = a2.node; receiver = node.made b2.node out })

same-comes : (a b x y : NodeStanding) → a ≡ x → b ≡ y → ComesTo x y → ComesTo a b
same-comes a b x y a_is b_is comes = subst (λ (z : NodeStanding). ComesTo z b) (sym a_is) (subst (λ (z : NodeStanding). ComesTo x z) (sym b_is) comes)

one-made : (a b a2 b2 x y : NodeStanding) (out : NodeOut) → a ≡ x → b ≡ y → a2.shape ≡ a.shape → b2.shape ≡ b.shape
    → deliver_nodes b.shape a.node.process.name b.node.process.name a.node b.node
    ≡ record { sender = a2.node; receiver = node.made b2.node out } → Delivered x y a2 b2 out
one-made a b a2 b2 x y out a_is b_is sa sb is = record {
  sender_shape = sa ∙ ap (λ (z : NodeStanding). z.shape) a_is;
  receiver_shape = sb ∙ ap (λ (z : NodeStanding). z.shape) b_is;
  step = sym (λ k. deliver_nodes (b_is k).shape (a_is k).node.process.name (b_is k).node.process.name (a_is k).node (b_is k).node) ∙ is;
}

module _ (xs front back : List NodeStanding) (i j : ℕ) (e d : NodeStanding) (low : i < j) (within : j < length xs)
    (front_is : front ≡ take j xs) (back_is : back ≡ drop j xs) where
  at-low : (x : NodeStanding) → IsNodeAt xs i x → get_or front i e ≡ x
  at-low x is = ap (λ (l : List NodeStanding). get_or l i e) front_is ∙ front-at xs i j e low ∙ is e

  at-high : (y : NodeStanding) → IsNodeAt xs j y → get_or back 0 d ≡ y
  at-high y is = ap (λ (l : List NodeStanding). get_or l 0 d) back_is ∙ back-at xs j d ∙ is d

  joined : (a b : NodeStanding) → set front i a ++ set back 0 b ≡ set (set xs i a) j b
  joined a b = (λ k. set (front_is k) i a ++ set (back_is k) 0 b) ∙ two-set xs i j a b low within

  pub comes-up : FirstCanCome xs i j → ComesTo (get_or front i e) (get_or back 0 d)
  comes-up can = same-comes _ _ can.sender can.receiver (at-low can.sender can.from) (at-high can.receiver can.to) can.comes

  pub same-up : FirstCanCome xs i j → (get_or front i e).shape ≡ (get_or back 0 d).shape
  same-up can = ap (λ (z : NodeStanding). z.shape) (at-low can.sender can.from) ∙ can.same
      ∙ sym (ap (λ (z : NodeStanding). z.shape) (at-high can.receiver can.to))

  pub comes-down : FirstCanCome xs j i → ComesTo (get_or back 0 d) (get_or front i e)
  comes-down can = same-comes _ _ can.sender can.receiver (at-high can.sender can.from) (at-low can.receiver can.to) can.comes

  pub exchanged-up : (ys : List NodeStanding) (a2 b2 : NodeStanding) (r : Result NodeOut AllocError)
      → ys ≡ set front i a2 ++ set back 0 b2 → a2.shape ≡ (get_or front i e).shape
      → b2.shape ≡ (get_or back 0 d).shape → Makes (get_or front i e) (get_or back 0 d) a2 b2 r → IfOk r (λ out. Exchanged xs ys i j out)
  exchanged-up ys a2 b2 (Ok out) is sa sb makes = record {
    sender = a2;
    receiver = b2;
    items = is ∙ joined a2 b2;
    delivered = λ x y at_x at_y. one-made _ _ a2 b2 x y out (at-low x at_x) (at-high y at_y) sa sb makes;
  }
  exchanged-up ys a2 b2 (Err error) is sa sb makes = tt

  pub exchanged-down : (ys : List NodeStanding) (a2 b2 : NodeStanding) (r : Result NodeOut AllocError)
      → ys ≡ set front i b2 ++ set back 0 a2 → a2.shape ≡ (get_or back 0 d).shape
      → b2.shape ≡ (get_or front i e).shape → Makes (get_or back 0 d) (get_or front i e) a2 b2 r → IfOk r (λ out. Exchanged xs ys j i out)
  exchanged-down ys a2 b2 (Ok out) is sa sb makes = record {
    sender = a2;
    receiver = b2;
    items = is ∙ joined b2 a2 ∙ set-either xs i j b2 a2 low;
    delivered = λ x y at_x at_y. one-made _ _ a2 b2 x y out (at-high x at_x) (at-low y at_y) sa sb makes;
  }
  exchanged-down ys a2 b2 (Err error) is sa sb makes = tt
