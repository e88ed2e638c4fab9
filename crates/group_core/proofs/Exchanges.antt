-- What a delivery makes of the nodes.
use Rattle.std.proofs.Common.{ℕ, zero, suc, ◌≡◌, ◌<◌, false, List, [], ◌∷◌, Result, Ok, Err, IfOk, OnErr, length, get_or, set, refl, sym, ap, subst, ◌∙◌, arith}
use Rattle.std.specs.declared.alloc.AllocError.{AllocError}
use Rattle.group_types.specs.Dimensions.{Dimensions}
use Rattle.group_types.specs.Lists.{at}
use Rattle.group_types.specs.Names.{IsProcess, index_of}
use Rattle.group_types.specs.declared.process.ProcessId.{ProcessId}
use Rattle.group_message.specs.declared.message.Message.{Message}
use Rattle.group_run.specs.Process.{Node}
use Rattle.group_run.specs.World.{deliver_nodes, opening_node, with_node}
use Rattle.group_node.specs.Delivering.{Comes}
use Rattle.group_node.specs.Standing.{NodeStanding}
use Rattle.group_node.specs.Steps as node
use Rattle.group_node.specs.declared.node.NodeOut.{NodeOut}
use Rattle.group_core.specs.Pairs.{Delivered, Exchanged, FirstCanCome, IsNodeAt}
use Rattle.group_core.specs.Seats.{AreSeated, made, nodes_of, seat, seats_of, two_changed}
use Rattle.group_core.proofs.Changed.{nodes-changed, seat-is, shape-is, still-seated, within}

pub any-at : (xs : List NodeStanding) (i : ℕ) (d e : NodeStanding) → i < length xs → get_or xs i d ≡ get_or xs i e
any-at [] i d e below = absurd (omega (arith, below))
any-at (x ∷ xs) zero d e below = refl
any-at (x ∷ xs) (suc i) d e below = any-at xs i d e (omega (arith, below))

module _ (s : Dimensions) (xs : List NodeStanding) (seated : AreSeated s xs) (from to : ProcessId) (fin : IsProcess s from) (tin : IsProcess s to)
    (i j : ℕ) (i_is : i ≡ index_of s from) (j_is : j ≡ index_of s to)
    (from_name : (seat (seats_of s xs) from).process.name ≡ from) (to_name : (seat (seats_of s xs) to).process.name
    ≡ to) where
  abbrev a : NodeStanding
  a = get_or xs i (record { shape = s; node = opening_node s from })

  abbrev b : NodeStanding
  b = get_or xs j (record { shape = s; node = opening_node s to })

  a-there : IsNodeAt xs i a
  a-there d = any-at xs i d _ (within s xs seated from fin i i_is)

  b-there : IsNodeAt xs j b
  b-there d = any-at xs j d _ (within s xs seated to tin j j_is)

  a-node : a.node ≡ seat (seats_of s xs) from
  a-node = seat-is s xs seated from fin i i_is _

  b-node : b.node ≡ seat (seats_of s xs) to
  b-node = seat-is s xs seated to tin j j_is _

  a-shape : a.shape ≡ s
  a-shape = shape-is s xs seated from fin i i_is _

  b-shape : b.shape ≡ s
  b-shape = shape-is s xs seated to tin j j_is _

  a-name : a.node.process.name ≡ from
  a-name = ap (λ (n : Node). n.process.name) a-node ∙ from_name

  b-name : b.node.process.name ≡ to
  b-name = ap (λ (n : Node). n.process.name) b-node ∙ to_name

  pub can-come : ((seat (seats_of s xs) to).down ≡ false → (seat (seats_of s xs) to).dead ≡ false → (m : Message) (rest : List Message)
      → at [] (seat (seats_of s xs) from).links (index_of s to) ≡ m ∷ rest → Comes s from m (seat (seats_of s xs) to).process) → FirstCanCome xs i j
  can-come comes = record { sender = a; receiver = b; from = a-there; to = b-there; same = a-shape ∙ sym b-shape; comes = coming } where
    coming : b.node.down ≡ false → b.node.dead ≡ false → (m : Message) (rest : List Message)
        → at [] a.node.links (index_of b.shape b.node.process.name) ≡ m ∷ rest
        → Comes b.shape a.node.process.name m b.node.process
    coming up lives m rest first =
        let there : at [] (seat (seats_of s xs) from).links (index_of s to) ≡ m ∷ rest =
        sym (λ k. at [] (a-node k).links (index_of (b-shape k) (b-name k))) ∙ first in
        let here : Comes s from m (seat (seats_of s xs) to).process =
        comes (subst (λ (n : Node). n.down ≡ false) b-node up) (subst (λ (n : Node). n.dead ≡ false) b-node lives) m
        rest there in
        subst (λ (t : Dimensions). Comes t a.node.process.name m b.node.process) (sym b-shape)
        (subst (λ (p : ProcessId). Comes s p m b.node.process) (sym a-name) (subst (λ (n : Node). Comes s from m n.process) (sym b-node) here))

  module _ (ys : List NodeStanding) (out : NodeOut) (ex : Exchanged xs ys i j out) where
    done : Delivered a b ex.sender ex.receiver out
    done = ex.delivered a b a-there b-there

    sender-shape : ex.sender.shape ≡ s
    sender-shape = done.sender_shape ∙ a-shape

    receiver-shape : ex.receiver.shape ≡ s
    receiver-shape = done.receiver_shape ∙ b-shape

    first-seated : AreSeated s (set xs i ex.sender)
    first-seated = still-seated s xs seated from fin i i_is ex.sender sender-shape

    seated-after : AreSeated s ys
    seated-after = subst (AreSeated s) (sym ex.items) (still-seated s (set xs i ex.sender) first-seated to tin j j_is ex.receiver receiver-shape)

    nodes-after : nodes_of ys ≡ with_node s to ex.receiver.node (with_node s from ex.sender.node (nodes_of xs))
    nodes-after =
        ap nodes_of ex.items ∙ nodes-changed s (set xs i ex.sender) first-seated to tin j j_is ex.receiver
        ∙ ap (with_node s to ex.receiver.node) (nodes-changed s xs seated from fin i i_is ex.sender)

    stepped : deliver_nodes s from to (seat (seats_of s xs) from) (seat (seats_of s xs) to)
        ≡ record { sender = ex.sender.node; receiver = node.made ex.receiver.node out }
    stepped = sym (λ k. deliver_nodes (b-shape k) (a-name k) (b-name k) (a-node k) (b-node k)) ∙ done.step

    pub exchanged-is : two_changed (seats_of s xs) from to
        (deliver_nodes s from to (seat (seats_of s xs) from) (seat (seats_of s xs) to)) ≡ made (seats_of s ys) out
    exchanged-is = ap (two_changed (seats_of s xs) from to) stepped
        ∙ ap (λ (nodes : List Node). record { nodes = nodes; answer = out.answer; settled = out.settled.items })
        (sym nodes-after)

  pub seated-either : (ys : List NodeStanding) (r : Result NodeOut AllocError) → IfOk r (λ out. Exchanged xs ys i j out) → OnErr r (ys ≡ xs) → AreSeated s ys
  seated-either ys (Ok out) ex same = seated-after ys out ex
  seated-either ys (Err e) ex same = subst (AreSeated s) (sym same) seated
