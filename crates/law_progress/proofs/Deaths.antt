-- Only a failure makes a process dead.
use Rattle.std.proofs.Common.{◌≡◌, ◌≢◌, ◌+◌, Bool, true, false, List, [], ◌∷◌, length, ◌⊎◌, inl, inr, refl, sym, ap, subst, ◌∙◌}
use Rattle.group_types.specs.Dimensions.{Dimensions}
use Rattle.group_types.specs.Lists.{at}
use Rattle.group_types.specs.Names.{IsProcess, index_of}
use Rattle.group_types.specs.declared.process.ProcessId.{ProcessId}
use Rattle.group_types.proofs.Names.{same-cases}
use Rattle.group_message.specs.declared.message.Message.{Message}
use Rattle.group_calls.specs.declared.event.Answer.{Answer}
use Rattle.group_calls.specs.declared.event.Event.{Event}
use Rattle.group_calls.specs.declared.event.Event.TheVariants.{Ask, Collect, Deliver, Fail, Flush, Trace}
use Rattle.group_run.specs.Applying.{head_at}
use Rattle.group_run.specs.Asking.{CallStep, ask_process, collect_from, fate_of}
use Rattle.group_run.specs.Headline.{MayCome}
use Rattle.group_run.specs.History.{History, prolonged}
use Rattle.group_run.specs.Process.{Node}
use Rattle.group_run.specs.Progress.{IsNoFailure}
use Rattle.group_run.specs.Receiving.{receive}
use Rattle.group_run.specs.World.{DeliveryStep, delivered, flush_process, if_up, next_name, node_after, node_in, process_node, treated, unchanged, with_node}
use Rattle.std.specs.List.{range_with_len}
use Rattle.law_moves.specs.State.{state_of}
use Rattle.law_moves.proofs.Events.{FramedHistory, emptied-dead}
use Rattle.law_moves.proofs.Reading.{node-here, node-other, size-with_node}

module _ (s : Dimensions) where
  -- one node changes, and is as dead as before
  one-dead : (nodes : List Node) (p q : ProcessId) (node : Node) → length nodes ≡ s.k + s.m → IsProcess s p → IsProcess s q
      → node.dead ≡ (node_in s nodes p).dead → (node_in s (with_node s p node nodes) q).dead ≡ (node_in s nodes q).dead
  one-dead nodes p q node many pin qin same = by (same-cases q p) where
    by : (q ≡ p) ⊎ (q ≢ p) → (node_in s (with_node s p node nodes) q).dead ≡ (node_in s nodes q).dead
    by (inl is) = subst (λ (y : ProcessId). (node_in s (with_node s p node nodes) y).dead ≡ (node_in s nodes y).dead)
        (sym is) (ap (λ (n : Node). n.dead) (node-here s nodes p node) ∙ same)
    by (inr other) = ap (λ (n : Node). n.dead) (node-other s nodes p q node pin qin other many)

  treated-dead : (down dead : Bool) (node : Node) (call : CallStep) → (if_up down dead node (treated s node call)).node.dead ≡ node.dead
  treated-dead true dead node call = refl
  treated-dead false true node call = refl
  treated-dead false false node call = refl

  unchanged-dead : (down dead : Bool) (node : Node) (answer : Answer) → (if_up down dead node (unchanged answer node)).node.dead ≡ node.dead
  unchanged-dead true dead node answer = refl
  unchanged-dead false true node answer = refl
  unchanged-dead false false node answer = refl

  sender-dead : (down dead : Bool) (from to : ProcessId) (a b : Node) (link : List Message) → (delivered down dead s from to a b link).sender.dead ≡ a.dead
  sender-dead true dead from to a b link = refl
  sender-dead false true from to a b link = refl
  sender-dead false false from to a b [] = refl
  sender-dead false false from to a b (m ∷ rest) = refl

  receiver-dead : (down dead : Bool) (from to : ProcessId) (a b : Node) (link : List Message)
      → (delivered down dead s from to a b link).receiver.node.dead ≡ b.dead
  receiver-dead true dead from to a b link = refl
  receiver-dead false true from to a b link = refl
  receiver-dead false false from to a b [] = refl
  receiver-dead false false from to a b (m ∷ rest) = emptied-dead s m (node_after s (receive s from m b.process) b)

-- an event that is no failure
pub dead-same : (h : History) (e : Event) → FramedHistory h → MayCome h.world e → IsNoFailure e → (q : ProcessId)
    → IsProcess h.world.shape q → (state_of (prolonged h e)).dead q ≡ (state_of h).dead q
dead-same h (Fail p keep) framed may goes q qin = absurd goes
dead-same h (Ask caller op p) framed may goes q qin = one-dead h.world.shape h.world.nodes p q _ framed.nodes_many may.1 qin
    (treated-dead h.world.shape (process_node h.world p).down (process_node h.world p).dead (process_node h.world p)
    (ask_process h.world.shape (next_name h.world caller) op (process_node h.world p).process))
dead-same h (Collect caller call p) framed may goes q qin = one-dead h.world.shape h.world.nodes p q _ framed.nodes_many may.1 qin
    (treated-dead h.world.shape (process_node h.world p).down (process_node h.world p).dead (process_node h.world p)
    (collect_from caller call (process_node h.world p).process (range_with_len 0 h.world.shape.k)))
dead-same h (Flush p) framed may goes q qin = one-dead h.world.shape h.world.nodes p q _ framed.nodes_many may qin
    (treated-dead h.world.shape (process_node h.world p).down (process_node h.world p).dead (process_node h.world p)
    (flush_process h.world.shape (process_node h.world p).process))
dead-same h (Trace caller call d p) framed may goes q qin = one-dead h.world.shape h.world.nodes p q _ framed.nodes_many may.3 qin
    (unchanged-dead h.world.shape (process_node h.world p).down (process_node h.world p).dead (process_node h.world p)
    (fate_of h.world.shape caller call d.0 (process_node h.world p).process (head_at (process_node h.world p).process d.0)))
dead-same h (Deliver from to) framed may goes q qin = by
    (delivered (process_node h.world to).down (process_node h.world to).dead h.world.shape from to (process_node h.world from)
    (process_node h.world to) (at [] (process_node h.world from).links (index_of h.world.shape to)))
    (sender-dead h.world.shape (process_node h.world to).down (process_node h.world to).dead from to (process_node h.world from)
    (process_node h.world to) (at [] (process_node h.world from).links (index_of h.world.shape to)))
    (receiver-dead h.world.shape (process_node h.world to).down (process_node h.world to).dead from to (process_node h.world from)
    (process_node h.world to) (at [] (process_node h.world from).links (index_of h.world.shape to)))
  where
    by : (t : DeliveryStep) → t.sender.dead ≡ (process_node h.world from).dead → t.receiver.node.dead ≡ (process_node h.world to).dead
        → (node_in h.world.shape
        (with_node h.world.shape to t.receiver.node (with_node h.world.shape from t.sender h.world.nodes)) q).dead
        ≡ (node_in h.world.shape h.world.nodes q).dead
    by t sender receiver =
        one-dead h.world.shape (with_node h.world.shape from t.sender h.world.nodes) to q t.receiver.node
        (size-with_node h.world.shape h.world.nodes from t.sender may.0 framed.nodes_many) may.1 qin
        (receiver ∙ ap (λ (n : Node). n.dead)
        (sym (node-other h.world.shape h.world.nodes from to t.sender may.0 may.1 (λ same. may.2 (sym same))
        framed.nodes_many)))
        ∙ one-dead h.world.shape h.world.nodes from q t.sender framed.nodes_many may.0 qin sender
