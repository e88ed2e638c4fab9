use Rattle.std.proofs.Common.{◌∷◌, ◌<◌, ℕ, List, length, refl, arith, subst, deque_capacity}
use Rattle.ready_places.specs.Queue.{MarksKeys}
use Rattle.ready_places.proofs.Queue.{alone, larger, itself, rest, within}
use Rattle.ready_places.proofs.key_queue.KeyQueue.take_first.Goals as goal

pub index_mut-requires : goal.index_mut-requires
index_mut-requires c = omega (arith, below)
  where
    before : MarksKeys (c.in_ok-key.key ∷ c.pop_front.new.self.items) c.self.inside.marks.items (deque_capacity c.self.inside.keys)
    before = subst (λ (keys : List ℕ). MarksKeys keys c.self.inside.marks.items (deque_capacity c.self.inside.keys)) c.in_ok-key.ensures.items c.self.invariant

    below : c.in_ok-key.key < length c.self.inside.marks.items
    below = within _ _ _ c.in_ok-key.key before (itself c.in_ok-key.key c.pop_front.new.self.items)

pub invariant_of-self-2 : goal.invariant_of-self-2
invariant_of-self-2 c = larger c.pop_front.new.self.items c.pop_front.new.self.items _
    (deque_capacity c.self.inside.keys) _ (rest _ _ _ c.in_ok-key.key before) refl
    (omega (arith, c.in_ok-key.ensures.capacity))
  where
    before : MarksKeys (c.in_ok-key.key ∷ c.pop_front.new.self.items) c.self.inside.marks.items (deque_capacity c.self.inside.keys)
    before = subst (λ (keys : List ℕ). MarksKeys keys c.self.inside.marks.items (deque_capacity c.self.inside.keys)) c.in_ok-key.ensures.items c.self.invariant

pub returns-clause-once : goal.returns-clause-once
returns-clause-once c = alone _ c.self.inside.marks.items (deque_capacity c.self.inside.keys) c.in_ok-key.key
    (subst (λ (keys : List ℕ). MarksKeys keys c.self.inside.marks.items (deque_capacity c.self.inside.keys)) c.in_ok-key.ensures.items c.self.invariant)
