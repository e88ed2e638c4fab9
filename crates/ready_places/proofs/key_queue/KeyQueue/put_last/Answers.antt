use Rattle.std.proofs.Common.{◌≡◌, ◌<◌, [], ◌∷◌, ◌++◌, length, false, arith, ap, deque_capacity}
use Rattle.ready_places.specs.Queue.{Queued, is_queued}
use Rattle.ready_places.proofs.Queue.{larger, last, free, unmarked}
use Rattle.ready_places.proofs.key_queue.KeyQueue.put_last.Goals as goal

pub unreachable-requires : goal.unreachable-requires
unreachable-requires c =
    omega (
      arith,
      c.in-Err.ensures.full,
      free c.self.inside.keys.items c.self.inside.marks.items
          (deque_capacity c.self.inside.keys) c.args.key c.self.invariant below out,
    )
  where
    below : c.args.key < length c.self.inside.marks.items
    below = omega (arith, c.requires.room, ap (λ (q : Queued). q.room) c.self.view_is)

    out : is_queued c.self.inside.keys.items c.args.key ≡ false
    out = unmarked c.self.inside.keys.items c.self.inside.marks.items (deque_capacity c.self.inside.keys) c.args.key
        c.index.result.now c.self.invariant c.index.ensures c.if-index.false

pub invariant_of-self : goal.invariant_of-self
invariant_of-self c = larger (c.self.inside.keys.items ++ c.args.key ∷ []) c.push_back.new.self.items _ (deque_capacity c.self.inside.keys) _
    (last c.self.inside.keys.items c.self.inside.marks.items (deque_capacity c.self.inside.keys) c.args.key
    c.self.invariant below out) c.in-Ok.ensures.items c.push_back.ensures.capacity
  where
    below : c.args.key < length c.self.inside.marks.items
    below = omega (arith, c.requires.room, ap (λ (q : Queued). q.room) c.self.view_is)

    out : is_queued c.self.inside.keys.items c.args.key ≡ false
    out = unmarked c.self.inside.keys.items c.self.inside.marks.items (deque_capacity c.self.inside.keys) c.args.key
        c.index.result.now c.self.invariant c.index.ensures c.if-index.false
