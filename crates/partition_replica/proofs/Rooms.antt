-- Room that stays, and room that is there.
use Rattle.std.proofs.Common.{◌≡◌, ℕ, ◌≤◌, ◌<◌, true, List, length, All, get_or, slice_index_or, sym, subst, arith}
use Rattle.group_message.specs.declared.update.Update.{Update}
use Rattle.partition_replica.specs.State.{HasRoom, Room, is_among}

-- what fitted fits where there is no less room
pub room_kept : (old new : Room) → old.spare ≤ new.spare → ((q : List ℕ) → is_among old.ready q ≡ true → is_among new.ready q ≡ true)
    → (us : List Update) → HasRoom old us → HasRoom new us
room_kept old new spare ready us has =
    record {
      spare = omega (arith, spare, has.spare);
      ready = λ k d lt. ready (slice_index_or us k d).key
          (has.ready k d lt);
    }

-- the key of an update is ready where those of all are
pub ready_at : (ready : List (List ℕ)) (us : List Update) (i : ℕ) (u : Update) → i < length us → u ≡ get_or us i u
    → All (λ u. is_among ready u.key ≡ true) us → is_among ready u.key ≡ true
ready_at ready us i u lt is all = subst (λ (v : Update). is_among ready v.key ≡ true) (sym is) (all i u lt)
