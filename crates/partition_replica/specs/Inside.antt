-- How the parts that a replica keeps stand for the machine's replica.
use Rattle.std.specs.Prelude.{◌≡◌, ℕ, ◌+◌, ◌*◌, ◌≤◌, true, List, length, All, Option}
use Rattle.std.specs.Cmp.Lexicographic.{slice_cmp}
use Rattle.std.specs.FinMap.{entries}
use Rattle.std.specs.FinSet as set
use Rattle.std.specs.Map.{keys_of}
use Rattle.std.specs.Ordering.{nat_cmp}
use Rattle.group_types.specs.Dimensions.{Dimensions, space_of}
use Rattle.group_message.specs.declared.kept.Kept.{Kept}
use Rattle.group_message.specs.declared.update.Update.{Update}
use Rattle.item_index.specs.AsMap.{as_map}
use Rattle.item_index.specs.Keys.{Keys}
use Rattle.request_log.specs.Logged.{LogState}
use Rattle.run_alloc.specs.Free.{AddressSpace}
use Rattle.run_alloc.specs.Free as alloc
use Rattle.group_run.specs.Free.{is_free}
use Rattle.group_run.specs.Replica.{Items, Replica, callers}
use Rattle.partition_replica.specs.Sound.{IsSoundReplica}
use Rattle.partition_replica.specs.State.{ReplicaState, is_among}

-- the items that an index has
abbrev pub items_in : Keys (List ℕ) → Items
items_in index = entries (as_map (slice_cmp nat_cmp) index)

-- the machine's replica
abbrev pub replica_in : Keys (List ℕ) → LogState Update → List (Option Kept) → Replica
replica_in index log kept = record { items = items_in index; applied = log.applied; log = log.updates; kept = kept }

-- the keys that are ready in an index, in order
abbrev pub ready_in : Keys (List ℕ) → List (List ℕ)
ready_in index = set.items (set.from_list {R = slice_cmp nat_cmp} (keys_of index))

-- the state that the parts stand for
abbrev pub state_in : Dimensions → Keys (List ℕ) → LogState Update → List (Option Kept) → ℕ → ReplicaState
state_in shape index log kept spare = record {
  shape = shape;
  replica = replica_in index log kept;
  room = record { spare = spare; ready = ready_in index };
}

-- what the parts keep between calls, where `fit` updates more fit into the log: the free runs are the
-- machine's free addresses, and for each update that waits, or can come without memory, there is room to
-- settle it and to drop it
pub record PartsAgree (state : ReplicaState) (space : AddressSpace) (fit : ℕ) : Type 0 where
  pub sound : IsSoundReplica (space_of state.shape) state.replica
  pub size : space.size ≡ space_of state.shape
  pub free : (a : ℕ) → alloc.is_free_address space a ≡ is_free (space_of state.shape) state.replica a
  pub runs : length state.replica.log + 2 * state.room.spare ≤ space.spare
  pub updates : state.room.spare ≤ fit
  pub ready : All (λ u. is_among state.room.ready u.key ≡ true) state.replica.log
  pub callers : length state.replica.kept ≡ callers
