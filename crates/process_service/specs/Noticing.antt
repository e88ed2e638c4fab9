-- What a process does once it knows of a death.
use Rattle.std.specs.Prelude.{◌≡◌, ℕ, suc, not, ◌&&◌, Bool, true, false, List, [], Option, Some, None, is_some, length, map, flat_map}
use Rattle.std.specs.List.{list_all, range_with_len, sum_by}
use Rattle.group_types.specs.Dimensions.{Dimensions}
use Rattle.group_types.specs.Lists.{at}
use Rattle.group_types.specs.declared.process.ProcessId.{ProcessId}
use Rattle.group_types.specs.declared.process.ProcessId.TheVariants.{DataNode, ParityNode}
use Rattle.membership.specs.Members.{Membership, knows_dead, with_dead}
use Rattle.group_message.specs.declared.message.Message.TheVariants as tells
use Rattle.group_run.specs.Applying.{Sent}
use Rattle.group_run.specs.Heading.{other_parities, partition, rank, to_parities}
use Rattle.group_run.specs.Process.{Head, new_head}
use Rattle.group_run.specs.Replica.{Replica, empty_replica, last_of}
use Rattle.group_run.specs.Rows.{parity_number}
use Rattle.head_service.specs.Serving.{Serving}

-- the process is to take a partition over: it doesn't head it, and all processes of lower rank are known dead
abbrev pub is_due : Membership → ProcessId → ℕ → Option Head → Bool
is_due known (DataNode _) d head = false
is_due known (ParityNode i) d head = not (is_some head) && knows_dead known (DataNode d) && list_all (λ j. knows_dead known (ParityNode j)) (range_with_len 0 i)

-- the head that it is then, and what it tells the others
abbrev pub successor_if : Bool → Dimensions → ProcessId → Replica → Option Head
successor_if true s name r = Some (new_head s (suc (parity_number name)) (last_of r))
successor_if false s name r = None

abbrev pub adoption_if : Bool → Dimensions → Membership → ProcessId → ℕ → Replica → List Sent
adoption_if true s known name d r = to_parities (other_parities s.m name known) (tells.Adopt (rank (suc (parity_number name))) (partition d) r.applied r.log)
adoption_if false s known name d r = []

-- whether partition d is taken over
abbrev pub is_taken_over : Serving → ℕ → Bool
is_taken_over v d = is_due v.known v.name d (at None v.heads d)

-- the new head of a partition, if it is taken over
abbrev pub successor_at : Serving → ℕ → Option Head
successor_at v d = successor_if (is_taken_over v d) v.shape v.name (at empty_replica v.replicas d)

-- the new heads of these partitions, and what is told of them, in order
abbrev pub successors : Serving → List ℕ → List (Option Head)
successors v ds = map (successor_at v) ds

abbrev pub adoptions : Serving → List ℕ → List Sent
adoptions v ds = flat_map (λ d. adoption_if (is_taken_over v d) v.shape v.known v.name d (at empty_replica v.replicas d)) ds

-- how many updates wait in logs
abbrev pub waiting : List Replica → ℕ
waiting rs = sum_by (λ r. length r.log) rs

-- the process knows of one death more
abbrev pub bereaved : ProcessId → Serving → Serving
bereaved dead v = record v { known = with_dead v.known dead }

-- what was made for the notice of a death is what a process needs that knows of it
pub record IsPrepared (v : Serving) (known : Membership) (heads : List (Option Head)) (room : ℕ) : Type 0 where
  pub known_is : known ≡ v.known
  pub heads_are : heads ≡ successors v (range_with_len 0 v.shape.k)
  pub room_is : room ≡ waiting v.replicas
