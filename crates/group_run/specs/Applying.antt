-- What a step of a process makes, and how a process applies updates.
use Rattle.std.specs.Prelude.{ℕ, suc, ◌-◌, ◌*◌, nat_le, Bool, true, false, List, [], ◌∷◌, ◌++◌, length, take, drop, map}
use Rattle.std.specs.Prelude.{Option, None, is_some, option_map, if◌then◌else◌}
use Rattle.field_byte.specs.Vectors.{scale}
use Rattle.group_types.specs.Dimensions.{Dimensions}
use Rattle.group_types.specs.Lists.{at, put}
use Rattle.group_types.specs.declared.process.ProcessId.{ProcessId}
use Rattle.group_types.specs.declared.process.ProcessId.TheVariants.{DataNode, ParityNode}
use Rattle.group_message.specs.declared.message.Message.{Message}
use Rattle.group_message.specs.declared.update.Body.{Body}
use Rattle.group_message.specs.declared.update.Body.TheVariants.{Put, Remove, Touch}
use Rattle.group_message.specs.declared.update.Update.{Update}
use Rattle.erasure_code.specs.Code.{coefficient}
use Rattle.erasure_code.specs.Spaces.{added_at}
use Rattle.group_run.specs.Process.{Process, Copy, Head, Held}
use Rattle.group_run.specs.Replica.{Replica, empty_replica, applied_to, up_to}

-- a message and who is to get it
pub record Sent : Type 0 where
  pub to : ProcessId
  pub message : Message

-- an update that a head settled
pub record Settlement : Type 0 where
  pub partition : ℕ
  pub update : Update

-- a step of a process: the process after it, what it sends in order, and what it settles
pub record ProcessStep : Type 0 where
  pub process : Process
  pub sent : List Sent
  pub settled : List Settlement

-- nothing is sent or settled
abbrev pub quiet : Process → ProcessStep
quiet p = record { process = p; sent = []; settled = [] }

-- messages are sent, and nothing else
abbrev pub sending : List Sent → Process → ProcessStep
sending sent p = record { process = p; sent = sent; settled = [] }

-- one step, and then another
abbrev pub and_then : ProcessStep → (Process → ProcessStep) → ProcessStep
and_then a f = record {
  process = (f a.process).process;
  sent = a.sent ++ (f a.process).sent;
  settled = a.settled ++ (f a.process).settled;
}

-- a step for each of some numbers, in order
abbrev pub for_each : List ℕ → (ℕ → Process → ProcessStep) → Process → ProcessStep
for_each [] f p = quiet p
for_each (x ∷ xs) f p = and_then (f x p) (for_each xs f)

-- a step where a test passes, and else nothing
abbrev pub when : Bool → Process → ProcessStep → ProcessStep
when true p step = step
when false p step = quiet p

-- the replica of partition d at a process
abbrev pub replica_of : Process → ℕ → Replica
replica_of p d = at empty_replica p.replicas d

-- the head of partition d at a process, if it heads it
abbrev pub head_at : Process → ℕ → Option Head
head_at p d = at None p.heads d

-- the calls of partition d that a process holds
abbrev pub held_at : Process → ℕ → List Held
held_at p d = at [] p.held d

-- the process with another replica of partition d
abbrev pub with_replica : ℕ → Replica → Process → Process
with_replica d r p = record p { replicas = put empty_replica p.replicas d r }

-- the process with another head of partition d
abbrev pub with_head : ℕ → Option Head → Process → Process
with_head d h p = record p { heads = put None p.heads d h }

-- the process with other calls of partition d that it holds
abbrev pub with_held : ℕ → List Held → Process → Process
with_held d held p = record p { held = put [] p.held d held }

-- a difference as a process adds it to its space: a parity process adds its product with the
-- coefficient
abbrev pub coded_delta : Dimensions → ProcessId → ℕ → List ℕ → List ℕ
coded_delta s (DataNode _) d delta = delta
coded_delta s (ParityNode i) d delta = scale (coefficient s.m i d) delta

-- a space after an update of partition d
abbrev pub space_added : Dimensions → ProcessId → ℕ → Body → List ℕ → List ℕ
space_added s name d (Put _ _ run delta) space = added_at run.at (coded_delta s name d delta) space
space_added s name d Remove space = space
space_added s name d (Touch _) space = space

-- a space after updates of partition d, in order
abbrev pub space_after : Dimensions → ProcessId → ℕ → List Update → List ℕ → List ℕ
space_after s name d [] space = space
space_after s name d (u ∷ us) space = space_after s name d us (space_added s name d u.body space)

-- the bytes of an area that begins at `from` and is as long as they are, after a difference at a run:
-- what of it meets the area is added
abbrev pub area_added : ℕ → ℕ → List ℕ → List ℕ → List ℕ
area_added from at delta area = if nat_le at from
    then added_at 0 (take (length area) (drop (from - at) delta)) area
    else added_at (at - from) (take (length area - (at - from)) delta) area

-- the bytes of block b after an update of partition d
abbrev pub block_added : Dimensions → ProcessId → ℕ → ℕ → Body → List ℕ → List ℕ
block_added s name d b (Put _ _ run delta) bytes = area_added (b * s.block) run.at (coded_delta s name d delta) bytes
block_added s name d b Remove bytes = bytes
block_added s name d b (Touch _) bytes = bytes

-- the bytes of block b after updates of partition d, in order
abbrev pub block_after : Dimensions → ProcessId → ℕ → ℕ → List Update → List ℕ → List ℕ
block_after s name d b [] bytes = bytes
block_after s name d b (u ∷ us) bytes = block_after s name d b us (block_added s name d b u.body bytes)

-- a row's copy after updates of partition d, which aren't added where the partition is marked
abbrev pub copy_after : Dimensions → ProcessId → ℕ → List Update → Copy → Copy
copy_after s name d us copy = if is_some (at None copy.marks d) then copy else record copy { bytes = block_after s name d copy.block us copy.bytes }

-- the rebuilt blocks of partition d, from block b on, after its updates: they have values, and no code
abbrev pub rebuilt_after : Dimensions → ℕ → List Update → ℕ → List (Option (List ℕ)) → List (Option (List ℕ))
rebuilt_after s d us b [] = []
rebuilt_after s d us b (block ∷ blocks) = option_map (block_after s (DataNode d) d b us) block ∷ rebuilt_after s d us (suc b) blocks

-- the bytes of a process after updates of partition d
abbrev pub bytes_after : Dimensions → ℕ → List Update → Process → Process
bytes_after s d us p = record p {
  space = space_after s p.name d us p.space;
  as_row = record p.as_row { copies = map (copy_after s p.name d us) p.as_row.copies };
  as_leader = record p.as_leader { rebuilt = put [] p.as_leader.rebuilt d (rebuilt_after s d us 0 (at [] p.as_leader.rebuilt d)) };
}

-- the process with partition d applied up to number n
abbrev pub apply_to : Dimensions → ℕ → ℕ → Process → Process
apply_to s d n p = with_replica d (applied_to n (replica_of p d)) (bytes_after s d (up_to n (replica_of p d)) p)
