-- What a head does: it tells the others, counts their acknowledgements, and settles.
use Rattle.std.specs.Prelude.{ℕ, min, ◌==◌, not, ◌&&◌, List, [], ◌∷◌, map, filter, flat_map, unwrap_or, Option, Some, None}
use Rattle.std.specs.List.{range_with_len}
use Rattle.group_types.specs.Dimensions.{Dimensions}
use Rattle.group_types.specs.Lists.{at, put}
use Rattle.group_types.specs.Names.{same_process}
use Rattle.group_types.specs.declared.process.Partition.{Partition}
use Rattle.group_types.specs.declared.process.ProcessId.{ProcessId}
use Rattle.group_types.specs.declared.process.ProcessId.TheVariants.{ParityNode}
use Rattle.group_types.specs.declared.process.Rank.{Rank}
use Rattle.membership.specs.Members.{Membership, knows_dead}
use Rattle.group_message.specs.declared.message.Message.{Message}
use Rattle.group_message.specs.declared.message.Message.TheVariants as tells
use Rattle.group_message.specs.declared.update.Update.{Update}
use Rattle.group_run.specs.Applying.{ProcessStep, Sent, Settlement, quiet, when, apply_to, replica_of, head_at, with_head}
use Rattle.group_run.specs.Process.{Process, Head}
use Rattle.group_run.specs.Replica.{last_of, up_to}

-- a rank by its number
abbrev pub rank : ℕ → Rank
rank r = record { 0 = r }

-- a partition by its number
abbrev pub partition : ℕ → Partition
partition d = record { 0 = d }

-- the parity processes, of m, other than this process that it doesn't know to be dead, in order
abbrev pub other_parities : ℕ → ProcessId → Membership → List ℕ
other_parities m name known = filter (λ i. not (same_process name (ParityNode i)) && not (knows_dead known (ParityNode i))) (range_with_len 0 m)

-- a message to each of these parity processes
abbrev pub to_parities : List ℕ → Message → List Sent
to_parities is message = map (λ i. record { to = ParityNode i; message = message }) is

-- a message to each other parity process that a process doesn't know to be dead
abbrev pub to_others : Dimensions → Process → Message → List Sent
to_others s p message = to_parities (other_parities s.m p.name p.known) message

-- the number that a parity process acknowledged, 0 before its first
abbrev pub acked_by : Head → ℕ → ℕ
acked_by h i = unwrap_or (at None h.acks i) 0

-- the least number that these parity processes acknowledged, `last` where there is none of them
abbrev pub least_acked : Head → ℕ → List ℕ → ℕ
least_acked h last [] = last
least_acked h last (i ∷ is) = min (acked_by h i) (least_acked h last is)

-- the updates of partition d that are settled
abbrev pub settlements : ℕ → List Update → List Settlement
settlements d us = map (λ u. record { partition = d; update = u }) us

-- partition d is applied up to a number, and what is applied is settled
abbrev pub settle_to : Dimensions → ℕ → ℕ → Process → ProcessStep
settle_to s d n p = record { process = apply_to s d n p; sent = []; settled = settlements d (up_to n (replica_of p d)) }

-- a head judges its acknowledgements: the settled number rises to the least that all other parity
-- processes acknowledged which it doesn't know to be dead, or to the last number where there are none
abbrev pub judge_head : Dimensions → ℕ → Process → Option Head → ProcessStep
judge_head s d p None = quiet p
judge_head s d p (Some h) = settle_to s d (least_acked h (last_of (replica_of p d)) (other_parities s.m p.name p.known)) p

-- a process judges the acknowledgements of partition d, if it heads it
abbrev pub judge : Dimensions → ℕ → Process → ProcessStep
judge s d p = judge_head s d p (head_at p d)

-- the head with an acknowledgement of parity process i
abbrev pub acknowledged : ℕ → ℕ → Head → Head
acknowledged i n h = record h { acks = put None h.acks i (Some n) }

-- parity process i acknowledges number n under rank r, which is dropped where the process doesn't head
-- the partition with that rank
abbrev pub acknowledge : Dimensions → ℕ → ℕ → ℕ → ℕ → Option Head → Process → ProcessStep
acknowledge s i r d n None p = quiet p
acknowledge s i r d n (Some h) p = when (r == h.rank) p (judge s d (with_head d (Some (acknowledged i n h)) p))

-- a head tells how far it has settled
abbrev pub tell_stable : Dimensions → Process → ℕ → Option Head → List Sent
tell_stable s p d None = []
tell_stable s p d (Some h) = to_others s p (tells.Stable (rank h.rank) (partition d) (replica_of p d).applied)

-- the same for partitions in order
abbrev pub tell_stables : Dimensions → Process → List ℕ → List Sent
tell_stables s p ds = flat_map (λ d. tell_stable s p d (head_at p d)) ds
