-- What each kind of message does at the process that receives it.
use Rattle.std.specs.Prelude.{ℕ, suc, ◌+◌, ◌-◌, nat_le, Bool, false, not, ◌&&◌, List, [], ◌∷◌, ◌++◌, length, drop, map, is_some, Some}
use Rattle.std.specs.List.{list_all, range_with_len}
use Rattle.group_types.specs.Dimensions.{Dimensions}
use Rattle.group_types.specs.Lists.{at, put}
use Rattle.group_types.specs.declared.process.ProcessId.{ProcessId}
use Rattle.group_types.specs.declared.process.ProcessId.TheVariants.{DataNode, ParityNode}
use Rattle.membership.specs.Members.{knows_dead, with_dead}
use Rattle.group_message.specs.declared.message.Message.{Message}
use Rattle.group_message.specs.declared.message.Message.TheVariants as tells
use Rattle.group_message.specs.declared.message.Session.{Session}
use Rattle.group_message.specs.declared.update.Update.{Update}
use Rattle.group_run.specs.Applying.{ProcessStep, Sent, quiet, sending, when, and_then, for_each, apply_to, replica_of, head_at, with_replica, with_head}
use Rattle.group_run.specs.Heading.{rank, partition, to_others, judge, acknowledge}
use Rattle.group_run.specs.Leaders.{block_comes, row_comes, mark_comes, close_sessions}
use Rattle.group_run.specs.Process.{Process, new_head}
use Rattle.group_run.specs.Replica.{Replica, last_of, with_update, with_log}
use Rattle.group_run.specs.Rows.{parity_number, block_in, copies_ceased, leader_forgotten}

-- the process with another rank of partition d
abbrev pub with_rank : ℕ → ℕ → Process → Process
with_rank d r p = record p { ranks = put 0 p.ranks d r }

-- a message of a rank below the current one is dropped
abbrev pub unless_stale : ℕ → ℕ → Process → ProcessStep → ProcessStep
unless_stale r d p step = when (nat_le (at 0 p.ranks d) r) p step

-- an acknowledgement to a head
abbrev pub ack_to : ProcessId → ℕ → ℕ → ℕ → Process → ProcessStep
ack_to from r d n p = sending (record { to = from; message = tells.Ack (rank r) (partition d) n } ∷ []) p

-- an update: what is stable is applied, and the update stands in the log
abbrev pub update_taken : Dimensions → ℕ → Update → ℕ → Process → Process
update_taken s d u stable p = let q : Process = apply_to s d stable p in with_replica d (with_update u (replica_of q d)) q

abbrev pub update_comes : Dimensions → ProcessId → ℕ → ℕ → Update → ℕ → Process → ProcessStep
update_comes s from r d u stable p = unless_stale r d p (ack_to from r d u.number (update_taken s d u stable p))

-- a settled number: everything up to it is applied
abbrev pub stable_comes : Dimensions → ℕ → ℕ → ℕ → Process → ProcessStep
stable_comes s r d n p = unless_stale r d p (quiet (apply_to s d n p))

-- the replica with a new head's log in the place of its own above what is applied
abbrev pub adopting : ℕ → List Update → Replica → Replica
adopting base list r = with_log (drop (r.applied - base) list) r

-- a new head's log: everything up to its base is applied, and the log is the head's
abbrev pub log_adopted : Dimensions → ℕ → ℕ → ℕ → List Update → Process → Process
log_adopted s r d base list p = let q : Process = apply_to s d base (with_rank d r p) in with_replica d (adopting base list (replica_of q d)) q

abbrev pub adopt_comes : Dimensions → ProcessId → ℕ → ℕ → ℕ → List Update → Process → ProcessStep
adopt_comes s from r d base list p = unless_stale r d p (ack_to from r d (base + length list) (log_adopted s r d base list p))

-- the marks that a data process sends to the rows
abbrev pub data_marks : Session → ℕ → ℕ → ℕ → List ℕ → List Sent
data_marks session block d n rows = map (λ i. record { to = ParityNode i; message = tells.Mark session (rank 0) block (partition d) n }) rows

-- a leader asks for a block: it gets it at the settled number, and each row gets a mark of that number
abbrev pub read_comes : Dimensions → Session → ℕ → List ℕ → Process → ProcessId → ProcessStep
read_comes s session block rows p (ParityNode _) = quiet p
read_comes s session block rows p (DataNode d) =
    let n : ℕ = (replica_of p d).applied in
    sending (record { to = session.leader; message = tells.Block session (block_in s block p.space) n } ∷ data_marks session block d n rows) p

-- a process takes over a partition where it knows all processes of lower rank to be dead
abbrev pub takes_over : Process → ℕ → ProcessId → Bool
takes_over p d (DataNode _) = false
takes_over p d (ParityNode i) = not (is_some (head_at p d)) && knows_dead p.known (DataNode d) && list_all
    (λ j. knows_dead p.known (ParityNode j)) (range_with_len 0 i)

-- the process heads the partition under a rank, and what its log has is inherited
abbrev pub enthroned : Dimensions → ℕ → ℕ → Process → Process
enthroned s r d p = with_head d (Some (new_head s r (last_of (replica_of p d)))) (with_rank d r p)

-- the partition is taken over: the process tells the others what it has, and settles what it may
abbrev pub taken_over : Dimensions → ℕ → Process → ProcessStep
taken_over s d p =
    let r : ℕ = suc (parity_number p.name) in and_then
    (sending (to_others s p (tells.Adopt (rank r) (partition d) (replica_of p d).applied (replica_of p d).log)) (enthroned s r d p))
    (judge s d)

-- it is taken over where that is due
abbrev pub take_over_if : Dimensions → ℕ → Process → ProcessStep
take_over_if s d p = when (takes_over p d p.name) p (taken_over s d p)

-- a process knows of a death, and forgets the copies of the dead leader's sessions
abbrev pub death_known : ProcessId → Process → Process
death_known dead p = leader_forgotten dead (record p { known = with_dead p.known dead })

-- the notice of a death: what is known changes, sessions are closed, acknowledgements are judged anew
-- for the headed partitions in order, and then partitions are taken over in order
abbrev pub notice_comes : Dimensions → ProcessId → Process → ProcessStep
notice_comes s dead p =
    let q : Process = death_known dead p in
    and_then (and_then (close_sessions s q.as_leader.sessions q) (for_each (range_with_len 0 s.k) (judge s))) (for_each (range_with_len 0 s.k) (take_over_if s))

-- a message that a process receives from another
abbrev pub receive : Dimensions → ProcessId → Message → Process → ProcessStep
receive s from (tells.Update r d u stable) p = update_comes s from r.0 d.0 u stable p
receive s (DataNode _) (tells.Ack r d n) p = quiet p
receive s (ParityNode i) (tells.Ack r d n) p = acknowledge s i r.0 d.0 n (head_at p d.0) p
receive s from (tells.Stable r d n) p = stable_comes s r.0 d.0 n p
receive s from (tells.Adopt r d base list) p = adopt_comes s from r.0 d.0 base list p
receive s from (tells.ReadBlock session block rows) p = read_comes s session block rows p p.name
receive s (DataNode d) (tells.Block session bytes n) p = quiet (block_comes s session.number d bytes p)
receive s (ParityNode _) (tells.Block session bytes n) p = quiet p
receive s from (tells.Mark session r block d n) p = mark_comes s (parity_number session.leader) session.number r.0 block d.0 n p
receive s (DataNode _) (tells.Row session bytes stamp) p = quiet p
receive s (ParityNode i) (tells.Row session bytes stamp) p = quiet (row_comes s session.number i bytes p)
receive s (DataNode _) (tells.Cease upto) p = quiet p
receive s (ParityNode i) (tells.Cease upto) p = quiet (copies_ceased i upto p)
receive s from (tells.Notice dead) p = notice_comes s dead p
