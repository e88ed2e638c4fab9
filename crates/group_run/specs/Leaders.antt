-- What a leader does: it rebuilds a block of each lost partition from the others' blocks and from rows
-- of the code that all stand at the same numbers.
use Rattle.std.specs.Prelude.{ℕ, suc, ◌+◌, ◌-◌, ◌*◌, ◌/◌, ◌%◌, ◌==◌, Bool, true, false, not, ◌&&◌, ◌||◌, List, [], ◌∷◌}
use Rattle.std.specs.Prelude.{◌++◌, length, take, map, filter, find, flat_map, unwrap_or, is_some, Option, Some, None}
use Rattle.std.specs.Prelude.{replicate, if◌then◌else◌}
use Rattle.std.specs.List.{list_any, list_all, range_with_len}
use Rattle.group_types.specs.Dimensions.{Dimensions}
use Rattle.group_types.specs.Lists.{at, put}
use Rattle.group_types.specs.Names.{same_process}
use Rattle.group_types.specs.declared.process.ProcessId.TheVariants.{DataNode, ParityNode}
use Rattle.group_types.specs.declared.run.Run.{Run}
use Rattle.membership.specs.Members.{knows_dead}
use Rattle.group_message.specs.declared.message.Session.{Session}
use Rattle.group_message.specs.declared.message.Message.TheVariants as tells
use Rattle.group_run.specs.Applying.{ProcessStep, Sent, quiet, sending, when, and_then, for_each, apply_to, replica_of}
use Rattle.erasure_code.specs.Code.{Column, decoded}
use Rattle.group_run.specs.Heading.{rank, partition, to_others}
use Rattle.group_run.specs.Process.{Process, Copy, Gathering, LeaderState}
use Rattle.group_run.specs.Rows.{parity_number, copy_in, without_copy, with_copy, with_copies, begin_copy, marked}
use Rattle.group_run.specs.Rows.{is_marked, marks_of, accepts_mark, copies_ceased}

-- the name of a session
abbrev pub session_of : ℕ → ℕ → Session
session_of leader number = record { leader = ParityNode leader; number = number }

-- the process with another part of a leader
abbrev pub with_leader : LeaderState → Process → Process
with_leader leader p = record p { as_leader = leader }

-- the rebuilt block of a partition, if there is one
abbrev pub rebuilt_block : LeaderState → ℕ → ℕ → Option (List ℕ)
rebuilt_block l d block = at None (at [] l.rebuilt d) block

-- the open session of a number, if there is one
abbrev pub open_session : LeaderState → ℕ → Option Gathering
open_session l number = find (λ g. g.number == number) l.sessions

-- the sessions but one
abbrev pub without_session : ℕ → List Gathering → List Gathering
without_session number sessions = filter (λ g. not (g.number == number)) sessions

-- the sessions with this one in the place of the one of its number
abbrev pub with_session : Gathering → List Gathering → List Gathering
with_session g sessions = map (λ x. if x.number == g.number then g else x) sessions

-- what has come in, with its numbers, in order
abbrev pub columns_from : ℕ → List (Option (List ℕ)) → List Column
columns_from n [] = []
columns_from n (None ∷ parts) = columns_from (suc n) parts
columns_from n (Some bytes ∷ parts) = record { number = n; bytes = bytes } ∷ columns_from (suc n) parts

-- everything that a session waits for has come in
abbrev pub is_complete : Dimensions → Gathering → Bool
is_complete s g = list_all (λ d. list_any (λ l. l == d) g.lost || is_some (at None g.blocks_in d)) (range_with_len 0 s.k)
    && list_all (λ i. is_some (at None g.rows_in i)) g.rows

-- the bytes of lost partition l that a session gives
abbrev pub decoded_of : Dimensions → Gathering → ℕ → List ℕ
decoded_of s g l = decoded s.m s.block g.lost (columns_from 0 g.rows_in) (columns_from 0 g.blocks_in) l

-- a lost partition's block is kept as rebuilt, unless it was before
abbrev pub rebuilt_unless : Bool → Dimensions → Gathering → ℕ → LeaderState → LeaderState
rebuilt_unless true s g l state = state
rebuilt_unless false s g l state = record state { rebuilt = put [] state.rebuilt l (put None (at [] state.rebuilt l) g.block (Some (decoded_of s g l))) }

-- the blocks that a session gives are kept where they weren't rebuilt before
abbrev pub with_decoded : Dimensions → Gathering → List ℕ → LeaderState → LeaderState
with_decoded s g [] state = state
with_decoded s g (l ∷ ls) state = with_decoded s g ls (rebuilt_unless (is_some (rebuilt_block state l g.block)) s g l state)

-- a session is decoded and closed once all is in, and waits on until then
abbrev pub gathered_when : Bool → Dimensions → Gathering → LeaderState → LeaderState
gathered_when true s g state = with_decoded s g g.lost (record state { sessions = without_session g.number state.sessions })
gathered_when false s g state = record state { sessions = with_session g state.sessions }

-- a session that something came in for
abbrev pub gathered : Dimensions → Gathering → LeaderState → LeaderState
gathered s g state = gathered_when (is_complete s g) s g state

-- a data process's block comes in; where the session isn't open it is dropped
abbrev pub block_gathered : Dimensions → ℕ → List ℕ → Option Gathering → LeaderState → LeaderState
block_gathered s d bytes None state = state
block_gathered s d bytes (Some g) state = gathered s (record g { blocks_in = put None g.blocks_in d (Some bytes) }) state

-- a row's block of code comes in; where the session isn't open it is dropped
abbrev pub row_gathered : Dimensions → ℕ → List ℕ → Option Gathering → LeaderState → LeaderState
row_gathered s i bytes None state = state
row_gathered s i bytes (Some g) state = gathered s (record g { rows_in = put None g.rows_in i (Some bytes) }) state

-- what a data process's block, or a row's block of code, makes of its leader
abbrev pub block_comes : Dimensions → ℕ → ℕ → List ℕ → Process → Process
block_comes s number d bytes p = with_leader (block_gathered s d bytes (open_session p.as_leader number) p.as_leader) p

abbrev pub row_comes : Dimensions → ℕ → ℕ → List ℕ → Process → Process
row_comes s number i bytes p = with_leader (row_gathered s i bytes (open_session p.as_leader number) p.as_leader) p

-- a copy whose marks are all there goes to the leader; the leader's own is handed over at once
abbrev pub row_finished : Bool → Dimensions → Copy → Process → ProcessStep
row_finished true s copy p = quiet (row_comes s copy.number copy.leader copy.bytes p)
row_finished false s copy p =
    sending (record {
      to = ParityNode copy.leader;
      message = tells.Row (session_of copy.leader copy.number) copy.bytes
          (marks_of s copy);
    } ∷ []) p

-- a copy that was marked is finished, or waits for its other marks
abbrev pub copy_kept : Bool → Dimensions → Copy → Process → ProcessStep
copy_kept true s copy p = row_finished (same_process p.name (ParityNode copy.leader)) s copy
    (with_copies (without_copy copy.leader copy.number p.as_row.copies) p)
copy_kept false s copy p = quiet (with_copies (with_copy copy p.as_row.copies) p)

-- a partition is marked in a copy
abbrev pub copy_marked : Dimensions → ℕ → ℕ → Option Copy → Process → ProcessStep
copy_marked s d n None p = quiet p
copy_marked s d n (Some copy) p = copy_kept (is_marked s (marked d n copy)) s (marked d n copy) p

-- a row takes a mark: it copies the block at the first one, applies the partition up to the mark's
-- number, to its space and to the copy, and marks it there
abbrev pub mark_taken : Dimensions → ℕ → ℕ → ℕ → ℕ → ℕ → Process → ProcessStep
mark_taken s leader number block d n p =
    let q : Process = apply_to s d n (begin_copy s leader number block p) in copy_marked s d n (copy_in q.as_row.copies leader number) q

-- a mark comes, and is dropped where the row doesn't take it
abbrev pub mark_comes : Dimensions → ℕ → ℕ → ℕ → ℕ → ℕ → ℕ → Process → ProcessStep
mark_comes s leader number r block d n p = when (accepts_mark p leader number r d) p (mark_taken s leader number block d n p)

-- the data processes that a process knows to be dead, and those that it doesn't
abbrev pub lost_of : Dimensions → Process → List ℕ
lost_of s p = filter (λ d. knows_dead p.known (DataNode d)) (range_with_len 0 s.k)

abbrev pub left_of : Dimensions → Process → List ℕ
left_of s p = filter (λ d. not (knows_dead p.known (DataNode d))) (range_with_len 0 s.k)

-- the rows of a session: as many parity processes as partitions are lost, the lowest that aren't known dead
abbrev pub rows_of : Dimensions → Process → List ℕ
rows_of s p = take (length (lost_of s p)) (filter (λ i. not (knows_dead p.known (ParityNode i))) (range_with_len 0 s.m))

-- the leader's marks for a lost partition, to the other rows
abbrev pub leader_marks : Dimensions → ℕ → ℕ → ℕ → Process → ℕ → List Sent
leader_marks s leader number block p l = map
    (λ i. record { to = ParityNode i; message = tells.Mark (session_of leader number) (rank (at 0 p.ranks l)) block (partition l) (replica_of p l).applied })
    (filter (λ i. not (i == leader)) (rows_of s p))

-- what a leader sends to start a session: it asks the data processes that are left for their blocks,
-- and marks the lost partitions
abbrev pub session_starts : Dimensions → ℕ → ℕ → ℕ → Process → List Sent
session_starts s leader number block p =
    map (λ d. record { to = DataNode d; message = tells.ReadBlock (session_of leader number) block (rows_of s p) }) (left_of s p)
    ++ flat_map (leader_marks s leader number block p) (lost_of s p)

-- a session with nothing in
abbrev pub new_session : Dimensions → ℕ → ℕ → Process → Gathering
new_session s number block p = record {
  number = number;
  block = block;
  lost = lost_of s p;
  rows = rows_of s p;
  blocks_in = replicate s.k None;
  rows_in = replicate s.m None;
}

-- the leader with a session more
abbrev pub session_opened : Dimensions → ℕ → ℕ → Process → Process
session_opened s number block p =
    with_leader (record p.as_leader {
      last_session = number;
      sessions = p.as_leader.sessions
          ++ new_session s number block p ∷ [];
    }) p

-- a leader marks a lost partition in its own row
abbrev pub own_mark : Dimensions → ℕ → ℕ → ℕ → ℕ → Process → ProcessStep
own_mark s leader number block l p = mark_comes s leader number (at 0 p.ranks l) block l (replica_of p l).applied p

-- a leader starts a session for a block, and marks its own row
abbrev pub start_session : Dimensions → ℕ → Process → ProcessStep
start_session s block p =
    let leader : ℕ = parity_number p.name in
    let number : ℕ = suc p.as_leader.last_session in
    and_then (sending (session_starts s leader number block p) (session_opened s number block p)) (for_each (lost_of s p) (own_mark s leader number block))

-- a leader closes its open sessions, and tells the rows
abbrev pub close_sessions : Dimensions → List Gathering → Process → ProcessStep
close_sessions s [] p = quiet p
close_sessions s (g ∷ gs) p = sending (to_others s p (tells.Cease p.as_leader.last_session))
    (copies_ceased (parity_number p.name) p.as_leader.last_session (with_leader (record p.as_leader { sessions = [] }) p))

-- the blocks that a run meets
abbrev pub blocks_met : Dimensions → Run → List ℕ
blocks_met s run = if run.len == 0 then [] else range_with_len (run.at / s.block) ((run.at + run.len - 1) / s.block - run.at / s.block + 1)

-- the lowest block of a run that isn't rebuilt for a partition
abbrev pub missing_block : Dimensions → ℕ → Run → LeaderState → Option ℕ
missing_block s d run l = find (λ b. not (is_some (rebuilt_block l d b))) (blocks_met s run)

-- a byte of the rebuilt blocks of a partition
abbrev pub rebuilt_byte : Dimensions → ℕ → LeaderState → ℕ → ℕ
rebuilt_byte s d l a = at 0 (unwrap_or (rebuilt_block l d (a / s.block)) []) (a % s.block)

-- the rebuilt bytes of a run
abbrev pub rebuilt_bytes : Dimensions → ℕ → Run → LeaderState → List ℕ
rebuilt_bytes s d run l = map (rebuilt_byte s d l) (range_with_len run.at run.len)
