-- Calls at a process: what it is asked, what it hands out later, and what it tells of a call's fate.
use Rattle.std.specs.Prelude.{ℕ, suc, ◌==◌, nat_le, nat_lt, Bool, true, false, not, ◌&&◌, ◌||◌, List, [], ◌∷◌, ◌++◌}
use Rattle.std.specs.Prelude.{filter, find, is_some, Option, Some, None, if◌then◌else◌}
use Rattle.std.specs.List.{list_any, list_all, range_with_len}
use Rattle.group_types.specs.Dimensions.{Dimensions, space_of}
use Rattle.group_types.specs.Hash.{home_of}
use Rattle.group_types.specs.Lists.{at}
use Rattle.group_types.specs.declared.process.ProcessId.{ProcessId}
use Rattle.group_types.specs.declared.process.ProcessId.TheVariants.{DataNode, ParityNode}
use Rattle.group_types.specs.declared.run.Run.{Run}
use Rattle.group_message.specs.declared.kept.Kept.{Kept}
use Rattle.group_message.specs.declared.message.Message.TheVariants as tells
use Rattle.group_message.specs.declared.update.Body.{Body}
use Rattle.group_message.specs.declared.update.Outcome.{Outcome}
use Rattle.group_message.specs.declared.update.Outcome.TheVariants as ends
use Rattle.group_message.specs.declared.update.Update.{Update}
use Rattle.memc_table.specs.Act.{key_of}
use Rattle.memc_table.specs.Asked.{Asked}
use Rattle.memc_table.specs.declared.reply.Reply.{Reply}
use Rattle.memc_table.specs.declared.reply.Reply.TheVariants as reply
use Rattle.group_calls.specs.Turns.{CallName}
use Rattle.group_calls.specs.declared.decision.Decision.{Decision}
use Rattle.group_calls.specs.declared.decision.Decision.TheVariants as decides
use Rattle.group_calls.specs.declared.event.Answer.{Answer}
use Rattle.group_calls.specs.declared.event.Answer.TheVariants as says
use Rattle.group_calls.specs.declared.event.Cause.TheVariants as cause
use Rattle.group_run.specs.Applying.{ProcessStep, quiet, sending, when, and_then, replica_of, head_at, held_at, with_replica, with_held}
use Rattle.erasure_code.specs.Spaces.{bytes_at}
use Rattle.group_run.specs.Deciding.{Found, Bytes, Missing, decide}
use Rattle.group_run.specs.Heading.{rank, partition, other_parities, to_others, judge}
use Rattle.group_run.specs.Leaders.{missing_block, rebuilt_bytes, start_session}
use Rattle.group_run.specs.Process.{Process, Head, Held}
use Rattle.group_run.specs.Replica.{last_of, slot_in, freed_by, with_update}

-- what a call makes at a process: the process's step, and the answer
pub record CallStep : Type 0 where
  pub step : ProcessStep
  pub answer : Answer

-- an answer that changes nothing
abbrev pub only : Answer → Process → CallStep
only answer p = record { step = quiet p; answer = answer }

-- the reply that an outcome is handed out as
abbrev pub reply_from : Outcome → Reply
reply_from ends.Stored = reply.Stored
reply_from ends.Deleted = reply.Deleted
reply_from ends.Touched = reply.Touched
reply_from (ends.Number n) = reply.Number n

-- an inherited update that is unfinished
pub record Oldest : Type 0 where
  pub partition : ℕ
  pub number : ℕ

-- the oldest inherited update of one partition that is unfinished here, or else another one's
abbrev pub inherited_or : Process → ℕ → Option Head → Option Oldest → Option Oldest
inherited_or p d None other = other
inherited_or p d (Some h) other = if nat_lt (replica_of p d).applied h.inherited then Some
    (record { partition = d; number = suc (replica_of p d).applied }) else other

-- the oldest inherited update that is unfinished here, of the lowest of some partitions that has one
abbrev pub oldest_inherited : Process → List ℕ → Option Oldest
oldest_inherited p [] = None
oldest_inherited p (d ∷ ds) = inherited_or p d (head_at p d) (oldest_inherited p ds)

-- a block has to be rebuilt first: once nothing inherited is unfinished, a session is opened for it,
-- unless there is one
abbrev pub retry_block : Dimensions → ℕ → Option Oldest → Process → CallStep
retry_block s block (Some o) p = only (says.Retry (cause.Pending (partition o.partition) o.number)) p
retry_block s block None p = record {
  step = when (not (list_any (λ g. g.block == block) p.as_leader.sessions)) p (start_session s block p);
  answer = says.Retry (cause.Block block);
}

-- what a head finds in rebuilt blocks
abbrev pub found_unless : Option ℕ → List ℕ → Found
found_unless (Some b) bytes = Missing b
found_unless None bytes = Bytes bytes

-- what a head finds in a run of its partition: a data process in its space, a parity process in the
-- rebuilt blocks
abbrev pub found_at : Dimensions → ℕ → Process → ProcessId → Run → Found
found_at s d p (DataNode _) run = Bytes (bytes_at run.at run.len p.space)
found_at s d p (ParityNode _) run = found_unless (missing_block s d run p.as_leader) (rebuilt_bytes s d run p.as_leader)

-- the next update of a partition
abbrev pub update_of : CallName → Asked → ℕ → Body → Outcome → Process → Update
update_of name op d body outcome p = record {
  number = suc (last_of (replica_of p d));
  caller = name.caller;
  call = name.call;
  key = key_of op.act;
  body = body;
  frees = freed_by body (slot_in (replica_of p d).items (key_of op.act));
  outcome = outcome;
}

-- the process holds the call of an update of partition d that isn't settled yet
abbrev pub holding : ℕ → Update → Process → Process
holding d u p = with_held d (held_at p d ++ record { caller = u.caller; call = u.call; number = u.number; outcome = u.outcome } ∷ []) p

-- an update was issued: it is answered at once if it is settled, and else it gets a ticket
abbrev pub ticketed : Bool → ℕ → Update → ProcessStep → CallStep
ticketed true d u step = record { step = step; answer = says.Reply (reply_from u.outcome) }
ticketed false d u step = record { step = record step { process = holding d u step.process }; answer = says.Ticket u.number }

-- a head tells the others of an update that stands in its log, and settles what it may
abbrev pub issued : Dimensions → ℕ → Head → Update → Process → ProcessStep
issued s d h u p = and_then
    (sending (to_others s p (tells.Update (rank h.rank) (partition d) u (replica_of p d).applied)) (with_replica d (with_update u (replica_of p d)) p))
    (judge s d)

-- a head issues an update
abbrev pub issue : Dimensions → ℕ → Head → Update → Process → CallStep
issue s d h u p =
    let step : ProcessStep = issued s d h u p in ticketed (nat_le u.number (replica_of step.process d).applied) d u step

-- a head does what it decided
abbrev pub act_on : Dimensions → CallName → Asked → ℕ → Head → Process → Decision → CallStep
act_on s name op d h p (decides.Answer r) = only (says.Reply r) p
act_on s name op d h p (decides.Retry n) = only (says.Retry (cause.Pending (partition d) n)) p
act_on s name op d h p decides.NoSpace = only says.NoSpace p
act_on s name op d h p (decides.NeedBlock b) = retry_block s b (oldest_inherited p (range_with_len 0 s.k)) p
act_on s name op d h p (decides.Issue body outcome) = issue s d h (update_of name op d body outcome p) p

-- a process that doesn't head the partition sends the call away
abbrev pub ask_head : Dimensions → CallName → Asked → ℕ → Process → Option Head → CallStep
ask_head s name op d p None = only says.Moved p
ask_head s name op d p (Some h) = act_on s name op d h p (decide (space_of s) h.inherited (replica_of p d) op (found_at s d p p.name))

-- a call is asked at a process
abbrev pub ask_process : Dimensions → CallName → Asked → Process → CallStep
ask_process s name op p = ask_head s name op (home_of (key_of op.act) s.k) p (head_at p (home_of (key_of op.act) s.k))

-- the held call is this one
abbrev pub is_call : ℕ → ℕ → Held → Bool
is_call caller call h = h.caller == caller && h.call == call

-- a held call is answered once its update is settled, and forgotten then
abbrev pub handed_out : Bool → ℕ → Held → Process → CallStep
handed_out true d h p = only (says.Reply (reply_from h.outcome)) (with_held d (filter (λ x. not (is_call h.caller h.call x)) (held_at p d)) p)
handed_out false d h p = only says.NotYet p

-- the call is handed out where it is held for this partition, or else looked for elsewhere
abbrev pub collect_held : ℕ → Option Held → Process → CallStep → CallStep
collect_held d None p elsewhere = elsewhere
collect_held d (Some h) p elsewhere = handed_out (nat_le h.number (replica_of p d).applied) d h p

-- a call is looked for among those that a process holds, partition by partition
abbrev pub collect_from : ℕ → ℕ → Process → List ℕ → CallStep
collect_from caller call p [] = only says.Stranger p
collect_from caller call p (d ∷ ds) = collect_held d (find (is_call caller call) (held_at p d)) p (collect_from caller call p ds)

-- every other parity process that isn't known dead has acknowledged this head, which isn't the first
abbrev pub is_adopted : Dimensions → Process → Head → Bool
is_adopted s p h = h.rank == 0 || list_all (λ i. is_some (at None h.acks i)) (other_parities s.m p.name p.known)

-- a call that no replica may have an update of any more is gone
abbrev pub gone_or : Bool → Answer
gone_or true = says.Gone
gone_or false = says.NotYet

-- what the last applied update of the caller tells of a call
abbrev pub fate_from : Bool → ℕ → Option Kept → Answer
fate_from adopted call None = gone_or adopted
fate_from adopted call (Some kept) =
    if kept.call == call then says.Reply (reply_from kept.outcome) else (if nat_lt call kept.call then says.Stale kept.call else gone_or adopted)

-- an update of the call is in the log
abbrev pub is_in_log : ℕ → ℕ → List Update → Bool
is_in_log caller call log = list_any (λ u. u.caller == caller && u.call == call) log

-- a call that isn't in the log has its fate from what is kept
abbrev pub fate_unless : Bool → Answer → Answer
fate_unless true answer = says.NotYet
fate_unless false answer = answer

-- a head tells what became of a call in its partition
abbrev pub fate_of : Dimensions → ℕ → ℕ → ℕ → Process → Option Head → Answer
fate_of s caller call d p None = says.Moved
fate_of s caller call d p (Some h) =
    fate_unless (is_in_log caller call (replica_of p d).log) (fate_from (is_adopted s p h) call (at None (replica_of p d).kept caller))
