-- Schedules in which a head has to rebuild, or to wait. Their answers are the model's.
use Rattle.std.specs.Prelude.{List, [], ◌∷◌, pos}
use Rattle.memc_table.specs.declared.act.Act.TheVariants as act
use Rattle.memc_table.specs.declared.reply.Reply.TheVariants as reply
use Rattle.group_calls.specs.declared.event.Answer.TheVariants as says
use Rattle.group_calls.specs.declared.event.Cause.TheVariants as cause
use Rattle.group_run.specs.Heading.{partition}
use Rattle.group_wire.specs.Actions.{Action, Begin, Send, Read, Treat, Collect, Flush, Learn, Receive, GiveUp, Cut, Say}
use Rattle.group_wire.specs.Actions.{Hear, Permit, Take, Ping, Pong, Count, Show, Stop}
use Rattle.group_wire.specs.Rows.{ScheduleRow, d0, d1, op, p0, p1, small}
use Rattle.group_wire.specs.Sets.{everybody}

-- The next head rebuilds a block before it answers.
abbrev pub a_block_is_rebuilt_actions : List Action
a_block_is_rebuilt_actions =
    Begin 86 (op (act.Set (113 ∷ 52 ∷ []) 5 (pos 0) (48 ∷ 48 ∷ 50 ∷ []))) ∷ Send 86 d0 ∷
    Begin 85 (op (act.Set (113 ∷ 49 ∷ []) 5 (pos 0) (51 ∷ 49 ∷ 49 ∷ []))) ∷ Send 85 d1 ∷ Read d1 d1 ∷ Treat d1 0 ∷ Receive d1 p0 ∷
    Begin 0 (op (act.Incr (113 ∷ 53 ∷ []) 7)) ∷ Send 0 d1 ∷ Begin 170 (op (act.Delete (113 ∷ 48 ∷ []))) ∷ Send 170 d0 ∷ Read d0 d1 ∷ Read d1 d0 ∷
    Treat d0 0 ∷ Begin 171 (op (act.Append (113 ∷ 49 ∷ []) (49 ∷ []))) ∷ Send 171 d1 ∷ Begin 1 (op (act.Append (113 ∷ 49 ∷ []) (50 ∷ []))) ∷ Send 1 d1 ∷
    Treat d1 0 ∷ Read d0 d1 ∷ Treat d1 0 ∷ Stop d0 ∷ Receive d0 p0 ∷ Receive p0 d1 ∷ Collect 85 0 d1 ∷ Learn d1 d1
    ∷ Ping everybody d1 ∷ Read p0 d1 ∷ Treat d1 0 ∷
    Pong d1 p0 ∷ Receive d1 p0 ∷ Cut d0 p0 ∷ Count p0 d1 ∷ Show 85 0 ∷ Receive p0 d1 ∷ Collect 171 0 d1 ∷ Learn d1 p0 ∷ Ping everybody p0 ∷ Cut d0 d1 ∷
    Pong p0 d1 ∷ Count d1 p0 ∷ Show 171 0 ∷ Begin 171 (op (act.Get (113 ∷ 52 ∷ []))) ∷ Send 171 d0 ∷ Begin 85 (op (act.Get (113 ∷ 48 ∷ []))) ∷
    Send 85 d0 ∷ Say p0 ∷ Hear p0 d1 ∷ Say d1 ∷ Flush d1 ∷ Hear d1 p0 ∷ Receive d1 p0 ∷ Permit p0 ∷ Take d0 p0 ∷ GiveUp 170 ∷ GiveUp 171 ∷ Send 170 p0 ∷
    Read p0 p0 ∷ Treat p0 0 ∷ Learn p0 p0 ∷ Send 170 p0 ∷ Read p0 p0 ∷ Treat p0 0 ∷ Learn p0 p0 ∷ Ping everybody p0 ∷ Show 170 1 ∷ Permit d1 ∷ Take d0 d1 ∷
    GiveUp 85 ∷ GiveUp 86 ∷ Send 171 p0 ∷ Read p0 p0 ∷ Treat p0 0 ∷ Learn p0 p0 ∷ Pong p0 d1 ∷ Send 86 p0 ∷ Count d1 p0 ∷
    Begin 170 (op (act.Get (113 ∷ 48 ∷ []))) ∷ Send 170 p0 ∷ Read p0 p0 ∷ Treat p0 0 ∷ Learn p0 p0 ∷ Ping everybody p0 ∷ Show 170 2 ∷ Receive p0 d1 ∷ []

abbrev pub ABlockIsRebuilt : Type 0
ABlockIsRebuilt = ScheduleRow (small 2 1) a_block_is_rebuilt_actions
    (says.Ticket 1 ∷ says.Done ∷ says.Ticket 1 ∷ says.Reply reply.NotFound ∷ says.Retry (cause.Pending (partition 1) 1) ∷ says.Done ∷ says.Done ∷
    says.Reply reply.Stored ∷ says.Ticket 2 ∷ says.Done ∷ says.Done ∷ says.Reply reply.Stored ∷ says.Done ∷ says.Done ∷ says.Done ∷ says.Done ∷
    says.Lost ∷ says.Lost ∷ says.Gone ∷ says.Reply reply.NotFound ∷ says.Done ∷ says.Lost ∷ says.Retry (cause.Block 0) ∷ says.Reply reply.Miss ∷
    says.Done ∷ [])
    ((85, says.Reply reply.Stored) ∷ (171, says.Reply reply.Stored) ∷ (170, says.Reply reply.NotFound) ∷ (170, says.Reply reply.Miss) ∷ [])
    (d0 ∷ [])

-- A call waits for an update that isn't finished, and is asked again.
abbrev pub a_pending_update_actions : List Action
a_pending_update_actions =
    Begin 129 (op (act.Delete (113 ∷ 51 ∷ []))) ∷ Send 129 d1 ∷ Read p0 d1 ∷ Treat d1 0 ∷ Learn d1 p0 ∷ Ping everybody p0 ∷ Pong p0 d0 ∷
    Begin 0 (op (act.Set (113 ∷ 50 ∷ []) 0 (pos 0) (50 ∷ []))) ∷ Send 0 d0 ∷ Read d0 d0 ∷ Treat d0 0 ∷
    Begin 1 (op (act.Set (113 ∷ 51 ∷ []) 5 (pos 0) (49 ∷ []))) ∷ Send 1 d1 ∷ Begin 192 (op (act.Get (113 ∷ 48 ∷ []))) ∷ Send 192 d0 ∷ Read p1 d0 ∷
    Treat d0 0 ∷ Count d0 p0 ∷ Begin 64 (op (act.Set (113 ∷ 50 ∷ []) 5 (pos 0) (49 ∷ 51 ∷ 50 ∷ []))) ∷ Send 64 d0 ∷ Pong p0 p1 ∷
    Begin 65 (op (act.Get (113 ∷ 51 ∷ []))) ∷ Send 65 d1 ∷ Read d1 d1 ∷ Treat d1 0 ∷ Learn d1 d1 ∷ Ping everybody d1 ∷ Read d0 d1 ∷ Treat d1 0 ∷ Pong p0 d1 ∷
    Begin 128 (op (act.Set (113 ∷ 48 ∷ []) 0 (pos 0) (49 ∷ []))) ∷ Send 128 d0 ∷ Pong d1 p1 ∷ Receive d1 p1 ∷ Read p0 d0 ∷ Flush p0 ∷ Read d1 d0 ∷
    Treat d0 1 ∷ Cut d0 d1 ∷ Count p1 d1 ∷ Receive d0 p0 ∷ Cut d0 p0 ∷ Receive p1 d1 ∷ Cut d0 p1 ∷ Receive p0 d0 ∷ Count p1 p0 ∷ Show 129 0 ∷
    Pong d1 p0 ∷ Receive d1 p0 ∷ Count p0 d1 ∷ Show 65 0 ∷ Count d1 p0 ∷ Receive p0 d1 ∷ Collect 1 0 d1 ∷ Pong d1 d0 ∷ Say p1 ∷ Hear p1 d1 ∷ Hear p1 p0 ∷
    Say p0 ∷ Hear p0 p1 ∷ Treat d0 0 ∷ Say d1 ∷ Hear p0 d1 ∷ Hear d1 p1 ∷ Hear d1 p0 ∷ Begin 193 (op (act.Get (113 ∷ 51 ∷ []))) ∷ Send 193 d1 ∷
    Begin 129 (op (act.Append (113 ∷ 48 ∷ []) (49 ∷ []))) ∷ Send 129 d0 ∷ Read p1 d1 ∷ Begin 65 (op (act.Delete (113 ∷ 51 ∷ []))) ∷ Send 65 d1 ∷
    Read d1 d1 ∷ Treat d1 1 ∷ Receive d1 p0 ∷ Receive p0 d1 ∷ Receive d1 p1 ∷ Receive p1 d1 ∷ Collect 65 1 d1 ∷ Learn d1 d1 ∷ Ping everybody d1 ∷ Pong d1 p0 ∷
    Pong d1 p1 ∷ Count p0 d1 ∷ Count p1 d1 ∷ Show 65 1 ∷ Permit p1 ∷ Take d0 p1 ∷ GiveUp 192 ∷ []

abbrev pub APendingUpdate : Type 0
APendingUpdate = ScheduleRow (small 2 2) a_pending_update_actions
    (says.Reply reply.NotFound ∷ says.Ticket 1 ∷ says.Reply reply.Miss ∷ says.Reply reply.Miss ∷ says.Ticket 1 ∷ says.Done ∷ says.Done ∷
    says.Retry (cause.Pending (partition 0) 1) ∷ says.Done ∷ says.Done ∷ says.Done ∷ says.Done ∷ says.Done ∷ says.Reply reply.Stored ∷ says.Ticket 2 ∷
    says.Ticket 2 ∷ says.Done ∷ says.Done ∷ says.Done ∷ says.Done ∷ says.Reply reply.Deleted ∷ says.Done ∷ says.Done ∷ [])
    ((129, says.Reply reply.NotFound) ∷ (65, says.Reply reply.Miss) ∷ (65, says.Reply reply.Deleted) ∷ [])
    (d0 ∷ [])
