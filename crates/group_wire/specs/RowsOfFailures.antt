-- Schedules of several failures, and of members that are condemned and live. Their answers are the model's.
use Rattle.std.specs.Prelude.{List, [], ◌∷◌, pos}
use Rattle.memc_table.specs.declared.act.Act.TheVariants as act
use Rattle.memc_table.specs.declared.reply.Reply.TheVariants as reply
use Rattle.group_calls.specs.declared.event.Answer.TheVariants as says
use Rattle.group_calls.specs.declared.event.Cause.TheVariants as cause
use Rattle.group_run.specs.Heading.{partition}
use Rattle.group_wire.specs.Actions.{Action, Begin, Send, Read, Treat, Collect, Flush, Learn, Receive, GiveUp, Cut, Say}
use Rattle.group_wire.specs.Actions.{Hear, Permit, Take, Ping, Pong, Count, Show, Stop}
use Rattle.group_wire.specs.Rows.{ScheduleRow, d0, d1, d2, op, p0, p1, small}
use Rattle.group_wire.specs.Sets.{everybody}

-- Two fail by one permitted set.
abbrev pub two_fail_at_once_actions : List Action
two_fail_at_once_actions =
    Begin 170 (op (act.Get (113 ∷ 48 ∷ []))) ∷ Send 170 d0 ∷ Begin 1 (op (act.Set (113 ∷ 49 ∷ []) 0 (pos 0) (50 ∷ []))) ∷ Send 1 d0 ∷ Read d0 d0 ∷
    Treat d0 0 ∷ Begin 0 (op (act.Get (113 ∷ 49 ∷ []))) ∷ Send 0 d0 ∷ Read d0 d0 ∷ Treat d0 0 ∷ Learn d0 d0 ∷ Ping everybody d0 ∷ Receive d0 p1 ∷ Pong d0 p1 ∷
    Begin 86 (op (act.Delete (113 ∷ 49 ∷ []))) ∷ Send 86 d0 ∷ Begin 85 (op (act.Get (113 ∷ 49 ∷ []))) ∷ Send 85 d0 ∷
    Begin 171 (op (act.Set (113 ∷ 49 ∷ []) 0 (pos 0) (51 ∷ 50 ∷ []))) ∷ Send 171 d0 ∷ Cut d0 p1 ∷ Cut d0 p0 ∷ Cut p1 p0 ∷ Say p0 ∷ Permit p0 ∷ Flush p1 ∷ []

abbrev pub TwoFailAtOnce : Type 0
TwoFailAtOnce = ScheduleRow (small 1 2) two_fail_at_once_actions
    (says.Ticket 1 ∷ says.Reply reply.Miss ∷ says.Done ∷ says.Done ∷ says.Done ∷ [])
    ([])
    (d0 ∷ p1 ∷ [])

-- Both data processes of a group with two parity processes fail.
abbrev pub both_heads_fail_actions : List Action
both_heads_fail_actions =
    Cut d0 d1 ∷ Begin 193 (op (act.Delete (113 ∷ 49 ∷ []))) ∷ Send 193 d1 ∷ Begin 192 (op (act.Delete (113 ∷ 51 ∷ []))) ∷ Send 192 d1 ∷
    Begin 129 (op (act.Get (113 ∷ 49 ∷ []))) ∷ Send 129 d1 ∷ Begin 65 (op (act.Set (113 ∷ 50 ∷ []) 0 (pos 0) (50 ∷ 51 ∷ 49 ∷ []))) ∷ Send 65 d0 ∷
    Read p0 d1 ∷ Treat d1 0 ∷ Learn d1 p0 ∷ Ping everybody p0 ∷ Stop d1 ∷ Pong p0 p1 ∷ Count p1 p0 ∷ Cut d0 p0 ∷ Cut d1 p0 ∷ Cut d0 p1 ∷ Cut d1 p1 ∷
    Begin 128 (op (act.Get (113 ∷ 49 ∷ []))) ∷ Send 128 d1 ∷ Begin 1 (op (act.Set (113 ∷ 49 ∷ []) 0 (pos 0) (49 ∷ 49 ∷ []))) ∷ Send 1 d1 ∷
    Begin 0 (op (act.Append (113 ∷ 51 ∷ []) (50 ∷ []))) ∷ Send 0 d1 ∷ Say p0 ∷ Hear p0 p1 ∷ Pong p0 d0 ∷ Stop d0 ∷ Say p1 ∷ Flush p1 ∷ Hear p1 p0 ∷
    Permit p0 ∷ Take d0 p0 ∷ Show 129 0 ∷ Begin 129 (op (act.Get (113 ∷ 51 ∷ []))) ∷ Send 129 d1 ∷ Take d1 p0 ∷ GiveUp 128 ∷ GiveUp 129 ∷ Receive p0 p1 ∷
    Permit p1 ∷ Receive p1 p0 ∷ Send 128 p0 ∷ Read p0 p0 ∷ Treat p0 0 ∷ Learn p0 p0 ∷ Ping everybody p0 ∷ Show 128 1 ∷ Receive p0 p1 ∷ Permit p1 ∷ Pong p0 p1 ∷
    Permit p1 ∷ []

abbrev pub BothHeadsFail : Type 0
BothHeadsFail = ScheduleRow (small 2 2) both_heads_fail_actions
    (says.Reply reply.Miss ∷ says.Done ∷ says.Done ∷ says.Done ∷ says.Done ∷ says.Done ∷ says.Lost ∷ says.Lost ∷ says.Done ∷ says.Done ∷
    says.Reply reply.Miss ∷ says.Done ∷ [])
    ((129, says.Reply reply.Miss) ∷ (128, says.Reply reply.Miss) ∷ [])
    (d0 ∷ d1 ∷ [])

-- Members are condemned that live, by words that differ from member to member.
abbrev pub nobody_is_dead_actions : List Action
nobody_is_dead_actions =
    Begin 51 (op (act.Incr (113 ∷ 50 ∷ []) 7)) ∷ Send 51 d2 ∷ Read d1 d2 ∷ Treat d2 0 ∷ Begin 204 (op (act.Append (113 ∷ 50 ∷ []) (50 ∷ []))) ∷
    Send 204 d2 ∷ Read p1 d2 ∷ Treat d2 0 ∷ Learn d2 d1 ∷ Ping everybody d1
    ∷ Begin 154 (op (act.Incr (113 ∷ 56 ∷ []) 7)) ∷ Send 154 d0 ∷ Pong d1 p1 ∷ Read p0 d0 ∷
    Begin 205 (op (act.Get (113 ∷ 48 ∷ []))) ∷ Send 205 d1 ∷ Begin 153 (op (act.Set (113 ∷ 52 ∷ []) 5 (pos 0) (50 ∷ []))) ∷ Send 153 d2 ∷
    Begin 52 (op (act.Incr (113 ∷ 55 ∷ []) 7)) ∷ Send 52 d2 ∷ Pong d1 d0 ∷ Read p0 d2 ∷ Treat d2 0 ∷ Count d0 d1 ∷ Count p1 d1 ∷ Show 51 0 ∷
    Begin 103 (op (act.Set (113 ∷ 54 ∷ []) 5 (pos 0) (48 ∷ 50 ∷ 48 ∷ []))) ∷ Send 103 d0 ∷ Read d2 d0 ∷ Pong d1 d2 ∷
    Begin 51 (op (act.Set (113 ∷ 54 ∷ []) 5 (pos 0) (49 ∷ 50 ∷ 48 ∷ []))) ∷ Send 51 d0 ∷ Count d2 d1 ∷ Begin 102 (op (act.Delete (113 ∷ 56 ∷ []))) ∷
    Send 102 d0 ∷ Pong d1 p0 ∷ Read d1 d2 ∷ Read d2 d0 ∷ Read d1 d0 ∷ Count p0 d1 ∷ Receive d2 p0 ∷ Read p1 d1 ∷ Treat d1 0 ∷ Receive p0 d2 ∷
    Learn d1 p1 ∷ Ping everybody p1 ∷ Pong p1 d1 ∷ Count d1 p1 ∷ Pong p1 d0 ∷ Count d0 p1 ∷ Show 205 0 ∷ Pong p1 d2 ∷ Pong p1 p0 ∷ Count p0 p1 ∷
    Begin 0 (op (act.Get (113 ∷ 53 ∷ []))) ∷ Send 0 d1 ∷ Cut d1 p0 ∷ Cut d2 p0 ∷ Read d0 d1 ∷ Treat d1 0 ∷ Learn d1 d0 ∷ Ping everybody d0 ∷ Pong d0 p0 ∷
    Count p0 d0 ∷ Pong d0 p1 ∷ Say p0 ∷ Hear p0 p1 ∷ Cut d1 p1 ∷ Cut d2 p1 ∷ Hear p0 d0 ∷ Cut d1 d0 ∷ Cut d2 d0 ∷ Cut d2 d1 ∷ Say p1 ∷ Say d0 ∷
    Hear d0 p1 ∷ Begin 205 (op (act.Set (113 ∷ 50 ∷ []) 0 (pos 0) (49 ∷ 48 ∷ []))) ∷ Send 205 d2 ∷ Count p1 d0 ∷ Show 0 0 ∷ Hear p1 p0 ∷ Hear d0 p0 ∷
    Pong d0 d1 ∷ Begin 1 (op (act.Incr (113 ∷ 52 ∷ []) 1)) ∷ Send 1 d2 ∷ Hear p1 d0 ∷ Say d1 ∷ Permit p0 ∷ Take d1 p0 ∷ Take d2 p0 ∷ GiveUp 153 ∷
    Receive p0 p1 ∷ Permit p1 ∷ Take d1 p1 ∷ Take d2 p1 ∷ GiveUp 204 ∷ GiveUp 205 ∷ Receive p0 p1 ∷ Receive p1 p0 ∷ Permit d0 ∷ Take d1 d0 ∷ Take d2 d0 ∷
    GiveUp 1 ∷ Receive p1 p0 ∷ Treat d2 0 ∷ Send 1 p0 ∷ Read d0 p0 ∷ Treat p0 0 ∷ Learn p0 d0 ∷ Send 204 p0 ∷ Read p1 p0 ∷ Treat p0 0 ∷ Learn p0 p1 ∷
    Send 205 p0 ∷ Read p1 p0 ∷ Treat p0 0 ∷ []

abbrev pub NobodyIsDead : Type 0
NobodyIsDead = ScheduleRow (small 3 2) nobody_is_dead_actions
    (says.Reply reply.NotFound ∷ says.Reply reply.NotStored ∷ says.Ticket 1 ∷ says.Done ∷ says.Reply reply.Miss ∷ says.Done ∷ says.Reply reply.Miss ∷
    says.Done ∷ says.Done ∷ says.Done ∷ says.Done ∷ says.Done ∷ says.Done ∷ says.Done ∷ says.Lost ∷ says.Done ∷ says.Done ∷ says.Done ∷ says.Done ∷
    says.Lost ∷ says.Done ∷ says.Gone ∷ says.Gone ∷ says.Gone ∷ [])
    ((51, says.Reply reply.NotFound) ∷ (205, says.Reply reply.Miss) ∷ (0, says.Reply reply.Miss) ∷ [])
    (d1 ∷ d2 ∷ [])

-- Heads that live are condemned, in a group with more data than parity processes.
abbrev pub heads_are_condemned_actions : List Action
heads_are_condemned_actions =
    Begin 1 (op (act.Get (113 ∷ 49 ∷ []))) ∷ Send 1 d1 ∷ Begin 170 (op (act.Set (113 ∷ 49 ∷ []) 0 (pos 0) (51 ∷ 50 ∷ 48 ∷ []))) ∷ Send 170 d1 ∷
    Read p0 d1 ∷ Treat d1 0 ∷ Read d0 d1 ∷ Treat d1 0 ∷ Begin 171 (op (act.Set (113 ∷ 50 ∷ []) 0 (pos 0) (51 ∷ 50 ∷ 50 ∷ []))) ∷ Send 171 d0 ∷
    Learn d1 d0 ∷ Ping everybody d0 ∷ Begin 85 (op (act.Set (113 ∷ 50 ∷ []) 5 (pos 0) (48 ∷ []))) ∷ Send 85 d0 ∷ Pong d0 d1 ∷ Read d1 d0 ∷ Treat d0 0 ∷
    Read p0 d0 ∷ Treat d0 0 ∷ Pong d0 p0 ∷ Receive d0 p0 ∷ Begin 0 (op (act.Append (113 ∷ 50 ∷ []) (50 ∷ []))) ∷ Send 0 d0 ∷ Read d0 d0 ∷ Treat d0 0 ∷
    Learn d0 d0 ∷ Learn d0 p0 ∷ Count d1 d0 ∷ Show 1 0 ∷ Begin 86 (op (act.Set (113 ∷ 48 ∷ []) 5 (pos 0) (50 ∷ 49 ∷ 49 ∷ []))) ∷ Send 86 d0 ∷
    Send 171 d0 ∷ Read d1 d0 ∷ Treat d0 0 ∷ Receive d0 p0 ∷ Begin 1 (op (act.Append (113 ∷ 48 ∷ []) (50 ∷ []))) ∷ Send 1 d0 ∷ Read d0 d0 ∷ Treat d0 0 ∷
    Learn d0 d0 ∷ Count p0 d0 ∷ Receive p0 d0 ∷ Collect 85 0 d0 ∷ Cut d0 d1 ∷ Say d1 ∷ Receive d1 p0 ∷ Send 0 d0 ∷ Read d0 d0 ∷ Treat d0 0 ∷
    Receive p0 d1 ∷ Collect 170 0 d1 ∷ Receive d0 p0 ∷ Cut d0 p0 ∷ Read p0 d0 ∷ Treat d0 0 ∷ Receive p0 d0 ∷ Collect 86 0 d0 ∷ Say p0 ∷ Hear d1 p0 ∷
    Permit p0 ∷ Take d0 p0 ∷ GiveUp 171 ∷ Learn d1 p0 ∷ Ping everybody p0 ∷ Show 170 0 ∷ Receive p0 d0 ∷ Collect 0 1 d0
    ∷ Learn d0 d0 ∷ Ping everybody d0 ∷ Send 171 p0 ∷
    Read p0 p0 ∷ Treat p0 0 ∷ Learn p0 p0 ∷ Hear p0 d1 ∷ Permit d1 ∷ Take d0 d1 ∷ GiveUp 85 ∷ GiveUp 86 ∷ Send 1 d0 ∷ Read d0 d0 ∷ Treat d0 0 ∷
    Send 171 p0 ∷ Read p0 p0 ∷ Treat p0 0 ∷ Learn p0 p0 ∷ Pong p0 d1 ∷ Send 86 p0 ∷ Receive p0 d1 ∷ Count d1 p0 ∷ Read d1 p0 ∷ Treat p0 0 ∷
    Begin 170 (op (act.Set (113 ∷ 50 ∷ []) 5 (pos 0) (51 ∷ []))) ∷ Send 170 p0 ∷ Read p0 p0 ∷ Treat p0 0 ∷ Learn p0 p0 ∷ Send 85 p0 ∷ Flush p0 ∷
    Flush d0 ∷ Receive d1 p0 ∷ Receive d1 p0 ∷ Read d1 p0 ∷ Treat p0 0 ∷ Learn p0 d1 ∷ Ping everybody d1 ∷ Show 86 0 ∷
    Begin 86 (op (act.Set (113 ∷ 48 ∷ []) 5 (pos 0) (50 ∷ []))) ∷ Send 86 p0 ∷ Learn p0 d1 ∷ Ping everybody d1 ∷ Show 85 1 ∷
    Begin 85 (op (act.Delete (113 ∷ 51 ∷ []))) ∷ Send 85 d1 ∷ Read d1 d1 ∷ Treat d1 0 ∷ Learn d1 d1 ∷ Ping everybody d1 ∷ Show 85 2 ∷ Pong d1 p0 ∷ Count p0 d1 ∷
    Read d1 p0 ∷ Treat p0 0 ∷ Pong d1 p0 ∷ Begin 85 (op (act.Append (113 ∷ 51 ∷ []) (50 ∷ []))) ∷ Send 85 d1 ∷ Read d1 d1 ∷ Treat d1 0 ∷ Learn d1 d1 ∷
    Ping everybody d1 ∷ Show 85 3 ∷ Send 170 p0 ∷ Read p0 p0 ∷ Treat p0 0 ∷ Learn p0 p0 ∷ Ping everybody p0 ∷ Show 170 1
    ∷ Pong d1 p0 ∷ Pong d1 p0 ∷ Learn p0 d1 ∷ Ping everybody d1 ∷
    Show 86 4 ∷ Begin 86 (op (act.Set (113 ∷ 48 ∷ []) 0 (pos 0) (51 ∷ 49 ∷ []))) ∷ Send 86 p0 ∷ Pong d1 p0 ∷ Begin 85 (op (act.Delete (113 ∷ 51 ∷ []))) ∷
    Send 85 d1 ∷ Read d1 d1 ∷ Treat d1 0 ∷ Learn d1 d1 ∷ Ping everybody d1 ∷ Show 85 5
    ∷ Begin 170 (op (act.Set (113 ∷ 49 ∷ []) 0 (pos 0) (48 ∷ 51 ∷ 50 ∷ []))) ∷
    Send 170 d1 ∷ Count p0 d1 ∷ Read d1 p0 ∷ Treat p0 0 ∷ Pong p0 d1 ∷ Count p0 d1 ∷ Flush p0 ∷ Pong d1 p0 ∷ []

abbrev pub HeadsAreCondemned : Type 0
HeadsAreCondemned = ScheduleRow (small 2 1) heads_are_condemned_actions
    (says.Ticket 1 ∷ says.Reply reply.Miss ∷ says.Ticket 1 ∷ says.Retry (cause.Pending (partition 0) 1) ∷ says.Done ∷
    says.Retry (cause.Pending (partition 0) 1) ∷ says.Ticket 2 ∷ says.Done ∷ says.Retry (cause.Pending (partition 0) 2) ∷ says.Done ∷
    says.Reply reply.Stored ∷ says.Done ∷ says.Ticket 3 ∷ says.Done ∷ says.Reply reply.Stored ∷ says.Done ∷ says.Retry (cause.Pending (partition 0) 3) ∷
    says.Done ∷ says.Reply reply.Stored ∷ says.Done ∷ says.Done ∷ says.Gone ∷ says.Done ∷ says.Retry (cause.Block 0) ∷ says.Done ∷
    says.Reply reply.Stored ∷ says.Retry (cause.Block 0) ∷ says.Done ∷ says.Done ∷ says.Done ∷ says.Reply reply.Stored ∷ says.Reply reply.NotFound ∷
    says.Reply reply.Stored ∷ says.Reply reply.NotStored ∷ says.Reply reply.Stored ∷ says.Reply reply.NotFound ∷ says.Reply reply.Stored ∷ says.Done ∷ [])
    ((1, says.Reply reply.Miss) ∷ (170, says.Reply reply.Stored) ∷ (86, says.Reply reply.Stored) ∷ (85, says.Reply reply.Stored) ∷
    (85, says.Reply reply.NotFound) ∷ (85, says.Reply reply.NotStored) ∷ (170, says.Reply reply.Stored) ∷ (86, says.Reply reply.Stored) ∷
    (85, says.Reply reply.NotFound) ∷ [])
    (d0 ∷ [])
