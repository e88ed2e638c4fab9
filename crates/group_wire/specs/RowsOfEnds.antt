-- Schedules in which programs end, or one process fails after another. Their answers are the model's.
use Rattle.std.specs.Prelude.{List, [], ◌∷◌, pos}
use Rattle.memc_table.specs.declared.act.Act.TheVariants as act
use Rattle.memc_table.specs.declared.reply.Reply.TheVariants as reply
use Rattle.group_calls.specs.declared.event.Answer.TheVariants as says
use Rattle.group_calls.specs.declared.event.Cause.TheVariants as cause
use Rattle.group_run.specs.Heading.{partition}
use Rattle.group_wire.specs.Actions.{Action, Begin, Send, Read, Treat, Collect, Flush, Learn, Receive, GiveUp, Cut, Say}
use Rattle.group_wire.specs.Actions.{Hear, Permit, Take, Ping, Pong, Count, Show, Stop}
use Rattle.group_wire.specs.Rows.{ScheduleRow, d0, d1, op, p0, p1, small}
use Rattle.group_wire.specs.Sets.{everybody}

-- Two fail, one after the other.
abbrev pub two_fail_one_by_one_actions : List Action
two_fail_one_by_one_actions =
    Flush p0 ∷ Begin 171 (op (act.Set (113 ∷ 48 ∷ []) 5 (pos 0) (48 ∷ []))) ∷ Send 171 d0 ∷ Read p1 d0 ∷ Treat d0 0 ∷ Receive d0 p0 ∷
    Begin 0 (op (act.Set (113 ∷ 49 ∷ []) 0 (pos 0) (48 ∷ 49 ∷ []))) ∷ Send 0 d0 ∷ Read d0 d0 ∷ Treat d0 0 ∷ Receive d0 p1 ∷ Receive d0 p0 ∷
    Begin 85 (op (act.Set (113 ∷ 49 ∷ []) 5 (pos 0) (51 ∷ 48 ∷ []))) ∷ Send 85 d0 ∷ Receive p1 d0 ∷ Begin 170 (op (act.Incr (113 ∷ 49 ∷ []) 1)) ∷
    Send 170 d0 ∷ Receive p0 d0 ∷ Collect 171 0 d0 ∷ Receive p0 d0 ∷ Receive d0 p1 ∷ Read p1 d0 ∷ Treat d0 0 ∷ Learn d0 p1 ∷ Ping everybody p1 ∷ Cut d0 p1 ∷
    Pong p1 p0 ∷ Count p0 p1 ∷ Cut d0 p0 ∷ Say p0 ∷ Receive p1 d0 ∷ Collect 0 0 d0 ∷ Learn d0 d0 ∷ Ping everybody d0 ∷ Hear p0 p1 ∷
    Begin 86 (op (act.Set (113 ∷ 48 ∷ []) 0 (pos 0) (48 ∷ 49 ∷ 51 ∷ []))) ∷ Send 86 d0 ∷ Pong p1 d0 ∷ Read p0 d0 ∷ Treat d0 0 ∷
    Begin 1 (op (act.Set (113 ∷ 49 ∷ []) 5 (pos 0) (49 ∷ 51 ∷ 50 ∷ []))) ∷ Send 1 d0 ∷ Read d0 d0 ∷ Treat d0 0 ∷ Learn d0 d0 ∷ Cut p1 p0 ∷ Flush d0 ∷
    Send 1 d0 ∷ Read d0 d0 ∷ Treat d0 0 ∷ Learn d0 d0 ∷ Say p0 ∷ Say p1 ∷ Permit p1 ∷ Take d0 p1 ∷ GiveUp 170 ∷ Show 171 0 ∷ Send 1 d0 ∷ Read d0 d0 ∷
    Treat d0 0 ∷ Learn d0 d0 ∷ Send 170 p0 ∷ Permit p0 ∷ Take d0 p0 ∷ Take p1 p0 ∷ GiveUp 85 ∷ GiveUp 86 ∷ Send 86 p0 ∷ Read p0 p0 ∷ Treat p0 0 ∷
    Learn p0 p0 ∷ Send 86 p0 ∷ Read p0 p0 ∷ Treat p0 0 ∷ Learn p0 p0 ∷ Begin 171 (op (act.Set (113 ∷ 48 ∷ []) 0 (pos 0) (50 ∷ 49 ∷ []))) ∷ Send 171 p0 ∷
    Send 85 p0 ∷ Read p0 p0 ∷ Treat p0 0 ∷ Learn p0 p0 ∷ []

abbrev pub TwoFailOneByOne : Type 0
TwoFailOneByOne = ScheduleRow (small 1 2) two_fail_one_by_one_actions
    (says.Done ∷ says.Ticket 1 ∷ says.Done ∷ says.Ticket 2 ∷ says.Done ∷ says.Done ∷ says.Done ∷ says.Done ∷ says.Reply reply.Stored ∷ says.Done ∷
    says.Done ∷ says.Retry (cause.Pending (partition 0) 2) ∷ says.Done ∷ says.Reply reply.Stored ∷ says.Ticket 3 ∷
    says.Retry (cause.Pending (partition 0) 3) ∷ says.Done ∷ says.Retry (cause.Pending (partition 0) 3) ∷ says.Done ∷ says.Done ∷ says.Done ∷ says.Done ∷
    says.Done ∷ says.Lost ∷ says.Gone ∷ says.Retry (cause.Block 0) ∷ says.Gone ∷ [])
    ((171, says.Reply reply.Stored) ∷ [])
    (d0 ∷ p1 ∷ [])

-- A program ends, and its member is failed later.
abbrev pub programs_end_actions : List Action
programs_end_actions =
    Begin 129 (op (act.Set (113 ∷ 48 ∷ []) 0 (pos 0) (49 ∷ []))) ∷ Send 129 d0 ∷ Begin 128 (op (act.Set (113 ∷ 49 ∷ []) 0 (pos 0) (51 ∷ []))) ∷
    Send 128 d0 ∷ Begin 0 (op (act.Set (113 ∷ 49 ∷ []) 0 (pos 0) (48 ∷ 50 ∷ []))) ∷ Send 0 d0 ∷ Read d0 d0 ∷ Treat d0 0 ∷ Receive d0 p0 ∷ Stop p0 ∷
    Begin 1 (op (act.Set (113 ∷ 48 ∷ []) 0 (pos 0) (50 ∷ 51 ∷ 50 ∷ []))) ∷ Send 1 d0 ∷ Read d0 d0 ∷ Treat d0 0 ∷ Read p0 d0 ∷ Treat d0 0 ∷ Read p0 d0 ∷
    Treat d0 0 ∷ Receive p0 d0 ∷ Collect 0 0 d0 ∷ Learn d0 d0 ∷ Ping everybody d0 ∷ Flush d0 ∷ Cut p0 d0 ∷ Say d0 ∷ Permit d0 ∷ Take p0 d0 ∷ Collect 1 0 d0 ∷
    Learn d0 d0 ∷ Ping everybody d0 ∷ Show 0 0 ∷ Show 1 1 ∷ Begin 0 (op (act.Get (113 ∷ 49 ∷ []))) ∷ Send 0 d0
    ∷ Read d0 d0 ∷ Treat d0 0 ∷ Learn d0 d0 ∷ Ping everybody d0 ∷
    Show 0 2 ∷ Begin 1 (op (act.Incr (113 ∷ 48 ∷ []) 7)) ∷ Send 1 d0 ∷ Read d0 d0 ∷ Treat d0 0 ∷ Learn d0 d0 ∷ Ping everybody d0 ∷ Show 1 3 ∷
    Begin 0 (op (act.Set (113 ∷ 48 ∷ []) 0 (pos 0) (49 ∷ []))) ∷ Send 0 d0 ∷ Read d0 d0 ∷ Treat d0 0 ∷ Learn d0 d0 ∷ Ping everybody d0 ∷ Show 0 4 ∷
    Begin 1 (op (act.Get (113 ∷ 49 ∷ []))) ∷ Send 1 d0 ∷ Read d0 d0 ∷ Treat d0 0 ∷ Learn d0 d0 ∷ Ping everybody d0 ∷ Show 1 5 ∷
    Begin 0 (op (act.Set (113 ∷ 49 ∷ []) 5 (pos 0) (49 ∷ 49 ∷ []))) ∷ Send 0 d0 ∷ Read d0 d0 ∷ Treat d0 0 ∷ Learn d0 d0 ∷ Ping everybody d0 ∷ Show 0 6 ∷
    Begin 1 (op (act.Incr (113 ∷ 48 ∷ []) 7)) ∷ Send 1 d0 ∷ Read d0 d0 ∷ Treat d0 0 ∷ Learn d0 d0 ∷ Ping everybody d0 ∷ Show 1 7 ∷
    Begin 0 (op (act.Get (113 ∷ 48 ∷ []))) ∷ Send 0 d0 ∷ Read d0 d0 ∷ Treat d0 0 ∷ Learn d0 d0 ∷ Ping everybody d0 ∷ Show 0 8 ∷ []

abbrev pub ProgramsEnd : Type 0
ProgramsEnd = ScheduleRow (small 1 1) programs_end_actions
    (says.Ticket 1 ∷ says.Done ∷ says.Ticket 2 ∷ says.Retry (cause.Pending (partition 0) 2) ∷ says.Retry (cause.Pending (partition 0) 1) ∷ says.Done ∷
    says.Reply reply.Stored ∷ says.Done ∷ says.Done ∷ says.Done ∷ says.Reply reply.Stored ∷
    says.Reply (reply.Value (record { flags = 0; cas = 1; value = (48 ∷ 50 ∷ []) })) ∷ says.Reply (reply.Number 239) ∷ says.Reply reply.Stored ∷
    says.Reply (reply.Value (record { flags = 0; cas = 1; value = (48 ∷ 50 ∷ []) })) ∷ says.Reply reply.Stored ∷ says.Reply (reply.Number 8) ∷
    says.Reply (reply.Value (record { flags = 0; cas = 6; value = (56 ∷ []) })) ∷ [])
    ((0, says.Reply reply.Stored) ∷ (1, says.Reply reply.Stored) ∷ (0, says.Reply (reply.Value (record { flags = 0; cas = 1; value = (48 ∷ 50 ∷ []) }))) ∷
    (1, says.Reply (reply.Number 239)) ∷ (0, says.Reply reply.Stored) ∷
    (1, says.Reply (reply.Value (record { flags = 0; cas = 1; value = (48 ∷ 50 ∷ []) }))) ∷ (0, says.Reply reply.Stored) ∷
    (1, says.Reply (reply.Number 8)) ∷ (0, says.Reply (reply.Value (record { flags = 0; cas = 6; value = (56 ∷ []) }))) ∷ [])
    (p0 ∷ [])

-- A request is treated whose gateway has failed.
abbrev pub kept_of_a_failed_gateway_actions : List Action
kept_of_a_failed_gateway_actions =
    Begin 85 (op (act.Set (113 ∷ 51 ∷ []) 0 (pos 0) (51 ∷ 50 ∷ []))) ∷ Send 85 d1 ∷ Read d1 d1 ∷ Treat d1 0 ∷
    Begin 171 (op (act.Delete (113 ∷ 50 ∷ []))) ∷ Send 171 d0 ∷ Begin 0 (op (act.Set (113 ∷ 53 ∷ []) 0 (pos 0) (49 ∷ []))) ∷ Send 0 d1 ∷ Read p0 d0 ∷
    Begin 86 (op (act.Append (113 ∷ 53 ∷ []) (49 ∷ []))) ∷ Send 86 d1 ∷ Read d1 d1 ∷ Treat d1 0 ∷ Learn d1 d1 ∷ Ping everybody d1 ∷
    Begin 170 (op (act.Get (113 ∷ 50 ∷ []))) ∷ Send 170 d0 ∷ Read p0 d0 ∷ Read d0 d1 ∷ Pong d1 d0 ∷ Count d0 d1 ∷ Show 86 0 ∷
    Begin 1 (op (act.Append (113 ∷ 53 ∷ []) (49 ∷ []))) ∷ Send 1 d1 ∷ Receive d1 p0 ∷ Cut d0 p0 ∷ Read d0 d1 ∷ Receive p0 d1 ∷ Collect 85 0 d1 ∷
    Learn d1 d1 ∷ Ping everybody d1 ∷ Pong d1 d0 ∷ Count d0 d1 ∷ Show 85 1 ∷ Pong d1 p0 ∷ Begin 86 (op (act.Get (113 ∷ 53 ∷ []))) ∷ Send 86 d1 ∷ Read d1 d1 ∷
    Treat d1 2 ∷ Learn d1 d1 ∷ Ping everybody d1 ∷ Pong d1 d0 ∷ Begin 85 (op (act.Get (113 ∷ 51 ∷ []))) ∷ Send 85 d1 ∷ Read d1 d1 ∷ Treat d1 2 ∷ Learn d1 d1 ∷
    Ping everybody d1 ∷ Pong d1 d0 ∷ Treat d0 1 ∷ Count p0 d1 ∷ Count d0 d1 ∷ Show 86 2 ∷ Count d0 d1 ∷ Show 85 3 ∷ Pong d1 p0 ∷ Pong d1 p0 ∷ Pong d1 p0 ∷
    Count p0 d1 ∷ Begin 85 (op (act.Set (113 ∷ 50 ∷ []) 5 (pos 0) (50 ∷ 50 ∷ 48 ∷ []))) ∷ Send 85 d0 ∷ Read d1 d0 ∷ Treat d0 1 ∷
    Begin 86 (op (act.Get (113 ∷ 52 ∷ []))) ∷ Send 86 d0 ∷ Count p0 d1 ∷ Say p0 ∷ Count p0 d1 ∷ Hear p0 d1 ∷ Cut d0 d1 ∷ Read d1 d0 ∷ Treat d0 1 ∷
    Say d1 ∷ Hear d1 p0 ∷ Permit p0 ∷ Take d0 p0 ∷ GiveUp 170 ∷ GiveUp 171 ∷ Send 170 p0 ∷ Read p0 p0 ∷ Treat p0 0
    ∷ Learn p0 p0 ∷ Ping everybody p0 ∷ Show 170 0 ∷
    Pong p0 d1 ∷ Permit d1 ∷ Take d0 d1 ∷ GiveUp 85 ∷ GiveUp 86 ∷ Count d1 p0 ∷ Treat d1 0 ∷ []

abbrev pub KeptOfAFailedGateway : Type 0
KeptOfAFailedGateway = ScheduleRow (small 2 1) kept_of_a_failed_gateway_actions
    (says.Ticket 1 ∷ says.Reply reply.NotStored ∷ says.Done ∷ says.Done ∷ says.Reply reply.Stored ∷ says.Reply reply.Miss ∷
    says.Reply (reply.Value (record { flags = 0; cas = 1; value = (51 ∷ 50 ∷ []) })) ∷ says.Reply reply.Miss ∷ says.Ticket 1 ∷ says.Reply reply.Miss ∷
    says.Done ∷ says.Done ∷ says.Lost ∷ says.Reply reply.Miss ∷ says.Done ∷ says.Ticket 2 ∷ [])
    ((86, says.Reply reply.NotStored) ∷ (85, says.Reply reply.Stored) ∷ (86, says.Reply reply.Miss) ∷
    (85, says.Reply (reply.Value (record { flags = 0; cas = 1; value = (51 ∷ 50 ∷ []) }))) ∷ (170, says.Reply reply.Miss) ∷ [])
    (d0 ∷ [])
