-- Schedules of calls, of one failure, and of traces. Their answers are the model's.
use Rattle.std.specs.Prelude.{List, [], ◌∷◌, pos}
use Rattle.memc_table.specs.declared.act.Act.TheVariants as act
use Rattle.memc_table.specs.declared.reply.Reply.TheVariants as reply
use Rattle.group_calls.specs.declared.event.Answer.TheVariants as says
use Rattle.group_calls.specs.declared.event.Cause.TheVariants as cause
use Rattle.group_run.specs.Heading.{partition}
use Rattle.group_wire.specs.Actions.{Action, Begin, Send, Read, Treat, Collect, Flush, Learn, Receive, GiveUp, Cut, Say}
use Rattle.group_wire.specs.Actions.{Hear, Permit, Take, Ping, Pong, Count, Show, Stop}
use Rattle.group_wire.specs.Rows.{ScheduleRow, d0, d1, op, p0, p1, small}
use Rattle.group_wire.specs.Sets.{everybody}

-- Nobody fails: calls at each gateway, each shown after its pongs.
abbrev pub nobody_fails_actions : List Action
nobody_fails_actions =
    Begin 1 (op (act.Append (113 ∷ 49 ∷ []) (50 ∷ []))) ∷ Send 1 d1 ∷ Begin 170 (op (act.Get (113 ∷ 48 ∷ []))) ∷ Send 170 d0 ∷ Read p0 d0 ∷ Treat d0 0 ∷
    Read d0 d1 ∷ Treat d1 0 ∷ Learn d1 d0 ∷ Ping everybody d0 ∷ Learn d0 p0 ∷ Ping everybody p0 ∷ Pong d0 d1
    ∷ Pong p0 d1 ∷ Count d1 p0 ∷ Show 170 0 ∷ Count d1 d0 ∷
    Show 1 0 ∷ Pong d0 p0 ∷ Pong p0 d0 ∷ Begin 170 (op (act.Delete (113 ∷ 49 ∷ []))) ∷ Send 170 d1 ∷ Count d0 p0 ∷ Read p0 d1 ∷ Treat d1 0 ∷
    Begin 1 (op (act.Get (113 ∷ 48 ∷ []))) ∷ Send 1 d0 ∷ Read d0 d0 ∷ Treat d0 0 ∷ Learn d0 d0 ∷ Ping everybody d0 ∷ Begin 85 (op (act.Get (113 ∷ 49 ∷ []))) ∷
    Send 85 d1 ∷ Read d1 d1 ∷ Treat d1 0 ∷ Learn d1 d1 ∷ Ping everybody d1 ∷ Count p0 d0 ∷ Learn d1 p0
    ∷ Ping everybody p0 ∷ Pong d1 p0 ∷ Pong p0 d0 ∷ Pong d0 p0 ∷
    Count d0 p0 ∷ Show 170 1 ∷ Pong p0 d1 ∷ Count d1 p0 ∷ Pong d1 d0 ∷ Count p0 d1 ∷ Show 85 0 ∷ Count p0 d0 ∷ Show 1 1 ∷ Pong d0 d1 ∷ Count d0 d1 ∷ []

abbrev pub NobodyFails : Type 0
NobodyFails = ScheduleRow (small 2 1) nobody_fails_actions
    (says.Reply reply.Miss ∷ says.Reply reply.NotStored ∷ says.Reply reply.NotFound ∷ says.Reply reply.Miss ∷ says.Reply reply.Miss ∷ [])
    ((170, says.Reply reply.Miss) ∷ (1, says.Reply reply.NotStored) ∷ (170, says.Reply reply.NotFound) ∷ (85, says.Reply reply.Miss) ∷
    (1, says.Reply reply.Miss) ∷ [])
    ([])

-- The same with two parity processes, whose pongs are both waited for.
abbrev pub two_parities_nobody_fails_actions : List Action
two_parities_nobody_fails_actions =
    Begin 1 (op (act.Append (113 ∷ 48 ∷ []) (50 ∷ []))) ∷ Send 1 d0 ∷ Read d0 d0 ∷ Treat d0 0 ∷ Learn d0 d0 ∷ Ping everybody d0 ∷
    Begin 170 (op (act.Get (113 ∷ 48 ∷ []))) ∷ Send 170 d0 ∷ Read p1 d0 ∷ Treat d0 0 ∷ Pong d0 p0 ∷ Count p0 d0 ∷ Pong d0 p1 ∷ Learn d0 p1 ∷ Ping everybody p1 ∷
    Pong p1 p0 ∷ Count p1 d0 ∷ Show 1 0 ∷ Pong p1 d0 ∷ Count d0 p1 ∷ Count p0 p1 ∷ Show 170 0 ∷ Begin 170 (op (act.Delete (113 ∷ 48 ∷ []))) ∷
    Send 170 d0 ∷ Read p1 d0 ∷ Treat d0 0 ∷ Learn d0 p1 ∷ Ping everybody p1 ∷ Pong p1 p0 ∷ Pong p1 d0 ∷
    Begin 171 (op (act.Set (113 ∷ 48 ∷ []) 5 (pos 0) (51 ∷ 49 ∷ 50 ∷ []))) ∷ Send 171 d0 ∷ Count p0 p1 ∷ Count d0 p1 ∷ Show 170 1 ∷ Read p1 d0 ∷ []

abbrev pub TwoParitiesNobodyFails : Type 0
TwoParitiesNobodyFails = ScheduleRow (small 1 2) two_parities_nobody_fails_actions
    (says.Reply reply.NotStored ∷ says.Reply reply.Miss ∷ says.Reply reply.NotFound ∷ [])
    ((1, says.Reply reply.NotStored) ∷ (170, says.Reply reply.Miss) ∷ (170, says.Reply reply.NotFound) ∷ [])
    ([])

-- A data process fails while it has updates under way; the parity process heads its partition.
abbrev pub a_head_fails_actions : List Action
a_head_fails_actions =
    Begin 0 (op (act.Incr (113 ∷ 48 ∷ []) 1)) ∷ Send 0 d0 ∷ Read d0 d0 ∷ Treat d0 0 ∷ Learn d0 d0 ∷ Ping everybody d0
    ∷ Begin 129 (op (act.Get (113 ∷ 50 ∷ []))) ∷
    Send 129 d0 ∷ Pong d0 p0 ∷ Flush p0 ∷ Read p0 d0 ∷ Treat d0 0 ∷ Count p0 d0 ∷ Show 0 0 ∷ Learn d0 p0 ∷ Ping everybody p0 ∷
    Begin 1 (op (act.Get (113 ∷ 49 ∷ []))) ∷ Send 1 d0 ∷ Read d0 d0 ∷ Treat d0 0 ∷ Learn d0 d0 ∷ Ping everybody d0 ∷ Pong d0 p0 ∷ Pong p0 d0 ∷ Count p0 d0 ∷
    Show 1 1 ∷ Count d0 p0 ∷ Show 129 0 ∷ Begin 129 (op (act.Incr (113 ∷ 48 ∷ []) 1)) ∷ Send 129 d0 ∷ Read p0 d0 ∷ Cut d0 p0 ∷ Say p0 ∷
    Begin 1 (op (act.Set (113 ∷ 50 ∷ []) 0 (pos 0) (50 ∷ 49 ∷ 48 ∷ []))) ∷ Send 1 d0 ∷ Read d0 d0 ∷ Treat d0 1 ∷ Treat d0 0 ∷ Permit p0 ∷ Take d0 p0 ∷
    GiveUp 129 ∷ Send 129 p0 ∷ Read p0 p0 ∷ Treat p0 0 ∷ Learn p0 p0 ∷ Send 129 p0 ∷ Read p0 p0 ∷ Treat p0 0 ∷ Learn p0 p0 ∷ Ping everybody p0 ∷ Show 129 1 ∷
    Begin 128 (op (act.Set (113 ∷ 48 ∷ []) 5 (pos 0) (48 ∷ 51 ∷ []))) ∷ Send 128 p0 ∷ Read p0 p0 ∷ Treat p0 0 ∷ Learn p0 p0 ∷
    Begin 0 (op (act.Set (113 ∷ 48 ∷ []) 5 (pos 0) (50 ∷ 51 ∷ 50 ∷ []))) ∷ Send 0 d0 ∷ Read d0 d0 ∷ Treat d0 0 ∷ Flush d0 ∷ []

abbrev pub AHeadFails : Type 0
AHeadFails = ScheduleRow (small 1 1) a_head_fails_actions
    (says.Reply reply.NotFound ∷ says.Done ∷ says.Reply reply.Miss ∷ says.Reply reply.Miss ∷ says.Ticket 1 ∷ says.Reply reply.NotFound ∷ says.Done ∷
    says.Done ∷ says.Gone ∷ says.Reply reply.NotFound ∷ says.Retry (cause.Block 0) ∷ [])
    ((0, says.Reply reply.NotFound) ∷ (1, says.Reply reply.Miss) ∷ (129, says.Reply reply.Miss) ∷ (129, says.Reply reply.NotFound) ∷ [])
    (d0 ∷ [])

-- A parity process fails, and an update that waited for it is handed out.
abbrev pub a_parity_fails_actions : List Action
a_parity_fails_actions =
    Begin 0 (op (act.Delete (113 ∷ 49 ∷ []))) ∷ Send 0 d0 ∷ Read d0 d0 ∷ Treat d0 0 ∷ Learn d0 d0 ∷ Ping everybody d0 ∷
    Begin 1 (op (act.Set (113 ∷ 48 ∷ []) 0 (pos 0) (50 ∷ 49 ∷ []))) ∷ Send 1 d0 ∷ Read d0 d0 ∷ Treat d0 0 ∷ Pong d0 p0 ∷ Receive d0 p0 ∷ Count p0 d0 ∷
    Show 0 0 ∷ Begin 129 (op (act.Set (113 ∷ 48 ∷ []) 5 (pos 0) (48 ∷ 50 ∷ []))) ∷ Send 129 d0 ∷ Receive p0 d0
    ∷ Collect 1 0 d0 ∷ Learn d0 d0 ∷ Ping everybody d0 ∷
    Pong d0 p0 ∷ Begin 0 (op (act.Set (113 ∷ 49 ∷ []) 5 (pos 0) (49 ∷ 48 ∷ []))) ∷ Send 0 d0 ∷ Read d0 d0 ∷ Treat d0 0 ∷ Receive d0 p0 ∷ Read p0 d0 ∷
    Treat d0 0 ∷ Receive d0 p0 ∷ Begin 128 (op (act.Set (113 ∷ 48 ∷ []) 5 (pos 0) (51 ∷ 50 ∷ []))) ∷ Send 128 d0 ∷ Count p0 d0 ∷ Show 1 1 ∷
    Receive p0 d0 ∷ Collect 0 1 d0 ∷ Learn d0 d0 ∷ Ping everybody d0 ∷ Receive p0 d0 ∷ Collect 129 0 d0 ∷ Read p0 d0 ∷ Treat d0 0 ∷
    Begin 1 (op (act.Set (113 ∷ 48 ∷ []) 5 (pos 0) (48 ∷ []))) ∷ Send 1 d0 ∷ Read d0 d0 ∷ Treat d0 0 ∷ Learn d0 d0 ∷ Pong d0 p0 ∷ Count p0 d0 ∷
    Show 0 2 ∷ Stop p0 ∷ Cut p0 d0 ∷ Say d0 ∷ Permit d0 ∷ Take p0 d0 ∷ Collect 128 0 d0 ∷ Begin 0 (op (act.Get (113 ∷ 49 ∷ []))) ∷ Send 0 d0 ∷
    Read d0 d0 ∷ Treat d0 0 ∷ Learn d0 d0 ∷ Ping everybody d0 ∷ Show 0 3 ∷ Begin 0 (op (act.Set (113 ∷ 49 ∷ []) 0 (pos 0) (50 ∷ 51 ∷ []))) ∷ Send 0 d0 ∷
    Read d0 d0 ∷ Treat d0 0 ∷ Learn d0 d0 ∷ Ping everybody d0 ∷ Show 0 4 ∷ Begin 0 (op (act.Set (113 ∷ 48 ∷ []) 0 (pos 0) (50 ∷ 50 ∷ 51 ∷ []))) ∷ Send 0 d0 ∷
    Read d0 d0 ∷ Treat d0 0 ∷ Learn d0 d0 ∷ Ping everybody d0 ∷ Show 0 5 ∷ Begin 0 (op (act.Get (113 ∷ 48 ∷ []))) ∷ Send 0 d0 ∷ Read d0 d0 ∷ Treat d0 0 ∷
    Learn d0 d0 ∷ Ping everybody d0 ∷ Show 0 6 ∷ Begin 0 (op (act.Delete (113 ∷ 49 ∷ []))) ∷ Send 0 d0 ∷ Read d0 d0
    ∷ Treat d0 0 ∷ Learn d0 d0 ∷ Ping everybody d0 ∷
    Show 0 7 ∷ Send 1 d0 ∷ Read d0 d0 ∷ Treat d0 0 ∷ Learn d0 d0 ∷ Ping everybody d0 ∷ Show 1 8 ∷ []

abbrev pub AParityFails : Type 0
AParityFails = ScheduleRow (small 1 1) a_parity_fails_actions
    (says.Reply reply.NotFound ∷ says.Ticket 1 ∷ says.Done ∷ says.Done ∷ says.Reply reply.Stored ∷ says.Ticket 2 ∷ says.Done ∷ says.Ticket 3 ∷ says.Done ∷
    says.Done ∷ says.Reply reply.Stored ∷ says.Done ∷ says.Reply reply.Stored ∷ says.Ticket 4 ∷ says.Retry (cause.Pending (partition 0) 4) ∷ says.Done ∷
    says.Done ∷ says.Reply reply.Stored ∷ says.Reply (reply.Value (record { flags = 5; cas = 2; value = (49 ∷ 48 ∷ []) })) ∷ says.Reply reply.Stored ∷
    says.Reply reply.Stored ∷ says.Reply (reply.Value (record { flags = 0; cas = 6; value = (50 ∷ 50 ∷ 51 ∷ []) })) ∷ says.Reply reply.Deleted ∷
    says.Reply reply.Stored ∷ [])
    ((0, says.Reply reply.NotFound) ∷ (1, says.Reply reply.Stored) ∷ (0, says.Reply reply.Stored) ∷
    (0, says.Reply (reply.Value (record { flags = 5; cas = 2; value = (49 ∷ 48 ∷ []) }))) ∷ (0, says.Reply reply.Stored) ∷ (0, says.Reply reply.Stored) ∷
    (0, says.Reply (reply.Value (record { flags = 0; cas = 6; value = (50 ∷ 50 ∷ 51 ∷ []) }))) ∷ (0, says.Reply reply.Deleted) ∷
    (1, says.Reply reply.Stored) ∷ [])
    (p0 ∷ [])

-- A change of unknown fate is traced at the next head, and its reply shown.
abbrev pub traced_at_the_next_head_actions : List Action
traced_at_the_next_head_actions =
    Begin 0 (op (act.Set (113 ∷ 48 ∷ []) 0 (pos 0) (48 ∷ []))) ∷ Send 0 d0 ∷ Read d0 d0 ∷ Treat d0 0 ∷ Receive d0 p0 ∷
    Begin 1 (op (act.Append (113 ∷ 49 ∷ []) (49 ∷ []))) ∷ Send 1 d0 ∷ Read d0 d0 ∷ Treat d0 0 ∷ Learn d0 d0 ∷ Ping everybody d0 ∷ Pong d0 p0 ∷ Receive p0 d0 ∷
    Begin 86 (op (act.Set (113 ∷ 50 ∷ []) 5 (pos 0) (48 ∷ []))) ∷ Send 86 d0 ∷ Count p0 d0 ∷
    Begin 170 (op (act.Set (113 ∷ 49 ∷ []) 0 (pos 0) (50 ∷ []))) ∷ Send 170 d0 ∷ Read p1 d0 ∷ Treat d0 0 ∷ Receive d0 p0 ∷
    Begin 171 (op (act.Set (113 ∷ 48 ∷ []) 0 (pos 0) (50 ∷ 51 ∷ 51 ∷ []))) ∷ Send 171 d0 ∷ Flush p1 ∷ Read p0 d0 ∷ Treat d0 0 ∷ Receive p0 d0 ∷
    Cut d0 p0 ∷ Cut d0 p1 ∷ Read p1 d0 ∷ Treat d0 0 ∷ Say p1 ∷ Begin 85 (op (act.Get (113 ∷ 49 ∷ []))) ∷ Send 85 d0 ∷ Say p0 ∷ Hear p1 p0 ∷ Permit p0 ∷
    Take d0 p0 ∷ GiveUp 85 ∷ GiveUp 86 ∷ Hear p0 p1 ∷ Permit p1 ∷ Take d0 p1 ∷ GiveUp 170 ∷ GiveUp 171 ∷ Send 170 p0 ∷ Read p1 p0 ∷ Treat p0 0 ∷
    Send 171 p0 ∷ Send 86 p0 ∷ Read p0 p0 ∷ Treat p0 0 ∷ Learn p0 p0 ∷ Send 86 p0 ∷ Read p0 p0 ∷ Treat p0 0 ∷ Learn p0 p0 ∷ Receive p0 p1 ∷ Learn p0 p1 ∷
    Flush d0 ∷ Read p1 p0 ∷ Treat p0 0 ∷ Send 170 p0 ∷ Send 86 p0 ∷ Read p0 p0 ∷ Treat p0 0 ∷ Learn p0 p0 ∷ Learn p0 p1 ∷ Send 85 p0 ∷ Read p0 p0 ∷
    Treat p0 0 ∷ Learn p0 p0 ∷ Send 86 p0 ∷ Read p0 p0 ∷ Treat p0 0 ∷ Learn p0 p0 ∷ Send 171 p0 ∷ Send 86 p0 ∷ Read p0 p0 ∷ Treat p0 0 ∷ Learn p0 p0 ∷
    Send 85 p0 ∷ Read p0 p0 ∷ Treat p0 0 ∷ Learn p0 p0 ∷ Receive p1 p0 ∷ Flush p1 ∷ Read p1 p0 ∷ Treat p0 0 ∷ Learn p0 p1 ∷ Ping everybody p1 ∷ Read p1 p0 ∷
    Treat p0 0 ∷ Send 85 p0 ∷ Read p0 p0 ∷ Treat p0 0 ∷ Learn p0 p0 ∷ Pong p1 p0 ∷ Learn p0 p1 ∷ Count p0 p1 ∷ Show 170 0 ∷ Send 86 p0 ∷ Read p0 p0 ∷
    Treat p0 0 ∷ Learn p0 p0 ∷ Send 171 p0 ∷ Read p1 p0 ∷ Treat p0 0 ∷ Receive p0 p1 ∷ []

abbrev pub TracedAtTheNextHead : Type 0
TracedAtTheNextHead = ScheduleRow (small 1 2) traced_at_the_next_head_actions
    (says.Ticket 1 ∷ says.Done ∷ says.Reply reply.NotStored ∷ says.Done ∷ says.Ticket 2 ∷ says.Done ∷ says.Done ∷ says.Ticket 3 ∷ says.Done ∷
    says.Retry (cause.Pending (partition 0) 1) ∷ says.Done ∷ says.Done ∷ says.Lost ∷ says.Done ∷ says.NotYet ∷ says.NotYet ∷ says.NotYet ∷ says.Done ∷
    says.NotYet ∷ says.NotYet ∷ says.Retry (cause.Pending (partition 0) 2) ∷ says.NotYet ∷ says.NotYet ∷ says.Retry (cause.Pending (partition 0) 2) ∷
    says.Done ∷ says.Done ∷ says.Reply reply.Stored ∷ says.Gone ∷ says.Retry (cause.Block 0) ∷ says.Gone ∷ says.Ticket 3 ∷ says.Done ∷ [])
    ((170, says.Reply reply.Stored) ∷ [])
    (d0 ∷ [])
