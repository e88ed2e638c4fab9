-- Schedules in which calls are given up, traced and asked again. Their answers are the model's.
use Rattle.std.specs.Prelude.{List, [], ◌∷◌, pos}
use Rattle.memc_table.specs.declared.act.Act.TheVariants as act
use Rattle.memc_table.specs.declared.reply.Reply.TheVariants as reply
use Rattle.group_calls.specs.declared.event.Answer.TheVariants as says
use Rattle.group_calls.specs.declared.event.Cause.TheVariants as cause
use Rattle.group_wire.specs.Actions.{Action, Begin, Send, Read, Treat, Collect, Flush, Learn, Receive, GiveUp, Cut, Say}
use Rattle.group_wire.specs.Actions.{Hear, Permit, Take, Ping, Pong, Count, Show}
use Rattle.group_wire.specs.Rows.{ScheduleRow, d0, d1, op, p0, small}
use Rattle.group_wire.specs.Sets.{everybody}

-- A change that the next head has nothing of is asked again under the next position.
abbrev pub gone_and_asked_again_actions : List Action
gone_and_asked_again_actions =
    Begin 171 (op (act.Incr (113 ∷ 49 ∷ []) 1)) ∷ Send 171 d1 ∷ Begin 85 (op (act.Incr (113 ∷ 52 ∷ []) 7)) ∷ Send 85 d0 ∷ Cut d1 p0 ∷
    Begin 86 (op (act.Set (113 ∷ 48 ∷ []) 0 (pos 0) (48 ∷ []))) ∷ Send 86 d0 ∷ Begin 1 (op (act.Incr (113 ∷ 53 ∷ []) 7)) ∷ Send 1 d1 ∷ Cut d1 d0 ∷
    Say p0 ∷ Begin 170 (op (act.Set (113 ∷ 51 ∷ []) 0 (pos 0) (48 ∷ 51 ∷ []))) ∷ Send 170 d1 ∷ Begin 0 (op (act.Incr (113 ∷ 52 ∷ []) 1)) ∷ Send 0 d0 ∷
    Read d0 d0 ∷ Treat d0 0 ∷ Learn d0 d0 ∷ Ping everybody d0 ∷ Read p0 d1 ∷ Treat d1 0 ∷ Hear p0 d0 ∷ Read d0 d1 ∷ Treat d1 0 ∷ Pong d0 p0 ∷ Count p0 d0 ∷
    Show 0 0 ∷ Begin 0 (op (act.Append (113 ∷ 48 ∷ []) (51 ∷ []))) ∷ Send 0 d0 ∷ Read d0 d0 ∷ Treat d0 0 ∷ Learn d0 d0 ∷ Ping everybody d0 ∷ Pong d0 p0 ∷
    Count p0 d0 ∷ Show 0 1 ∷ Flush d1 ∷ Say d0 ∷ Hear d0 p0 ∷ Permit p0 ∷ Take d1 p0 ∷ GiveUp 170 ∷ GiveUp 171 ∷ Send 170 p0 ∷ Read p0 p0 ∷ Treat p0 0 ∷
    Learn p0 p0 ∷ Send 171 p0 ∷ Read p0 p0 ∷ Treat p0 0 ∷ Learn p0 p0 ∷ Send 171 p0 ∷ Read p0 p0 ∷ Treat p0 0 ∷ Learn p0 p0 ∷ Ping everybody p0 ∷ Show 171 0 ∷
    Pong p0 d0 ∷ Permit d0 ∷ Take d1 d0 ∷ GiveUp 1 ∷ Count d0 p0 ∷ Begin 171 (op (act.Delete (113 ∷ 52 ∷ []))) ∷ Send 171 d0 ∷ Send 170 p0 ∷ Read p0 p0 ∷
    Treat p0 0 ∷ Learn p0 p0 ∷ Read p0 d0 ∷ Treat d0 0 ∷ Receive p0 d0 ∷ Learn d0 p0 ∷ Ping everybody p0 ∷ Show 171 1 ∷ Receive d0 p0 ∷ Receive d0 p0 ∷
    Pong p0 d0 ∷ Count d0 p0 ∷ Begin 0 (op (act.Append (113 ∷ 48 ∷ []) (50 ∷ []))) ∷ Send 0 d0 ∷ Read d0 d0 ∷ Treat d0 0 ∷ Learn d0 d0 ∷ Ping everybody d0 ∷
    Show 0 2 ∷ Pong d0 p0 ∷ Count p0 d0 ∷ []

abbrev pub GoneAndAskedAgain : Type 0
GoneAndAskedAgain = ScheduleRow (small 2 1) gone_and_asked_again_actions
    (says.Reply reply.NotFound ∷ says.Reply reply.NotFound ∷ says.Reply reply.NotFound ∷ says.Reply reply.NotStored ∷ says.Done ∷ says.Done ∷ says.Done ∷
    says.Lost ∷ says.Gone ∷ says.Gone ∷ says.Reply reply.NotFound ∷ says.Done ∷ says.Retry (cause.Block 0) ∷ says.Reply reply.NotFound ∷ says.Done ∷
    says.Done ∷ says.Done ∷ says.Reply reply.NotStored ∷ [])
    ((0, says.Reply reply.NotFound) ∷ (0, says.Reply reply.NotStored) ∷ (171, says.Reply reply.NotFound) ∷ (171, says.Reply reply.NotFound) ∷
    (0, says.Reply reply.NotStored) ∷ [])
    (d1 ∷ [])

-- An ask that the dead head never treated is given up, and stands behind the failure as lost.
abbrev pub a_lost_ask_actions : List Action
a_lost_ask_actions =
    Begin 170 (op (act.Append (113 ∷ 48 ∷ []) (50 ∷ []))) ∷ Send 170 d0 ∷ Read p0 d0 ∷ Begin 171 (op (act.Delete (113 ∷ 48 ∷ []))) ∷ Send 171 d0 ∷
    Read p0 d0 ∷ Treat d0 1 ∷ Learn d0 p0 ∷ Ping everybody p0 ∷ Pong p0 d0 ∷ Pong p0 d1 ∷ Count d1 p0 ∷ Show 171 0 ∷ Count d0 p0 ∷
    Begin 86 (op (act.Get (113 ∷ 49 ∷ []))) ∷ Send 86 d1 ∷ Read d1 d1 ∷ Treat d1 0 ∷ Learn d1 d1 ∷ Ping everybody d1 ∷
    Begin 171 (op (act.Delete (113 ∷ 48 ∷ []))) ∷ Send 171 d0 ∷ Pong d1 p0 ∷ Begin 85 (op (act.Incr (113 ∷ 48 ∷ []) 7)) ∷ Send 85 d0 ∷ Read p0 d0 ∷
    Cut d1 d0 ∷ Count p0 d1 ∷ Show 86 0 ∷ Flush d1 ∷ Say d0 ∷ Receive d1 p0 ∷ Hear d0 p0 ∷ Cut d1 p0 ∷ Say p0 ∷ Treat d0 0 ∷
    Begin 0 (op (act.Get (113 ∷ 48 ∷ []))) ∷ Send 0 d0 ∷ Read d0 d0 ∷ Treat d0 1 ∷ Learn d0 d0 ∷ Ping everybody d0
    ∷ Learn d0 p0 ∷ Ping everybody p0 ∷ Hear p0 d0 ∷
    Pong p0 d0 ∷ Permit d0 ∷ Take d1 d0 ∷ Show 0 0 ∷ Begin 86 (op (act.Set (113 ∷ 49 ∷ []) 0 (pos 0) (50 ∷ 51 ∷ []))) ∷ Send 86 d1 ∷ Read d1 d1 ∷
    Treat d1 0 ∷ Pong d0 p0 ∷ Count d0 p0 ∷ Show 170 1 ∷ Begin 170 (op (act.Delete (113 ∷ 49 ∷ []))) ∷ Send 170 d1 ∷
    Begin 0 (op (act.Append (113 ∷ 48 ∷ []) (50 ∷ []))) ∷ Send 0 d0 ∷ Read d0 d0 ∷ Treat d0 1 ∷ Learn d0 d0 ∷ Ping everybody d0 ∷ Show 0 1 ∷ Pong d0 p0 ∷
    Permit p0 ∷ Take d1 p0 ∷ GiveUp 170 ∷ Count p0 d0 ∷ Begin 0 (op (act.Set (113 ∷ 49 ∷ []) 5 (pos 0) (48 ∷ 48 ∷ 48 ∷ []))) ∷ Send 0 p0 ∷ []

abbrev pub ALostAsk : Type 0
ALostAsk = ScheduleRow (small 2 1) a_lost_ask_actions
    (says.Reply reply.NotFound ∷ says.Reply reply.Miss ∷ says.Done ∷ says.Done ∷ says.Reply reply.NotStored ∷ says.Reply reply.Miss ∷ says.Done ∷
    says.Done ∷ says.Reply reply.NotStored ∷ says.Done ∷ says.Lost ∷ [])
    ((171, says.Reply reply.NotFound) ∷ (86, says.Reply reply.Miss) ∷ (0, says.Reply reply.Miss) ∷ (170, says.Reply reply.NotStored) ∷
    (0, says.Reply reply.NotStored) ∷ [])
    (d1 ∷ [])

-- A failed gateway shows what it was told before it failed.
abbrev pub shown_by_a_failed_one_actions : List Action
shown_by_a_failed_one_actions =
    Begin 1 (op (act.Delete (113 ∷ 51 ∷ []))) ∷ Send 1 d1 ∷ Begin 85 (op (act.Delete (113 ∷ 51 ∷ []))) ∷ Send 85 d1 ∷ Read d1 d1 ∷ Treat d1 0 ∷
    Learn d1 d1 ∷ Ping everybody d1 ∷ Pong d1 p0 ∷ Begin 170 (op (act.Set (113 ∷ 50 ∷ []) 0 (pos 0) (51 ∷ []))) ∷ Send 170 d0 ∷
    Begin 171 (op (act.Incr (113 ∷ 48 ∷ []) 7)) ∷ Send 171 d0 ∷ Read p0 d0 ∷ Treat d0 0 ∷ Begin 86 (op (act.Append (113 ∷ 49 ∷ []) (50 ∷ []))) ∷
    Send 86 d1 ∷ Read d1 d1 ∷ Treat d1 0 ∷ Learn d1 d1 ∷ Ping everybody d1 ∷ Read p0 d0 ∷ Treat d0 0
    ∷ Begin 0 (op (act.Set (113 ∷ 48 ∷ []) 0 (pos 0) (50 ∷ []))) ∷
    Send 0 d0 ∷ Read d0 d0 ∷ Treat d0 0 ∷ Pong d1 p0 ∷ Cut d1 p0 ∷ Cut d1 d0 ∷ Flush p0 ∷ Receive d0 p0 ∷ Say d0 ∷ Say p0 ∷ Read d0 d1 ∷ Treat d1 0 ∷
    Learn d0 p0 ∷ Ping everybody p0 ∷ Count p0 d1 ∷ Show 85 0 ∷ Receive p0 d0 ∷ Collect 170 0 d0 ∷ Hear p0 d0
    ∷ Permit d0 ∷ Take d1 d0 ∷ GiveUp 1 ∷ Count p0 d1 ∷
    Show 86 1 ∷ Begin 85 (op (act.Get (113 ∷ 49 ∷ []))) ∷ Send 85 d1 ∷ Read d1 d1 ∷ Treat d1 0 ∷ Learn d1 d1 ∷ Ping everybody d1 ∷
    Begin 86 (op (act.Set (113 ∷ 50 ∷ []) 5 (pos 0) (50 ∷ 49 ∷ 51 ∷ []))) ∷ Send 86 d0 ∷ Pong p0 d0 ∷ Receive d0 p0 ∷ Receive p0 d0 ∷ Collect 0 0 d0 ∷
    Learn d0 d0 ∷ Ping everybody d0 ∷ Show 0 0 ∷ Hear d0 p0 ∷ Permit p0 ∷ Take d1 p0 ∷ Show 171 0 ∷ Learn d0 p0 ∷ Ping everybody p0 ∷ Show 170 1 ∷
    Begin 0 (op (act.Set (113 ∷ 50 ∷ []) 5 (pos 0) (50 ∷ []))) ∷ Send 0 d0 ∷ Read d0 d0 ∷ Treat d0 0 ∷ Pong p0 d0 ∷
    Begin 171 (op (act.Incr (113 ∷ 48 ∷ []) 7)) ∷ Send 171 d0 ∷ Count d0 p0 ∷ Read p0 d0 ∷ Treat d0 0 ∷ Flush d1 ∷ Pong d0 p0 ∷ Count p0 d0 ∷
    Receive d0 p0 ∷ Flush d1 ∷ Receive p0 d0 ∷ Collect 0 1 d0 ∷ Learn d0 d0 ∷ Ping everybody d0 ∷ Show 0 1 ∷ Count d0 p0 ∷ Receive d0 p0 ∷
    Begin 170 (op (act.Set (113 ∷ 49 ∷ []) 0 (pos 0) (51 ∷ 50 ∷ 49 ∷ []))) ∷ Send 170 p0 ∷ Read p0 p0 ∷ Treat p0 0 ∷ Learn p0 p0 ∷ Receive p0 d0 ∷
    Collect 171 1 d0 ∷ Pong d0 p0 ∷ Learn d0 p0 ∷ Ping everybody p0 ∷ Show 171 2 ∷ Receive p0 d0 ∷ Count p0 d0 ∷ Send 170 p0 ∷ Read p0 p0 ∷ Treat p0 0 ∷
    Learn p0 p0 ∷ Receive d0 p0 ∷ []

abbrev pub ShownByAFailedOne : Type 0
ShownByAFailedOne = ScheduleRow (small 2 1) shown_by_a_failed_one_actions
    (says.Reply reply.NotFound ∷ says.Ticket 1 ∷ says.Reply reply.NotStored ∷ says.Reply reply.NotFound ∷ says.Ticket 2 ∷ says.Done ∷ says.Done ∷
    says.Reply reply.NotFound ∷ says.Done ∷ says.Reply reply.Stored ∷ says.Done ∷ says.Done ∷ says.Done ∷ says.Done ∷ says.Reply reply.Stored ∷
    says.Done ∷ says.Ticket 3 ∷ says.Ticket 4 ∷ says.Done ∷ says.Done ∷ says.Reply reply.Stored ∷ says.Done ∷ says.Retry (cause.Block 0) ∷ says.Done ∷
    says.Reply (reply.Number 9) ∷ says.Done ∷ says.Retry (cause.Block 0) ∷ says.Done ∷ [])
    ((85, says.Reply reply.NotFound) ∷ (86, says.Reply reply.NotStored) ∷ (0, says.Reply reply.Stored) ∷ (171, says.Reply reply.NotFound) ∷
    (170, says.Reply reply.Stored) ∷ (0, says.Reply reply.Stored) ∷ (171, says.Reply (reply.Number 9)) ∷ [])
    (d1 ∷ [])
