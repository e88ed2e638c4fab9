-- Schedules of gateways, of requests that are kept, and of ghosts. Their answers are the model's.
use Rattle.std.specs.Prelude.{List, [], ◌∷◌, pos}
use Rattle.memc_table.specs.declared.act.Act.TheVariants as act
use Rattle.memc_table.specs.declared.reply.Reply.TheVariants as reply
use Rattle.group_calls.specs.declared.event.Answer.TheVariants as says
use Rattle.group_calls.specs.declared.event.Cause.TheVariants as cause
use Rattle.group_run.specs.Heading.{partition}
use Rattle.group_wire.specs.Actions.{Action, Begin, Send, Read, Treat, Collect, Flush, Learn, Receive, GiveUp, Cut, Say}
use Rattle.group_wire.specs.Actions.{Hear, Permit, Take, Ping, Pong, Count, Show}
use Rattle.group_wire.specs.Rows.{ScheduleRow, d0, d1, op, p0, p1, small}
use Rattle.group_wire.specs.Sets.{everybody}

-- A read is given up, and asked again at the next head.
abbrev pub a_read_is_asked_again_actions : List Action
a_read_is_asked_again_actions =
    Begin 1 (op (act.Get (113 ∷ 49 ∷ []))) ∷ Send 1 d1 ∷ Read d0 d1 ∷ Treat d1 0 ∷ Begin 170 (op (act.Incr (113 ∷ 48 ∷ []) 7)) ∷ Send 170 d0 ∷
    Read p0 d0 ∷ Treat d0 0 ∷ Learn d0 p0 ∷ Ping everybody p0 ∷ Begin 86 (op (act.Append (113 ∷ 50 ∷ []) (49 ∷ []))) ∷ Send 86 d0 ∷ Pong p0 d0 ∷
    Begin 0 (op (act.Append (113 ∷ 48 ∷ []) (49 ∷ []))) ∷ Send 0 d0 ∷ Read d0 d0 ∷ Treat d0 0 ∷ Learn d0 d0 ∷ Ping everybody d0 ∷
    Begin 85 (op (act.Get (113 ∷ 51 ∷ []))) ∷ Send 85 d1 ∷ Read d1 d1 ∷ Treat d1 0 ∷ Learn d1 d1 ∷ Ping everybody d1 ∷ Pong d1 p0 ∷
    Begin 171 (op (act.Get (113 ∷ 50 ∷ []))) ∷ Send 171 d0 ∷ Count d0 p0 ∷ Show 170 0 ∷ Cut d1 p0 ∷ Pong d0 p0 ∷ Read p0 d0 ∷ Treat d0 0 ∷ Learn d0 p0 ∷
    Ping everybody p0 ∷ Say p0 ∷ Cut d1 d0 ∷ Pong d0 d1 ∷ Say d0 ∷ Count p0 d0 ∷ Show 0 0 ∷ Pong p0 d0 ∷ Hear p0 d0 ∷ Permit d0 ∷ Take d1 d0 ∷ GiveUp 1 ∷
    Hear d0 p0 ∷ Permit p0 ∷ Take d1 p0 ∷ Show 171 1 ∷ Count d0 p0 ∷ Begin 0 (op (act.Set (113 ∷ 48 ∷ []) 0 (pos 0) (51 ∷ 50 ∷ 51 ∷ []))) ∷ Send 0 d0 ∷
    Read d0 d0 ∷ Treat d0 0 ∷ Begin 170 (op (act.Get (113 ∷ 49 ∷ []))) ∷ Send 170 p0 ∷ Read p0 p0 ∷ Treat p0 0
    ∷ Learn p0 p0 ∷ Ping everybody p0 ∷ Show 170 2 ∷ []

abbrev pub AReadIsAskedAgain : Type 0
AReadIsAskedAgain = ScheduleRow (small 2 1) a_read_is_asked_again_actions
    (says.Reply reply.Miss ∷ says.Reply reply.NotFound ∷ says.Reply reply.NotStored ∷ says.Reply reply.Miss ∷ says.Reply reply.Miss ∷ says.Done ∷
    says.Done ∷ says.Done ∷ says.Ticket 1 ∷ says.Reply reply.Miss ∷ [])
    ((170, says.Reply reply.NotFound) ∷ (0, says.Reply reply.NotStored) ∷ (171, says.Reply reply.Miss) ∷ (170, says.Reply reply.Miss) ∷ [])
    (d1 ∷ [])

-- A request that a member had read before its cut is treated behind it.
abbrev pub kept_behind_a_cut_actions : List Action
kept_behind_a_cut_actions =
    Begin 85 (op (act.Set (113 ∷ 51 ∷ []) 0 (pos 0) (51 ∷ 50 ∷ []))) ∷ Send 85 d1 ∷ Read d1 d1 ∷ Treat d1 0 ∷
    Begin 171 (op (act.Delete (113 ∷ 50 ∷ []))) ∷ Send 171 d0 ∷ Begin 0 (op (act.Set (113 ∷ 53 ∷ []) 0 (pos 0) (49 ∷ []))) ∷ Send 0 d1 ∷ Read p0 d0 ∷
    Begin 86 (op (act.Append (113 ∷ 53 ∷ []) (49 ∷ []))) ∷ Send 86 d1 ∷ Read d1 d1 ∷ Treat d1 0 ∷ Learn d1 d1 ∷ Ping everybody d1 ∷ Pong d1 d0 ∷ Read d0 d1 ∷
    Receive d1 p0 ∷ Receive p0 d1 ∷ Collect 85 0 d1 ∷ Learn d1 d1 ∷ Ping everybody d1 ∷ Pong d1 p0 ∷ Count p0 d1 ∷ Show 86 0 ∷
    Begin 86 (op (act.Get (113 ∷ 50 ∷ []))) ∷ Send 86 d0 ∷ Begin 1 (op (act.Append (113 ∷ 52 ∷ []) (51 ∷ []))) ∷ Send 1 d0 ∷ Read d0 d0 ∷ Treat d0 1 ∷
    Learn d0 d0 ∷ Ping everybody d0 ∷ Pong d0 p0 ∷ Cut d0 d1 ∷ Say d1 ∷ Count p0 d0 ∷ Show 1 0 ∷ Treat d1 0 ∷ Cut d0 p0 ∷ Pong d1 d0 ∷ []

abbrev pub KeptBehindACut : Type 0
KeptBehindACut = ScheduleRow (small 2 1) kept_behind_a_cut_actions
    (says.Ticket 1 ∷ says.Reply reply.NotStored ∷ says.Done ∷ says.Done ∷ says.Reply reply.Stored ∷ says.Reply reply.NotStored ∷ says.Ticket 2 ∷ [])
    ((86, says.Reply reply.NotStored) ∷ (1, says.Reply reply.NotStored) ∷ [])
    ([])

-- Calls of every gateway of a group with two parity processes and one failure.
abbrev pub three_gateways_actions : List Action
three_gateways_actions =
    Begin 1 (op (act.Append (113 ∷ 49 ∷ []) (50 ∷ []))) ∷ Send 1 d1 ∷ Begin 64 (op (act.Append (113 ∷ 48 ∷ []) (51 ∷ []))) ∷ Send 64 d0 ∷ Read d0 d1 ∷
    Treat d1 0 ∷ Read d1 d0 ∷ Treat d0 0 ∷ Learn d1 d0 ∷ Ping everybody d0 ∷ Pong d0 p0 ∷ Learn d0 d1
    ∷ Ping everybody d1 ∷ Begin 193 (op (act.Get (113 ∷ 49 ∷ []))) ∷
    Send 193 d1 ∷ Pong d1 d0 ∷ Cut d0 d1 ∷ Read p1 d1 ∷ Treat d1 0 ∷ Pong d1 p1 ∷ Learn d1 p1 ∷ Ping everybody p1 ∷ Pong p1 d0 ∷ Pong d1 p0 ∷ Count p0 d0 ∷
    Begin 65 (op (act.Delete (113 ∷ 48 ∷ []))) ∷ Send 65 d0 ∷ Pong p1 p0 ∷ Begin 192 (op (act.Incr (113 ∷ 49 ∷ []) 7)) ∷ Send 192 d1 ∷ Say d1 ∷
    Cut d0 p0 ∷ Count p0 p1 ∷ Hear d1 p1 ∷ Cut d0 p1 ∷ Begin 129 (op (act.Incr (113 ∷ 48 ∷ []) 7)) ∷ Send 129 d0 ∷ Hear d1 p0 ∷
    Begin 128 (op (act.Get (113 ∷ 49 ∷ []))) ∷ Send 128 d1 ∷ Count p0 d1 ∷ Read p0 d1 ∷ Treat d1 0 ∷ Say p1 ∷ Count p1 d1 ∷ Show 64 0 ∷ Say p0 ∷
    Pong p1 d1 ∷ Learn d1 p0 ∷ Ping everybody p0 ∷ Hear p0 p1 ∷ Permit p1 ∷ Take d0 p1 ∷ Show 193 0 ∷ Begin 0 (op (act.Incr (113 ∷ 49 ∷ []) 7)) ∷ Send 0 d1 ∷
    Count d1 p1 ∷ Read p1 d1 ∷ Treat d1 0 ∷ Hear p0 d1 ∷ Pong p0 d1 ∷ Hear p1 p0 ∷ Permit p0 ∷ Take d0 p0 ∷ GiveUp 129 ∷ Hear p1 d1 ∷ Permit d1 ∷
    Take d0 d1 ∷ GiveUp 65 ∷ Learn d1 p1 ∷ Ping everybody p1 ∷ Cut d1 p0 ∷ Pong p1 d1 ∷ Send 65 p0 ∷ Say p0 ∷ Count d1 p1 ∷ Show 192 1 ∷ Pong p0 p1 ∷
    Receive p0 p1 ∷ Hear p0 p1 ∷ Pong p1 p0 ∷ Count p0 p1 ∷ Send 129 p0 ∷ Read p0 p0 ∷ Treat p0 0 ∷ Learn p0 p0 ∷ Count p1 p0 ∷ Show 128 0 ∷
    Receive p1 p0 ∷ Begin 64 (op (act.Get (113 ∷ 48 ∷ []))) ∷ Send 64 p0 ∷ Cut d1 p1 ∷ Begin 193 (op (act.Get (113 ∷ 48 ∷ []))) ∷ Send 193 p0 ∷
    Read p1 p0 ∷ Treat p0 0 ∷ Learn p0 p1 ∷ Ping everybody p1 ∷ Pong p1 p0 ∷ Count p0 p1 ∷ Show 193 2 ∷ Begin 193 (op (act.Get (113 ∷ 48 ∷ []))) ∷ Send 193 p0 ∷
    Read p1 p0 ∷ Treat p0 0 ∷ Learn p0 p1 ∷ Ping everybody p1 ∷ Pong p1 p0 ∷ Send 129 p0 ∷ Read p0 p0 ∷ Treat p0 0 ∷ Learn p0 p0 ∷ Count p0 p1 ∷ Show 193 3 ∷
    Say p1 ∷ []

abbrev pub ThreeGateways : Type 0
ThreeGateways = ScheduleRow (small 2 2) three_gateways_actions
    (says.Reply reply.NotStored ∷ says.Reply reply.NotStored ∷ says.Reply reply.Miss ∷ says.Reply reply.Miss ∷ says.Done ∷ says.Done ∷
    says.Reply reply.NotFound ∷ says.Done ∷ says.Lost ∷ says.Done ∷ says.Lost ∷ says.Done ∷ says.NotYet ∷ says.Done ∷ says.Reply reply.Miss ∷
    says.Reply reply.Miss ∷ says.Gone ∷ [])
    ((64, says.Reply reply.NotStored) ∷ (193, says.Reply reply.Miss) ∷ (192, says.Reply reply.NotFound) ∷ (128, says.Reply reply.Miss) ∷
    (193, says.Reply reply.Miss) ∷ (193, says.Reply reply.Miss) ∷ [])
    (d0 ∷ [])

-- A failed member that lives goes on, and shows nothing of it.
abbrev pub ghosts_actions : List Action
ghosts_actions =
    Begin 0 (op (act.Append (113 ∷ 48 ∷ []) (49 ∷ []))) ∷ Send 0 d0 ∷ Read d0 d0 ∷ Treat d0 0 ∷ Learn d0 d0 ∷ Ping everybody d0 ∷
    Begin 129 (op (act.Set (113 ∷ 48 ∷ []) 0 (pos 0) (51 ∷ 50 ∷ 49 ∷ []))) ∷ Send 129 d0 ∷ Pong d0 p0 ∷ Read p0 d0 ∷ Treat d0 0 ∷ Count p0 d0 ∷
    Show 0 0 ∷ Cut d0 p0 ∷ Begin 1 (op (act.Get (113 ∷ 48 ∷ []))) ∷ Send 1 d0 ∷ Read d0 d0 ∷ Treat d0 0 ∷ Learn d0 d0 ∷ Ping everybody d0 ∷ Say p0 ∷
    Begin 0 (op (act.Set (113 ∷ 48 ∷ []) 0 (pos 0) (51 ∷ 49 ∷ 50 ∷ []))) ∷ Send 0 d0 ∷ Read d0 d0 ∷ Treat d0 0 ∷ Learn d0 d0 ∷ Send 0 d0 ∷ Read d0 d0 ∷
    Treat d0 0 ∷ Learn d0 d0 ∷ Permit p0 ∷ Take d0 p0 ∷ GiveUp 129 ∷ Begin 128 (op (act.Incr (113 ∷ 48 ∷ []) 7)) ∷ Send 128 p0 ∷ Read p0 p0 ∷
    Treat p0 0 ∷ Learn p0 p0 ∷ Ping everybody p0 ∷ Show 128 0 ∷ Send 0 d0 ∷ Read d0 d0 ∷ Treat d0 0 ∷ Learn d0 d0 ∷ Flush d0 ∷
    Begin 128 (op (act.Incr (113 ∷ 48 ∷ []) 1)) ∷ Send 128 p0 ∷ Read p0 p0 ∷ Treat p0 0 ∷ Learn p0 p0 ∷ Ping everybody p0 ∷ Show 128 1 ∷
    Begin 128 (op (act.Set (113 ∷ 48 ∷ []) 5 (pos 0) (48 ∷ 48 ∷ 49 ∷ []))) ∷ Send 128 p0 ∷ Read p0 p0 ∷ Treat p0 0 ∷ Learn p0 p0 ∷ Send 128 p0 ∷
    Read p0 p0 ∷ Treat p0 0 ∷ Learn p0 p0 ∷ Ping everybody p0 ∷ Show 128 2 ∷ Send 0 d0 ∷ Read d0 d0 ∷ Treat d0 0 ∷ Learn d0 d0 ∷ []

abbrev pub Ghosts : Type 0
Ghosts = ScheduleRow (small 1 1) ghosts_actions
    (says.Reply reply.NotStored ∷ says.Ticket 1 ∷ says.Reply reply.Miss ∷ says.Retry (cause.Pending (partition 0) 1) ∷
    says.Retry (cause.Pending (partition 0) 1) ∷ says.Done ∷ says.Done ∷ says.Reply reply.NotFound ∷ says.Reply reply.NotFound ∷
    says.Retry (cause.Block 0) ∷ says.Reply reply.Stored ∷ [])
    ((0, says.Reply reply.NotStored) ∷ (128, says.Reply reply.NotFound) ∷ (128, says.Reply reply.NotFound) ∷ (128, says.Reply reply.Stored) ∷ [])
    (d0 ∷ [])
