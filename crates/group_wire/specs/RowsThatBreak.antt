-- Schedules that the model makes with one rule off, so that an action comes that may not come, and what breaks.
use Rattle.std.specs.Prelude.{List, [], ◌∷◌, pos}
use Rattle.memc_table.specs.declared.act.Act.TheVariants as act
use Rattle.memc_table.specs.declared.reply.Reply.TheVariants as reply
use Rattle.group_calls.specs.declared.event.Answer.TheVariants as says
use Rattle.group_calls.specs.declared.event.Cause.TheVariants as cause
use Rattle.group_run.specs.Heading.{partition}
use Rattle.group_wire.specs.Actions.{Action, Begin, Send, Read, Treat, Collect, Flush, Learn, Receive, GiveUp, Cut, Say}
use Rattle.group_wire.specs.Actions.{Hear, Permit, Take, Ping, Pong, Count, Show}
use Rattle.group_wire.specs.Rows.{BreaksAnswers, BreaksLink, BreaksShown, d0, d1, op, p0, p1, small}
use Rattle.group_wire.specs.Sets.{everybody}

-- A member permits itself a set before the others have said it: it receives what the machine has not.
abbrev pub permitted_too_early_actions : List Action
permitted_too_early_actions =
    Begin 86 (op (act.Get (113 ∷ 48 ∷ []))) ∷ Send 86 d0 ∷ Begin 1 (op (act.Incr (113 ∷ 48 ∷ []) 1)) ∷ Send 1 d0 ∷ Read d0 d0 ∷ Treat d0 0 ∷
    Learn d0 d0 ∷ Ping everybody d0 ∷ Pong d0 p1 ∷ Count p1 d0 ∷ Begin 171 (op (act.Delete (113 ∷ 48 ∷ []))) ∷ Send 171 d0 ∷ Read p1 d0 ∷ Treat d0 0 ∷
    Learn d0 p1 ∷ Ping everybody p1 ∷ Pong p1 d0 ∷ Pong p1 p0 ∷ Count d0 p1 ∷ Begin 85 (op (act.Append (113 ∷ 48 ∷ []) (51 ∷ []))) ∷ Send 85 d0 ∷
    Begin 170 (op (act.Set (113 ∷ 48 ∷ []) 0 (pos 0) (49 ∷ 50 ∷ 48 ∷ []))) ∷ Send 170 d0 ∷ Read p1 d0 ∷ Treat d0 0 ∷ Receive d0 p1 ∷ Receive p1 d0 ∷
    Cut d0 p0 ∷ Say p0 ∷ Permit p0 ∷ Take d0 p0 ∷ GiveUp 85 ∷ GiveUp 86 ∷ Send 85 p0 ∷ Read p0 p0 ∷ Treat p0 0 ∷ Learn p0 p0 ∷ Flush d0 ∷ []

abbrev pub PermittedTooEarly : Type 0
PermittedTooEarly = BreaksLink (small 1 2) permitted_too_early_actions 29 (Permit p0) d0 p1 (3 ∷ []) (10 ∷ [])

-- A member reads on behind its cut: the machine has the notice alone.
abbrev pub read_behind_the_cut_actions : List Action
read_behind_the_cut_actions =
    Begin 0 (op (act.Set (113 ∷ 48 ∷ []) 0 (pos 0) (48 ∷ []))) ∷ Send 0 d0 ∷ Read d0 d0 ∷ Treat d0 0 ∷ Receive d0 p0 ∷
    Begin 1 (op (act.Append (113 ∷ 49 ∷ []) (49 ∷ []))) ∷ Send 1 d0 ∷ Read d0 d0 ∷ Treat d0 0 ∷ Learn d0 d0 ∷ Ping everybody d0 ∷ Pong d0 p0 ∷ Receive p0 d0 ∷
    Begin 86 (op (act.Set (113 ∷ 50 ∷ []) 5 (pos 0) (48 ∷ []))) ∷ Send 86 d0 ∷ Count p0 d0 ∷
    Begin 170 (op (act.Set (113 ∷ 49 ∷ []) 0 (pos 0) (50 ∷ []))) ∷ Send 170 d0 ∷ Read p1 d0 ∷ Treat d0 0 ∷ Receive d0 p0 ∷
    Begin 171 (op (act.Set (113 ∷ 48 ∷ []) 0 (pos 0) (50 ∷ 51 ∷ 51 ∷ []))) ∷ Send 171 d0 ∷ Flush p1 ∷ Read p0 d0 ∷ Treat d0 0 ∷ Receive p0 d0 ∷
    Cut d0 p0 ∷ Cut d0 p1 ∷ Read p1 d0 ∷ Treat d0 0 ∷ Receive d0 p0 ∷ Cut p0 p1 ∷ Receive d0 p1 ∷ Say p0 ∷ Hear p0 p1 ∷ Say p1 ∷ Pong d0 p1 ∷ Permit p1 ∷ []

abbrev pub ReadBehindTheCut : Type 0
ReadBehindTheCut = BreaksLink (small 1 2) read_behind_the_cut_actions 31 (Receive d0 p0) d0 p1 (1 ∷ 1 ∷ []) (10 ∷ [])

-- An answer is shown by one pong too few: it is a ghost's, and no entry of the log.
abbrev pub one_pong_too_few_actions : List Action
one_pong_too_few_actions =
    Begin 0 (op (act.Set (113 ∷ 48 ∷ []) 0 (pos 0) (48 ∷ []))) ∷ Send 0 d0 ∷ Read d0 d0 ∷ Treat d0 0 ∷ Receive d0 p0 ∷
    Begin 128 (op (act.Set (113 ∷ 48 ∷ []) 0 (pos 0) (51 ∷ 51 ∷ 48 ∷ []))) ∷ Send 128 d0 ∷ Begin 129 (op (act.Get (113 ∷ 49 ∷ []))) ∷ Send 129 d0 ∷
    Begin 1 (op (act.Get (113 ∷ 49 ∷ []))) ∷ Send 1 d0 ∷ Read d0 d0 ∷ Treat d0 0 ∷ Learn d0 d0 ∷ Ping everybody d0
    ∷ Show 1 0 ∷ Pong d0 p0 ∷ Cut d0 p0 ∷ Say p0 ∷
    Begin 1 (op (act.Get (113 ∷ 48 ∷ []))) ∷ Send 1 d0 ∷ Read d0 d0 ∷ Treat d0 0 ∷ Learn d0 d0 ∷ Ping everybody d0 ∷ Show 1 1 ∷ Receive p0 d0 ∷ Collect 0 0 d0 ∷
    Learn d0 d0 ∷ Ping everybody d0 ∷ Show 0 2 ∷ Permit p0 ∷ Take d0 p0 ∷ GiveUp 128 ∷ GiveUp 129 ∷ Begin 0 (op (act.Incr (113 ∷ 49 ∷ []) 7)) ∷ Send 0 d0 ∷
    Read d0 d0 ∷ Treat d0 0 ∷ Learn d0 d0 ∷ Ping everybody d0 ∷ Show 0 3 ∷ []

abbrev pub OnePongTooFew : Type 0
OnePongTooFew = BreaksShown (small 1 1) one_pong_too_few_actions 15 (Show 1 0)
    ((1, says.Reply reply.Miss) ∷ (1, says.Reply reply.Miss) ∷ (0, says.Reply reply.Stored) ∷ (0, says.Reply reply.NotFound) ∷ [])
    (1 ∷ 1 ∷ 0 ∷ [])

-- An ask is given up at the cut, and not at the notice: it isn't lost.
abbrev pub given_up_at_the_cut_actions : List Action
given_up_at_the_cut_actions =
    Begin 128 (op (act.Incr (113 ∷ 48 ∷ []) 7)) ∷ Send 128 d0 ∷ Cut d0 p0 ∷ GiveUp 128 ∷ []

abbrev pub GivenUpAtTheCut : Type 0
GivenUpAtTheCut = BreaksAnswers (small 1 1) given_up_at_the_cut_actions 3 (GiveUp 128)
    (says.Lost ∷ [])
    (says.Reply reply.NotFound ∷ [])

-- A word for more than m is taken: the machine is down.
abbrev pub more_than_m_actions : List Action
more_than_m_actions =
    Begin 171 (op (act.Append (113 ∷ 48 ∷ []) (51 ∷ []))) ∷ Send 171 d0 ∷ Begin 170 (op (act.Append (113 ∷ 51 ∷ []) (51 ∷ []))) ∷ Send 170 d1 ∷
    Begin 1 (op (act.Set (113 ∷ 51 ∷ []) 5 (pos 0) (50 ∷ 51 ∷ 50 ∷ []))) ∷ Send 1 d1 ∷ Read p0 d0 ∷ Treat d0 0 ∷ Read d0 d1 ∷ Treat d1 0 ∷
    Receive d1 p0 ∷ Learn d0 p0 ∷ Ping everybody p0 ∷ Begin 85 (op (act.Incr (113 ∷ 48 ∷ []) 7)) ∷ Send 85 d0
    ∷ Read d1 d0 ∷ Treat d0 0 ∷ Read p0 d1 ∷ Treat d1 0 ∷
    Learn d1 p0 ∷ Cut d1 d0 ∷ Receive p0 d1 ∷ Collect 1 0 d1 ∷ Say d0 ∷ Cut d0 d1 ∷ Pong p0 d0 ∷ Begin 0 (op (act.Delete (113 ∷ 48 ∷ []))) ∷ Send 0 d0 ∷
    Read d0 d0 ∷ Treat d0 0 ∷ Learn d0 d0 ∷ Ping everybody d0 ∷ Cut d0 p0 ∷ Pong p0 d1 ∷ Count d1 p0 ∷ Show 171 0 ∷
    Begin 171 (op (act.Set (113 ∷ 48 ∷ []) 5 (pos 0) (48 ∷ []))) ∷ Send 171 d0 ∷ Cut d1 p0 ∷ Send 170 d1 ∷ Say p0 ∷
    Begin 86 (op (act.Incr (113 ∷ 50 ∷ []) 1)) ∷ Send 86 d0 ∷ Say d1 ∷ Permit p0 ∷ Take d0 p0 ∷ []

abbrev pub MoreThanM : Type 0
MoreThanM = BreaksAnswers (small 2 1) more_than_m_actions 38 (Cut d1 p0)
    (says.Reply reply.NotStored ∷ says.Ticket 1 ∷ says.Done ∷ says.Reply reply.NotFound ∷ says.Retry (cause.Pending (partition 1) 1) ∷ says.Done ∷
    says.Reply reply.Stored ∷ says.Reply reply.NotFound ∷ says.Done ∷ says.Done ∷ says.Done ∷ [])
    (says.Reply reply.NotStored ∷ says.Ticket 1 ∷ says.Done ∷ says.Reply reply.NotFound ∷ says.Retry (cause.Pending (partition 1) 1) ∷ says.Done ∷
    says.Reply reply.Stored ∷ says.Reply reply.NotFound ∷ says.Done ∷ says.Done ∷ says.Down ∷ [])

-- An answer is read behind the cut: it is a ghost's, and is shown.
abbrev pub answered_behind_the_cut_actions : List Action
answered_behind_the_cut_actions =
    Begin 0 (op (act.Set (113 ∷ 48 ∷ []) 0 (pos 0) (48 ∷ 50 ∷ 51 ∷ []))) ∷ Send 0 d0 ∷ Read d0 d0 ∷ Treat d0 0 ∷
    Begin 171 (op (act.Append (113 ∷ 51 ∷ []) (49 ∷ []))) ∷ Send 171 d1 ∷ Read p0 d1 ∷ Treat d1 0 ∷ Learn d1 p0 ∷ Ping everybody p0 ∷
    Begin 1 (op (act.Set (113 ∷ 51 ∷ []) 5 (pos 0) (51 ∷ 50 ∷ []))) ∷ Send 1 d1 ∷ Pong p0 d1 ∷ Begin 86 (op (act.Incr (113 ∷ 51 ∷ []) 7)) ∷ Send 86 d1 ∷
    Read d1 d1 ∷ Treat d1 0 ∷ Learn d1 d1 ∷ Ping everybody d1 ∷ Pong d1 d0 ∷ Begin 85 (op (act.Incr (113 ∷ 51 ∷ []) 1)) ∷ Send 85 d1 ∷ Read d1 d1 ∷ Treat d1 0 ∷
    Learn d1 d1 ∷ Ping everybody d1 ∷ Receive d0 p0 ∷ Begin 170 (op (act.Set (113 ∷ 51 ∷ []) 5 (pos 0) (51 ∷ []))) ∷ Send 170 d1 ∷ Count d1 p0 ∷ Show 171 0 ∷
    Pong d1 p0 ∷ Pong d1 p0 ∷ Pong d1 d0 ∷ Begin 171 (op (act.Get (113 ∷ 50 ∷ []))) ∷ Send 171 d0 ∷ Flush d1 ∷ Read d0 d1 ∷ Treat d1 0 ∷ Read p0 d1 ∷
    Treat d1 0 ∷ Cut d0 p0 ∷ Count d0 d1 ∷ Show 86 0 ∷ Count d0 d1 ∷ Show 85 1 ∷ Count p0 d1 ∷ Cut d0 d1 ∷ Say p0 ∷ Count p0 d1 ∷ Say d1 ∷ Pong p0 d0 ∷
    Receive d1 p0 ∷ Receive p0 d0 ∷ Collect 0 0 d0 ∷ Learn d0 d0 ∷ Ping everybody d0 ∷ Hear p0 d1 ∷ Permit d1 ∷ Take d0 d1 ∷ Receive d1 p0 ∷ Read p0 d0 ∷
    Treat d0 0 ∷ Learn d0 p0 ∷ Ping everybody p0 ∷ Receive p0 d1 ∷ Collect 1 0 d1 ∷ Begin 85 (op (act.Get (113 ∷ 51 ∷ []))) ∷ Send 85 d1 ∷ Read d1 d1 ∷
    Treat d1 0 ∷ Learn d1 d1 ∷ Ping everybody d1 ∷ Show 85 2 ∷ Pong p0 d1 ∷ Learn d1 p0 ∷ Hear d1 p0 ∷ Permit p0 ∷ Take d0 p0 ∷ Show 171 1 ∷ []

abbrev pub AnsweredBehindTheCut : Type 0
AnsweredBehindTheCut = BreaksShown (small 2 1) answered_behind_the_cut_actions 63 (Learn d0 p0)
    ((171, says.Reply reply.NotStored) ∷ (86, says.Reply reply.NotFound) ∷ (85, says.Reply reply.NotFound) ∷
    (85, says.Reply (reply.Value (record { flags = 5; cas = 1; value = (51 ∷ 50 ∷ []) }))) ∷ (171, says.Reply reply.Miss) ∷ [])
    (171 ∷ 86 ∷ 85 ∷ 0 ∷ 1 ∷ 85 ∷ [])
