-- Schedules of pings that go to some members, and of calls that are let go. Their answers are the model's.
use Rattle.std.specs.Prelude.{List, [], ◌∷◌, pos}
use Rattle.memc_table.specs.declared.act.Act.TheVariants as act
use Rattle.memc_table.specs.declared.reply.Reply.TheVariants as reply
use Rattle.group_calls.specs.declared.event.Answer.TheVariants as says
use Rattle.group_wire.specs.Actions.{Action, Begin, Send, Read, Treat, Collect, Learn, Receive, GiveUp, Cut, Permit, Take, Ping, Pong, Count, Show, LetGo}
use Rattle.group_wire.specs.Rows.{BreaksAnswers, ScheduleRow, d0, d1, op, p0, small}
use Rattle.group_wire.specs.Sets.{nobody, with_one}

-- The member that was sent a ping hangs: another answers the next one, and so that one too.
abbrev pub answered_by_a_later_pong_actions : List Action
answered_by_a_later_pong_actions =
    Begin 0 (op (act.Get (113 ∷ 48 ∷ []))) ∷ Send 0 d0 ∷ Read d0 d0 ∷ Treat d0 0 ∷ Learn d0 d0 ∷ Ping (with_one nobody d1) d0 ∷
    Ping (with_one nobody p0) d0 ∷ Pong d0 p0 ∷ Count p0 d0 ∷ Show 0 0 ∷ []

abbrev pub AnsweredByALaterPong : Type 0
AnsweredByALaterPong = ScheduleRow (small 2 1) answered_by_a_later_pong_actions
    (says.Reply reply.Miss ∷ [])
    ((0, says.Reply reply.Miss) ∷ [])
    []

-- A change of unknown fate is let go, and its caller's next call is shown.
abbrev pub let_go_of_unknown_fate_actions : List Action
let_go_of_unknown_fate_actions =
    Begin 128 (op (act.Set (113 ∷ 48 ∷ []) 0 (pos 0) (55 ∷ []))) ∷ Send 128 d0 ∷ Cut d0 p0 ∷ Permit p0 ∷ Take d0 p0 ∷ GiveUp 128 ∷ LetGo 128 ∷
    Begin 128 (op (act.Get (113 ∷ 48 ∷ []))) ∷ Send 128 p0 ∷ Read p0 p0 ∷ Treat p0 0 ∷ Learn p0 p0 ∷ Ping nobody p0 ∷ Show 128 0 ∷ []

abbrev pub LetGoOfUnknownFate : Type 0
LetGoOfUnknownFate = ScheduleRow (small 1 1) let_go_of_unknown_fate_actions
    (says.Done ∷ says.Done ∷ says.Lost ∷ says.Reply reply.Miss ∷ [])
    ((128, says.Reply reply.Miss) ∷ [])
    (d0 ∷ [])

-- A call is let go that is still asked: the machine knows the next one by another position.
abbrev pub let_go_while_asked_actions : List Action
let_go_while_asked_actions =
    Begin 0 (op (act.Set (113 ∷ 48 ∷ []) 0 (pos 0) (48 ∷ []))) ∷ Send 0 d0 ∷ LetGo 0 ∷ Begin 0 (op (act.Set (113 ∷ 51 ∷ []) 0 (pos 0) (49 ∷ []))) ∷
    Send 0 d1 ∷ Read d0 d1 ∷ Treat d1 0 ∷ Receive d1 p0 ∷ Receive p0 d1 ∷ Collect 0 1 d1 ∷ []

abbrev pub LetGoWhileAsked : Type 0
LetGoWhileAsked = BreaksAnswers (small 2 1) let_go_while_asked_actions 2 (LetGo 0)
    (says.Ticket 1 ∷ says.Done ∷ says.Done ∷ says.Reply reply.Stored ∷ [])
    (says.Ticket 1 ∷ says.Done ∷ says.Done ∷ says.Stranger ∷ [])
