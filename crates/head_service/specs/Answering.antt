-- What the call of an issued update is answered.
use Rattle.std.specs.Prelude.{◌++◌, ◌∷◌, [], Bool, true, false, List}
use Rattle.group_message.specs.declared.update.Update.{Update}
use Rattle.group_calls.specs.declared.event.Answer.{Answer}
use Rattle.group_calls.specs.declared.event.Answer.TheVariants as says
use Rattle.group_run.specs.Asking.{reply_from}
use Rattle.group_run.specs.Process.{Held}

-- its reply where it is settled, and else a ticket
abbrev pub answer_to : Bool → Update → Answer
answer_to true u = says.Reply (reply_from u.outcome)
answer_to false u = says.Ticket u.number

-- the calls that are held then
abbrev pub held_then : Bool → Update → List Held → List Held
held_then true u held = held
held_then false u held = held ++ record { caller = u.caller; call = u.call; number = u.number; outcome = u.outcome } ∷ []
