-- A run of one data and one parity process in which the answers come that the laws here are about.
use Rattle.std.specs.Prelude.{pos, ◌≡◌, List, [], ◌∷◌, codes}
use Rattle.group_types.specs.Dimensions.{Dimensions}
use Rattle.group_types.specs.declared.process.ProcessId.{ProcessId}
use Rattle.group_types.specs.declared.process.ProcessId.TheVariants.{DataNode, ParityNode}
use Rattle.memc_table.specs.Asked.{Asked}
use Rattle.memc_table.specs.declared.act.Act.TheVariants.{Set}
use Rattle.memc_table.specs.declared.reply.Reply.TheVariants.{Stored}
use Rattle.group_calls.specs.declared.event.Answer.{Answer}
use Rattle.group_calls.specs.declared.event.Answer.TheVariants.{Done, NotYet, Reply, Retry, Ticket}
use Rattle.group_calls.specs.declared.event.Cause.TheVariants.{Pending}
use Rattle.group_calls.specs.declared.event.Event.{Event}
use Rattle.group_calls.specs.declared.event.Event.TheVariants.{Ask, Collect, Deliver, Flush, Trace}
use Rattle.group_run.specs.Heading.{partition}
use Rattle.group_run.specs.World.{after, step}

-- the smallest shape with a parity process, and its two processes
abbrev pub small_shape : Dimensions
small_shape = record { k = 1; m = 1; blocks = 1; block = 16 }

abbrev pub data_process : ProcessId
data_process = DataNode 0

abbrev pub parity_process : ProcessId
parity_process = ParityNode 0

-- two bytes are stored
abbrev pub set_two_bytes : Asked
set_two_bytes = record { moment = 0; act = Set (codes "a") 0 (pos 0) (1 ∷ 2 ∷ []) }

-- they are asked_events for, and then acked_events
abbrev pub asked_events : List Event
asked_events = Ask 0 set_two_bytes data_process ∷ []

abbrev pub acked_events : List Event
acked_events = Ask 0 set_two_bytes data_process ∷ Deliver data_process parity_process ∷ Deliver parity_process data_process ∷ []

-- the answer to an event behind others
abbrev pub answer_behind : List Event → Event → Answer
answer_behind es e = (step (after small_shape es) e).turn.answer

-- a ticket, and while it is unfinished another ask, a collect and a trace that have to wait, and a flush; and then the reply
pub record AnswersCome : Type 0 where
  pub ticket : answer_behind [] (Ask 0 set_two_bytes data_process) ≡ Ticket 1
  pub pending : answer_behind asked_events (Ask 1 set_two_bytes data_process) ≡ Retry (Pending (partition 0) 1)
  pub not_yet : answer_behind asked_events (Collect 0 0 data_process) ≡ NotYet
  pub traced : answer_behind asked_events (Trace 0 0 (partition 0) data_process) ≡ NotYet
  pub flushed : answer_behind asked_events (Flush data_process) ≡ Done
  pub replied : answer_behind acked_events (Collect 0 0 data_process) ≡ Reply Stored
