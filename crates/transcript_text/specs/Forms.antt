-- The limits of what a transcript tells, and the answers that an event can have.
use Rattle.std.specs.Prelude.{ℕ, ◌≡◌, ◌<◌, ◌^◌, Bool, true, false, List, All, ⊤}
use Rattle.group_types.specs.Dimensions.{callers}
use Rattle.memc_table.specs.declared.act.Act.{Act}
use Rattle.memc_table.specs.declared.act.Act.TheVariants.{Get, Delete, Touch}
use Rattle.memc_table.specs.declared.reply.Reply.{Reply}
use Rattle.memc_table.specs.declared.reply.Reply.TheVariants.{Value, Number}
use Rattle.group_calls.specs.declared.event.Answer.{Answer}
use Rattle.group_calls.specs.declared.event.Answer.TheVariants as answered
use Rattle.group_calls.specs.declared.event.Cause.{Cause}
use Rattle.group_calls.specs.declared.event.Cause.TheVariants.{Pending, Block}
use Rattle.group_calls.specs.declared.event.Event.{Event}
use Rattle.group_calls.specs.declared.event.Event.TheVariants as event
use Rattle.transcript_text.specs.declared.form.Form.{Form}
use Rattle.transcript_text.specs.declared.form.Form.TheVariants as form
use Rattle.transcript_text.specs.declared.kind.Kind.{Kind}
use Rattle.transcript_text.specs.declared.kind.Kind.TheVariants as kind

-- bytes
abbrev pub AreBytes : List ℕ → Type 0
AreBytes bytes = All (λ b. b < 256) bytes

-- a reply whose flags have 32 bits and its other numbers 64, and whose value consists of bytes
abbrev pub FitsReply : Reply → Type 0
FitsReply (Value item) = (item.flags < 2 ^ 32) × (item.cas < 2 ^ 64) × AreBytes item.value
FitsReply (Number n) = n < 2 ^ 64
FitsReply _ = ⊤

-- a cause whose partition or block has 32 bits, and its number 64
abbrev pub FitsCause : Cause → Type 0
FitsCause (Pending partition number) = (partition.0 < 2 ^ 32) × (number < 2 ^ 64)
FitsCause (Block block) = block < 2 ^ 32

-- an answer whose numbers are within these limits
abbrev pub FitsAnswer : Answer → Type 0
FitsAnswer (answered.Reply reply) = FitsReply reply
FitsAnswer (answered.Ticket number) = number < 2 ^ 64
FitsAnswer (answered.Retry cause) = FitsCause cause
FitsAnswer (answered.Stale call) = call < 2 ^ 64
FitsAnswer _ = ⊤

-- the kind of an ask, by its act
abbrev pub kind_of_act : Act → Kind
kind_of_act (Get _) = kind.Read
kind_of_act (Delete _) = kind.Alter
kind_of_act (Touch _ _) = kind.Alter
kind_of_act _ = kind.Store

-- the kind of an event
abbrev pub kind_of_event : Event → Kind
kind_of_event (event.Ask _ op _) = kind_of_act op.act
kind_of_event (event.Collect _ _ _) = kind.Collect
kind_of_event (event.Deliver _ _) = kind.Deliver
kind_of_event (event.Fail _ _) = kind.Fail
kind_of_event (event.Flush _) = kind.Flush
kind_of_event (event.Trace _ _ _ _) = kind.Trace

-- the form of an answer
abbrev pub form_of : Answer → Form
form_of (answered.Reply _) = form.Reply
form_of (answered.Ticket _) = form.Ticket
form_of answered.NotYet = form.NotYet
form_of answered.NoSpace = form.NoSpace
form_of (answered.Retry _) = form.Retry
form_of answered.Moved = form.Moved
form_of answered.Lost = form.Lost
form_of answered.Down = form.Down
form_of answered.Idle = form.Idle
form_of answered.Stranger = form.Stranger
form_of answered.Done = form.Done
form_of answered.AlreadyDead = form.AlreadyDead
form_of answered.Gone = form.Gone
form_of (answered.Stale _) = form.Stale

-- the forms of the answers that an event of a kind can have: only an update has a ticket, and only one that may store a value
-- finds no space
abbrev pub can_have : Kind → Form → Bool
can_have kind.Read form.Reply = true
can_have kind.Read form.Retry = true
can_have kind.Read form.Moved = true
can_have kind.Read form.Lost = true
can_have kind.Read form.Down = true
can_have kind.Alter form.Reply = true
can_have kind.Alter form.Ticket = true
can_have kind.Alter form.Retry = true
can_have kind.Alter form.Moved = true
can_have kind.Alter form.Lost = true
can_have kind.Alter form.Down = true
can_have kind.Store form.Reply = true
can_have kind.Store form.Ticket = true
can_have kind.Store form.Retry = true
can_have kind.Store form.NoSpace = true
can_have kind.Store form.Moved = true
can_have kind.Store form.Lost = true
can_have kind.Store form.Down = true
can_have kind.Collect form.Reply = true
can_have kind.Collect form.NotYet = true
can_have kind.Collect form.Stranger = true
can_have kind.Collect form.Lost = true
can_have kind.Collect form.Down = true
can_have kind.Deliver form.Done = true
can_have kind.Deliver form.Idle = true
can_have kind.Deliver form.Down = true
can_have kind.Fail form.Done = true
can_have kind.Fail form.AlreadyDead = true
can_have kind.Flush form.Done = true
can_have kind.Flush form.Lost = true
can_have kind.Flush form.Down = true
can_have kind.Trace form.Reply = true
can_have kind.Trace form.NotYet = true
can_have kind.Trace form.Stale = true
can_have kind.Trace form.Gone = true
can_have kind.Trace form.Moved = true
can_have kind.Trace form.Lost = true
can_have kind.Trace form.Down = true
can_have _ _ = false

-- an event of this kind can have this answer
abbrev pub MayAnswer : Kind → Answer → Type 0
MayAnswer kind answer = can_have kind (form_of answer) ≡ true

-- an answer of this form has neither a reply nor a number
abbrev pub is_bare : Form → Bool
is_bare form.Reply = false
is_bare form.Ticket = false
is_bare form.Retry = false
is_bare form.Stale = false
is_bare _ = true

-- a reply that is a word alone
abbrev pub is_word : Reply → Bool
is_word (Value _) = false
is_word (Number _) = false
is_word _ = true
