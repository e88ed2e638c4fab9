-- What judging a line comes to.
use Rattle.std.specs.Prelude.{ℕ, ◌≡◌, ◌≢◌, ◌≤◌, ◌+◌, Bool, true, false, List, [], All, Option, Some, None, Result, Ok, Err, ⊤, slice_get, option_and_then}
use Rattle.group_types.specs.Dimensions.{Dimensions, space_of}
use Rattle.group_types.specs.Names.{IsProcess}
use Rattle.group_calls.specs.declared.event.Event.{Event}
use Rattle.group_calls.specs.declared.event.Event.TheVariants as happens
use Rattle.group_types.specs.Lists.{at}
use Rattle.memc_table.specs.Asked.{Asked}
use Rattle.memc_table.specs.Contents.{Contents, reply_of, table_after}
use Rattle.memc_table.specs.declared.reply.Reply.{Reply}
use Rattle.group_calls.specs.declared.entry.Entry.{Entry}
use Rattle.group_calls.specs.declared.event.Answer.{Answer}
use Rattle.scenario_text.specs.Texts.{entry_text, reply_words}
use Rattle.transcript_text.specs.Forms.{FitsReply}
use Rattle.transcript_text.specs.declared.name.Name.{Name}
use Rattle.run_verify.specs.Passing.{Account, LineTellsEntry, LogsAhead, TellsAnswer, after_answer, entry_front, next_call_name}
use Rattle.run_verify.specs.Plain.{IsEventInRange}
use Rattle.run_verify.specs.Steps.{Setting}
use Rattle.run_verify.specs.declared.call.Call.{Call}
use Rattle.run_verify.specs.declared.step.Step.{Step}
use Rattle.run_verify.specs.declared.step.Step.TheVariants.{Make, Deliveries, Look, Placing}

-- a judgement: what comes next is good, or nothing is; want of memory may come at any time
abbrev pub Judges : {X E : Type 0} → (X → Type 0) → X → Result Bool E → Type 0
Judges Good now (Ok true) = Good now
Judges Good now (Ok false) = (next : _) → ¬ (Good next)
Judges Good now (Err _) = ⊤

-- a step of a script of this group
abbrev pub IsStepOf : Dimensions → Step → Type 0
IsStepOf s (Make event) = IsEventInRange event
IsStepOf s (Look p run) = IsProcess s p × (run.at + run.len ≤ space_of s)
IsStepOf s Deliveries = ⊤
IsStepOf s Placing = ⊤

-- steps that were read, of the group that is named
abbrev pub AreStepsOf : Option Setting → List Step → Type 0
AreStepsOf None steps = steps ≡ []
AreStepsOf (Some setting) steps = All (IsStepOf setting.shape) steps

-- the reply of a call's entry, once it was logged, where these are the callers' calls
abbrev pub reply_logged : List (List Call) → ℕ → ℕ → Option Reply
reply_logged calls caller call = option_and_then (λ c. c.reply) (slice_get (at [] calls caller) call)

-- what comes next behind an event's answer
abbrev pub IsAnswerJudged : Account → Event → List ℕ → List (List ℕ) → Account → Type 0
IsAnswerJudged a event line ahead next = (answer : Answer) × TellsAnswer a event line ahead answer × (next ≡ after_answer a event answer)

-- a text is that of the reply of a call's entry: logged before, or else right ahead
abbrev pub IsTextThere : Option Reply → List ℕ → List ℕ → List (List ℕ) → Type 0
IsTextThere (Some logged) front text ahead = FitsReply logged × (reply_words logged ≡ text)
IsTextThere None front text ahead = LogsAhead front text ahead

-- so it is of the call of an event
abbrev pub TellsReplyTo : Account → Event → List ℕ → List (List ℕ) → Type 0
TellsReplyTo a (happens.Ask caller _ _) text ahead = LogsAhead (entry_front (next_call_name a caller)) text ahead
TellsReplyTo a (happens.Collect caller call _) text ahead = IsTextThere (reply_logged a.calls caller call)
    (entry_front (record { caller = caller; call = call })) text ahead
TellsReplyTo a (happens.Trace caller call _ _) text ahead = IsTextThere (reply_logged a.calls caller call)
    (entry_front (record { caller = caller; call = call })) text ahead
TellsReplyTo a (happens.Deliver _ _) text ahead = ⊥
TellsReplyTo a (happens.Fail _ _) text ahead = ⊥
TellsReplyTo a (happens.Flush _) text ahead = ⊥

-- the op of a call that may take effect and isn't logged yet
abbrev pub open_if : Bool → Option Reply → Asked → Option Asked
open_if true None op = Some op
open_if true (Some reply) op = None
open_if false reply op = None

abbrev pub open_op : Call → Option Asked
open_op call = open_if call.taken call.reply call.op

abbrev pub open_in : List (List Call) → ℕ → ℕ → Option Asked
open_in calls caller call = option_and_then open_op (slice_get (at [] calls caller) call)

-- an account with another table
abbrev pub with_table : Account → Contents → Account
with_table a table = record { calls = a.calls; table = table; changes = a.changes; entries = a.entries; placed = a.placed; shown = a.shown }

-- the next entry was read from a line, and applied to the table; or the line tells none
abbrev pub HasReadEntry : Account → List ℕ → Account → Option Entry → Type 0
HasReadEntry before line now (Some e) = LineTellsEntry before line e × (now ≡ with_table before (table_after before.table e.op))
HasReadEntry before line now None = (e : Entry) → ¬ (LineTellsEntry before line e)

-- the entry of a call on the table
abbrev pub entry_on : Account → Name → Asked → Entry
entry_on a name op = record { caller = name.caller; call = name.call; op = op; reply = reply_of a.table op }

-- an entry is told by a line that is its text
abbrev pub IsEntryTold : Entry → List ℕ → Option Entry → Type 0
IsEntryTold e line (Some told) = (told ≡ e) × (line ≡ entry_text e)
IsEntryTold e line None = line ≢ entry_text e

-- an op was applied to the table, and its entry is the line's, within its limits; or the line isn't that entry's
abbrev pub HasAppliedOp : Account → Name → Asked → List ℕ → Account → Option Entry → Type 0
HasAppliedOp before name op line now (Some e) = (e ≡ entry_on before name op) × FitsReply e.reply
    × (line ≡ entry_text e) × (now ≡ with_table before (table_after before.table op))
HasAppliedOp before name op line now None = line ≢ entry_text (entry_on before name op)
