-- Which lines of a transcript pass, one after the other, and which is the first that fails.
use Rattle.std.specs.Prelude.{ℕ, zero, suc, ◌≡◌, ◌≢◌, ◌<◌, ◌≤◌, ◌+◌, ◌^◌, ◌==◌, ◌⊎◌, Bool, true, false, All, List, []}
use Rattle.std.specs.Prelude.{◌∷◌, ◌++◌, codes, drop, length, replicate, slice_get, take, Option, Some, None}
use Rattle.std.specs.Prelude.{option_and_then, ⊤}
use Rattle.group_types.specs.Dimensions.{Dimensions, callers, space_of}
use Rattle.group_types.specs.Hash.{home_of}
use Rattle.group_types.specs.Lists.{at, put}
use Rattle.group_types.specs.declared.process.ProcessId.{ProcessId}
use Rattle.group_types.specs.declared.run.Run.{Run}
use Rattle.memc_table.specs.Act.{key_of}
use Rattle.memc_table.specs.Contents.{Contents, empty_table, reply_of, table_after}
use Rattle.memc_table.specs.declared.act.Act.{Act}
use Rattle.memc_table.specs.declared.holding.Holding.{Holding}
use Rattle.memc_table.specs.declared.reply.Reply.{Reply}
use Rattle.group_calls.specs.Turns.{CallName, accepts}
use Rattle.group_calls.specs.declared.entry.Entry.{Entry}
use Rattle.group_calls.specs.declared.event.Answer.{Answer}
use Rattle.group_calls.specs.declared.event.Answer.TheVariants as answered
use Rattle.group_calls.specs.declared.event.Event.{Event}
use Rattle.group_calls.specs.declared.event.Event.TheVariants as happens
use Rattle.memc_table.specs.declared.act.Act.TheVariants.{Delete, Touch}
use Rattle.scenario_text.specs.Texts.{answer_text, entry_text, name_text, place_text, reply_words, shown_text}
use Rattle.transcript_text.specs.Texts.{FitsNumber}
use Rattle.transcript_text.specs.Forms.{FitsAnswer, FitsReply, MayAnswer, kind_of_event}
use Rattle.run_verify.specs.Sheet.{Sheet}
use Rattle.run_verify.specs.Steps.{Script}
use Rattle.run_verify.specs.Told.{drained_line, placed_line}
use Rattle.run_verify.specs.Changes.{run_after_changes, space_behind}
use Rattle.run_verify.specs.Updates.{IsClearRun, IsStampOf, shown_at}
use Rattle.run_verify.specs.declared.call.Call.{Call}
use Rattle.run_verify.specs.declared.change.Change.{Change}
use Rattle.run_verify.specs.declared.change.Effect.{Effect}
use Rattle.run_verify.specs.declared.change.Effect.TheVariants.{Writes, Removes, Keeps}
use Rattle.run_verify.specs.declared.step.Step.{Step}
use Rattle.run_verify.specs.declared.step.Step.TheVariants.{Make, Deliveries, Look, Placing}

-- what the lines before have told: the calls of each caller in order, the table that the log leaves, each partition's
-- updates, and how many entries, place lines and lines with shown bytes there were
pub record Account : Type 0 where
  pub calls : List (List Call)
  pub table : Contents
  pub changes : List (List Change)
  pub entries : ℕ
  pub placed : ℕ
  pub shown : ℕ

-- what is checked next: the steps in turn and to come, and whether log lines may come that belong to the event before
pub record JudgingState : Type 0 where
  pub account : Account
  pub steps : List Step
  pub logging : Bool

-- before the first line
abbrev pub first_account : ℕ → Account
first_account k = record { calls = replicate callers []; table = empty_table k; changes = replicate k []; entries = 0; placed = 0; shown = 0 }

abbrev pub first_state : Script → JudgingState
first_state script = record { account = first_account script.shape.k; steps = script.steps; logging = false }

-- the call of a name, if it was asked
abbrev pub call_named : Account → CallName → Option Call
call_named a name = slice_get (at [] a.calls name.caller) name.call

-- the reply of its entry, if it was logged
abbrev pub logged_reply : Account → CallName → Option Reply
logged_reply a name = option_and_then (λ call. call.reply) (call_named a name)

-- the name of a caller's next call
abbrev pub next_call_name : Account → ℕ → CallName
next_call_name a caller = record { caller = caller; call = length (at [] a.calls caller) }

-- the changes of a partition
abbrev pub changes_at : Account → ℕ → List Change
changes_at a d = at [] a.changes d

-- a line that begins as the lines of the log do
abbrev pub begins_entry : List ℕ → Bool
begins_entry [] = false
begins_entry (b ∷ bs) = b == 61

-- how the line of a call's entry begins
abbrev pub entry_front : CallName → List ℕ
entry_front name = name_text name.caller name.call 0

-- a line that begins so
abbrev pub IsFrontOf : List ℕ → List ℕ → Type 0
IsFrontOf front line = (rest : List ℕ) × (line ≡ front ++ rest)

-- a line that begins so, and ends with the text of this reply
abbrev pub BeginsAndEnds : List ℕ → List ℕ → List ℕ → Type 0
BeginsAndEnds front reply line = (op : List ℕ) × (line ≡ front ++ (op ++ 32 ∷ reply))

-- of the lines of the log right ahead, the first that begins so ends with the text of this reply
abbrev pub LogsAhead : List ℕ → List ℕ → List (List ℕ) → Type 0
LogsAhead front reply [] = ⊥
LogsAhead front reply (line ∷ lines) = (begins_entry line ≡ true)
    × (BeginsAndEnds front reply line ⊎ ((¬ (IsFrontOf front line)) × LogsAhead front reply lines))

-- the entry of a call is there with this reply: logged before, or else right ahead
abbrev pub IsEntryThere : Option Reply → CallName → Reply → List (List ℕ) → Type 0
IsEntryThere (Some logged) name reply ahead = logged ≡ reply
IsEntryThere None name reply ahead = LogsAhead (entry_front name) (reply_words reply) ahead

-- a reply is the one of its call's entry; that of an ask is logged by its own event
abbrev pub IsReplyTo : Account → Event → Reply → List (List ℕ) → Type 0
IsReplyTo a (happens.Ask caller _ _) reply ahead = LogsAhead (entry_front (next_call_name a caller)) (reply_words reply) ahead
IsReplyTo a (happens.Collect caller call _) reply ahead =
    IsEntryThere (logged_reply a (record { caller = caller; call = call })) (record { caller = caller; call = call })
    reply ahead
IsReplyTo a (happens.Trace caller call _ _) reply ahead =
    IsEntryThere (logged_reply a (record { caller = caller; call = call })) (record { caller = caller; call = call })
    reply ahead
IsReplyTo a (happens.Deliver _ _) reply ahead = ⊥
IsReplyTo a (happens.Fail _ _) reply ahead = ⊥
IsReplyTo a (happens.Flush _) reply ahead = ⊥

-- of other answers nothing is asked
abbrev pub IsAnswerRight : Account → Event → Answer → List (List ℕ) → Type 0
IsAnswerRight a event (answered.Reply reply) ahead = IsReplyTo a event reply ahead
IsAnswerRight a event _ ahead = ⊤

-- a line tells the answer of an event
pub record TellsAnswer (a : Account) (event : Event) (line : List ℕ) (ahead : List (List ℕ)) (answer : Answer) : Type 0 where
  pub can : MayAnswer (kind_of_event event) answer
  pub fits : FitsAnswer answer
  pub text : line ≡ answer_text answer
  pub right : IsAnswerRight a event answer ahead

-- an answer by which a call takes effect, or may
abbrev pub takes_effect : Answer → Bool
takes_effect (answered.Reply _) = true
takes_effect (answered.Ticket _) = true
takes_effect _ = false

-- the account with another call
abbrev pub with_call_added : Account → ℕ → Call → Account
with_call_added a caller call = record {
  calls = put [] a.calls caller (at [] a.calls caller ++ call ∷ []);
  table = a.table;
  changes = a.changes;
  entries = a.entries;
  placed = a.placed;
  shown = a.shown;
}

-- the account behind an event's answer, by which a call takes effect or not
abbrev pub after_event : Account → Event → Bool → Account
after_event a (happens.Ask caller op _) taken = with_call_added a caller (record { op = op; taken = taken; reply = None })
after_event a _ taken = a

abbrev pub after_answer : Account → Event → Answer → Account
after_answer a event answer = after_event a event (takes_effect answer)

-- the run of a value of this length, by the first place line of the text that names this update, has this length and lies in
-- the space; none where there is no such line
abbrev pub RunFitsValue : Dimensions → ℕ → Run → Type 0
RunFitsValue s len run = (run.len ≡ len) × (run.at + run.len ≤ space_of s)

abbrev pub IsRunIn : List (List ℕ) → Dimensions → ℕ → ℕ → ℕ → Option Run → Type 0
IsRunIn [] s d number len found = found ≡ None
IsRunIn (line ∷ lines) s d number len found =
    ((run : Run) × (line ≡ place_text d number run) × RunFitsValue s len run × (found ≡ Some run))
    ⊎ (((run : Run) → line ≡ place_text d number run → ¬ (RunFitsValue s len run)) × IsRunIn lines s d number len found)

-- a line tells the next entry of the log: of a call that was asked, with its op, that may take effect and isn't logged yet, and
-- with the table's reply, within its limits
pub record LineTellsEntry (a : Account) (line : List ℕ) (e : Entry) : Type 0 where
  pub text : line ≡ entry_text e
  pub call : call_named a (record { caller = e.caller; call = e.call }) ≡ Some (record { op = e.op; taken = true; reply = None })
  pub reply : e.reply ≡ reply_of a.table e.op
  pub fits : FitsReply e.reply
  pub named : (e.caller < callers) × (e.call < 2 ^ 64)

-- the calls with a reply at one of them
abbrev pub with_reply : List Call → ℕ → Reply → List Call
with_reply [] n reply = []
with_reply (call ∷ calls) zero reply = record { op = call.op; taken = call.taken; reply = Some reply } ∷ calls
with_reply (call ∷ calls) (suc n) reply = call ∷ with_reply calls n reply

-- the value that a table has at a key
abbrev pub value_in : Option Holding → List ℕ
value_in None = []
value_in (Some holding) = holding.item.value

-- what an act does that is accepted, where it leaves this value, which stands at this run
abbrev pub effect_of : Act → List ℕ → Option Run → Effect
effect_of (Delete _) value run = Removes
effect_of (Touch _ _) value run = Keeps
effect_of _ value run = Writes value run

-- the change that an entry makes, with its run
abbrev pub change_of : Account → Entry → Option Run → Change
change_of a e run = record { key = key_of e.op.act; effect = effect_of e.op.act (value_in ((table_after a.table e.op).items (key_of e.op.act))) run }

-- the changes with another one of partition d, where there is one
abbrev pub with_change : Bool → ℕ → Change → List (List Change) → List (List Change)
with_change true d change changes = put [] changes d (at [] changes d ++ change ∷ [])
with_change false d change changes = changes

-- the partition of an entry
abbrev pub entry_partition : Sheet → Entry → ℕ
entry_partition sheet e = home_of (key_of e.op.act) sheet.script.shape.k

-- the account behind an entry
abbrev pub account_after_entry : Sheet → Account → Entry → Option Run → Account
account_after_entry sheet a e run = record {
  calls = put [] a.calls e.caller (with_reply (at [] a.calls e.caller) e.call e.reply);
  table = table_after a.table e.op;
  changes = with_change (accepts e.reply) (entry_partition sheet e) (change_of a e run) a.changes;
  entries = a.entries + 1;
  placed = a.placed;
  shown = a.shown;
}

-- the run of a change is the one that the text tells, where it writes a value
abbrev pub IsToldFor : Sheet → ℕ → ℕ → Effect → Option Run → Type 0
IsToldFor sheet d number (Writes value found) run = IsRunIn sheet.lines sheet.script.shape d number (length value) run
IsToldFor sheet d number Removes run = ⊤
IsToldFor sheet d number Keeps run = ⊤

-- so is the run of an entry's change, which it makes where it is accepted
abbrev pub IsToldRun : Bool → Sheet → Account → Entry → Option Run → Type 0
IsToldRun true sheet a e run = IsToldFor sheet (entry_partition sheet e) (length (changes_at a (entry_partition sheet e)) + 1) (change_of a e run).effect run
IsToldRun false sheet a e run = ⊤

-- log lines may come behind an event's answer, and for deliveries
abbrev pub MayLog : JudgingState → Type 0
MayLog s = (s.logging ≡ true) ⊎ ((steps : List Step) × (s.steps ≡ Deliveries ∷ steps))

abbrev pub with_account : JudgingState → Account → JudgingState
with_account s a = record { account = a; steps = s.steps; logging = s.logging }

-- a log line passes
abbrev pub PassesEntry : Sheet → JudgingState → List ℕ → JudgingState → Type 0
PassesEntry sheet s line next =
    MayLog s × (e : Entry) × (run : Option Run) × LineTellsEntry s.account line e
    × IsToldRun (accepts e.reply) sheet s.account e run
    × (next ≡ with_account s (account_after_entry sheet s.account e run))

-- behind the last line of a step
abbrev pub on_to : Account → List Step → JudgingState
on_to a steps = record { account = a; steps = steps; logging = false }

-- a value that has to have a place line: its partition, its number, its run by the text, and the changes before
pub record DuePlace : Type 0 where
  pub partition : ℕ
  pub number : ℕ
  pub value : List ℕ
  pub run : Option Run
  pub before : List Change

-- what is due for a change: a place line for a value that is written
abbrev pub due_for : ℕ → List Change → Effect → List DuePlace → List DuePlace
due_for d before (Writes value run) more = record { partition = d; number = length before + 1; value = value; run = run; before = before } ∷ more
due_for d before Removes more = more
due_for d before Keeps more = more

-- what is due for partition d's changes behind others
abbrev pub due_places_of : ℕ → List Change → List Change → List DuePlace
due_places_of d before [] = []
due_places_of d before (change ∷ more) = due_for d before change.effect (due_places_of d (before ++ change ∷ []) more)

-- and for all partitions from d on, so many
abbrev pub dues_from : Account → ℕ → ℕ → List DuePlace
dues_from a d zero = []
dues_from a d (suc n) = due_places_of d [] (changes_at a d) ++ dues_from a (d + 1) n

-- a place line tells the run that is due, which is clear
pub record TellsRun (s : Dimensions) (due : DuePlace) (line : List ℕ) : Type 0 where
  pub run : Run
  pub is : due.run ≡ Some run
  pub text : line ≡ place_text due.partition due.number run
  pub clear : IsClearRun s (λ key. run_after_changes key None due.before) run (length due.value)

abbrev pub with_placed : Account → Account
with_placed a = record { calls = a.calls; table = a.table; changes = a.changes; entries = a.entries; placed = a.placed + 1; shown = a.shown }

abbrev pub with_shown : Account → Account
with_shown a = record { calls = a.calls; table = a.table; changes = a.changes; entries = a.entries; placed = a.placed; shown = a.shown + 1 }

-- the places: the run that is due, or how many there were where none is
abbrev pub PassesPlace : Sheet → Account → List Step → List DuePlace → List ℕ → JudgingState → Type 0
PassesPlace sheet a steps [] line next = (line ≡ placed_line a.placed) × (next ≡ on_to a steps)
PassesPlace sheet a steps (due ∷ dues) line next = TellsRun sheet.script.shape due line × (next ≡ on_to (with_placed a) (Placing ∷ steps))

-- a line that shows bytes
pub record TellsBytes (s : Dimensions) (a : Account) (p : ProcessId) (run : Run) (line : List ℕ) : Type 0 where
  pub stamp : List ℕ
  pub can : IsStampOf s (λ d. length (changes_at a d)) p stamp
  pub fits : All FitsNumber stamp
  pub text : line ≡ shown_text stamp (shown_at s (λ d n. space_behind s (take n (changes_at a d))) p run stamp)

-- a line passes for the step in turn
abbrev pub PassesStep : Sheet → Account → List Step → List ℕ → List (List ℕ) → JudgingState → Type 0
PassesStep sheet a [] line ahead next = ⊥
PassesStep sheet a (Make event ∷ steps) line ahead next =
    (answer : Answer) × TellsAnswer a event line ahead answer × (next ≡ record { account = after_answer a event answer; steps = steps; logging = true })
PassesStep sheet a (Deliveries ∷ steps) line ahead next = (n : ℕ) × (n < 2 ^ 64) × (line ≡ drained_line n) × (next ≡ on_to a steps)
PassesStep sheet a (Look p run ∷ steps) line ahead next =
    (TellsBytes sheet.script.shape a p run line × (next ≡ on_to (with_shown a) steps))
    ⊎ (((line ≡ codes "lost") ⊎ (line ≡ codes "down")) × (next ≡ on_to a steps))
PassesStep sheet a (Placing ∷ steps) line ahead next = PassesPlace sheet a steps (drop a.placed (dues_from a 0 sheet.script.shape.k)) line next

-- a line passes, with these ahead: as a log line where it begins so, and else for the step in turn
abbrev pub PassesBy : Bool → Sheet → JudgingState → List ℕ → List (List ℕ) → JudgingState → Type 0
PassesBy true sheet s line ahead next = PassesEntry sheet s line next
PassesBy false sheet s line ahead next = PassesStep sheet s.account s.steps line ahead next

abbrev pub Passes : Sheet → JudgingState → List ℕ → List (List ℕ) → JudgingState → Type 0
Passes sheet s line ahead next = PassesBy (begins_entry line) sheet s line ahead next

-- every line passes, and then nothing is lacking: the account at the end
abbrev pub PassAll : Sheet → JudgingState → List (List ℕ) → Account → Type 0
PassAll sheet s [] account = (s.steps ≡ []) × (s.account ≡ account)
PassAll sheet s (line ∷ lines) account = (next : JudgingState) × Passes sheet s line lines next × PassAll sheet next lines account

-- the n-th line, from 1, is the first that fails; a line that is lacking is the one behind the last
abbrev pub FailsAt : Sheet → ℕ → JudgingState → List (List ℕ) → Type 0
FailsAt sheet zero s lines = ⊥
FailsAt sheet (suc zero) s [] = s.steps ≢ []
FailsAt sheet (suc zero) s (line ∷ lines) = (next : JudgingState) → ¬ (Passes sheet s line lines next)
FailsAt sheet (suc (suc n)) s [] = ⊥
FailsAt sheet (suc (suc n)) s (line ∷ lines) = (next : JudgingState) × Passes sheet s line lines next × FailsAt sheet (suc n) next lines
