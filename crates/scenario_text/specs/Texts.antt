use Rattle.std.specs.Prelude.{ℕ, ℤ, suc, pos, negsuc, ◌==◌, List, [], ◌∷◌, ◌++◌, codes, Option, Some, None, if◌then◌else◌}
use Rattle.std.specs.Fmt.{decimal, signed_decimal}
use Rattle.group_types.specs.declared.run.Run.{Run}
use Rattle.hex.specs.Hex.{encode_lower}
use Rattle.memc_table.specs.declared.act.Act.{Act}
use Rattle.memc_table.specs.declared.act.Act.TheVariants.{Get, Set, Add, Replace, Cas, Delete, Touch, Append, Prepend, Incr, Decr}
use Rattle.group_calls.specs.declared.entry.Entry.{Entry}
use Rattle.group_calls.specs.declared.event.Answer.{Answer}
use Rattle.group_calls.specs.declared.event.Answer.TheVariants as answered
use Rattle.group_calls.specs.declared.event.Cause.{Cause}
use Rattle.group_calls.specs.declared.event.Cause.TheVariants.{Pending, Block}
use Rattle.memc_table.specs.declared.reply.Reply.{Reply}
use Rattle.memc_table.specs.declared.reply.Reply.TheVariants.{Value, Miss, Stored, NotStored, Exists, NotFound, Deleted, Touched, Number, NotNumber, TooLarge}

-- a value: lower-case hexadecimal digits, or `-` for no bytes
abbrev pub value_text : List ℕ → List ℕ
value_text [] = codes "-"
value_text (b ∷ bs) = encode_lower (b ∷ bs)

-- a number word with the space before it
abbrev pub spaced_number : ℕ → List ℕ
spaced_number n = codes " " ++ decimal n

-- a reply
abbrev pub reply_words : Reply → List ℕ
reply_words (Value item) = codes "value" ++ spaced_number item.flags ++ spaced_number item.cas ++ codes " " ++ value_text item.value
reply_words (Number n) = codes "number " ++ decimal n
reply_words Miss = codes "miss"
reply_words Stored = codes "stored"
reply_words NotStored = codes "not_stored"
reply_words Exists = codes "exists"
reply_words NotFound = codes "not_found"
reply_words Deleted = codes "deleted"
reply_words Touched = codes "touched"
reply_words NotNumber = codes "not_number"
reply_words TooLarge = codes "too_large"

-- why a call has to be asked again
abbrev pub cause_text : Cause → List ℕ
cause_text (Pending partition number) = codes "retry pending" ++ spaced_number partition.0 ++ spaced_number number
cause_text (Block block) = codes "retry block " ++ decimal block

-- an answer
abbrev pub answer_text : Answer → List ℕ
answer_text (answered.Reply reply) = codes "reply " ++ reply_words reply
answer_text (answered.Ticket number) = codes "ticket " ++ decimal number
answer_text (answered.Retry cause) = cause_text cause
answer_text (answered.Stale call) = codes "stale " ++ decimal call
answer_text answered.NotYet = codes "not_yet"
answer_text answered.NoSpace = codes "no_space"
answer_text answered.Moved = codes "moved"
answer_text answered.Lost = codes "lost"
answer_text answered.Down = codes "down"
answer_text answered.Idle = codes "idle"
answer_text answered.Stranger = codes "stranger"
answer_text answered.Done = codes "done"
answer_text answered.AlreadyDead = codes "already_dead"
answer_text answered.Gone = codes "gone"

-- an exptime behind a value, where it is not 0
abbrev pub expiry_text : ℤ → List ℕ
expiry_text (pos e) = if e == 0 then [] else codes " " ++ signed_decimal (pos e)
expiry_text (negsuc e) = codes " " ++ signed_decimal (negsuc e)

-- an op's name and its key, and then its flags
abbrev pub flagged_text : List ℕ → List ℕ → ℕ → List ℕ
flagged_text name key flags = name ++ key ++ spaced_number flags

-- words, and then a value and its exptime
abbrev pub stored_text : List ℕ → ℤ → List ℕ → List ℕ
stored_text front expiry value = front ++ codes " " ++ value_text value ++ expiry_text expiry

-- an op in script form
abbrev pub act_text : Act → List ℕ
act_text (Get key) = codes "get " ++ key
act_text (Set key flags expiry value) = stored_text (flagged_text (codes "set ") key flags) expiry value
act_text (Add key flags expiry value) = stored_text (flagged_text (codes "add ") key flags) expiry value
act_text (Replace key flags expiry value) = stored_text (flagged_text (codes "replace ") key flags) expiry value
act_text (Cas key flags expiry cas value) = stored_text (flagged_text (codes "cas ") key flags ++ spaced_number cas) expiry value
act_text (Delete key) = codes "delete " ++ key
act_text (Touch key expiry) = codes "touch " ++ key ++ (codes " " ++ signed_decimal expiry)
act_text (Append key value) = stored_text (codes "append " ++ key) (pos 0) value
act_text (Prepend key value) = stored_text (codes "prepend " ++ key) (pos 0) value
act_text (Incr key by) = codes "incr " ++ key ++ spaced_number by
act_text (Decr key by) = codes "decr " ++ key ++ spaced_number by

-- the moment of a call, where it is not 0
abbrev pub moment_text : ℕ → List ℕ
moment_text moment = if moment == 0 then [] else codes " @" ++ decimal moment

-- the name of a call and its moment, at the head of a line of the log
abbrev pub name_text : ℕ → ℕ → ℕ → List ℕ
name_text caller call moment = codes "= " ++ decimal caller ++ (codes "." ++ decimal call) ++ moment_text moment ++ codes " "

-- an entry of the log
abbrev pub entry_text : Entry → List ℕ
entry_text entry = name_text entry.caller entry.call entry.op.moment ++ act_text entry.op.act ++ codes " " ++ reply_words entry.reply

-- entries of the log, each on a line
abbrev pub entries_text : List Entry → List ℕ
entries_text [] = []
entries_text (entry ∷ entries) = entry_text entry ++ 10 ∷ entries_text entries

-- numbers, each behind a comma
abbrev pub behind_commas : List ℕ → List ℕ
behind_commas [] = []
behind_commas (n ∷ ns) = codes "," ++ decimal n ++ behind_commas ns

-- the run of an update of a partition, by its number
abbrev pub place_text : ℕ → ℕ → Run → List ℕ
place_text partition number run = codes "place" ++ spaced_number partition ++ spaced_number number ++ spaced_number run.at ++ spaced_number run.len

-- the runs of a partition's updates behind this number, each on a line; an update that has none has no line
abbrev pub places_text : ℕ → ℕ → List (Option Run) → List ℕ
places_text partition number [] = []
places_text partition number (None ∷ runs) = places_text partition (suc number) runs
places_text partition number (Some run ∷ runs) = place_text partition (suc number) run ++ 10 ∷ places_text partition (suc number) runs

-- how many lines these are
abbrev pub many_placed : List (Option Run) → ℕ
many_placed [] = 0
many_placed (None ∷ runs) = many_placed runs
many_placed (Some run ∷ runs) = suc (many_placed runs)

-- the numbers of a stamp, joined by commas
abbrev pub stamp_text : List ℕ → List ℕ
stamp_text [] = []
stamp_text (n ∷ ns) = decimal n ++ behind_commas ns

-- what a process shows: its stamp, and the bytes of a run
abbrev pub shown_text : List ℕ → List ℕ → List ℕ
shown_text stamp bytes = codes "shown " ++ stamp_text stamp ++ codes " " ++ value_text bytes
