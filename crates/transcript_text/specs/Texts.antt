-- The texts that are read, by what is read of them.
use Rattle.std.specs.Borrow.{Bor}
use Rattle.std.specs.Prelude.{ℕ, ◌≡◌, ◌≢◌, ◌<◌, ◌≤◌, ◌^◌, List, ◌∷◌, ◌++◌, codes, length, All, Option, Some, None}
use Rattle.std.specs.Fmt.{decimal}
use Rattle.group_types.specs.Dimensions.{callers}
use Rattle.group_types.specs.declared.run.Run.{Run}
use Rattle.memc_table.specs.declared.reply.Reply.{Reply}
use Rattle.group_calls.specs.Within.{IsTaken}
use Rattle.group_calls.specs.declared.event.Answer.{Answer}
use Rattle.group_calls.specs.declared.event.Answer.TheVariants as answered
use Rattle.scenario_text.specs.Texts.{answer_text, name_text, place_text, reply_words, stamp_text, value_text}
use Rattle.transcript_text.specs.Forms.{AreBytes, FitsReply, FitsAnswer, MayAnswer}
use Rattle.transcript_text.specs.declared.answer.Said.{Said}
use Rattle.transcript_text.specs.declared.answer.Said.TheVariants as said
use Rattle.transcript_text.specs.declared.kind.Kind.{Kind}
use Rattle.transcript_text.specs.declared.name.Name.{Name}
use Rattle.transcript_text.specs.declared.place.Place.{Place}

-- a number of 64 bits
abbrev pub FitsNumber : ℕ → Type 0
FitsNumber n = n < 2 ^ 64

-- a word is the text of a value
abbrev pub IsValueText : List ℕ → Type 0
IsValueText word = (bytes : List ℕ) × AreBytes bytes × (value_text bytes ≡ word)

-- a text is that of a reply
abbrev pub IsReplyText : List ℕ → Type 0
IsReplyText text = (reply : Reply) × FitsReply reply × (reply_words reply ≡ text)

-- what is told of an answer
abbrev pub Tells : Said → Answer → Type 0
Tells (said.Reply text) answer = (reply : Reply) × (answer ≡ answered.Reply reply) × (reply_words reply ≡ text.now)
Tells said.Ticket answer = (number : ℕ) × (answer ≡ answered.Ticket number)
Tells said.Other answer = ¬ (IsTaken answer)

-- a line is read as an answer that an event of this kind can have
abbrev pub IsSaid : Kind → List ℕ → Option Said → Type 0
IsSaid kind line (Some said) = (answer : Answer) × MayAnswer kind answer × FitsAnswer answer × (answer_text answer ≡ line) × Tells said answer
IsSaid kind line None = (answer : Answer) → MayAnswer kind answer → FitsAnswer answer → answer_text answer ≢ line

-- the name of a call within its limits
abbrev pub FitsName : Name → Type 0
FitsName name = (name.caller < callers) × (name.call < 2 ^ 64)

-- what a line of the log begins with: the name of its call
abbrev pub text_of_name : Name → List ℕ
text_of_name name = name_text name.caller name.call 0

-- what is behind a name is an op and then this reply
abbrev pub TellsReply : List ℕ → List ℕ → Type 0
TellsReply rest reply = (op : List ℕ) × (rest ≡ op ++ 32 ∷ reply)

-- a place within its limits
abbrev pub FitsPlace : Place → Type 0
FitsPlace place = (place.partition < 2 ^ 32) × (place.number < 2 ^ 64) × (place.run.at < 2 ^ 32) × (place.run.len < 2 ^ 32)

-- the text of a place that is read
abbrev pub text_of_place : Place → List ℕ
text_of_place place = place_text place.partition place.number place.run

-- a line shows a stamp, and then the word of a value
abbrev pub ShowsValue : List ℕ → List ℕ → List ℕ → Type 0
ShowsValue line stamp value = codes "shown " ++ stamp_text stamp ++ codes " " ++ value ≡ line

-- a line shows no stamp of so many numbers
abbrev pub ShowsNone : List ℕ → ℕ → Type 0
ShowsNone line many = (stamp value : List ℕ) → length stamp ≡ many → All FitsNumber stamp → ¬ (ShowsValue line stamp value)
