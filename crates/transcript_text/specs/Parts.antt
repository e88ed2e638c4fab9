-- The parts of replies, answers and stamps, as they are read.
use Rattle.std.specs.Borrow.{Bor}
use Rattle.std.specs.Prelude.{ℕ, ◌≡◌, ◌≢◌, ◌<◌, ◌≤◌, ◌^◌, ◌⊎◌, Bool, true, false, List, [], ◌∷◌, ◌++◌, codes, length, All, Option, Some, None}
use Rattle.std.specs.Fmt.{decimal}
use Rattle.memc_table.specs.declared.reply.Item.{Item}
use Rattle.memc_table.specs.declared.reply.Reply.{Reply}
use Rattle.memc_table.specs.declared.reply.Reply.TheVariants.{Value, Number}
use Rattle.group_calls.specs.declared.event.Answer.{Answer}
use Rattle.group_calls.specs.declared.event.Cause.{Cause}
use Rattle.scenario_text.specs.Texts.{answer_text, cause_text, reply_words, spaced_number, stamp_text}
use Rattle.transcript_text.specs.Forms.{FitsReply, FitsAnswer, FitsCause, form_of, is_bare, is_word}
use Rattle.transcript_text.specs.Texts.{FitsNumber, IsReplyText, IsValueText}
use Rattle.transcript_text.specs.declared.form.Form.{Form}

-- a lower-case hexadecimal digit
abbrev pub IsLowerDigit : ℕ → Type 0
IsLowerDigit b = ((48 ≤ b) × (b ≤ 57)) ⊎ ((97 ≤ b) × (b ≤ 102))

-- a text is that of a reply that is a word
abbrev pub IsWordReply : List ℕ → Type 0
IsWordReply text = (reply : Reply) × (is_word reply ≡ true) × (reply_words reply ≡ text)

-- a text is that of a number
abbrev pub IsNumberReply : List ℕ → Type 0
IsNumberReply text = (n : ℕ) × FitsNumber n × (reply_words (Number n) ≡ text)

-- a text is that of an item
abbrev pub IsItemReply : List ℕ → Type 0
IsItemReply text = (item : Item) × FitsReply (Value item) × (reply_words (Value item) ≡ text)

-- the flags and the cas number of an item within their limits
abbrev pub FitsFront : ℕ → ℕ → Type 0
FitsFront flags cas = (flags < 2 ^ 32) × (cas < 2 ^ 64)

-- the text of an item whose value has this word
abbrev pub item_words : ℕ → ℕ → List ℕ → List ℕ
item_words flags cas word = codes "value" ++ spaced_number flags ++ spaced_number cas ++ codes " " ++ word

-- a text is read as that of an item, with the word of its value
abbrev pub IsItemFront : List ℕ → Option (Bor (List ℕ)) → Type 0
IsItemFront text (Some word) = (flags : ℕ) × (cas : ℕ) × FitsFront flags cas × (item_words flags cas word.now ≡ text)
IsItemFront text None = (flags cas : ℕ) (word : List ℕ) → FitsFront flags cas → item_words flags cas word ≢ text

-- a line is the text of an answer of this form
abbrev pub HasForm : List ℕ → Form → Type 0
HasForm line form = (answer : Answer) × FitsAnswer answer × (answer_text answer ≡ line) × (form_of answer ≡ form)

-- a line is read as an answer by its form
abbrev pub IsForm : List ℕ → Option Form → Type 0
IsForm line (Some form) = HasForm line form
IsForm line None = (answer : Answer) → FitsAnswer answer → answer_text answer ≢ line

-- a line is read as an answer that has neither a reply nor a number
abbrev pub IsBareForm : List ℕ → Option Form → Type 0
IsBareForm line (Some form) = HasForm line form
IsBareForm line None = (answer : Answer) → is_bare (form_of answer) ≡ true → answer_text answer ≢ line

-- a text is read as a stamp of as many numbers as there are
abbrev pub IsStamp : List ℕ → List ℕ → Bool → Type 0
IsStamp text stamp true = stamp_text stamp ≡ text
IsStamp text stamp false = (other : List ℕ) → length other ≡ length stamp → All FitsNumber other → stamp_text other ≢ text
