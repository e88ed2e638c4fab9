-- Which bytes are which answer to what was asked for an item.
use Rattle.std.specs.Prelude.{ℕ, ◌≡◌, ◌-◌, List, ◌++◌, length, codes, ⊤}
use Rattle.memc_proto.specs.Text.{next_number}
use Rattle.carry_words.specs.declared.answering.Found.{Found}
use Rattle.carry_words.specs.declared.heard.Heard.{Heard}
use Rattle.carry_words.specs.declared.heard.Heard.TheVariants as heard
use Rattle.carry_words.specs.declared.listed.Listed.{Listed}

-- how the answer begins that has an item with the flags and the length that were listed
abbrev pub head_text : Listed → List ℕ
head_text item = codes "VALUE " ++ item.key ++ next_number item.flags ++ next_number item.length ++ codes "\r\n"

abbrev pub tail_text : List ℕ
tail_text = codes "\r\nEND\r\n"

-- behind a head stands a value of so many bytes with what ends the answer, and then what is left
pub record IsRest (count : ℕ) (value text left : List ℕ) : Type 0 where
  pub is : text ≡ (value ++ tail_text) ++ left
  pub long : length value ≡ count

-- an answer to what was asked for an item is these bytes
abbrev pub Answers : Listed → Heard → List ℕ → Type 0
Answers item (heard.Found value) text = (text ≡ head_text item ++ (value ++ tail_text)) × (length value ≡ item.length)
Answers item heard.Missing text = text ≡ codes "END\r\n"
Answers item heard.Stored text = text ≡ codes "STORED\r\n"
Answers item _ text = ⊤

-- a text begins with an answer of so many bytes
pub record IsHeard (item : Listed) (text : List ℕ) (found : Found) : Type 0 where
  pub answer : List ℕ
  pub left : List ℕ
  pub is : text ≡ answer ++ left
  pub count : found.count ≡ length text - length left
  pub answers : Answers item found.heard answer
