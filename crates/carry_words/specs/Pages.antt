-- What a line of a list of items says.
use Rattle.std.specs.Prelude.{ℕ, ◌≡◌, List, ◌∷◌, ◌++◌, codes, Option, Some, None, Result, Ok, ⊤}
use Rattle.hex.specs.Hex.{decode_of}
use Rattle.memc_table.specs.Numeral.{number_of}
use Rattle.carry_words.specs.declared.listed.Listed.{Listed}
use Rattle.carry_words.specs.declared.page.PageLine.{PageLine}
use Rattle.carry_words.specs.declared.page.PageLine.TheVariants.{Item, More, End, Other}

-- an until as a word, which is `-` where there is none
abbrev pub IsUntil : List ℕ → Option ℕ → Type 0
IsUntil word None = word ≡ codes "-"
IsUntil word (Some until) = number_of word ≡ Some until

-- words list this item, a space apart: its key in hexadecimal digits, its flags, its length, and its until
pub record ListsItem (words : List ℕ) (item : Listed) : Type 0 where
  pub key : List ℕ
  pub flags : List ℕ
  pub length : List ℕ
  pub until : List ℕ
  pub is : words ≡ key ++ 32 ∷ (flags ++ 32 ∷ (length ++ 32 ∷ until))
  pub key_is : decode_of key ≡ Ok item.key
  pub flags_is : number_of flags ≡ Some item.flags
  pub length_is : number_of length ≡ Some item.length
  pub until_is : IsUntil until item.until

abbrev pub Says : List ℕ → PageLine → Type 0
Says line (Item item) = (words : List ℕ) × (line ≡ codes "item " ++ words) × ListsItem words item
Says line (More from) = (digits : List ℕ) × (line ≡ codes "more " ++ digits) × (number_of digits ≡ Some from)
Says line End = line ≡ codes "end"
Says line Other = ⊤
