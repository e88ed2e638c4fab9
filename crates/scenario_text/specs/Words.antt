use Rattle.std.specs.Prelude.{ℕ, ◌+◌, ◌^◌, ◌==◌, nat_le, nat_lt, List, [], ◌∷◌, length, replicate, codes, Option, Some}
use Rattle.std.specs.Prelude.{None, option_map, option_and_then, if◌then◌else◌}
use Rattle.std.specs.List.{slice_split}
use Rattle.std.specs.Result.{result_ok}
use Rattle.std.specs.Str.{bytes_eq}
use Rattle.group_types.specs.Dimensions.{Dimensions}
use Rattle.group_types.specs.declared.process.Partition.{Partition}
use Rattle.group_types.specs.declared.process.ProcessId.{ProcessId}
use Rattle.group_types.specs.declared.process.ProcessId.TheVariants.{DataNode, ParityNode}
use Rattle.group_types.specs.declared.run.Run.{Run}
use Rattle.hex.specs.Hex.{decode_of}
use Rattle.memc_proto.specs.Words.{if_below, is_key_word, keep_word}
use Rattle.memc_table.specs.Numeral.{number_of}
use Rattle.memc_table.specs.Ruling.{longest_value}

-- what comes of words that are read in turn: nothing, where one of them has no meaning
infixl 10 ◌>>=◌
abbrev pub ◌>>=◌ : {A B : Type 0} → Option A → (A → Option B) → Option B
o >>= f = option_and_then f o

-- the words of a line: what stands between its single spaces. Two spaces together, and one at
-- either end, leave an empty word, which has no meaning anywhere
abbrev pub split_words : List ℕ → List (List ℕ)
split_words line = slice_split (λ b. b == 32) line

-- the number of a number word, if it is below the limit
unfoldable pub number_below : ℕ → List ℕ → Option ℕ
number_below limit word = if_below limit (number_of word)

-- the process that a word names: `d` or `p`, and the number of such a process of the group
unfoldable pub process_of_word : Dimensions → List ℕ → Option ProcessId
process_of_word shape [] = None
process_of_word shape (letter ∷ digits) =
    if letter == 100 then option_map DataNode (number_below shape.k digits)
    else (if letter == 112 then option_map ParityNode (number_below shape.m digits)
    else None)

-- the partition that a word names
abbrev pub partition_of_word : Dimensions → List ℕ → Option Partition
partition_of_word shape word = option_map (λ d. record { 0 = d }) (number_below shape.k word)

-- the run of an address and a length
abbrev pub run_of_words : List ℕ → List ℕ → Option Run
run_of_words at len = do
  at ← number_below (2 ^ 32) at
  len ← number_below (2 ^ 32) len
  Some (record { at = at; len = len })

-- how many messages each link keeps: `all`, or a number of 32 bits
abbrev pub keep_of_word : List ℕ → Option ℕ
keep_of_word word = result_ok (keep_word word)

-- the key that a word is
unfoldable pub key_of_word : List ℕ → Option (List ℕ)
key_of_word word = if is_key_word word then Some word else None

-- the bytes of hexadecimal digits in either case, two for each byte
abbrev pub hex_value : List ℕ → Option (List ℕ)
hex_value word = result_ok (decode_of word)

-- the value, if it is not too long
abbrev pub if_short : Option (List ℕ) → Option (List ℕ)
if_short None = None
if_short (Some value) = if nat_le (length value) longest_value then Some value else None

-- so many bytes, of one that is given
abbrev pub repeated_bytes : ℕ → List ℕ → Option (List ℕ)
repeated_bytes len (byte ∷ []) = if nat_lt 0 len then Some (replicate len byte) else None
repeated_bytes len _ = None

-- a length and the two digits of a byte: so many of this byte
abbrev pub repeated : List (List ℕ) → Option (List ℕ)
repeated (len ∷ digits ∷ []) = do
  len ← number_below (longest_value + 1) len
  byte ← hex_value digits
  repeated_bytes len byte
repeated _ = None

-- the value that a word is: `-` for no bytes, `*<len>*<digits of a byte>`, or hexadecimal digits
unfoldable pub value_of_word : List ℕ → Option (List ℕ)
value_of_word [] = None
value_of_word (b ∷ bs) =
    if bytes_eq (b ∷ bs) (codes "-") then Some []
    else (if b == 42 then repeated (slice_split (λ c. c == 42) bs)
    else if_short (hex_value (b ∷ bs)))
