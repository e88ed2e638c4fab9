use Rattle.std.specs.Prelude.{ℕ, ℤ, pos, neg_ℤ, ◌≡◌, ◌-◌, ◌^◌, ◌==◌, nat_le, nat_lt, ◌&&◌, Bool, true, false, not, List}
use Rattle.std.specs.Prelude.{[], ◌∷◌, length, take, filter, slice_index, codes, Option, Some, None, Result, Ok, Err, ⊤}
use Rattle.std.specs.Prelude.{if◌then◌else◌}
use Rattle.std.specs.List.{slice_split, list_all}
use Rattle.std.specs.Str.{bytes_eq}
use Rattle.group_types.specs.declared.process.ProcessId.{ProcessId}
use Rattle.group_types.specs.declared.process.ProcessId.TheVariants.{DataNode, ParityNode}
use Rattle.memc_table.specs.Numeral.{number_of}
use Rattle.memc_proto.specs.declared.field.Fault.{Fault}
use Rattle.memc_proto.specs.declared.field.Fault.TheVariants.{Wrong, Want}
use Rattle.memc_proto.specs.declared.request.Word.{Word}
use Rattle.memc_proto.specs.declared.request.Word.TheVariants.{Key, Exptime, Last, Process, Keep}

-- the line without one carriage return at its end
abbrev pub without_return : List ℕ → List ℕ
without_return line = if slice_index line (length line - 1) == 13 then take (length line - 1) line else line

-- the words of a line: the longest runs of bytes other than the space
abbrev pub words_of : List ℕ → List (List ℕ)
words_of line = filter (λ word. nat_lt 0 (length word)) (slice_split (λ b. b == 32) line)

-- what comes of the words that are read in turn: the first wrong one ends it
infixl 10 ◌>>=◌
abbrev pub ◌>>=◌ : {A B : Type 0} → Result A Word → (A → Result B Word) → Result B Word
(Ok x) >>= f = f x
(Err which) >>= f = Err which

-- what was read, as it is read; want of memory may come at any time
abbrev pub GivesWord : {A : Type 0} → Result A Fault → Result A Word → Type 0
GivesWord (Ok x) read = read ≡ Ok x
GivesWord (Err (Wrong which)) read = read ≡ Err which
GivesWord (Err Want) read = ⊤

-- the value where there is one, else this word is wrong
abbrev pub or_wrong : {A : Type 0} → Word → Option A → Result A Word
or_wrong which (Some x) = Ok x
or_wrong which None = Err which

-- whether a word meets memcached's limits of a key
abbrev pub is_key_word : List ℕ → Bool
is_key_word word = nat_le 1 (length word) && nat_le (length word) 250 && list_all (λ b. nat_lt 32 b && not (b == 127)) word

-- a key
unfoldable pub key_word : List ℕ → Result (List ℕ) Word
key_word word = if is_key_word word then Ok word else Err Key

-- keys, each of them right
unfoldable pub key_words : List (List ℕ) → Result (List (List ℕ)) Word
key_words words = if list_all is_key_word words then Ok words else Err Key

-- a number, if it is below the limit
abbrev pub if_below : ℕ → Option ℕ → Option ℕ
if_below limit None = None
if_below limit (Some n) = if nat_lt n limit then Some n else None

-- a number word: 1 to 20 decimal digits that stand for a number below the limit, at most 2^64
unfoldable pub number_word : Word → ℕ → List ℕ → Result ℕ Word
number_word which limit word = or_wrong which (if_below limit (number_of word))

-- a number with a minus sign, if it fits into 64 bits
abbrev pub negative : Option ℕ → Option ℤ
negative None = None
negative (Some n) = if nat_le n (2 ^ 63) then Some (neg_ℤ (pos n)) else None

-- a number without a sign, if it fits into 64 bits
abbrev pub positive : Option ℕ → Option ℤ
positive None = None
positive (Some n) = if nat_lt n (2 ^ 63) then Some (pos n) else None

-- a number with an optional minus sign
abbrev pub signed_of : List ℕ → Option ℤ
signed_of [] = None
signed_of (first ∷ digits) = if first == 45 then negative (number_of digits) else positive (number_of (first ∷ digits))

-- an exptime
unfoldable pub exptime_word : List ℕ → Result ℤ Word
exptime_word word = or_wrong Exptime (signed_of word)

-- the last word of a line, if there is one: whether the answer is not to be written
unfoldable pub last_word : List (List ℕ) → Result Bool Word
last_word [] = Ok false
last_word (word ∷ _) = if bytes_eq word (codes "noreply") then Ok true else Err Last

-- a process: `d` or `p`, and a number of 32 bits
unfoldable pub process_word : List ℕ → Result ProcessId Word
process_word [] = Err Process
process_word (letter ∷ digits) =
    if letter == 100 then (number_word Process (2 ^ 32) digits >>= λ d. Ok (DataNode d))
    else (if letter == 112 then (number_word Process (2 ^ 32) digits >>= λ i. Ok (ParityNode i))
    else Err Process)

-- how many messages each link keeps: `all`, or a number of 32 bits
unfoldable pub keep_word : List ℕ → Result ℕ Word
keep_word word = if bytes_eq word (codes "all") then Ok 4294967295 else number_word Keep (2 ^ 32) word
