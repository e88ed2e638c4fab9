use Rattle.std.specs.Prelude.{ℕ, ◌+◌, ◌^◌, nat_le, Bool, true, false, List, [], ◌∷◌, length, codes, Option, Some, None, Result, Ok, Err, if◌then◌else◌}
use Rattle.std.specs.Str.{bytes_eq}
use Rattle.memc_table.specs.Ruling.{longest_value}
use Rattle.memc_table.specs.declared.act.Act.TheVariants.{Delete, Touch, Incr, Decr}
use Rattle.memc_proto.specs.Words.{◌>>=◌, words_of, without_return, key_word, key_words, number_word, exptime_word, last_word, process_word, keep_word}
use Rattle.memc_proto.specs.declared.command.Command.{Command}
use Rattle.memc_proto.specs.declared.command.Command.TheVariants as command
use Rattle.memc_proto.specs.declared.line.Line.{Line}
use Rattle.memc_proto.specs.declared.line.Line.TheVariants.{Whole, Stores, Skips}
use Rattle.memc_proto.specs.declared.read_line.Sizes.{Sizes}
use Rattle.memc_proto.specs.declared.request.Refusal.{Refusal}
use Rattle.memc_proto.specs.declared.request.Refusal.TheVariants.{Unknown, BadLine, TooLarge}
use Rattle.memc_proto.specs.declared.request.Request.{Request}
use Rattle.memc_proto.specs.declared.request.Request.TheVariants.{Get, Change, Version, Quit, Fail, Refused}
use Rattle.memc_proto.specs.declared.request.Word.{Word}
use Rattle.memc_proto.specs.declared.request.Word.TheVariants.{Flags, Bytes, CasUnique, Number}
use Rattle.memc_proto.specs.declared.store.Store.{Store}
use Rattle.memc_proto.specs.declared.store.Verb.{Verb}
use Rattle.memc_proto.specs.declared.store.Verb.TheVariants as verb

-- the command that a first word names
unfoldable pub command_of : List ℕ → Option Command
command_of word =
    if bytes_eq word (codes "get") then Some command.Get
    else (if bytes_eq word (codes "gets") then Some command.Gets
    else (if bytes_eq word (codes "set") then Some (command.Store verb.Set)
    else (if bytes_eq word (codes "add") then Some (command.Store verb.Add)
    else (if bytes_eq word (codes "replace") then Some (command.Store verb.Replace)
    else (if bytes_eq word (codes "append") then Some (command.Store verb.Append)
    else (if bytes_eq word (codes "prepend") then Some (command.Store verb.Prepend)
    else (if bytes_eq word (codes "cas") then Some command.Cas
    else (if bytes_eq word (codes "delete") then Some command.Delete
    else (if bytes_eq word (codes "touch") then Some command.Touch
    else (if bytes_eq word (codes "incr") then Some command.Incr
    else (if bytes_eq word (codes "decr") then Some command.Decr
    else (if bytes_eq word (codes "version") then Some command.Version
    else (if bytes_eq word (codes "quit") then Some command.Quit
    else (if bytes_eq word (codes "cocytus_fail") then Some command.Fail
    else None))))))))))))))

-- a line that is refused, and skips nothing
abbrev pub refused : Refusal → Line
refused refusal = Whole (Refused refusal)

-- a line of no block: the request, or the first wrong word
abbrev pub whole : Result Request Word → Line
whole (Ok request) = Whole request
whole (Err which) = refused (BadLine which)

-- a refused line skips its data block with the line end behind it, if the number of bytes is right
abbrev pub skipping : Refusal → Result ℕ Word → Line
skipping refusal (Ok len) = Skips refusal (len + 2)
skipping refusal (Err _) = refused refusal

-- a line with a data block: the store, if its value is not too long, or the first wrong word
abbrev pub storing : Result ℕ Word → Result Store Word → Line
storing len (Ok store) = if nat_le store.len longest_value then Stores store else skipping (TooLarge store.len) len
storing len (Err which) = skipping (BadLine which) len

-- the keys of a get, at least one
abbrev pub get_line : Bool → List (List ℕ) → Line
get_line with_cas [] = refused Unknown
get_line with_cas (key ∷ keys) = whole (key_words (key ∷ keys) >>= λ keys. Ok (Get keys with_cas))

-- `<flags> <exptime> <bytes>`
unfoldable pub sizes_of : List ℕ → List ℕ → List ℕ → Result Sizes Word
sizes_of flags exptime bytes = do
  flags ← number_word Flags (2 ^ 32) flags
  expiry ← exptime_word exptime
  len ← number_word Bytes (2 ^ 32) bytes
  Ok (record { flags = flags; expiry = expiry; len = len })

-- the words of a store, in order: the key, the numbers, the cas number, and the last word
unfoldable pub store_of : Verb → List ℕ → Result Sizes Word → Result ℕ Word → List (List ℕ) → Result Store Word
store_of verb key sizes cas last = do
  key ← key_word key
  sizes ← sizes
  cas ← cas
  noreply ← last_word last
  Ok (record { verb = verb; key = key; flags = sizes.flags; expiry = sizes.expiry; len = sizes.len; cas = cas; noreply = noreply })

-- the line, if at most one word is left for its end
abbrev pub with_last : List (List ℕ) → Line → Line
with_last last line = if nat_le (length last) 1 then line else refused Unknown

-- `<key> <flags> <exptime> <bytes> [noreply]`
abbrev pub store_line : Verb → List (List ℕ) → Line
store_line verb (key ∷ flags ∷ exptime ∷ bytes ∷ last) =
    with_last last
    (storing (number_word Bytes (2 ^ 32) bytes) (store_of verb key (sizes_of flags exptime bytes) (Ok 0) last))
store_line verb _ = refused Unknown

-- `<key> <flags> <exptime> <bytes> <cas unique> [noreply]`
abbrev pub cas_line : List (List ℕ) → Line
cas_line (key ∷ flags ∷ exptime ∷ bytes ∷ unique ∷ last) =
    with_last last
    (storing (number_word Bytes (2 ^ 32) bytes)
    (store_of verb.Cas key (sizes_of flags exptime bytes) (number_word CasUnique (2 ^ 64) unique) last))
cas_line _ = refused Unknown

-- a deletion
unfoldable pub delete_of : List ℕ → List (List ℕ) → Result Request Word
delete_of key last = do
  key ← key_word key
  noreply ← last_word last
  Ok (Change (Delete key) noreply)

-- `<key> [noreply]`
abbrev pub delete_line : List (List ℕ) → Line
delete_line (key ∷ last) = with_last last (whole (delete_of key last))
delete_line _ = refused Unknown

-- a touch
unfoldable pub touch_of : List ℕ → List ℕ → List (List ℕ) → Result Request Word
touch_of key exptime last = do
  key ← key_word key
  expiry ← exptime_word exptime
  noreply ← last_word last
  Ok (Change (Touch key expiry) noreply)

-- `<key> <exptime> [noreply]`
abbrev pub touch_line : List (List ℕ) → Line
touch_line (key ∷ exptime ∷ last) = with_last last (whole (touch_of key exptime last))
touch_line _ = refused Unknown

-- a number to add, or to take away
unfoldable pub counter_of : Bool → List ℕ → List ℕ → List (List ℕ) → Result Request Word
counter_of up key number last = do
  key ← key_word key
  by ← number_word Number (2 ^ 64) number
  noreply ← last_word last
  Ok (Change (if up then Incr key by else Decr key by) noreply)

-- `<key> <number> [noreply]`
abbrev pub count_line : Bool → List (List ℕ) → Line
count_line up (key ∷ number ∷ last) = with_last last (whole (counter_of up key number last))
count_line up _ = refused Unknown

-- the order that a process fail
unfoldable pub fail_of : List ℕ → List ℕ → Result Request Word
fail_of process keep = do
  at ← process_word process
  keep ← keep_word keep
  Ok (Fail at keep)

-- `<process> <keep>`
abbrev pub fail_line : List (List ℕ) → Line
fail_line (process ∷ keep ∷ []) = whole (fail_of process keep)
fail_line _ = refused Unknown

-- a command of one word
abbrev pub lone_line : Request → List (List ℕ) → Line
lone_line request [] = Whole request
lone_line request _ = refused Unknown

-- what a command's words say
abbrev pub command_line : Command → List (List ℕ) → Line
command_line command.Get words = get_line false words
command_line command.Gets words = get_line true words
command_line (command.Store verb) words = store_line verb words
command_line command.Cas words = cas_line words
command_line command.Delete words = delete_line words
command_line command.Touch words = touch_line words
command_line command.Incr words = count_line true words
command_line command.Decr words = count_line false words
command_line command.Version words = lone_line Version words
command_line command.Quit words = lone_line Quit words
command_line command.Fail words = fail_line words

-- the same, where the first word names a command
abbrev pub named_line : Option Command → List (List ℕ) → Line
named_line None words = refused Unknown
named_line (Some command) words = command_line command words

-- what words say
abbrev pub said_by : List (List ℕ) → Line
said_by [] = refused Unknown
said_by (name ∷ words) = named_line (command_of name) words

-- what a line without its end says
unfoldable pub parsed_line : List ℕ → Line
parsed_line line = said_by (words_of (without_return line))
