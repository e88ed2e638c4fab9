use Rattle.std.specs.Prelude.{ℕ, ℤ, pos, ◌^◌, List, [], ◌∷◌, codes, Option, Some, None, option_map, if◌then◌else◌}
use Rattle.std.specs.Str.{bytes_eq}
use Rattle.memc_proto.specs.Words.{signed_of}
use Rattle.memc_table.specs.Numeral.{number_of}
use Rattle.memc_table.specs.declared.act.Act.{Act}
use Rattle.memc_table.specs.declared.act.Act.TheVariants as act
use Rattle.scenario_text.specs.Words.{◌>>=◌, number_below, key_of_word, value_of_word}
use Rattle.scenario_text.specs.declared.read_act.Store.{Store}
use Rattle.scenario_text.specs.declared.verb.StoreMode.{StoreMode}
use Rattle.scenario_text.specs.declared.verb.StoreMode.TheVariants.{Set, Add, Replace}
use Rattle.scenario_text.specs.declared.verb.Verb.{Verb}
use Rattle.scenario_text.specs.declared.verb.Verb.TheVariants as verb

-- the verb that the first word of an op names
unfoldable pub verb_of : List ℕ → Option Verb
verb_of word =
    if bytes_eq word (codes "get") then Some verb.Get
    else (if bytes_eq word (codes "set") then Some (verb.Store Set)
    else (if bytes_eq word (codes "add") then Some (verb.Store Add)
    else (if bytes_eq word (codes "replace") then Some (verb.Store Replace)
    else (if bytes_eq word (codes "cas") then Some verb.Cas
    else (if bytes_eq word (codes "delete") then Some verb.Delete
    else (if bytes_eq word (codes "touch") then Some verb.Touch
    else (if bytes_eq word (codes "append") then Some verb.Append
    else (if bytes_eq word (codes "prepend") then Some verb.Prepend
    else (if bytes_eq word (codes "incr") then Some verb.Incr
    else (if bytes_eq word (codes "decr") then Some verb.Decr
    else None))))))))))

-- the exptime behind a value: none is 0
abbrev pub exptime_of : List (List ℕ) → Option ℤ
exptime_of [] = Some (pos 0)
exptime_of (word ∷ []) = signed_of word
exptime_of _ = None

-- what an item is made of: the words `<value>` or `<value> <exptime>`, with these flags
unfoldable pub store_of_words : List ℕ → List (List ℕ) → Option Store
store_of_words flags [] = None
store_of_words flags (value ∷ exptime) = do
  flags ← number_below (2 ^ 32) flags
  value ← value_of_word value
  expiry ← exptime_of exptime
  Some (record { flags = flags; expiry = expiry; value = value })

-- the act of a store
abbrev pub stored : StoreMode → List ℕ → Store → Act
stored Set key s = act.Set key s.flags s.expiry s.value
stored Add key s = act.Add key s.flags s.expiry s.value
stored Replace key s = act.Replace key s.flags s.expiry s.value

-- what a verb asks of a key, with the words behind it
unfoldable pub act_of_verb : Verb → List ℕ → List (List ℕ) → Option Act
act_of_verb verb.Get key [] = option_map act.Get (key_of_word key)
act_of_verb (verb.Store mode) key (flags ∷ words) = do
  key ← key_of_word key
  s ← store_of_words flags words
  Some (stored mode key s)
act_of_verb verb.Cas key (flags ∷ cas ∷ words) = do
  key ← key_of_word key
  cas ← number_of cas
  s ← store_of_words flags words
  Some (act.Cas key s.flags s.expiry cas s.value)
act_of_verb verb.Delete key [] = option_map act.Delete (key_of_word key)
act_of_verb verb.Touch key (exptime ∷ []) = do
  key ← key_of_word key
  expiry ← signed_of exptime
  Some (act.Touch key expiry)
act_of_verb verb.Append key (value ∷ []) = do
  key ← key_of_word key
  value ← value_of_word value
  Some (act.Append key value)
act_of_verb verb.Prepend key (value ∷ []) = do
  key ← key_of_word key
  value ← value_of_word value
  Some (act.Prepend key value)
act_of_verb verb.Incr key (by ∷ []) = do
  key ← key_of_word key
  by ← number_of by
  Some (act.Incr key by)
act_of_verb verb.Decr key (by ∷ []) = do
  key ← key_of_word key
  by ← number_of by
  Some (act.Decr key by)
act_of_verb _ _ _ = None

-- what the words of an op ask: `<verb> <key>`, and what the verb has behind it
abbrev pub act_of_words : List (List ℕ) → Option Act
act_of_words (verb ∷ key ∷ words) = verb_of verb >>= λ verb. act_of_verb verb key words
act_of_words _ = None
