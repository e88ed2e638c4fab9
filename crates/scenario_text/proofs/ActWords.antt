-- The words that the parts of an act are read from.
use Rattle.std.proofs.Common.{◌≡◌, ◌^◌, ℕ, ℤ, List, [], ◌∷◌, Option, Some, None, subst}
use Rattle.memc_proto.specs.Words.{signed_of}
use Rattle.memc_table.specs.Act.{key_of}
use Rattle.memc_table.specs.Numeral.{number_of}
use Rattle.memc_table.specs.declared.act.Act.{Act}
use Rattle.memc_table.specs.declared.act.Act.TheVariants as act
use Rattle.scenario_text.proofs.Read.{bound, mapped}
use Rattle.scenario_text.specs.Acts.{act_of_words, act_of_verb, stored, store_of_words, exptime_of, verb_of}
use Rattle.scenario_text.specs.Words.{number_below, key_of_word, value_of_word}
use Rattle.scenario_text.specs.declared.read_act.Store.{Store}
use Rattle.scenario_text.specs.declared.verb.StoreMode.{StoreMode}
use Rattle.scenario_text.specs.declared.verb.StoreMode.TheVariants.{Set, Add, Replace}
use Rattle.scenario_text.specs.declared.verb.Verb.{Verb}
use Rattle.scenario_text.specs.declared.verb.Verb.TheVariants as verb

abbrev pub ReadsKey : List ℕ → Type 0
ReadsKey key = (word : List ℕ) × (key_of_word word ≡ Some key)

abbrev pub ReadsNumber : ℕ → Type 0
ReadsNumber n = (word : List ℕ) × (number_of word ≡ Some n)

abbrev pub ReadsFlags : ℕ → Type 0
ReadsFlags flags = (word : List ℕ) × (number_below (2 ^ 32) word ≡ Some flags)

abbrev pub ReadsExpiry : ℤ → Type 0
ReadsExpiry expiry = (words : List (List ℕ)) × (exptime_of words ≡ Some expiry)

abbrev pub ReadsValue : List ℕ → Type 0
ReadsValue value = (word : List ℕ) × (value_of_word word ≡ Some value)

-- what an item is made of
pub record ReadsStore (flags : ℕ) (expiry : ℤ) (value : List ℕ) : Type 0 where
  pub flagged : ReadsFlags flags
  pub expires : ReadsExpiry expiry
  pub valued : ReadsValue value

-- each part of an act is what words mean
abbrev pub ReadsAct : Act → Type 0
ReadsAct (act.Get key) = ReadsKey key
ReadsAct (act.Set key flags expiry value) = ReadsKey key × ReadsStore flags expiry value
ReadsAct (act.Add key flags expiry value) = ReadsKey key × ReadsStore flags expiry value
ReadsAct (act.Replace key flags expiry value) = ReadsKey key × ReadsStore flags expiry value
ReadsAct (act.Cas key flags expiry cas value) = ReadsKey key × ReadsStore flags expiry value × ReadsNumber cas
ReadsAct (act.Delete key) = ReadsKey key
ReadsAct (act.Touch key expiry) = ReadsKey key × ReadsExpiry expiry
ReadsAct (act.Append key value) = ReadsKey key × ReadsValue value
ReadsAct (act.Prepend key value) = ReadsKey key × ReadsValue value
ReadsAct (act.Incr key n) = ReadsKey key × ReadsNumber n
ReadsAct (act.Decr key n) = ReadsKey key × ReadsNumber n

pub key-words : (a : Act) → ReadsAct a → ReadsKey (key_of a)
key-words (act.Get key) read = read
key-words (act.Set key flags expiry value) read = read.0
key-words (act.Add key flags expiry value) read = read.0
key-words (act.Replace key flags expiry value) read = read.0
key-words (act.Cas key flags expiry cas value) read = read.0
key-words (act.Delete key) read = read
key-words (act.Touch key expiry) read = read.0
key-words (act.Append key value) read = read.0
key-words (act.Prepend key value) read = read.0
key-words (act.Incr key n) read = read.0
key-words (act.Decr key n) read = read.0

store_of-words : (flags : List ℕ) (words : List (List ℕ)) (s : Store) → store_of_words flags words ≡ Some s
    → ReadsStore s.flags s.expiry s.value
unfolding store_of_words
store_of-words flags [] s is = cc is
store_of-words flags (value ∷ exptime) s is =
    let f = bound (number_below (2 ^ 32) flags) _ s is in
    let v = bound (value_of_word value) _ s f.2 in
    let e = bound (exptime_of exptime) _ s v.2 in
    let same : record { flags = f.0; expiry = e.0; value = v.0 } ≡ s = cc e.2 in
    subst (λ (x : Store). ReadsStore x.flags x.expiry x.value) same
    (record { flagged = (flags, f.1); expires = (exptime, e.1); valued = (value, v.1) })

stored-words : (mode : StoreMode) (key : List ℕ) (s : Store) → ReadsKey key → ReadsStore s.flags s.expiry s.value
    → ReadsAct (stored mode key s)
stored-words Set key s k item = (k, item)
stored-words Add key s k item = (k, item)
stored-words Replace key s k item = (k, item)

moved : (a b : Act) → a ≡ b → ReadsAct a → ReadsAct b
moved a b same read = subst ReadsAct same read

act_by-words : (v : Verb) (key : List ℕ) (words : List (List ℕ)) (a : Act) → act_of_verb v key words ≡ Some a → ReadsAct a
unfolding act_of_verb
act_by-words verb.Get key [] a is = let k = mapped act.Get (key_of_word key) a is in moved (act.Get k.0) a k.2 (key, k.1)
act_by-words (verb.Store mode) key (flags ∷ words) a is =
    let k = bound (key_of_word key) _ a is in
    let s = bound (store_of_words flags words) _ a k.2 in
    moved (stored mode k.0 s.0) a (cc s.2) (stored-words mode k.0 s.0 (key, k.1) (store_of-words flags words s.0 s.1))
act_by-words verb.Cas key (flags ∷ cas ∷ words) a is =
    let k = bound (key_of_word key) _ a is in
    let n = bound (number_of cas) _ a k.2 in
    let s = bound (store_of_words flags words) _ a n.2 in
    moved (act.Cas k.0 s.0.flags s.0.expiry n.0 s.0.value) a (cc s.2)
    ((key, k.1), store_of-words flags words s.0 s.1, (cas, n.1))
act_by-words verb.Delete key [] a is =
    let k = mapped act.Delete (key_of_word key) a is in moved (act.Delete k.0) a k.2 (key, k.1)
act_by-words verb.Touch key (w ∷ []) a is =
    let k = bound (key_of_word key) _ a is in
    let e = bound (signed_of w) _ a k.2 in
    moved (act.Touch k.0 e.0) a (cc e.2) ((key, k.1), (w ∷ [], e.1))
act_by-words verb.Append key (w ∷ []) a is =
    let k = bound (key_of_word key) _ a is in
    let v = bound (value_of_word w) _ a k.2 in
    moved (act.Append k.0 v.0) a (cc v.2) ((key, k.1), (w, v.1))
act_by-words verb.Prepend key (w ∷ []) a is =
    let k = bound (key_of_word key) _ a is in
    let v = bound (value_of_word w) _ a k.2 in
    moved (act.Prepend k.0 v.0) a (cc v.2) ((key, k.1), (w, v.1))
act_by-words verb.Incr key (w ∷ []) a is =
    let k = bound (key_of_word key) _ a is in
    let n = bound (number_of w) _ a k.2 in
    moved (act.Incr k.0 n.0) a (cc n.2) ((key, k.1), (w, n.1))
act_by-words verb.Decr key (w ∷ []) a is =
    let k = bound (key_of_word key) _ a is in
    let n = bound (number_of w) _ a k.2 in
    moved (act.Decr k.0 n.0) a (cc n.2) ((key, k.1), (w, n.1))
act_by-words v key words a is = cc is

pub act_of-words : (words : List (List ℕ)) (a : Act) → act_of_words words ≡ Some a → ReadsAct a
act_of-words (name ∷ key ∷ words) a is = let v = bound (verb_of name) _ a is in act_by-words v.0 key words a v.2
act_of-words words a is = cc is
