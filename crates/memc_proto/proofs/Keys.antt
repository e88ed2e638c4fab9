use Rattle.std.proofs.Common.{◌≡◌, ℕ, ◌+◌, ◌<◌, ◌≤◌, ◌==◌, ◌&&◌, nat_lt, not, Bool, true, false, List, [], ◌∷◌, ◌++◌}
use Rattle.std.proofs.Common.{length, take, get_or, Result, Ok, Err, if◌then◌else◌, take_all, map, Bor, refl, sym, ap}
use Rattle.std.proofs.Common.{◌∙◌, subst, arith}
use Rattle.std.proofs.lemmas.Bool.Decides.{nat_tests}
use Rattle.std.proofs.lemmas.Grind.{common_steps}
use Rattle.std.proofs.lemmas.List.Sums.{list_all-from_AllPass}
use Rattle.std.proofs.lemmas.List.{take_more, get_or-map, length-map}
use Rattle.std.proofs.lemmas.List.Folds.{list_all_more, list_all_at}
use Rattle.std.specs.List.{list_all}
use Rattle.group_types.specs.Key.{IsKey, IsKeyByte}
use Rattle.memc_proto.specs.Words.{GivesWord, is_key_word, key_word, key_words}
use Rattle.memc_proto.specs.declared.field.Fault.{Fault}
use Rattle.memc_proto.specs.declared.field.Fault.TheVariants.{Wrong, Want}
use Rattle.memc_proto.specs.declared.request.Word.{Word}
use Rattle.memc_proto.specs.declared.request.Word.TheVariants.{Key}

key_byte_passes : (b : ℕ) → IsKeyByte b → (nat_lt 32 b && not (b == 127)) ≡ true
key_byte_passes b (low, plain) = grind (arith, nat_tests, common_steps)

pub key_word-key : (word : List ℕ) → IsKey word → key_word word ≡ Ok word
unfolding key_word
key_word-key word key =
    let bytes = list_all-from_AllPass (λ b. nat_lt 32 b && not (b == 127)) word (λ i d within. key_byte_passes _ (key.plain i d within)) in
    let some = key.some in
    let short = key.short in
    grind (arith, nat_tests, common_steps)

key_word-by : (b : Bool) (word key : List ℕ) → is_key_word word ≡ b → (if b then Ok word else Err Key) ≡ Ok key → (is_key_word word ≡ true) × (key ≡ word)
key_word-by true word key is right = (is, cc)
key_word-by false word key is right = cc

pub key_word-ok : (word key : List ℕ) → key_word word ≡ Ok key → (is_key_word word ≡ true) × (key ≡ word)
unfolding key_word
key_word-ok word key right = key_word-by (is_key_word word) word key refl right

key_word-wrong_by : (b : Bool) (word : List ℕ) (which : Word) → is_key_word word ≡ b → (if b then Ok word else Err Key)
    ≡ Err which → (is_key_word word ≡ false) × (which ≡ Key)
key_word-wrong_by true word which is wrong = cc
key_word-wrong_by false word which is wrong = (is, cc)

pub key_word-err : (word : List ℕ) (which : Word) → key_word word ≡ Err which → (is_key_word word ≡ false) × (which ≡ Key)
unfolding key_word
key_word-err word which wrong = key_word-wrong_by (is_key_word word) word which refl wrong

-- one more key
pub keys-step : (words keys : List (List ℕ)) (i : ℕ) (key : List ℕ) → i < length words → keys ≡ take i words
    → list_all is_key_word (take i words) ≡ true → key_word (get_or words i []) ≡ Ok key
    → (keys ++ key ∷ [] ≡ take (i + 1) words) × (list_all is_key_word (take (i + 1) words) ≡ true)
keys-step words keys i key within before right read =
    let is = key_word-ok (get_or words i []) key read in (
      rw (take_more words i [] within) (rw before (ap (λ (k : List ℕ). take i words ++ k ∷ []) is.1)),
      list_all_more is_key_word words i [] within ∙ rw right is.0,
    )

-- all are keys
pub keys-done : (words keys : List (List ℕ)) (i : ℕ) → length words ≤ i → keys ≡ take i words
    → list_all is_key_word (take i words) ≡ true → key_words words ≡ Ok keys
unfolding key_words
keys-done words keys i over before right =
    let whole : take i words ≡ words = take_all i words over in
    let all : list_all is_key_word words ≡ true = subst (λ (ws : List (List ℕ)). list_all is_key_word ws ≡ true) whole right in
    rw all (ap (λ (ws : List (List ℕ)). Ok ws) (sym (before ∙ whole)))

-- one is none
pub keys-wrong : (words : List (List ℕ)) (i : ℕ) (which : Word) → i < length words → key_word (get_or words i []) ≡ Err which → key_words words ≡ Err which
unfolding key_words
keys-wrong words i which within wrong =
    let is = key_word-err (get_or words i []) which wrong in
    rw (list_all_at is_key_word words i [] within is.0) (ap (λ (w : Word). Err w) (sym is.1))

-- the same, for what was read
pub keys-fault : (words : List (List ℕ)) (i : ℕ) (fault : Fault) (result : Result (List (List ℕ)) Fault)
    → i < length words → result ≡ Err fault → GivesWord {A = List ℕ} (Err fault) (key_word (get_or words i []))
    → GivesWord result (key_words words)
keys-fault words i fault result within is given = subst (λ (r : Result (List (List ℕ)) Fault). GivesWord r (key_words words)) (sym is) (by_fault fault given)
  where
    by_fault : (fault : Fault) → GivesWord {A = List ℕ} (Err fault) (key_word (get_or words i [])) → GivesWord {A = List (List ℕ)} (Err fault) (key_words words)
    by_fault (Wrong which) wrong = keys-wrong words i which within wrong
    by_fault Want _ = tt

-- the word that a reference at a place reads
pub word_at : (words : List (Bor (List ℕ))) (i : ℕ) (d : Bor (List ℕ)) → i < length words
    → get_or (map (λ (word : Bor (List ℕ)). word.now) words) i [] ≡ (get_or words i d).now
word_at words i d within = get_or-map (λ (word : Bor (List ℕ)). word.now) words i d [] within

pub length-words : (words : List (Bor (List ℕ))) → length (map (λ (word : Bor (List ℕ)). word.now) words) ≡ length words
length-words words = length-map words (λ (word : Bor (List ℕ)). word.now)
