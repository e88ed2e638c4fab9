-- Words of made scripts, each tried.
use Rattle.std.proofs.Common.{ℕ, zero, suc, ◌≡◌, ◌≢◌, ◌<◌, ◌+◌, nat_le, Bool, true, ◌&&◌, List, [], ◌∷◌, length, is_some, ◌⊎◌, inl, inr, refl, ap, ◌∙◌, arith}
use Rattle.std.proofs.lemmas.Bool.{cases_eq}
use Rattle.std.specs.Prelude.{codes}
use Rattle.std.specs.Fmt.{decimal, digits}
use Rattle.std.specs.List.{list_all}
use Rattle.hex.specs.Hex.{decode_pairs}
use Rattle.group_types.specs.Dimensions.{callers}
use Rattle.group_types.specs.Names.{IsProcess}
use Rattle.group_types.specs.declared.process.ProcessId.{ProcessId}
use Rattle.group_types.specs.declared.process.ProcessId.TheVariants.{DataNode, ParityNode}
use Rattle.law_moves.proofs.Notices.{both}
use Rattle.scenario_make.specs.Rounds.{key_name, process_name, value_word}
use Rattle.scenario_text.specs.Acts.{act_of_verb, act_of_words, store_of_words, verb_of}
use Rattle.scenario_text.specs.Words.{key_of_word, number_below, process_of_word, value_of_word}
use Rattle.made_scripts.specs.Clean.{made_shape}
use Rattle.made_scripts.proofs.Lines.{in_word}

-- every number below n passes
abbrev pub passes_below : ℕ → (ℕ → Bool) → Bool
passes_below zero test = true
passes_below (suc n) test = test n && passes_below n test

pub passes-at : (n : ℕ) (test : ℕ → Bool) → passes_below n test ≡ true → (i : ℕ) → i < n → test i ≡ true
passes-at zero test all i low = absurd (omega (arith, low))
passes-at (suc n) test all i low = by (cases_eq i n) (λ below. passes-at n test (both (test n) (passes_below n test) all).1 i below) where
  by : (i ≡ n) ⊎ (i ≢ n) → (i < n → test i ≡ true) → test i ≡ true
  by (inl same) rest = ap test same ∙ (both (test n) (passes_below n test) all).0
  by (inr other) rest = rest (omega (arith, low, other))

-- a word without spaces and line ends, of at most eight bytes
abbrev pub is_clean : List ℕ → Bool
is_clean w = list_all in_word w && nat_le (length w) 8

-- callers
abbrev caller_test : ℕ → Bool
caller_test c = is_some (number_below callers (decimal c)) && is_clean (decimal c)

callers-pass : passes_below 8 caller_test ≡ true
unfolding digits number_below
callers-pass = refl

-- processes
abbrev data_test : ℕ → Bool
data_test d = is_some (process_of_word made_shape (process_name (DataNode d))) && is_clean (process_name (DataNode d))

abbrev parity_test : ℕ → Bool
parity_test i = is_some (process_of_word made_shape (process_name (ParityNode i))) && is_clean (process_name (ParityNode i))

data-pass : passes_below 3 data_test ≡ true
unfolding digits number_below process_name process_of_word
data-pass = refl

parity-pass : passes_below 2 parity_test ≡ true
unfolding digits number_below process_name process_of_word
parity-pass = refl

-- keys, and the ops on them
abbrev key_test : ℕ → Bool
key_test i = is_some (act_of_words (codes "get" ∷ key_name i ∷ [])) && (is_some (act_of_words (codes "delete" ∷ key_name i ∷ [])) && is_clean (key_name i))

keys-pass : passes_below 20 key_test ≡ true
unfolding digits verb_of act_of_verb key_of_word
keys-pass = refl

abbrev set_test : ℕ → ℕ → Bool
set_test i k = is_some (act_of_words (codes "set" ∷ key_name i ∷ codes "0" ∷ value_word (k + 1) ∷ []))

sets-pass : passes_below 20 (λ i. passes_below 40 (set_test i)) ≡ true
unfolding digits decode_pairs verb_of act_of_verb store_of_words key_of_word value_of_word number_below
sets-pass = refl

values-pass : passes_below 40 (λ k. is_clean (value_word (k + 1))) ≡ true
unfolding digits
values-pass = refl

-- what they give
pub caller-word : (c : ℕ) → c < 8 → (is_some (number_below callers (decimal c)) ≡ true) × (is_clean (decimal c) ≡ true)
caller-word c low = both _ _ (passes-at 8 caller_test callers-pass c low)

pub process-fine : (p : ProcessId) → IsProcess made_shape p
    → (is_some (process_of_word made_shape (process_name p)) ≡ true) × (is_clean (process_name p) ≡ true)
process-fine (DataNode d) low = both _ _ (passes-at 3 data_test data-pass d low)
process-fine (ParityNode i) low = both _ _ (passes-at 2 parity_test parity-pass i low)

pub record KeyFine (i : ℕ) : Type 0 where
  pub get : is_some (act_of_words (codes "get" ∷ key_name i ∷ [])) ≡ true
  pub delete : is_some (act_of_words (codes "delete" ∷ key_name i ∷ [])) ≡ true
  pub clean : is_clean (key_name i) ≡ true

pub key-fine : (i : ℕ) → i < 20 → KeyFine i
key-fine i low =
    let first = both (is_some (act_of_words (codes "get" ∷ key_name i ∷ [])))
    (is_some (act_of_words (codes "delete" ∷ key_name i ∷ [])) && is_clean (key_name i))
    (passes-at 20 key_test keys-pass i low) in
    let second = both (is_some (act_of_words (codes "delete" ∷ key_name i ∷ []))) (is_clean (key_name i)) first.1 in
    record { get = first.0; delete = second.0; clean = second.1 }

pub set-fine : (i k : ℕ) → i < 20 → k < 40 → is_some (act_of_words (codes "set" ∷ key_name i ∷ codes "0" ∷ value_word (k + 1) ∷ [])) ≡ true
set-fine i k low short = passes-at 40 (set_test i) (passes-at 20 (λ i. passes_below 40 (set_test i)) sets-pass i low) k short

pub value-clean : (k : ℕ) → k < 40 → is_clean (value_word (k + 1)) ≡ true
value-clean k short = passes-at 40 (λ k. is_clean (value_word (k + 1))) values-pass k short
