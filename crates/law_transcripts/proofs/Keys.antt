-- The key of an act that is read holds no line end.
use Rattle.std.proofs.Common.{◌≡◌, ◌≢◌, ◌==◌, ◌&&◌, ℕ, Bool, true, false, not, nat_le, nat_lt, List, [], ◌∷◌, length}
use Rattle.std.proofs.Common.{Some, Ok, refl, subst, arith}
use Rattle.std.proofs.lemmas.Bool.Decides.{nat_tests}
use Rattle.std.proofs.lemmas.List.Elements.{All-cons, All-nil}
use Rattle.std.specs.List.{list_all}
use Rattle.std.specs.Prelude.{⊤}
use Rattle.group_types.specs.Dimensions.{Dimensions}
use Rattle.memc_proto.specs.Words.{is_key_word}
use Rattle.memc_table.specs.Act.{key_of}
use Rattle.memc_table.specs.declared.act.Act.{Act}
use Rattle.scenario_text.proofs.ActWords.{key-words}
use Rattle.scenario_text.proofs.LineWords.{ReadsLine, line_of-words}
use Rattle.scenario_text.proofs.Read.{passed}
use Rattle.scenario_text.specs.Meaning.{line_meaning}
use Rattle.scenario_text.specs.Words.{key_of_word}
use Rattle.scenario_text.specs.declared.line.Line.{Line}
use Rattle.scenario_text.specs.declared.line.Line.TheVariants.{Ask}
use Rattle.law_transcripts.proofs.Plain.{Plain}

both : (a b : Bool) → (a && b) ≡ true → (a ≡ true) × (b ≡ true)
both true true e = (refl, refl)
both true false e = cc e
both false b e = cc e

bytes-plain : (text : List ℕ) → list_all (λ b. nat_lt 32 b && not (b == 127)) text ≡ true → Plain text
bytes-plain [] all = All-nil (λ b. b ≢ 10)
bytes-plain (b ∷ text) all =
    let parts = both (nat_lt 32 b && not (b == 127)) (list_all (λ c. nat_lt 32 c && not (c == 127)) text) all in
    let high = (both (nat_lt 32 b) (not (b == 127)) parts.0).0 in
    All-cons (λ c. c ≢ 10) b text (λ same. grind (arith, nat_tests, high, same)) (bytes-plain text parts.1)

key-plain : (text key : List ℕ) → key_of_word text ≡ Some key → Plain key
unfolding key_of_word
key-plain text key is =
    let read = passed (is_key_word text) (Some text) key is in
    let bytes = (both (nat_le 1 (length text) && nat_le (length text) 250) (list_all (λ b. nat_lt 32 b && not (b == 127)) text) read.0).1 in
    let same : text ≡ key = cc (read.1) in
    subst Plain same (bytes-plain text bytes)

abbrev pub KeyOf : Act → Type 0
KeyOf a = Plain (key_of a)

-- the key of a line's act
abbrev pub KeyIn : Line → Type 0
KeyIn (Ask caller p a) = KeyOf a
KeyIn _ = ⊤

line-key : (s : Dimensions) (l : Line) → ReadsLine s l → KeyIn l
line-key s (Ask caller p a) read = let word = key-words a read.2 in key-plain word.0 (key_of a) word.1
line-key s l read = tt

pub read-key : (s : Dimensions) (line : List ℕ) (l : Line) → line_meaning (Some s) line ≡ Ok l → KeyIn l
read-key s line l is = line-key s l (line_of-words s line l is)
