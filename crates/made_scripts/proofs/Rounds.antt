-- The line of each round is one that a script goes on from.
use Rattle.std.proofs.Common.{ℕ, zero, suc, ◌≡◌, ◌<◌, ◌≤◌, ◌+◌, ◌*◌, ◌==◌, nat_le, nat_lt, Bool, true, false, not, ◌&&◌}
use Rattle.std.proofs.Common.{List, [], ◌∷◌, ◌++◌, length, Option, Some, None, is_some, refl, sym, ap, subst, ◌∙◌}
use Rattle.std.proofs.Common.{arith, if◌then◌else◌}
use Rattle.std.proofs.lemmas.Grind.{common_steps}
use Rattle.std.proofs.lemmas.List.{append_assoc, length-append}
use Rattle.std.proofs.lemmas.List.Folds.{list_all-append}
use Rattle.std.proofs.lemmas.List.Splits.{slice_split_at, slice_split_none}
use Rattle.std.specs.Prelude.{codes, Ok}
use Rattle.std.specs.Fmt.{decimal, digits}
use Rattle.std.specs.List.{list_all}
use Rattle.group_types.specs.Dimensions.{callers}
use Rattle.group_types.specs.Each.{Each}
use Rattle.group_types.specs.Hash.{home_of}
use Rattle.group_types.specs.Names.{IsProcess}
use Rattle.group_types.specs.declared.process.ProcessId.{ProcessId}
use Rattle.group_types.specs.declared.process.ProcessId.TheVariants.{DataNode, ParityNode}
use Rattle.memc_table.specs.declared.act.Act.{Act}
use Rattle.law_moves.proofs.Notices.{both}
use Rattle.scenario_make.specs.Draws.{draw}
use Rattle.scenario_make.specs.Rounds.{asked_process, first_loss, key_name, line, process_name, process_numbered, round_from, round_words, second_loss}
use Rattle.scenario_make.specs.Rounds.{value_word}
use Rattle.scenario_make.specs.declared.round.Round.{Round}
use Rattle.scenario_make.specs.declared.round.Round.TheVariants.{Set, Get, Delete, Deliver, Drain, Flush}
use Rattle.scenario_text.specs.Acts.{act_of_words}
use Rattle.scenario_text.specs.Meaning.{event_line, is_skipped, keyword_of, line_by, line_meaning, meaning_of, or_bad_line}
use Rattle.scenario_text.specs.Words.{◌>>=◌, number_below, process_of_word, split_words as words_in}
use Rattle.scenario_text.specs.declared.line.Line.TheVariants as reads
use Rattle.made_scripts.specs.Clean.{made_shape}
use Rattle.made_scripts.proofs.Lines.{in_word, is_plain, no-space}
use Rattle.made_scripts.proofs.Words.{caller-word, is_clean, key-fine, passes-at, passes_below, process-fine, set-fine, value-clean}

-- words with single spaces between them
abbrev pub body : List (List ℕ) → List ℕ
body [] = []
body (word ∷ []) = word
body (word ∷ next ∷ words) = word ++ 32 ∷ body (next ∷ words)

pub line-body : (words : List (List ℕ)) → line words ≡ body words ++ 10 ∷ []
line-body [] = refl
line-body (word ∷ []) = refl
line-body (word ∷ next ∷ words) = ap (λ (text : List ℕ). word ++ 32 ∷ text) (line-body (next ∷ words))
    ∙ sym (append_assoc word (32 ∷ body (next ∷ words)) (10 ∷ []))

-- clean words
abbrev pub AreClean : List (List ℕ) → Type 0
AreClean words = Each (λ w. is_clean w ≡ true) words

words-body : (word : List ℕ) (words : List (List ℕ)) → AreClean (word ∷ words) → words_in (body (word ∷ words)) ≡ word ∷ words
words-body word [] clean = slice_split_none (λ b. b == 32) word (no-space word (both (list_all in_word word) (nat_le (length word) 8) clean.0).0)
words-body word (next ∷ words) clean =
    slice_split_at (λ b. b == 32) word 32 (body (next ∷ words)) (no-space word (both (list_all in_word word) (nat_le (length word) 8) clean.0).0) refl
    ∙ ap (λ (ws : List (List ℕ)). word ∷ ws) (words-body next words clean.1)

-- no byte of them ends a line
abbrev pub ends_none : List ℕ → Bool
ends_none text = list_all (λ b. not (b == 10)) text

word-ends_none : (word : List ℕ) → list_all in_word word ≡ true → ends_none word ≡ true
word-ends_none [] clean = refl
word-ends_none (b ∷ bs) clean =
    let parts = both (in_word b) (list_all in_word bs) clean in
    ap (λ (t : Bool). t && ends_none bs) (both (not (b == 32)) (not (b == 10)) parts.0).1 ∙ word-ends_none bs parts.1

body-ends_none : (words : List (List ℕ)) → AreClean words → ends_none (body words) ≡ true
body-ends_none [] clean = refl
body-ends_none (word ∷ []) clean = word-ends_none word (both (list_all in_word word) (nat_le (length word) 8) clean.0).0
body-ends_none (word ∷ next ∷ words) clean =
    list_all-append (λ b. not (b == 10)) word (32 ∷ body (next ∷ words))
    ∙ ap (λ (t : Bool). t && ends_none (32 ∷ body (next ∷ words))) (word-ends_none word (both (list_all in_word word) (nat_le (length word) 8) clean.0).0)
    ∙ body-ends_none (next ∷ words) clean.1

body-short : (words : List (List ℕ)) → AreClean words → length (body words) ≤ 9 * length words
body-short [] clean = omega arith
body-short (word ∷ []) clean = let short = (both (list_all in_word word) (nat_le (length word) 8) clean.0).1 in
    let few : length word ≤ 8 = grind (arith, common_steps) in omega (arith, few)
body-short (word ∷ next ∷ words) clean =
    let short = (both (list_all in_word word) (nat_le (length word) 8) clean.0).1 in
    let few : length word ≤ 8 = grind (arith, common_steps) in
    let rest = body-short (next ∷ words) clean.1 in
    let long = length-append word (32 ∷ body (next ∷ words)) in
    omega (arith, few, rest, long)

-- words whose line a script goes on from, and which is short
pub record LineFine (words : List (List ℕ)) : Type 0 where
  pub plain : is_plain (line_meaning (Some made_shape) (body words)) ≡ true
  pub ends : ends_none (body words) ≡ true
  pub short : length (body words) ≤ 63

-- clean words that mean such a line
words-fine : (word : List ℕ) (words : List (List ℕ)) → AreClean (word ∷ words) → length words ≤ 6 → is_skipped (body (word ∷ words)) ≡ false
    → is_plain (or_bad_line (event_line made_shape (word ∷ words))) ≡ true → LineFine (word ∷ words)
words-fine word words clean few first plain = record {
  plain = ap (λ (t : Bool). is_plain (if t then Ok reads.Skipped else meaning_of (Some made_shape) (words_in (body (word ∷ words))))) first
      ∙ ap (λ (ws : List (List ℕ)). is_plain (or_bad_line (event_line made_shape ws))) (words-body word words clean) ∙ plain;
  ends = body-ends_none (word ∷ words) clean;
  short = let most = body-short (word ∷ words) clean in omega (arith, few, most);
}

-- an ask
reads-ask : (a : Option ℕ) (b : Option ProcessId) (c : Option Act) → is_some a ≡ true → is_some b ≡ true → is_some c ≡ true
    → is_plain (or_bad_line (a >>= λ caller. b >>= λ at. c >>= λ act. Some (reads.Ask caller at act))) ≡ true
reads-ask None b c one two three = absurd (cc one)
reads-ask (Some caller) None c one two three = absurd (cc two)
reads-ask (Some caller) (Some at) None one two three = absurd (cc three)
reads-ask (Some caller) (Some at) (Some act) one two three = refl

ask-plain : (caller : ℕ) (p : ProcessId) (op : List (List ℕ)) → caller < 8 → IsProcess made_shape p → is_some (act_of_words op) ≡ true
    → is_plain (or_bad_line (event_line made_shape (codes "ask" ∷ decimal caller ∷ process_name p ∷ op))) ≡ true
unfolding keyword_of line_by
ask-plain caller p op low pin acts = reads-ask (number_below callers (decimal caller))
    (process_of_word made_shape (process_name p)) (act_of_words op) (caller-word caller low).0 (process-fine p pin).0 acts

ask-fine : (caller : ℕ) (p : ProcessId) (op : List (List ℕ)) → caller < 8 → IsProcess made_shape p → is_some (act_of_words op) ≡ true → AreClean op
    → length op ≤ 4
    → LineFine (codes "ask" ∷ decimal caller ∷ process_name p ∷ op)
ask-fine caller p op low pin acts clean few =
    words-fine (codes "ask") (decimal caller ∷ process_name p ∷ op)
    (refl, ((caller-word caller low).1, ((process-fine p pin).1, clean))) (omega (arith, few)) refl
    (ask-plain caller p op low pin acts)

-- the process that is asked
asked-in : (round h : ℕ) → h < 3 → IsProcess made_shape (asked_process round h)
unfolding asked_process
asked-in round zero low = by (nat_lt round first_loss) (nat_lt round second_loss) where
  by : (a b : Bool) → IsProcess made_shape (if a then DataNode 0 else if b then ParityNode 0 else ParityNode 1)
  by true b = omega arith
  by false true = omega arith
  by false false = omega arith
asked-in round (suc d) low = low

home-low : (i : ℕ) → home_of (key_name i) 3 < 3
home-low i = omega arith

-- what rounds that name no round number mean, each tried
fine_words : List (List ℕ) → Bool
fine_words words = is_plain (line_meaning (Some made_shape) (body words)) && (ends_none (body words) && nat_le (length (body words)) 63)

tried-fine : (words : List (List ℕ)) → fine_words words ≡ true → LineFine words
unfolding fine_words
tried-fine words passes =
    let first = both (is_plain (line_meaning (Some made_shape) (body words))) (ends_none (body words) && nat_le (length (body words)) 63) passes in
    let second = both (ends_none (body words)) (nat_le (length (body words)) 63) first.1 in
    let test = second.1 in
    record { plain = first.0; ends = second.0; short = grind (arith, common_steps) }

delivers-pass : passes_below 5 (λ from. passes_below 5 (λ to. fine_words (round_words 0 (Deliver from to)))) ≡ true
unfolding fine_words digits keyword_of line_by number_below process_numbered process_name process_of_word
delivers-pass = refl

flushes-pass : passes_below 3 (λ d. fine_words (round_words 0 (Flush d))) ≡ true
unfolding fine_words digits keyword_of line_by number_below process_name process_of_word
flushes-pass = refl

drain-passes : fine_words (round_words 0 Drain) ≡ true
unfolding fine_words keyword_of line_by
drain-passes = refl

-- what is drawn is in range
InRange : Round → Type 0
InRange (Set caller i len) = (caller < 8) × (i < 20) × ((k : ℕ) × (k < 40) × (len ≡ k + 1))
InRange (Get caller i) = (caller < 8) × (i < 20)
InRange (Delete caller i) = (caller < 8) × (i < 20)
InRange (Deliver from to) = (from < 5) × (to < 5)
InRange Drain = Unit {0}
InRange (Flush d) = d < 3

in-range : (s : ℕ) → InRange (round_from s)
unfolding InRange
in-range s = by (nat_lt (draw s 1 10) 4) (nat_lt (draw s 1 10) 6) (draw s 1 10 == 6) (draw s 1 10 == 7) (draw s 1 10 == 8) where
  by : (a b c d e : Bool) → InRange (
      if a then Set (draw s 2 8) (draw s 3 20) (draw s 4 40 + 1)
      else if b then Get (draw s 2 8) (draw s 3 20)
      else if c then Deliver (draw s 2 5) (draw s 3 5)
      else if d then Drain
      else if e then Flush (draw s 2 3)
      else Delete (draw s 2 8) (draw s 3 20))
  by true b c d e = (omega arith, omega arith, (draw s 4 40, omega arith, refl))
  by false true c d e = (omega arith, omega arith)
  by false false true d e = (omega arith, omega arith)
  by false false false true e = tt
  by false false false false true = omega arith
  by false false false false false = (omega arith, omega arith)

round-fine : (r : ℕ) (round : Round) → InRange round → LineFine (round_words r round)
unfolding InRange
round-fine r (Set caller i len) (low, below, (k, short, is)) =
    subst (λ (n : ℕ). LineFine (round_words r (Set caller i n))) (sym is)
    (ask-fine caller (asked_process r (home_of (key_name i) 3)) (codes "set" ∷ key_name i ∷ codes "0" ∷ value_word (k + 1)
    ∷ []) low (asked-in r (home_of (key_name i) 3) (home-low i))
    (set-fine i k below short) (refl, ((key-fine i below).clean, (refl, (value-clean k short, tt)))) (omega arith))
round-fine r (Get caller i) (low, below) =
    ask-fine caller (asked_process r (home_of (key_name i) 3)) (codes "get" ∷ key_name i ∷ []) low
    (asked-in r (home_of (key_name i) 3) (home-low i)) (key-fine i below).get (refl, ((key-fine i below).clean, tt))
    (omega arith)
round-fine r (Delete caller i) (low, below) =
    ask-fine caller (asked_process r (home_of (key_name i) 3)) (codes "delete" ∷ key_name i ∷ []) low
    (asked-in r (home_of (key_name i) 3) (home-low i)) (key-fine i below).delete
    (refl, ((key-fine i below).clean, tt)) (omega arith)
round-fine r (Deliver from to) (low, below) =
    tried-fine (round_words r (Deliver from to)) (passes-at 5 (λ to. fine_words (round_words 0 (Deliver from to)))
    (passes-at 5 (λ from. passes_below 5 (λ to. fine_words (round_words 0 (Deliver from to)))) delivers-pass from low) to
    below)
round-fine r Drain range = tried-fine (round_words r Drain) drain-passes
round-fine r (Flush d) low = tried-fine (round_words r (Flush d)) (passes-at 3 (λ d. fine_words (round_words 0 (Flush d))) flushes-pass d low)

pub drawn-fine : (r s : ℕ) → LineFine (round_words r (round_from s))
drawn-fine r s = round-fine r (round_from s) (in-range s)
