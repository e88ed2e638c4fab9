-- How a text is cut at the line `====`, and the numbers of a text that is verified.
use Rattle.std.proofs.Common.{ℕ, zero, suc, ◌≡◌, ◌≢◌, ◌<◌, ◌+◌, ◌==◌, inl, inr, Bool, true, false, cond, List, [], ◌∷◌}
use Rattle.std.proofs.Common.{◌++◌, codes, drop, length, All, Option, Some, None, Result, Ok, Err, if◌then◌else◌, refl}
use Rattle.std.proofs.Common.{sym, ap, ap₂, subst, ◌∙◌, append_assoc, arith}
use Rattle.std.proofs.lemmas.Bool.Decides.{nat_tests}
use Rattle.std.proofs.lemmas.Slice.Eq.{bytes_eq-Decides}
use Rattle.std.proofs.lemmas.List.Splits.{length-slice_split, slice_split_at}
use Rattle.std.specs.List.{slice_split}
use Rattle.std.specs.Prelude.{filter}
use Rattle.std.specs.Str.{bytes_eq}
use Rattle.group_types.specs.Each.{Each}
use Rattle.group_calls.specs.declared.event.Answer.{Answer}
use Rattle.group_calls.specs.declared.event.Answer.TheVariants as says
use Rattle.group_calls.specs.declared.event.Cause.TheVariants.{Block, Pending}
use Rattle.group_calls.specs.declared.event.Event.{Event}
use Rattle.group_calls.specs.declared.event.Event.TheVariants as happens
use Rattle.scenario_text.specs.Texts.{answer_text, place_text}
use Rattle.scenario_text.specs.declared.line.LineFault.{LineFault}
use Rattle.scenario_run.specs.Course.{Fault}
use Rattle.scenario_run.specs.Lines.{lines_of, without_empty_last}
use Rattle.run_verify.specs.Passing.{Account, DuePlace, PassAll, Passes, PassesBy, PassesEntry, PassesPlace, PassesStep}
use Rattle.run_verify.specs.Passing.{JudgingState, after_event, begins_entry, dues_from, first_state, takes_effect}
use Rattle.run_verify.specs.Sheet.{Sheet, before_separator, behind_separator, separator, sheet_in, sheet_joined}
use Rattle.run_verify.specs.Steps.{Script, script_in}
use Rattle.run_verify.specs.Told.{drained_line, placed_line}
use Rattle.run_verify.specs.declared.step.Step.{Step}
use Rattle.run_verify.specs.declared.step.Step.TheVariants.{Make, Deliveries, Look, Placing}
use Rattle.law_told.specs.Lines.{is_log_line, text_of}
use Rattle.law_told.specs.Verified.{IsCutInto, IsScriptLine, NumbersAreCounts, SheetsAreCut, begins_with, is_shown_line}

-- ---- lines of a text

kept-last : (line : List ℕ) (lines : List (List ℕ)) → 0 < length lines → without_empty_last (line ∷ lines) ≡ line ∷ without_empty_last lines
kept-last line [] none = absurd (omega arith)
kept-last [] (next ∷ lines) some = refl
kept-last (b ∷ bs) (next ∷ lines) some = refl

not-end : (b : ℕ) → b ≢ 10 → (b == 10) ≡ false
not-end b other = grind (arith, nat_tests, other)

no-end : (line : List ℕ) → Each (λ b. b ≢ 10) line → All (λ b. (b == 10) ≡ false) line
no-end [] whole n d low = absurd (omega (arith, low))
no-end (b ∷ bs) whole zero d low = not-end b whole.0
no-end (b ∷ bs) whole (suc n) d low = no-end bs whole.1 n d (omega (arith, low))

first-line : (line rest : List ℕ) → Each (λ b. b ≢ 10) line → lines_of (line ++ 10 ∷ rest) ≡ line ∷ lines_of rest
first-line line rest whole =
    let is_end : ℕ → Bool = λ b. b == 10 in
    let some : 0 < length (slice_split is_end rest) = omega (arith, length-slice_split is_end rest) in
    ap without_empty_last (slice_split_at is_end line 10 rest (no-end line whole) refl) ∙ kept-last line (slice_split is_end rest) some

-- a line that isn't the separator
other-line : (line : List ℕ) → line ≢ codes "====" → bytes_eq line separator ≡ false
other-line line other = by (bytes_eq line separator) refl where
  by : (b : Bool) → bytes_eq line separator ≡ b → b ≡ false
  by true is = absurd (other ((bytes_eq-Decides line separator).0 is))
  by false is = refl

separator-itself : bytes_eq (codes "====") separator ≡ true
separator-itself = (bytes_eq-Decides (codes "====") separator).1 refl

-- ---- the cut

-- what stands before the separator and behind it, and of the script alone
record Cut (lines : List (List ℕ)) (transcript : List ℕ) : Type 0 where
  pub before : before_separator (lines_of (text_of lines ++ (codes "====\n" ++ transcript))) ≡ lines
  pub behind : behind_separator (lines_of (text_of lines ++ (codes "====\n" ++ transcript))) ≡ Some (lines_of transcript)
  pub alone : lines_of (text_of lines) ≡ lines

equals-sign : (b : ℕ) → b ≡ 61 → b ≢ 10
equals-sign b same is = omega (arith, same, is)

cut : (lines : List (List ℕ)) (transcript : List ℕ) → Each IsScriptLine lines → Cut lines transcript
cut [] transcript each =
    let four : Each (λ (b : ℕ). b ≢ 10) (codes "====") = (equals-sign 61 refl, (equals-sign 61 refl, (equals-sign 61 refl, (equals-sign 61 refl, tt)))) in
    let first : lines_of (codes "====\n" ++ transcript) ≡ codes "====" ∷ lines_of transcript = first-line (codes "====") transcript four in
    record {
      before = ap before_separator first ∙ ap (λ (b : Bool). if b then [] else codes "====" ∷ before_separator (lines_of transcript)) separator-itself;
      behind = ap behind_separator first ∙ ap (λ (b : Bool). if b then Some (lines_of transcript) else behind_separator (lines_of transcript)) separator-itself;
      alone = refl;
    }
cut (line ∷ lines) transcript each =
    let rest = cut lines transcript each.1 in
    let more : List ℕ = text_of lines ++ (codes "====\n" ++ transcript) in
    let whole : lines_of (text_of (line ∷ lines) ++ (codes "====\n" ++ transcript)) ≡ line ∷ lines_of more
    = ap lines_of (append_assoc line (10 ∷ text_of lines) (codes "====\n" ++ transcript)) ∙ first-line line more each.0.whole in
    let other = other-line line each.0.other in
    record {
      before = ap before_separator whole ∙ ap (λ (b : Bool). if b then [] else line ∷ before_separator (lines_of more))
          other ∙ ap (λ (ls : List (List ℕ)). line ∷ ls) rest.before;
      behind = ap behind_separator whole ∙ ap (λ (b : Bool). if b then Some (lines_of more) else behind_separator (lines_of more)) other ∙ rest.behind;
      alone = first-line line (text_of lines) each.0.whole ∙ ap (λ (ls : List (List ℕ)). line ∷ ls) rest.alone;
    }

into : (n : ℕ) (read : Result Script (Fault LineFault)) (transcript : List ℕ) → IsCutInto read transcript (sheet_joined n read (Some (lines_of transcript)))
into n (Ok script) transcript = refl
into n (Err fault) transcript = refl

pub sheets_are_cut : SheetsAreCut
sheets_are_cut script transcript is =
    let both : List (List ℕ) = lines_of (text_of is.lines ++ (codes "====\n" ++ transcript)) in
    let cuts = cut is.lines transcript is.each in
    let reads : script_in 1 None (before_separator both) ≡ script_in 1 None (lines_of (text_of is.lines)) =
    ap (script_in 1 None) (cuts.before ∙ sym cuts.alone) in
    let read : Result Script (Fault LineFault) = script_in 1 None (lines_of (text_of is.lines)) in
    subst (λ (text : List ℕ). IsCutInto (script_in 1 None (lines_of text)) transcript
    (sheet_in (lines_of (text ++ (codes "====\n" ++ transcript))))) (sym is.is)
    (subst (IsCutInto read transcript)
    (sym (ap₂ (λ (r : Result Script (Fault LineFault)) (o : Option (List (List ℕ))). sheet_joined (length both + 1) r o)
    reads cuts.behind))
    (into (length both + 1) read transcript))

-- ---- the numbers

-- a line adds to the number of entries where it begins with `=`, and to the other one where it begins with `shown `
record Adds (line : List ℕ) (a b : Account) : Type 0 where
  pub entries : b.entries ≡ cond (is_log_line line) 1 0 + a.entries
  pub shown : b.shown ≡ cond (is_shown_line line) 1 0 + a.shown

-- an answer shows no bytes
answer-silent : (a : Answer) → is_shown_line (answer_text a) ≡ false
answer-silent (says.Reply r) = refl
answer-silent (says.Retry (Pending d n)) = refl
answer-silent (says.Retry (Block b)) = refl
answer-silent answer = refl

-- one more where a test holds, and none where it doesn't
plus-one : (n m : ℕ) (b : Bool) → b ≡ true → m ≡ n + 1 → m ≡ cond b 1 0 + n
plus-one n m true holds is = let same : m ≡ 1 + n = omega (arith, is) in same
plus-one n m false holds is = absurd (cc holds)

plus-none : (n m : ℕ) (b : Bool) → b ≡ false → m ≡ n → m ≡ cond b 1 0 + n
plus-none n m true fails is = absurd (cc fails)
plus-none n m false fails is = let same : m ≡ 0 + n = omega (arith, is) in same

-- a line of the log shows no bytes
log-silent : (line : List ℕ) → begins_entry line ≡ true → is_shown_line line ≡ false
log-silent [] is = refl
log-silent (b ∷ bs) is = let test : (115 == b) ≡ false = grind (arith, nat_tests, is) in
    ap (λ (t : Bool). if t then begins_with (codes "hown ") bs else false) test

same-mark : (line : List ℕ) → is_log_line line ≡ begins_entry line
same-mark [] = refl
same-mark (b ∷ bs) = refl

entry-adds : (sheet : Sheet) (s : JudgingState) (line : List ℕ) (next : JudgingState) → begins_entry line ≡ true
    → PassesEntry sheet s line next → Adds line s.account next.account
entry-adds sheet s line next log (may, e, run, tells, told, is) = record {
  entries = plus-one s.account.entries next.account.entries (is_log_line line) (same-mark line ∙ log) (ap (λ (t : JudgingState). t.account.entries) is);
  shown = plus-none s.account.shown next.account.shown (is_shown_line line) (log-silent line log) (ap (λ (t : JudgingState). t.account.shown) is);
}

-- no entry is counted, nor any line that shows bytes
none : (line text : List ℕ) (a b : Account) → begins_entry line ≡ false → line ≡ text → is_shown_line text ≡ false
    → b.entries ≡ a.entries → b.shown ≡ a.shown → Adds line a b
none line text a b plain is silent entries shown = record {
  entries = plus-none a.entries b.entries (is_log_line line) (same-mark line ∙ plain) entries;
  shown = plus-none a.shown b.shown (is_shown_line line) (ap is_shown_line is ∙ silent) shown;
}

-- an event's answer leaves the numbers
entries-stay : (a : Account) (event : Event) (taken : Bool) → (after_event a event taken).entries ≡ a.entries
entries-stay a (happens.Ask caller op p) taken = refl
entries-stay a e taken = refl

shown-stays : (a : Account) (event : Event) (taken : Bool) → (after_event a event taken).shown ≡ a.shown
shown-stays a (happens.Ask caller op p) taken = refl
shown-stays a e taken = refl

-- lines of the places
place-adds : (sheet : Sheet) (a : Account) (steps : List Step) (dues : List DuePlace) (line : List ℕ) (next : JudgingState)
    → begins_entry line ≡ false → PassesPlace sheet a steps dues line next → Adds line a next.account
place-adds sheet a steps [] line next plain (text, is) =
    none line (placed_line a.placed) a next.account plain text refl (ap (λ (t : JudgingState). t.account.entries) is)
    (ap (λ (t : JudgingState). t.account.shown) is)
place-adds sheet a steps (due ∷ dues) line next plain (tells, is) =
    none line (place_text due.partition due.number tells.run) a next.account plain tells.text refl
    (ap (λ (t : JudgingState). t.account.entries) is) (ap (λ (t : JudgingState). t.account.shown) is)

step-adds : (sheet : Sheet) (a : Account) (steps : List Step) (line : List ℕ) (ahead : List (List ℕ)) (next : JudgingState)
    → begins_entry line ≡ false → PassesStep sheet a steps line ahead next → Adds line a next.account
step-adds sheet a [] line ahead next plain passes = absurd passes
step-adds sheet a (Make event ∷ steps) line ahead next plain (answer, answers, is) =
    none line (answer_text answer) a next.account plain answers.text (answer-silent answer)
    (ap (λ (t : JudgingState). t.account.entries) is ∙ entries-stay a event (takes_effect answer))
    (ap (λ (t : JudgingState). t.account.shown) is ∙ shown-stays a event (takes_effect answer))
step-adds sheet a (Deliveries ∷ steps) line ahead next plain (n, low, text, is) =
    none line (drained_line n) a next.account plain text refl (ap (λ (t : JudgingState). t.account.entries) is) (ap (λ (t : JudgingState). t.account.shown) is)
step-adds sheet a (Look p run ∷ steps) line ahead next plain (inl (tells, is)) = record {
  entries = plus-none a.entries next.account.entries (is_log_line line) (same-mark line ∙ plain) (ap (λ (t : JudgingState). t.account.entries) is);
  shown = plus-one a.shown next.account.shown (is_shown_line line) (ap is_shown_line tells.text) (ap (λ (t : JudgingState). t.account.shown) is);
}
step-adds sheet a (Look p run ∷ steps) line ahead next plain (inr (inl text, is)) =
    none line (codes "lost") a next.account plain text refl (ap (λ (t : JudgingState). t.account.entries) is) (ap (λ (t : JudgingState). t.account.shown) is)
step-adds sheet a (Look p run ∷ steps) line ahead next plain (inr (inr text, is)) =
    none line (codes "down") a next.account plain text refl (ap (λ (t : JudgingState). t.account.entries) is) (ap (λ (t : JudgingState). t.account.shown) is)
step-adds sheet a (Placing ∷ steps) line ahead next plain passes =
    place-adds sheet a steps (drop a.placed (dues_from a 0 sheet.script.shape.k)) line next plain passes

line-adds : (sheet : Sheet) (s : JudgingState) (line : List ℕ) (ahead : List (List ℕ)) (next : JudgingState)
    → Passes sheet s line ahead next → Adds line s.account next.account
line-adds sheet s line ahead next passes = by (begins_entry line) refl passes where
  by : (b : Bool) → begins_entry line ≡ b → PassesBy b sheet s line ahead next → Adds line s.account next.account
  by true log entry = entry-adds sheet s line next log entry
  by false plain step = step-adds sheet s.account s.steps line ahead next plain step

-- how many lines there are of a kind
one-more : (p : List ℕ → Bool) (line : List ℕ) (lines : List (List ℕ)) → length (filter p (line ∷ lines)) ≡ cond (p line) 1 0 + length (filter p lines)
one-more p line lines = by (p line) where
  by : (b : Bool) → length (cond b (line ∷ filter p lines) (filter p lines)) ≡ cond b 1 0 + length (filter p lines)
  by true = let same : suc (length (filter p lines)) ≡ 1 + length (filter p lines) = omega arith in same
  by false = let same : length (filter p lines) ≡ 0 + length (filter p lines) = omega arith in same

-- the numbers at the end
record Sums (lines : List (List ℕ)) (a b : Account) : Type 0 where
  pub entries : b.entries ≡ length (filter is_log_line lines) + a.entries
  pub shown : b.shown ≡ length (filter is_shown_line lines) + a.shown

all-add : (sheet : Sheet) (s : JudgingState) (lines : List (List ℕ)) (account : Account) → PassAll sheet s lines account → Sums lines s.account account
all-add sheet s [] account (over, same) =
    let entries = ap (λ (a : Account). a.entries) same in
    let shown = ap (λ (a : Account). a.shown) same in
    let all_entries : account.entries ≡ 0 + s.account.entries = omega (arith, entries) in
    let all_shown : account.shown ≡ 0 + s.account.shown = omega (arith, shown) in
    record { entries = all_entries; shown = all_shown }
all-add sheet s (line ∷ lines) account (next, passes, rest) =
    let one = line-adds sheet s line lines next passes in
    let more = all-add sheet next lines account rest in
    let first = one.entries in
    let behind = more.entries in
    let long = one-more is_log_line line lines in
    let shows = one.shown in
    let after = more.shown in
    let many = one-more is_shown_line line lines in
    record { entries = omega (arith, first, behind, long); shown = omega (arith, shows, after, many) }

pub numbers_are_counts : NumbersAreCounts
numbers_are_counts text entries shown (sheet, reads, verified) =
    let sums = all-add sheet (first_state sheet.script) sheet.lines verified.account verified.passes in
    let all = sums.entries in
    let logs = verified.entries in
    let shows = sums.shown in
    let looks = verified.shown in
    let none_yet : (first_state sheet.script).account.entries ≡ 0 = refl in
    let none_shown : (first_state sheet.script).account.shown ≡ 0 = refl in
    record { sheet = sheet; is = reads; entries_are = omega (arith, all, logs, none_yet); shown_are = omega (arith, shows, looks, none_shown) }
