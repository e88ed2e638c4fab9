-- The place lines of a transcript, partition by partition.
use Rattle.std.proofs.Common.{inl, inr, ◌≡◌, ◌<◌, ◌≤◌, ◌+◌, ℕ, zero, suc, List, [], ◌∷◌, ◌++◌, ◌∙◌, map, length, Option, Some, None, refl, ap, arith}
use Rattle.std.proofs.lemmas.Bool.{cases_eq}
use Rattle.std.proofs.lemmas.List.{length-append}
use Rattle.std.specs.List.{range_with_len}
use Rattle.std.specs.Prelude.{⊤}
use Rattle.group_types.specs.Dimensions.{Dimensions}
use Rattle.group_types.specs.declared.run.Run.{Run}
use Rattle.scenario_text.specs.Texts.{many_placed}
use Rattle.run_verify.specs.Changes.{run_after_changes}
use Rattle.run_verify.specs.Passing.{Account, DuePlace, changes_at, due_for, due_places_of, dues_from}
use Rattle.run_verify.specs.Told.{count_placed, place_lines, run_lines}
use Rattle.run_verify.specs.Updates.{IsClearRun}
use Rattle.run_verify.specs.declared.change.Change.{Change}
use Rattle.run_verify.specs.declared.change.Effect.{Effect}
use Rattle.run_verify.specs.declared.change.Effect.TheVariants.{Writes, Removes, Keeps}
use Rattle.run_verify.proofs.ImpliedCourse.{AllTold}

-- the run that is told of a change
abbrev pub run_told : Effect → Option Run
run_told (Writes value run) = run
run_told Removes = None
run_told Keeps = None

abbrev pub runs_for : List Change → List (Option Run)
runs_for changes = map (λ c. run_told c.effect) changes

-- the runs of each partition
abbrev pub runs_of : Account → ℕ → ℕ → List (List (Option Run))
runs_of a d n = map (λ p. runs_for (changes_at a p)) (range_with_len d n)

-- a value that is written has its run, which is clear
abbrev pub IsClearBy : Dimensions → List Change → Effect → Type 0
IsClearBy s before (Writes value run) = (r : Run) × (run ≡ Some r) × IsClearRun s (λ key. run_after_changes key None before) r (length value)
IsClearBy s before Removes = ⊤
IsClearBy s before Keeps = ⊤

abbrev pub AreClear : Dimensions → List Change → List Change → Type 0
AreClear s before [] = Unit {0}
AreClear s before (change ∷ more) = IsClearBy s before change.effect × AreClear s (before ++ change ∷ []) more

-- the lines of one partition
pub record Lined (s : Dimensions) (d : ℕ) (before changes : List Change) (many : ℕ) (places : List (List ℕ)) : Type 0 where
  pub lines : places ≡ run_lines d (length before) (runs_for changes)
  pub count : many ≡ many_placed (runs_for changes)
  pub clear : AreClear s before changes

length-push : (before : List Change) (c : Change) → length (before ++ c ∷ []) ≡ suc (length before)
length-push before c = length-append before (c ∷ []) ∙ omega arith

pub lined : (s : Dimensions) (d : ℕ) (before changes : List Change) (places : List (List ℕ)) → AllTold s (due_places_of d before changes) places
    → Lined s d before changes (length (due_places_of d before changes)) places
lined s d before [] [] told = record { lines = refl; count = refl; clear = tt }
lined s d before [] (line ∷ lines) told = absurd told
lined s d before (c ∷ changes) places told = by c.effect refl (due_places_of d (before ++ c ∷ []) changes) places told
    (λ lines told'. lined s d (before ++ c ∷ []) changes lines told')
  where
    by : (e : Effect) → c.effect ≡ e → (dues : List DuePlace) (lines : List (List ℕ)) → AllTold s (due_for d before e dues) lines
        → ((more : List (List ℕ)) → AllTold s dues more → Lined s d (before ++ c ∷ []) changes (length dues) more)
        → Lined s d before (c ∷ changes) (length (due_for d before e dues)) lines
    by Removes is dues lines told onward =
        let rest = onward lines told in
        record { lines = rw is (rest.lines ∙ rw (length-push before c) refl); count = rw is rest.count; clear = (rw is tt, rest.clear) }
    by Keeps is dues lines told onward =
        let rest = onward lines told in
        record { lines = rw is (rest.lines ∙ rw (length-push before c) refl); count = rw is rest.count; clear = (rw is tt, rest.clear) }
    by (Writes value run) is dues [] told onward = absurd told
    by (Writes value run) is dues (line ∷ lines) (first, told) onward =
        let rest = onward lines told in
        let some = first.is in
        let text = first.text in
        let behind : lines ≡ run_lines d (suc (length before)) (runs_for changes) = rest.lines ∙ rw (length-push before c) refl in
        let number : length before + 1 ≡ suc (length before) = omega arith in
        let line_is = rw number at text in
        record {
          lines = rw (is, some) (cc (line_is, behind));
          count = rw (is, some) (ap suc rest.count);
          clear = (rw is (first.run, some, first.clear), rest.clear);
        }

-- ---- all partitions

pub record Split (s : Dimensions) (front behind : List DuePlace) (places : List (List ℕ)) : Type 0 where
  pub one : List (List ℕ)
  pub other : List (List ℕ)
  pub text : places ≡ one ++ other
  pub first : AllTold s front one
  pub more : AllTold s behind other

pub split : (s : Dimensions) (front behind : List DuePlace) (places : List (List ℕ)) → AllTold s (front ++ behind) places → Split s front behind places
split s [] behind places told = record { one = []; other = places; text = refl; first = tt; more = told }
split s (due ∷ front) behind [] told = absurd told
split s (due ∷ front) behind (line ∷ places) (first, told) =
    let rest = split s front behind places told in
    let text = rest.text in
    record { one = line ∷ rest.one; other = rest.other; text = cc text; first = (first, rest.first); more = rest.more }

pub record AllLined (s : Dimensions) (a : Account) (d n many : ℕ) (places : List (List ℕ)) : Type 0 where
  pub lines : places ≡ place_lines d (runs_of a d n)
  pub count : many ≡ count_placed (runs_of a d n)
  pub clear : (p : ℕ) → d ≤ p → p < d + n → AreClear s [] (changes_at a p)

pub all_lined : (s : Dimensions) (a : Account) (d n : ℕ) (places : List (List ℕ)) → AllTold s (dues_from a d n) places
    → AllLined s a d n (length (dues_from a d n)) places
all_lined s a d zero [] told = record { lines = refl; count = refl; clear = λ p low high. absurd (omega (arith, low, high)) }
all_lined s a d zero (line ∷ lines) told = absurd told
all_lined s a d (suc n) places told =
    let parts = split s (due_places_of d [] (changes_at a d)) (dues_from a (d + 1) n) places told in
    let here = lined s d [] (changes_at a d) parts.one parts.first in
    let rest = all_lined s a (d + 1) n parts.other parts.more in
    let next : d + 1 ≡ suc d = omega arith in
    record {
      lines = parts.text ∙ ap (λ (t : List (List ℕ)). t ++ parts.other) here.lines
          ∙ ap (λ (t : List (List ℕ)). run_lines d 0 (runs_for (changes_at a d)) ++ t)
          (rest.lines ∙ ap (λ (m : ℕ). place_lines m (runs_of a (d + 1) n)) next);
      count = length-append (due_places_of d [] (changes_at a d)) (dues_from a (d + 1) n)
          ∙ rw here.count (ap (λ (m : ℕ). many_placed (runs_for (changes_at a d)) + m) rest.count);
      clear = λ p low high. elim (cases_eq p d) [ inl same ↦ rw same here.clear | inr other ↦ rest.clear p (omega (arith, low, other)) (omega (arith, high)) ];
    }
