-- The place lines of a checked transcript pass.
use Rattle.std.proofs.Common.{◌≡◌, ◌<◌, ◌≤◌, ◌+◌, ℕ, zero, suc, Bool, true, false, List, [], ◌∷◌, ◌++◌, ◌∙◌, map, drop}
use Rattle.std.proofs.Common.{length, Option, Some, None, refl, sym, ap, subst, arith}
use Rattle.std.proofs.Math.Seq.{drop-nil}
use Rattle.std.proofs.lemmas.List.{length-append}
use Rattle.std.specs.List.{range_with_len}
use Rattle.group_types.specs.Dimensions.{Dimensions}
use Rattle.group_types.specs.Lists.{at}
use Rattle.group_types.specs.declared.run.Run.{Run}
use Rattle.memc_table.specs.declared.holding.Holding.{Holding}
use Rattle.group_run.specs.Meaning.{Logged}
use Rattle.scenario_text.specs.Texts.{place_text}
use Rattle.run_verify.specs.Changes.{run_after_changes}
use Rattle.run_verify.specs.Passing.{Account, DuePlace, PassAll, PassesBy, PassesPlace, begins_entry, changes_at, due_for, due_places_of, dues_from, on_to}
use Rattle.run_verify.specs.Passing.{with_placed}
use Rattle.run_verify.specs.Sheet.{Sheet}
use Rattle.run_verify.specs.Told.{place_lines, placed_line, run_lines}
use Rattle.run_verify.specs.Updates.{IsClearRun, StandRight, StandsRight, brings_value}
use Rattle.run_verify.specs.declared.change.Change.{Change}
use Rattle.run_verify.specs.declared.change.Effect.{Effect}
use Rattle.run_verify.specs.declared.change.Effect.TheVariants.{Writes, Removes, Keeps}
use Rattle.run_verify.specs.declared.step.Step.TheVariants.{Placing}
use Rattle.run_verify.proofs.ImpliedChanges.{IsKind, MatchAll, Matches, item-run, push-matches}
use Rattle.run_verify.proofs.ImpliedCourse.{AllTold, state}
use Rattle.run_verify.proofs.ImpliedPlaces.{AreClear, IsClearBy, run_told, runs_for, runs_of}
use Rattle.run_verify.proofs.ImpliedStands.{some_same}

-- ---- values stand clear

clear-one : (s : Dimensions) (before : List Change) (us : List Logged) (c : Change) (u : Logged) → MatchAll before us
    → Matches c u → StandsRight s us u (brings_value u.entry.op.act) → IsClearBy s before c.effect
clear-one s before us c u all one stands = by c.effect one.run one.kind
  where
    by : (e : Effect) → u.run ≡ run_told e → IsKind e u.item (brings_value u.entry.op.act) → IsClearBy s before e
    by (Writes value run) run_is (h, item, same, brings) =
        let right : StandsRight s us u true = subst (StandsRight s us u) brings stands in
        let r : Run = right.0 in
        let g : Holding = right.1 in
        let clear = right.4 in
        let long = clear.long in
        let value_is : g.item.value ≡ value = ap (λ (x : Holding). x.item.value) (some_same g h (sym right.3 ∙ item)) ∙ sym same in (
          r,
          sym run_is ∙ right.2,
          record {
            inside = clear.inside;
            long = long ∙ ap length value_is;
            apart = λ key other is. clear.apart key other (sym (item-run key before us None all) ∙ is);
          },
        )
    by Removes run_is kind = tt
    by Keeps run_is kind = tt

pub all_clear : (s : Dimensions) (before : List Change) (us : List Logged) (cs : List Change) (more : List Logged)
    → MatchAll before us → MatchAll cs more → StandRight s us more → AreClear s before cs
all_clear s before us [] [] all matches stand = tt
all_clear s before us [] (u ∷ more) all matches stand = absurd matches
all_clear s before us (c ∷ cs) [] all matches stand = absurd matches
all_clear s before us (c ∷ cs) (u ∷ more) all (one, matches) (first, stand) =
    (clear-one s before us c u all one first, all_clear s (before ++ c ∷ []) (us ++ u ∷ []) cs more (push-matches before us c u all one) matches stand)

-- ---- their lines

told-one : (s : Dimensions) (d : ℕ) (before : List Change) (e : Effect) (dues : List DuePlace) (runs : List (Option Run))
    → IsClearBy s before e → AllTold s dues (run_lines d (suc (length before)) runs)
    → AllTold s (due_for d before e dues) (run_lines d (length before) (run_told e ∷ runs))
told-one s d before Removes dues runs clear told = told
told-one s d before Keeps dues runs clear told = told
told-one s d before (Writes value None) dues runs (r, some, clear) told = cc some
told-one s d before (Writes value (Some q)) dues runs (r, some, clear) told =
    let same : r ≡ q = sym (some_same q r some) in
    let number : suc (length before) ≡ length before + 1 = omega arith in (
      record {
        run = q;
        is = refl;
        text = ap (λ (n : ℕ). place_text d n q) number;
        clear = subst (λ (x : Run). IsClearRun s (λ key. run_after_changes key None before) x (length value)) same clear;
      },
      told,
    )

told-part : (s : Dimensions) (d : ℕ) (before cs : List Change) → AreClear s before cs
    → AllTold s (due_places_of d before cs) (run_lines d (length before) (runs_for cs))
told-part s d before [] clear = tt
told-part s d before (c ∷ cs) (first, clear) =
    let rest = told-part s d (before ++ c ∷ []) cs clear in
    let many : length (before ++ c ∷ []) ≡ suc (length before) = length-append before (c ∷ []) ∙ omega arith in
    told-one s d before c.effect (due_places_of d (before ++ c ∷ []) cs) (runs_for cs) first
    (subst (λ (n : ℕ). AllTold s (due_places_of d (before ++ c ∷ []) cs) (run_lines d n (runs_for cs))) many rest)

told-append : (s : Dimensions) (xs ys : List DuePlace) (ls ms : List (List ℕ)) → AllTold s xs ls → AllTold s ys ms → AllTold s (xs ++ ys) (ls ++ ms)
told-append s [] ys [] ms told more = more
told-append s [] ys (l ∷ ls) ms told more = absurd told
told-append s (x ∷ xs) ys [] ms told more = absurd told
told-append s (x ∷ xs) ys (l ∷ ls) ms (first, told) more = (first, told-append s xs ys ls ms told more)

pub told_all : (s : Dimensions) (a : Account) (d n : ℕ) → ((p : ℕ) → d ≤ p → p < d + n → AreClear s [] (changes_at a p))
    → AllTold s (dues_from a d n) (place_lines d (runs_of a d n))
told_all s a d zero clear = tt
told_all s a d (suc n) clear =
    let rest = told_all s a (d + 1) n (λ p low high. clear p (omega (arith, low)) (omega (arith, high))) in
    let next : d + 1 ≡ suc d = omega arith in
    told-append s (due_places_of d [] (changes_at a d)) (dues_from a (d + 1) n) (run_lines d 0 (runs_for (changes_at a d)))
    (place_lines (suc d) (runs_of a (d + 1) n))
    (told-part s d [] (changes_at a d) (clear d (omega arith) (omega arith)))
    (subst (λ (m : ℕ). AllTold s (dues_from a (d + 1) n) (place_lines m (runs_of a (d + 1) n))) next rest)

-- ---- the lines pass

drop-next : {A : Type 0} (n : ℕ) (xs : List A) (y : A) (ys : List A) → drop n xs ≡ y ∷ ys → drop (suc n) xs ≡ ys
drop-next n [] y ys is = absurd (cc (sym (drop-nil n) ∙ is))
drop-next zero (x ∷ xs) y ys is = cc is
drop-next (suc n) (x ∷ xs) y ys is = drop-next n xs y ys is

pub places_pass : (sheet : Sheet) (dues : List DuePlace) (a : Account) (logging : Bool) (places : List (List ℕ))
    → drop a.placed (dues_from a 0 sheet.script.shape.k) ≡ dues → AllTold sheet.script.shape dues places
    → (final : Account) × PassAll sheet (state a (Placing ∷ []) logging) (places ++ placed_line (a.placed + length dues) ∷ []) final
places_pass sheet [] a logging [] is told =
    let none : a.placed + 0 ≡ a.placed = omega arith in
    let line : List ℕ = placed_line (a.placed + 0) in
    let here : PassesPlace sheet a [] (drop a.placed (dues_from a 0 sheet.script.shape.k)) line (on_to a []) =
    subst (λ (ds : List DuePlace). PassesPlace sheet a [] ds line (on_to a [])) (sym is) (ap placed_line none, refl) in
    (a, (on_to a [], here, (refl, refl)))
places_pass sheet [] a logging (line ∷ places) is told = absurd told
places_pass sheet (due ∷ dues) a logging [] is told = absurd told
places_pass sheet (due ∷ dues) a logging (line ∷ places) is (tells, told) =
    let next_is : suc a.placed ≡ a.placed + 1 = omega arith in
    let left : drop (a.placed + 1) (dues_from (with_placed a) 0 sheet.script.shape.k) ≡ dues =
    subst (λ (n : ℕ). drop n (dues_from (with_placed a) 0 sheet.script.shape.k) ≡ dues) next_is
    (drop-next a.placed (dues_from (with_placed a) 0 sheet.script.shape.k) due dues (same-dues is)) in
    let rest = places_pass sheet dues (with_placed a) false places left told in
    let count : a.placed + 1 + length dues ≡ a.placed + suc (length dues) = omega arith in
    let onward = subst (λ (n : ℕ). PassAll sheet (on_to (with_placed a) (Placing ∷ [])) (places ++ placed_line n ∷ []) rest.0) count rest.1 in
    let here : PassesPlace sheet a [] (drop a.placed (dues_from a 0 sheet.script.shape.k)) line (on_to (with_placed a) (Placing ∷ [])) =
    subst (λ (ds : List DuePlace). PassesPlace sheet a [] ds line (on_to (with_placed a) (Placing ∷ []))) (sym is) (tells, refl) in
    let begins : begins_entry line ≡ false = ap begins_entry tells.text in
    let ahead : List (List ℕ) = places ++ placed_line (a.placed + suc (length dues)) ∷ [] in (
      rest.0,
      (
        on_to (with_placed a) (Placing ∷ []),
        subst (λ (b : Bool). PassesBy b sheet (state a (Placing ∷ []) logging) line ahead
            (on_to (with_placed a) (Placing ∷ []))) (sym begins) here,
        onward,
      ),
    )
  where
    dues-same : (d n : ℕ) → dues_from a d n ≡ dues_from (with_placed a) d n
    dues-same d zero = refl
    dues-same d (suc n) = ap (λ (ds : List DuePlace). due_places_of d [] (changes_at a d) ++ ds) (dues-same (d + 1) n)

    same-dues : drop a.placed (dues_from a 0 sheet.script.shape.k) ≡ due ∷ dues → drop a.placed (dues_from (with_placed a) 0 sheet.script.shape.k) ≡ due ∷ dues
    same-dues is = ap (drop a.placed) (sym (dues-same 0 sheet.script.shape.k)) ∙ is

-- a list is made of its elements
pub made_of : {X : Type 0} (d : X) (xs : List X) (a : ℕ) (g : ℕ → X) → ((i : ℕ) → i < length xs → at d xs i ≡ g (a + i))
    → xs ≡ map g (range_with_len a (length xs))
made_of d [] a g each = refl
made_of d (x ∷ xs) a g each =
    let none : a + 0 ≡ a = omega arith in
    let here : x ≡ g a = each 0 (omega arith) ∙ ap g none in
    let rest = made_of d xs (a + 1) g (λ i below. each (suc i) (omega (arith, below)) ∙ ap g (let e : a + suc i ≡ a + 1 + i = omega arith in e)) in
    cc (here, rest)
