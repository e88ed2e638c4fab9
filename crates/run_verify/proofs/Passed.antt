-- The line for a change, and the items behind it.
use Rattle.std.proofs.Common.{◌≡◌, ◌+◌, ℕ, Bool, true, false, List, [], ◌∷◌, ◌++◌, Option, Some, None, if◌then◌else◌, length, refl, sym, ap, ◌∙◌, subst}
use Rattle.std.specs.Prelude.{◌↔◌, IfOk, IsTrue, Result, Ok, Err}
use Rattle.group_types.specs.Dimensions.{Dimensions}
use Rattle.group_types.specs.Lists.{same_key}
use Rattle.group_types.specs.declared.run.Run.{Run}
use Rattle.scenario_text.specs.Texts.{place_text}
use Rattle.scenario_run.specs.Lines.{lines_of}
use Rattle.run_verify.specs.Changes.{run_after_changes, run_by, run_if}
use Rattle.run_verify.specs.Dues.{HasPassed, HasToldAt, LacksFirst, TellsAt, due_at}
use Rattle.run_verify.specs.Items.{StandBehind, item_runs_of, with_run}
use Rattle.run_verify.specs.Passing.{TellsRun}
use Rattle.run_verify.specs.declared.change.Change.{Change}
use Rattle.run_verify.specs.declared.change.Effect.{Effect}
use Rattle.run_verify.specs.declared.change.Effect.TheVariants.{Writes, Keeps}
use Rattle.run_verify.specs.declared.items.Items.{Items}
use Rattle.run_verify.specs.declared.judging.Passed.{Passed}
use Rattle.run_verify.specs.declared.judging.Passed.TheVariants as passed
use Rattle.run_verify.specs.declared.judging.Spot.{Spot}

-- another change behind others
run-push : (key : List ℕ) (old : Option Run) (before : List Change) (c : Change) → run_after_changes key old (before ++ c ∷ [])
    ≡ run_if (same_key c.key key) c.effect (run_after_changes key old before)
run-push key old [] c = refl
run-push key old (b ∷ before) c = run-push key (run_if (same_key b.key key) b.effect old) before c

run-kept : (b : Bool) (old : Option Run) → run_if b Keeps old ≡ old
run-kept true old = refl
run-kept false old = refl

pub stand_kept : (before : List Change) (c : Change) (items : Items) → c.effect ≡ Keeps → StandBehind before items → StandBehind (before ++ c ∷ []) items
stand_kept before c items keeps stand key =
    stand key ∙ sym (run-push key None before c
    ∙ ap (λ (e : Effect). run_if (same_key c.key key) e (run_after_changes key None before)) keeps
    ∙ run-kept (same_key c.key key) (run_after_changes key None before))

-- an item has this run, or none, by what an effect does
sets : (effect : Effect) (run : Option Run) (old : Option Run) (b : Bool) → run_by effect old ≡ run → (if b then run else old) ≡ run_if b effect old
sets effect run old true by = sym by
sets effect run old false by = refl

pub stand_set : (before : List Change) (c : Change) (was now : Items) (run : Option Run)
    → ((old : Option Run) → run_by c.effect old ≡ run)
    → ((other : List ℕ) → item_runs_of now other ≡ with_run c.key run (item_runs_of was) other)
    → StandBehind before was → StandBehind (before ++ c ∷ []) now
stand_set before c was now run by same stand key =
    same key ∙ ap (λ (old : Option Run). if same_key c.key key then run else old) (stand key)
    ∙ sets c.effect run (run_after_changes key None before) (same_key c.key key) (by (run_after_changes key None before))
    ∙ sym (run-push key None before c)

-- a line tells the run of a change
module _ (s : Dimensions) (spot : Spot) (before : List Change) (long : length before ≡ spot.place) (items : Items)
    (stand : StandBehind before items) (value : List ℕ) (line : List ℕ) where
  to-told : (run : Run) → TellsAt s spot run (length value) (item_runs_of items) line → TellsRun s (due_at spot.partition before value (Some run)) line
  to-told run (fits, off, text) = record {
    run = run;
    is = refl;
    text = text ∙ ap (λ (n : ℕ). place_text spot.partition (n + 1) run) (sym long);
    clear = record { inside = fits.1; long = fits.0; apart = λ key other is. off key other (stand key ∙ is) };
  }

  of-told : (run : Run) → TellsRun s (due_at spot.partition before value (Some run)) line → TellsAt s spot run (length value) (item_runs_of items) line
  of-told run tells =
      let same : run ≡ tells.run = cc tells.is in
      subst (λ (r : Run). TellsAt s spot r (length value) (item_runs_of items) line) (sym same) (
        (tells.clear.long, tells.clear.inside),
        λ key other is. tells.clear.apart key other (sym (stand key) ∙ is),
        tells.text ∙ ap (λ (n : ℕ). place_text spot.partition (n + 1) tells.run) long,
      )

-- none tells it where there is none
pub lacks_none : (s : Dimensions) (d : ℕ) (before : List Change) (value : List ℕ) (lines : List (List ℕ))
    → LacksFirst (TellsRun s (due_at d before value None)) lines
lacks_none s d before value [] = tt
lacks_none s d before value (line ∷ lines) = λ tells. absurd (cc tells.is)

lacks : (P Q : List ℕ → Type 0) (lines : List (List ℕ)) → ((line : List ℕ) → Q line → P line) → LacksFirst P lines → LacksFirst Q lines
lacks P Q [] to none = tt
lacks P Q (line ∷ lines) to none = λ tells. none (to line tells)

module _ (spot : Spot) (before : List Change) (long : length before ≡ spot.place) (c : Change) (value : List ℕ)
    (run : Run) (writes : c.effect ≡ Writes value (Some run)) (was : Items) (stand : StandBehind before was)
    (text : List ℕ) (now : Items)
  where
    told-passed : (r : Passed) → HasToldAt was spot c.key run (length value) text now r → HasPassed was.shape spot.partition before c text now r
    told-passed passed.Silent none = absurd none
    told-passed (passed.Line rest) ((line, cuts, tells), marked, same) = (
      value,
      Some run,
      writes,
      (line, cuts, to-told was.shape spot before long was stand value line run tells),
      (marked, stand_set before c was now (Some run) (λ old. ap (λ (e : Effect). run_by e old) writes) same stand),
    )
    told-passed passed.Fails none = (
      value,
      Some run,
      writes,
      lacks (TellsAt was.shape spot run (length value) (item_runs_of was))
          (TellsRun was.shape (due_at spot.partition before value (Some run))) (lines_of text)
          (λ line tells. of-told was.shape spot before long was stand value line run tells) none,
    )

    pub told_passed : {E : Type 0} (r : Result Passed E) → IfOk r (HasToldAt was spot c.key run (length value) text now)
        → IfOk r (HasPassed was.shape spot.partition before c text now)
    told_passed (Ok r) told = told-passed r told
    told_passed (Err e) told = tt

-- a line tells what it should where its run fits, is off all items, and is the text's
pub told_by : {E F O : Type 0} (T : Type 0) (r : Result Bool E) (fit off : Bool) → IsTrue fit ↔ F → IsTrue off ↔ O
    → fit ≡ true → off ≡ true → IfOk r (λ told. IsTrue told ↔ T) → IfOk r (λ told. IsTrue told ↔ (F × O × T))
told_by T (Ok told) fit off fits is_off f o text = (λ is. (fits.0 f, is_off.0 o, text.0 is), λ all. text.1 all.2)
told_by T (Err e) fit off fits is_off f o text = tt
