-- A line of the log is judged by the places alone.
use Rattle.std.proofs.Common.{◌≡◌, ◌<◌, ◌≤◌, ◌+◌, ◌^◌, ℕ, zero, suc, Bool, true, false, List, [], ◌∷◌, ◌∙◌, Option, Some, length, refl, sym, ap, subst, arith}
use Rattle.std.proofs.lemmas.List.Elements.{All-head, All-tail}
use Rattle.std.specs.Prelude.{All, Result, Ok}
use Rattle.group_types.specs.Dimensions.{Dimensions}
use Rattle.group_types.specs.Hash.{home_of}
use Rattle.group_types.specs.Lists.{at}
use Rattle.group_types.specs.Shape.{IsShape}
use Rattle.group_types.specs.declared.run.Run.{Run}
use Rattle.memc_table.specs.Act.{key_of}
use Rattle.memc_table.specs.Contents.{table_after}
use Rattle.group_calls.specs.Turns.{accepts}
use Rattle.group_calls.specs.declared.entry.Entry.{Entry}
use Rattle.transcript_text.specs.declared.place.Place.{Place}
use Rattle.run_verify.specs.Courses.{IsLineLogged, IsSheetOf, judging_state}
use Rattle.run_verify.specs.Judging.{HasReadEntry, Judges, with_table}
use Rattle.run_verify.specs.Keeping.{IsEntryKept, IsFoundIf, IsRunFound}
use Rattle.run_verify.specs.Passing.{Account, IsToldFor, IsToldRun, JudgingState, PassesBy, account_after_entry, change_of, changes_at, entry_partition}
use Rattle.run_verify.specs.Runs.{ArePlacesOf}
use Rattle.run_verify.specs.Sheet.{Sheet}
use Rattle.run_verify.specs.declared.change.Change.{Change}
use Rattle.run_verify.specs.declared.change.Effect.{Effect}
use Rattle.run_verify.specs.declared.change.Effect.TheVariants.{Writes, Removes, Keeps}
use Rattle.run_verify.specs.declared.step.Step.{Step}
use Rattle.run_verify.proofs.Finding.{run_found}

-- one of lists that are short
pub few-at : (n : ℕ) (changes : List (List Change)) (d : ℕ) → 0 < n → All (λ cs. length cs < n) changes → length (at [] changes d) < n
few-at n [] d some all = some
few-at n (cs ∷ more) zero some all = All-head (λ (xs : List Change). length xs < n) cs more all
few-at n (cs ∷ more) (suc d) some all = few-at n more d some (All-tail (λ (xs : List Change). length xs < n) cs more all)

-- the home of a key is a partition
pub home-in : (key : List ℕ) (k : ℕ) → 1 ≤ k → home_of key k < k
home-in key k some = omega arith

module _ (sheet : Sheet) (places : List Place) (are : ArePlacesOf sheet.lines places) (shape : IsShape sheet.script.shape) where
  told-for : (d number : ℕ) → d < 2 ^ 32 → number < 2 ^ 64 → (effect : Effect) (run : Option Run)
      → IsRunFound sheet.script.shape places d number effect run → IsToldFor sheet d number effect run
  told-for d number low few (Writes value found) run is = run_found sheet.script.shape d number (length value) low few
      (let small = shape.blocks.1 in omega (arith, small)) sheet.lines places run are is
  told-for d number low few Removes run is = tt
  told-for d number low few Keeps run is = tt

  told-if : (a : Account) (e : Entry) (run : Option Run) → length (changes_at a (entry_partition sheet e)) < 2 ^ 62 → (b : Bool)
      → IsFoundIf b sheet.script.shape places (with_table a (table_after a.table e.op)) e run
      → IsToldRun b sheet a e run
  told-if a e run few true is =
      let home = home-in (key_of e.op.act) sheet.script.shape.k shape.k.0 in
      let most = shape.k.1 in
      told-for (entry_partition sheet e) (length (changes_at a (entry_partition sheet e)) + 1) (omega (arith, home, most))
      (omega (arith, few)) (change_of a e run).effect run is
  told-if a e run few false is = tt

  logged-in : (a : Account) (line : List ℕ) (mid : Account) (e : Entry) (now : Account)
      → All (λ cs. length cs < 2 ^ 62) a.changes → HasReadEntry a line mid (Some e)
      → IsEntryKept sheet.script.shape places mid e now → IsLineLogged sheet a line now
  logged-in a line mid e now few (tells, table) kept =
      let here = subst (λ (m : Account). IsEntryKept sheet.script.shape places m e now) table kept in
      (e, here.0, tells, told-if a e here.0 (few-at (2 ^ 62) a.changes (entry_partition sheet e) (omega arith) few) (accepts e.reply) here.1, here.2)

-- a line that tells an entry, which was kept
pub logs_entry : (s : Dimensions) (places : List Place) (a : Account) (line : List ℕ) (mid : Account) (e : Entry)
    (now : Account) → IsShape s → All (λ cs. length cs < 2 ^ 62) a.changes → HasReadEntry a line mid (Some e)
    → IsEntryKept s places mid e now
    → (sheet : Sheet) → IsSheetOf s places sheet → IsLineLogged sheet a line now
logs_entry s places a line mid e now shape few read kept sheet is =
    logged-in sheet places is.places_are (subst IsShape (sym is.shape) shape) a line mid e now few read
    (subst (λ (d : Dimensions). IsEntryKept d places mid e now) (sym is.shape) kept)

module _ (sheet : Sheet) (a : Account) (step : Step) (steps : List Step) (logging : Bool) (line : List ℕ) (ahead : List (List ℕ)) where
  -- a line that tells no entry doesn't pass as one of the log
  pub not_log : ((next : Account) → ¬ (IsLineLogged sheet a line next)) → (next : JudgingState)
      → ¬ (PassesBy true sheet (judging_state a (step ∷ steps) logging) line ahead next)
  not_log none next (may, e, run, tells, told, same) = none (account_after_entry sheet a e run) (e, run, tells, told, refl)

-- a judgement that was no
pub judged_not : {X E : Type 0} (Good : X → Type 0) (now : X) (r : Result Bool E) (b : Bool) → r ≡ Ok b → b ≡ false
    → Judges Good now r → (next : X) → ¬ (Good next)
judged_not Good now r b is bad judged = subst (Judges Good now) (is ∙ ap Ok bad) judged
