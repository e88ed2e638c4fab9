-- A transcript all of whose lines pass is checked.
use Rattle.std.proofs.Common.{false, Option, List, [], refl, sym, subst, arith}
use Rattle.group_types.specs.declared.run.Run.{Run}
use Rattle.group_calls.specs.Turns.{log_of}
use Rattle.run_verify.specs.Checked.{ArePlaced, AreWellShown, IsChecked}
use Rattle.run_verify.specs.Passing.{Account, PassAll, first_account, first_state}
use Rattle.run_verify.specs.Plain.{IsPlainScript}
use Rattle.run_verify.specs.Sheet.{Sheet}
use Rattle.run_verify.specs.Told.{turns_told}
use Rattle.run_verify.proofs.ImpliedShadow.{shadow-course}
use Rattle.run_verify.proofs.ImpliedShown.{are-placed, runs-course, well-shown}
use Rattle.run_verify.proofs.ImpliedStands.{stands-first}
use Rattle.run_verify.proofs.ImpliedSteps.{course_of, tells_all}
use Rattle.run_verify.proofs.ImpliedWithin.{legal-course, replies-within, right-course}

pub passes-checked : (sheet : Sheet) (account : Account) → IsPlainScript sheet.script
    → PassAll sheet (first_state sheet.script) sheet.lines account → IsChecked sheet.script sheet.lines
passes-checked sheet account plain passes =
    let first : Account = first_account sheet.script.shape.k in
    let course = course_of sheet sheet.script.steps plain.ends first false sheet.lines account refl (λ log. cc log) passes in
    let few = plain.few in
    let right = right-course sheet first sheet.script.steps course.told course.final [] plain.fits (omega (arith, few))
    (stands-first sheet.script.shape.k) course.course in
    let shadow = shadow-course sheet first sheet.script.steps course.told course.final course.course in
    let runs = runs-course sheet first sheet.script.steps course.told course.final plain.ends course.course in
    record {
      told = course.told;
      tells = tells_all sheet first sheet.script.steps course.told course.final course.course;
      lines = course.text;
      legal = legal-course sheet first sheet.script.steps course.told course.final course.course;
      within = replies-within (turns_told course.told) right;
      placed = subst (λ (r : List (List (Option Run))). ArePlaced sheet.script.shape (log_of (turns_told course.told))
          r) (sym runs.runs_are) (are-placed sheet.script.shape course.final (log_of (turns_told course.told)) shadow
          runs.clear);
      shown = subst (λ (r : List (List (Option Run))). AreWellShown sheet.script.shape r [] sheet.script.steps
          course.told) (sym runs.runs_are) (well-shown sheet sheet.script.steps course.told first course.final []
          plain.fits (refl, refl) course.course);
    }
