-- What a line shows is what the log tells.
use Rattle.std.proofs.Common.{◌≡◌, Bool, true, false, List, [], ◌∷◌, ◌++◌, ℕ, codes, Result, Ok, if◌then◌else◌, refl, sym, ap, ◌∙◌, arith}
use Rattle.std.proofs.lemmas.Bool.Decides.{nat_tests}
use Rattle.group_types.specs.Names.{IsProcess}
use Rattle.group_types.specs.declared.process.ProcessId.{ProcessId}
use Rattle.group_types.specs.declared.run.Run.{Run}
use Rattle.group_run.specs.Meaning.{IsDown, is_dead}
use Rattle.group_run.specs.World.{World}
use Rattle.group_run.specs.Shown.{HoldsTruth, held, is_down, told_bytes}
use Rattle.scenario_text.specs.Texts.{shown_text}
use Rattle.scenario_text.specs.declared.line.Line.{Line}
use Rattle.scenario_text.specs.declared.line.Line.TheVariants.{Show}
use Rattle.scenario_text.specs.declared.line.LineFault.{LineFault}
use Rattle.scenario_run.specs.Playing.{look_with}
use Rattle.scenario_run.specs.Promises.{IsTrueShow}

pub up : (w : World) → is_down w ≡ false → ¬ (IsDown w)
up w is down = grind (arith, nat_tests)

-- what is shown with a stamp is what the log tells
pub shows-with : (stamp : List ℕ) (w : World) (p : ProcessId) (run : Run) → IsProcess w.shape p → HoldsTruth w
    → look_with stamp w p (held w p run) ++ 10 ∷ [] ≡ look_with stamp w p (told_bytes w p run) ++ 10 ∷ []
shows-with stamp w p run pin truth = ap (λ (text : List ℕ). text ++ 10 ∷ []) (by (is_down w) (is_dead w p) refl refl) where
  by : (down dead : Bool) → is_down w ≡ down → is_dead w p ≡ dead → look_with stamp w p (held w p run) ≡ look_with stamp w p (told_bytes w p run)
  by true dead isdown isdead = rw isdown refl
  by false true isdown isdead =
      ap (λ (b : Bool). if b then codes "down" else (if is_dead w p then codes "lost" else shown_text stamp (held w p run))) isdown
      ∙ ap (λ (b : Bool). if b then codes "lost" else shown_text stamp (held w p run)) isdead
      ∙ sym (ap (λ (b : Bool). if b then codes "down" else (if is_dead w p then codes "lost" else shown_text stamp (told_bytes w p run))) isdown
      ∙ ap (λ (b : Bool). if b then codes "lost" else shown_text stamp (told_bytes w p run)) isdead)
  by false false isdown isdead = ap (look_with stamp w p) (truth (up w isdown) p run (pin, isdead))

-- so it is with a line that is read so, by what it is where it shows bytes
pub true-show : (IsTrue : ProcessId → Run → List ℕ → Type 0) (read : Result Line LineFault) (text : List ℕ)
    → ((from : ProcessId) (run : Run) → read ≡ Ok (Show from run) → IsTrue from run text) → IsTrueShow IsTrue read text
true-show IsTrue (Ok (Show from run)) text shown = shown from run refl
true-show IsTrue read text shown = tt
