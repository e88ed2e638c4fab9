-- What a transcript tells, step by step, where all of its lines pass.
use Rattle.std.proofs.Common.{◌≡◌, inl, inr, ◌+◌, ℕ, zero, suc, Bool, true, false, List, [], ◌∷◌, ◌++◌, ◌∙◌, map, drop}
use Rattle.std.proofs.Common.{length, Option, add-zero, refl, sym, subst, arith}
use Rattle.std.specs.Prelude.{⊤}
use Rattle.std.proofs.Math.Seq.{drop-nil}
use Rattle.group_types.specs.Dimensions.{Dimensions}
use Rattle.group_types.specs.declared.run.Run.{Run}
use Rattle.group_calls.specs.declared.entry.Entry.{Entry}
use Rattle.scenario_text.specs.Texts.{entry_text, place_text}
use Rattle.run_verify.specs.Passing.{Account, JudgingState, PassesBy, DuePlace, MayLog, PassAll, PassesPlace, PassesStep}
use Rattle.run_verify.specs.Passing.{LineTellsEntry, TellsRun, account_after_entry, begins_entry, dues_from, on_to, with_account}
use Rattle.run_verify.specs.Passing.{with_placed}
use Rattle.run_verify.specs.Sheet.{Sheet}
use Rattle.run_verify.specs.Told.{placed_line}
use Rattle.run_verify.specs.declared.step.Step.{Step}
use Rattle.run_verify.specs.declared.step.Step.TheVariants.{Placing}

-- the next line, if there is one, is none of the log
abbrev pub NoEntry : List (List ℕ) → Type 0
NoEntry [] = ⊤
NoEntry (line ∷ lines) = begins_entry line ≡ false

-- entries lead from an account to another one
abbrev pub LogsTo : Sheet → Account → List Entry → Account → Type 0
LogsTo sheet a [] final = a ≡ final
LogsTo sheet a (e ∷ es) final = (run : Option Run) × LineTellsEntry a (entry_text e) e × LogsTo sheet (account_after_entry sheet a e run) es final

-- the lines of the log right ahead, and what is behind them
pub record Logs (sheet : Sheet) (s : JudgingState) (lines : List (List ℕ)) (final : Account) : Type 0 where
  pub entries : List Entry
  pub rest : List (List ℕ)
  pub account : Account
  pub text : lines ≡ map entry_text entries ++ rest
  pub logs : LogsTo sheet s.account entries account
  pub plain : NoEntry rest
  pub passes : PassAll sheet (with_account s account) rest final

pub logs_ahead : (sheet : Sheet) (lines : List (List ℕ)) (s : JudgingState) (final : Account) → MayLog s → PassAll sheet s lines final
    → Logs sheet s lines final
logs_ahead sheet [] s final may passes = record { entries = []; rest = []; account = s.account; text = refl; logs = refl; plain = tt; passes = passes }
logs_ahead sheet (line ∷ lines) s final may (next, first, passes) =
    by (begins_entry line) refl first (λ s' may' passes'. logs_ahead sheet lines s' final may' passes')
  where
    by : (b : Bool) → begins_entry line ≡ b → PassesBy b sheet s line lines next
        → ((s' : JudgingState) → MayLog s' → PassAll sheet s' lines final → Logs sheet s' lines final)
        → Logs sheet s (line ∷ lines) final
    by false is first onward = record {
      entries = [];
      rest = line ∷ lines;
      account = s.account;
      text = refl;
      logs = refl;
      plain = is;
      passes = (next, rw is first, passes);
    }
    by true is (may', e, run, tells, told, same) onward =
        let rest = onward (with_account s (account_after_entry sheet s.account e run)) may
        (subst (λ (n : JudgingState). PassAll sheet n lines final) same passes) in
        let line_is = tells.text in
        let lines_are = rest.text in
        record {
          entries = e ∷ rest.entries;
          rest = rest.rest;
          account = rest.account;
          text = cc (line_is, lines_are);
          logs = (run, record { text = refl; call = tells.call; reply = tells.reply; fits = tells.fits; named = tells.named }, rest.logs);
          plain = rest.plain;
          passes = rest.passes;
        }

-- a line that is none of the log passes for the step in turn; where it is one it belongs to what was before
pub record Turned (sheet : Sheet) (a : Account) (step : Step) (steps : List Step) (lines : List (List ℕ)) (final : Account) : Type 0 where
  pub line : List ℕ
  pub rest : List (List ℕ)
  pub lines_are : lines ≡ line ∷ rest
  pub next : JudgingState
  pub passes : PassesStep sheet a (step ∷ steps) line rest next
  pub onward : PassAll sheet next rest final

abbrev pub state : Account → List Step → Bool → JudgingState
state a steps logging = record { account = a; steps = steps; logging = logging }

pub turned : (sheet : Sheet) (a : Account) (step : Step) (steps : List Step) (logging : Bool) (lines : List (List ℕ)) (final : Account)
    → NoEntry lines → PassAll sheet (state a (step ∷ steps) logging) lines final → Turned sheet a step steps lines final
turned sheet a step steps logging [] final plain passes = absurd (cc (passes.0))
turned sheet a step steps logging (line ∷ lines) final plain (next, first, passes) =
    record { line = line; rest = lines; lines_are = refl; next = next; passes = rw plain at first; onward = passes }

-- where no line of the log may come, none comes
pub no_entry : (sheet : Sheet) (s : JudgingState) (lines : List (List ℕ)) (final : Account) → ¬ (MayLog s) → PassAll sheet s lines final → NoEntry lines
no_entry sheet s [] final never passes = tt
no_entry sheet s (line ∷ lines) final never (next, first, passes) = by (begins_entry line) refl first
  where
    by : (b : Bool) → begins_entry line ≡ b → PassesBy b sheet s line lines next → b ≡ false
    by false is first = refl
    by true is first = absurd (never first.0)

-- ---- places

-- the lines of what is due
abbrev pub due_line : DuePlace → Run → List ℕ
due_line due run = place_text due.partition due.number run

-- each that is due has its run, which is clear, and its line
abbrev pub AllTold : Dimensions → List DuePlace → List (List ℕ) → Type 0
AllTold s [] [] = Unit {0}
AllTold s (due ∷ dues) (line ∷ lines) = TellsRun s due line × AllTold s dues lines
AllTold s [] (line ∷ lines) = ⊥
AllTold s (due ∷ dues) [] = ⊥

pub record Places (sheet : Sheet) (a : Account) (steps : List Step) (dues : List DuePlace) (lines : List (List ℕ)) (final : Account) : Type 0 where
  pub places : List (List ℕ)
  pub told : AllTold sheet.script.shape dues places
  pub rest : List (List ℕ)
  pub text : lines ≡ places ++ placed_line (a.placed + length dues) ∷ rest
  pub account : Account
  pub passes : PassAll sheet (on_to account steps) rest final

drop-step : {A : Type 0} (n : ℕ) (xs : List A) (y : A) (ys : List A) → drop n xs ≡ y ∷ ys → drop (suc n) xs ≡ ys
drop-step n [] y ys is = absurd (cc (sym (drop-nil n) ∙ is))
drop-step zero (x ∷ xs) y ys is = cc is
drop-step (suc n) (x ∷ xs) y ys is = drop-step n xs y ys is

pub places_ahead : (sheet : Sheet) (dues : List DuePlace) (a : Account) (steps : List Step) (logging : Bool) (lines : List (List ℕ)) (final : Account)
    → NoEntry lines → drop a.placed (dues_from a 0 sheet.script.shape.k) ≡ dues
    → PassAll sheet (state a (Placing ∷ steps) logging) lines final → Places sheet a steps dues lines final
places_ahead sheet [] a steps logging lines final plain due passes =
    let t = turned sheet a Placing steps logging lines final plain passes in
    let here : PassesPlace sheet a steps [] t.line t.next = rw due at t.passes in
    let line_is = here.0 in
    let lines_are = t.lines_are in
    record {
      places = [];
      told = tt;
      rest = t.rest;
      text = rw (add-zero a.placed) (cc (line_is, lines_are));
      account = a;
      passes = subst (λ (n : JudgingState). PassAll sheet n t.rest final) here.1 t.onward;
    }
places_ahead sheet (due ∷ dues) a steps logging lines final plain is passes =
    let t = turned sheet a Placing steps logging lines final plain passes in
    let here : PassesPlace sheet a steps (due ∷ dues) t.line t.next = rw is at t.passes in
    let onward = subst (λ (n : JudgingState). PassAll sheet n t.rest final) here.1 t.onward in
    let never : ¬ (MayLog (on_to (with_placed a) (Placing ∷ steps))) = λ may. elim may [ inl log ↦ cc log | inr more ↦ cc more.1 ] in
    let next_is : a.placed + 1 ≡ suc a.placed = omega arith in
    let more = places_ahead sheet dues (with_placed a) steps false t.rest final
    (no_entry sheet (on_to (with_placed a) (Placing ∷ steps)) t.rest final never onward)
    (rw next_is (drop-step a.placed (dues_from a 0 sheet.script.shape.k) due dues is)) onward in
    let lines_are = t.lines_are in
    let text = more.text in
    let count : a.placed + 1 + length dues ≡ a.placed + suc (length dues) = omega arith in
    record {
      places = t.line ∷ more.places;
      told = (here.0, more.told);
      rest = more.rest;
      text = cc (lines_are, text, count);
      account = more.account;
      passes = more.passes;
    }
