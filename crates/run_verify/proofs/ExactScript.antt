-- What a script that is read from a text keeps to: its shape, its callers and calls, and its ops are within their limits.
use Rattle.std.proofs.Common.{◌≡◌, ◌≤◌, ◌+◌, ℕ, suc, nat_lt, Bool, true, false, List, [], ◌∷◌, ◌++◌, ◌∙◌, length}
use Rattle.std.proofs.Common.{Option, Some, None, Result, Ok, Err, if◌then◌else◌, refl, sym, ap, subst, arith}
use Rattle.std.proofs.lemmas.List.{length-append}
use Rattle.std.specs.Prelude.{⊤, slice_index}
use Rattle.std.specs.Str.{bytes_eq}
use Rattle.group_types.specs.Dimensions.{Dimensions}
use Rattle.group_types.specs.Names.{IsProcess}
use Rattle.group_types.specs.Shape.{IsShape}
use Rattle.group_calls.specs.declared.event.Event.{Event}
use Rattle.group_calls.specs.declared.event.Event.TheVariants as happens
use Rattle.scenario_text.proofs.Lines.{line_of-within}
use Rattle.scenario_text.specs.Meaning.{is_skipped, line_meaning}
use Rattle.scenario_text.specs.declared.line.Line.{Line}
use Rattle.scenario_text.specs.declared.line.Line.TheVariants.{Skipped, Group, Ask, Collect, Deliver, Fail, Flush, Trace, Drain, Show, Places, Time, Stop}
use Rattle.scenario_text.specs.declared.line.LineFault.{LineFault}
use Rattle.scenario_text.specs.declared.line.LineFault.TheVariants.{BadLine}
use Rattle.scenario_run.specs.Course.{Fault, Goes, Ends, Refused}
use Rattle.scenario_run.specs.Lines.{lines_of}
use Rattle.run_verify.specs.Sheet.{Sheet, before_separator, behind_separator, separator, sheet_joined, sheet_of}
use Rattle.run_verify.proofs.Judged.{lines-few}
use Rattle.run_verify.specs.Steps.{Script, Setting, StepNext, asks_for, behind, ended, script_from_line, script_in, stands_well, steps_by_meaning}
use Rattle.run_verify.specs.Steps.{steps_of_line, trace_steps}
use Rattle.run_verify.specs.declared.step.Step.{Step}
use Rattle.run_verify.specs.declared.step.Step.TheVariants.{Make, Deliveries, Look, Placing}
use Rattle.run_verify.proofs.ExactEntries.{FitsAsk}
use Rattle.run_verify.proofs.ExactLimits.{act-fits, read-limits}
use Rattle.run_verify.proofs.PlainScript.{skips}

-- ---- steps

-- a step whose event, or whose process, is within the limits
abbrev pub FitsFully : Dimensions → Step → Type 0
FitsFully s (Make event) = FitsAsk event
FitsFully s (Look p run) = IsProcess s p
FitsFully s Deliveries = ⊤
FitsFully s Placing = ⊤

abbrev pub FitAll : Dimensions → List Step → Type 0
FitAll s [] = Unit {0}
FitAll s (step ∷ steps) = FitsFully s step × FitAll s steps

fit-append : (s : Dimensions) (xs ys : List Step) → FitAll s xs → FitAll s ys → FitAll s (xs ++ ys)
fit-append s [] ys fit more = more
fit-append s (x ∷ xs) ys (first, fit) more = (first, fit-append s xs ys fit more)

abbrev Good : Option Setting → Type 0
Good None = Unit {0}
Good (Some s) = IsShape s.shape

-- the group of a setting stays, and the steps fit it
abbrev GoodNext : Option Setting → Option Setting → List Step → Type 0
GoodNext None next steps = Good next × (steps ≡ [])
GoodNext (Some s) None steps = ⊥
GoodNext (Some s) (Some t) steps = (t.shape ≡ s.shape) × FitAll s.shape steps × (length steps ≤ 1)

abbrev GoodLine : Option Setting → StepNext → Type 0
GoodLine setting (Goes next steps text) = GoodNext setting next steps
GoodLine setting Ends = Unit {0}
GoodLine setting (Refused cause) = Unit {0}

none-ask : (s : Setting) → GoodNext (Some s) (Some s) []
none-ask s = (refl, tt, omega arith)

traced : (s : Setting) (caller call : ℕ) (e : Event) → FitsAsk e → GoodLine (Some s) (trace_steps s caller call e)
traced s caller call e fits = by (nat_lt call (slice_index s.asked caller))
  where
    by : (b : Bool) → GoodLine (Some s) (if b then asks_for s (Make e) else Refused BadLine)
    by true = (refl, (fits, tt), omega arith)
    by false = tt

good-line : (setting : Option Setting) (line : List ℕ) → Good setting → GoodLine setting (steps_of_line setting line)
good-line None line good = by (line_meaning None line) refl
  where
    by : (r : Result Line LineFault) → line_meaning None line ≡ r → GoodLine None (steps_by_meaning None r)
    by (Ok Skipped) is = (tt, refl)
    by (Ok (Group shape)) is = (line_of-within None line (Group shape) is, refl)
    by r is = tt
good-line (Some s) line good = by (line_meaning (Some s.shape) line) refl
  where
    by : (r : Result Line LineFault) → line_meaning (Some s.shape) line ≡ r → GoodLine (Some s) (steps_by_meaning (Some s) r)
    by (Err fault) is = tt
    by (Ok Skipped) is = none-ask s
    by (Ok (Group shape)) is = tt
    by (Ok (Ask caller p a)) is = let w = line_of-within (Some s.shape) line (Ask caller p a) is in
        (refl, ((w.0, act-fits a (read-limits s.shape line (Ask caller p a) is) w.2), tt), omega arith)
    by (Ok (Collect caller call p)) is = let w = line_of-within (Some s.shape) line (Collect caller call p) is in
        (refl, ((w.0, read-limits s.shape line (Collect caller call p) is), tt), omega arith)
    by (Ok (Deliver from to)) is = (refl, (tt, tt), omega arith)
    by (Ok (Fail p keep)) is = (refl, (tt, tt), omega arith)
    by (Ok (Flush p)) is = (refl, (tt, tt), omega arith)
    by (Ok (Trace caller call d p)) is = let w = line_of-within (Some s.shape) line (Trace caller call d p) is in
        traced s caller call (happens.Trace caller call d p) (w.0, read-limits s.shape line (Trace caller call d p) is)
    by (Ok Drain) is = (refl, (tt, tt), omega arith)
    by (Ok (Show p run)) is = let w = line_of-within (Some s.shape) line (Show p run) is in (refl, (w.0, tt), omega arith)
    by (Ok Places) is = (refl, (tt, tt), omega arith)
    by (Ok (Time moment)) is = (refl, tt, omega arith)
    by (Ok Stop) is = tt

-- ---- scripts

-- what a script keeps to, where the lines before set this
pub record GoodScript (setting : Option Setting) (m : ℕ) (script : Script) : Type 0 where
  pub shape : IsShape script.shape
  pub kept : (s : Setting) → setting ≡ Some s → script.shape ≡ s.shape
  pub fit : FitAll script.shape script.steps
  pub few : length script.steps ≤ m

abbrev Outcome : Type 0
Outcome = Result Script (Fault LineFault)

behind-ok : (steps : List Step) (r : Outcome) (script : Script) → behind steps r ≡ Ok script → (rest : Script)
    × (r ≡ Ok rest) × (record { shape = rest.shape; steps = steps ++ rest.steps } ≡ script)
behind-ok steps (Ok rest) script is = (rest, refl, cc is)
behind-ok steps (Err fault) script is = cc is

good-ended : (n m : ℕ) (setting : Option Setting) (script : Script) → Good setting → ended n setting ≡ Ok script → GoodScript setting m script
good-ended n m None script good is = cc is
good-ended n m (Some s) script good is =
    let same : record { shape = s.shape; steps = [] } ≡ script = cc is in
    subst (GoodScript (Some s) m) same
    (record {
      shape = good;
      kept = λ t is. let e : s ≡ t = cc is in ap (λ (x : Setting). x.shape) e;
      fit = tt;
      few = omega arith;
    })

more-lines : (setting : Option Setting) (m : ℕ) (script : Script) → GoodScript setting m script → GoodScript setting (suc m) script
more-lines setting m script g = let few = g.few in record { shape = g.shape; kept = g.kept; fit = g.fit; few = omega (arith, few) }

-- the next line goes on
goes-on : (setting next : Option Setting) (steps : List Step) (m : ℕ) (rest : Script) → GoodNext setting next steps
    → GoodScript next m rest → GoodScript setting (suc m) (record { shape = rest.shape; steps = steps ++ rest.steps })
goes-on None next steps m rest (good, none) g =
    let few = g.few in
    subst (λ (st : List Step). GoodScript None (suc m) (record { shape = rest.shape; steps = st ++ rest.steps }))
    (sym none) (record { shape = g.shape; kept = λ s is. cc is; fit = g.fit; few = omega (arith, few) })
goes-on (Some s) None steps m rest none g = absurd none
goes-on (Some s) (Some t) steps m rest (shape_is, fit, one) g =
    let same : rest.shape ≡ s.shape = g.kept t refl ∙ shape_is in
    let few = g.few in
    record {
      shape = g.shape;
      kept = λ u is. let e : s ≡ u = cc is in same ∙ ap (λ (x : Setting). x.shape) e;
      fit = fit-append rest.shape steps rest.steps (subst (λ (d : Dimensions). FitAll d steps) (sym same) fit) g.fit;
      few = omega (arith, few, one, length-append steps rest.steps);
    }

next-good : (setting next : Option Setting) (steps : List Step) → Good setting → GoodNext setting next steps → Good next
next-good None next steps good (fine, none) = fine
next-good (Some s) None steps good none = absurd none
next-good (Some s) (Some t) steps good (shape_is, fit, one) = subst IsShape (sym shape_is) good

abbrev Goal : List (List ℕ) → Type 0
Goal lines = (n : ℕ) (setting : Option Setting) (script : Script) → Good setting → script_in n setting lines ≡ Ok script
    → GoodScript setting (length lines) script

good-from : (n : ℕ) (setting : Option Setting) (line : List ℕ) (lines : List (List ℕ)) (script : Script) → Goal lines
    → Good setting → (next : StepNext) → GoodLine setting next → (well : Bool)
    → script_from_line false well n setting next (λ s. script_in (n + 1) s lines) ≡ Ok script → GoodScript setting (suc (length lines)) script
good-from n setting line lines script onward good (Goes next steps text) fine false is = cc is
good-from n setting line lines script onward good (Goes next steps text) fine true is =
    let rest = behind-ok steps (script_in (n + 1) next lines) script is in
    subst (GoodScript setting (suc (length lines))) rest.2
    (goes-on setting next steps (length lines) rest.0 fine
    (onward (n + 1) next rest.0 (next-good setting next steps good fine) rest.1))
good-from n setting line lines script onward good Ends fine well is = good-ended n (suc (length lines)) setting script good is
good-from n setting line lines script onward good (Refused cause) fine well is = cc is

good-script : (lines : List (List ℕ)) → Goal lines
good-script [] n setting script good is = good-ended n 0 setting script good is
good-script (line ∷ lines) n setting script good is = by (is_skipped line) refl (good-script lines)
  where
    by : (b : Bool) → is_skipped line ≡ b → Goal lines → GoodScript setting (suc (length lines)) script
    by true skipped onward =
        let read : script_in (n + 1) setting lines ≡ Ok script =
        sym (ap (λ (x : StepNext). script_from_line true (stands_well line lines) n setting x
        (λ s. script_in (n + 1) s lines)) (skips line setting skipped))
        ∙ sym (ap (λ (b : Bool). script_from_line b (stands_well line lines) n setting (steps_of_line setting line) (λ s. script_in (n + 1) s lines)) skipped)
        ∙ is in
        more-lines setting (length lines) script (onward (n + 1) setting script good read)
    by false written onward =
        good-from n setting line lines script onward good (steps_of_line setting line) (good-line setting line good) (stands_well line lines)
        (sym (ap (λ (b : Bool). script_from_line b (stands_well line lines) n setting (steps_of_line setting line) (λ s. script_in (n + 1) s lines)) written)
        ∙ is)

-- ---- sheets

before-few : (lines : List (List ℕ)) → length (before_separator lines) ≤ length lines
before-few [] = omega arith
before-few (line ∷ lines) = by (bytes_eq line separator) (before-few lines)
  where
    by : (b : Bool) → length (before_separator lines) ≤ length lines → length (if b then [] else line ∷ before_separator lines) ≤ suc (length lines)
    by true few = omega arith
    by false few = omega (arith, few)

behind-few : (lines more : List (List ℕ)) → behind_separator lines ≡ Some more → length more ≤ length lines
behind-few [] more is = cc is
behind-few (line ∷ lines) more is = by (bytes_eq line separator) is (behind-few lines more)
  where
    by : (b : Bool) → (if b then Some lines else behind_separator lines) ≡ Some more
        → (behind_separator lines ≡ Some more → length more ≤ length lines) → length more ≤ suc (length lines)
    by true is few = let same : lines ≡ more = cc is in let many = ap length same in omega (arith, many)
    by false is few = let most = few is in omega (arith, most)

joined-ok : (n : ℕ) (r : Outcome) (lines : Option (List (List ℕ))) (sheet : Sheet) → sheet_joined n r lines ≡ Ok sheet
    → (r ≡ Ok sheet.script) × (lines ≡ Some sheet.lines)
joined-ok n (Err fault) lines sheet is = cc is
joined-ok n (Ok script) None sheet is = cc is
joined-ok n (Ok script) (Some lines) sheet is =
    let same : record { script = script; lines = lines } ≡ sheet = cc is in
    (ap (λ (x : Sheet). Ok x.script) same, ap (λ (x : Sheet). Some x.lines) same)

-- what a sheet keeps to that is read from a text
pub record GoodSheet (sheet : Sheet) (m : ℕ) : Type 0 where
  pub shape : IsShape sheet.script.shape
  pub fit : FitAll sheet.script.shape sheet.script.steps
  pub few : length sheet.script.steps ≤ m
  pub short : length sheet.lines ≤ m

pub good_sheet : (text : List ℕ) (sheet : Sheet) → sheet_of text ≡ Ok sheet → GoodSheet sheet (length text + 1)
good_sheet text sheet is =
    let lines : List (List ℕ) = lines_of text in
    let both = joined-ok (length lines + 1) (script_in 1 None (before_separator lines)) (behind_separator lines) sheet is in
    let g = good-script (before_separator lines) 1 None sheet.script tt both.0 in
    let few = g.few in
    let most = before-few lines in
    let short = behind-few lines sheet.lines both.1 in
    let all = lines-few text in
    record { shape = g.shape; fit = g.fit; few = omega (arith, few, most, all); short = omega (arith, short, all) }
