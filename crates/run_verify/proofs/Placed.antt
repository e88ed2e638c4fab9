-- What the lines for the places come to, line by line.
use Rattle.std.proofs.Common.{◌≡◌, ◌≢◌, ◌<◌, ◌+◌, ◌-◌, inl, inr, ℕ, zero, suc, Bool, true, false, List, [], ◌∷◌, ◌++◌}
use Rattle.std.proofs.Common.{Option, Some, None, drop, length, refl, sym, ap, ◌∙◌, subst, arith}
use Rattle.std.specs.Prelude.{IfOk, Result, Ok, Err}
use Rattle.group_types.specs.Dimensions.{Dimensions}
use Rattle.scenario_run.specs.Lines.{lines_of}
use Rattle.run_verify.specs.Dues.{ArePlacedBehind, HasCountedPlaces, LacksFirst, LeadsTo, dues_in, dues_left}
use Rattle.run_verify.specs.Passing.{Account, DuePlace, JudgingState, MayLog, Passes, PassesBy, PassesPlace, TellsRun, begins_entry}
use Rattle.run_verify.specs.Passing.{changes_at, due_places_of, dues_from, on_to, with_placed}
use Rattle.run_verify.specs.Placings.{ArePlacedFrom, placing}
use Rattle.run_verify.specs.Sheet.{Sheet}
use Rattle.run_verify.specs.Told.{placed_line}
use Rattle.run_verify.specs.declared.change.Change.{Change}
use Rattle.scenario_run.proofs.Cutting.{some_lines}

-- ---- one line

no-log-placing : (a : Account) → ¬ (MayLog (placing a))
no-log-placing a (inl e) = absurd (cc e)
no-log-placing a (inr (more, e)) = absurd (cc e)

no-log-ended : (a : Account) → ¬ (MayLog (on_to a []))
no-log-ended a (inl e) = absurd (cc e)
no-log-ended a (inr (more, e)) = absurd (cc e)

-- behind the last step nothing passes
none-passes : (sheet : Sheet) (a : Account) (line : List ℕ) (lines : List (List ℕ)) (next : JudgingState) → ¬ (Passes sheet (on_to a []) line lines next)
none-passes sheet a line lines next passes = by (begins_entry line) passes where
  by : (b : Bool) → PassesBy b sheet (on_to a []) line lines next → ⊥
  by true p = no-log-ended a p.0
  by false p = p

dues-same : (a : Account) (d n : ℕ) → dues_from a d n ≡ dues_in a.changes d n
dues-same a d zero = refl
dues-same a d (suc n) = ap (λ (ds : List DuePlace). due_places_of d [] (changes_at a d) ++ ds) (dues-same a (d + 1) n)

module _ (s : Dimensions) (changes : List (List Change)) (many : length changes ≡ s.k) (p : ℕ) (dues : List DuePlace)
    (left : dues_left changes p ≡ dues) (sheet : Sheet) (a : Account) (shape : sheet.script.shape ≡ s)
    (same : a.changes ≡ changes) (count : a.placed ≡ p)
  where
    dues-are : drop a.placed (dues_from a 0 sheet.script.shape.k) ≡ dues
    dues-are =
        ap (drop a.placed) (dues-same a 0 sheet.script.shape.k)
        ∙ ap (λ (n : ℕ). drop n (dues_in a.changes 0 sheet.script.shape.k)) count
        ∙ ap (λ (cs : List (List Change)). drop p (dues_in cs 0 sheet.script.shape.k)) same
        ∙ ap (λ (k : ℕ). drop p (dues_in changes 0 k)) (ap (λ (x : Dimensions). x.k) shape ∙ sym many
        ∙ (let e : length changes ≡ length changes - 0 = omega arith in e))
        ∙ left

    to-pass : (line : List ℕ) (lines : List (List ℕ)) (next : JudgingState) → begins_entry line ≡ false
        → PassesPlace sheet a [] dues line next → Passes sheet (placing a) line lines next
    to-pass line lines next begins passes =
        subst (λ (b : Bool). PassesBy b sheet (placing a) line lines next) (sym begins)
        (subst (λ (ds : List DuePlace). PassesPlace sheet a [] ds line next) (sym dues-are) passes)

    of-pass : (line : List ℕ) (lines : List (List ℕ)) (next : JudgingState) → Passes sheet (placing a) line lines next → PassesPlace sheet a [] dues line next
    of-pass line lines next passes = by (begins_entry line) passes where
      by : (b : Bool) → PassesBy b sheet (placing a) line lines next → PassesPlace sheet a [] dues line next
      by true q = absurd (no-log-placing a q.0)
      by false q = subst (λ (ds : List DuePlace). PassesPlace sheet a [] ds line next) dues-are q

-- ---- the run that is due

told-begins : (s : Dimensions) (due : DuePlace) (line : List ℕ) → TellsRun s due line → begins_entry line ≡ false
told-begins s due line tells = ap begins_entry tells.text

module _ (s : Dimensions) (changes : List (List Change)) (many : length changes ≡ s.k) (p : ℕ) (due : DuePlace)
    (more : List DuePlace) (left : dues_left changes p ≡ due ∷ more) where
  told-passes : (line : List ℕ) (lines : List (List ℕ)) → TellsRun s due line → (sheet : Sheet) (a : Account)
      → sheet.script.shape ≡ s → a.changes ≡ changes → a.placed ≡ p
      → Passes sheet (placing a) line lines (placing (with_placed a))
  told-passes line lines tells sheet a shape same count =
      to-pass s changes many p (due ∷ more) left sheet a shape same count line lines (placing (with_placed a))
      (told-begins s due line tells) (subst (λ (x : Dimensions). TellsRun x due line) (sym shape) tells, refl)

  pub told_leads : (line : List ℕ) (lines : List (List ℕ)) → TellsRun s due line → LeadsTo s changes p (line ∷ lines) (p + 1) lines
  told_leads line lines tells None all = λ sheet a shape same count.
      let rest = all sheet (with_placed a) shape same (ap (λ (n : ℕ). n + 1) count) in
      (rest.0, (placing (with_placed a), told-passes line lines tells sheet a shape same count, rest.1), rest.2, rest.3)
  told_leads line lines tells (Some n) (m, is, fails) = (suc m, omega (arith, is), by m fails) where
    by : (m : ℕ) → ArePlacedFrom s changes (p + 1) lines (Some m) → ArePlacedFrom s changes p (line ∷ lines) (Some (suc m))
    by zero f sheet a shape same count = absurd (f sheet (with_placed a) shape same (ap (λ (n : ℕ). n + 1) count))
    by (suc m) f sheet a shape same count = (
      placing (with_placed a),
      told-passes line lines tells sheet a shape same count,
      f sheet (with_placed a) shape same (ap (λ (n : ℕ). n + 1) count),
    )

  pub lacks_fails : (lines : List (List ℕ)) → LacksFirst (TellsRun s due) lines → ArePlacedBehind s changes p lines (Some (p + 1))
  lacks_fails [] lacks = (suc zero, refl, λ sheet a shape same count none. cc none)
  lacks_fails (line ∷ lines) lacks = (
    suc zero,
    refl,
    λ sheet a shape same count next passes.
        lacks (subst (λ (x : Dimensions). TellsRun x due line) shape
        (of-pass s changes many p (due ∷ more) left sheet a shape same count line lines next passes).0),
  )

-- ---- how many there were

placed-begins : (n : ℕ) (line : List ℕ) → line ≡ placed_line n → begins_entry line ≡ false
placed-begins n line is = ap begins_entry is

module _ (s : Dimensions) (changes : List (List Change)) (many : length changes ≡ s.k) (p : ℕ) (left : dues_left changes p ≡ []) where
  ends : (line : List ℕ) (lines : List (List ℕ)) → line ≡ placed_line p → (sheet : Sheet) (a : Account)
      → sheet.script.shape ≡ s → a.changes ≡ changes → a.placed ≡ p → Passes sheet (placing a) line lines (on_to a [])
  ends line lines is sheet a shape same count =
      to-pass s changes many p [] left sheet a shape same count line lines (on_to a []) (placed-begins p line is) (is ∙ ap placed_line (sym count), refl)

  fails : (line : List ℕ) (lines : List (List ℕ)) → line ≢ placed_line p → ArePlacedFrom s changes p (line ∷ lines) (Some (suc zero))
  fails line lines not sheet a shape same count next passes =
      not ((of-pass s changes many p [] left sheet a shape same count line lines next passes).0 ∙ ap placed_line count)

  goes-on : (line next : List ℕ) (lines : List (List ℕ)) → line ≡ placed_line p → ArePlacedFrom s changes p (line ∷ next ∷ lines) (Some (suc (suc zero)))
  goes-on line next lines is sheet a shape same count =
      (on_to a [], ends line (next ∷ lines) is sheet a shape same count, λ then. none-passes sheet a next lines then)

  pub ended_behind : (lines : List (List ℕ)) (found : Option ℕ) → HasCountedPlaces p lines found → ArePlacedBehind s changes p lines found
  ended_behind [] None is = absurd (cc is)
  ended_behind [] (Some n) is = (suc zero, (let e : n ≡ p + 1 = cc is in e), λ sheet a shape same count none. cc none)
  ended_behind (line ∷ []) None is = λ sheet a shape same count. (a, (on_to a [], ends line [] is sheet a shape same count, (refl, refl)), refl, refl)
  ended_behind (line ∷ []) (Some n) (not, is) = (suc zero, is, fails line [] not)
  ended_behind (line ∷ next ∷ lines) None is = absurd is
  ended_behind (line ∷ next ∷ lines) (Some n) (inl (not, is)) = (suc zero, is, fails line (next ∷ lines) not)
  ended_behind (line ∷ next ∷ lines) (Some n) (inr (text, is)) = (suc (suc zero), is, goes-on line next lines text)

-- ---- the last line

last-lacks : (p : ℕ) (line : List ℕ) (more : List (List ℕ)) → line ≢ placed_line p → HasCountedPlaces p (line ∷ more) (Some (p + 1))
last-lacks p line [] not = (not, refl)
last-lacks p line (next ∷ more) not = inl (not, refl)

pub lacks_end : (p : ℕ) (lines : List (List ℕ)) (line : List ℕ) (more : List (List ℕ)) → lines ≡ line ∷ more
    → line ≢ placed_line p → HasCountedPlaces p lines (Some (p + 1))
lacks_end p lines line more is not = subst (λ (ls : List (List ℕ)). HasCountedPlaces p ls (Some (p + 1))) (sym is) (last-lacks p line more not)

pub is_end : (p : ℕ) (lines : List (List ℕ)) (line : List ℕ) (more : List (List ℕ)) → lines ≡ line ∷ more → more ≡ []
    → line ≡ placed_line p → HasCountedPlaces p lines None
is_end p lines line more is last text = subst (λ (ls : List (List ℕ)). HasCountedPlaces p ls None) (sym (is ∙ ap (λ (ls : List (List ℕ)). line ∷ ls) last)) text

pub goes_end : (p : ℕ) (lines : List (List ℕ)) (line : List ℕ) (rest : List ℕ) → lines ≡ line ∷ lines_of rest
    → 0 < length rest → line ≡ placed_line p → HasCountedPlaces p lines (Some (p + 2))
goes_end p lines line rest is some text =
    let more = some_lines rest some in
    subst (λ (ls : List (List ℕ)). HasCountedPlaces p ls (Some (p + 2))) (sym (is ∙ ap (λ (ls : List (List ℕ)). line ∷ ls) more.2)) (inr (text, refl))

-- ---- from the first line on

pub all_lead : (s : Dimensions) (changes : List (List Change)) (p : ℕ) (lines : List (List ℕ)) → LeadsTo s changes p lines p lines
all_lead s changes p lines found all = all

pub from_first : (s : Dimensions) (changes : List (List Change)) (lines : List (List ℕ)) (found : Option ℕ)
    → ArePlacedBehind s changes 0 lines found → ArePlacedFrom s changes 0 lines found
from_first s changes lines None all = all
from_first s changes lines (Some n) (m, is, fails) = subst (λ (x : ℕ). ArePlacedFrom s changes 0 lines (Some x)) (let e : m ≡ n = omega (arith, is) in e) fails

pub found_first : {E : Type 0} (s : Dimensions) (changes : List (List Change)) (many : length changes ≡ s.k) (p : ℕ)
    (lines rest : List (List ℕ)) → dues_left changes p ≡ [] → LeadsTo s changes 0 lines p rest
    → (r : Result (Option ℕ) E) → IfOk r (HasCountedPlaces p rest) → IfOk r (ArePlacedFrom s changes 0 lines)
found_first s changes many p lines rest left leads (Ok found) ended =
    from_first s changes lines found (leads found (ended_behind s changes many p left rest found ended))
found_first s changes many p lines rest left leads (Err e) ended = tt
