-- What is shown and where values stand, in the words of the log and the runs that are told.
use Rattle.std.proofs.Common.{◌≡◌, ◌<◌, ◌≤◌, ◌+◌, ℕ, List, [], ◌∷◌, ◌++◌, ◌∙◌, take, length, replicate, Option, None, refl, sym, ap, subst, arith}
use Rattle.std.proofs.lemmas.List.{append-nil, map-append}
use Rattle.std.proofs.lemmas.List.FromFn.{length-map-range_with_len}
use Rattle.erasure_code.specs.Code.{coded}
use Rattle.erasure_code.specs.Spaces.{bytes_at}
use Rattle.group_types.proofs.Lists.{at-map-range, at-replicate}
use Rattle.group_types.specs.Dimensions.{Dimensions, space_of}
use Rattle.group_types.specs.Lists.{at}
use Rattle.group_types.specs.Names.{IsProcess}
use Rattle.group_types.specs.declared.process.ProcessId.{ProcessId}
use Rattle.group_types.specs.declared.process.ProcessId.TheVariants.{DataNode, ParityNode}
use Rattle.group_types.specs.declared.run.Run.{Run}
use Rattle.memc_table.specs.Contents.{empty_table}
use Rattle.group_calls.specs.Turns.{log_of}
use Rattle.group_calls.specs.declared.entry.Entry.{Entry}
use Rattle.group_run.specs.Meaning.{Logged}
use Rattle.run_verify.specs.Changes.{run_after_changes, space_behind}
use Rattle.run_verify.specs.Checked.{ArePlaced, AreWellShown, IsWellShown}
use Rattle.run_verify.specs.Passing.{Account, changes_at}
use Rattle.run_verify.specs.Plain.{EndsPlacing, FitSteps, FitsStep}
use Rattle.run_verify.specs.Sheet.{Sheet}
use Rattle.run_verify.specs.Told.{ToldStep, runs_told, turns_told, turns_told_in}
use Rattle.run_verify.specs.Told.{Made, Drained, Shown, Lost, Down, Placed}
use Rattle.run_verify.specs.Updates.{IsClearRun, IsStampOf, StandRight, StandsRight, brings_value, item_run_behind, shown_at, space_after_updates, spaces_by}
use Rattle.run_verify.specs.Updates.{updates_by}
use Rattle.run_verify.specs.declared.change.Change.{Change}
use Rattle.run_verify.specs.declared.change.Effect.{Effect}
use Rattle.run_verify.specs.declared.change.Effect.TheVariants.{Writes, Removes, Keeps}
use Rattle.run_verify.specs.declared.step.Step.{Step}
use Rattle.run_verify.specs.declared.step.Step.TheVariants.{Make, Deliveries, Look, Placing}
use Rattle.run_verify.proofs.ImpliedChanges.{IsKind, MatchAll, Matches, item-run, length-same, push-matches, runs-same, spaces-same}
use Rattle.run_verify.proofs.ImpliedPlaces.{AreClear, IsClearBy, run_told, runs_for, runs_of}
use Rattle.run_verify.proofs.ImpliedShadow.{Shadow, grow, shadow-append, shadow-course, shadow-step}
use Rattle.run_verify.proofs.ImpliedSteps.{Course, ShownBy, StepTold}

-- ---- what is shown

spaces-by-same : (f g : ℕ → ℕ → List ℕ) (k d : ℕ) (stamp : List ℕ) → ((p n : ℕ) → p < k → f p n ≡ g p n)
    → d + length stamp ≤ k → spaces_by f d stamp ≡ spaces_by g d stamp
spaces-by-same f g k d [] same within = refl
spaces-by-same f g k d (n ∷ stamp) same within =
    let here = same d n (omega (arith, within)) in
    let rest = spaces-by-same f g k (d + 1) stamp same (omega (arith, within)) in
    cc (here, rest)

pub shown-same : (s : Dimensions) (f g : ℕ → ℕ → List ℕ) (counts : ℕ → ℕ) (p : ProcessId) (run : Run) (stamp : List ℕ)
    → ((d n : ℕ) → d < s.k → f d n ≡ g d n) → IsProcess s p → IsStampOf s counts p stamp
    → shown_at s f p run stamp ≡ shown_at s g p run stamp
shown-same s f g counts (DataNode d) run stamp same within can = ap (λ (x : List ℕ). bytes_at run.at run.len x) (same d (at 0 stamp 0) within)
shown-same s f g counts (ParityNode i) run stamp same within can =
    let long = can.0 in
    ap (λ (x : List (List ℕ)). bytes_at run.at run.len (coded s.m i (space_of s) x)) (spaces-by-same f g s.k 0 stamp same (omega (arith, long)))

pub stamp-same : (s : Dimensions) (c e : ℕ → ℕ) (p : ProcessId) (stamp : List ℕ) → ((d : ℕ) → d < s.k → c d ≡ e d)
    → IsProcess s p → IsStampOf s c p stamp → IsStampOf s e p stamp
stamp-same s c e (DataNode d) stamp same within (n, is, below) = let eq = same d within in (n, is, omega (arith, below, eq))
stamp-same s c e (ParityNode i) stamp same within (long, below) = (long, λ d small. let eq = same d small in let b = below d small in omega (arith, eq, b))

-- the changes so far stand for the updates of the log so far, by runs that go on from theirs
abbrev StandsSoFar : Dimensions → List (List (Option Run)) → List Entry → Account → Type 0
StandsSoFar s runs log a = (d : ℕ) → d < s.k → MatchAll (changes_at a d) (updates_by s runs log d)

-- the runs of all changes begin with those of the changes so far
abbrev Begins : Dimensions → List (List (Option Run)) → Account → Type 0
Begins s runs a = (d : ℕ) → d < s.k → (tail : List (Option Run)) × (at [] runs d ≡ runs_for (changes_at a d) ++ tail)

so-far : (s : Dimensions) (runs : List (List (Option Run))) (log : List Entry) (a : Account)
    → Shadow s.k (empty_table s.k) (replicate s.k []) log a.table a.changes → Begins s runs a → StandsSoFar s runs log a
so-far s runs log a shadow begins d below =
    let g = grow s.k d log (empty_table s.k) (replicate s.k []) a.table a.changes shadow in
    let all : changes_at a d ≡ g.more = g.grown ∙ ap (λ (x : List Change). x ++ g.more) (at-replicate {X = List Change} [] s.k d) in
    let b = begins d below in
    let runs_are : at [] runs d ≡ runs_for g.more ++ b.0 = b.1 ∙ ap (λ (x : List Change). runs_for x ++ b.0) all in
    rw all (rw runs_are (g.matches b.0))

begins-final : (s : Dimensions) (final a : Account) (es : List Entry)
    → Shadow s.k a.table a.changes es final.table final.changes → Begins s (runs_of final 0 s.k) a
begins-final s final a es shadow d below =
    let g = grow s.k d es a.table a.changes final.table final.changes shadow in (
      runs_for g.more,
      at-map-range [] (λ p. runs_for (changes_at final p)) s.k 0 d below ∙ ap (λ (p : ℕ). runs_for (changes_at final p)) (let e : 0 + d ≡ d = omega arith in e)
          ∙ ap runs_for g.grown ∙ map-append (λ c. run_told c.effect) (changes_at a d) g.more,
    )

well-look : (sheet : Sheet) (a next : Account) (p : ProcessId) (run : Run) (stamp bytes : List ℕ)
    (runs : List (List (Option Run))) (log : List Entry) → IsProcess sheet.script.shape p
    → StandsSoFar sheet.script.shape runs log a → ShownBy sheet a p run stamp bytes next
    → IsWellShown sheet.script.shape runs log (Look p run) (Shown stamp bytes)
well-look sheet a next p run stamp bytes runs log within stands by =
    let s : Dimensions = sheet.script.shape in
    let counts : (d : ℕ) → d < s.k → length (changes_at a d) ≡ length (updates_by s runs log d) =
    λ d below. length-same (changes_at a d) (updates_by s runs log d) (stands d below) in
    let spaces : (d n : ℕ) → d < s.k → space_behind s (take n (changes_at a d))
    ≡ space_after_updates s (updates_by s runs log d) n = λ d n below. spaces-same s (changes_at a d)
    (updates_by s runs log d) n (stands d below) in (
      stamp-same s (λ d. length (changes_at a d)) (λ d. length (updates_by s runs log d)) p stamp counts within by.can,
      by.bytes_are ∙ shown-same s (λ d n. space_behind s (take n (changes_at a d)))
          (λ d n. space_after_updates s (updates_by s runs log d) n) (λ d. length (changes_at a d)) p run stamp spaces within
          by.can,
    )

well-step : (sheet : Sheet) (a : Account) (step : Step) (told : ToldStep) (next : Account) (runs : List (List (Option Run)))
    (log : List Entry) → FitsStep sheet.script.shape step
    → StandsSoFar sheet.script.shape runs log a → StepTold sheet a step told next → IsWellShown sheet.script.shape runs log step told
well-step sheet a (Look p run) (Shown stamp bytes) next runs log fits stands by = well-look sheet a next p run stamp bytes runs log fits stands by
well-step sheet a asked told next runs log fits stands by = tt

pub well-shown : (sheet : Sheet) (steps : List Step) (told : List ToldStep) (a final : Account) (log : List Entry) → FitSteps sheet.script.shape steps
    → Shadow sheet.script.shape.k (empty_table sheet.script.shape.k) (replicate sheet.script.shape.k []) log a.table a.changes → Course sheet a steps told final
    → AreWellShown sheet.script.shape (runs_of final 0 sheet.script.shape.k) log steps told
well-shown sheet [] [] a final log fits shadow course = tt
well-shown sheet [] (told ∷ more) a final log fits shadow course = absurd course
well-shown sheet (step ∷ steps) [] a final log fits shadow course = absurd course
well-shown sheet (step ∷ steps) (told ∷ more) a final log (fit, fits) shadow (next, by, course) =
    let s : Dimensions = sheet.script.shape in
    let here = shadow-step sheet a step told next by in
    let onward = shadow-course sheet next steps more final course in
    let whole = shadow-append s.k (log_of (turns_told_in told)) (log_of (turns_told more)) a.table a.changes next.table
    next.changes final.table final.changes here onward in
    let begins = begins-final s final a (log_of (turns_told_in told) ++ log_of (turns_told more)) whole in (
      well-step sheet a step told next (runs_of final 0 s.k) log fit (so-far s (runs_of final 0 s.k) log a shadow begins) by,
      well-shown sheet steps more next final (log ++ log_of (turns_told_in told)) fits
          (shadow-append s.k log (log_of (turns_told_in told)) (empty_table s.k) (replicate s.k []) a.table a.changes next.table next.changes shadow here)
          course,
    )

-- ---- where values stand

clear-same : (s : Dimensions) (before : List Change) (us : List Logged) (run : Run) (len : ℕ) → MatchAll before us
    → IsClearRun s (λ key. run_after_changes key None before) run len → IsClearRun s (item_run_behind us) run len
clear-same s before us run len all clear =
    record {
      inside = clear.inside;
      long = clear.long;
      apart = λ key other is. clear.apart key other
          (item-run key before us None all ∙ is);
    }

stands-right : (s : Dimensions) (before : List Change) (us : List Logged) (c : Change) (u : Logged) → MatchAll before us
    → Matches c u → IsClearBy s before c.effect → StandsRight s us u (brings_value u.entry.op.act)
stands-right s before us c u all one clear = by c.effect refl one.run one.kind clear
  where
    by : (e : Effect) → c.effect ≡ e → u.run ≡ run_told e → IsKind e u.item (brings_value u.entry.op.act)
        → IsClearBy s before e → StandsRight s us u (brings_value u.entry.op.act)
    by (Writes value run) is run_is (h, item, same, brings) (r, some, clear') =
        rw brings (
          r,
          h,
          run_is ∙ some,
          item,
          subst (λ (n : ℕ). IsClearRun s (item_run_behind us) r n) (ap length same)
              (clear-same s before us r (length value) all clear'),
        )
    by Removes is run_is (item, brings) clear' = rw brings run_is
    by Keeps is run_is (h, item, brings) clear' = rw brings run_is

all-right : (s : Dimensions) (before : List Change) (us : List Logged) (cs : List Change) (more : List Logged)
    → MatchAll before us → MatchAll cs more → AreClear s before cs → StandRight s us more
all-right s before us [] [] all matches clear = tt
all-right s before us [] (u ∷ more) all matches clear = absurd matches
all-right s before us (c ∷ cs) [] all matches clear = absurd matches
all-right s before us (c ∷ cs) (u ∷ more) all (one, matches) (first, clear) =
    (stands-right s before us c u all one first, all-right s (before ++ c ∷ []) (us ++ u ∷ []) cs more (push-matches before us c u all one) matches clear)

pub are-placed : (s : Dimensions) (final : Account) (log : List Entry) → Shadow s.k (empty_table s.k) (replicate s.k []) log final.table final.changes
    → ((d : ℕ) → d < s.k → AreClear s [] (changes_at final d)) → ArePlaced s log (runs_of final 0 s.k)
are-placed s final log shadow clear = record {
  partitions = length-map-range_with_len (λ p. runs_for (changes_at final p)) 0 s.k;
  numbers = λ d below. runs-same (changes_at final d) (updates_by s (runs_of final 0 s.k) log d) (stands d below)
      ∙ sym (at-map-range [] (λ p. runs_for (changes_at final p)) s.k 0 d below
      ∙ ap (λ (p : ℕ). runs_for (changes_at final p)) (let e : 0 + d ≡ d = omega arith in e));
  right = λ d below. all-right s [] [] (changes_at final d) (updates_by s (runs_of final 0 s.k) log d) tt (stands d below) (clear d below);
}
  where
    stands : StandsSoFar s (runs_of final 0 s.k) log final
    stands = so-far s (runs_of final 0 s.k) log final shadow (begins-final s final final [] (refl, refl))

-- ---- the runs that are told

pub record RunsTold (sheet : Sheet) (told : List ToldStep) (final : Account) : Type 0 where
  pub runs_are : runs_told told ≡ runs_of final 0 sheet.script.shape.k
  pub clear : (d : ℕ) → d < sheet.script.shape.k → AreClear sheet.script.shape [] (changes_at final d)

pub runs-course : (sheet : Sheet) (a : Account) (steps : List Step) (told : List ToldStep) (final : Account)
    → EndsPlacing steps → Course sheet a steps told final → RunsTold sheet told final
runs-course sheet a [] told final ends course = absurd ends
runs-course sheet a (step ∷ steps) [] final ends course = absurd course
runs-course sheet a (Make event ∷ steps) (Made t ∷ more) final ends (next, by, course) = let r =
    runs-course sheet next steps more final ends course in record { runs_are = r.runs_are; clear = r.clear }
runs-course sheet a (Deliveries ∷ steps) (Drained turns n ∷ more) final ends (next, by, course) = let r =
    runs-course sheet next steps more final ends course in record { runs_are = r.runs_are; clear = r.clear }
runs-course sheet a (Look p run ∷ steps) (Shown stamp bytes ∷ more) final ends (next, by, course) = let r =
    runs-course sheet next steps more final ends course in record { runs_are = r.runs_are; clear = r.clear }
runs-course sheet a (Look p run ∷ steps) (Lost ∷ more) final ends (next, by, course) = let r =
    runs-course sheet next steps more final ends course in record { runs_are = r.runs_are; clear = r.clear }
runs-course sheet a (Look p run ∷ steps) (Down ∷ more) final ends (next, by, course) = let r =
    runs-course sheet next steps more final ends course in record { runs_are = r.runs_are; clear = r.clear }
runs-course sheet a (Placing ∷ (step ∷ steps)) (Placed runs ∷ more) final ends (next, by, course) = absurd (cc ends)
runs-course sheet a (Placing ∷ []) (Placed runs ∷ (told ∷ more)) final ends (next, by, course) = absurd course
runs-course sheet a (Placing ∷ []) (Placed runs ∷ []) final ends (next, by, course) =
    let same : a ≡ final = sym by.next_is ∙ course in
    record {
      runs_are = append-nil runs ∙ by.runs_are ∙ ap (λ (c : Account). runs_of c 0 sheet.script.shape.k) same;
      clear = λ d below. subst (λ (c : Account). AreClear sheet.script.shape [] (changes_at c d)) same
          (by.clear d below);
    }
runs-course sheet a (asked ∷ steps) (answer ∷ more) final ends (next, by, course) = absurd by
