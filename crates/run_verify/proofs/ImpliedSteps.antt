-- What is told for each step of a script whose transcript passes, and the account behind it.
use Rattle.std.proofs.Common.{◌≡◌, ◌≢◌, inl, inr, ◌<◌, ◌+◌, ◌^◌, ℕ, Bool, true, false, List, [], ◌∷◌, ◌++◌, ◌∙◌, All}
use Rattle.std.proofs.Common.{map, take, length, Option, append_assoc, refl, sym, ap, subst, arith}
use Rattle.std.proofs.lemmas.List.{append-nil}
use Rattle.std.proofs.lemmas.List.Elements.{All-cons, All-nil}
use Rattle.group_types.specs.declared.process.ProcessId.{ProcessId}
use Rattle.group_types.specs.declared.process.ProcessId.TheVariants.{DataNode}
use Rattle.group_types.specs.declared.run.Run.{Run}
use Rattle.group_calls.specs.Turns.{Turn, log_of}
use Rattle.group_calls.specs.declared.entry.Entry.{Entry}
use Rattle.group_calls.specs.declared.event.Answer.{Answer}
use Rattle.group_calls.specs.declared.event.Answer.TheVariants as answered
use Rattle.group_calls.specs.declared.event.Event.{Event}
use Rattle.group_calls.specs.declared.event.Event.TheVariants as happens
use Rattle.group_run.specs.Causes.{IsDelivery}
use Rattle.scenario_text.specs.Texts.{entry_text}
use Rattle.transcript_text.specs.Forms.{FitsAnswer, MayAnswer, kind_of_event}
use Rattle.run_verify.specs.Changes.{space_behind}
use Rattle.run_verify.specs.Passing.{Account, DuePlace, IsAnswerRight, JudgingState, PassAll, PassesBy, PassesStep, after_answer}
use Rattle.run_verify.specs.Passing.{begins_entry, changes_at, dues_from, on_to, with_shown}
use Rattle.run_verify.specs.Plain.{EndsPlacing}
use Rattle.run_verify.specs.Sheet.{Sheet}
use Rattle.run_verify.specs.Told.{ToldStep, CanBeTold, TellAll, count_placed, drained_line, place_lines, lines_told, placed_line}
use Rattle.run_verify.specs.Told.{Made, Drained, Shown, Lost, Down, Placed}
use Rattle.run_verify.specs.Updates.{IsStampOf, shown_at}
use Rattle.run_verify.specs.declared.step.Step.{Step}
use Rattle.run_verify.specs.declared.step.Step.TheVariants.{Make, Deliveries, Look, Placing}
use Rattle.run_verify.proofs.ImpliedCourse.{LogsTo, NoEntry, Turned, logs_ahead, no_entry, places_ahead, state, turned}
use Rattle.run_verify.proofs.ImpliedPlaces.{AreClear, all_lined, runs_of}

-- deliveries as one turn
abbrev pub delivered : List Entry → Turn
delivered entries = record { event = happens.Deliver (DataNode 0) (DataNode 0); answer = answered.Done; logged = entries }

-- an event is answered as it may be, and logs entries
pub record MadeBy (sheet : Sheet) (a : Account) (event : Event) (turn : Turn) (next : Account) : Type 0 where
  pub event_is : turn.event ≡ event
  pub can : MayAnswer (kind_of_event event) turn.answer
  pub fits : FitsAnswer turn.answer
  pub rest : List (List ℕ)
  pub plain : NoEntry rest
  pub right : IsAnswerRight a event turn.answer (map entry_text turn.logged ++ rest)
  pub logs : LogsTo sheet (after_answer a event turn.answer) turn.logged next

-- the bytes of a process are shown
pub record ShownBy (sheet : Sheet) (a : Account) (p : ProcessId) (run : Run) (stamp bytes : List ℕ) (next : Account) : Type 0 where
  pub can : IsStampOf sheet.script.shape (λ d. length (changes_at a d)) p stamp
  pub bytes_are : bytes ≡ shown_at sheet.script.shape (λ d n. space_behind sheet.script.shape (take n (changes_at a d))) p run stamp
  pub next_is : next ≡ with_shown a

-- the places are told
pub record PlacedBy (sheet : Sheet) (a : Account) (runs : List (List (Option Run))) (next : Account) : Type 0 where
  pub runs_are : runs ≡ runs_of a 0 sheet.script.shape.k
  pub clear : (d : ℕ) → d < sheet.script.shape.k → AreClear sheet.script.shape [] (changes_at a d)
  pub next_is : next ≡ a

abbrev pub StepTold : Sheet → Account → Step → ToldStep → Account → Type 0
StepTold sheet a (Make event) (Made turn) next = MadeBy sheet a event turn next
StepTold sheet a Deliveries (Drained turns n) next = (entries : List Entry) × (turns ≡ delivered entries ∷ []) × (n < 2 ^ 64) × LogsTo sheet a entries next
StepTold sheet a (Look p run) (Shown stamp bytes) next = ShownBy sheet a p run stamp bytes next
StepTold sheet a (Look p run) Lost next = next ≡ a
StepTold sheet a (Look p run) Down next = next ≡ a
StepTold sheet a Placing (Placed runs) next = PlacedBy sheet a runs next
StepTold sheet a _ _ next = ⊥

-- so it is with all steps
abbrev pub Course : Sheet → Account → List Step → List ToldStep → Account → Type 0
Course sheet a [] [] final = a ≡ final
Course sheet a (step ∷ steps) (told ∷ more) final = (next : Account) × StepTold sheet a step told next × Course sheet next steps more final
Course sheet a [] (told ∷ more) final = ⊥
Course sheet a (step ∷ steps) [] final = ⊥

pub record Coursed (sheet : Sheet) (a : Account) (steps : List Step) (lines : List (List ℕ)) : Type 0 where
  pub told : List ToldStep
  pub final : Account
  pub text : lines ≡ lines_told told
  pub course : Course sheet a steps told final

-- no entry's lines change how many places were told
placed-logs : (sheet : Sheet) (es : List Entry) (a b : Account) → LogsTo sheet a es b → a.placed ≡ 0 → b.placed ≡ 0
placed-logs sheet [] a b same none = rw (sym same) none
placed-logs sheet (e ∷ es) a b (run, tells, logs) none = placed-logs sheet es _ b logs none

placed-answer : (a : Account) (event : Event) (answer : Answer) → a.placed ≡ 0 → (after_answer a event answer).placed ≡ 0
placed-answer a (happens.Ask caller op p) answer none = none
placed-answer a e answer none = none

abbrev Onward : Sheet → List Step → Type 0
Onward sheet steps = (a : Account) (logging : Bool) (lines : List (List ℕ)) (final : Account) → a.placed ≡ 0
    → (logging ≡ true → NoEntry lines) → PassAll sheet (state a steps logging) lines final → Coursed sheet a steps lines

-- lines of the log come where they belong to what was before, or for deliveries
plain-here : (sheet : Sheet) (a : Account) (step : Step) (steps : List Step) (logging : Bool) (lines : List (List ℕ))
    (final : Account) → step ≢ Deliveries → (logging ≡ true → NoEntry lines)
    → PassAll sheet (state a (step ∷ steps) logging) lines final → NoEntry lines
plain-here sheet a step steps true lines final other plain passes = plain refl
plain-here sheet a step steps false lines final other plain passes = no_entry sheet (state a (step ∷ steps) false) lines
    final (λ may. elim may [ inl log ↦ cc log | inr more ↦ other (let e = more.1 in cc e) ]) passes

made : (sheet : Sheet) (event : Event) (steps : List Step) → Onward sheet steps → Onward sheet (Make event ∷ steps)
made sheet event steps onward a logging lines final none plain passes =
    let t = turned sheet a (Make event) steps logging lines final (plain-here sheet a (Make event) steps logging lines final (λ e. cc e) plain passes) passes in
    let answer = t.passes.0 in
    let answers = t.passes.1 in
    let next : Account = after_answer a event answer in
    let more = subst (λ (n : JudgingState). PassAll sheet n t.rest final) t.passes.2 t.onward in
    let logs = logs_ahead sheet t.rest (state next steps true) final (inl refl) more in
    let course = onward logs.account true logs.rest final
    (placed-logs sheet logs.entries next logs.account logs.logs (placed-answer a event answer none))
    (λ log. logs.plain) logs.passes in
    let turn : Turn = record { event = event; answer = answer; logged = logs.entries } in
    let lines_are = t.lines_are in
    let line_is = answers.text in
    let rest_is = logs.text in
    let told_is = course.text in
    record {
      told = Made turn ∷ course.told;
      final = course.final;
      text = cc (lines_are, line_is, rest_is, told_is);
      course = (
        logs.account,
        record {
          event_is = refl;
          can = answers.can;
          fits = answers.fits;
          rest = logs.rest;
          plain = logs.plain;
          right = rw rest_is at answers.right;
          logs = logs.logs;
        },
        course.course,
      );
    }

deliveries : (sheet : Sheet) (steps : List Step) → Onward sheet steps → Onward sheet (Deliveries ∷ steps)
deliveries sheet steps onward a logging lines final none plain passes =
    let logs = logs_ahead sheet lines (state a (Deliveries ∷ steps) logging) final (inr (steps, refl)) passes in
    let t = turned sheet logs.account Deliveries steps logging logs.rest final logs.plain logs.passes in
    let n = t.passes.0 in
    let line_is = t.passes.2 in
    let more = subst (λ (s : JudgingState). PassAll sheet s t.rest final) t.passes.3 t.onward in
    let course = onward logs.account false t.rest final (placed-logs sheet logs.entries a logs.account logs.logs none) (λ log. cc log) more in
    let text = logs.text in
    let rest_is = t.lines_are in
    let told_is = course.text in
    let entries : List Entry = logs.entries in
    let log_is : log_of (delivered entries ∷ []) ≡ entries = append-nil entries in
    record {
      told = Drained (delivered entries ∷ []) n ∷ course.told;
      final = course.final;
      text = text ∙ rw log_is (let tail : logs.rest ≡ drained_line n ∷ lines_told course.told = cc
          (rest_is, line_is, told_is) in ap (λ (x : List (List ℕ)). map entry_text entries ++ x) tail
          ∙ sym (append_assoc (map entry_text entries) (drained_line n ∷ []) (lines_told course.told)));
      course = (logs.account, (entries, refl, t.passes.1, logs.logs), course.course);
    }

look : (sheet : Sheet) (p : ProcessId) (run : Run) (steps : List Step) → Onward sheet steps → Onward sheet (Look p run ∷ steps)
look sheet p run steps onward a logging lines final none plain passes = by t.passes
  where
    t : Turned sheet a (Look p run) steps lines final
    t = turned sheet a (Look p run) steps logging lines final (plain-here sheet a (Look p run) steps logging lines final (λ e. cc e) plain passes) passes

    by : PassesStep sheet a (Look p run ∷ steps) t.line t.rest t.next → Coursed sheet a (Look p run ∷ steps) lines
    by (inl (bytes, next)) =
        let course = onward (with_shown a) false t.rest final none (λ log. cc log) (subst (λ (s : JudgingState). PassAll sheet s t.rest final) next t.onward) in
        let lines_are = t.lines_are in
        let line_is = bytes.text in
        let told_is = course.text in
        record {
          told = Shown bytes.stamp
              (shown_at sheet.script.shape (λ d n. space_behind sheet.script.shape (take n (changes_at a d))) p run
              bytes.stamp) ∷ course.told;
          final = course.final;
          text = cc (lines_are, line_is, told_is);
          course = (with_shown a, record { can = bytes.can; bytes_are = refl; next_is = refl }, course.course);
        }
    by (inr (inl lost, next)) =
        let course = onward a false t.rest final none (λ log. cc log) (subst (λ (s : JudgingState). PassAll sheet s t.rest final) next t.onward) in
        let lines_are = t.lines_are in
        let told_is = course.text in
        record { told = Lost ∷ course.told; final = course.final; text = cc (lines_are, lost, told_is); course = (a, refl, course.course) }
    by (inr (inr down, next)) =
        let course = onward a false t.rest final none (λ log. cc log) (subst (λ (s : JudgingState). PassAll sheet s t.rest final) next t.onward) in
        let lines_are = t.lines_are in
        let told_is = course.text in
        record { told = Down ∷ course.told; final = course.final; text = cc (lines_are, down, told_is); course = (a, refl, course.course) }

-- behind the last step there is no line
ended : (sheet : Sheet) (a : Account) (lines : List (List ℕ)) (final : Account) → PassAll sheet (on_to a []) lines final → lines ≡ []
ended sheet a [] final passes = refl
ended sheet a (line ∷ lines) final (next, first, passes) = by (begins_entry line) first
  where
    by : (b : Bool) → PassesBy b sheet (on_to a []) line lines next → line ∷ lines ≡ []
    by false first = absurd first
    by true first = absurd (elim first.0 [ inl log ↦ cc log | inr more ↦ let e = more.1 in cc e ])

placing : (sheet : Sheet) (steps : List Step) → steps ≡ [] → Onward sheet (Placing ∷ steps)
placing sheet [] last a logging lines final none plain passes =
    let dues : List DuePlace = dues_from a 0 sheet.script.shape.k in
    let places = places_ahead sheet dues a [] logging lines final
    (plain-here sheet a Placing [] logging lines final (λ e. cc e) plain passes) (rw none refl) passes in
    let over = ended sheet places.account places.rest final places.passes in
    let all = all_lined sheet.script.shape a 0 sheet.script.shape.k places.places places.told in
    let runs : List (List (Option Run)) = runs_of a 0 sheet.script.shape.k in
    let many : a.placed + length dues ≡ count_placed runs = (let c = all.count in omega (arith, none, c)) in
    let text = places.text in
    let lines_are = all.lines in
    record {
      told = Placed runs ∷ [];
      final = a;
      text = text ∙ cc (lines_are, many, over) ∙ sym (append-nil (place_lines 0 runs ++ placed_line (count_placed runs) ∷ []));
      course = (a, record { runs_are = refl; clear = λ d below. all.clear d (omega arith) (omega (arith, below)); next_is = refl }, refl);
    }
placing sheet (step ∷ steps) last a logging lines final none plain passes = absurd (cc last)

pub course_of : (sheet : Sheet) (steps : List Step) → EndsPlacing steps → Onward sheet steps
course_of sheet [] ends = absurd ends
course_of sheet (Make event ∷ steps) ends = made sheet event steps (course_of sheet steps ends)
course_of sheet (Deliveries ∷ steps) ends = deliveries sheet steps (course_of sheet steps ends)
course_of sheet (Look p run ∷ steps) ends = look sheet p run steps (course_of sheet steps ends)
course_of sheet (Placing ∷ steps) ends = placing sheet steps ends

-- what is told can be told for the steps
tells-step : (sheet : Sheet) (a : Account) (step : Step) (told : ToldStep) (next : Account) → StepTold sheet a step told next → CanBeTold step told
tells-step sheet a (Make event) (Made turn) next by = (by.event_is, by.can, by.fits)
tells-step sheet a Deliveries (Drained turns n) next (entries, same, fits, logs) = (
  subst (λ (ts : List Turn). All (λ turn. IsDelivery turn.event) ts) (sym same)
      (All-cons (λ turn. IsDelivery turn.event) (delivered entries) [] tt (All-nil (λ turn. IsDelivery turn.event))),
  fits,
)
tells-step sheet a (Look p run) (Shown stamp bytes) next by = tt
tells-step sheet a (Look p run) Lost next by = tt
tells-step sheet a (Look p run) Down next by = tt
tells-step sheet a Placing (Placed runs) next by = tt
tells-step sheet a asked told next by = absurd by

pub tells_all : (sheet : Sheet) (a : Account) (steps : List Step) (told : List ToldStep) (final : Account) → Course sheet a steps told final
    → TellAll steps told
tells_all sheet a [] [] final course = tt
tells_all sheet a [] (told ∷ more) final course = absurd course
tells_all sheet a (step ∷ steps) [] final course = absurd course
tells_all sheet a (step ∷ steps) (told ∷ more) final (next, by, course) = (tells-step sheet a step told next by, tells_all sheet next steps more final course)
