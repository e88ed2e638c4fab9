-- All lines of a checked transcript pass, step by step.
use Rattle.std.proofs.Common.{inl, inr, ◌≡◌, ◌<◌, ◌≤◌, ◌+◌, ◌^◌, ℕ, suc, Bool, true, false, List, [], ◌∷◌, ◌++◌, ◌∙◌}
use Rattle.std.proofs.Common.{map, take, drop, length, Option, append_assoc, refl, sym, ap, subst, arith}
use Rattle.std.proofs.lemmas.List.{append-nil, length-append}
use Rattle.std.proofs.lemmas.List.Elements.{All-cons, All-head, All-nil, All-tail}
use Rattle.std.specs.List.{range_with_len}
use Rattle.std.specs.Prelude.{All}
use Rattle.group_types.specs.Dimensions.{Dimensions}
use Rattle.group_types.specs.Lists.{at}
use Rattle.group_types.specs.Names.{IsProcess}
use Rattle.group_types.specs.declared.process.ProcessId.{ProcessId}
use Rattle.group_types.specs.declared.process.ProcessId.TheVariants.{DataNode, ParityNode}
use Rattle.group_types.specs.declared.run.Run.{Run}
use Rattle.memc_table.specs.Contents.{Contents, empty_table, table_after}
use Rattle.group_calls.specs.Turns.{Turn, log_of}
use Rattle.group_calls.specs.declared.entry.Entry.{Entry}
use Rattle.group_calls.specs.declared.event.Answer.{Answer}
use Rattle.group_calls.specs.declared.event.Answer.TheVariants as answered
use Rattle.group_calls.specs.declared.event.Cause.TheVariants.{Pending, Block}
use Rattle.group_calls.specs.declared.event.Event.{Event}
use Rattle.group_calls.specs.declared.event.Event.TheVariants as happens
use Rattle.group_run.specs.Meaning.{Logged, is_update_of, runs_left, updates_from}
use Rattle.group_run.specs.World.{front_if}
use Rattle.group_run.specs.Causes.{IsDelivery}
use Rattle.scenario_text.specs.Texts.{answer_text, entry_text, shown_text}
use Rattle.transcript_text.specs.Forms.{FitsAnswer, MayAnswer, kind_of_event}
use Rattle.transcript_text.specs.Texts.{FitsNumber}
use Rattle.run_verify.specs.Changes.{space_behind}
use Rattle.run_verify.specs.Checked.{AreWellShown, IsWellShown}
use Rattle.run_verify.specs.Passing.{Account, JudgingState, PassAll, PassesBy, TellsAnswer, TellsBytes, after_answer, begins_entry}
use Rattle.run_verify.specs.Passing.{changes_at, dues_from, on_to, with_shown}
use Rattle.run_verify.specs.Plain.{EndsPlacing, FitSteps}
use Rattle.run_verify.specs.Sheet.{Sheet}
use Rattle.run_verify.specs.Told.{Made, Drained, Shown, Lost, Down, Placed}
use Rattle.run_verify.specs.Told.{TellAll, ToldStep, count_placed, drained_line, lines_told, place_lines, placed_line, runs_told, turns_told}
use Rattle.run_verify.specs.Updates.{IsStampOf, StandRight, space_after_updates, updates_by}
use Rattle.run_verify.specs.declared.step.Step.{Step}
use Rattle.run_verify.specs.declared.step.Step.TheVariants.{Make, Deliveries, Look, Placing}
use Rattle.run_verify.proofs.ExactEntries.{Checks, Now}
use Rattle.run_verify.proofs.ExactPlaces.{all_clear, made_of, places_pass, told_all}
use Rattle.run_verify.proofs.ExactTurns.{LogsGo, answer_right, fits-go, go-append, logs-pass, logs_go, now_answered}
use Rattle.run_verify.proofs.ImpliedChanges.{length-same, runs-same, spaces-same}
use Rattle.run_verify.proofs.ImpliedCourse.{state}
use Rattle.run_verify.proofs.ImpliedHeads.{heads_of}
use Rattle.run_verify.proofs.ImpliedPlaces.{AreClear, all_lined, runs_for, runs_of}
use Rattle.run_verify.proofs.ImpliedShown.{shown-same, stamp-same}
use Rattle.run_verify.proofs.ImpliedTurn.{log-push}
use Rattle.run_verify.proofs.ImpliedShadow.{log-append}
use Rattle.run_verify.proofs.ExactUpdates.{drop-none}

answer-begins : (answer : Answer) → begins_entry (answer_text answer) ≡ false
answer-begins (answered.Reply reply) = refl
answer-begins (answered.Retry (Pending d n)) = refl
answer-begins (answered.Retry (Block b)) = refl
answer-begins answer = refl

-- a delivery leaves the account
delivery-same : (a : Account) (event : Event) (answer : Answer) → IsDelivery event → after_answer a event answer ≡ a
delivery-same a (happens.Deliver from to) answer is = refl
delivery-same a e answer is = absurd is

-- a log has no more updates than entries
pub updates-few : (k d : ℕ) (es : List Entry) (t : Contents) (runs : List (Option Run)) → length (updates_from k d t runs es) ≤ length es
updates-few k d [] t runs = omega arith
updates-few k d (e ∷ es) t runs = by (is_update_of k d e) _ (λ r. updates-few k d es (table_after t e.op) r)
  where
    by : (b : Bool) (u : Logged)
        → ((r : List (Option Run)) → length (updates_from k d (table_after t e.op) r es) ≤ length es)
        → length (front_if b u (updates_from k d (table_after t e.op) (runs_left b runs) es)) ≤ suc (length es)
    by true u onward = let few = onward (drop 1 runs) in omega (arith, few)
    by false u onward = let few = onward runs in omega (arith, few)

-- ---- stamps

all-at : (xs : List ℕ) → ((i : ℕ) → i < length xs → at 0 xs i < 2 ^ 64) → All FitsNumber xs
all-at [] each = All-nil FitsNumber
all-at (x ∷ xs) each = All-cons FitsNumber x xs (each 0 (omega arith)) (all-at xs (λ i below. each (suc i) (omega (arith, below))))

stamp-fits : (s : Dimensions) (counts : ℕ → ℕ) (p : ProcessId) (stamp : List ℕ)
    → ((d : ℕ) → d < s.k → counts d < 2 ^ 64) → IsProcess s p → IsStampOf s counts p stamp → All FitsNumber stamp
stamp-fits s counts (DataNode d) stamp few within (n, is, below) =
    subst (All FitsNumber) (sym is) (All-cons FitsNumber n [] (let f = few d within in omega (arith, below, f)) (All-nil FitsNumber))
stamp-fits s counts (ParityNode i) stamp few within (long, below) =
    all-at stamp (λ d small. let inside : d < s.k = omega (arith, small, long) in let f = few d inside in let b = below d inside in omega (arith, f, b))

module _ (sheet : Sheet) (turns : List Turn) (runs : List (List (Option Run))) (c : Checks sheet turns runs) where
  abbrev s : Dimensions
  s = sheet.script.shape

  abbrev NowFor : Account → List Turn → Type 0
  NowFor a before = Now sheet runs a (heads_of 0 before) (log_of before)

  -- a turn's entries pass, behind its answer
  turn-goes : (before : List Turn) (t : Turn) (after : List Turn) (a : Account) → turns ≡ before ++ t ∷ after
      → NowFor a before → (b : Account) × LogsGo sheet (after_answer a t.event t.answer) t.logged b
      × NowFor b (before ++ t ∷ [])
  turn-goes before t after a is now =
      let go = logs_go sheet turns runs c before t after is t.logged [] (after_answer a t.event t.answer) refl
      (now_answered sheet turns runs c before t after is a now) in
      (go.0, go.1, subst (λ (es : List Entry). Now sheet runs go.0 (heads_of 0 (before ++ t ∷ [])) es) (sym (log-push before t)) go.2)

  -- so do those of deliveries
  drained-go : (ts before after : List Turn) (a : Account) → turns ≡ before ++ (ts ++ after)
      → All (λ turn. IsDelivery turn.event) ts → NowFor a before → (b : Account) × LogsGo sheet a (log_of ts) b
      × NowFor b (before ++ ts)
  drained-go [] before after a is all now = (a, refl, subst (NowFor a) (sym (append-nil before)) now)
  drained-go (t ∷ ts) before after a is all now =
      let one = turn-goes before t (ts ++ after) a is now in
      let rest = drained-go ts (before ++ t ∷ []) after one.0 (is ∙ sym (append_assoc before (t ∷ []) (ts ++ after)))
      (All-tail (λ turn. IsDelivery turn.event) t ts all) one.2 in
      let same = delivery-same a t.event t.answer (All-head (λ turn. IsDelivery turn.event) t ts all) in (
        rest.0,
        go-append sheet t.logged (log_of ts) a one.0 rest.0
            (subst (λ (x : Account). LogsGo sheet x t.logged one.0) same one.1) rest.1,
        subst (NowFor rest.0) (append_assoc before (t ∷ []) ts) rest.2,
      )

  log-few : (before after : List Turn) → turns ≡ before ++ after → length (log_of before) < 2 ^ 64
  log-few before after is = let few = c.short in let many = ap (λ (ts : List Turn). length (log_of ts)) is
      ∙ ap length (log-append before after) in omega (arith, few, many, length-append (log_of before) (log_of after))

  shows : (before after : List Turn) (a : Account) (p : ProcessId) (run : Run) (stamp bytes : List ℕ) → turns ≡ before
      ++ after → NowFor a before → IsProcess s p → IsWellShown s runs (log_of before) (Look p run) (Shown stamp bytes)
      → TellsBytes s a p run (shown_text stamp bytes)
  shows before after a p run stamp bytes is now within (can, bytes_are) =
      let counts : (d : ℕ) → d < s.k → length (updates_by s runs (log_of before) d) ≡ length (changes_at a d) =
      λ d below. sym (length-same (changes_at a d) (updates_by s runs (log_of before) d) (now.changes d below)) in
      let spaces : (d n : ℕ) → d < s.k → space_after_updates s (updates_by s runs (log_of before) d) n
      ≡ space_behind s (take n (changes_at a d)) =
      λ d n below. sym (spaces-same s (changes_at a d) (updates_by s runs (log_of before) d) n
      (now.changes d below)) in
      let few = log-few before after is in
      record {
        stamp = stamp;
        can = stamp-same s (λ d. length (updates_by s runs (log_of before) d)) (λ d. length (changes_at a d)) p stamp counts within can;
        fits = stamp-fits s (λ d. length (updates_by s runs (log_of before) d)) p stamp
            (λ d below. let most = updates-few s.k d (log_of before) (empty_table s.k) (at [] runs d) in
            omega (arith, most, few)) within can;
        text = ap (shown_text stamp)
            (bytes_are ∙ shown-same s (λ d n. space_after_updates s (updates_by s runs (log_of before) d) n)
            (λ d n. space_behind s (take n (changes_at a d))) (λ d. length (updates_by s runs (log_of before) d)) p run
            stamp spaces within can);
      }

  now-shown : (a : Account) (before : List Turn) → NowFor a before → NowFor (with_shown a) before
  now-shown a before now = record {
    stands = record {
      many = now.stands.many;
      starts = now.stands.starts;
      asked = now.stands.asked;
      called = λ j h name op ask. let k = now.stands.called j h name op ask in
          record { call = k.call; is = k.is; op_is = k.op_is; taken = k.taken };
      logged = now.stands.logged;
      once =
          now.stands.once;
    };
    table = now.table;
    changes = now.changes;
    fits = now.fits;
    placed = now.placed;
  }

  -- the places, behind all turns
  places-end : (told_runs : List (List (Option Run))) (before : List Turn) (a : Account) (logging : Bool) → turns ≡ before → runs ≡ told_runs → NowFor a before
      → (final : Account) × PassAll sheet (state a (Placing ∷ []) logging) (place_lines 0 told_runs ++ placed_line (count_placed told_runs) ∷ []) final
  places-end told_runs before a logging is runs_are now =
      let log_is : log_of before ≡ log_of turns = ap log_of (sym is) in
      let clear : (p : ℕ) → p < s.k → AreClear s [] (changes_at a p) = λ p below.
      all_clear s [] [] (changes_at a p) (updates_by s runs (log_of before) p) tt (now.changes p below)
      (subst (λ (es : List Entry). StandRight s [] (updates_by s runs es p)) (sym log_is)
      (c.placed.right p below)) in
      let each : (p : ℕ) → p < length runs → at [] runs p ≡ runs_for (changes_at a (0 + p)) = λ p inside.
      (let many = c.placed.partitions in
      let below : p < s.k = omega (arith, inside, many) in
      let zero_first : p ≡ 0 + p = omega arith in
      sym (c.placed.numbers p below) ∙ ap (λ (es : List Entry). map (λ u. u.run) (updates_by s runs es p)) (sym log_is)
      ∙ runs-same (changes_at a p) (updates_by s runs (log_of before) p) (now.changes p below)
      ∙ ap (λ (q : ℕ). runs_for (changes_at a q)) zero_first) in
      let whole : runs ≡ runs_of a 0 s.k = made_of [] runs 0 (λ p. runs_for (changes_at a p)) each
      ∙ ap (λ (n : ℕ). map (λ p. runs_for (changes_at a p)) (range_with_len 0 n)) c.placed.partitions in
      let mine : told_runs ≡ runs_of a 0 s.k = sym runs_are ∙ whole in
      let told = told_all s a 0 s.k (λ p low high. clear p (omega (arith, high))) in
      let none = now.placed in
      let passes = places_pass sheet (dues_from a 0 s.k) a logging (place_lines 0 (runs_of a 0 s.k))
      (ap (λ (n : ℕ). drop n (dues_from a 0 s.k)) none ∙ sym (drop-none (dues_from a 0 s.k))) told in
      let lined = all_lined s a 0 s.k (place_lines 0 (runs_of a 0 s.k)) told in
      let count : a.placed + length (dues_from a 0 s.k) ≡ count_placed (runs_of a 0 s.k) = (let n = lined.count in omega (arith, none, n)) in (
        passes.0,
        subst (λ (r : List (List (Option Run))). PassAll sheet (state a (Placing ∷ []) logging)
            (place_lines 0 r ++ placed_line (count_placed r) ∷ []) passes.0) (sym mine)
            (subst (λ (n : ℕ). PassAll sheet (state a (Placing ∷ []) logging) (place_lines 0 (runs_of a 0 s.k) ++ placed_line n ∷ []) passes.0) count passes.1),
      )

  -- what is behind a step passes, wherever it begins
  abbrev Onward : List Step → List ToldStep → List Turn → Type 0
  Onward steps more before = (a : Account) (logging : Bool) → NowFor a before → (final : Account)
      × PassAll sheet (state a steps logging) (lines_told more) final

  made-passes : (event : Event) (t : Turn) (steps : List Step) (more : List ToldStep) (before : List Turn) (a : Account)
      (logging : Bool) → turns ≡ before ++ t ∷ turns_told more → t.event ≡ event → MayAnswer (kind_of_event event) t.answer
      → FitsAnswer t.answer
      → NowFor a before → Onward steps more (before ++ t ∷ []) → (final : Account)
      × PassAll sheet (state a (Make event ∷ steps) logging) (lines_told (Made t ∷ more)) final
  made-passes event t steps more before a logging is event_is may fits now onward =
      let go = turn-goes before t (turns_told more) a is now in
      let rest = onward go.0 true go.2 in
      let mine : LogsGo sheet (after_answer a event t.answer) t.logged go.0 =
      subst (λ (e : Event). LogsGo sheet (after_answer a e t.answer) t.logged go.0) event_is go.1 in
      let right = answer_right sheet turns runs c before t (turns_told more) is a now
      (fits-go sheet t.logged (after_answer a t.event t.answer) go.0 go.1) (lines_told more) event t.answer event_is
      refl may in
      let next : JudgingState = state (after_answer a event t.answer) steps true in
      let ahead : List (List ℕ) = map entry_text t.logged ++ lines_told more in
      let answers : TellsAnswer a event (answer_text t.answer) ahead t.answer = record { can = may; fits = fits; text = refl; right = right } in (
        rest.0,
        (
          next,
          subst (λ (b : Bool). PassesBy b sheet (state a (Make event ∷ steps) logging) (answer_text t.answer) ahead
              next) (sym (answer-begins t.answer)) (t.answer, answers, refl),
          logs-pass sheet t.logged next go.0 rest.0 (lines_told more) (inl refl) mine rest.1,
        ),
      )

  drained-passes : (ts : List Turn) (n : ℕ) (steps : List Step) (more : List ToldStep) (before : List Turn) (a : Account)
      (logging : Bool) → turns ≡ before ++ (ts ++ turns_told more) → All (λ turn. IsDelivery turn.event) ts → n < 2 ^ 64
      → NowFor a before → Onward steps more (before ++ ts) → (final : Account)
      × PassAll sheet (state a (Deliveries ∷ steps) logging) (lines_told (Drained ts n ∷ more)) final
  drained-passes ts n steps more before a logging is all few now onward =
      let go = drained-go ts before (turns_told more) a is all now in
      let rest = onward go.0 false go.2 in
      let behind : PassAll sheet (state go.0 (Deliveries ∷ steps) logging) (drained_line n ∷ lines_told more) rest.0 =
      (on_to go.0 steps, (n, few, refl, refl), rest.1) in (
        rest.0,
        subst (λ (ls : List (List ℕ)). PassAll sheet (state a (Deliveries ∷ steps) logging) ls rest.0)
            (sym (append_assoc (map entry_text (log_of ts)) (drained_line n ∷ []) (lines_told more)))
            (logs-pass sheet (log_of ts) (state a (Deliveries ∷ steps) logging) go.0 rest.0 (drained_line n ∷ lines_told more) (inr (steps, refl)) go.1 behind),
      )

  shown-behind : (before ts : List Turn) (steps : List Step) (more : List ToldStep)
      → AreWellShown s runs (log_of before ++ log_of ts) steps more → AreWellShown s runs (log_of (before ++ ts)) steps
      more
  shown-behind before ts steps more shown = subst (λ (es : List Entry). AreWellShown s runs es steps more) (sym (log-append before ts)) shown

  -- all lines pass
  pub steps_pass : (steps : List Step) (told : List ToldStep) (before : List Turn) → turns ≡ before ++ turns_told told
      → runs ≡ runs_told told → TellAll steps told → EndsPlacing steps → FitSteps s steps
      → AreWellShown s runs (log_of before) steps told → Onward steps told before
  steps_pass [] told before is runs_are tells ends fits shown a logging now = absurd ends
  steps_pass (step ∷ steps) [] before is runs_are tells ends fits shown a logging now = absurd tells
  steps_pass (Make event ∷ steps) (Made t ∷ more) before is runs_are ((event_is, may, fit), tells) ends (fe, fits) (here, shown) a logging now =
      made-passes event t steps more before a logging is event_is may fit now
      (steps_pass steps more (before ++ t ∷ []) (is ∙ sym (append_assoc before (t ∷ []) (turns_told more))) runs_are
      tells ends fits (shown-behind before (t ∷ []) steps more shown))
  steps_pass (Deliveries ∷ steps) (Drained ts n ∷ more) before is runs_are ((all, few), tells) ends (fe, fits) (here, shown) a logging now =
      drained-passes ts n steps more before a logging is all few now
      (steps_pass steps more (before ++ ts) (is ∙ sym (append_assoc before ts (turns_told more))) runs_are tells ends
      fits (shown-behind before ts steps more shown))
  steps_pass (Look p run ∷ steps) (Shown stamp bytes ∷ more) before is runs_are (tell, tells) ends (within, fits) (here, shown) a logging now =
      let rest = steps_pass steps more before is runs_are tells ends fits
      (subst (λ (es : List Entry). AreWellShown s runs es steps more) (append-nil (log_of before)) shown)
      (with_shown a) false (now-shown a before now) in
      (rest.0, (on_to (with_shown a) steps, inl (shows before (turns_told more) a p run stamp bytes is now within here, refl), rest.1))
  steps_pass (Look p run ∷ steps) (Lost ∷ more) before is runs_are (tell, tells) ends (within, fits) (here, shown) a logging now =
      let rest = steps_pass steps more before is runs_are tells ends fits
      (subst (λ (es : List Entry). AreWellShown s runs es steps more) (append-nil (log_of before)) shown) a false
      now in
      (rest.0, (on_to a steps, inr (inl refl, refl), rest.1))
  steps_pass (Look p run ∷ steps) (Down ∷ more) before is runs_are (tell, tells) ends (within, fits) (here, shown) a logging now =
      let rest = steps_pass steps more before is runs_are tells ends fits
      (subst (λ (es : List Entry). AreWellShown s runs es steps more) (append-nil (log_of before)) shown) a false
      now in
      (rest.0, (on_to a steps, inr (inr refl, refl), rest.1))
  steps_pass (Placing ∷ (step ∷ steps)) (told ∷ more) before is runs_are tells ends fits shown a logging now = absurd (cc ends)
  steps_pass (Placing ∷ []) (told ∷ (next ∷ more)) before is runs_are (tell, tells) ends fits shown a logging now = absurd tells
  steps_pass (Placing ∷ []) (Placed rs ∷ []) before is runs_are (tell, tells) ends fits shown a logging now =
      let end = places-end rs before a logging (is ∙ append-nil before) (runs_are ∙ append-nil rs) now in (
        end.0,
        subst (λ (ls : List (List ℕ)). PassAll sheet (state a (Placing ∷ []) logging) ls end.0)
            (sym (append-nil (place_lines 0 rs ++ placed_line (count_placed rs) ∷ []))) end.1,
      )
  steps_pass (asked ∷ steps) (told ∷ more) before is runs_are (tell, tells) ends fits shown a logging now = absurd tell
