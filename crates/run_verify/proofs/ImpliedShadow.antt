-- The updates of a log, by the changes that its account gathers.
use Rattle.std.proofs.Common.{◌≡◌, ◌≢◌, ◌==◌, ℕ, Bool, true, false, List, [], ◌∷◌, ◌++◌, ◌∙◌, Option, append_assoc, refl, sym, ap, subst, arith}
use Rattle.std.proofs.lemmas.Bool.Decides.{nat_tests}
use Rattle.std.proofs.lemmas.List.{append-nil}
use Rattle.group_types.proofs.Lists.{at-put, at-put-other}
use Rattle.group_types.specs.Hash.{home_of}
use Rattle.group_types.specs.Lists.{at}
use Rattle.group_types.specs.declared.run.Run.{Run}
use Rattle.memc_table.specs.Act.{key_of}
use Rattle.memc_table.specs.Contents.{Contents, reply_of, table_after}
use Rattle.group_calls.specs.Turns.{Turn, accepts, log_of}
use Rattle.group_calls.specs.declared.entry.Entry.{Entry}
use Rattle.group_calls.specs.declared.event.Answer.{Answer}
use Rattle.group_calls.specs.declared.event.Event.{Event}
use Rattle.group_calls.specs.declared.event.Event.TheVariants as happens
use Rattle.group_run.specs.Meaning.{is_update_of, updates_from}
use Rattle.run_verify.specs.Passing.{Account, account_after_entry, after_answer, with_change}
use Rattle.run_verify.specs.Sheet.{Sheet}
use Rattle.run_verify.specs.Told.{ToldStep, turns_told, turns_told_in}
use Rattle.run_verify.specs.Told.{Made, Drained, Shown, Lost, Down, Placed}
use Rattle.run_verify.specs.declared.change.Change.{Change}
use Rattle.run_verify.specs.declared.step.Step.{Step}
use Rattle.run_verify.specs.declared.step.Step.TheVariants.{Make, Deliveries, Look, Placing}
use Rattle.run_verify.proofs.ImpliedChanges.{MatchAll, change-matches, change_by}
use Rattle.run_verify.proofs.ImpliedCourse.{LogsTo}
use Rattle.run_verify.proofs.ImpliedPlaces.{runs_for}
use Rattle.run_verify.proofs.ImpliedSteps.{Course, StepTold}

-- entries lead from a table and changes to others
abbrev pub Shadow : ℕ → Contents → List (List Change) → List Entry → Contents → List (List Change) → Type 0
Shadow k t changes [] u after = (t ≡ u) × (changes ≡ after)
Shadow k t changes (e ∷ es) u after = (run : Option Run) × (e.reply ≡ reply_of t e.op)
    × Shadow k (table_after t e.op) (with_change (accepts e.reply) (home_of (key_of e.op.act) k) (change_by t e run) changes) es u after

pub shadow-append : (k : ℕ) (es fs : List Entry) (t : Contents) (changes : List (List Change)) (u : Contents)
    (between : List (List Change)) (v : Contents) (after : List (List Change))
    → Shadow k t changes es u between → Shadow k u between fs v after → Shadow k t changes (es ++ fs) v after
shadow-append k [] fs t changes u between v after (same, kept) second =
    subst (λ (x : Contents). Shadow k x changes fs v after) (sym same) (subst (λ (x : List (List Change)). Shadow k u x fs v after) (sym kept) second)
shadow-append k (e ∷ es) fs t changes u between v after (run, reply, rest) second = (run, reply, shadow-append k es fs _ _ u between v after rest second)

pub shadow-logs : (sheet : Sheet) (es : List Entry) (a b : Account) → LogsTo sheet a es b → Shadow sheet.script.shape.k a.table a.changes es b.table b.changes
shadow-logs sheet [] a b same = (ap (λ (c : Account). c.table) same, ap (λ (c : Account). c.changes) same)
shadow-logs sheet (e ∷ es) a b (run, tells, logs) = (run, tells.reply, shadow-logs sheet es (account_after_entry sheet a e run) b logs)

-- what a partition's changes gain by entries stands for their updates
pub record Grown (k d : ℕ) (t : Contents) (changes : List (List Change)) (es : List Entry) (after : List (List Change)) : Type 0 where
  pub more : List Change
  pub grown : at [] after d ≡ at [] changes d ++ more
  pub matches : (tail : List (Option Run)) → MatchAll more (updates_from k d t (runs_for more ++ tail) es)

pub grow : (k d : ℕ) (es : List Entry) (t : Contents) (changes : List (List Change)) (u : Contents)
    (after : List (List Change)) → Shadow k t changes es u after → Grown k d t changes es after
grow k d [] t changes u after (same, kept) =
    record {
      more = [];
      grown = sym (ap (λ (c : List (List Change)). at [] c d) kept)
          ∙ sym (append-nil (at [] changes d));
      matches = λ tail. tt;
    }
grow k d (e ∷ es) t changes u after (run, reply, rest) =
    by (accepts e.reply) refl (home_of (key_of e.op.act) k == d) refl
    (grow k d es (table_after t e.op) (with_change (accepts e.reply) (home_of (key_of e.op.act) k) (change_by t e run)
    changes) u after rest)
  where
    c : Change
    c = change_by t e run

    -- the entry is no update of this partition
    aside : is_update_of k d e ≡ false → at [] (with_change (accepts e.reply) (home_of (key_of e.op.act) k) c changes) d ≡ at [] changes d
        → Grown k d (table_after t e.op) (with_change (accepts e.reply) (home_of (key_of e.op.act) k) c changes) es after → Grown k d t changes (e ∷ es) after
    aside aside_is same g = record {
      more = g.more;
      grown = g.grown ∙ ap (λ (x : List Change). x ++ g.more) same;
      matches = λ tail. rw aside_is (g.matches tail);
    }

    by : (a : Bool) → accepts e.reply ≡ a → (b : Bool) → (home_of (key_of e.op.act) k == d) ≡ b
        → Grown k d (table_after t e.op) (with_change (accepts e.reply) (home_of (key_of e.op.act) k) c changes) es after → Grown k d t changes (e ∷ es) after
    by false refused b home g = aside (rw refused refl) (rw refused refl) g
    by true accepted false home g =
        let other : d ≢ home_of (key_of e.op.act) k = λ same. grind (arith, nat_tests, home, same) in
        aside (rw (accepted, home) refl) (rw accepted (at-put-other [] changes (home_of (key_of e.op.act) k) d _ other)) g
    by true accepted true home g =
        let here : home_of (key_of e.op.act) k ≡ d = grind (arith, nat_tests, home) in
        let yes' : is_update_of k d e ≡ true = rw (accepted, home) refl in
        let kept : at [] (with_change (accepts e.reply) (home_of (key_of e.op.act) k) c changes) d ≡ at [] changes d
        ++ c ∷ [] = rw (accepted, here) (at-put [] [] changes d (at [] changes d ++ c ∷ [])) in
        record {
          more = c ∷ g.more;
          grown = g.grown ∙ ap (λ (x : List Change). x ++ g.more) kept ∙ append_assoc (at [] changes d) (c ∷ []) g.more;
          matches = λ tail. rw yes' (change-matches t e run reply accepted, g.matches tail);
        }

-- ---- the changes of a course

table-kept : (a : Account) (event : Event) (answer : Answer) → ((after_answer a event answer).table ≡ a.table)
    × ((after_answer a event answer).changes ≡ a.changes)
table-kept a (happens.Ask caller op p) answer = (refl, refl)
table-kept a event answer = (refl, refl)

-- so do those of a step
pub shadow-step : (sheet : Sheet) (a : Account) (step : Step) (told : ToldStep) (next : Account) → StepTold sheet a step told next
    → Shadow sheet.script.shape.k a.table a.changes (log_of (turns_told_in told)) next.table next.changes
shadow-step sheet a (Make event) (Made t) next by =
    let kept = table-kept a event t.answer in
    let logs = shadow-logs sheet t.logged (after_answer a event t.answer) next by.logs in
    rw (append-nil t.logged) (subst (λ (x : Contents). Shadow sheet.script.shape.k x a.changes t.logged next.table next.changes) kept.0
    (subst (λ (x : List (List Change)). Shadow sheet.script.shape.k (after_answer a event t.answer).table x t.logged next.table next.changes) kept.1 logs))
shadow-step sheet a Deliveries (Drained turns n) next (entries, same, fits, logs) =
    subst (λ (ts : List Turn). Shadow sheet.script.shape.k a.table a.changes (log_of ts) next.table next.changes)
    (sym same) (rw (append-nil entries) (shadow-logs sheet entries a next logs))
shadow-step sheet a (Look p run) (Shown stamp bytes) next by =
    (sym (ap (λ (c : Account). c.table) by.next_is), sym (ap (λ (c : Account). c.changes) by.next_is))
shadow-step sheet a (Look p run) Lost next by = (sym (ap (λ (c : Account). c.table) by), sym (ap (λ (c : Account). c.changes) by))
shadow-step sheet a (Look p run) Down next by = (sym (ap (λ (c : Account). c.table) by), sym (ap (λ (c : Account). c.changes) by))
shadow-step sheet a Placing (Placed runs) next by = (sym (ap (λ (c : Account). c.table) by.next_is), sym (ap (λ (c : Account). c.changes) by.next_is))
shadow-step sheet a asked told next by = absurd by

pub log-append : (xs ys : List Turn) → log_of (xs ++ ys) ≡ log_of xs ++ log_of ys
log-append [] ys = refl
log-append (t ∷ xs) ys = ap (λ (es : List Entry). t.logged ++ es) (log-append xs ys) ∙ sym (append_assoc t.logged (log_of xs) (log_of ys))

pub shadow-course : (sheet : Sheet) (a : Account) (steps : List Step) (told : List ToldStep) (final : Account) → Course sheet a steps told final
    → Shadow sheet.script.shape.k a.table a.changes (log_of (turns_told told)) final.table final.changes
shadow-course sheet a [] [] final course = (ap (λ (c : Account). c.table) course, ap (λ (c : Account). c.changes) course)
shadow-course sheet a [] (told ∷ more) final course = absurd course
shadow-course sheet a (step ∷ steps) [] final course = absurd course
shadow-course sheet a (step ∷ steps) (told ∷ more) final (next, by, course) =
    rw (log-append (turns_told_in told) (turns_told more))
    (shadow-append sheet.script.shape.k (log_of (turns_told_in told)) (log_of (turns_told more)) a.table a.changes
    next.table next.changes final.table final.changes (shadow-step sheet a step told next by)
    (shadow-course sheet next steps more final course))
