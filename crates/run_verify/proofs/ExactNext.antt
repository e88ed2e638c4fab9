-- A line leads to one state alone, so that lines that all pass have none that fails.
use Rattle.std.proofs.Common.{◌≡◌, inl, inr, ◌<◌, ◌≤◌, ◌+◌, ◌^◌, ◌==◌, ℕ, zero, suc, Bool, true, false, List, [], ◌∷◌}
use Rattle.std.proofs.Common.{◌++◌, ◌∙◌, length, drop, codes, Option, Some, None, if◌then◌else◌, refl, sym, ap, subst}
use Rattle.std.proofs.Common.{arith}
use Rattle.std.proofs.lemmas.Bool.{cases_eq}
use Rattle.std.proofs.lemmas.List.{length-append}
use Rattle.group_types.proofs.Lists.{at-put, at-put-other, at-replicate}
use Rattle.group_types.specs.Lists.{at}
use Rattle.group_types.specs.Shape.{IsShape}
use Rattle.group_types.specs.declared.run.Run.{Run}
use Rattle.memc_table.specs.Act.{key_of}
use Rattle.memc_table.specs.Asked.{Asked}
use Rattle.memc_table.specs.Contents.{reply_of, table_after}
use Rattle.memc_table.specs.declared.act.Act.{Act}
use Rattle.memc_table.specs.declared.act.Act.TheVariants.{Get, Set, Add, Replace, Cas, Delete, Touch, Append, Prepend, Incr, Decr}
use Rattle.group_calls.specs.Turns.{CallName, accepts}
use Rattle.group_calls.specs.declared.entry.Entry.{Entry}
use Rattle.group_calls.specs.declared.event.Answer.{Answer}
use Rattle.group_calls.specs.declared.event.Answer.TheVariants as answered
use Rattle.group_calls.specs.declared.event.Cause.TheVariants.{Pending, Block}
use Rattle.group_calls.specs.declared.event.Event.{Event}
use Rattle.group_calls.specs.declared.event.Event.TheVariants as happens
use Rattle.scenario_text.specs.Texts.{answer_text}
use Rattle.transcript_text.proofs.Entries.{FitsEntry, entry-line, entry-names}
use Rattle.run_verify.specs.Passing.{Account, DuePlace, FailsAt, IsToldFor, IsToldRun, PassAll, Passes, PassesBy}
use Rattle.run_verify.specs.Passing.{JudgingState, LineTellsEntry, PassesEntry, PassesPlace, PassesStep, account_after_entry, after_event}
use Rattle.run_verify.specs.Passing.{begins_entry, call_named, change_of, changes_at, dues_from, effect_of, first_account}
use Rattle.run_verify.specs.Passing.{entry_partition, takes_effect, value_in, with_account, with_change}
use Rattle.run_verify.specs.Sheet.{Sheet}
use Rattle.run_verify.specs.declared.call.Call.{Call}
use Rattle.run_verify.specs.declared.change.Change.{Change}
use Rattle.run_verify.specs.declared.change.Effect.TheVariants.{Writes}
use Rattle.run_verify.specs.declared.step.Step.{Step}
use Rattle.run_verify.specs.declared.step.Step.TheVariants.{Make, Deliveries, Look, Placing}
use Rattle.run_verify.proofs.ExactOnce.{found_once}
use Rattle.run_verify.proofs.ImpliedAccount.{call_with}
use Rattle.run_verify.proofs.ImpliedStands.{some_same}
use Rattle.run_verify.proofs.Logging.{home-in}

-- no partition has more changes than this
abbrev pub AreFew : ℕ → List (List Change) → Type 0
AreFew m changes = (d : ℕ) → length (at [] changes d) ≤ m

-- ---- answers

-- whether the text of an answer is that of a call which takes effect, or may
abbrev taken_by : List ℕ → Bool
taken_by (a ∷ b ∷ c ∷ more) = if a == 116 then true else (if a == 114 then c == 112 else false)
taken_by xs = false

taken-text : (answer : Answer) → taken_by (answer_text answer) ≡ takes_effect answer
taken-text (answered.Reply reply) = refl
taken-text (answered.Retry (Pending d n)) = refl
taken-text (answered.Retry (Block b)) = refl
taken-text answer = refl

-- ---- entries

effect-once : (sheet : Sheet) (d n : ℕ) (act : Act) (value : List ℕ) (run other : Option Run) → IsShape sheet.script.shape → d < 2 ^ 64 → n < 2 ^ 64
    → IsToldFor sheet d n (effect_of act value run) run → IsToldFor sheet d n (effect_of act value other) other
    → effect_of act value run ≡ effect_of act value other
effect-once sheet d n act value run other shape fd fn = by act
  where
    written : IsToldFor sheet d n (Writes value run) run → IsToldFor sheet d n (Writes value other) other → Writes value run ≡ Writes value other
    written told also = let small = shape.blocks.1 in
        ap (Writes value) (found_once sheet.lines sheet.script.shape d n (length value) run other (omega (arith, small))
        fd fn told also)

    by : (act : Act) → IsToldFor sheet d n (effect_of act value run) run
        → IsToldFor sheet d n (effect_of act value other) other → effect_of act value run ≡ effect_of act value other
    by (Get key) told also = written told also
    by (Set key flags expiry v) told also = written told also
    by (Add key flags expiry v) told also = written told also
    by (Replace key flags expiry v) told also = written told also
    by (Cas key flags expiry cas v) told also = written told also
    by (Delete key) told also = refl
    by (Touch key expiry) told also = refl
    by (Append key v) told also = written told also
    by (Prepend key v) told also = written told also
    by (Incr key n) told also = written told also
    by (Decr key n) told also = written told also

-- the account with other changes
abbrev changed : Sheet → Account → Entry → List (List Change) → Account
changed sheet a e changes = record {
  calls = (account_after_entry sheet a e None).calls;
  table = table_after a.table e.op;
  changes = changes;
  entries = a.entries + 1;
  placed = a.placed;
  shown = a.shown;
}

after-once : (sheet : Sheet) (a : Account) (e : Entry) (run other : Option Run) (m : ℕ) → IsShape sheet.script.shape → AreFew m a.changes → m + 1 < 2 ^ 64
    → IsToldRun (accepts e.reply) sheet a e run → IsToldRun (accepts e.reply) sheet a e other
    → account_after_entry sheet a e run ≡ account_after_entry sheet a e other
after-once sheet a e run other m shape few small told also = by (accepts e.reply) refl told also
  where
    d : ℕ
    d = entry_partition sheet e

    low : d < 2 ^ 64
    low = let some = shape.k.0 in let most = shape.k.1 in let home = home-in (key_of e.op.act) sheet.script.shape.k some in omega (arith, home, most)

    by : (b : Bool) → accepts e.reply ≡ b → IsToldRun b sheet a e run → IsToldRun b sheet a e other
        → account_after_entry sheet a e run ≡ account_after_entry sheet a e other
    by false refused told also =
        ap (changed sheet a e) (ap (λ (b : Bool). with_change b d (change_of a e run) a.changes) refused
        ∙ sym (ap (λ (b : Bool). with_change b d (change_of a e other) a.changes) refused))
    by true accepted told also =
        let here = few d in
        let value : List ℕ = value_in ((table_after a.table e.op).items (key_of e.op.act)) in
        let effects = effect-once sheet d (length (changes_at a d) + 1) e.op.act value run other shape low (omega (arith, here, small)) told also in
        let both : change_of a e run ≡ change_of a e other = ap (λ (x : _). record { key = key_of e.op.act; effect = x }) effects in
        ap (changed sheet a e) (ap (λ (c : Change). with_change (accepts e.reply) d c a.changes) both)

-- a line tells one entry
entry-once : (a : Account) (line : List ℕ) (e f : Entry) → LineTellsEntry a line e → LineTellsEntry a line f → e ≡ f
entry-once a line e f tells also =
    let fits : FitsEntry e = record { caller = tells.named.0; call = tells.named.1; reply = tells.fits } in
    let names = entry-names e f.caller f.call _ fits also.named.0 also.named.1 (sym tells.text ∙ also.text ∙ entry-line f) in
    let caller = names.0 in
    let call = names.1 in
    let name : record { caller = e.caller; call = e.call } ≡ record { caller = f.caller; call = f.call } = cc (caller, call) in
    let calls : Some (call_with e None) ≡ Some (call_with f None) = sym tells.call ∙ ap (λ (n : CallName). call_named a n) name ∙ also.call in
    let op : e.op ≡ f.op = ap (λ (c : Call). c.op) (some_same (call_with e None) (call_with f None) calls) in
    let reply : e.reply ≡ f.reply = tells.reply ∙ ap (λ (o : Asked). reply_of a.table o) op ∙ sym also.reply in
    let eq : record { caller = e.caller; call = e.call; op = e.op; reply = e.reply }
    ≡ record { caller = f.caller; call = f.call; op = f.op; reply = f.reply } = cc (caller, call, op, reply) in
    eq

logged-once : (sheet : Sheet) (s : JudgingState) (m : ℕ) (line : List ℕ) (one other : JudgingState) → IsShape sheet.script.shape → AreFew m s.account.changes
    → m + 1 < 2 ^ 64
    → PassesEntry sheet s line one → PassesEntry sheet s line other → one ≡ other
logged-once sheet s m line one other shape few small (may, e, run, tells, told, is) (may', f, run', tells', told', is') =
    let same : f ≡ e = entry-once s.account line f e tells' tells in
    let also = subst (λ (x : Entry). IsToldRun (accepts x.reply) sheet s.account x run') same told' in
    is ∙ ap (with_account s) (after-once sheet s.account e run run' m shape few small told also)
    ∙ sym (is' ∙ ap (λ (x : Entry). with_account s (account_after_entry sheet s.account x run')) same)

-- ---- other lines

place-once : (sheet : Sheet) (a : Account) (steps : List Step) (dues : List DuePlace) (line : List ℕ) (one other : JudgingState)
    → PassesPlace sheet a steps dues line one → PassesPlace sheet a steps dues line other → one ≡ other
place-once sheet a steps [] line one other (text, is) (text', is') = is ∙ sym is'
place-once sheet a steps (due ∷ dues) line one other (tells, is) (tells', is') = is ∙ sym is'

-- a line that shows bytes is no other one
shows-not : (line : List ℕ) (more : List ℕ) (word : List ℕ) → line ≡ 115 ∷ more → line ≡ word → (at 0 word 0 == 115) ≡ false → ⊥
shows-not line more word shows is other = let yes' : true ≡ (at 0 word 0 == 115) = ap (λ (t : List ℕ). at 0 t 0 == 115) (sym shows ∙ is) in cc (yes' ∙ other)

step-once : (sheet : Sheet) (a : Account) (steps : List Step) (line : List ℕ) (ahead : List (List ℕ))
    (one other : JudgingState) → PassesStep sheet a steps line ahead one → PassesStep sheet a steps line ahead other
    → one ≡ other
step-once sheet a [] line ahead one other first second = absurd first
step-once sheet a (Make event ∷ steps) line ahead one other (answer, ans, is) (answer', ans', is') =
    let taken : takes_effect answer ≡ takes_effect answer' = sym (taken-text answer) ∙ ap taken_by (sym ans.text ∙ ans'.text) ∙ taken-text answer' in
    is ∙ ap (λ (b : Bool). record { account = after_event a event b; steps = steps; logging = true }) taken ∙ sym is'
step-once sheet a (Deliveries ∷ steps) line ahead one other (n, fits, text, is) (n', fits', text', is') = is ∙ sym is'
step-once sheet a (Look p run ∷ steps) line ahead one other (inl (bytes, is)) (inl (bytes', is')) = is ∙ sym is'
step-once sheet a (Look p run ∷ steps) line ahead one other (inl (bytes, is)) (inr (inl lost, is')) =
    absurd (shows-not line _ (codes "lost") bytes.text lost refl)
step-once sheet a (Look p run ∷ steps) line ahead one other (inl (bytes, is)) (inr (inr down, is')) =
    absurd (shows-not line _ (codes "down") bytes.text down refl)
step-once sheet a (Look p run ∷ steps) line ahead one other (inr (inl lost, is)) (inl (bytes, is')) =
    absurd (shows-not line _ (codes "lost") bytes.text lost refl)
step-once sheet a (Look p run ∷ steps) line ahead one other (inr (inr down, is)) (inl (bytes, is')) =
    absurd (shows-not line _ (codes "down") bytes.text down refl)
step-once sheet a (Look p run ∷ steps) line ahead one other (inr (word, is)) (inr (word', is')) = is ∙ sym is'
step-once sheet a (Placing ∷ steps) line ahead one other first second =
    place-once sheet a steps (drop a.placed (dues_from a 0 sheet.script.shape.k)) line one other first second

pub passes_once : (sheet : Sheet) (s : JudgingState) (m : ℕ) (line : List ℕ) (ahead : List (List ℕ)) (one other : JudgingState)
    → IsShape sheet.script.shape → AreFew m s.account.changes → m + 1 < 2 ^ 64
    → Passes sheet s line ahead one → Passes sheet s line ahead other → one ≡ other
passes_once sheet s m line ahead one other shape few small first second = by (begins_entry line) first second
  where
    by : (b : Bool) → PassesBy b sheet s line ahead one → PassesBy b sheet s line ahead other → one ≡ other
    by true first second = logged-once sheet s m line one other shape few small first second
    by false first second = step-once sheet s.account s.steps line ahead one other first second

-- ---- few changes

few-more : (m : ℕ) (changes : List (List Change)) → AreFew m changes → AreFew (m + 1) changes
few-more m changes few d = let here = few d in omega (arith, here)

few-change : (m : ℕ) (b : Bool) (d : ℕ) (c : Change) (changes : List (List Change)) → AreFew m changes → AreFew (m + 1) (with_change b d c changes)
few-change m false d c changes few e = few-more m changes few e
few-change m true d c changes few e = elim (cases_eq e d) [
  | inl same ↦ rw (same, at-put [] [] changes d (at [] changes d ++ c ∷ [])) (let here = few d in omega (arith, here, length-append (at [] changes d) (c ∷ [])))
  | inr other ↦ rw (at-put-other [] changes d e (at [] changes d ++ c ∷ []) other) (few-more m changes few e)
]

few-answer : (m : ℕ) (a : Account) (event : Event) (b : Bool) → AreFew m a.changes → AreFew (m + 1) (after_event a event b).changes
few-answer m a (happens.Ask caller op p) b few = few-more m a.changes few
few-answer m a event b few = few-more m a.changes few

few-as : (m : ℕ) (s next : JudgingState) → next ≡ s → AreFew m s.account.changes → AreFew m next.account.changes
few-as m s next is few = subst (λ (x : JudgingState). AreFew m x.account.changes) (sym is) few

few-place : (sheet : Sheet) (m : ℕ) (a : Account) (steps : List Step) (dues : List DuePlace) (line : List ℕ) (next : JudgingState)
    → PassesPlace sheet a steps dues line next → AreFew m a.changes → AreFew (m + 1) next.account.changes
few-place sheet m a steps [] line next (text, is) few = few-as (m + 1) _ next is (few-more m a.changes few)
few-place sheet m a steps (due ∷ dues) line next (tells, is) few = few-as (m + 1) _ next is (few-more m a.changes few)

few-step : (sheet : Sheet) (m : ℕ) (a : Account) (steps : List Step) (line : List ℕ) (ahead : List (List ℕ))
    (next : JudgingState) → PassesStep sheet a steps line ahead next → AreFew m a.changes → AreFew (m + 1) next.account.changes
few-step sheet m a [] line ahead next first few = absurd first
few-step sheet m a (Make event ∷ steps) line ahead next (answer, ans, is) few = few-as (m + 1) _ next is (few-answer m a event (takes_effect answer) few)
few-step sheet m a (Deliveries ∷ steps) line ahead next (n, fits, text, is) few = few-as (m + 1) _ next is (few-more m a.changes few)
few-step sheet m a (Look p run ∷ steps) line ahead next (inl (bytes, is)) few = few-as (m + 1) _ next is (few-more m a.changes few)
few-step sheet m a (Look p run ∷ steps) line ahead next (inr (word, is)) few = few-as (m + 1) _ next is (few-more m a.changes few)
few-step sheet m a (Placing ∷ steps) line ahead next first few =
    few-place sheet m a steps (drop a.placed (dues_from a 0 sheet.script.shape.k)) line next first few

few-passes : (sheet : Sheet) (m : ℕ) (s : JudgingState) (line : List ℕ) (ahead : List (List ℕ)) (next : JudgingState)
    → Passes sheet s line ahead next → AreFew m s.account.changes → AreFew (m + 1) next.account.changes
few-passes sheet m s line ahead next passes few = by (begins_entry line) passes
  where
    by : (b : Bool) → PassesBy b sheet s line ahead next → AreFew (m + 1) next.account.changes
    by true (may, e, run, tells, told, is) =
        few-as (m + 1) _ next is (few-change m (accepts e.reply) (entry_partition sheet e) (change_of s.account e run)
        s.account.changes few)
    by false first = few-step sheet m s.account s.steps line ahead next first few

never-both : (sheet : Sheet) (lines : List (List ℕ)) (s : JudgingState) (m n : ℕ) (account : Account)
    → IsShape sheet.script.shape → AreFew m s.account.changes → m + length lines < 2 ^ 64
    → PassAll sheet s lines account → ¬ (FailsAt sheet n s lines)
never-both sheet lines s m zero account shape few small passes fails = fails
never-both sheet [] s m (suc zero) account shape few small passes fails = fails passes.0
never-both sheet (line ∷ lines) s m (suc zero) account shape few small (next, first, passes) fails = fails next first
never-both sheet [] s m (suc (suc n)) account shape few small passes fails = fails
never-both sheet (line ∷ lines) s m (suc (suc n)) account shape few small (next, first, passes) (next', first', fails) =
    let same = passes_once sheet s m line lines next' next shape few (omega (arith, small)) first' first in
    never-both sheet lines next (m + 1) (suc n) account shape (few-passes sheet m s line lines next first few)
    (omega (arith, small)) passes (subst (λ (x : JudgingState). FailsAt sheet (suc n) x lines) same fails)

-- lines that all pass have none that fails
pub never_fails : (sheet : Sheet) (n k : ℕ) (account : Account) (steps : List Step) → IsShape sheet.script.shape → length sheet.lines < 2 ^ 64
    → PassAll sheet (record { account = first_account k; steps = steps; logging = false }) sheet.lines account
    → ¬ (FailsAt sheet n (record { account = first_account k; steps = steps; logging = false }) sheet.lines)
never_fails sheet n k account steps shape small passes fails =
    never-both sheet sheet.lines _ 0 n account shape (λ d. rw (at-replicate {X = List Change} [] k d) (omega arith)) (omega (arith, small)) passes fails
