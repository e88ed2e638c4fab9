-- An account stays right for its group, line by line.
use Rattle.std.proofs.Common.{◌≡◌, ◌≢◌, ◌⊎◌, inl, inr, ◌<◌, ◌≤◌, ◌+◌, ℕ, zero, suc, Bool, true, false, List, [], ◌∷◌}
use Rattle.std.proofs.Common.{◌++◌, ◌∙◌, Option, length, slice_index, refl, sym, ap, subst, arith}
use Rattle.std.proofs.lemmas.List.{length-append, length-replicate}
use Rattle.std.proofs.lemmas.List.Elements.{All-head, All-nil, All-push, All-replicate, All-set, All-tail, All-weaker}
use Rattle.std.specs.Prelude.{All}
use Rattle.group_types.proofs.Lists.{length-put, set_put}
use Rattle.group_types.specs.Dimensions.{Dimensions}
use Rattle.group_types.specs.Lists.{at, put}
use Rattle.group_types.specs.Shape.{IsShape}
use Rattle.group_types.specs.declared.run.Run.{Run}
use Rattle.memc_table.specs.Act.{key_of}
use Rattle.memc_table.specs.Contents.{Contents, after_ruling, count_of, partition_of, ruling_on, table_after}
use Rattle.memc_table.specs.declared.act.Act.{Act}
use Rattle.memc_table.specs.declared.act.Act.TheVariants.{Get, Set, Add, Replace, Cas, Delete, Touch, Append, Prepend, Incr, Decr}
use Rattle.memc_table.specs.declared.ruling.Ruling.{Ruling}
use Rattle.memc_table.specs.declared.ruling.Ruling.TheVariants.{Refused, Accepted}
use Rattle.group_calls.specs.Turns.{accepts}
use Rattle.group_calls.specs.declared.entry.Entry.{Entry}
use Rattle.group_calls.specs.declared.event.Event.{Event}
use Rattle.group_calls.specs.declared.event.Event.TheVariants as happens
use Rattle.run_verify.specs.Courses.{IsAccountWithin, judging_state}
use Rattle.run_verify.specs.Passing.{Account, IsRunIn, IsToldFor, IsToldRun, JudgingState, PassesBy, account_after_entry, after_answer}
use Rattle.run_verify.specs.Passing.{after_event, change_of, changes_at, effect_of, entry_partition, first_account, takes_effect}
use Rattle.run_verify.specs.Passing.{value_in, with_change, with_shown}
use Rattle.run_verify.specs.Sheet.{Sheet}
use Rattle.run_verify.specs.Showing.{IsFitChange, IsFitEffect}
use Rattle.run_verify.specs.declared.change.Change.{Change}
use Rattle.run_verify.specs.declared.change.Effect.TheVariants.{Writes}
use Rattle.run_verify.specs.declared.step.Step.{Step}
use Rattle.run_verify.specs.declared.step.Step.TheVariants.{Make, Deliveries, Look, Placing}
use Rattle.run_verify.proofs.Logging.{home-in}

-- ---- the counts of a table

pub low-at : (n : ℕ) (counts : List ℕ) (i : ℕ) → All (λ count. count ≤ n) counts → slice_index counts i ≤ n
low-at n [] i all = omega arith
low-at n (c ∷ cs) zero all = All-head (λ count. count ≤ n) c cs all
low-at n (c ∷ cs) (suc i) all = low-at n cs i (All-tail (λ count. count ≤ n) c cs all)

pub more-low : (n : ℕ) (counts : List ℕ) → All (λ count. count ≤ n) counts → All (λ count. count ≤ n + 1) counts
more-low n counts all = All-weaker (λ count. count ≤ n) (λ count. count ≤ n + 1) (λ x low. omega (arith, low)) counts all

ruled-low : (n : ℕ) (t : Contents) (key : List ℕ) (r : Ruling) → All (λ count. count ≤ n) t.counts → All (λ count. count ≤ n + 1) (after_ruling t key r).counts
ruled-low n t key (Refused reply) all = more-low n t.counts all
ruled-low n t key (Accepted reply leaves) all =
    All-set (λ count. count ≤ n + 1) t.counts (partition_of t key) (count_of t key + 1)
    (let here = low-at n t.counts (partition_of t key) all in omega (arith, here)) (more-low n t.counts all)

-- ---- the changes

run-fits : (s : Dimensions) (d number : ℕ) (value : List ℕ) (run : Option Run) (lines : List (List ℕ))
    → IsRunIn lines s d number (length value) run → IsFitEffect s (Writes value run)
run-fits s d number value run [] none = subst (λ (r : Option Run). IsFitEffect s (Writes value r)) (sym none) tt
run-fits s d number value run (line ∷ lines) (inl (r, text, fits, same)) = subst (λ (x : Option Run). IsFitEffect s (Writes value x)) (sym same) fits
run-fits s d number value run (line ∷ lines) (inr (other, more)) = run-fits s d number value run lines more

module _ (sheet : Sheet) (d number : ℕ) (value : List ℕ) (run : Option Run) where
  written-fits : IsToldFor sheet d number (Writes value run) run → IsFitEffect sheet.script.shape (Writes value run)
  written-fits told = run-fits sheet.script.shape d number value run sheet.lines told

  effect-fits : (act : Act) → IsToldFor sheet d number (effect_of act value run) run → IsFitEffect sheet.script.shape (effect_of act value run)
  effect-fits (Get key) told = written-fits told
  effect-fits (Set key flags expiry bytes) told = written-fits told
  effect-fits (Add key flags expiry bytes) told = written-fits told
  effect-fits (Replace key flags expiry bytes) told = written-fits told
  effect-fits (Cas key flags expiry cas bytes) told = written-fits told
  effect-fits (Delete key) told = tt
  effect-fits (Touch key expiry) told = tt
  effect-fits (Append key bytes) told = written-fits told
  effect-fits (Prepend key bytes) told = written-fits told
  effect-fits (Incr key by) told = written-fits told
  effect-fits (Decr key by) told = written-fits told

-- what holds of each list, and of one with a change more
module _ (P : List Change → Type 0) where
  all-at : (changes : List (List Change)) (d : ℕ) → P [] → All P changes → P (at [] changes d)
  all-at [] d none all = none
  all-at (cs ∷ more) zero none all = All-head P cs more all
  all-at (cs ∷ more) (suc d) none all = all-at more d none (All-tail P cs more all)

  all-put : (changes : List (List Change)) (d : ℕ) (cs : List Change) → d < length changes → P cs → All P changes → All P (put [] changes d cs)
  all-put changes d cs below here all = subst (All P) (set_put [] changes d cs below) (All-set P changes d cs here all)

module _ (sheet : Sheet) (shape : IsShape sheet.script.shape) (n : ℕ) (a : Account) (within : IsAccountWithin sheet.script.shape n a) where
  s : Dimensions
  s = sheet.script.shape

  shorter : All (λ (cs : List Change). length cs ≤ n + 1) a.changes
  shorter = All-weaker (λ (cs : List Change). length cs ≤ n) (λ (cs : List Change). length cs ≤ n + 1) (λ cs few. omega (arith, few)) a.changes within.few

  module _ (e : Entry) (run : Option Run) where
    d : ℕ
    d = entry_partition sheet e

    below : d < length a.changes
    unfolding d
    below = let home = home-in (key_of e.op.act) sheet.script.shape.k shape.k.0 in let many = within.partitions in omega (arith, home, many)

    partitions-kept : (b : Bool) → length (with_change b d (change_of a e run) a.changes) ≡ length a.changes
    partitions-kept true = length-put [] a.changes d (at [] a.changes d ++ change_of a e run ∷ []) below
    partitions-kept false = refl

    fit-kept : (b : Bool) → IsToldRun b sheet a e run → All (All (IsFitChange s)) (with_change b d (change_of a e run) a.changes)
    unfolding s d
    fit-kept true told =
        let value : List ℕ = value_in ((table_after a.table e.op).items (key_of e.op.act)) in
        let here : IsFitChange s (change_of a e run) = effect-fits sheet d (length (changes_at a d) + 1) value run e.op.act told in
        all-put (All (IsFitChange s)) a.changes d (at [] a.changes d ++ change_of a e run ∷ []) below
        (All-push (IsFitChange s) (at [] a.changes d) (change_of a e run)
        (all-at (All (IsFitChange s)) a.changes d (All-nil (IsFitChange s)) within.fit) here) within.fit
    fit-kept false told = within.fit

    few-kept : (b : Bool) → All (λ (cs : List Change). length cs ≤ n + 1) (with_change b d (change_of a e run) a.changes)
    few-kept true =
        let here = all-at (λ (cs : List Change). length cs ≤ n) a.changes d (omega arith) within.few in
        let long = length-append (at [] a.changes d) (change_of a e run ∷ []) in
        all-put (λ (cs : List Change). length cs ≤ n + 1) a.changes d (at [] a.changes d ++ change_of a e run ∷ []) below (omega (arith, here, long)) shorter
    few-kept false = shorter

    -- behind an entry
    within_entry : IsToldRun (accepts e.reply) sheet a e run → IsAccountWithin sheet.script.shape (n + 1) (account_after_entry sheet a e run)
    unfolding s d
    within_entry told = record {
      partitions = partitions-kept (accepts e.reply) ∙ within.partitions;
      fit = fit-kept (accepts e.reply) told;
      few = few-kept (accepts e.reply);
      low = ruled-low n a.table (key_of e.op.act) (ruling_on a.table e.op) within.low;
      entries = let few = within.entries in omega (arith, few);
      placed = within.placed;
      shown = let few = within.shown in omega (arith, few);
    }

  -- behind a line that changes neither the table nor the changes
  within-like : (b : Account) → b.table ≡ a.table → b.changes ≡ a.changes → b.entries ≡ a.entries → b.placed ≡ a.placed
      → b.shown ≤ a.shown + 1 → IsAccountWithin sheet.script.shape (n + 1) b
  unfolding s
  within-like b table changes entries placed shown = record {
    partitions = ap length changes ∙ within.partitions;
    fit = subst (All (All (IsFitChange s))) (sym changes) within.fit;
    few = subst (All (λ (cs : List Change). length cs ≤ n + 1)) (sym changes) shorter;
    low = subst (λ (t : Contents). All (λ count. count ≤ n + 1) t.counts) (sym table) (more-low n a.table.counts within.low);
    entries = let few = within.entries in omega (arith, few, entries);
    placed = placed ∙ within.placed;
    shown = let few = within.shown in omega (arith, few, shown);
  }

  within-event : (event : Event) (taken : Bool) → IsAccountWithin sheet.script.shape (n + 1) (after_event a event taken)
  within-event (happens.Ask caller op p) taken = within-like (after_event a (happens.Ask caller op p) taken) refl refl refl refl (omega arith)
  within-event event taken = within-like a refl refl refl refl (omega arith)

  within-state : (b : Account) (next : JudgingState) → IsAccountWithin sheet.script.shape (n + 1) b → next.account ≡ b
      → IsAccountWithin sheet.script.shape (n + 1) next.account
  within-state b next here same = subst (IsAccountWithin sheet.script.shape (n + 1)) (sym same) here

  -- behind each line that passes where the places aren't in turn, or that is one of the log
  pub within_next : (is_log : Bool) (step : Step) (steps : List Step) (logging : Bool) (line : List ℕ)
      (ahead : List (List ℕ)) (next : JudgingState) → (is_log ≡ true) ⊎ (step ≢ Placing)
      → PassesBy is_log sheet (judging_state a (step ∷ steps) logging) line ahead next → IsAccountWithin sheet.script.shape (n + 1) next.account
  within_next true step steps logging line ahead next which (may, e, run, tells, told, same) =
      within-state (account_after_entry sheet a e run) next (within_entry e run told) (ap (λ (x : JudgingState). x.account) same)
  within_next false (Make event) steps logging line ahead next which (answer, answers, same) =
      within-state (after_answer a event answer) next (within-event event (takes_effect answer))
      (ap (λ (x : JudgingState). x.account) same)
  within_next false Deliveries steps logging line ahead next which (m, low, is, same) =
      within-state a next (within-like a refl refl refl refl (omega arith)) (ap (λ (x : JudgingState). x.account) same)
  within_next false (Look p run) steps logging line ahead next which (inl (tells, same)) =
      within-state (with_shown a) next (within-like (with_shown a) refl refl refl refl (omega arith))
      (ap (λ (x : JudgingState). x.account) same)
  within_next false (Look p run) steps logging line ahead next which (inr (lost, same)) =
      within-state a next (within-like a refl refl refl refl (omega arith)) (ap (λ (x : JudgingState). x.account) same)
  within_next false Placing steps logging line ahead next (inl log) passes = absurd (cc log)
  within_next false Placing steps logging line ahead next (inr other) passes = absurd (other refl)

-- before the first line
pub within_first : (s : Dimensions) → IsAccountWithin s 0 (first_account s.k)
within_first s = record {
  partitions = let none : List Change = [] in length-replicate s.k none;
  fit = All-replicate (All (IsFitChange s)) s.k [] (All-nil (IsFitChange s));
  few = All-replicate (λ (cs : List Change). length cs ≤ 0) s.k [] (omega arith);
  low = All-replicate (λ count. count ≤ 0) s.k 0 (omega arith);
  entries = omega arith;
  placed = refl;
  shown = omega arith;
}
