-- An entry of a checked transcript is told by its line, and leads to an account that says of the log what the one before said.
use Rattle.std.proofs.Common.{◌≡◌, ◌≢◌, ◌⊎◌, inl, inr, ◌<◌, ◌+◌, ◌^◌, ◌==◌, ℕ, zero, suc, Bool, true, false, List, []}
use Rattle.std.proofs.Common.{◌∷◌, ◌++◌, ◌∙◌, map, length, slice_get, Option, Some, None, if◌then◌else◌, refl, sym, ap}
use Rattle.std.proofs.Common.{subst, arith}
use Rattle.std.proofs.lemmas.Bool.{cases_eq}
use Rattle.std.proofs.lemmas.Bool.Decides.{nat_tests}
use Rattle.std.proofs.lemmas.List.{length-append, length-map}
use Rattle.std.specs.Prelude.{Contains}
use Rattle.group_types.proofs.Lists.{at-put, at-put-other}
use Rattle.group_types.specs.Dimensions.{Dimensions, callers}
use Rattle.group_types.specs.Lists.{at}
use Rattle.group_types.specs.Shape.{IsShape}
use Rattle.group_types.specs.declared.run.Run.{Run}
use Rattle.memc_table.specs.Act.{key_of}
use Rattle.memc_table.specs.Asked.{Asked}
use Rattle.memc_table.specs.Contents.{Contents, empty_table, reply_of, table_after}
use Rattle.memc_table.specs.declared.act.Act.{Act}
use Rattle.memc_table.specs.declared.act.Act.TheVariants.{Get, Set, Add, Replace, Cas, Delete, Touch, Append, Prepend, Incr, Decr}
use Rattle.memc_table.specs.declared.holding.Holding.{Holding}
use Rattle.memc_table.specs.declared.reply.Reply.{Reply}
use Rattle.group_calls.specs.Log.{IsLegal, IsLegalFrom, table_of}
use Rattle.group_calls.specs.Turns.{CallName, Turn, accepts, call_entry, log_of, name_of}
use Rattle.group_calls.specs.Within.{IsAsk, IsTaken}
use Rattle.group_calls.specs.declared.entry.Entry.{Entry}
use Rattle.group_calls.specs.declared.event.Event.{Event}
use Rattle.group_calls.specs.declared.event.Event.TheVariants as happens
use Rattle.group_run.specs.Meaning.{Logged, is_update_of}
use Rattle.scenario_text.specs.Texts.{entry_text}
use Rattle.transcript_text.specs.Forms.{FitsReply}
use Rattle.run_verify.specs.Checked.{ArePlaced, RepliesWithin}
use Rattle.run_verify.specs.Passing.{Account, IsRunIn, IsToldFor, IsToldRun, LineTellsEntry, RunFitsValue, account_after_entry, call_named}
use Rattle.run_verify.specs.Passing.{change_of, changes_at, effect_of, entry_partition, takes_effect, value_in, with_change}
use Rattle.run_verify.specs.Sheet.{Sheet}
use Rattle.run_verify.specs.Updates.{StandsRight, brings_value, updates_by}
use Rattle.run_verify.specs.declared.call.Call.{Call}
use Rattle.run_verify.specs.declared.change.Effect.TheVariants.{Writes}
use Rattle.run_verify.proofs.ExactFits.{FitsAct, FitsTable, reply-fits, table-fits}
use Rattle.run_verify.proofs.ExactUpdates.{Update, next-update, no-update, runs_behind, update_by}
use Rattle.run_verify.proofs.ImpliedAccount.{Stands, call_with}
use Rattle.run_verify.proofs.ImpliedChanges.{MatchAll, Matches, change-matches, length-same, push-matches}
use Rattle.run_verify.proofs.ImpliedHeads.{Head, IsAsked, get-within}
use Rattle.run_verify.proofs.ImpliedItems.{IsLeft, item-left}
use Rattle.run_verify.proofs.ImpliedPlaces.{run_told}
use Rattle.run_verify.proofs.ImpliedStands.{stands-entry}
use Rattle.run_verify.proofs.ImpliedTurn.{contains-get, get-append}
use Rattle.run_verify.proofs.Logging.{home-in}

-- an event whose op, caller and call are within their limits
abbrev pub FitsAsk : Event → Type 0
FitsAsk (happens.Ask caller op p) = (caller < callers) × FitsAct op.act
FitsAsk (happens.Collect caller call p) = (caller < callers) × (call < 2 ^ 64)
FitsAsk (happens.Trace caller call d p) = (caller < callers) × (call < 2 ^ 64)
FitsAsk (happens.Deliver from to) = Unit {0}
FitsAsk (happens.Fail p keep) = Unit {0}
FitsAsk (happens.Flush p) = Unit {0}

-- what is known of a sheet whose transcript is checked: of its turns, its log and its runs
pub record Checks (sheet : Sheet) (turns : List Turn) (runs : List (List (Option Run))) : Type 0 where
  pub shape : IsShape sheet.script.shape
  pub legal : IsLegal sheet.script.shape.k (log_of turns)
  pub within : RepliesWithin turns
  pub placed : ArePlaced sheet.script.shape (log_of turns) runs
  pub found : (d len : ℕ) (run : Run) (front back : List (Option Run)) → d < sheet.script.shape.k
      → RunFitsValue sheet.script.shape len run → at [] runs d ≡ front ++ Some run ∷ back
      → IsRunIn sheet.lines sheet.script.shape d (suc (length front)) len (Some run)
  pub fits : (j : ℕ) (t : Turn) → slice_get turns j ≡ Some t → FitsAsk t.event
  pub few : (caller j : ℕ) (t : Turn) (name : CallName) (op : Asked) → IsAsk turns j t name op → name.call < 2 ^ 64
  pub short : length (log_of turns) + 1 < 2 ^ 64

-- the account says what it says of the calls and of the log so far
pub record Now (sheet : Sheet) (runs : List (List (Option Run))) (a : Account) (hs : List Head) (log : List Entry) : Type 0 where
  pub stands : Stands a hs log
  pub table : a.table ≡ table_of (empty_table sheet.script.shape.k) log
  pub changes : (d : ℕ) → d < sheet.script.shape.k → MatchAll (changes_at a d) (updates_by sheet.script.shape runs log d)
  pub fits : FitsTable (length log) a.table
  pub placed : a.placed ≡ 0

-- ---- an entry's run

-- an act brings a value where it writes one
told-run : (act : Act) (value : List ℕ) (run : Option Run) → (brings_value act ≡ false → run ≡ None) → run_told (effect_of act value run) ≡ run
told-run (Delete key) value run none = sym (none refl)
told-run (Touch key expiry) value run none = sym (none refl)
told-run a value run none = refl

no-run : (s : Dimensions) (us : List Logged) (u : Logged) (b : Bool) → StandsRight s us u b → b ≡ false → u.run ≡ None
no-run s us u true stands is = cc is
no-run s us u false stands is = stands

-- what holds of a writing act holds of the effect
told-for : (sheet : Sheet) (d n : ℕ) (act : Act) (value : List ℕ) (run : Option Run) (item : Option Holding)
    → IsLeft act item → (brings_value act ≡ true → IsToldFor sheet d n (Writes value run) run)
    → IsToldFor sheet d n (effect_of act value run) run
told-for sheet d n (Get key) value run item left told = absurd left
told-for sheet d n (Set key flags expiry v) value run item left told = told refl
told-for sheet d n (Add key flags expiry v) value run item left told = told refl
told-for sheet d n (Replace key flags expiry v) value run item left told = told refl
told-for sheet d n (Cas key flags expiry cas v) value run item left told = told refl
told-for sheet d n (Delete key) value run item left told = tt
told-for sheet d n (Touch key expiry) value run item left told = tt
told-for sheet d n (Append key v) value run item left told = told refl
told-for sheet d n (Prepend key v) value run item left told = told refl
told-for sheet d n (Incr key m) value run item left told = told refl
told-for sheet d n (Decr key m) value run item left told = told refl

pub get-front : {A : Type 0} (xs ys : List A) (i : ℕ) (x : A) → slice_get xs i ≡ Some x → slice_get (xs ++ ys) i ≡ Some x
get-front [] ys i x is = cc is
get-front (y ∷ xs) ys zero x is = is
get-front (y ∷ xs) ys (suc i) x is = get-front xs ys i x is

legal-at : (t : Contents) (before more : List Entry) (e : Entry) → IsLegalFrom t (before ++ e ∷ more) → e.reply ≡ reply_of (table_of t before) e.op
legal-at t [] more e legal = legal.0
legal-at t (d ∷ before) more e legal = legal-at (table_after t d.op) before more e legal.1

table-push : (t : Contents) (before : List Entry) (e : Entry) → table_of t (before ++ e ∷ []) ≡ table_after (table_of t before) e.op
table-push t [] e = refl
table-push t (d ∷ before) e = table-push (table_after t d.op) before e

module _ (sheet : Sheet) (turns : List Turn) (runs : List (List (Option Run))) (c : Checks sheet turns runs)
    (before more : List Entry) (e : Entry) (log_is : log_of turns ≡ before ++ e ∷ more)
    (hs : List Head) (a : Account) (now : Now sheet runs a hs before) where
  abbrev s : Dimensions
  s = sheet.script.shape

  abbrev d : ℕ
  d = entry_partition sheet e

  low : d < s.k
  low = home-in (key_of e.op.act) s.k c.shape.k.0

  abbrev t : Contents
  t = table_of (empty_table s.k) before

  reply-is : e.reply ≡ reply_of a.table e.op
  reply-is = legal-at (empty_table s.k) before more e (subst (IsLegalFrom (empty_table s.k)) log_is c.legal)
      ∙ ap (λ (x : Contents). reply_of x e.op) (sym now.table)

  short : length before + 1 < 2 ^ 64
  short = let few = c.short in let many = ap length log_is in omega (arith, few, many, length-append before (e ∷ more))

  abbrev u : Logged
  u = update_by t (runs_behind s runs d before) e

  is-update : accepts e.reply ≡ true → is_update_of s.k d e ≡ true
  is-update accepted = ap (λ (b : Bool). if b then d == d else false) accepted ∙ (let r : (d == d) ≡ true = grind (arith, nat_tests) in r)

  update : accepts e.reply ≡ true → Update s runs d before e u
  update accepted = next-update s runs (log_of turns) before more e d c.placed low log_is (is-update accepted)

  item-is : u.item ≡ (table_after a.table e.op).items (key_of e.op.act)
  item-is = ap (λ (x : Contents). (table_after x e.op).items (key_of e.op.act)) (sym now.table)

  abbrev value : List ℕ
  value = value_in ((table_after a.table e.op).items (key_of e.op.act))

  written : (accepted : accepts e.reply ≡ true) → StandsRight s (updates_by s runs before d) u true
      → IsToldFor sheet d (length (changes_at a d) + 1) (Writes value u.run) u.run
  written accepted (run, h, run_is, item, clear) =
      let up = update accepted in
      let value_is : value ≡ h.item.value = ap value_in (sym item-is ∙ item) in
      let long = clear.long in
      let fits : RunFitsValue s (length value) run = (long ∙ ap length (sym value_is), clear.inside) in
      let us : List Logged = updates_by s runs before d in
      let place : at [] runs d ≡ map (λ v. v.run) us ++ Some run ∷ up.back = up.runs_are ∙ ap (λ (r : Option Run). map (λ v. v.run) us ++ r ∷ up.back) run_is in
      let found = c.found d (length value) run (map (λ v. v.run) us) up.back low fits place in
      let many = length-same (changes_at a d) us (now.changes d low) in
      let count : suc (length (map (λ v. v.run) us)) ≡ length (changes_at a d) + 1 = ap suc (length-map us (λ v. v.run) ∙ sym many) ∙ omega arith in
      subst (λ (r : Option Run). IsRunIn sheet.lines s d (length (changes_at a d) + 1) (length value) r) (sym run_is)
      (subst (λ (n : ℕ). IsRunIn sheet.lines s d n (length value) (Some run)) count found)

  told : accepts e.reply ≡ true → IsToldFor sheet d (length (changes_at a d) + 1) (change_of a e u.run).effect u.run
  told accepted =
      let left = item-left a.table e.op (ap accepts (sym reply-is) ∙ accepted) in
      told-for sheet d (length (changes_at a d) + 1) e.op.act value u.run ((table_after a.table e.op).items (key_of e.op.act)) left
      (λ brings. written accepted (subst (StandsRight s (updates_by s runs before d) u) brings (update accepted).right))

  told_run : IsToldRun (accepts e.reply) sheet a e u.run
  told_run = by (accepts e.reply) refl
    where
      by : (b : Bool) → accepts e.reply ≡ b → IsToldRun b sheet a e u.run
      by true accepted = told accepted
      by false refused = tt

  matches : accepts e.reply ≡ true → Matches (change_of a e u.run) u
  matches accepted =
      let m = change-matches a.table e u.run reply-is accepted in
      let run_is = told-run e.op.act value u.run (no-run s (updates_by s runs before d) u (brings_value e.op.act) (update accepted).right) in
      record { key = m.key; run = sym run_is; kind = rw item-is m.kind }

  next-changes : (p : ℕ) → p < s.k → MatchAll (changes_at (account_after_entry sheet a e u.run) p) (updates_by s runs (before ++ e ∷ []) p)
  next-changes p below = by (accepts e.reply) refl (cases_eq p d)
    where
      by : (b : Bool) → accepts e.reply ≡ b → (p ≡ d) ⊎ (p ≢ d)
          → MatchAll (at [] (with_change (accepts e.reply) d (change_of a e u.run) a.changes) p)
          (updates_by s runs (before ++ e ∷ []) p)
      by false refused which =
          let none : is_update_of s.k p e ≡ false = ap (λ (b : Bool). if b then d == p else false) refused in
          rw (refused, no-update s runs before e p none) (now.changes p below)
      by true accepted (inl same) =
          rw (accepted, same, at-put [] [] a.changes d (at [] a.changes d ++ change_of a e u.run ∷ []), (update accepted).push)
          (push-matches (changes_at a d) (updates_by s runs before d) (change_of a e u.run) u (now.changes d low) (matches accepted))
      by true accepted (inr other) =
          let home : (d == p) ≡ false = grind (arith, nat_tests, other) in
          let none : is_update_of s.k p e ≡ false = ap (λ (b : Bool). if b then d == p else false) accepted ∙ home in
          rw (
            accepted,
            at-put-other [] a.changes d p (at [] a.changes d ++ change_of a e u.run ∷ []) other,
            no-update s runs before e p none,
          ) (now.changes p below)

  -- ---- the entry's call

  module _ (j : ℕ) (ask : Turn) (asked : IsAsk turns j ask (name_of e) e.op) (h : Head)
      (head : IsAsked hs j h (name_of e) e.op) (answer : h.answer ≡ ask.answer) where
    entry-there : slice_get (log_of turns) (length before) ≡ Some e
    entry-there = rw log_is (let zero-behind : length before + 0 ≡ length before = omega arith in
        subst (λ (n : ℕ). slice_get (before ++ e ∷ more) n ≡ Some e) zero-behind
        (get-append before (e ∷ more) 0 e refl))

    contains : Contains (log_of turns) e
    contains = contains-get (log_of turns) (length before) e entry-there

    taken : takes_effect h.answer ≡ true
    taken = by (takes_effect h.answer) refl
      where
        never : takes_effect h.answer ≡ false → ¬ (IsTaken ask.answer)
        never not (inl (reply, is)) = cc (sym not ∙ ap takes_effect (answer ∙ is))
        never not (inr (n, is)) = cc (sym not ∙ ap takes_effect (answer ∙ is))

        by : (b : Bool) → takes_effect h.answer ≡ b → takes_effect h.answer ≡ true
        by true is = is
        by false is = absurd (c.within.refused j ask (name_of e) e.op e asked (never is) contains refl)

    called : (call : Call) → call_named a (name_of e) ≡ Some call → call.op ≡ e.op → call.taken ≡ takes_effect h.answer
        → call_named a (name_of e) ≡ Some (call_with e None)
    called call is op_is taken_is = by call.reply refl
      where
        by : (r : Option Reply) → call.reply ≡ r → call_named a (name_of e) ≡ Some (call_with e None)
        by None none =
            let t_is = taken_is ∙ taken in
            let eq : record { op = call.op; taken = call.taken; reply = call.reply }
            ≡ record { op = e.op; taken = true; reply = None } = cc (op_is, t_is, none) in
            is ∙ ap (λ (x : Call). Some x) eq
        by (Some reply) some =
            let by_ask = now.stands.asked (name_of e) call is in
            let behind = by_ask.logged reply some in
            let inside = get-within before behind.0 (call_entry (name_of e) call.op reply) behind.1 in
            let first : slice_get (log_of turns) behind.0 ≡ Some (call_entry (name_of e) call.op reply) =
            rw log_is (get-front before (e ∷ more) behind.0 _ behind.1) in
            absurd (c.within.once behind.0 (length before) (call_entry (name_of e) call.op reply) e inside first entry-there refl)

    fits-op : (e.caller < callers) × FitsAct e.op.act → FitsTable (length before + 1) (table_after a.table e.op)
    fits-op fits = table-fits (length before) a.table e.op now.fits short fits.1

    tells : (e.caller < callers) × FitsAct e.op.act → LineTellsEntry a (entry_text e) e
    tells fits =
        let call = now.stands.called j h (name_of e) e.op head in
        record {
          text = refl;
          call = called call.call call.is call.op_is call.taken;
          reply = reply-is;
          fits = subst FitsReply (sym reply-is) (reply-fits (length before) a.table e.op now.fits short fits.1);
          named = (fits.0, c.few e.caller j ask (name_of e) e.op asked);
        }

    -- the entry passes
    pub entry_passes : (run : Option Run) × LineTellsEntry a (entry_text e) e × IsToldRun (accepts e.reply) sheet a e run
        × Now sheet runs (account_after_entry sheet a e run) hs (before ++ e ∷ [])
    entry_passes =
        let fits : (e.caller < callers) × FitsAct e.op.act = subst FitsAsk asked.event (c.fits j ask asked.there) in
        let tell = tells fits in (
          u.run,
          tell,
          told_run,
          record {
            stands = stands-entry sheet a hs before (entry_text e) e u.run now.stands tell;
            table = ap (λ (x : Contents). table_after x e.op) now.table ∙ sym (table-push (empty_table s.k) before e);
            changes = next-changes;
            fits = subst (λ (n : ℕ). FitsTable n (table_after a.table e.op)) (sym (length-append before (e ∷ []) ∙ omega arith)) (fits-op fits);
            placed = now.placed;
          },
        )
