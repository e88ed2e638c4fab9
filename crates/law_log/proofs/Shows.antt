-- What the log shows of each partition, along every run.
use Rattle.std.proofs.Common.{ℕ, zero, suc, ◌≡◌, ◌≢◌, ◌<◌, ◌≤◌, ◌==◌, Bool, true, false, List, [], ◌∷◌, ◌++◌, length}
use Rattle.std.proofs.Common.{map, take, drop, ◌⊎◌, inl, inr, Option, if◌then◌else◌, refl, sym, ap, ap₂, subst, ◌∙◌}
use Rattle.std.proofs.Common.{arith}
use Rattle.std.proofs.lemmas.Bool.{cases_eq, cases_lt, eq-eqb, ne_eqb}
use Rattle.std.proofs.lemmas.List.{append-nil, drop_at, length-append, length-map, map-append, take-append-le, take_all}
use Rattle.group_types.specs.Dimensions.{Dimensions}
use Rattle.group_types.specs.Hash.{home_of}
use Rattle.group_types.specs.Lists.{at, put}
use Rattle.group_types.specs.declared.run.Run.{Run}
use Rattle.group_types.proofs.Lists.{at-put, at-put-other, at-replicate}
use Rattle.memc_table.specs.Act.{key_of}
use Rattle.memc_table.specs.Contents.{Contents, empty_table, table_after}
use Rattle.group_message.specs.declared.update.Update.{Update}
use Rattle.group_calls.specs.Log.{table_of}
use Rattle.group_calls.specs.Turns.{call_entry}
use Rattle.group_calls.specs.declared.entry.Entry.{Entry}
use Rattle.group_calls.specs.declared.event.Event.{Event}
use Rattle.group_run.specs.Asking.{reply_from}
use Rattle.group_run.specs.Headline.{IsRun}
use Rattle.group_run.specs.Meaning.{Logged, cut_after, is_update_of, next_run, updates_from}
use Rattle.group_run.specs.Replica.{run_of}
use Rattle.group_run.specs.World.{AskedCall, front_if, update_name}
use Rattle.law_updates.specs.Fine.{IsStep}
use Rattle.law_updates.specs.Store.{Store, StoreFits, held, no_store, store_after, store_from, store_with_update}
use Rattle.law_updates.proofs.Histories.{store-append}
use Rattle.law_log.specs.Book.{Book, book_of, booked, no_book}
use Rattle.law_log.specs.Stands.{StandsAlways}
use Rattle.law_log.proofs.Ties.{LogStands, Ties}
use Rattle.law_log.proofs.Books.{book-framed, book_always}
use Rattle.law_log.proofs.Calls.{asked_always}
use Rattle.law_log.proofs.Entries.{accepted-from}
use Rattle.law_log.proofs.Logging.{LogsOf, logs-event, logs-opening, may-here, some-partition, stands-in, stands-next}
use Rattle.law_log.proofs.Tables.{table-append, update-ties}
use Rattle.law_log.proofs.Shown.{AreShown, IsShown}
use Rattle.law_log.proofs.Cuts.{count_in, count-push, cut-append, cut-last, one_if, updates-push, updates-runs}

-- the runs of updates, in order
abbrev pub runs_of : List Update → List (Option Run)
runs_of us = map (λ u. run_of u.body) us

-- what a log shows of partition d
pub record ShownIn (s : Dimensions) (d : ℕ) (log : List Entry) (us : List Update) : Type 0 where
  pub shown : AreShown s d (no_store s) us (updates_from s.k d (empty_table s.k) (runs_of us) log)
  pub count : count_in s.k d log ≡ length us
  pub tables : (n : ℕ) → n ≤ length us → (key : List ℕ) → home_of key s.k ≡ d
      → (table_of (empty_table s.k) (cut_after s.k d n log)).items key ≡ held (store_after s d (take n us)) key

shown-push : (s : Dimensions) (d : ℕ) (store : Store) (us : List Update) (ls : List Logged) (u : Update) (l : Logged) → AreShown s d store us ls
    → IsShown s d (store_from s d store us) u l → AreShown s d store (us ++ u ∷ []) (ls ++ l ∷ [])
shown-push s d store [] [] u l shown one = (one, tt)
shown-push s d store [] (x ∷ xs) u l shown one = absurd shown
shown-push s d store (v ∷ vs) [] u l shown one = absurd shown
shown-push s d store (v ∷ vs) (x ∷ xs) u l shown one = (shown.0, shown-push s d (store_with_update s d v store) vs xs u l shown.1 one)

module _ (s : Dimensions) where
  -- an entry that is no update of the partition
  shown-other : (d : ℕ) (log : List Entry) (us : List Update) (e : Entry) → is_update_of s.k d e ≡ false → ShownIn s d log us → ShownIn s d (log ++ e ∷ []) us
  shown-other d log us e other shown = record {
    shown = subst (AreShown s d (no_store s) us) (sym (updates-push s.k d (empty_table s.k) (runs_of us) log e
        ∙ ap (λ (b : Bool). updates_from s.k d (empty_table s.k) (runs_of us) log
        ++ front_if b
        (record {
          entry = e;
          run = next_run (drop (count_in s.k d log) (runs_of us));
          item = (table_after (table_of (empty_table s.k) log) e.op).items (key_of e.op.act);
        }) []) other
        ∙ append-nil (updates_from s.k d (empty_table s.k) (runs_of us) log))) shown.shown;
    count = count-push s.k d log e ∙ ap (λ (b : Bool). one_if b (count_in s.k d log)) other ∙ shown.count;
    tables =
        λ n low key home. ap (λ (es : List Entry). (table_of (empty_table s.k) es).items key)
        (cut-append s.k d n log (e ∷ []) (let count = shown.count in omega arith))
        ∙ shown.tables n low key home;
  }

  module _ (some : 1 ≤ s.k) (calls : List AskedCall) (log : List Entry) (settled : List (List Update)) (d : ℕ) (u : Update)
      (low : d < s.k) (stands : LogStands s calls log settled)
      (fits : StoreFits s (store_after s d (at [] settled d)))
      (step : IsStep s calls d (suc (length (at [] settled d))) (store_after s d (at [] settled d)) u) where
    abbrev entry : Entry
    entry = call_entry (update_name u) step.call.op (reply_from u.outcome)

    abbrev us : List Update
    us = at [] settled d

    abbrev next : List (List Update)
    next = put [] settled d (at [] settled d ++ u ∷ [])

    abbrev table : Contents
    table = table_of (empty_table s.k) log

    update-of : (e : ℕ) (b : Bool) → (home_of (key_of step.call.op.act) s.k == e) ≡ b → is_update_of s.k e entry ≡ b
    update-of e b test = ap (λ (x : Bool). if x then home_of (key_of step.call.op.act) s.k == e else false) (accepted-from u.outcome) ∙ test

    own : is_update_of s.k d entry ≡ true
    own = update-of d true (eq-eqb (home_of (key_of step.call.op.act) s.k) d step.fits.home)

    -- the table after it holds what the store after it does
    holds-next : (key : List ℕ) → home_of key s.k ≡ d → (table_after table step.call.op).items key ≡ held (store_after s d (us ++ u ∷ [])) key
    holds-next key home =
        let ties : Ties s next (table_after table step.call.op) = update-ties s some settled table stands.ties d u
        step.call.op step.fits.home fits step.right low in
        ties.items key ∙ ap (λ (e : ℕ). held (store_after s e (at [] next e)) key) home
        ∙ ap (λ (xs : List Update). held (store_after s d xs) key) (at-put [] [] settled d (us ++ u ∷ []))

    abbrev logged : Logged
    logged = record { entry = entry; run = run_of u.body; item = (table_after table step.call.op).items (key_of step.call.op.act) }

    is-shown : IsShown s d (store_after s d us) u logged
    is-shown = record {
      logged = record { caller = refl; call = refl; key = step.right.key; run = refl };
      item = holds-next (key_of step.call.op.act) step.fits.home ∙ ap₂ held (store-append s d (no_store s) us (u ∷ [])) (sym step.right.key);
    }

    updates-next : (shown : ShownIn s d log us)
        → updates_from s.k d (empty_table s.k) (runs_of (us ++ u ∷ [])) (log ++ entry ∷ [])
        ≡ updates_from s.k d (empty_table s.k) (runs_of us) log ++ logged ∷ []
    updates-next shown =
        let count : count_in s.k d log ≡ length (runs_of us) = shown.count ∙ sym (length-map us (λ x. run_of x.body)) in
        ap (λ (rs : List (Option Run)). updates_from s.k d (empty_table s.k) rs (log ++ entry ∷ [])) (map-append (λ x. run_of x.body) us (u ∷ []))
        ∙ updates-push s.k d (empty_table s.k) (runs_of us ++ run_of u.body ∷ []) log entry
        ∙ ap (λ (xs : List Logged). xs ++ front_if (is_update_of s.k d entry)
        (record {
          entry = entry;
          run = next_run (drop (count_in s.k d log) (runs_of us ++ run_of u.body ∷ []));
          item = logged.item;
        }) [])
        (updates-runs s.k d (empty_table s.k) (runs_of us) (run_of u.body ∷ []) log (omega (arith, count)))
        ∙ ap (λ (b : Bool). updates_from s.k d (empty_table s.k) (runs_of us) log
        ++ front_if b
        (record {
          entry = entry;
          run = next_run (drop (count_in s.k d log) (runs_of us ++ run_of u.body ∷ []));
          item = logged.item;
        }) []) own
        ∙ ap (λ (rs : List (Option Run)). updates_from s.k d (empty_table s.k) (runs_of us) log
        ++ record { entry = entry; run = next_run rs; item = logged.item } ∷ [])
        (drop_at (runs_of us) (run_of u.body ∷ []) (count_in s.k d log) (sym count))

    tables-next : ShownIn s d log us → (n : ℕ) → n ≤ length (us ++ u ∷ []) → (key : List ℕ) → home_of key s.k ≡ d
        → (n < suc (length us)) ⊎ (suc (length us) ≤ n)
        → (table_of (empty_table s.k) (cut_after s.k d n (log ++ entry ∷ []))).items key ≡ held (store_after s d (take n (us ++ u ∷ []))) key
    tables-next shown n within key home (inl early) =
        let count = shown.count in
        ap (λ (es : List Entry). (table_of (empty_table s.k) es).items key) (cut-append s.k d n log (entry ∷ []) (omega arith))
        ∙ shown.tables n (omega arith) key home ∙ ap (λ (xs : List Update). held (store_after s d xs) key) (sym (take-append-le n us (u ∷ []) (omega arith)))
    tables-next shown n within key home (inr last) =
        let count = shown.count in
        let n_is : n ≡ suc (count_in s.k d log) = omega (arith, length-append us (u ∷ [])) in
        ap (λ (m : ℕ). (table_of (empty_table s.k) (cut_after s.k d m (log ++ entry ∷ []))).items key) n_is
        ∙ ap (λ (es : List Entry). (table_of (empty_table s.k) es).items key) (cut-last s.k d log entry own)
        ∙ ap (λ (t : Contents). t.items key) (table-append (empty_table s.k) log (entry ∷ []))
        ∙ holds-next key home
        ∙ ap (λ (xs : List Update). held (store_after s d xs) key) (sym (take_all n (us ++ u ∷ []) (omega (arith, length-append us (u ∷ [])))))

    shown-next : (e : ℕ) → (e ≡ d) ⊎ (e ≢ d) → ShownIn s e log (at [] settled e) → ShownIn s e (log ++ entry ∷ []) (at [] next e)
    shown-next e (inr other) shown = subst (ShownIn s e (log ++ entry ∷ [])) (sym (at-put-other [] settled d e (us ++ u ∷ []) other))
        (shown-other e log (at [] settled e) entry
        (update-of e false
        (ne_eqb (home_of (key_of step.call.op.act) s.k) e (λ (same : home_of (key_of step.call.op.act) s.k ≡ e).
        other (sym same ∙ step.fits.home)))) shown)
    shown-next e (inl same) shown =
        let here : ShownIn s d log us = subst (λ (x : ℕ). ShownIn s x log (at [] settled x)) same shown in
        subst (λ (x : ℕ). ShownIn s x (log ++ entry ∷ []) (at [] next x)) (sym same)
        (subst (ShownIn s d (log ++ entry ∷ [])) (sym (at-put [] [] settled d (us ++ u ∷ []))) (record {
          shown =
              subst (AreShown s d (no_store s) (us ++ u ∷ [])) (sym (updates-next here))
              (shown-push s d (no_store s) us (updates_from s.k d (empty_table s.k) (runs_of us) log) u logged here.shown is-shown);
          count = count-push s.k d log entry ∙ ap (λ (b : Bool). one_if b (count_in s.k d log)) own ∙ ap suc here.count
              ∙ (let long = length-append us (u ∷ []) in omega arith);
          tables = λ n within key home. tables-next here n within key home (cases_lt n (suc (length us)));
        }))

-- each partition is shown
abbrev pub AllShown : Dimensions → List Entry → List (List Update) → Type 0
AllShown s log settled = (d : ℕ) → d < s.k → ShownIn s d log (at [] settled d)

pub record ShownOf (b : Book) : Type 0 where
  pub logs : LogsOf b
  pub shown : AllShown b.history.world.shape b.history.world.log b.history.settled

shown-opening : (s : Dimensions) → AllShown s [] (no_book s).history.settled
shown-opening s d low = subst (ShownIn s d []) (sym (at-replicate [] s.k d)) (record {
  shown = tt;
  count = refl;
  tables = λ n within key home. nothing n key;
}) where
  nothing : (n : ℕ) (key : List ℕ) → (table_of (empty_table s.k) (cut_after s.k d n [])).items key ≡ held (store_after s d (take n [])) key
  nothing zero key = refl
  nothing (suc n) key = refl

module _ (s : Dimensions) (always : StandsAlways s) where
  pub shown_always : (es : List Event) → IsRun s es → ShownOf (book_of s es)
  shown_always es run = book_always s ShownOf (record { logs = logs-opening s; shown = shown-opening s }) (λ done e now more may holds.
      let b : Book = book_of s done in
      let next = logs-event b (book-framed s done now) (stands-in s always done now) (some-partition s always done now) e (may-here s always done e may)
      (stands-next s always done e more) (asked_always s done now) holds.logs
      (AllShown b.history.world.shape) holds.shown
      (λ log settled d u low many stands fits step said x below. shown-next b.history.world.shape
      (some-partition s always done now) (booked b e).issued log settled d u low stands fits step x (cases_eq x d)
      (said x below))
      (λ c reply is answered refused said x below. shown-other b.history.world.shape x b.history.world.log
      (at [] b.history.settled x) (call_entry c.name c.op reply)
      (ap (λ (t : Bool). if t then home_of (key_of c.op.act) b.history.world.shape.k == x else false) refused) (said x below)) in
      record { logs = next.0; shown = next.1 }) es run
