-- The accepted entries of a partition in the log are those of its settled updates, in order.
use Rattle.std.proofs.Common.{ℕ, ◌≡◌, ◌≢◌, ◌<◌, ◌==◌, Bool, true, false, List, [], ◌∷◌, ◌++◌, map, Option}
use Rattle.std.proofs.Common.{if◌then◌else◌, ◌⊎◌, inl, inr, refl, sym, ap, subst, ◌∙◌}
use Rattle.std.proofs.lemmas.Bool.{cases_eq, eq-eqb, ne_eqb}
use Rattle.std.proofs.lemmas.List.{append-nil}
use Rattle.std.specs.Prelude.{cond, filter}
use Rattle.group_types.specs.Dimensions.{Dimensions}
use Rattle.group_types.specs.Hash.{home_of}
use Rattle.group_types.specs.Lists.{at, put}
use Rattle.group_types.specs.declared.run.Run.{Run}
use Rattle.group_types.proofs.Lists.{at-put, at-put-other, at-replicate}
use Rattle.memc_table.specs.Act.{key_of}
use Rattle.memc_table.specs.Contents.{Contents}
use Rattle.memc_table.specs.declared.reply.Reply.{Reply}
use Rattle.group_message.specs.declared.update.Outcome.{Outcome}
use Rattle.group_message.specs.declared.update.Outcome.TheVariants as ends
use Rattle.group_message.specs.declared.update.Update.{Update}
use Rattle.memc_table.specs.Contents.{table_after}
use Rattle.group_calls.specs.Turns.{accepts, call_entry, name_of}
use Rattle.group_calls.specs.declared.entry.Entry.{Entry}
use Rattle.group_calls.specs.declared.event.Event.{Event}
use Rattle.group_run.specs.Asking.{reply_from}
use Rattle.group_run.specs.Headline.{IsRun}
use Rattle.group_run.specs.Meaning.{Logged, is_update_of, next_run, runs_left, updates_from}
use Rattle.group_run.specs.World.{AskedCall, front_if, update_name}
use Rattle.law_log.specs.Book.{Book, book_of}
use Rattle.law_log.specs.Stands.{StandsAlways}
use Rattle.law_log.proofs.Books.{book-framed, book_always}
use Rattle.law_log.proofs.Calls.{asked_always}
use Rattle.law_log.proofs.Logging.{LogsOf, logs-event, logs-opening, may-here, some-partition, stands-in, stands-next}
use Rattle.law_log.proofs.Logs.{OfUpdates}

-- each entry is of its update
abbrev pub Matches : List Entry → List Update → Type 0
Matches [] [] = Unit {0}
Matches (e ∷ es) (u ∷ us) = (name_of e ≡ update_name u) × (e.reply ≡ reply_from u.outcome) × Matches es us
Matches [] (u ∷ us) = ⊥
Matches (e ∷ es) [] = ⊥

matches-push : (es : List Entry) (us : List Update) (e : Entry) (u : Update) → name_of e ≡ update_name u
    → e.reply ≡ reply_from u.outcome → Matches es us → Matches (es ++ e ∷ []) (us ++ u ∷ [])
matches-push [] [] e u name reply all = (name, reply, tt)
matches-push (x ∷ es) (y ∷ us) e u name reply all = (all.0, all.1, matches-push es us e u name reply all.2)
matches-push [] (y ∷ us) e u name reply all = absurd all
matches-push (x ∷ es) [] e u name reply all = absurd all

-- the entries of the updates of a partition are its accepted ones
pub entries-of : (k d : ℕ) (t : Contents) (runs : List (Option Run)) (es : List Entry)
    → map (λ (x : Logged). x.entry) (updates_from k d t runs es) ≡ filter (is_update_of k d) es
entries-of k d t runs [] = refl
entries-of k d t runs (e ∷ es) =
    by (is_update_of k d e) (record { entry = e; run = next_run runs; item = (table_after t e.op).items (key_of e.op.act) }) refl
    (updates_from k d (table_after t e.op) (runs_left (is_update_of k d e) runs) es)
    (entries-of k d (table_after t e.op) (runs_left (is_update_of k d e) runs) es) where
      by : (b : Bool) (x : Logged) → x.entry ≡ e → (rest : List Logged) → map (λ (x : Logged). x.entry) rest ≡ filter (is_update_of k d) es
          → map (λ (x : Logged). x.entry) (front_if b x rest) ≡ cond b (e ∷ filter (is_update_of k d) es) (filter (is_update_of k d) es)
      by true x is rest same = λ i. is i ∷ same i
      by false x is rest same = same

filter-last : (test : Entry → Bool) (es : List Entry) (e : Entry) → filter test (es ++ e ∷ []) ≡ filter test es ++ cond (test e) (e ∷ []) []
filter-last test [] e = refl
filter-last test (x ∷ es) e = by (test x) (filter-last test es e) where
  by : (b : Bool) → filter test (es ++ e ∷ []) ≡ filter test es ++ cond (test e) (e ∷ []) []
      → cond b (x ∷ filter test (es ++ e ∷ [])) (filter test (es ++ e ∷ [])) ≡ cond b (x ∷ filter test es) (filter test es) ++ cond (test e) (e ∷ []) []
  by true same = ap (λ (ys : List Entry). x ∷ ys) same
  by false same = same

pub filter-in : (test : Entry → Bool) (es : List Entry) (e : Entry) → test e ≡ true → filter test (es ++ e ∷ []) ≡ filter test es ++ e ∷ []
filter-in test es e is = filter-last test es e ∙ ap (λ (b : Bool). filter test es ++ cond b (e ∷ []) []) is

pub filter-out : (test : Entry → Bool) (es : List Entry) (e : Entry) → test e ≡ false → filter test (es ++ e ∷ []) ≡ filter test es
filter-out test es e is = filter-last test es e ∙ ap (λ (b : Bool). filter test es ++ cond b (e ∷ []) []) is ∙ append-nil (filter test es)

accepts-from : (o : Outcome) → accepts (reply_from o) ≡ true
accepts-from ends.Stored = refl
accepts-from ends.Deleted = refl
accepts-from ends.Touched = refl
accepts-from (ends.Number n) = refl

-- in each partition
abbrev pub AllMatch : ℕ → List Entry → List (List Update) → Type 0
AllMatch k log settled = (d : ℕ) → d < k → Matches (filter (is_update_of k d) log) (at [] settled d)

match-update : (s : Dimensions) (calls : List AskedCall) → OfUpdates s calls (AllMatch s.k)
match-update s calls log settled d u low many stands fits step all e below = by (cases_eq e d) where
  entry : Entry
  entry = call_entry (update_name u) step.call.op (reply_from u.outcome)

  test : is_update_of s.k e entry ≡ (home_of (key_of step.call.op.act) s.k == e)
  test = ap (λ (b : Bool). if b then home_of (key_of step.call.op.act) s.k == e else false) (accepts-from u.outcome)

  by : (e ≡ d) ⊎ (e ≢ d) → Matches (filter (is_update_of s.k e) (log ++ entry ∷ [])) (at [] (put [] settled d (at [] settled d ++ u ∷ [])) e)
  by (inl same) =
      subst (λ (es : List Entry). Matches es (at [] (put [] settled d (at [] settled d ++ u ∷ [])) e))
      (sym (filter-in (is_update_of s.k e) log entry (test ∙ eq-eqb _ _ (step.fits.home ∙ sym same))))
      (subst (Matches (filter (is_update_of s.k e) log ++ entry ∷ []))
      (sym (ap (at [] (put [] settled d (at [] settled d ++ u ∷ []))) same
      ∙ at-put [] [] settled d (at [] settled d ++ u ∷ [])))
      (matches-push (filter (is_update_of s.k e) log) (at [] settled d) entry u refl refl
      (subst (λ (n : ℕ). Matches (filter (is_update_of s.k e) log) (at [] settled n)) same (all e below))))
  by (inr other) =
      subst (λ (es : List Entry). Matches es (at [] (put [] settled d (at [] settled d ++ u ∷ [])) e))
      (sym (filter-out (is_update_of s.k e) log entry (test ∙ ne_eqb _ _ (λ home. other (sym home ∙ step.fits.home)))))
      (subst (Matches (filter (is_update_of s.k e) log)) (sym (at-put-other [] settled d e (at [] settled d ++ u ∷ []) other)) (all e below))

match-refusal : (k : ℕ) (log : List Entry) (settled : List (List Update)) (c : AskedCall) (reply : Reply) → accepts reply ≡ false → AllMatch k log settled
    → AllMatch k (log ++ call_entry c.name c.op reply ∷ []) settled
match-refusal k log settled c reply refused all d below =
    subst (λ (es : List Entry). Matches es (at [] settled d))
    (sym (filter-out (is_update_of k d) log (call_entry c.name c.op reply) (ap (λ (b : Bool). if b then home_of (key_of c.op.act) k == d else false) refused)))
    (all d below)

abbrev pub MatchIn : Book → Type 0
MatchIn b = AllMatch b.history.world.shape.k b.history.world.log b.history.settled

-- so it is along every run in which heads stand
pub match_always : (s : Dimensions) → StandsAlways s → (es : List Event) → IsRun s es → MatchIn (book_of s es)
match_always s always es run =
    (book_always s (λ b. LogsOf b × MatchIn b)
    (logs-opening s, λ d below. subst (Matches []) (sym (at-replicate [] s.k d)) tt) (λ done e now more may both.
    logs-event (book_of s done) (book-framed s done now) (stands-in s always done now) (some-partition s always done now) e (may-here s always done e may)
    (stands-next s always done e more) (asked_always s done now) both.0
    (AllMatch (book_of s done).history.world.shape.k) both.1 (match-update (book_of s done).history.world.shape _)
    (λ c reply is answered refused all. match-refusal (book_of s done).history.world.shape.k
    (book_of s done).history.world.log (book_of s done).history.settled c reply refused all)) es run).1
