-- An update has a run exactly where its op gives its key a value.
use Rattle.std.proofs.Common.{ℕ, zero, suc, ◌≡◌, ◌<◌, ◌==◌, nat_le, Bool, true, false, not, ◌&&◌, List, [], ◌∷◌, ◌++◌}
use Rattle.std.proofs.Common.{length, Option, Some, None, is_some, inl, inr, refl, sym, ap, subst, ◌∙◌, arith}
use Rattle.std.proofs.Common.{if◌then◌else◌}
use Rattle.std.specs.Prelude.{Contains, slice_get}
use Rattle.group_types.specs.Dimensions.{Dimensions}
use Rattle.group_types.specs.Hash.{home_of}
use Rattle.group_types.specs.Lists.{at}
use Rattle.group_types.specs.declared.run.Run.{Run}
use Rattle.memc_table.specs.Asked.{Asked}
use Rattle.memc_table.specs.Contents.{Contents, empty_table, table_after}
use Rattle.memc_table.specs.Numeral.{number_of}
use Rattle.memc_table.specs.Act.{key_of}
use Rattle.memc_table.specs.Expiry.{live_at}
use Rattle.memc_table.specs.Ruling.{anew, changed, longest_value, lowered, raised, ruling_of}
use Rattle.memc_table.specs.declared.reply.Reply.TheVariants.{Exists, Stored, TooLarge}
use Rattle.memc_table.specs.declared.act.Act.{Act}
use Rattle.memc_table.specs.declared.act.Act.TheVariants.{Add, Append, Cas, Decr, Delete, Get, Incr, Prepend, Replace, Set, Touch}
use Rattle.memc_table.specs.declared.holding.Holding.{Holding}
use Rattle.memc_table.specs.declared.ruling.Ruling.{Ruling}
use Rattle.memc_table.specs.declared.ruling.Ruling.TheVariants.{Accepted, Refused}
use Rattle.group_message.specs.declared.update.Body.{Body}
use Rattle.group_message.specs.declared.update.Update.{Update}
use Rattle.group_calls.specs.Turns.{accepts, name_of}
use Rattle.group_calls.specs.declared.entry.Entry.{Entry}
use Rattle.group_calls.specs.declared.event.Event.{Event}
use Rattle.group_run.specs.Deciding.{is_touch}
use Rattle.group_run.specs.Headline.{IsRun}
use Rattle.group_run.specs.Meaning.{Logged, is_update_of, next_run, runs_left, updates_from, updates_of}
use Rattle.group_run.specs.Replica.{run_of}
use Rattle.group_run.specs.World.{AskedCall, World, after, front_if}
use Rattle.law_updates.specs.Right.{IsBodyOf, IsRight}
use Rattle.law_updates.specs.Store.{Store, held, no_store}
use Rattle.law_updates.proofs.Steps.{no_store-fits}
use Rattle.law_log.specs.Book.{book_of}
use Rattle.law_log.specs.Stands.{StandsAlways}
use Rattle.law_log.proofs.Books.{book-shape, book-world}
use Rattle.law_log.proofs.Calls.{each-contained}
use Rattle.law_log.proofs.Entries.{same-issued}
use Rattle.law_log.proofs.Logging.{LogsOf, logs_always}
use Rattle.law_log.proofs.Ones.{log_is_tied}
use Rattle.law_log.proofs.Ties.{EntryStands}
use Rattle.law_log.proofs.Written.{ShownAt, log_shows_settled, shown-at}
use Rattle.law_headline.proofs.All.{whole-always}
use Rattle.law_headline.proofs.Promises.{stands-always}
use Rattle.law_causes.specs.Values.{RunsAlways, gives_value}

-- what an accepted act leaves, and whether it is a touch, tells whether it gives a value
abbrev Gives : Act → Ruling → Type 0
Gives act (Refused r) = Unit {0}
Gives act (Accepted r leaves) = (is_some leaves && not (is_touch act)) ≡ gives_value act

gives : (t n : ℕ) (act : Act) (live : Option Holding) → Gives act (ruling_of t n act live)
gives t n (Get key) None = tt
gives t n (Get key) (Some h) = tt
gives t n (Set key flags expiry value) live = refl
gives t n (Add key flags expiry value) None = refl
gives t n (Add key flags expiry value) (Some h) = tt
gives t n (Replace key flags expiry value) None = tt
gives t n (Replace key flags expiry value) (Some h) = refl
gives t n (Cas key flags expiry cas value) None = tt
gives t n (Cas key flags expiry cas value) (Some h) = by (h.item.cas == cas) where
  by : (b : Bool) → Gives (Cas key flags expiry cas value) (if b then anew t n flags expiry value else Refused Exists)
  by true = refl
  by false = tt
gives t n (Delete key) None = tt
gives t n (Delete key) (Some h) = refl
gives t n (Touch key expiry) None = tt
gives t n (Touch key expiry) (Some h) = refl
gives t n (Append key value) None = tt
gives t n (Append key value) (Some h) = by (nat_le (length (h.item.value ++ value)) longest_value) where
  by : (b : Bool) → Gives (Append key value) (if b then Accepted Stored (changed n h (h.item.value ++ value)) else Refused TooLarge)
  by true = refl
  by false = tt
gives t n (Prepend key value) None = tt
gives t n (Prepend key value) (Some h) = by (nat_le (length (value ++ h.item.value)) longest_value) where
  by : (b : Bool) → Gives (Prepend key value) (if b then Accepted Stored (changed n h (value ++ h.item.value)) else Refused TooLarge)
  by true = refl
  by false = tt
gives t n (Incr key by') None = tt
gives t n (Incr key by') (Some h) = by (number_of h.item.value) where
  by : (v : Option ℕ) → Gives (Incr key by') (raised n h by' v)
  by None = tt
  by (Some v) = refl
gives t n (Decr key by') None = tt
gives t n (Decr key by') (Some h) = by (number_of h.item.value) where
  by : (v : Option ℕ) → Gives (Decr key by') (lowered n h by' v)
  by None = tt
  by (Some v) = refl

-- the body of an update has a run where the op leaves a value that isn't the old one
body-run : (s : Dimensions) (store : Store) (touch : Bool) (leaves : Option Holding) (body : Body)
    → IsBodyOf s store touch leaves body → is_some (run_of body) ≡ (is_some leaves && not touch)
body-run s store touch None body is = ap (λ (b : Body). is_some (run_of b)) is
body-run s store true (Some h) body is = ap (λ (b : Body). is_some (run_of b)) is
body-run s store false (Some h) body is = ap (λ (b : Body). is_some (run_of b)) is.is

right-run : (s : Dimensions) (store : Store) (n : ℕ) (op : Asked) (u : Update) → IsRight s store n op u → is_some (run_of u.body) ≡ gives_value op.act
right-run s store n op u right =
    body-run s store (is_touch op.act) right.leaves u.body right.body
    ∙ subst (Gives op.act) right.ruled (gives op.moment n op.act (live_at op.moment (held store (key_of op.act))))

-- an update that the log shows has an accepted entry of the log
entry-of : (k d : ℕ) (t : Contents) (runs : List (Option Run)) (es : List Entry) (m : ℕ) (l : Logged) → slice_get (updates_from k d t runs es) m ≡ Some l
    → Contains es l.entry × (accepts l.entry.reply ≡ true)
entry-of k d t runs [] m l is = absurd (cc is)
entry-of k d t runs (e ∷ es) m l is = by (is_update_of k d e) refl m is (entry-of k d (table_after t e.op) (runs_left (is_update_of k d e) runs) es) where
  u : Logged
  u = record { entry = e; run = next_run runs; item = (table_after t e.op).items (key_of e.op.act) }

  later : Contains es l.entry × (accepts l.entry.reply ≡ true) → Contains (e ∷ es) l.entry × (accepts l.entry.reply ≡ true)
  later ((j, low, there), takes) = ((suc j, omega (arith, low), there), takes)

  accepted : (b : Bool) → accepts e.reply ≡ b → (if b then home_of (key_of e.op.act) k == d else false) ≡ true → accepts e.reply ≡ true
  accepted true takes is = takes
  accepted false takes is = absurd (cc is)

  first : is_update_of k d e ≡ true → u ≡ l → Contains (e ∷ es) l.entry × (accepts l.entry.reply ≡ true)
  first test same =
      ((0, omega arith, ap (λ (x : Logged). x.entry) same), ap (λ (x : Logged). accepts x.entry.reply) (sym same) ∙ accepted (accepts e.reply) refl test)

  by : (b : Bool) → is_update_of k d e ≡ b → (m : ℕ) → slice_get (front_if b u (updates_from k d (table_after t e.op) (runs_left b runs) es)) m ≡ Some l
      → ((m : ℕ) (l : Logged) → slice_get (updates_from k d (table_after t e.op) (runs_left (is_update_of k d e) runs)
      es) m ≡ Some l → Contains es l.entry × (accepts l.entry.reply ≡ true))
      → Contains (e ∷ es) l.entry × (accepts l.entry.reply ≡ true)
  by true test zero is rest = first test (ap (λ (o : Option Logged). elim o [ None ↦ u | Some x ↦ x ]) is)
  by true test (suc m) is rest = later (rest m l (ap (λ (b : Bool). slice_get (updates_from k d (table_after t e.op) (runs_left b runs) es) m) test ∙ is))
  by false test m is rest = later (rest m l (ap (λ (b : Bool). slice_get (updates_from k d (table_after t e.op) (runs_left b runs) es) m) test ∙ is))

module _ (s : Dimensions) (es : List Event) (run : IsRun s es) (d n : ℕ) (l : Logged) (low : d < s.k)
    (there : slice_get (updates_of (after s es) d) n ≡ Some l) where
  always : StandsAlways s
  always = stands-always s (whole-always s)

  abbrev calls : List AskedCall
  calls = (book_of s es).issued

  abbrev settled : List Update
  settled = at [] (book_of s es).history.settled d

  logs : LogsOf (book_of s es)
  logs = logs_always s always es run

  found : ShownAt s calls d 0 n (no_store s) settled l
  found = shown-at s calls d 0 n (no_store s) settled (updates_of (after s es) d) l (no_store-fits s)
      ((always es run).settled d low).steps (log_shows_settled s always es run d low).updates there

  entry : Contains (after s es).log l.entry × (accepts l.entry.reply ≡ true)
  entry = entry-of (after s es).shape.k d (empty_table (after s es).shape.k) (at [] (after s es).places d) (after s es).log n l there

  named : name_of l.entry ≡ found.step.call.name
  named = let caller = found.shown.logged.caller in let call = found.shown.logged.call in
      (λ i. record { caller = (sym caller) i; call = (sym call) i }) ∙ found.step.name

  -- the entry has the op of the call that the update is of
  same-op : l.entry.op ≡ found.step.call.op
  same-op = by (each-contained (EntryStands s calls (book_of s es).history.settled) (after s es).log l.entry
      (log_is_tied s always es run).stands.entries entry.0) where
        by : EntryStands s calls (book_of s es).history.settled l.entry → l.entry.op ≡ found.step.call.op
        by (inl is) =
            ap (λ (c : AskedCall). c.op) (same-issued calls (record { name = name_of l.entry; op = l.entry.op }) found.step.call
            logs.differ is.call found.step.asked named)
        by (inr is) = let refused = is.refused in let takes = entry.1 in absurd (cc (refused, takes))

  pub has-run : is_some l.run ≡ gives_value l.entry.op.act
  has-run =
      ap (λ (r : Option Run). is_some r) (sym found.shown.logged.run)
      ∙ right-run s _ _ found.step.call.op found.update found.step.right
      ∙ ap (λ (op : Asked). gives_value op.act) (sym same-op)

pub runs_always : RunsAlways
runs_always s es run d n l low there =
    has-run s es run d n l (subst (λ (t : Dimensions). d < t.k) (ap (λ (x : World). x.shape) (sym (book-world s es)) ∙ book-shape s es) low) there
