-- The runs that are told at the end of a run name exactly the updates that bring a value, each where it is clear of the items.
use Rattle.std.proofs.Common.{ℕ, suc, ◌≡◌, ◌<◌, ◌+◌, Bool, true, false, List, [], ◌∷◌, ◌++◌, length, map, take, Option}
use Rattle.std.proofs.Common.{Some, None, is_some, refl, sym, ap, ap₂, subst, ◌∙◌, append-nil, append_assoc, arith}
use Rattle.std.specs.Prelude.{slice_get}
use Rattle.std.proofs.lemmas.List.{length-map}
use Rattle.std.proofs.lemmas.List.FromFn.{length-map-range_with_len}
use Rattle.group_types.specs.Dimensions.{Dimensions}
use Rattle.group_types.specs.Lists.{at}
use Rattle.group_types.specs.declared.run.Run.{Run}
use Rattle.group_types.proofs.Lists.{at-map-range}
use Rattle.memc_table.specs.Act.{key_of}
use Rattle.memc_table.specs.Contents.{Contents, empty_table, table_after}
use Rattle.memc_table.specs.declared.act.Act.{Act}
use Rattle.memc_table.specs.declared.act.Act.TheVariants.{Get}
use Rattle.group_message.specs.declared.update.Update.{Update}
use Rattle.group_calls.specs.declared.entry.Entry.{Entry}
use Rattle.group_calls.specs.declared.event.Event.{Event}
use Rattle.group_run.specs.Headline.{IsRun, ValuesWritten}
use Rattle.group_run.specs.Meaning.{Logged, is_update_of, next_run, runs_left, updates_from, updates_of}
use Rattle.group_run.specs.Replica.{run_of}
use Rattle.group_run.specs.World.{World, after, front_if}
use Rattle.law_updates.specs.Store.{Store, no_store, store_with_update}
use Rattle.law_log.specs.Book.{book_of}
use Rattle.law_log.specs.Stands.{StandsAlways}
use Rattle.law_log.proofs.Cuts.{count_in, one_if, updates-runs}
use Rattle.law_log.proofs.Ones.{log_is_tied}
use Rattle.law_log.proofs.Shown.{AreShown}
use Rattle.law_log.proofs.Written.{log_shows_settled}
use Rattle.law_headline.proofs.All.{whole-always}
use Rattle.law_headline.proofs.Headlines.{headline_always}
use Rattle.law_headline.proofs.Promises.{stands-always}
use Rattle.law_causes.proofs.Values.{runs_always}
use Rattle.law_causes.specs.Values.{RunsAreOfValues, gives_value}
use Rattle.scenario_run.proofs.Leading.{IsLedTo, led-shape}
use Rattle.run_verify.specs.Checked.{ArePlaced}
use Rattle.run_verify.specs.Updates.{StandRight, StandsRight, brings_value, updates_by}
use Rattle.law_transcripts.proofs.PlacedGrow.{Begins, begins-alike}
use Rattle.law_transcripts.proofs.Telling.{places_of}

-- ---- as many runs as updates

runs-shown : (s : Dimensions) (d : ℕ) (store : Store) (us : List Update) (ls : List Logged) → AreShown s d store us ls
    → map (λ l. l.run) ls ≡ map (λ u. run_of u.body) us
runs-shown s d store [] [] shown = refl
runs-shown s d store [] (l ∷ ls) shown = absurd shown
runs-shown s d store (u ∷ us) [] shown = absurd shown
runs-shown s d store (u ∷ us) (l ∷ ls) shown =
    ap₂ (λ (r : Option Run) (rs : List (Option Run)). r ∷ rs) (sym shown.0.logged.run) (runs-shown s d (store_with_update s d u store) us ls shown.1)

numbers-after : (s : Dimensions) (es : List Event) → IsRun s es → (d : ℕ) → d < s.k
    → map (λ l. l.run) (updates_of (after s es) d) ≡ at [] (after s es).places d
numbers-after s es run d low =
    let always : StandsAlways s = stands-always s (whole-always s) in
    runs-shown s d (no_store s) (at [] (book_of s es).history.settled d) (updates_of (after s es) d) (log_shows_settled s always es run d low).updates
    ∙ sym ((log_is_tied s always es run).placed d)

-- the runs of a partition's updates, by number, are its places
pub numbers-are : (s : Dimensions) (w : World) (d : ℕ) → IsLedTo s w → d < s.k → map (λ l. l.run) (updates_of w d) ≡ at [] w.places d
numbers-are s w d led low = subst (λ (v : World). map (λ l. l.run) (updates_of v d) ≡ at [] v.places d) (sym led.is)
    (numbers-after s led.events led.run d low)

counts-are : (k d : ℕ) (t : Contents) (runs : List (Option Run)) (es : List Entry) → count_in k d es ≡ length (updates_from k d t runs es)
counts-are k d t runs [] = refl
counts-are k d t runs (e ∷ es) = by (is_update_of k d e) u (λ r. counts-are k d (table_after t e.op) r es) where
  u : Logged
  u = record { entry = e; run = next_run runs; item = (table_after t e.op).items (key_of e.op.act) }

  by : (b : Bool) (u : Logged) → ((r : List (Option Run)) → count_in k d es ≡ length (updates_from k d (table_after t e.op) r es))
      → one_if b (count_in k d es) ≡ length (front_if b u (updates_from k d (table_after t e.op) (runs_left b runs) es))
  by true u same = ap suc (same (runs_left true runs))
  by false u same = same (runs_left false runs)

-- places that begin with those of a group leave its updates as they are
pub updates-stay : (s : Dimensions) (w : World) (d : ℕ) (runs : List (Option Run)) → IsLedTo s w → d < s.k → Begins (at [] w.places d) runs
    → updates_from s.k d (empty_table s.k) runs w.log ≡ updates_of w d
updates-stay s w d runs led low begins =
    ap (λ (r : List (Option Run)). updates_from s.k d (empty_table s.k) r w.log) begins.is
    ∙ updates-runs s.k d (empty_table s.k) (at [] w.places d) begins.rest w.log (omega (arith, many, counted))
    ∙ same
  where
    same : updates_from s.k d (empty_table s.k) (at [] w.places d) w.log ≡ updates_of w d
    same = ap (λ (t : Dimensions). updates_from t.k d (empty_table t.k) (at [] w.places d) w.log) (sym (led-shape s w led))

    many : length (updates_of w d) ≡ length (at [] w.places d)
    many = sym (length-map (updates_of w d) (λ l. l.run)) ∙ ap length (numbers-are s w d led low)

    counted : count_in s.k d w.log ≡ length (updates_of w d)
    counted = counts-are s.k d (empty_table s.k) (at [] w.places d) w.log ∙ ap length same

-- ---- the runs that are told

pub at-places : (s : Dimensions) (w : World) (d : ℕ) → IsLedTo s w → d < s.k → at [] (places_of w) d ≡ at [] w.places d
at-places s w d led low =
    let small : d < w.shape.k = subst (λ (t : Dimensions). d < t.k) (sym (led-shape s w led)) low in
    let here : 0 + d ≡ d = omega arith in
    at-map-range [] (λ (d : ℕ). at [] w.places d) w.shape.k 0 d small ∙ ap (at [] w.places) here

-- the updates by the runs that are told are those of the group
updates-are : (s : Dimensions) (w : World) (d : ℕ) → IsLedTo s w → d < s.k → updates_by s (places_of w) w.log d ≡ updates_of w d
updates-are s w d led low = ap (λ (r : List (Option Run)). updates_from s.k d (empty_table s.k) r w.log) (at-places s w d led low)
    ∙ updates-stay s w d (at [] w.places d) led low (begins-alike (at [] w.places d))

-- ---- each update stands right

brings-gives : (act : Act) → gives_value act ≡ brings_value act
brings-gives (Get key) = refl
brings-gives a = refl

-- an update that has a run exactly where it brings a value, the run written where it is clear
stands-right : (w : World) (d n : ℕ) (u : Logged) → ValuesWritten w → RunsAreOfValues w → d < w.shape.k → slice_get (updates_of w d) n ≡ Some u
    → StandsRight w.shape (take n (updates_of w d)) u (brings_value u.entry.op.act)
stands-right w d n u values runs low there = by (brings_value u.entry.op.act) u.run refl (runs d n u low there ∙ brings-gives u.entry.op.act) where
  by : (b : Bool) (r : Option Run) → u.run ≡ r → is_some u.run ≡ b → StandsRight w.shape (take n (updates_of w d)) u b
  by true None is some = absurd (cc (is, some))
  by true (Some run) is some =
      let written = values.runs d n u run low there is in
      let clear = written.2 in
      (run, written.0, is, written.1, record { inside = clear.inside; long = clear.long; apart = clear.apart })
  by false None is none = is
  by false (Some run) is none = absurd (cc (is, none))

-- so do all of them
stand-right : (s : Dimensions) (before us : List Logged)
    → ((n : ℕ) (u : Logged) → slice_get us n ≡ Some u → StandsRight s (before ++ take n us) u (brings_value u.entry.op.act))
    → StandRight s before us
stand-right s before [] each = tt
stand-right s before (u ∷ us) each = (
  subst (λ (b : List Logged). StandsRight s b u (brings_value u.entry.op.act)) (append-nil before) (each 0 u refl),
  stand-right s (before ++ u ∷ []) us
      (λ n v there. subst (λ (b : List Logged). StandsRight s b v (brings_value v.entry.op.act))
      (sym (append_assoc before (u ∷ []) (take n us))) (each (suc n) v there)),
)

right-by : (s : Dimensions) (w : World) (d : ℕ) → IsLedTo s w → d < s.k → StandRight s [] (updates_of w d)
right-by s w d led low = subst (λ (t : Dimensions). StandRight t [] (updates_of w d)) shape
    (stand-right w.shape [] (updates_of w d) (λ n u there. stands-right w d n u values runs (subst (λ (t : Dimensions). d < t.k) (sym shape) low) there))
  where
    shape : w.shape ≡ s
    shape = led-shape s w led

    values : ValuesWritten w
    values = subst ValuesWritten (sym led.is) (headline_always s led.events led.run).values

    runs : RunsAreOfValues w
    runs = subst RunsAreOfValues (sym led.is) (runs_always s led.events led.run)

pub are-placed : (s : Dimensions) (w : World) → IsLedTo s w → ArePlaced s w.log (places_of w)
are-placed s w led = record {
  partitions = length-map-range_with_len (λ (d : ℕ). at [] w.places d) 0 w.shape.k ∙ ap (λ (t : Dimensions). t.k) (led-shape s w led);
  numbers = λ d low. ap (map (λ u. u.run)) (updates-are s w d led low) ∙ numbers-are s w d led low ∙ sym (at-places s w d led low);
  right = λ d low. subst (StandRight s []) (sym (updates-are s w d led low)) (right-by s w d led low);
}
