-- Along every run the log of each living process has a frame.
use Rattle.std.proofs.Common.{◌≡◌, ◌≢◌, ◌<◌, ◌≤◌, ℕ, ◌^◌, Bool, true, false, List, [], ◌∷◌, length, ◌⊎◌, inl, inr, sym, subst, arith}
use Rattle.group_types.specs.Dimensions.{Dimensions, space_of}
use Rattle.group_types.specs.Each.{Each}
use Rattle.group_types.proofs.Eaches.{each-append, each-drop, each-weaker}
use Rattle.std.specs.Prelude.{All}
use Rattle.group_types.specs.Lists.{at}
use Rattle.group_types.proofs.Lists.{at_behind, at_index}
use Rattle.group_types.specs.Names.{IsProcess}
use Rattle.group_types.specs.Shape.{IsShape}
use Rattle.group_types.specs.declared.process.ProcessId.{ProcessId}
use Rattle.group_types.specs.declared.process.ProcessId.TheVariants.{DataNode, ParityNode}
use Rattle.std.proofs.lemmas.Bool.{cases_eq, cases_lt}
use Rattle.group_message.specs.declared.update.Update.{Update}
use Rattle.group_calls.specs.declared.event.Answer.{Answer}
use Rattle.group_calls.specs.declared.event.Event.{Event}
use Rattle.group_calls.specs.declared.event.Event.TheVariants.{Ask, Collect, Deliver, Fail, Flush, Trace}
use Rattle.group_run.specs.Applying.{replica_of}
use Rattle.group_run.specs.Fitting.{Writes}
use Rattle.group_run.specs.History.{History, history}
use Rattle.group_run.specs.Meaning.{Lives, link, process_of}
use Rattle.group_run.specs.Replica.{Replica, empty_replica, last_of}
use Rattle.group_run.specs.World.{AskedCall, World, after, call_of, group_step, is_issued}
use Rattle.law_moves.specs.State.{State, state_of}
use Rattle.law_histories.proofs.Histories.{length-history, log-is}
use Rattle.law_histories.proofs.Reach.{IsKeeper, ReplicaReaches}
use Rattle.law_updates.proofs.Steps.{no_store-fits}
use Rattle.law_updates.specs.Fine.{AreClear}
use Rattle.law_updates.specs.Store.{no_store}
use Rattle.law_log.specs.Book.{Book, book_from, book_of, booked, call_if, issued_by, no_book}
use Rattle.law_log.proofs.Books.{book-shape, book-world}
use Rattle.law_log.proofs.Calls.{AreAsked, asked_always}
use Rattle.law_headline.proofs.All.{whole-always}
use Rattle.law_headline.proofs.Always.{sound-always}
use Rattle.law_headline.proofs.Sound.{LinksSound}
use Rattle.law_headline.proofs.Issues.{FineIn}
use Rattle.law_headline.proofs.Joint.{Whole}
use Rattle.law_answers.specs.Numbers.{NumbersAreLow}
use Rattle.law_answers.proofs.Numbers.{numbers_low_always}
use Rattle.wire_codec.specs.Fits.{FitsUpdate}
use Rattle.link_frames.specs.Limits.{FitsAsked}
use Rattle.law_frames.specs.Laws.{FitsEvent, HasFrameIfTelling, LogHasFrames, LogsHaveFrames, TellingsHaveFrames}
use Rattle.law_frames.proofs.Between.{tellings}
use Rattle.law_frames.proofs.Apart.{total-few}
use Rattle.law_frames.proofs.Sizes.{adopt-frame, update-frame, written-few}
use Rattle.law_frames.proofs.Updates.{CallFits, UpdateFits, steps-fit}

keeper-cases : (d : ℕ) (p : ProcessId) → IsKeeper d p ⊎ (¬ (IsKeeper d p))
keeper-cases d (ParityNode i) = inl tt
keeper-cases d (DataNode e) = cases_eq e d

-- an issued call is one that was asked, and what was asked fits
call-if-fits : (b : Bool) (c : AskedCall) → FitsAsked c.op → Each (λ x. FitsAsked x.op) (call_if b c)
call-if-fits true c fits = (fits, tt)
call-if-fits false c fits = tt

event-fits : (w : World) (e : Event) (answer : Answer) → FitsEvent e → Each (λ x. FitsAsked x.op) (issued_by (call_of w e) answer)
event-fits w (Ask caller op p) answer fits = call-if-fits (is_issued answer) (record { name = _; op = op }) fits
event-fits w (Collect caller call p) answer fits = tt
event-fits w (Deliver from to) answer fits = tt
event-fits w (Fail p keep) answer fits = tt
event-fits w (Flush p) answer fits = tt
event-fits w (Trace caller call d p) answer fits = tt

issued-fit : (b : Book) (es : List Event) → Each (λ x. FitsAsked x.op) b.issued → Each FitsEvent es → Each (λ x. FitsAsked x.op) (book_from b es).issued
issued-fit b [] before all = before
issued-fit b (e ∷ es) before all =
    issued-fit (booked b e) es
    (each-append (λ x. FitsAsked x.op) b.issued
    (issued_by (call_of b.history.world e) (group_step b.history.world e).answer) before
    (event-fits b.history.world e (group_step b.history.world e).answer all.0)) all.1

calls-fit : (asked : List ℕ) (calls : List AskedCall) → ((caller : ℕ) → at 0 asked caller < 2 ^ 64) → AreAsked asked calls
    → Each (λ x. FitsAsked x.op) calls → Each CallFits calls
calls-fit asked [] low there all = tt
calls-fit asked (c ∷ cs) low there all = (
  (all.0, (let last = there.0 in let few = low c.name.caller in omega (arith, last, few))),
  calls-fit asked cs low there.1 all.1,
)

module _ (s : Dimensions) (shaped : IsShape s) (calls : List AskedCall) (fits : Each CallFits calls) (r d : ℕ)
    (is_r : r ≤ s.m) (is_d : d < s.k) (settled : List Update) where
  -- a replica of a fine history
  fine-frames : (replica : Replica) → replica.applied ≤ length settled → length replica.log ≤ 256
      → last_of replica < 2 ^ 64 → FineIn s calls d replica.applied (history settled replica) → LogHasFrames r d replica
  fine-frames replica applied short low fine =
      let few_r = shaped.m in
      let few_d = shaped.k.1 in
      let space = shaped.blocks.1 in
      let long = length-history settled replica applied in
      let all : Each (UpdateFits s shaped calls fits d) (history settled replica) =
      steps-fit s shaped calls fits d 0 (no_store s) (history settled replica) (omega (arith, long, low)) (no_store-fits s) tt fine.steps in
      let mine : Each (UpdateFits s shaped calls fits d) replica.log =
      subst (Each (UpdateFits s shaped calls fits d)) (log-is settled replica applied)
      (each-drop (UpdateFits s shaped calls fits d) replica.applied (history settled replica) all) in
      let small = total-few (space_of s) _ replica.log
      (each-weaker (UpdateFits s shaped calls fits d) (λ u. Writes (space_of s) u.body) (λ u both. both.1) replica.log
      mine)
      (subst (AreClear _) (log-is settled replica applied) fine.clear) in
      record {
        adopt = adopt-frame r d replica.applied replica.log (omega (arith, is_r, few_r)) (omega (arith, is_d, few_d)) (omega (arith, low)) short
            (each-weaker (UpdateFits s shaped calls fits d) FitsUpdate (λ u both. both.0) replica.log mine) (omega (arith, small, space));
        updates = λ stable below. each-weaker (UpdateFits s shaped calls fits d) _ (λ u both.
            update-frame r d stable u (omega (arith, is_r, few_r)) (omega (arith, is_d, few_d))
            (omega (arith, below, low)) both.0 (let few = written-few (space_of s) u.body both.1 in
            omega (arith, few, space))) replica.log mine;
      }

-- of a group, beside the calls whose updates were issued
state-frames : (s : Dimensions) → IsShape s → (calls : List AskedCall) (v : State) → Whole s calls v → Each CallFits calls
    → (p : ProcessId) (r d : ℕ) → IsProcess s p → v.dead p ≡ false → r ≤ s.m → d < s.k
    → last_of (replica_of (v.process p) d) < 2 ^ 64 → LogHasFrames r d (replica_of (v.process p) d)
state-frames s shaped calls v whole fits p r d pin lives is_r is_d low = by (keeper-cases d p) where
  by : IsKeeper d p ⊎ (¬ (IsKeeper d p)) → LogHasFrames r d (replica_of (v.process p) d)
  by (inl keeps) =
      let reached : ReplicaReaches (FineIn s calls) d (v.settled d) (v.process p) = (whole.reach d is_d).replicas p pin lives keeps in
      fine-frames s shaped calls fits r d is_r is_d (v.settled d) (replica_of (v.process p) d) reached.applied reached.short low reached.fine.1
  by (inr not) =
      let few_r = shaped.m in
      let few_d = shaped.k.1 in
      subst (LogHasFrames r d) (sym (whole.unkept p d pin lives is_d not))
      (record {
        adopt = adopt-frame r d 0 [] (omega (arith, is_r, few_r)) (omega (arith, is_d, few_d)) (omega arith)
            (omega arith) tt (omega arith);
        updates = λ stable below. tt;
      })

pub low-at : (n : ℕ) (replicas : List Replica) (d : ℕ) → All (λ r. last_of r ≤ n) replicas → last_of (at empty_replica replicas d) ≤ n
low-at n replicas d all = by (cases_lt d (length replicas)) where
  by : (d < length replicas) ⊎ (length replicas ≤ d) → last_of (at empty_replica replicas d) ≤ n
  by (inl below) = subst (λ (r : Replica). last_of r ≤ n) (sym (at_index empty_replica empty_replica replicas d below)) (all d empty_replica below)
  by (inr behind) = subst (λ (r : Replica). last_of r ≤ n) (sym (at_behind empty_replica replicas d behind)) (omega arith)

-- of a group, in its own words
world-frames : (s : Dimensions) → IsShape s → (h : History) (calls : List AskedCall) → h.world.shape ≡ s
    → Whole s calls (state_of h) → Each (λ x. FitsAsked x.op) calls → AreAsked h.world.asked calls
    → NumbersAreLow h.world
    → h.world.events < 2 ^ 64 → (p : ProcessId) (r d : ℕ) → Lives h.world p → r ≤ s.m → d < s.k → LogHasFrames r d (replica_of (process_of h.world p) d)
world-frames s shaped h calls shape whole all there low few p r d lives is_r is_d =
    let most = low-at h.world.events (process_of h.world p).replicas d (low.updates p lives) in
    state-frames s shaped calls (state_of h) whole
    (calls-fit h.world.asked calls (λ caller. (let most = low.calls caller in omega (arith, most, few))) there all)
    p r d
    (subst (λ (t : Dimensions). IsProcess t p) shape lives.0) lives.1 is_r is_d (omega (arith, most, few))

pub logs_have_frames : LogsHaveFrames
logs_have_frames s es run all few p r d lives is_r is_d =
    let same : (book_of s es).history.world ≡ after s es = book-world s es in
    subst (λ (w : World). LogHasFrames r d (replica_of (process_of w p) d)) same
    (world-frames s run.0 (book_of s es).history (book_of s es).issued (book-shape s es) (whole-always s es run)
    (issued-fit (no_book s) es tt all) (asked_always s es run)
    (subst NumbersAreLow (sym same) (numbers_low_always s es run))
    (subst (λ (w : World). w.events < 2 ^ 64) (sym same) few) p r d
    (subst (λ (w : World). Lives w p) (sym same) lives) is_r is_d)

-- between two living processes of a group, in its own words
world-tellings : (s : Dimensions) → IsShape s → (h : History) (calls : List AskedCall) → h.world.shape ≡ s
    → Whole s calls (state_of h) → LinksSound s (state_of h) → Each (λ x. FitsAsked x.op) calls
    → AreAsked h.world.asked calls
    → NumbersAreLow h.world → h.world.events < 2 ^ 63 → (from to : ProcessId) → Lives h.world from → Lives h.world to
    → from ≢ to → Each HasFrameIfTelling (link h.world from to)
world-tellings s shaped h calls shape whole sound all there low few from to fin tin apart =
    tellings s shaped calls
    (calls-fit h.world.asked calls (λ caller. (let most = low.calls caller in omega (arith, most, few))) there all)
    (state_of h) whole sound h.world.events few
    (λ p d pin lives. low-at h.world.events (process_of h.world p).replicas d
    (low.updates p (subst (λ (t : Dimensions). IsProcess t p) (sym shape) pin, lives)))
    from to (subst (λ (t : Dimensions). IsProcess t from) shape fin.0) (subst (λ (t : Dimensions). IsProcess t to) shape tin.0) apart fin.1 tin.1

pub tellings_have_frames : TellingsHaveFrames
tellings_have_frames s es run all few from to fin tin apart =
    let same : (book_of s es).history.world ≡ after s es = book-world s es in
    subst (λ (w : World). Each HasFrameIfTelling (link w from to)) same
    (world-tellings s run.0 (book_of s es).history (book_of s es).issued (book-shape s es) (whole-always s es run)
    (sound-always s (whole-always s) es run) (issued-fit (no_book s) es tt all) (asked_always s es run)
    (subst NumbersAreLow (sym same) (numbers_low_always s es run))
    (subst (λ (w : World). w.events < 2 ^ 63) (sym same) few) from to
    (subst (λ (w : World). Lives w from) (sym same) fin)
    (subst (λ (w : World). Lives w to) (sym same) tin) apart)
