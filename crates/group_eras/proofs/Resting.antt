-- A group at rest: while only gets are asked nothing more is settled.
use Rattle.std.proofs.Common.{ℕ, ◌≡◌, ◌<◌, ◌+◌, true, false, List, [], ◌∷◌, ◌++◌, length, Option, Some, None, refl, sym, ap, subst, ◌∙◌, arith}
use Rattle.std.specs.Prelude.{slice_index}
use Rattle.std.proofs.lemmas.List.{append_assoc, append-nil, take_all}
use Rattle.group_types.specs.Dimensions.{Dimensions, space_of}
use Rattle.group_types.specs.Each.{Each}
use Rattle.group_types.specs.Hash.{home_of}
use Rattle.group_types.specs.Lists.{at}
use Rattle.group_types.specs.Names.{IsProcess, of_rank}
use Rattle.group_types.specs.Shape.{IsShape}
use Rattle.group_types.specs.declared.process.ProcessId.{ProcessId}
use Rattle.memc_table.specs.Act.{key_of}
use Rattle.memc_table.specs.Asked.{Asked}
use Rattle.memc_table.specs.Contents.{Contents, empty_table}
use Rattle.memc_table.specs.Ruling.{ruling_of}
use Rattle.memc_table.specs.declared.act.Act.{Act}
use Rattle.memc_table.specs.declared.act.Act.TheVariants.{Get}
use Rattle.memc_table.specs.declared.holding.Holding.{Holding}
use Rattle.memc_table.specs.declared.reply.Reply.{Reply}
use Rattle.memc_table.specs.declared.ruling.Ruling.{Ruling}
use Rattle.memc_table.specs.declared.ruling.Ruling.TheVariants.{Accepted, Refused}
use Rattle.item_index.specs.declared.slot.Slot.{Slot}
use Rattle.group_types.specs.declared.run.Run.{Run}
use Rattle.group_message.specs.declared.update.Update.{Update}
use Rattle.group_calls.specs.Log.{table_of}
use Rattle.group_calls.specs.Turns.{CallName}
use Rattle.group_calls.specs.declared.decision.Decision.{Decision}
use Rattle.group_calls.specs.declared.decision.Decision.TheVariants as decides
use Rattle.group_calls.specs.declared.event.Event.{Event}
use Rattle.group_calls.specs.declared.event.Event.TheVariants.{Ask, Collect, Deliver, Fail, Flush, Trace}
use Rattle.group_run.specs.Applying.{head_at, replica_of}
use Rattle.group_run.specs.Asking.{found_at}
use Rattle.group_run.specs.Deciding.{Bytes, Found, Missing, blind_reply, decide, decide_blind, decide_found}
use Rattle.group_run.specs.Deciding.{decide_ruled, decide_waiting, item_found, slot_length, run_needed, ruling_with}
use Rattle.group_run.specs.Deciding.{unseen, waits_for}
use Rattle.group_run.specs.Headline.{IsRun, MayCome}
use Rattle.group_run.specs.History.{History, history, prolonged}
use Rattle.group_run.specs.Meaning.{HasTakenOver, Heads, IsDown, IsDrained, is_dead, process_of}
use Rattle.group_run.specs.Process.{Head}
use Rattle.group_run.specs.Replica.{Replica, items_after, number_on, slot_in}
use Rattle.group_run.specs.World.{World, after, next_name}
use Rattle.law_moves.specs.State.{State, state_of}
use Rattle.law_moves.proofs.Events.{FramedHistory}
use Rattle.law_moves.proofs.Settled.{settled-at}
use Rattle.law_histories.specs.Laws.{IsFinished, IsHeaded}
use Rattle.law_histories.proofs.Applies.{settled-begins}
use Rattle.law_histories.proofs.Finished.{IsEmpty, reached-and-told}
use Rattle.law_histories.proofs.Headed.{headed_always, rank-in}
use Rattle.law_histories.proofs.Issuing.{IssueKeeps}
use Rattle.law_histories.proofs.LaneWords.{Prolongs}
use Rattle.law_histories.proofs.Lanes.{begins-trans}
use Rattle.law_histories.proofs.Quiet.{finished_always}
use Rattle.law_histories.proofs.Told.{Told}
use Rattle.law_histories.proofs.ToldKeeping.{Reached}
use Rattle.law_updates.specs.Store.{held, store_after}
use Rattle.law_log.specs.Book.{Book, book_of, no_book}
use Rattle.law_log.proofs.Books.{book-append, book-framed, book-history, book-shape, book-world, run-push}
use Rattle.law_log.proofs.Logging.{LogsOf, logs_always}
use Rattle.law_log.proofs.Tables.{home-below}
use Rattle.law_log.proofs.Ties.{Ties}
use Rattle.law_headline.proofs.All.{whole-always}
use Rattle.law_headline.proofs.Promises.{stands-always}
use Rattle.group_eras.proofs.Fronts.{AllUpto, Upto, head-history, head-items, rest-upto, upto-ask, upto-deliver}

-- a get is never issued
abbrev pub IsGet : Act → Type 0
IsGet (Get key) = Unit {0}
IsGet _ = ⊥

abbrev NotIssued : Decision → Type 0
NotIssued (decides.Issue body outcome) = ⊥
NotIssued _ = Unit {0}

get-decides : (space inherited : ℕ) (r : Replica) (op : Asked) (read : Run → Found) → IsGet op.act → NotIssued (decide space inherited r op read)
get-decides space inherited r op read get = by (waits_for inherited op.act (number_on r.log (key_of op.act))) where
  slot : Option Slot
  slot = slot_in r.items (key_of op.act)

  refuses : (act : Act) (y : Option Holding) (n : ℕ) → IsGet act → (reply : Reply) × (ruling_of op.moment n act y ≡ Refused reply)
  refuses (Get key) None n get = (_, refl)
  refuses (Get key) (Some h) n get = (_, refl)
  refuses act y n get = absurd get

  ruled : (x : Ruling) → (reply : Reply) × (x ≡ Refused reply) → NotIssued (decide_ruled space r op read x)
  ruled (Refused reply) is = tt
  ruled (Accepted reply leaves) is = absurd (cc is.1)

  refused : (o : Option Slot) (bytes : List ℕ) → (reply : Reply) × (ruling_with r op o bytes ≡ Refused reply)
  refused None bytes = refuses op.act None _ get
  refused (Some x) bytes = refuses op.act _ _ get

  found : (f : Found) → NotIssued (decide_found space r op read slot f)
  found (Missing b) = tt
  found (Bytes bytes) = ruled (ruling_with r op slot bytes) (refused slot bytes)

  blind : (o : Option Reply) → NotIssued (decide_blind space r op read slot o)
  blind (Some reply) = tt
  blind None = found (item_found read slot (run_needed op slot))

  by : (o : Option ℕ) → NotIssued (decide_waiting space r op read slot o)
  by (Some n) = tt
  by None = blind (blind_reply (slot_length slot) (ruling_with r op slot (unseen slot)))

pub get-keeps : (F : ℕ → ℕ → List Update → Type 0) (s : Dimensions) (v : State) (p : ProcessId) (name : CallName)
    (op : Asked) → IsGet op.act → IssueKeeps F s v p name op
get-keeps F s v p name op get h body outcome heads is =
    let d : ℕ = home_of (key_of op.act) s.k in
    absurd (subst NotIssued is (get-decides (space_of s) h.inherited (replica_of (v.process p) d) op (found_at s d (v.process p) (v.process p).name) get))

-- a get, or a delivery
abbrev pub IsStill : Event → Type 0
IsStill (Ask caller op p) = IsGet op.act
IsStill (Deliver from to) = Unit {0}
IsStill _ = ⊥

-- a group at rest, after a run
pub record Rests (s : Dimensions) (es : List Event) : Type 0 where
  pub run : IsRun s es
  pub drained : IsDrained (after s es)
  pub up : ¬ (IsDown (after s es))

abbrev pub settled_of : Dimensions → List Event → ℕ → List Update
settled_of s es d = at [] (book_of s es).history.settled d

abbrev pub state_at : Dimensions → List Event → State
state_at s es = state_of (book_of s es).history

module _ (h : History) (reached : Reached h.world.shape (state_of h)) (told : Told h.world.shape (state_of h))
    (drained : IsDrained h.world) (headed : IsHeaded h.world) (finished : IsFinished h.world) where
  empty : IsEmpty h.world.shape (state_of h)
  empty from to fin tin living apart = drained from to fin (tin, living) apart

  abbrev pub heads-at-rest : (d : ℕ) → d < h.world.shape.k
      → (r : ℕ) × (is_dead h.world (of_rank d r) ≡ false) × IsProcess h.world.shape (of_rank d r)
      × ((q : ℕ) → q < r → is_dead h.world (of_rank d q) ≡ true)
      × ((x : Head) × (head_at (process_of h.world (of_rank d r)) d ≡ Some x))
  heads-at-rest d below =
      let head = headed d below in
      let one = finished d head.0 below head.1 in
      (head.0, head.1.lives, rank-in h.world.shape d head.0 below head.1.within, head.1.lowest, (one.0, one.1))

  pub history-items : (d : ℕ) (below : d < h.world.shape.k)
      → (replica_of (process_of h.world (of_rank d (headed d below).0)) d).items ≡ items_after [] (at [] h.settled d)
  history-items d below = head-items h.world.shape (state_of h) reached told empty heads-at-rest d below

  pub history-heads : (d : ℕ) (below : d < h.world.shape.k)
      → history (at [] h.settled d) (replica_of (process_of h.world (of_rank d (headed d below).0)) d)
      ≡ at [] h.settled d
  history-heads d below = head-history h.world.shape (state_of h) reached told empty heads-at-rest d below

  pub history-rests : AllUpto (λ d. at [] h.settled d) h.world.shape (state_of h)
  history-rests = rest-upto h.world.shape (state_of h) reached told empty heads-at-rest

module _ (s : Dimensions) where
  pub rests-items : (es : List Event) (rests : Rests s es) (d : ℕ) → d < s.k → (r : ℕ) × Heads (after s es) d r
      × HasTakenOver (after s es) d r
      × ((replica_of (process_of (after s es) (of_rank d r)) d).items ≡ items_after [] (settled_of s es d))
      × (history (settled_of s es d) (replica_of (process_of (after s es) (of_rank d r)) d) ≡ settled_of s es d)
  rests-items es rests d below =
      let h : History = (book_of s es).history in
      let both = subst (λ (x : History). Reached s (state_of x) × Told s (state_of x)) (sym (book-history (no_book s) es)) (reached-and-told s es rests.run) in
      let world : h.world ≡ after s es = book-world s es in
      let shape : h.world.shape ≡ s = book-shape s es in
      let headed : IsHeaded h.world = subst IsHeaded (sym world) (headed_always s es rests.run rests.drained rests.up) in
      let low : d < h.world.shape.k = subst (λ (t : Dimensions). d < t.k) (sym shape) below in
      let items = history-items h (subst (λ (t : Dimensions). Reached t (state_of h)) (sym shape) both.0)
      (subst (λ (t : Dimensions). Told t (state_of h)) (sym shape) both.1)
      (subst IsDrained (sym world) rests.drained) headed (subst IsFinished (sym world) (finished_always s es rests.run rests.drained)) d low in
      let whole = history-heads h (subst (λ (t : Dimensions). Reached t (state_of h)) (sym shape) both.0)
      (subst (λ (t : Dimensions). Told t (state_of h)) (sym shape) both.1)
      (subst IsDrained (sym world) rests.drained) headed (subst IsFinished (sym world) (finished_always s es rests.run rests.drained)) d low in
      let r : ℕ = (headed d low).0 in (
        r,
        subst (λ (w : World). Heads w d r) world (headed d low).1,
        subst (λ (w : World). HasTakenOver w d r) world (headed d low).2,
        subst (λ (w : World). (replica_of (process_of w (of_rank d r)) d).items ≡ items_after [] (settled_of s es d)) world items,
        subst (λ (w : World). history (settled_of s es d) (replica_of (process_of w (of_rank d r)) d) ≡ settled_of s es d) world whole,
      )

  pub rests-upto : (es : List Event) → Rests s es → AllUpto (settled_of s es) s (state_at s es)
  rests-upto es rests =
      let h : History = (book_of s es).history in
      let both = subst (λ (x : History). Reached s (state_of x) × Told s (state_of x)) (sym (book-history (no_book s) es)) (reached-and-told s es rests.run) in
      let world : h.world ≡ after s es = book-world s es in
      let shape : h.world.shape ≡ s = book-shape s es in
      subst (λ (t : Dimensions). AllUpto (settled_of s es) t (state_of h)) shape
      (history-rests h (subst (λ (t : Dimensions). Reached t (state_of h)) (sym shape) both.0)
      (subst (λ (t : Dimensions). Told t (state_of h)) (sym shape) both.1)
      (subst IsDrained (sym world) rests.drained)
      (subst IsHeaded (sym world) (headed_always s es rests.run rests.drained rests.up))
      (subst IsFinished (sym world) (finished_always s es rests.run rests.drained)))

  module _ (limit : ℕ → List Update) where
    -- one event
    upto-one : (h : History) (e : Event) → FramedHistory h → IsShape h.world.shape → MayCome h.world e → IsStill e → AllUpto limit h.world.shape (state_of h)
        → AllUpto limit h.world.shape (state_of (prolonged h e))
    upto-one h (Ask caller op p) framed shaped may still all = upto-ask limit h caller op p framed shaped may
        (get-keeps (Upto limit) h.world.shape (state_of h) p (next_name h.world caller) op still) all
    upto-one h (Deliver from to) framed shaped may still all = upto-deliver limit h from to framed shaped may all
    upto-one h (Collect caller call p) framed shaped may still all = absurd still
    upto-one h (Fail p keep) framed shaped may still all = absurd still
    upto-one h (Flush p) framed shaped may still all = absurd still
    upto-one h (Trace caller call d p) framed shaped may still all = absurd still

    pub upto-book : (es : List Event) (e : Event) → IsRun s es → MayCome (after s es) e
        → ((h : History) → FramedHistory h → IsShape h.world.shape → MayCome h.world e → AllUpto limit h.world.shape
        (state_of h) → AllUpto limit h.world.shape (state_of (prolonged h e)))
        → AllUpto limit s (state_at s es) → AllUpto limit s (state_at s (es ++ e ∷ []))
    upto-book es e run may one all =
        let h : History = (book_of s es).history in
        let shape : h.world.shape ≡ s = book-shape s es in
        let next : AllUpto limit h.world.shape (state_of (prolonged h e)) =
        one h (book-framed s es run) (subst IsShape (sym shape) run.0)
        (subst (λ (w : World). MayCome w e) (sym (book-world s es)) may)
        (subst (λ (t : Dimensions). AllUpto limit t (state_of h)) (sym shape) all) in
        subst (λ (b : Book). AllUpto limit s (state_of b.history)) (sym (book-append (no_book s) es (e ∷ [])))
        (subst (λ (t : Dimensions). AllUpto limit t (state_of (prolonged h e))) shape next)

    pub upto-still : (es fs : List Event) → IsRun s (es ++ fs) → Each IsStill fs → AllUpto limit s (state_at s es) → AllUpto limit s (state_at s (es ++ fs))
    upto-still es [] run still all = subst (λ (xs : List Event). AllUpto limit s (state_at s xs)) (sym (append-nil es)) all
    upto-still es (f ∷ fs) run still all =
        let parts = run-push _ es f fs run.1 in
        let there : (es ++ f ∷ []) ++ fs ≡ es ++ f ∷ fs = append_assoc es (f ∷ []) fs in
        let now = upto-book es f (run.0, parts.0) parts.1 (λ h framed shaped may old. upto-one h f framed shaped may still.0 old) all in
        subst (λ (xs : List Event). AllUpto limit s (state_at s xs)) there (upto-still (es ++ f ∷ []) fs (subst (IsRun s) (sym there) run) still.1 now)

  -- what is settled only grows
  pub settled-grows : (es fs : List Event) (d : ℕ) → d < s.k → Prolongs (settled_of s es d) (settled_of s (es ++ fs) d)
  settled-grows es [] d below = subst (λ (xs : List Event). Prolongs (settled_of s es d) (settled_of s xs d)) (sym (append-nil es))
      (record { reaches = omega arith; front = take_all (length (settled_of s es d)) (settled_of s es d) (omega arith) })
  settled-grows es (f ∷ fs) d below =
      let h : History = (book_of s es).history in
      let there : (es ++ f ∷ []) ++ fs ≡ es ++ f ∷ fs = append_assoc es (f ∷ []) fs in
      let low : d < 0 + h.world.shape.k = let many = ap (λ (t : Dimensions). t.k) (book-shape s es) in omega (arith, below, many) in
      let one : Prolongs (settled_of s es d) (at [] (prolonged h f).settled d)
      = subst (Prolongs (settled_of s es d)) (sym (settled-at _ h.world.shape.k 0 d h.settled (omega arith) low)) (settled-begins _ d (settled_of s es d)) in
      let next : Prolongs (settled_of s es d) (settled_of s (es ++ f ∷ []) d) =
      subst (λ (b : Book). Prolongs (settled_of s es d) (at [] b.history.settled d))
      (sym (book-append (no_book s) es (f ∷ []))) one in
      begins-trans (settled_of s es d) (settled_of s (es ++ f ∷ []) d) (settled_of s (es ++ f ∷ fs) d) next
      (subst (λ (xs : List Event). Prolongs (settled_of s (es ++ f ∷ []) d) (settled_of s xs d)) there (settled-grows (es ++ f ∷ []) fs d below))

  pub both-fronts : (us vs : List Update) → Prolongs us vs → Prolongs vs us → vs ≡ us
  both-fronts us vs a b =
      sym (take_all (length us) vs (let x = b.reaches in omega (arith, x))) ∙ a.front

  -- so gets settle nothing
  pub still-settled : (es fs : List Event) → Rests s es → IsRun s (es ++ fs) → Each IsStill fs → (d : ℕ) → d < s.k
      → settled_of s (es ++ fs) d ≡ settled_of s es d
  still-settled es fs rests run still d below =
      both-fronts (settled_of s es d) (settled_of s (es ++ fs) d) (settled-grows es fs d below)
      ((upto-still (settled_of s es) es fs run still (rests-upto es rests)).2 d below)

  pub logs-of : (es : List Event) → IsRun s es → LogsOf (book_of s es)
  logs-of es run = logs_always s (stands-always s (whole-always s)) es run

  abbrev pub table_after_run : List Event → Contents
  table_after_run es = table_of (empty_table s.k) (after s es).log

  pub ties-of : (es : List Event) → IsRun s es → Ties s (book_of s es).history.settled (table_after_run es)
  ties-of es run = subst (λ (w : World). Ties s (book_of s es).history.settled (table_of (empty_table s.k) w.log)) (book-world s es)
      (subst (λ (t : Dimensions). Ties t (book_of s es).history.settled
      (table_of (empty_table t.k) (book_of s es).history.world.log)) (book-shape s es) (logs-of es run).stands.ties)

  -- the tables of runs that settle the same
  pub same-items : (es fs : List Event) → IsRun s es → IsRun s fs
      → ((d : ℕ) → d < s.k → settled_of s fs d ≡ settled_of s es d) → (key : List ℕ) → (table_after_run fs).items key
      ≡ (table_after_run es).items key
  same-items es fs run more same key =
      (ties-of fs more).items key ∙ ap (λ (us : List Update). held (store_after s (home_of key s.k) us) key)
      (same (home_of key s.k) (home-below key s.k run.0.k.0)) ∙ sym ((ties-of es run).items key)

  pub same-counts : (es fs : List Event) → IsRun s es → IsRun s fs → ((d : ℕ) → d < s.k → settled_of s fs d ≡ settled_of s es d) → (d : ℕ) → d < s.k
      → slice_index (table_after_run fs).counts d ≡ slice_index (table_after_run es).counts d
  same-counts es fs run more same d below = (ties-of fs more).counts d below ∙ ap length (same d below) ∙ sym ((ties-of es run).counts d below)
