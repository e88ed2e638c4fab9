-- The set of a fresh key, in a group at rest of which no process is dead, is issued, and settled once the group is
-- drained.
use Rattle.std.proofs.Common.{ℕ, ℤ, zero, suc, ◌≡◌, ◌<◌, ◌≤◌, ◌+◌, Bool, false, List, [], ◌∷◌, ◌++◌, length, Option}
use Rattle.std.proofs.Common.{Some, None, if◌then◌else◌, ◌⊎◌, inl, inr, refl, sym, ap, subst, ◌∙◌, arith}
use Rattle.group_types.proofs.Eaches.{each-weaker}
use Rattle.group_eras.proofs.Lists.{take-front, take-whole}
use Rattle.std.specs.Prelude.{All, Contains, slice_get, take}
use Rattle.std.proofs.lemmas.List.{append_assoc, append-nil}
use Rattle.std.proofs.lemmas.List.Elements.{Contains-append_right}
use Rattle.group_types.specs.Dimensions.{Dimensions, space_of}
use Rattle.group_types.specs.Each.{Each}
use Rattle.group_types.specs.Hash.{home_of}
use Rattle.group_types.specs.Lists.{at}
use Rattle.group_types.specs.Names.{IsProcess, of_rank}
use Rattle.group_types.specs.declared.process.ProcessId.{ProcessId}
use Rattle.group_types.specs.declared.process.ProcessId.TheVariants.{DataNode}
use Rattle.memc_table.specs.Asked.{Asked}
use Rattle.memc_table.specs.Contents.{count_of}
use Rattle.memc_table.specs.Expiry.{until_of}
use Rattle.memc_table.specs.declared.holding.Holding.{Holding}
use Rattle.memc_table.specs.declared.reply.Reply.TheVariants as reply
use Rattle.group_message.specs.declared.update.Update.{Update}
use Rattle.group_calls.specs.Turns.{CallName, Turn, asks_of, call_entry}
use Rattle.group_calls.specs.Within.{IsAsk}
use Rattle.group_calls.specs.declared.entry.Entry.{Entry}
use Rattle.group_calls.specs.declared.event.Answer.{Answer}
use Rattle.group_calls.specs.declared.event.Answer.TheVariants as says
use Rattle.group_calls.specs.declared.event.Cause.TheVariants as cause
use Rattle.group_calls.specs.declared.event.Event.{Event}
use Rattle.group_calls.specs.declared.event.Event.TheVariants.{Ask, Collect, Deliver, Fail, Flush, Trace}
use Rattle.run_alloc.specs.Free.{NoPlace}
use Rattle.group_run.specs.Applying.{head_at, held_at, replica_of}
use Rattle.group_run.specs.Causes.{AskCause, FindsNoRun, IsDelivery, IsReady, home_in, replica_for, table_now}
use Rattle.group_run.specs.Free.{is_free}
use Rattle.group_run.specs.Headline.{IsRun, IsRunFrom, MayCome}
use Rattle.group_run.specs.History.{history}
use Rattle.group_run.specs.Meaning.{Heads, IsDown, is_dead, process_of}
use Rattle.group_run.specs.Process.{Head, Held}
use Rattle.group_run.specs.Replica.{items_after}
use Rattle.group_run.specs.World.{World, after, next_name, opening, step, turns_of, update_name}
use Rattle.law_moves.proofs.Reading.{grown-is}
use Rattle.law_histories.proofs.Quiet.{asked_always, finished_always}
use Rattle.law_updates.proofs.Keys.{key-refl}
use Rattle.law_log.specs.Book.{book_of}
use Rattle.law_log.proofs.Books.{book-world}
use Rattle.law_log.proofs.Calls.{each-contained}
use Rattle.law_log.proofs.Held.{held-book}
use Rattle.law_log.proofs.HeldWords.{HeldStand, IsHeldOf}
use Rattle.law_log.proofs.Ties.{EntryStands}
use Rattle.law_log.proofs.Turnings.{get-last}
use Rattle.law_headline.proofs.Headlines.{headline_always}
use Rattle.law_answers.proofs.Asks.{asks_always}
use Rattle.law_answers.proofs.Entries.{after-more, turns-more}
use Rattle.law_causes.specs.Calls.{HoldsTicket, IsCollected}
use Rattle.law_causes.proofs.Calls.{tickets_held_always}
use Rattle.law_causes.proofs.Lasting.{held_last_always}
use Rattle.group_eras.specs.Carry.{draining}
use Rattle.group_eras.specs.Eras.{carrier}
use Rattle.group_eras.proofs.Draining.{Delivers, NoFailure, after-is, dead-after, dead-still, delivers, delivery-still}
use Rattle.group_eras.proofs.Draining.{drained-rests, more-run, more-up, shape-after, still-none}
use Rattle.group_eras.proofs.Issues.{IsReadyAt}
use Rattle.group_eras.proofs.Making.{asked-among}
use Rattle.group_eras.proofs.Asking.{among-all, turns-long}
use Rattle.group_eras.proofs.Naming.{log-grows}
use Rattle.group_eras.proofs.Piling.{Piled, some-place}
use Rattle.group_eras.proofs.Resting.{Rests, logs-of, rests-items, rests-upto, settled_of, state_at}
use Rattle.group_eras.proofs.Sets.{put_op}

-- no process is dead
abbrev pub AllLive : Dimensions → List Event → Type 0
AllLive s es = (p : ProcessId) → is_dead (after s es) p ≡ false

-- the data process of a partition heads it, and all is settled
pub record FirstHeads (s : Dimensions) (es : List Event) (d : ℕ) : Type 0 where
  pub heads : Heads (after s es) d 0
  pub head : Head
  pub seated : head_at (process_of (after s es) (DataNode d)) d ≡ Some head
  pub ready : IsReadyAt (after s es) d (settled_of s es d)

pub first-heads : (s : Dimensions) (es : List Event) → Rests s es → AllLive s es → (d : ℕ) → d < s.k → FirstHeads s es d
first-heads s es rests live d below =
    let all = rests-items s es rests d below in
    by all.0 all.1 all.3 all.4
  where
    low : d < (after s es).shape.k
    low = subst (λ (t : Dimensions). d < t.k) (sym (shape-after (opening s) es)) below

    named : (process_of (after s es) (DataNode d)).name ≡ DataNode d
    named = subst (λ (w : World). (process_of w (DataNode d)).name ≡ DataNode d) (book-world s es) ((rests-upto s es rests).0.named (DataNode d) below)

    by : (r : ℕ) → Heads (after s es) d r → (replica_of (process_of (after s es) (of_rank d r)) d).items ≡ items_after [] (settled_of s es d)
        → history (settled_of s es d) (replica_of (process_of (after s es) (of_rank d r)) d) ≡ settled_of s es d → FirstHeads s es d
    by zero heads items whole =
        let done = finished_always s es rests.run rests.drained d 0 low heads in
        record {
          heads = heads;
          head = done.0;
          seated = done.1;
          ready = record { quiet = done.2; items = items; whole = whole; name = named };
        }
    by (suc i) heads items whole = absurd (cc (heads.lowest 0 (omega arith), live (DataNode d)))

-- held calls last while messages are delivered
held-lasts : (s : Dimensions) (es fs : List Event) (p : ProcessId) (d : ℕ) (h : Held) → IsProcess s p → IsRun s es
    → IsRunFrom (after s es) fs → Each IsDelivery fs
    → Contains (held_at (process_of (after s es) p) d) h → Contains (held_at (process_of (after s (es ++ fs)) p) d) h
held-lasts s es [] p d h pin run more all there = subst (λ (xs : List Event). Contains (held_at (process_of (after s xs) p) d) h) (sym (append-nil es)) there
held-lasts s es (f ∷ fs) p d h pin run more all there =
    let next : after s (es ++ f ∷ []) ≡ (step (after s es) f).world = after-more (opening s) es f in
    let last = held_last_always s es run f p d h more.0 (subst (λ (t : Dimensions). IsProcess t p) (sym (shape-after (opening s) es)) pin) there in
    let now : Contains (held_at (process_of (after s (es ++ f ∷ [])) p) d) h =
    subst (λ (w : World). Contains (held_at (process_of w p) d) h) (sym next) (kept f all.0 last) in
    subst (λ (xs : List Event). Contains (held_at (process_of (after s xs) p) d) h) (append_assoc es (f ∷ []) fs)
    (held-lasts s (es ++ f ∷ []) fs p d h pin (more-run s es f run more.0) (subst (λ (w : World). IsRunFrom w fs) (sym next) more.1) all.1 now)
  where
    kept : (e : Event) → IsDelivery e → Contains (held_at (process_of (step (after s es) e).world p) d) h ⊎ IsCollected e p h (step (after s es) e).turn.answer
        → Contains (held_at (process_of (step (after s es) e).world p) d) h
    kept e is (inl stays) = stays
    kept (Deliver from to) is (inr collected) = absurd collected
    kept (Ask caller op q) is (inr collected) = absurd is
    kept (Collect caller call q) is (inr collected) = absurd is
    kept (Fail q keep) is (inr collected) = absurd is
    kept (Flush q) is (inr collected) = absurd is
    kept (Trace caller call e q) is (inr collected) = absurd is

-- an update of a call
pub record HasNamed (us : List Update) (name : CallName) : Type 0 where
  pub update : Update
  pub there : Contains us update
  pub named : update_name update ≡ name

module _ (s : Dimensions) (es : List Event) (rests : Rests s es) (live : AllLive s es) (d : ℕ) (below : d < s.k)
    (total : ℕ) (piled : Piled total (items_after [] (settled_of s es d)))
    (key : List ℕ) (home : home_of key s.k ≡ d) (flags : ℕ) (expiry : ℤ) (value : List ℕ)
    (bytes : All (λ b. b < 256) value) (fits : total + length value ≤ space_of s) where
  abbrev w : World
  w = after s es

  abbrev op : Asked
  op = put_op key flags expiry value

  abbrev pub put_event : Event
  put_event = Ask carrier (put_op key flags expiry value) (DataNode d)

  abbrev pub put_name : CallName
  put_name = next_name (after s es) carrier

  shape : w.shape ≡ s
  shape = shape-after (opening s) es

  pin : IsProcess w.shape (DataNode d)
  pin = subst (λ (t : Dimensions). d < t.k) (sym shape) below

  pub may-put : MayCome (after s es) put_event
  may-put = (omega arith, pin, bytes)

  first : FirstHeads s es d
  first = first-heads s es rests live d below

  here : home_in w op ≡ d
  here = ap (λ (t : Dimensions). home_of key t.k) shape ∙ home

  -- what the set is answered
  pub data Issued (answer : Answer) : Type 0 where
    Replied : answer ≡ says.Reply reply.Stored → Issued answer
    Ticketed : (n : ℕ) → answer ≡ says.Ticket n → Issued answer

  ready : IsReady w (DataNode d) (home_in w op)
  ready = subst (λ (e : ℕ). IsReady w (DataNode d) e) (sym here)
      (record {
        rank = 0;
        name = refl;
        heads = first.heads;
        taken_over = λ q from lower fin apart has.
            absurd (omega (arith, lower));
      })

  no-room : FindsNoRun w (DataNode d) op → ⊥
  no-room finds = some-place (space_of s) total (replica_of (process_of w (DataNode d)) d)
      (subst (Piled total) (sym first.ready.items) piled) first.ready.quiet (length value)
      (subst (λ (xs : List ℕ). 0 < length xs) same finds.some) fits
      (subst (λ (xs : List ℕ). NoPlace (space_of s) (is_free (space_of s) (replica_of (process_of w (DataNode d)) d)) (length xs)) same
      (subst (λ (e : ℕ). NoPlace (space_of s) (is_free (space_of s) (replica_of (process_of w (DataNode d)) e)) (length finds.value.item.value)) here
      (subst (λ (t : Dimensions). NoPlace (space_of t) (is_free (space_of t) (replica_for w (DataNode d) op))
      (length finds.value.item.value)) shape finds.none)))
    where
      holding : Holding
      holding = record { item = record { flags = flags; cas = count_of (table_now w) key + 1; value = value }; until = until_of expiry 0 }

      left : Some finds.value ≡ Some holding
      left = sym finds.leaves.1 ∙ ap (λ (b : Bool). if b then Some holding else (table_now w).items key) (key-refl key)

      same : finds.value.item.value ≡ value
      same = ap (λ (o : Option Holding). elim o [ None ↦ value | Some h ↦ h.item.value ]) left

  pub issued : Issued (step (after s es) put_event).turn.answer
  issued = by (step w put_event).turn.answer refl (asks_always s es rests.run carrier op (DataNode d) may-put) where
    by : (a : Answer) → (step w put_event).turn.answer ≡ a → AskCause w (step w put_event).world (DataNode d) op a → Issued a
    by (says.Reply x) is causes = Replied (ap says.Reply causes.2)
    by (says.Ticket n) is causes = Ticketed n refl
    by says.NotYet is causes = absurd causes.2
    by says.NoSpace is causes = absurd (no-room causes.2)
    by (says.Retry (cause.Pending e n)) is causes = absurd (asked_always s es rests.run rests.drained carrier op (DataNode d) may-put (e, n, is))
    by (says.Retry (cause.Block b)) is causes = absurd (cc causes.2.0.misses.parity.1)
    by says.Moved is causes = absurd (causes.1 ready)
    by says.Lost is causes = absurd (cc (causes.1, live (DataNode d)))
    by says.Down is causes = absurd (rests.up causes)
    by says.Idle is causes = absurd causes.2
    by says.Stranger is causes = absurd causes.2
    by says.Done is causes = absurd causes.2
    by says.AlreadyDead is causes = absurd causes.2
    by says.Gone is causes = absurd causes.2
    by (says.Stale n) is causes = absurd causes.2

  abbrev pub after_put : List Event
  after_put = es ++ put_event ∷ []

  next : after s after_put ≡ (step w put_event).world
  next = after-more (opening s) es put_event

  pub run-put : IsRun s (es ++ put_event ∷ [])
  run-put = more-run s es put_event rests.run may-put

  none : NoFailure put_event
  none fails = fails

  pub up-put : ¬ (IsDown (after s (es ++ put_event ∷ [])))
  up-put = more-up s es put_event none rests.up

  abbrev pub drain : List Event
  drain = draining (step (after s es) put_event).world

  pub delivered-put : Delivers s (es ++ put_event ∷ []) drain
  delivered-put = subst (λ (v : World). Delivers s after_put (draining v)) next (delivers s after_put run-put up-put)

  -- once the group is drained
  abbrev pub done_put : List Event
  done_put = es ++ put_event ∷ drain

  there : (es ++ put_event ∷ []) ++ drain ≡ done_put
  there = append_assoc es (put_event ∷ []) drain

  pub rests-put : Rests s done_put
  rests-put = subst (Rests s) there (subst (λ (v : World). Rests s (after_put ++ draining v)) next (drained-rests s after_put run-put up-put))

  pub live-put : AllLive s done_put
  live-put p =
      ap (λ (xs : List Event). is_dead (after s xs) p) (sym there) ∙ ap (λ (v : World). is_dead v p) (after-is s after_put drain)
      ∙ dead-after (after s after_put) drain (each-weaker IsDelivery NoFailure (λ e is. still-none e (delivery-still e is)) drain delivered-put.deliveries) p
      ∙ ap (λ (v : World). is_dead v p) next ∙ dead-still w put_event none p ∙ live p

  -- the call is settled
  pub put-settled : HasNamed (settled_of s done_put d) put_name
  put-settled = by issued where
    later : FirstHeads s done_put d
    later = first-heads s done_put rests-put live-put d below

    of-ticket : (n : ℕ) → (step w put_event).turn.answer ≡ says.Ticket n → HasNamed (settled_of s done_put d) put_name
    of-ticket n is =
        let ticket : HoldsTicket w (step w put_event).world carrier op (DataNode d) n =
        tickets_held_always s es rests.run carrier op (DataNode d) n may-put is in
        let h : Held = record { caller = carrier; call = at 0 w.asked carrier; number = n; outcome = ticket.outcome } in
        let first-held : Contains (held_at (process_of (step w put_event).world (DataNode d)) (home_in w op)) h
        = subst (λ (hs : List Held). Contains hs h) (sym ticket.held)
        (Contains-append_right (held_at (process_of w (DataNode d)) (home_in w op)) (h ∷ []) h
        (0, omega arith, refl)) in
        let now : Contains (held_at (process_of (after s after_put) (DataNode d)) d) h
        = subst (λ (e : ℕ). Contains (held_at (process_of (after s after_put) (DataNode d)) e) h) here
        (subst (λ (v : World). Contains (held_at (process_of v (DataNode d)) (home_in w op)) h) (sym next)
        first-held) in
        let lasts : Contains (held_at (process_of (after s done_put) (DataNode d)) d) h
        = subst (λ (xs : List Event). Contains (held_at (process_of (after s xs) (DataNode d)) d) h) there
        (held-lasts s after_put drain (DataNode d) d h below run-put delivered-put.run delivered-put.deliveries
        now) in
        let stand : HeldStand s (state_at s done_put) = (held-book s done_put rests-put.run).0 in
        let world : (book_of s done_put).history.world ≡ after s done_put = book-world s done_put in
        let seated : head_at (process_of (book_of s done_put).history.world (DataNode d)) d ≡ Some later.head =
        subst (λ (v : World). head_at (process_of v (DataNode d)) d ≡ Some later.head) (sym world) later.seated in
        let alive : is_dead (book_of s done_put).history.world (DataNode d) ≡ false =
        subst (λ (v : World). is_dead v (DataNode d) ≡ false) (sym world) (live-put (DataNode d)) in
        let each = (stand (DataNode d) d below alive below).heads later.head seated in
        let held-there : Contains (held_at (process_of (book_of s done_put).history.world (DataNode d)) d) h =
        subst (λ (v : World). Contains (held_at (process_of v (DataNode d)) d) h) (sym world) lasts in
        let is-held =
        each-contained
        (IsHeldOf (history (settled_of s done_put d)
        (replica_of (process_of (book_of s done_put).history.world (DataNode d)) d)))
        (held_at (process_of (book_of s done_put).history.world (DataNode d)) d) h each held-there in
        let whole : history (settled_of s done_put d) (replica_of (process_of (book_of s done_put).history.world (DataNode d)) d) ≡ settled_of s done_put d
        = ap (λ (v : World). history (settled_of s done_put d) (replica_of (process_of v (DataNode d)) d)) world ∙ later.ready.whole in
        record {
          update = is-held.update;
          there = subst (λ (us : List Update). Contains us is-held.update) whole is-held.there;
          named = λ i. record { caller = is-held.caller i; call = is-held.call i };
        }

    of-reply : (step w put_event).turn.answer ≡ says.Reply reply.Stored → HasNamed (settled_of s done_put d) put_name
    of-reply is =
        let turns-are = turns-more (opening s) es put_event in
        let last : slice_get (turns_of s after_put) (length es) ≡ Some (step w put_event).turn
        = ap (λ (turns : List Turn). slice_get turns (length es)) turns-are
        ∙ ap (slice_get (turns_of s es ++ (step w put_event).turn ∷ [])) (sym (turns-long (opening s) es))
        ∙ get-last (turns_of s es) (step w put_event).turn in
        let within = (headline_always s after_put run-put).one_log.within in
        let ask : IsAsk (turns_of s after_put) (length es) (step w put_event).turn put_name op = record {
          there = last;
          at = DataNode d;
          event = refl;
          place = ap (λ (turns : List Turn). asks_of carrier (take (length es) turns)) turns-are
              ∙ ap (asks_of carrier) (take-front (turns_of s es) ((step w put_event).turn ∷ []) (length es)
              (let long = turns-long (opening s) es in omega (arith, long)))
              ∙ ap (asks_of carrier) (take-whole (turns_of s es) (length es) (let long = turns-long (opening s) es in omega (arith, long)))
              ∙ among-all carrier (opening s) es ∙ sym (asked-among s es rests.run carrier);
        } in
        let logged : Contains (step w put_event).turn.logged (call_entry put_name op reply.Stored) =
        within.at_once (length es) (step w put_event).turn put_name op reply.Stored ask is in
        let in-log : Contains (step w put_event).world.log (call_entry put_name op reply.Stored)
        = subst (λ (log : List Entry). Contains log (call_entry put_name op reply.Stored))
        (sym (grown-is w.log (step w put_event).turn.logged))
        (Contains-append_right w.log (step w put_event).turn.logged (call_entry put_name op reply.Stored) logged) in
        let at-end : Contains (after s done_put).log (call_entry put_name op reply.Stored)
        = subst (λ (v : World). Contains v.log (call_entry put_name op reply.Stored)) (sym (ap (after s) (sym there) ∙ after-is s after_put drain))
        (log-grows (after s after_put) drain (call_entry put_name op reply.Stored)
        (subst (λ (v : World). Contains v.log (call_entry put_name op reply.Stored)) (sym next) in-log)) in
        let world : (book_of s done_put).history.world ≡ after s done_put = book-world s done_put in
        let all = (logs-of s done_put rests-put.run).stands.entries in
        let stands = each-contained (EntryStands (book_of s done_put).history.world.shape (book_of s done_put).issued
        (book_of s done_put).history.settled) (book_of s done_put).history.world.log
        (call_entry put_name op reply.Stored) all (subst (λ (v : World). Contains v.log (call_entry put_name op reply.Stored)) (sym world) at-end) in
        entry-named stands
      where
        home-end : home_of key (book_of s done_put).history.world.shape.k ≡ d
        home-end = ap (λ (v : World). home_of key v.shape.k) (book-world s done_put)
            ∙ ap (λ (t : Dimensions). home_of key t.k) (shape-after (opening s) done_put) ∙ home

        entry-named : EntryStands (book_of s done_put).history.world.shape (book_of s done_put).issued
            (book_of s done_put).history.settled (call_entry put_name op reply.Stored)
            → HasNamed (settled_of s done_put d) put_name
        entry-named (inl entry) = record {
          update = entry.update;
          there = subst (λ (e : ℕ). Contains (at [] (book_of s done_put).history.settled e) entry.update) home-end entry.there;
          named = entry.named;
        }
        entry-named (inr refusal) = absurd (cc refusal.refused)

    by : Issued (step w put_event).turn.answer → HasNamed (settled_of s done_put d) put_name
    by (Replied is) = of-reply is
    by (Ticketed n is) = of-ticket n is
