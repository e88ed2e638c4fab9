-- A fresh group that is set up: the items of which it was asked lie one upon another, and all are settled.
use Rattle.std.proofs.Common.{ℕ, ◌≡◌, ◌≢◌, ◌<◌, ◌≤◌, ◌+◌, ◌==◌, Bool, true, false, List, [], ◌∷◌, ◌++◌, length}
use Rattle.std.proofs.Common.{if◌then◌else◌, ◌⊎◌, inl, inr, refl, sym, ap, subst, ◌∙◌, arith}
use Rattle.group_types.proofs.Eaches.{each-append, each-weaker}
use Rattle.std.specs.Prelude.{All, Contains}
use Rattle.std.proofs.lemmas.Bool.{cases_eq, cases_lt, eq-eqb, ne_eqb}
use Rattle.std.proofs.lemmas.List.{append_assoc, append-nil, length-append, take_all, take-append-le}
use Rattle.group_types.specs.Dimensions.{Dimensions, space_of}
use Rattle.group_types.specs.Each.{Each}
use Rattle.group_types.specs.Hash.{home_of}
use Rattle.group_types.specs.Lists.{at}
use Rattle.group_types.specs.Shape.{IsShape}
use Rattle.group_types.specs.declared.process.ProcessId.TheVariants.{DataNode}
use Rattle.memc_table.specs.Asked.{Asked}
use Rattle.group_message.specs.declared.update.Update.{Update}
use Rattle.group_calls.specs.Turns.{CallName}
use Rattle.group_calls.specs.declared.entry.Entry.{Entry}
use Rattle.group_calls.specs.declared.event.Event.{Event}
use Rattle.group_run.specs.Headline.{IsRun, MayCome}
use Rattle.group_run.specs.History.{History, prolonged}
use Rattle.group_run.specs.Meaning.{process_of}
use Rattle.group_run.specs.Replica.{items_after}
use Rattle.group_run.specs.World.{World, after, next_name, step}
use Rattle.law_moves.specs.State.{State, state_of}
use Rattle.law_histories.proofs.Issuing.{IssuesIn}
use Rattle.law_histories.proofs.LaneWords.{Prolongs}
use Rattle.law_histories.proofs.Lanes.{begins-trans}
use Rattle.law_histories.proofs.Weaker.{reach-weaker}
use Rattle.law_updates.specs.Store.{no_store}
use Rattle.law_updates.proofs.Histories.{steps-each}
use Rattle.law_updates.proofs.Steps.{no_store-fits}
use Rattle.law_log.specs.Book.{Book, book_of, no_book}
use Rattle.law_log.proofs.Books.{book-append, book-framed, book-shape, book-world}
use Rattle.law_log.proofs.Calls.{asked_always, each-contained}
use Rattle.law_log.proofs.Ties.{HasEntry}
use Rattle.law_headline.proofs.All.{whole-always}
use Rattle.law_headline.proofs.Promises.{stands-always}
use Rattle.group_run.specs.Causes.{IsDelivery}
use Rattle.group_eras.specs.Carry.{Parcel, draining, expiry_of, set_of}
use Rattle.group_eras.specs.Eras.{carrier}
use Rattle.group_eras.proofs.Draining.{after-is, delivery-still}
use Rattle.group_eras.proofs.Fronts.{AllUpto, Upto, upto-ask}
use Rattle.group_eras.proofs.Issues as issues
use Rattle.group_eras.proofs.Issues.{IsReadyAt}
use Rattle.group_eras.proofs.Naming.{log-grows, named-op}
use Rattle.group_eras.proofs.Piling.{Piled}
use Rattle.group_eras.proofs.Resting.{IsStill, Rests, both-fronts, logs-of, rests-upto, settled-grows, settled_of, state_at, upto-still}
use Rattle.group_eras.proofs.Served as served
use Rattle.group_eras.proofs.Served.{AllLive, FirstHeads, HasNamed, first-heads}
use Rattle.group_eras.proofs.Sets.{put_op}

-- how many bytes parcels of a partition have
abbrev pub weight_if : Bool → ℕ → ℕ
weight_if true n = n
weight_if false n = 0

abbrev pub weight : ℕ → List Parcel → ℕ
weight d [] = 0
weight d (x ∷ xs) = weight_if (x.partition == d) (length x.value) + weight d xs

pub weight-both : (d : ℕ) (xs ys : List Parcel) → weight d (xs ++ ys) ≡ weight d xs + weight d ys
weight-both d [] ys = omega arith
weight-both d (x ∷ xs) ys = let rest = weight-both d xs ys in omega (arith, rest)

-- the op that sets a parcel
abbrev pub op_of : Parcel → Asked
op_of x = put_op x.key x.flags (expiry_of x.until) x.value

-- a log has an entry of a parcel's set
pub record HasSet (log : List Entry) (x : Parcel) : Type 0 where
  pub entry : Entry
  pub there : Contains log entry
  pub op : entry.op ≡ op_of x

pub record SetUp (s : Dimensions) (es : List Event) (ps : List Parcel) : Type 0 where
  pub rests : Rests s es
  pub live : AllLive s es
  pub piled : (d : ℕ) → d < s.k → Piled (weight d ps) (items_after [] (settled_of s es d))
  pub keys : (d : ℕ) → d < s.k → (key : List ℕ) → Each (λ x. x.key ≢ key) ps → Each (λ u. u.key ≢ key) (settled_of s es d)
  pub logged : Each (HasSet (after s es).log) ps

-- a parcel that may be set next
pub record ComesNext (s : Dimensions) (ps : List Parcel) (x : Parcel) : Type 0 where
  pub below : x.partition < s.k
  pub home : home_of x.key s.k ≡ x.partition
  pub new : Each (λ y. y.key ≢ x.key) ps
  pub room : weight x.partition ps + length x.value ≤ space_of s
  pub bytes : All (λ b. b < 256) x.value

weaker-upto : (limit more : ℕ → List Update) (s : Dimensions) (v : State) → ((d : ℕ) → Prolongs (limit d) (more d)) → AllUpto limit s v → AllUpto more s v
weaker-upto limit more s v fronts all = (
  all.0,
  reach-weaker (Upto limit) (Upto more) (λ d a us front. begins-trans us (limit d) (more d) front (fronts d)) s v all.1,
  λ d below. begins-trans (v.settled d) (limit d) (more d) (all.2 d below) (fronts d),
)

front-append : (us vs : List Update) → Prolongs us (us ++ vs)
front-append us vs = record {
  reaches = (let long = length-append us vs in omega (arith, long));
  front = take-append-le (length us) us vs (omega arith) ∙ take_all (length us) us (omega arith);
}

-- between a list and one with one more there is none
grow-one : (us vs : List Update) (u : Update) → Prolongs us vs → Prolongs vs (us ++ u ∷ []) → (vs ≡ us) ⊎ (vs ≡ us ++ u ∷ [])
grow-one us vs u first last = by (cases_lt (length us) (length vs)) where
  long : length (us ++ u ∷ []) ≡ length us + 1
  long = length-append us (u ∷ [])

  by : (length us < length vs) ⊎ (length vs ≤ length us) → (vs ≡ us) ⊎ (vs ≡ us ++ u ∷ [])
  by (inl more) = inr (sym last.front ∙ take_all (length vs) (us ++ u ∷ []) (omega (arith, long, more)))
  by (inr few) = inl (sym (take_all (length us) vs few) ∙ first.front)

-- settled updates are of calls that were asked
old-calls : (s : Dimensions) (es : List Event) → IsRun s es → (d : ℕ) → d < s.k → Each (λ u. u.call < at 0 (after s es).asked u.caller) (settled_of s es d)
old-calls s es run d below =
    steps-each s (book_of s es).issued d (λ u. u.call < at 0 (after s es).asked u.caller)
    (λ n store u fits step.
    let asked = each-contained (λ c. c.name.call < at 0 (book_of s es).history.world.asked c.name.caller)
    (book_of s es).issued step.call (asked_always s es run) step.asked in
    subst (λ (name : CallName). name.call < at 0 (after s es).asked name.caller) (sym step.name)
    (subst (λ (w : World). step.call.name.call < at 0 w.asked step.call.name.caller) (book-world s es) asked))
    0 (no_store s) (settled_of s es d) (no_store-fits s) ((stands-always s (whole-always s) es run).settled d below).steps

module _ (s : Dimensions) (es : List Event) (ps : List Parcel) (up : SetUp s es ps) (x : Parcel) (comes : ComesNext s ps x) where
  abbrev d : ℕ
  d = x.partition

  abbrev us : List Update
  us = settled_of s es x.partition

  abbrev total : ℕ
  total = weight x.partition ps

  abbrev w : World
  w = (book_of s es).history.world

  world : (book_of s es).history.world ≡ after s es
  world = book-world s es

  shape : (book_of s es).history.world.shape ≡ s
  shape = book-shape s es

  piled : Piled (weight x.partition ps) (items_after [] (settled_of s es x.partition))
  piled = up.piled x.partition comes.below

  new : Each (λ u. u.key ≢ x.key) (settled_of s es x.partition)
  new = up.keys x.partition comes.below x.key comes.new

  ready : IsReadyAt (book_of s es).history.world x.partition (settled_of s es x.partition)
  ready = subst (λ (v : World). IsReadyAt v x.partition (settled_of s es x.partition)) (sym world)
      (first-heads s es up.rests up.live x.partition comes.below).ready

  fits : weight x.partition ps + length x.value ≤ space_of (book_of s es).history.world.shape
  fits = subst (λ (t : Dimensions). weight x.partition ps + length x.value ≤ space_of t) (sym shape) comes.room

  put : Update
  put = issues.issued-put w d us ready total piled x.key x.flags (expiry_of x.until) x.value new fits

  extra : ℕ → List Update
  extra e = if e == d then put ∷ [] else []

  limit : ℕ → List Update
  limit e = settled_of s es e ++ extra e

  limit-own : limit x.partition ≡ settled_of s es x.partition ++ put ∷ []
  unfolding limit extra
  limit-own = ap (λ (b : Bool). us ++ (if b then put ∷ [] else [])) (eq-eqb d d refl)

  limit-other : (e : ℕ) → e ≢ x.partition → limit e ≡ settled_of s es e
  unfolding limit extra
  limit-other e other = ap (λ (b : Bool). settled_of s es e ++ (if b then put ∷ [] else [])) (ne_eqb e d other) ∙ append-nil (settled_of s es e)

  abbrev set : Event
  set = set_of x

  abbrev drain : List Event
  drain = draining (step (after s es) (set_of x)).world

  abbrev pub done : List Event
  done = es ++ set_of x ∷ draining (step (after s es) (set_of x)).world

  pub rests-done : Rests s done
  rests-done = served.rests-put s es up.rests up.live d comes.below total piled x.key comes.home x.flags (expiry_of x.until) x.value comes.bytes comes.room

  live-done : AllLive s done
  live-done = served.live-put s es up.rests up.live d comes.below total piled x.key comes.home x.flags (expiry_of x.until) x.value comes.bytes comes.room

  settled-done : HasNamed (settled_of s done x.partition) (next_name (after s es) carrier)
  settled-done = served.put-settled s es up.rests up.live d comes.below total piled x.key comes.home x.flags (expiry_of x.until) x.value comes.bytes comes.room

  pub may-set : MayCome (after s es) (set_of x)
  may-set = served.may-put s es up.rests up.live d comes.below total piled x.key comes.home x.flags (expiry_of x.until) x.value comes.bytes comes.room

  pub deliveries : Each IsDelivery (draining (step (after s es) (set_of x)).world)
  deliveries = (served.delivered-put s es up.rests up.live d comes.below total piled x.key comes.home x.flags
      (expiry_of x.until) x.value comes.bytes comes.room).deliveries

  upto-start : AllUpto limit (book_of s es).history.world.shape (state_at s es)
  unfolding limit
  upto-start = weaker-upto (settled_of s es) limit w.shape (state_at s es) (λ e. front-append (settled_of s es e) (extra e))
      (subst (λ (t : Dimensions). AllUpto (settled_of s es) t (state_at s es)) (sym shape) (rests-upto s es up.rests))

  upto-set : AllUpto limit s (state_at s (es ++ set_of x ∷ []))
  unfolding put
  upto-set =
      let h : History = (book_of s es).history in
      let here : home_of x.key w.shape.k ≡ d = ap (λ (t : Dimensions). home_of x.key t.k) shape ∙ comes.home in
      let keeps : IssuesIn (Upto limit) w.shape d us (process_of w (DataNode d)) (next_name w carrier) (op_of x)
      = issues.issues w d us ready total piled x.key x.flags (expiry_of x.until) x.value new fits limit limit-own in
      let next : AllUpto limit w.shape (state_of (prolonged h set))
      = upto-ask limit h carrier (op_of x) (DataNode d) (book-framed s es up.rests.run)
      (subst IsShape (sym shape) up.rests.run.0) (subst (λ (v : World). MayCome v set) (sym world) may-set)
      (subst (λ (e : ℕ). IssuesIn (Upto limit) w.shape e (at [] h.settled e) (process_of w (DataNode d))
      (next_name w carrier) (op_of x)) (sym here) keeps) upto-start in
      subst (λ (b : Book). AllUpto limit s (state_of b.history)) (sym (book-append (no_book s) es (set ∷ [])))
      (subst (λ (t : Dimensions). AllUpto limit t (state_of (prolonged h set))) shape next)

  there : (es ++ set_of x ∷ []) ++ draining (step (after s es) (set_of x)).world ≡ done
  there = append_assoc es (set ∷ []) drain

  upto-done : AllUpto limit s (state_at s done)
  upto-done = subst (λ (xs : List Event). AllUpto limit s (state_at s xs)) there
      (upto-still s limit (es ++ set ∷ []) drain (subst (IsRun s) (sym there) rests-done.run)
      (each-weaker IsDelivery IsStill delivery-still drain deliveries) upto-set)

  -- only the parcel's partition has more settled
  settled-other : (e : ℕ) → e < s.k → e ≢ x.partition → settled_of s done e ≡ settled_of s es e
  settled-other e low other = both-fronts s (settled_of s es e) (settled_of s done e) (settled-grows s es (set ∷ drain) e low)
      (subst (Prolongs (settled_of s done e)) (limit-other e other) (upto-done.2 e low))

  settled-own : settled_of s done x.partition ≡ settled_of s es x.partition ++ put ∷ []
  settled-own =
      by (grow-one us (settled_of s done d) put (settled-grows s es (set ∷ drain) d comes.below)
      (subst (Prolongs (settled_of s done d)) limit-own (upto-done.2 d comes.below))) where
        by : (settled_of s done d ≡ us) ⊎ (settled_of s done d ≡ us ++ put ∷ []) → settled_of s done d ≡ us ++ put ∷ []
        by (inr more) = more
        by (inl same) =
            let old = each-contained (λ u. u.call < at 0 (after s es).asked u.caller) us settled-done.update (old-calls s es up.rests.run d comes.below)
            (subst (λ (vs : List Update). Contains vs settled-done.update) same settled-done.there) in
            let low : at 0 (after s es).asked carrier < at 0 (after s es).asked carrier =
            subst (λ (name : CallName). name.call < at 0 (after s es).asked name.caller) settled-done.named old in
            absurd (omega (arith, low))

  weight-own : weight x.partition (ps ++ x ∷ []) ≡ weight x.partition ps + length x.value
  weight-own =
      let both = weight-both d ps (x ∷ []) in
      let one : weight_if (x.partition == d) (length x.value) ≡ length x.value = ap (λ (b : Bool). weight_if b (length x.value)) (eq-eqb d d refl) in
      omega (arith, both, one)

  weight-other : (e : ℕ) → e ≢ x.partition → weight e (ps ++ x ∷ []) ≡ weight e ps
  weight-other e other =
      let both = weight-both e ps (x ∷ []) in
      let none : weight_if (x.partition == e) (length x.value) ≡ 0 = ap (λ (b : Bool). weight_if b (length x.value))
      (ne_eqb x.partition e (λ (same : x.partition ≡ e). other (sym same))) in
      omega (arith, both, none)

  piled-done : (e : ℕ) → e < s.k → (e ≡ x.partition) ⊎ (e ≢ x.partition) → Piled (weight e (ps ++ x ∷ [])) (items_after [] (settled_of s done e))
  unfolding put
  piled-done e low (inl same) =
      subst (λ (f : ℕ). Piled (weight f (ps ++ x ∷ [])) (items_after [] (settled_of s done f))) (sym same)
      (subst (λ (n : ℕ). Piled n (items_after [] (settled_of s done d))) (sym weight-own)
      (subst (λ (vs : List Update). Piled (total + length x.value) (items_after [] vs)) (sym settled-own)
      (issues.piled-next w d us ready total piled x.key x.flags (expiry_of x.until) x.value new fits)))
  piled-done e low (inr other) =
      subst (λ (n : ℕ). Piled n (items_after [] (settled_of s done e))) (sym (weight-other e other))
      (subst (λ (vs : List Update). Piled (weight e ps) (items_after [] vs)) (sym (settled-other e low other)) (up.piled e low))

  each-front : (P : Parcel → Type 0) (xs ys : List Parcel) → Each P (xs ++ ys) → Each P xs × Each P ys
  each-front P [] ys all = (tt, all)
  each-front P (z ∷ zs) ys all = let rest = each-front P zs ys all.1 in ((all.0, rest.0), rest.1)

  keys-done : (e : ℕ) → e < s.k → (key : List ℕ) → Each (λ y. y.key ≢ key) (ps ++ x ∷ []) → (e ≡ x.partition)
      ⊎ (e ≢ x.partition) → Each (λ u. u.key ≢ key) (settled_of s done e)
  unfolding put
  keys-done e low key others (inl same) =
      let parts = each-front (λ y. y.key ≢ key) ps (x ∷ []) others in
      let own : put.key ≡ x.key = issues.put-key w d us ready total piled x.key x.flags (expiry_of x.until) x.value new fits in
      subst (λ (f : ℕ). Each (λ u. u.key ≢ key) (settled_of s done f)) (sym same)
      (subst (Each (λ u. u.key ≢ key)) (sym settled-own)
      (each-append (λ u. u.key ≢ key) us (put ∷ []) (up.keys d comes.below key parts.0)
      ((λ is. parts.1.0 (sym own ∙ is)), tt)))
  keys-done e low key others (inr other) = subst (Each (λ u. u.key ≢ key)) (sym (settled-other e low other))
      (up.keys e low key (each-front (λ y. y.key ≢ key) ps (x ∷ []) others).0)

  has-set : HasSet (after s done).log x
  has-set =
      let named : HasNamed (settled_of s done d) (next_name (after s es) carrier) = settled-done in
      let entered = each-contained (HasEntry (book_of s done).history.world.log) (settled_of s done d) named.update
      ((logs-of s done rests-done.run).stands.entered d) named.there in
      let in-log : Contains (after s done).log entered.entry = subst (λ (v : World). Contains v.log entered.entry) (book-world s done) entered.there in
      record {
        entry = entered.entry;
        there = in-log;
        op = named-op s es drain carrier (op_of x) (DataNode d) up.rests.run rests-done.run entered.entry in-log (entered.named ∙ named.named);
      }

  still-logged : (y : Parcel) → HasSet (after s es).log y → HasSet (after s done).log y
  still-logged y has = record {
    entry = has.entry;
    there = subst (λ (v : World). Contains v.log has.entry) (sym (after-is s es (set ∷ drain))) (log-grows (after s es) (set ∷ drain) has.entry has.there);
    op = has.op;
  }

  -- so it is set up with one more
  pub set-next : SetUp s done (ps ++ x ∷ [])
  set-next = record {
    rests = rests-done;
    live = live-done;
    piled = λ e low. piled-done e low (cases_eq e d);
    keys = λ e low key others. keys-done e low key others (cases_eq e d);
    logged = each-append (HasSet (after s done).log) ps (x ∷ [])
        (each-weaker (HasSet (after s es).log) (HasSet (after s done).log) still-logged ps up.logged) (has-set, tt);
  }
