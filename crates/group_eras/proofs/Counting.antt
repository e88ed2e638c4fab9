-- How many updates are settled, and how many items are carried: no more than events were made.
use Rattle.std.proofs.Common.{ℕ, zero, suc, ◌≡◌, ◌≢◌, ◌<◌, ◌≤◌, ◌+◌, Bool, true, false, cond, not, List, [], ◌∷◌, ◌++◌}
use Rattle.std.proofs.Common.{length, map, Option, Some, None, ◌⊎◌, inl, inr, refl, sym, ap, subst, ◌∙◌, arith}
use Rattle.group_types.proofs.Eaches.{each-append, each-map, each-weaker}
use Rattle.group_eras.proofs.Lists.{two-map}
use Rattle.std.specs.Prelude.{Contains, filter}
use Rattle.std.specs.List.{range_with_len}
use Rattle.std.specs.Cmp.Lexicographic.{slice_cmp}
use Rattle.std.specs.FinMap.Entries as entries
use Rattle.std.specs.FinMap.Entries.{by_order}
use Rattle.std.specs.Ordering.{nat_cmp}
use Rattle.std.specs.declared.cmp.Ordering.{Ordering}
use Rattle.std.specs.declared.cmp.Ordering.TheVariants.{Less, Equal, Greater}
use Rattle.std.proofs.lemmas.Bool.{cases_eq}
use Rattle.std.proofs.lemmas.List.{length-append, length-map}
use Rattle.group_types.specs.Dimensions.{Dimensions}
use Rattle.group_types.specs.Each.{Each, EachTwo}
use Rattle.group_types.specs.Hash.{home_of}
use Rattle.group_types.specs.Lists.{same_key}
use Rattle.item_index.specs.declared.slot.Slot.{Slot}
use Rattle.memc_table.specs.Act.{key_of}
use Rattle.memc_table.specs.Expiry.{is_live}
use Rattle.group_message.specs.declared.update.Update.{Update}
use Rattle.group_calls.specs.Turns.{CallName}
use Rattle.group_calls.specs.declared.event.Answer.{Answer}
use Rattle.group_calls.specs.declared.event.Event.{Event}
use Rattle.group_run.specs.Headline.{IsRun}
use Rattle.group_run.specs.Meaning.{count_logged, updates_of}
use Rattle.group_run.specs.Replica.{Items, item_settled, items_after, slot_after, slot_in, with_slot}
use Rattle.group_run.specs.World.{AskedCall, World, after, call_of, group_step, is_issued, opening, step, update_name, world_after}
use Rattle.law_updates.specs.Fine.{ComesBefore, Fine}
use Rattle.law_updates.specs.Store.{no_store}
use Rattle.law_updates.proofs.Histories.{steps-each}
use Rattle.law_updates.proofs.Steps.{no_store-fits}
use Rattle.law_log.specs.Book.{Book, book_from, book_of, booked, call_if, issued_by, no_book}
use Rattle.law_log.proofs.Entries.{same-issued}
use Rattle.law_log.proofs.Values.{shown-long}
use Rattle.law_log.proofs.Written.{log_shows_settled}
use Rattle.law_headline.proofs.All.{whole-always}
use Rattle.law_headline.proofs.Promises.{stands-always}
use Rattle.group_eras.specs.Items.{load_of_slot, loads, loads_in, loads_of, settled_items}
use Rattle.group_eras.specs.Moments.{CountsAreLow, LoadsAreFew}
use Rattle.group_eras.proofs.Carrying as carrying
use Rattle.group_eras.proofs.Draining.{shape-after}
use Rattle.group_eras.proofs.Finding as finding
use Rattle.group_eras.proofs.Loading.{two-both}
use Rattle.group_eras.proofs.Promises.{led-stands}
use Rattle.group_eras.proofs.Resting.{Rests, logs-of, settled_of}
use Rattle.group_eras.proofs.Standing.{Stands}

-- how many events were made
pub events-are : (w : World) (es : List Event) → (world_after w es).events ≡ w.events + length es
events-are w [] = omega arith
events-are w (e ∷ es) = let rest = events-are (step w e).world es in omega (arith, rest)

-- no more calls are issued
one-call : (o : Option AskedCall) (answer : Answer) → length (issued_by o answer) ≤ 1
one-call None answer = omega arith
one-call (Some c) answer = by (is_issued answer) where
  by : (b : Bool) → length (call_if b c) ≤ 1
  by true = omega arith
  by false = omega arith

issued-few : (b : Book) (es : List Event) → length (book_from b es).issued ≤ length b.issued + length es
issued-few b [] = omega arith
issued-few b (e ∷ es) =
    let rest = issued-few (booked b e) es in
    let one = one-call (call_of b.history.world e) (group_step b.history.world e).answer in
    let both = length-append b.issued (issued_by (call_of b.history.world e) (group_step b.history.world e).answer) in
    omega (arith, rest, one, both)

-- different things of a list are no more than it has
record Without {X : Type 0} (ys : List X) (y : X) : Type 0 where
  pub rest : List X
  pub long : length ys ≡ suc (length rest)
  pub others : (z : X) → Contains ys z → z ≢ y → Contains rest z

without : {X : Type 0} (ys : List X) (y : X) → Contains ys y → Without ys y
without [] y there = absurd (let low = there.1 in omega (arith, low))
without (x ∷ xs) y (zero, low, is) = record { rest = xs; long = refl; others = λ z there apart. behind z there apart } where
  behind : (z : _) → Contains (x ∷ xs) z → z ≢ y → Contains xs z
  behind z (zero, less, same) apart = absurd (apart (sym same ∙ is))
  behind z (suc i, less, same) apart = (i, omega (arith, less), same)
without (x ∷ xs) y (suc i, low, is) =
    let later : Without xs y = without xs y (i, omega (arith, low), is) in
    record { rest = x ∷ later.rest; long = ap suc later.long; others = λ z there apart. behind later z there apart }
  where
    behind : (later : Without xs y) (z : _) → Contains (x ∷ xs) z → z ≢ y → Contains (x ∷ later.rest) z
    behind later z (zero, less, same) apart = (zero, omega arith, same)
    behind later z (suc j, less, same) apart = let found = later.others z (j, omega (arith, less), same) apart in
        (suc found.0, (let l = found.1 in omega (arith, l)), found.2)

no-more : {X : Type 0} (xs ys : List X) → EachTwo (λ a b. a ≢ b) xs → Each (Contains ys) xs → length xs ≤ length ys
no-more [] ys two among = omega arith
no-more (x ∷ xs) ys two among =
    let out : Without ys x = without ys x among.0 in
    let rest = no-more xs out.rest two.1 (kept xs two.0 among.1) in
    let long = out.long in
    omega (arith, rest, long)
  where
    kept : (zs : List _) → Each (λ z. x ≢ z) zs → Each (Contains ys) zs → Each (Contains (without ys x among.0).rest) zs
    kept [] apart all = tt
    kept (z ∷ zs) apart all = ((without ys x among.0).others z all.0 (λ same. apart.0 (sym same)), kept zs apart.1 all.1)

two-weak : {X : Type 0} (R T : X → X → Type 0) → ((x y : X) → R x y → T x y) → (xs : List X) → EachTwo R xs → EachTwo T xs
two-weak R T weak [] two = tt
two-weak R T weak (x ∷ xs) two = (each xs two.0, two-weak R T weak xs two.1) where
  each : (ys : List _) → Each (R x) ys → Each (T x) ys
  each [] all = tt
  each (y ∷ ys) all = (weak x y all.0, each ys all.1)

in-names : (calls : List AskedCall) (c : AskedCall) → Contains calls c → Contains (map (λ x. x.name) calls) c.name
in-names [] c there = absurd (let low = there.1 in omega (arith, low))
in-names (x ∷ xs) c (zero, low, is) = (zero, omega arith, ap (λ (y : AskedCall). y.name) is)
in-names (x ∷ xs) c (suc i, low, is) = let rest = in-names xs c (i, omega (arith, low), is) in (suc rest.0, (let less = rest.1 in omega (arith, less)), rest.2)

module _ (s : Dimensions) (es : List Event) (run : IsRun s es) where
  abbrev calls : List AskedCall
  calls = (book_of s es).issued

  abbrev names : ℕ → List CallName
  names d = map update_name (settled_of s es d)

  -- the call of a name of partition d
  record OfCall (d : ℕ) (name : CallName) : Type 0 where
    pub call : AskedCall
    pub there : Contains calls call
    pub named : call.name ≡ name
    pub home : home_of (key_of call.op.act) s.k ≡ d

  fine : (d : ℕ) → d < s.k → Fine s calls d (length (settled_of s es d)) (settled_of s es d)
  fine d below = (stands-always s (whole-always s) es run).settled d below

  of-calls : (d : ℕ) → d < s.k → Each (OfCall d) (names d)
  of-calls d below = each-map (OfCall d) update_name (settled_of s es d)
      (steps-each s calls d (λ u. OfCall d (update_name u))
      (λ n store u fits step. record {
        call = step.call;
        there = step.asked;
        named = sym step.name;
        home = step.fits.home;
      })
      0 (no_store s) (settled_of s es d) (no_store-fits s) (fine d below).steps)

  names-differ : (d : ℕ) → d < s.k → EachTwo (λ a b. a ≢ b) (names d)
  names-differ d below = two-map (λ a b. a ≢ b) update_name (settled_of s es d) (two-weak ComesBefore (λ u v. update_name u ≢ update_name v)
      (λ u v before same. let less = before (ap (λ (n : CallName). n.caller) same) in
      let one : u.call ≡ v.call = ap (λ (n : CallName). n.call) same in omega (arith, less, one)) (settled_of s es d)
      (fine d below).rising)

  homes-differ : (d e : ℕ) (a b : CallName) → OfCall d a → OfCall e b → a ≡ b → d ≡ e
  homes-differ d e a b one two same =
      let calls-same : one.call ≡ two.call = same-issued calls one.call two.call (logs-of s es run).differ one.there
      two.there (one.named ∙ same ∙ sym two.named) in
      sym one.home ∙ ap (λ (c : AskedCall). home_of (key_of c.op.act) s.k) calls-same ∙ two.home

  -- the names of all settled updates
  all-names : ℕ → ℕ → List CallName
  all-names a zero = []
  all-names a (suc n) = names a ++ all-names (a + 1) n

  abbrev FromOn : ℕ → CallName → Type 0
  FromOn a name = (d : ℕ) × (a ≤ d) × OfCall d name

  are-from : (n a : ℕ) → a + n ≤ s.k → Each (FromOn a) (all-names a n)
  unfolding all-names
  are-from zero a low = tt
  are-from (suc n) a low = each-append (FromOn a) (names a) (all-names (a + 1) n)
      (each-weaker (OfCall a) (FromOn a) (λ name of. (a, omega arith, of)) (names a) (of-calls a (omega (arith, low))))
      (each-weaker (FromOn (a + 1)) (FromOn a) (λ name of. (of.0, (let from = of.1 in omega (arith, from)), of.2))
      (all-names (a + 1) n) (are-from n (a + 1) (omega (arith, low))))

  all-differ : (n a : ℕ) → a + n ≤ s.k → EachTwo (λ x y. x ≢ y) (all-names a n)
  unfolding all-names
  all-differ zero a low = tt
  all-differ (suc n) a low = two-both (λ x y. x ≢ y) (names a) (all-names (a + 1) n)
      (names-differ a (omega (arith, low))) (all-differ n (a + 1) (omega (arith, low)))
      (each-weaker (OfCall a) (λ x. Each (λ y. x ≢ y) (all-names (a + 1) n)) (λ x of. each-weaker (FromOn (a + 1)) (λ y. x ≢ y)
      (λ y from same. let one = homes-differ a from.0 x y of from.2 same in let above = from.1 in
      omega (arith, one, above)) (all-names (a + 1) n) (are-from n (a + 1) (omega (arith, low))))
      (names a) (of-calls a (omega (arith, low))))

  few-names : length (all-names 0 s.k) ≤ length es
  few-names =
      let most = no-more (all-names 0 s.k) (map (λ (c : AskedCall). c.name) calls) (all-differ s.k 0 (omega arith))
      (each-weaker (FromOn 0) (Contains (map (λ (c : AskedCall). c.name) calls))
      (λ name of. subst (Contains (map (λ (c : AskedCall). c.name) calls)) of.2.named
      (in-names calls of.2.call of.2.there)) (all-names 0 s.k) (are-from s.k 0 (omega arith))) in
      let long = length-map calls (λ (c : AskedCall). c.name) in
      let few = issued-few (no_book s) es in
      omega (arith, most, long, few)

  -- those of one partition are among them
  one-few : (n a d : ℕ) → a ≤ d → d < a + n → length (settled_of s es d) ≤ length (all-names a n)
  unfolding all-names
  one-few zero a d from to = absurd (omega (arith, from, to))
  one-few (suc n) a d from to = by (cases_eq d a) (λ above. one-few n (a + 1) d above (omega (arith, to))) where
    both : length (names a ++ all-names (a + 1) n) ≡ length (names a) + length (all-names (a + 1) n)
    both = length-append (names a) (all-names (a + 1) n)

    long : length (names a) ≡ length (settled_of s es a)
    long = length-map (settled_of s es a) update_name

    by : (d ≡ a) ⊎ (d ≢ a) → (a + 1 ≤ d → length (settled_of s es d) ≤ length (all-names (a + 1) n))
        → length (settled_of s es d) ≤ length (names a ++ all-names (a + 1) n)
    by (inl same) later = let here : length (settled_of s es d) ≡ length (settled_of s es a) =
        ap (λ (e : ℕ). length (settled_of s es e)) same in omega (arith, both, long, here)
    by (inr other) later = let rest = later (omega (arith, from, other)) in omega (arith, both, rest)

  pub settled-few : (d : ℕ) → d < s.k → length (settled_of s es d) ≤ length es
  settled-few d below = let one = one-few s.k 0 d (omega arith) (omega (arith, below)) in let few = few-names in omega (arith, one, few)

  pub count-few : (d : ℕ) → d < s.k → count_logged (after s es) d ≤ length es
  count-few d below =
      let same = shown-long s d (no_store s) (settled_of s es d) (updates_of (after s es) d)
      (log_shows_settled s (stands-always s (whole-always s)) es run d below).updates in
      let few = settled-few d below in
      omega (arith, same, few)

-- items of updates are no more than these
put-few : (key : List ℕ) (slot : Slot) (items : Items) → length (entries.put (slice_cmp nat_cmp) key slot items) ≤ suc (length items)
put-few key slot [] = omega arith
put-few key slot (e ∷ es) = by (slice_cmp nat_cmp key e.0) (put-few key slot es) where
  by : (o : Ordering) → length (entries.put (slice_cmp nat_cmp) key slot es) ≤ suc (length es)
      → length (by_order o ((key, slot) ∷ e ∷ es) ((e.0, slot) ∷ es) (e ∷ entries.put (slice_cmp nat_cmp) key slot es)) ≤ suc (length (e ∷ es))
  by Less rest = omega arith
  by Equal rest = omega arith
  by Greater rest = omega (arith, rest)

where-few : (p : List ℕ → Bool) (items : Items) → length (entries.where_key (slice_cmp nat_cmp) p items) ≤ length items
where-few p [] = omega arith
where-few p (e ∷ es) = by (p e.0) (where-few p es) where
  by : (b : Bool) → length (entries.where_key (slice_cmp nat_cmp) p es) ≤ length es
      → length (cond b (e ∷ entries.where_key (slice_cmp nat_cmp) p es) (entries.where_key (slice_cmp nat_cmp) p es)) ≤ suc (length es)
  by true rest = omega (arith, rest)
  by false rest = omega (arith, rest)

with-few : (key : List ℕ) (o : Option Slot) (items : Items) → length (with_slot key o items) ≤ suc (length items)
with-few key None items = let few = where-few (λ x. not (same_key key x)) items in omega (arith, few)
with-few key (Some slot) items = put-few key slot items

items-few : (items : Items) (us : List Update) → length (items_after items us) ≤ length items + length us
items-few items [] = omega arith
items-few items (u ∷ us) =
    let rest = items-few (item_settled u items) us in
    let one = with-few u.key (slot_after u.number u.body (slot_in items u.key)) items in
    omega (arith, rest, one)

filter-few : (d : ℕ) (items : Items) → length (map (load_of_slot d) (filter (λ x. is_live 0 x.1.until) items)) ≤ length items
filter-few d [] = omega arith
filter-few d (x ∷ xs) = by (is_live 0 x.1.until) (filter-few d xs) where
  by : (b : Bool) → length (map (load_of_slot d) (filter (λ y. is_live 0 y.1.until) xs)) ≤ length xs
      → length (map (load_of_slot d) (cond b (x ∷ filter (λ y. is_live 0 y.1.until) xs) (filter (λ y. is_live 0 y.1.until) xs))) ≤ suc (length xs)
  by true rest = omega (arith, rest)
  by false rest = omega (arith, rest)

module _ (s : Dimensions) (es : List Event) (rests : Rests s es) where
  loads-below : (n a : ℕ) → a + n ≤ s.k → length (loads_of (after s es) (range_with_len a n)) ≤ length (all-names s es rests.run a n)
  unfolding all-names
  loads-below zero a low = omega arith
  loads-below (suc n) a low =
      let rest = loads-below n (a + 1) (omega (arith, low)) in
      let both = length-append (loads_in (after s es) a) (loads_of (after s es) (range_with_len (a + 1) n)) in
      let names-both = length-append (map update_name (settled_of s es a)) (all-names s es rests.run (a + 1) n) in
      let long = length-map (settled_of s es a) update_name in
      let kept = filter-few a (settled_items (after s es) a) in
      let are : length (settled_items (after s es) a) ≡ length (items_after [] (settled_of s es a)) =
      ap length (finding.items-are s es rests a (omega (arith, low))) in
      let few = items-few [] (settled_of s es a) in
      omega (arith, rest, both, names-both, long, kept, are, few)

  pub loads-few : length (loads (after s es)) ≤ length es
  loads-few =
      let all = loads-below s.k 0 (omega arith) in
      let few = few-names s es rests.run in
      let same : length (loads (after s es)) ≡ length (loads_of (after s es) (range_with_len 0 s.k))
      = ap (λ (t : Dimensions). length (loads_of (after s es) (range_with_len 0 t.k))) (shape-after (opening s) es) in
      omega (arith, all, few, same)

-- of eras
pub counts_are_low : CountsAreLow
counts_are_low e led d below =
    let stands : Stands e = led-stands e led in
    let few = count-few e.world.shape stands.era.events stands.era.run d below in
    let made = ap (λ (v : World). v.events) stands.era.stands ∙ events-are (opening e.world.shape) stands.era.events in
    let same : count_logged e.world d ≡ count_logged (after e.world.shape stands.era.events) d = ap (λ (v : World). count_logged v d) stands.era.stands in
    omega (arith, few, made, same)

pub loads_are_few : LoadsAreFew
loads_are_few e led rest =
    let stands : Stands e = led-stands e led in
    let few = loads-few e.world.shape stands.era.events (carrying.rests e stands rest) in
    let made = ap (λ (v : World). v.events) stands.era.stands ∙ events-are (opening e.world.shape) stands.era.events in
    let same : length (loads e.world) ≡ length (loads (after e.world.shape stands.era.events)) = ap (λ (v : World). length (loads v)) stands.era.stands in
    omega (arith, few, made, same)
