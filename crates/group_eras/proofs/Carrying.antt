-- A carry: the old era is read and stays legal, and the next one stands behind it.
use Rattle.std.proofs.Common.{ℕ, zero, suc, ◌≡◌, ◌<◌, ◌≤◌, ◌+◌, Bool, true, false, List, [], ◌∷◌, ◌++◌, map, take}
use Rattle.std.proofs.Common.{replicate, Option, Some, None, is_some, inl, inr, refl, sym, ap, subst, ◌∙◌, arith}
use Rattle.group_types.proofs.Eaches.{each-map, each-take, each-weaker}
use Rattle.group_eras.proofs.Lists.{contains-map, each-self, two-map}
use Rattle.std.specs.Prelude.{Contains, slice_index}
use Rattle.std.specs.List.{range_with_len}
use Rattle.std.proofs.lemmas.List.{append-nil, length-replicate}
use Rattle.erasure_code.proofs.Lists.{get_or-zeros}
use Rattle.group_types.specs.Dimensions.{Dimensions, space_of}
use Rattle.group_types.specs.Each.{Each, EachTwo}
use Rattle.group_types.specs.Hash.{home_of}
use Rattle.group_types.specs.Lists.{at}
use Rattle.group_types.proofs.Lists.{at-map-range}
use Rattle.item_index.specs.declared.slot.Slot.{Slot}
use Rattle.memc_table.specs.Contents.{Contents, count_of, empty_table}
use Rattle.memc_table.specs.Expiry.{is_live, until_of}
use Rattle.memc_table.specs.declared.holding.Holding.{Holding}
use Rattle.group_calls.specs.Log.{IsLegal, table_of}
use Rattle.group_calls.specs.declared.entry.Entry.{Entry}
use Rattle.group_calls.specs.declared.event.Event.{Event}
use Rattle.group_run.specs.Headline.{IsRunFrom}
use Rattle.group_run.specs.Meaning.{IsDown, IsDrained, count_logged, is_dead, updates_of}
use Rattle.group_run.specs.World.{World, after, opening, world_after}
use Rattle.law_updates.specs.Store.{no_store}
use Rattle.law_log.proofs.Calls.{each-contained}
use Rattle.law_log.proofs.Tables.{home-below}
use Rattle.law_log.proofs.Values.{shown-long}
use Rattle.law_log.proofs.Written.{log_shows_settled}
use Rattle.law_headline.proofs.All.{whole-always}
use Rattle.law_headline.proofs.Headlines.{headline_always}
use Rattle.law_headline.proofs.Promises.{stands-always}
use Rattle.law_moves.proofs.Reading.{some-same}
use Rattle.group_eras.specs.Carry.{Parcel, begun, carried, expiry_of, read_era, reading, setting}
use Rattle.group_eras.specs.Eras.{EraEntry, Eras, eras_after, next_bases, next_era}
use Rattle.group_eras.specs.Items.{Load, bytes_in_partition, loads, loads_of, settled_items}
use Rattle.group_eras.specs.Moments.{AreGot}
use Rattle.group_eras.specs.Promise.{AreTold, HasCarried, IsEra, IsItemKept, WasThere, one_log, table_over}
use Rattle.group_eras.specs.Refusal.{CanCarry, IsAtRest, IsSuccessor}
use Rattle.group_eras.specs.Told.{with_base}
use Rattle.group_eras.proofs.Draining.{after-is, shape-after}
use Rattle.group_eras.proofs.Finding as finding
use Rattle.group_eras.proofs.Following.{Follows, IsSame, follows, plain-same, run-first, sets-along, stands-along, still-same}
use Rattle.group_eras.proofs.Joins.{Joined, Meets}
use Rattle.group_eras.proofs.Loading.{keys-differ, weight-is}
use Rattle.group_eras.proofs.Readings.{IsLoad, ReadWell, are-loads, item_of, parcel_for, reads}
use Rattle.group_eras.proofs.Resting.{IsStill, Rests, same-counts, same-items, settled_of, still-settled, table_after_run, ties-of}
use Rattle.group_eras.proofs.SetAll.{AllSet, Apart, IsOfGroup, IsPlain, all-come, opens-setup, set-all}
use Rattle.group_eras.proofs.SetTables.{NoItem, OfSet, SetItem, SetsOne, appears, log-sets, one-parcel, sets-items}
use Rattle.group_eras.proofs.Setup.{HasSet, SetUp, weight}
use Rattle.group_eras.proofs.Shifts.{Alike, Gone, shift, shifted}
use Rattle.group_eras.proofs.Standing.{NoKey, Standing, Stands, own_table}
use Rattle.group_eras.proofs.Living.{dead-until, in-loads, live-load, until-back}
use Rattle.group_eras.proofs.Asking.{run-behind}

module _ (e : Eras) (stands : Stands e) (rest : IsAtRest e.world) where
  abbrev pub s : Dimensions
  s = e.world.shape

  abbrev pub es : List Event
  es = stands.era.events

  pub world : e.world ≡ after e.world.shape stands.era.events
  world = stands.era.stands

  pub rests : Rests e.world.shape stands.era.events
  rests = record { run = stands.era.run; drained = subst IsDrained world rest.drained; up = λ down. rest.up (subst IsDown (sym world) down) }

  abbrev w : World
  w = after e.world.shape stands.era.events

  pub well : ReadWell e.world.shape stands.era.events rests stands.era.events
      (loads (after e.world.shape stands.era.events)) (reading (after e.world.shape stands.era.events))
  well = reads s es rests

  pub still : Each IsStill (reading e.world).events
  still = subst (λ (v : World). Each IsStill (reading v).events) (sym world) well.still

  pub same : Each IsSame (reading e.world).events
  same = each-weaker IsStill IsSame still-same (reading e.world).events still

  pub run-reading : IsRunFrom (after e.world.shape stands.era.events) (reading (after e.world.shape stands.era.events)).events
  run-reading = run-behind (opening s) es (reading w).events well.rests_then.run.1

  pub run-read : IsRunFrom e.world (reading e.world).events
  run-read = subst (λ (v : World). IsRunFrom v (reading v).events) (sym world) run-reading

  pub all-got : AreGot e.world (loads e.world)
  all-got = subst (λ (v : World). AreGot v (loads v)) (sym world) well.are_got

  -- want of memory leaves the old group
  pub begun-stands : (many : ℕ) → Stands (begun e many)
  begun-stands many = stands-along e stands (take many (reading e.world).events)
      (each-take IsSame many (reading e.world).events same) (run-first many e.world (reading e.world).events run-read)

  abbrev e1 : Eras
  e1 = read_era e

  stands1 : Stands (read_era e)
  stands1 = stands-along e stands (reading e.world).events same run-read

  follows1 : Follows e (read_era e) (world_after e.world (reading e.world).events)
  follows1 = follows e (reading e.world).events same

  abbrev es1 : List Event
  es1 = stands.era.events ++ (reading (after e.world.shape stands.era.events)).events

  world1 : (read_era e).world ≡ after e.world.shape es1
  world1 = follows1.world_is ∙ ap (λ (v : World). world_after v (reading v).events) world ∙ sym (after-is s es (reading w).events)

  shape1 : (read_era e).world.shape ≡ e.world.shape
  shape1 = ap (λ (v : World). v.shape) world1 ∙ shape-after (opening s) es1

  settled1 : (d : ℕ) → d < s.k → settled_of s es1 d ≡ settled_of s es d
  settled1 d below = still-settled s es (reading w).events rests well.rests_then.run well.still d below

  -- the era's table before and after
  own-is : own_table e ≡ table_after_run e.world.shape stands.era.events
  own-is = ap (λ (v : World). table_of (empty_table s.k) v.log) world

  own1-is : own_table (read_era e) ≡ table_after_run e.world.shape es1
  own1-is = ap (λ (v : World). table_of (empty_table v.shape.k) v.log) world1
      ∙ ap (λ (t : Dimensions). table_of (empty_table t.k) (after s es1).log) (shape-after (opening s) es1)

  items1 : (key : List ℕ) → (own_table (read_era e)).items key ≡ (table_after_run e.world.shape stands.era.events).items key
  items1 key = ap (λ (t : Contents). t.items key) own1-is ∙ same-items s es es1 rests.run well.rests_then.run settled1 key

  counts1 : (d : ℕ) → d < s.k → slice_index (own_table (read_era e)).counts d ≡ count_logged (read_era e).world d
  counts1 d below =
      ap (λ (t : Contents). slice_index t.counts d) own1-is ∙ (ties-of s es1 well.rests_then.run).counts d below
      ∙ sym (shown-long s d (no_store s) (settled_of s es1 d) (updates_of (after s es1) d)
      (log_shows_settled s (stands-always s (whole-always s)) es1 well.rests_then.run d below).updates)
      ∙ ap (λ (v : World). count_logged v d) (sym world1)

  -- what is carried
  abbrev pub parcels : List Parcel
  parcels = map (parcel_for e.world.shape stands.era.events rests) (loads (after e.world.shape stands.era.events))

  pub parcels-are : (reading e.world).parcels ≡ parcels
  parcels-are = ap (λ (v : World). (reading v).parcels) world ∙ well.parcels

  -- a key whose item is carried
  abbrev pub IsCarried : List ℕ → Type 0
  IsCarried key = (x : Parcel) × Contains parcels x × (x.key ≡ key)

  -- an item that lives is carried as it is
  pub record Carries (key : List ℕ) (h : Holding) : Type 0 where
    pub parcel : Parcel
    pub there : Contains parcels parcel
    pub key_is : parcel.key ≡ key
    pub flags : h.item.flags ≡ parcel.flags
    pub value : h.item.value ≡ parcel.value
    pub until : h.until ≡ parcel.until

  carries : (key : List ℕ) (h : Holding) → (table_after_run e.world.shape stands.era.events).items key ≡ Some h → is_live 0 h.until ≡ true → Carries key h
  carries key h is live =
      let d : ℕ = home_of key s.k in
      let below : d < s.k = home-below key s.k rests.run.0.k.0 in
      let found = finding.in-items s es rests d below key h refl is in
      let slot : Slot = found.0 in
      let x : Load = record { partition = d; key = key; slot = slot } in
      let lives : is_live 0 slot.until ≡ true = ap (λ (y : Holding). is_live 0 y.until) (sym found.2) ∙ live in
      let there : Contains (loads w) x = subst (λ (k : ℕ). Contains (loads_of w (range_with_len 0 k)) x)
      (sym (ap (λ (t : Dimensions). t.k) (shape-after (opening s) es)))
      (in-loads w s.k 0 d x (omega arith) (omega (arith, below)) (live-load d (settled_items w d) (key, slot) found.1 lives)) in
      record {
        parcel = parcel_for s es rests x;
        there = contains-map (parcel_for s es rests) (loads w) x there;
        key_is = refl;
        flags = ap (λ (y : Holding). y.item.flags) found.2;
        value = ap (λ (y : Holding). y.item.value) found.2;
        until = ap (λ (y : Holding). y.until) found.2;
      }

  module _ (s' : Dimensions) (successor : IsSuccessor e.world s') (can : CanCarry e.world s') where
    loads-are : Each (IsLoad s w) (loads w)
    loads-are = are-loads s w (shape-after (opening s) es)

    of-group : Each (IsOfGroup s') parcels
    of-group = each-map (IsOfGroup s') (parcel_for s es rests) (loads w) (each-weaker (IsLoad s w) (λ x. IsOfGroup s' (parcel_for s es rests x)) (λ x load.
        let table = finding.in-table s es rests x.partition load.below (x.key, x.slot) load.there in
        record {
          below = subst (λ (k : ℕ). x.partition < k) (sym successor.partitions) load.below;
          home = ap (home_of x.key) successor.partitions ∙ table.home;
          bytes = table.bytes;
        }) (loads w) loads-are)

    apart : EachTwo Apart parcels
    apart = two-map Apart (parcel_for s es rests) (loads w) (keys-differ s es rests)

    room : (d : ℕ) → d < s'.k → weight d parcels ≤ space_of s'
    room d low =
        let below : d < s.k = subst (λ (k : ℕ). d < k) successor.partitions low in
        let most = can.space d below in
        let is = weight-is s es rests d below ∙ ap (λ (v : World). bytes_in_partition v d) (sym world) in
        omega (arith, most, is)

    pub all-set : AllSet s' parcels [] [] parcels
    all-set = set-all s' parcels [] [] parcels (each-self parcels) (opens-setup s' successor.shape) (all-come s' [] parcels of-group apart tt room)

    abbrev sets : List Event
    sets = setting (opening s') parcels

    pub setup : SetUp s' (setting (opening s') parcels) parcels
    setup = all-set.setup

    run-sets : IsRunFrom (opening s') (setting (opening s') parcels)
    run-sets = setup.rests.run.1

    -- the next era, before anything is set
    abbrev e2 : Eras
    e2 = next_era (read_era e) s'

    k1 : (read_era e).world.shape.k ≡ s'.k
    k1 = ap (λ (t : Dimensions). t.k) shape1 ∙ sym successor.partitions

    own-era : (bases : _) (k : ℕ) (asked : List Event) (era : ℕ) (xs : List Entry) (ys : List EraEntry)
        → AreTold bases k asked era xs ys → Each (λ y. y.0 < suc era) ys
    own-era bases k asked era [] [] told = tt
    own-era bases k asked era [] (y ∷ ys) told = absurd told
    own-era bases k asked era (x ∷ xs) [] told = tt
    own-era bases k asked era (x ∷ xs) (y ∷ ys) told = ((let same = told.0 in omega (arith, same)), own-era bases k asked era xs ys told.2)

    earlier : (n : ℕ) (xs ys : List EraEntry) → Each (λ y. y.0 < n) xs → Each (λ y. y.0 < suc n) ys → Each (λ y. y.0 < suc n) (xs ++ ys)
    earlier n [] ys low more = more
    earlier n (x ∷ xs) ys low more = ((let less = low.0 in omega (arith, less)), earlier n xs ys low.1 more)

    era2 : IsEra (next_era (read_era e) s')
    era2 = record {
      asked = [];
      events = [];
      changed = refl;
      run = (successor.shape, tt);
      stands = refl;
      headline = headline_always s' [] (successor.shape, tt);
      before = (read_era e).log;
      own = [];
      log = sym (append-nil (read_era e).log);
      earlier = subst (Each (λ y. y.0 < suc (read_era e).era)) (sym stands1.era.log)
          (earlier (read_era e).era stands1.era.before stands1.era.own stands1.era.earlier
          (own-era (read_era e).bases (read_era e).world.shape.k stands1.era.asked (read_era e).era (read_era e).world.log stands1.era.own stands1.era.told));
      told = tt;
    }

    joined2 : (many : 1 ≤ (read_era e).world.shape.k)
        → Joined (next_bases (read_era e)) (read_era e).world.shape.k many IsCarried (table_over (read_era e)) (empty_table (read_era e).world.shape.k)
    joined2 many =
        let j : Joined (read_era e).bases (read_era e).world.shape.k many NoKey (table_over (read_era e)) (own_table (read_era e)) = stands1.joined many in
        record {
          many_all = j.many_all;
          many_own = length-replicate (read_era e).world.shape.k 0;
          counts = λ d below. count d below (j.counts d below);
          items = λ key. item key ((own_table (read_era e)).items key) refl (j.items key);
        }
      where
        count : (d : ℕ) → d < (read_era e).world.shape.k → slice_index (table_over (read_era e)).counts d
            ≡ with_base (read_era e).bases d (slice_index (own_table (read_era e)).counts d)
            → slice_index (table_over (read_era e)).counts d ≡ with_base (next_bases (read_era e)) d (slice_index (replicate (read_era e).world.shape.k 0) d)
        count d below is =
            let low : d < s.k = subst (λ (t : Dimensions). d < t.k) shape1 below in
            let base : at 0 (next_bases (read_era e)) d ≡ at 0 (read_era e).bases (0 + d) + count_logged (read_era e).world (0 + d)
            = at-map-range zero (λ (x : ℕ). at 0 (read_era e).bases x + count_logged (read_era e).world x) (read_era e).world.shape.k 0 d below in
            let start : 0 + d ≡ d = omega arith in
            let here : at 0 (read_era e).bases (0 + d) + count_logged (read_era e).world (0 + d) ≡ at 0 (read_era e).bases d + count_logged (read_era e).world d
            = ap (λ (x : ℕ). at 0 (read_era e).bases x + count_logged (read_era e).world x) start in
            let own = counts1 d low in
            let none = get_or-zeros (read_era e).world.shape.k d in
            omega (arith, is, base, here, own, none)

        item : (key : List ℕ) (o : Option Holding) → (own_table (read_era e)).items key ≡ o
            → Meets (read_era e).bases (read_era e).world.shape.k many NoKey key ((table_over (read_era e)).items key) ((own_table (read_era e)).items key)
            → Meets (next_bases (read_era e)) (read_era e).world.shape.k many IsCarried key ((table_over (read_era e)).items key) None
        item key o own (inr both) = absurd both.0
        item key o own (inl (Gone h is ends none)) = inl (Gone h is ends refl)
        item key None own (inl (Alike is has)) = inl (Alike (is ∙ ap (shift (read_era e).bases (home_of key (read_era e).world.shape.k)) own) tt)
        item key (Some h) own (inl (Alike is has)) = by (is_live 0 h.until) refl where
          by : (b : Bool) → is_live 0 h.until ≡ b → Meets (next_bases (read_era e)) (read_era e).world.shape.k many
              IsCarried key ((table_over (read_era e)).items key) None
          by true live = let found = carries key h (sym (items1 key) ∙ own) live in inr ((found.parcel, found.there, found.key_is), refl)
          by false dead = inl (Gone (shifted (read_era e).bases (home_of key (read_era e).world.shape.k) h)
              (is ∙ ap (shift (read_era e).bases (home_of key (read_era e).world.shape.k)) own) (dead-until h.until dead) refl)

    standing2 : Standing IsCarried (next_era (read_era e) s')
    standing2 = record {
      era = era2;
      legal = subst (λ (k : ℕ). IsLegal k (one_log (read_era e))) k1 stands1.legal;
      joined = subst (λ (k : ℕ). (many : 1 ≤ k) → Joined (next_bases (read_era e)) k many IsCarried
          (table_of (empty_table k) (one_log (read_era e))) (empty_table k)) k1 joined2;
    }

    standing3 : Standing IsCarried (eras_after (next_era (read_era e) s') (setting (opening s') parcels))
    standing3 = sets-along IsCarried parcels s' e2 [] standing2 refl (successor.shape, tt) tt sets run-sets all-set.plain

    carried-is : carried e s' ≡ eras_after (next_era (read_era e) s') (setting (opening s') parcels)
    carried-is = ap (λ (ps : List Parcel). eras_after (next_era (read_era e) s') (setting (opening s') ps)) parcels-are

    follows3 : Follows (next_era (read_era e) s') (eras_after (next_era (read_era e) s') (setting (opening s') parcels))
        (world_after (opening s') (setting (opening s') parcels))
    follows3 = follows e2 sets (each-weaker (IsPlain parcels) IsSame (plain-same parcels) sets all-set.plain)

    abbrev e3 : Eras
    e3 = eras_after (next_era (read_era e) s') (setting (opening s') parcels)

    own3-is : own_table e3 ≡ table_after_run s' (setting (opening s') parcels)
    own3-is = ap (λ (v : World). table_of (empty_table v.shape.k) v.log) follows3.world_is
        ∙ ap (λ (t : Dimensions). table_of (empty_table t.k) (after s' sets).log) (shape-after (opening s') sets)

    log-all : Each (λ (y : Entry). SetsOne parcels y.op) (after s' (setting (opening s') parcels)).log
    log-all = every (after s' sets).log (λ y there. there) where
      every : (ys : List Entry)
          → ((y : Entry) → Contains ys y → Contains (after s' (setting (opening s') parcels)).log y)
          → Each (λ (y : Entry). SetsOne parcels y.op) ys
      every [] within = tt
      every (y ∷ ys) within = (
        log-sets s' parcels (setting (opening s') parcels) setup.rests.run all-set.plain y (within y (0, omega arith, refl)),
        every ys (λ z there. within z (suc there.0, (let low = there.1 in omega (arith, low)), there.2)),
      )

    appeared : (x : Parcel) → Contains parcels x → is_some ((own_table e3).items x.key) ≡ true
    appeared x there = ap (λ (t : Contents). is_some (t.items x.key)) own3-is
        ∙ appears parcels (empty_table s'.k) (after s' sets).log x log-all (each-contained (HasSet (after s' sets).log) parcels x setup.logged there)

    stands3 : Stands e3
    stands3 = record {
      era = standing3.era;
      legal = standing3.legal;
      joined = λ many.
          let j : Joined e3.bases e3.world.shape.k many IsCarried (table_over e3) (own_table e3) = standing3.joined many in
          record {
            many_all = j.many_all;
            many_own = j.many_own;
            counts = j.counts;
            items = λ key. item many key (j.items key);
          };
    } where
      item : (many : 1 ≤ e3.world.shape.k) (key : List ℕ) → Meets e3.bases e3.world.shape.k many IsCarried key
          ((table_over e3).items key) ((own_table e3).items key)
          → Meets e3.bases e3.world.shape.k many NoKey key ((table_over e3).items key) ((own_table e3).items key)
      item many key (inl both) = inl both
      item many key (inr free) = absurd (cc (appeared free.0.0 free.0.1, ap (λ (k : List ℕ). is_some ((own_table e3).items k)) free.0.2, ap is_some free.1))

    pub run-set : IsRunFrom (opening s') (setting (opening s') (reading e.world).parcels)
    run-set = subst (λ (ps : List Parcel). IsRunFrom (opening s') (setting (opening s') ps)) (sym parcels-are) run-sets

    pub carried-stands : Stands (carried e s')
    carried-stands = subst Stands (sym carried-is) stands3

    -- of the new group
    pub world3 : (carried e s').world ≡ after s' (setting (opening s') parcels)
    world3 = ap (λ (x : Eras). x.world) carried-is ∙ follows3.world_is

    pub shape3 : (carried e s').world.shape ≡ s'
    shape3 = ap (λ (v : World). v.shape) world3 ∙ shape-after (opening s') sets

    -- the numbers of the next era are above all earlier ones
    base3 : (d : ℕ) → d < e.world.shape.k → (many : 1 ≤ e.world.shape.k) → slice_index (table_over e).counts d ≡ at 0 e3.bases d
    base3 d below many =
        let low : d < (read_era e).world.shape.k = subst (λ (t : Dimensions). d < t.k) (sym shape1) below in
        let j = (stands.joined many).counts d below in
        let start : 0 + d ≡ d = omega arith in
        let base : at 0 (next_bases (read_era e)) d ≡ at 0 (read_era e).bases (0 + d) + count_logged (read_era e).world (0 + d)
        = at-map-range zero (λ (x : ℕ). at 0 (read_era e).bases x + count_logged (read_era e).world x) (read_era e).world.shape.k 0 d low in
        let here : at 0 (read_era e).bases (0 + d) + count_logged (read_era e).world (0 + d) ≡ at 0 (read_era e).bases d + count_logged (read_era e).world d
        = ap (λ (x : ℕ). at 0 (read_era e).bases x + count_logged (read_era e).world x) start in
        let old : at 0 (read_era e).bases d ≡ at 0 e.bases d = ap (λ (b : List ℕ). at 0 b d) follows1.bases in
        let new : at 0 e3.bases d ≡ at 0 (next_bases (read_era e)) d = ap (λ (b : List ℕ). at 0 b d) follows3.bases in
        let counts : slice_index (own_table e).counts d ≡ slice_index (own_table (read_era e)).counts d
        = ap (λ (t : Contents). slice_index t.counts d) own-is
        ∙ sym (same-counts s es es1 rests.run well.rests_then.run settled1 d below)
        ∙ sym (ap (λ (t : Contents). slice_index t.counts d) own1-is) in
        let logged = counts1 d below in
        omega (arith, j, base, here, old, new, counts, logged)

    -- an item that lives is what it was
    module _ (key : List ℕ) (h : Holding) (there : (table_over e).items key ≡ Some h) (live : is_live 0 h.until ≡ true) where
      many : 1 ≤ e.world.shape.k
      many = rests.run.0.k.0

      many3 : 1 ≤ e3.world.shape.k
      many3 = stands3.era.run.0.k.0

      -- the item of the old era
      pub record Was : Type 0 where
        pub old : Holding
        pub own : (own_table e).items key ≡ Some old
        pub flags : old.item.flags ≡ h.item.flags
        pub value : old.item.value ≡ h.item.value
        pub until : old.until ≡ h.until

      was : Was
      was = by ((stands.joined many).items key) where
        alike : (o : Option Holding) → (own_table e).items key ≡ o → (table_over e).items key ≡ shift e.bases (home_of key s.k) o → Was
        alike None own is = absurd (cc (is, there))
        alike (Some x) own is =
            let same : shifted e.bases (home_of key s.k) x ≡ h = some-same (shifted e.bases (home_of key s.k) x) h (sym is ∙ there) in
            record {
              old = x;
              own = own;
              flags = ap (λ (y : Holding). y.item.flags) same;
              value = ap (λ (y : Holding). y.item.value) same;
              until = ap (λ (y : Holding). y.until) same;
            }

        by : Meets e.bases s.k many NoKey key ((table_over e).items key) ((own_table e).items key) → Was
        by (inl (Alike is has)) = alike ((own_table e).items key) refl is
        by (inl (Gone x is ends none)) =
            let same : x ≡ h = some-same x h (sym is ∙ there) in
            let dead : is_live 0 h.until ≡ false = ap (λ (y : Holding). is_live 0 y.until) (sym same) ∙ ap (is_live 0) ends in
            absurd (cc (dead, live))
        by (inr both) = absurd both.0

      carried-as : Carries key was.old
      carried-as = carries key was.old (ap (λ (t : Contents). t.items key) (sym own-is) ∙ was.own) (ap (is_live 0) was.until ∙ live)

      -- the item of the new one
      pub record Now : Type 0 where
        pub new : Holding
        pub own : (own_table e3).items key ≡ Some new
        pub flags : new.item.flags ≡ h.item.flags
        pub value : new.item.value ≡ h.item.value
        pub until : new.until ≡ h.until
        pub cas : 1 ≤ new.item.cas

      now : Now
      now = by (sets-items parcels (empty_table s'.k) (after s' sets).log key log-all (NoItem refl)) where
        x : Parcel
        x = carried-as.parcel

        by : SetItem parcels key ((table_after_run s' (setting (opening s') parcels)).items key) → Now
        by (NoItem none) =
            absurd (cc (
              appeared carried-as.parcel carried-as.there,
              ap (λ (k : List ℕ). is_some ((own_table e3).items k)) carried-as.key_is,
              ap (λ (t : Contents). is_some (t.items key)) own3-is,
              ap is_some none,
            ))
        by (OfSet y new in-parcels key_is is of) =
            let same : y ≡ carried-as.parcel = one-parcel parcels y carried-as.parcel apart in-parcels carried-as.there (key_is ∙ sym carried-as.key_is) in
            let lives : is_live 0 carried-as.parcel.until ≡ true = ap (is_live 0) (sym carried-as.until ∙ was.until) ∙ live in
            record {
              new = new;
              own = ap (λ (t : Contents). t.items key) own3-is ∙ is;
              flags = of.flags ∙ ap (λ (p : Parcel). p.flags) same ∙ sym carried-as.flags ∙ was.flags;
              value = of.value ∙ ap (λ (p : Parcel). p.value) same ∙ sym carried-as.value ∙ was.value;
              until = of.until ∙ ap (λ (p : Parcel). until_of (expiry_of p.until) 0) same
                  ∙ until-back carried-as.parcel.until lives ∙ sym carried-as.until ∙ was.until;
              cas = of.cas;
            }

      kept3 : IsItemKept (table_over e) key h (table_over e3)
      kept3 = by ((stands3.joined many3).items key) where
        home3 : home_of key e3.world.shape.k ≡ home_of key s.k
        home3 = ap (λ (v : World). home_of key v.shape.k) follows3.world_is ∙ ap (λ (t : Dimensions). home_of key t.k)
            (shape-after (opening s') sets) ∙ ap (home_of key) successor.partitions

        alike : (o : Option Holding) → (own_table e3).items key ≡ o → (table_over e3).items key
            ≡ shift e3.bases (home_of key e3.world.shape.k) o → IsItemKept (table_over e) key h (table_over e3)
        alike None own is = absurd (cc (now.own, own))
        alike (Some x) own is =
            let same : x ≡ now.new = some-same x now.new (sym own ∙ now.own) in
            let d : ℕ = home_of key s.k in
            let count : count_of (table_over e) key ≡ slice_index (table_over e).counts d =
            ap (λ (n : ℕ). slice_index (table_over e).counts (home_of key n)) (stands.joined many).many_all in
            let base = base3 d (home-below key s.k many) many in
            let here : at 0 e3.bases (home_of key e3.world.shape.k) ≡ at 0 e3.bases d = ap (at 0 e3.bases) home3 in
            let some = now.cas in
            let cas : x.item.cas ≡ now.new.item.cas = ap (λ (y : Holding). y.item.cas) same in
            record {
              holding = shifted e3.bases (home_of key e3.world.shape.k) x;
              there = is;
              flags = ap (λ (y : Holding). y.item.flags) same ∙ now.flags;
              value = ap (λ (y : Holding). y.item.value) same ∙ now.value;
              until = ap (λ (y : Holding). y.until) same ∙ now.until;
              above = omega (arith, count, base, here, some, cas);
            }

        by : Meets e3.bases e3.world.shape.k many3 NoKey key ((table_over e3).items key) ((own_table e3).items key)
            → IsItemKept (table_over e) key h (table_over e3)
        by (inl (Alike is has)) = alike ((own_table e3).items key) refl is
        by (inl (Gone x is ends none)) = absurd (cc (now.own, none))
        by (inr both) = absurd both.0

    -- each parcel is of an item of the old era that lives
    pub record OfOld (x : Parcel) : Type 0 where
      pub old : Holding
      pub there : (table_after_run e.world.shape stands.era.events).items x.key ≡ Some old
      pub flags : old.item.flags ≡ x.flags
      pub value : old.item.value ≡ x.value
      pub until : old.until ≡ x.until
      pub live : is_live 0 x.until ≡ true

    of-old : Each OfOld parcels
    of-old = each-map OfOld (parcel_for s es rests) (loads w) (each-weaker (IsLoad s w) (λ x. OfOld (parcel_for s es rests x)) (λ x load. record {
      old = item_of s es rests x;
      there = (finding.in-table s es rests x.partition load.below (x.key, x.slot) load.there).there;
      flags = refl;
      value = refl;
      until = refl;
      live = load.live;
    }) (loads w) loads-are)

    -- an item of the new era that lives was there
    module _ (key : List ℕ) (h : Holding) (there : (table_over e3).items key ≡ Some h) (live : is_live 0 h.until ≡ true) where
      -- as it was in the whole table, from what it was in the old era's
      before : (old : Holding) → (own_table e).items key ≡ Some old → old.item.flags ≡ h.item.flags → old.item.value ≡ h.item.value → old.until ≡ h.until
          → WasThere (table_over e) key h
      before old own flags value until = by ((stands.joined rests.run.0.k.0).items key) where
        by : Meets e.bases s.k rests.run.0.k.0 NoKey key ((table_over e).items key) ((own_table e).items key) → WasThere (table_over e) key h
        by (inl (Alike is has)) = record {
          holding = shifted e.bases (home_of key s.k) old;
          there = is ∙ ap (shift e.bases (home_of key s.k)) own;
          flags = flags;
          value = value;
          until = until;
        }
        by (inl (Gone x is ends none)) = absurd (cc (own, none))
        by (inr both) = absurd both.0

      from-set : (x : Holding) → (own_table e3).items key ≡ Some x → shifted e3.bases (home_of key e3.world.shape.k) x ≡ h → WasThere (table_over e) key h
      from-set x own same = by (sets-items parcels (empty_table s'.k) (after s' sets).log key log-all (NoItem refl)) where
        by : SetItem parcels key ((table_after_run s' (setting (opening s') parcels)).items key) → WasThere (table_over e) key h
        by (NoItem none) = absurd (cc (own, ap (λ (t : Contents). t.items key) own3-is, none))
        by (OfSet y new in-parcels key_is is of) =
            let new-is : new ≡ x = some-same new x (sym is ∙ ap (λ (t : Contents). t.items key) (sym own3-is) ∙ own) in
            let was : OfOld y = each-contained OfOld parcels y of-old in-parcels in
            before was.old (ap (λ (t : Contents). t.items key) own-is ∙ ap (λ (k : List ℕ). (table_after_run s es).items k) (sym key_is) ∙ was.there)
            (was.flags ∙ sym of.flags ∙ ap (λ (z : Holding). z.item.flags) new-is ∙ ap (λ (z : Holding). z.item.flags) same)
            (was.value ∙ sym of.value ∙ ap (λ (z : Holding). z.item.value) new-is ∙ ap (λ (z : Holding). z.item.value) same)
            (was.until ∙ sym (until-back y.until was.live) ∙ sym of.until ∙ ap (λ (z : Holding). z.until) new-is ∙ ap (λ (z : Holding). z.until) same)

      was3 : WasThere (table_over e) key h
      was3 = by ((stands3.joined stands3.era.run.0.k.0).items key) where
        alike : (o : Option Holding) → (own_table e3).items key ≡ o → (table_over e3).items key
            ≡ shift e3.bases (home_of key e3.world.shape.k) o → WasThere (table_over e) key h
        alike None own is = absurd (cc (is, there))
        alike (Some x) own is = from-set x own (some-same (shifted e3.bases (home_of key e3.world.shape.k) x) h (sym is ∙ there))

        by : Meets e3.bases e3.world.shape.k stands3.era.run.0.k.0 NoKey key ((table_over e3).items key)
            ((own_table e3).items key) → WasThere (table_over e) key h
        by (inl (Alike is has)) = alike ((own_table e3).items key) refl is
        by (inl (Gone x is ends none)) =
            let same : x ≡ h = some-same x h (sym is ∙ there) in
            let dead : is_live 0 h.until ≡ false = ap (λ (y : Holding). is_live 0 y.until) (sym same) ∙ ap (is_live 0) ends in
            absurd (cc (dead, live))
        by (inr both) = absurd both.0

    pub has-carried : HasCarried e s'
    has-carried = record {
      shape = shape3;
      whole = λ p pin. ap (λ (v : World). is_dead v p) world3 ∙ setup.live p;
      drained = subst IsDrained (sym world3) setup.rests.drained;
      kept = λ key h there live. subst (λ (x : Eras). IsItemKept (table_over e) key h (table_over x)) (sym carried-is) (kept3 key h there live);
      none_new = λ key h there live. was3 key h (ap (λ (x : Eras). (table_over x).items key) (sym carried-is) ∙ there) live;
    }
