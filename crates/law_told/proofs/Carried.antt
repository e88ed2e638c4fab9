-- The items that are carried are those of the keys that live at some moment, and have as many bytes as their values.
use Rattle.std.proofs.Common.{ℕ, zero, suc, ◌≡◌, ◌≢◌, ◌<◌, ◌≤◌, ◌+◌, true, false, List, [], ◌∷◌, ◌++◌, length, map}
use Rattle.std.proofs.Common.{Option, Some, None, ◌⊎◌, inl, inr, refl, sym, ap, subst, ◌∙◌, arith}
use Rattle.std.specs.Prelude.{Contains}
use Rattle.std.specs.List.{range_with_len, sum_by}
use Rattle.std.proofs.lemmas.Bool.{cases_lt}
use Rattle.std.proofs.lemmas.List.{length-map}
use Rattle.std.proofs.lemmas.List.Sums.{sum_by-cons}
use Rattle.group_types.specs.Dimensions.{Dimensions, space_of}
use Rattle.group_types.specs.Each.{Each, EachTwo}
use Rattle.group_types.specs.Hash.{home_of}
use Rattle.group_types.proofs.Eaches.{each-left}
use Rattle.memc_table.specs.Contents.{Contents, empty_table}
use Rattle.memc_table.specs.Expiry.{is_live}
use Rattle.memc_table.specs.declared.holding.Holding.{Holding}
use Rattle.group_calls.specs.Log.{table_of}
use Rattle.group_calls.specs.declared.event.Event.{Event}
use Rattle.group_run.specs.World.{World, after, opening}
use Rattle.law_log.proofs.Calls.{each-contained}
use Rattle.law_log.proofs.Tables.{home-below}
use Rattle.law_moves.proofs.Reading.{some-same}
use Rattle.group_eras.specs.Eras.{Eras}
use Rattle.group_eras.specs.Items.{Load, bytes_in_partition, load_of_slot, loads, loads_in, loads_of, settled_items}
use Rattle.group_eras.specs.Promise.{table_over}
use Rattle.group_eras.specs.Refusal.{IsAtRest, IsFirstTooLong}
use Rattle.group_eras.proofs.Carrying as carrying
use Rattle.group_eras.proofs.Draining.{shape-after}
use Rattle.group_eras.proofs.Finding as finding
use Rattle.group_eras.proofs.Joins.{Meets}
use Rattle.group_eras.proofs.Lists.{contains-map, two-map}
use Rattle.group_eras.proofs.Living.{in-loads, live-load}
use Rattle.group_eras.proofs.Loading.{keys-differ, of-partition}
use Rattle.group_eras.proofs.Promises.{led-stands}
use Rattle.group_eras.proofs.Readings.{IsLoad, are-loads, some-loads}
use Rattle.group_eras.proofs.Resting.{Rests, table_after_run}
use Rattle.group_eras.proofs.Shifts.{Alike, Gone, shift, shifted}
use Rattle.group_eras.proofs.Standing.{NoKey, Stands, own_table}
use Rattle.law_told.specs.Eras.{AreLiving, AreLivingIn, CarriesAreCounted, HasValueBytes, NoSpaceIsFirst, bytes_held}

two-left : {X : Type 0} (R : X → X → Type 0) (xs ys : List X) → EachTwo R (xs ++ ys) → EachTwo R xs
two-left R [] ys two = tt
two-left R (x ∷ xs) ys two = (each-left (R x) xs ys two.0, two-left R xs ys two.1)

two-right : {X : Type 0} (R : X → X → Type 0) (xs ys : List X) → EachTwo R (xs ++ ys) → EachTwo R ys
two-right R [] ys two = two
two-right R (x ∷ xs) ys two = two-right R xs ys two.1

map-of : {X Y : Type 0} (f : X → Y) (xs : List X) (y : Y) → Contains (map f xs) y → (x : X) × Contains xs x × (f x ≡ y)
map-of f [] y there = absurd (let low = there.1 in omega (arith, low))
map-of f (x ∷ xs) y (zero, low, is) = (x, (0, omega arith, refl), is)
map-of f (x ∷ xs) y (suc i, low, is) = let rest = map-of f xs y (i, omega (arith, low), is) in
    (rest.0, (suc rest.1.0, (let less = rest.1.1 in omega (arith, less)), rest.1.2), rest.2)

abbrev keys_of : List Load → List (List ℕ)
keys_of xs = map (λ x. x.key) xs

abbrev Apart : Load → Load → Type 0
Apart x y = x.key ≢ y.key

two-in : (w : World) (n a d : ℕ) → a ≤ d → d < a + n → EachTwo Apart (loads_of w (range_with_len a n)) → EachTwo Apart (loads_in w d)
two-in w zero a d from to two = absurd (omega (arith, from, to))
two-in w (suc n) a d from to two =
    by (cases_lt a d) (λ less. two-in w n (a + 1) d (omega (arith, less)) (omega (arith, to))
    (two-right Apart (loads_in w a) (loads_of w (range_with_len (a + 1) n)) two))
  where
    by : (a < d) ⊎ (d ≤ a) → (a < d → EachTwo Apart (loads_in w d)) → EachTwo Apart (loads_in w d)
    by (inl less) later = later less
    by (inr same) later =
        let here : a ≡ d = omega (arith, same, from) in
        subst (λ (i : ℕ). EachTwo Apart (loads_in w i)) here (two-left Apart (loads_in w a) (loads_of w (range_with_len (a + 1) n)) two)

module _ (e : Eras) (stands : Stands e) (rest : IsAtRest e.world) where
  abbrev s : Dimensions
  s = e.world.shape

  abbrev es : List Event
  es = stands.era.events

  abbrev w : World
  w = after e.world.shape stands.era.events

  some : 1 ≤ e.world.shape.k
  some = stands.era.run.0.k.0

  abbrev rests : Rests e.world.shape stands.era.events
  rests = carrying.rests e stands rest

  own-is : own_table e ≡ table_after_run e.world.shape stands.era.events
  own-is = ap (λ (v : World). table_of (empty_table e.world.shape.k) v.log) stands.era.stands

  -- an item of the whole table that lives is one of the era's
  record Own (key : List ℕ) (h : Holding) : Type 0 where
    pub old : Holding
    pub there : (own_table e).items key ≡ Some old
    pub until : old.until ≡ h.until

  to-own : (key : List ℕ) (h : Holding) → (table_over e).items key ≡ Some h → is_live 0 h.until ≡ true → Own key h
  to-own key h there live = by ((stands.joined some).items key) where
    alike : (o : Option Holding) → (own_table e).items key ≡ o → (table_over e).items key ≡ shift e.bases (home_of key s.k) o → Own key h
    alike None own is = absurd (cc (is, there))
    alike (Some x) own is =
        let same : shifted e.bases (home_of key s.k) x ≡ h = some-same (shifted e.bases (home_of key s.k) x) h (sym is ∙ there) in
        record { old = x; there = own; until = ap (λ (y : Holding). y.until) same }

    by : Meets e.bases s.k some NoKey key ((table_over e).items key) ((own_table e).items key) → Own key h
    by (inl (Alike is has)) = alike ((own_table e).items key) refl is
    by (inl (Gone x is ends none)) =
        let same : x ≡ h = some-same x h (sym is ∙ there) in
        let dead : is_live 0 h.until ≡ false = ap (λ (y : Holding). is_live 0 y.until) (sym same) ∙ ap (is_live 0) ends in
        absurd (cc (dead, live))
    by (inr both) = absurd both.0

  -- and one of the era's is one of the whole
  record Whole (key : List ℕ) (old : Holding) : Type 0 where
    pub now : Holding
    pub there : (table_over e).items key ≡ Some now
    pub until : now.until ≡ old.until
    pub value : now.item.value ≡ old.item.value

  to-whole : (key : List ℕ) (old : Holding) → (own_table e).items key ≡ Some old → Whole key old
  to-whole key old own = by ((stands.joined some).items key) where
    by : Meets e.bases s.k some NoKey key ((table_over e).items key) ((own_table e).items key) → Whole key old
    by (inl (Alike is has)) =
        record {
          now = shifted e.bases (home_of key s.k) old;
          there = is ∙ ap (shift e.bases (home_of key s.k)) own;
          until = refl;
          value = refl;
        }
    by (inl (Gone x is ends none)) = absurd (cc (own, none))
    by (inr both) = absurd both.0

  -- an item that is carried is in the table, and lives
  record Held (x : Load) : Type 0 where
    pub now : Holding
    pub there : (table_over e).items x.key ≡ Some now
    pub live : is_live 0 now.until ≡ true
    pub long : bytes_held ((table_over e).items x.key) ≡ x.slot.len

  held-of : (x : Load) → IsLoad s w x → Held x
  held-of x load =
      let in-table : finding.InTable s es rests x.partition load.below (x.key, x.slot) =
      finding.in-table s es rests x.partition load.below (x.key, x.slot) load.there in
      let old : Holding = _ in
      let whole = to-whole x.key old (ap (λ (t : Contents). t.items x.key) own-is ∙ in-table.there) in
      record {
        now = whole.now;
        there = whole.there;
        live = ap (is_live 0) whole.until ∙ load.live;
        long = ap bytes_held whole.there ∙ ap length whole.value ∙ in-table.long;
      }

  -- and one that lives is carried
  carried-of : (key : List ℕ) (h : Holding) → (table_over e).items key ≡ Some h → is_live 0 h.until ≡ true
      → Contains (keys_of (loads_in w (home_of key s.k))) key
  carried-of key h there live =
      let d : ℕ = home_of key s.k in
      let own : Own key h = to-own key h there live in
      let item = finding.in-items s es rests d (home-below key s.k some) key own.old refl (ap (λ (t : Contents). t.items key) (sym own-is) ∙ own.there) in
      let lives : is_live 0 item.0.until ≡ true = ap (λ (y : Holding). is_live 0 y.until) (sym item.2) ∙ ap (is_live 0) own.until ∙ live in
      contains-map (λ x. x.key) (loads_in w d) (load_of_slot d (key, item.0)) (live-load d (settled_items w d) (key, item.0) item.1 lives)

  shape-is : w.shape ≡ s
  shape-is = shape-after (opening s) es

  all-held : Each (IsLoad s w) (loads w)
  all-held = are-loads s w shape-is

  held-in : (d : ℕ) → d < s.k → Each (IsLoad s w) (loads_in w d)
  held-in d below = some-loads s w d below (settled_items w d) (λ x there. there)

  partitions : w.shape.k ≡ s.k
  partitions = ap (λ (t : Dimensions). t.k) shape-is

  -- all that are carried
  living : AreLiving (table_over e) (keys_of (loads w))
  living = record {
    once = two-map (λ a b. a ≢ b) (λ (x : Load). x.key) (loads w) (keys-differ s es rests);
    all = λ key h there live.
        let here = map-of (λ (x : Load). x.key) (loads_in w (home_of key s.k)) key (carried-of key h there live) in
        subst (Contains (keys_of (loads w))) here.2
        (contains-map (λ (x : Load). x.key) (loads w) here.0
        (subst (λ (k : ℕ). Contains (loads_of w (range_with_len 0 k)) here.0) (sym partitions)
        (in-loads w s.k 0 (home_of key s.k) here.0 (omega arith) (let low = home-below key s.k some in omega (arith, low)) here.1)));
    live = λ key there.
        let x = map-of (λ (x : Load). x.key) (loads w) key there in
        let held : Held x.0 = held-of x.0 (each-contained (IsLoad s w) (loads w) x.0 all-held x.1) in
        (held.now, ap (λ (other : List ℕ). (table_over e).items other) (sym x.2) ∙ held.there, held.live);
  }

  -- those of a partition
  living-in : (d : ℕ) → d < s.k → AreLivingIn s.k d (table_over e) (keys_of (loads_in w d))
  living-in d below = record {
    once = two-map (λ a b. a ≢ b) (λ (x : Load). x.key) (loads_in w d)
        (two-in w s.k 0 d (omega arith) (omega (arith, below))
        (subst (λ (k : ℕ). EachTwo Apart (loads_of w (range_with_len 0 k))) partitions (keys-differ s es rests)));
    all = λ key h home there live. subst (λ (i : ℕ). Contains (keys_of (loads_in w i)) key) home (carried-of key h there live);
    live = λ key there.
        let x = map-of (λ (x : Load). x.key) (loads_in w d) key there in
        let held : Held x.0 = held-of x.0 (each-contained (IsLoad s w) (loads_in w d) x.0 (held-in d below) x.1) in
        let home = (each-contained (λ (y : Load). (y.partition ≡ d) × (home_of y.key s.k ≡ d)) (loads_in w d) x.0 (of-partition s es rests d below) x.1).1 in (
          ap (λ (other : List ℕ). home_of other s.k) (sym x.2) ∙ home,
          held.now,
          ap (λ (other : List ℕ). (table_over e).items other) (sym x.2) ∙ held.there,
          held.live,
        );
  }

  -- how many bytes they have
  sums : (xs : List Load) → Each (IsLoad s w) xs → sum_by (λ key. bytes_held ((table_over e).items key)) (keys_of xs) ≡ sum_by (λ x. x.slot.len) xs
  sums [] all = refl
  sums (x ∷ xs) all =
      let rest = sums xs all.1 in
      let one = (held-of x all.0).long in
      let left = sum_by-cons (λ (key : List ℕ). bytes_held ((table_over e).items key)) x.key (keys_of xs) in
      let right = sum_by-cons (λ (y : Load). y.slot.len) x xs in
      omega (arith, rest, one, left, right)

  bytes-are : (d : ℕ) → d < s.k → HasValueBytes e d (bytes_in_partition w d)
  bytes-are d below = (keys_of (loads_in w d), living-in d below, sums (loads_in w d) (held-in d below))

  pub many-living : (keys : List (List ℕ)) × AreLiving (table_over e) keys × (length (loads e.world) ≡ length keys)
  many-living = (keys_of (loads w), living, ap (λ (v : World). length (loads v)) stands.era.stands ∙ sym (length-map (loads w) (λ (x : Load). x.key)))

  pub has-bytes : (d : ℕ) → d < e.world.shape.k → HasValueBytes e d (bytes_in_partition e.world d)
  has-bytes d below = subst (λ (n : ℕ). HasValueBytes e d n) (ap (λ (v : World). bytes_in_partition v d) (sym stands.era.stands)) (bytes-are d below)

pub carries_are_counted : CarriesAreCounted
carries_are_counted e led rest = many-living e (led-stands e led) rest

pub no_space_is_first : NoSpaceIsFirst
no_space_is_first e s d led refused = record {
  partition = first.partition;
  long = (bytes_in_partition e.world d.0, has-bytes e stands refused.0 d.0 first.partition, first.long);
  lower = λ f below.
      let fits = first.lowest f below in
      let inside = first.partition in
      (bytes_in_partition e.world f, has-bytes e stands refused.0 f (omega (arith, below, inside)), low f (first.lowest f below));
} where
  stands : Stands e
  stands = led-stands e led

  first : IsFirstTooLong e.world s d.0
  first = refused.1

  low : (f : ℕ) → ¬ (space_of s < bytes_in_partition e.world f) → bytes_in_partition e.world f ≤ space_of s
  low f not = by (cases_lt (space_of s) (bytes_in_partition e.world f)) where
    by : (space_of s < bytes_in_partition e.world f) ⊎ (bytes_in_partition e.world f ≤ space_of s) → bytes_in_partition e.world f ≤ space_of s
    by (inl long) = absurd (not long)
    by (inr fits) = fits
