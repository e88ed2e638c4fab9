-- The items that are carried have different keys, and their values are as long as their slots say.
use Rattle.std.proofs.Common.{ℕ, zero, suc, ◌≡◌, ◌≢◌, ◌<◌, ◌≤◌, ◌+◌, ◌==◌, Bool, true, false, cond, List, [], ◌∷◌, ◌++◌}
use Rattle.std.proofs.Common.{length, map, AllPairs, ◌⊎◌, inl, inr, refl, sym, ap, subst, ◌∙◌, arith}
use Rattle.group_types.proofs.Eaches.{each-append, each-weaker}
use Rattle.group_eras.proofs.Lists.{map-both}
use Rattle.std.specs.Prelude.{Contains, filter}
use Rattle.std.specs.List.{range_with_len, sum_by}
use Rattle.std.proofs.lemmas.Bool.{cases_eq, eq-eqb, ne_eqb}
use Rattle.std.proofs.lemmas.List.Sums.{sum_by-cons}
use Rattle.std.specs.Prelude.{slice_index_or}
use Rattle.group_types.specs.Dimensions.{Dimensions}
use Rattle.group_types.specs.Each.{Each, EachTwo}
use Rattle.group_types.specs.Hash.{home_of}
use Rattle.item_index.specs.declared.slot.Slot.{Slot}
use Rattle.memc_table.specs.Expiry.{is_live}
use Rattle.group_calls.specs.declared.event.Event.{Event}
use Rattle.group_run.specs.Replica.{Items}
use Rattle.group_run.specs.World.{World, after, opening}
use Rattle.group_eras.specs.Carry.{Parcel}
use Rattle.group_eras.specs.Items.{Load, bytes_in_partition, load_of_slot, loads, loads_in, loads_of, settled_items}
use Rattle.group_eras.proofs.Draining.{shape-after}
use Rattle.group_eras.proofs.Finding as finding
use Rattle.group_eras.proofs.Readings.{IsLoad, parcel_for, some-loads}
use Rattle.group_eras.proofs.Resting.{Rests}
use Rattle.group_eras.proofs.Setup.{weight, weight-both, weight_if}

abbrev KeysApart : Load → Load → Type 0
KeysApart x y = x.key ≢ y.key

two-of : {X : Type 0} (R : X → X → Type 0) (xs : List X) → AllPairs R xs → EachTwo R xs
two-of R [] all = tt
two-of R (x ∷ xs) all = (
  first xs (λ i d low. all 0 (suc i) d (omega arith) (omega (arith, low))),
  two-of R xs (λ i j d before below. all (suc i) (suc j) d (omega (arith, before)) (omega (arith, below))),
) where
  first : (ys : List _) → ((i : ℕ) (d : _) → i < length ys → R x (slice_index_or ys i d)) → Each (R x) ys
  first [] each = tt
  first (y ∷ ys) each = (each 0 y (omega arith), first ys (λ i d low. each (suc i) d (omega (arith, low))))

pub two-both : {X : Type 0} (R : X → X → Type 0) (xs ys : List X) → EachTwo R xs → EachTwo R ys → Each (λ x. Each (R x) ys) xs → EachTwo R (xs ++ ys)
two-both R [] ys one two cross = two
two-both R (x ∷ xs) ys one two cross = (both xs one.0, two-both R xs ys one.1 two cross.1) where
  both : (zs : List _) → Each (R x) zs → Each (R x) (zs ++ ys)
  both [] all = cross.0
  both (z ∷ zs) all = (all.0, both zs all.1)

module _ (s : Dimensions) (es : List Event) (rests : Rests s es) where
  abbrev w : World
  w = after s es

  -- of one partition
  kept-two : (d : ℕ) (items : Items) → EachTwo (λ x y. x.0 ≢ y.0) items → EachTwo KeysApart (map (load_of_slot d) (filter (λ x. is_live 0 x.1.until) items))
  kept-two d [] two = tt
  kept-two d (x ∷ xs) two = by (is_live 0 x.1.until) (kept-two d xs two.1) where
    others : (ys : Items) → Each (λ y. x.0 ≢ y.0) ys → Each (KeysApart (load_of_slot d x)) (map (load_of_slot d) (filter (λ y. is_live 0 y.1.until) ys))
    others [] all = tt
    others (y ∷ ys) all = keep (is_live 0 y.1.until) (others ys all.1) where
      keep : (b : Bool) → Each (KeysApart (load_of_slot d x)) (map (load_of_slot d) (filter (λ z. is_live 0 z.1.until) ys))
          → Each (KeysApart (load_of_slot d x))
          (map (load_of_slot d) (cond b (y ∷ filter (λ z. is_live 0 z.1.until) ys) (filter (λ z. is_live 0 z.1.until) ys)))
      keep true rest = (all.0, rest)
      keep false rest = rest

    by : (b : Bool) → EachTwo KeysApart (map (load_of_slot d) (filter (λ y. is_live 0 y.1.until) xs))
        → EachTwo KeysApart (map (load_of_slot d) (cond b (x ∷ filter (λ y. is_live 0 y.1.until) xs) (filter (λ y. is_live 0 y.1.until) xs)))
    by true rest = (others xs two.0, rest)
    by false rest = rest

  -- their partitions, and their homes
  abbrev OfPartition : ℕ → Load → Type 0
  OfPartition d x = (x.partition ≡ d) × (home_of x.key s.k ≡ d)

  of-one : (d : ℕ) (below : d < s.k) (items : Items) → ((x : List ℕ × Slot) → Contains items x → Contains (settled_items w d) x)
      → Each (OfPartition d) (map (load_of_slot d) (filter (λ x. is_live 0 x.1.until) items))
  of-one d below [] within = tt
  of-one d below (x ∷ xs) within =
      by (is_live 0 x.1.until) (of-one d below xs (λ y there. within y (suc there.0, (let low = there.1 in omega (arith, low)), there.2))) where
        by : (b : Bool) → Each (OfPartition d) (map (load_of_slot d) (filter (λ y. is_live 0 y.1.until) xs))
            → Each (OfPartition d) (map (load_of_slot d) (cond b (x ∷ filter (λ y. is_live 0 y.1.until) xs) (filter (λ y. is_live 0 y.1.until) xs)))
        by true rest = ((refl, (finding.in-table s es rests d below x (within x (0, omega arith, refl))).home), rest)
        by false rest = rest

  pub of-partition : (d : ℕ) → d < s.k → Each (OfPartition d) (loads_in w d)
  of-partition d below = of-one d below (settled_items w d) (λ x there. there)

  -- of all partitions
  abbrev HomeFrom : ℕ → Load → Type 0
  HomeFrom a x = a ≤ home_of x.key s.k

  homes-from : (n a : ℕ) → a + n ≤ s.k → Each (HomeFrom a) (loads_of w (range_with_len a n))
  homes-from zero a low = tt
  homes-from (suc n) a low = each-append (HomeFrom a) (loads_in w a) (loads_of w (range_with_len (a + 1) n))
      (each-weaker (OfPartition a) (HomeFrom a) (λ x of. let home = of.1 in omega (arith, home)) (loads_in w a) (of-partition a (omega (arith, low))))
      (each-weaker (HomeFrom (a + 1)) (HomeFrom a) (λ x from. omega (arith, from))
      (loads_of w (range_with_len (a + 1) n)) (homes-from n (a + 1) (omega (arith, low))))

  two-loads : (n a : ℕ) → a + n ≤ s.k → EachTwo KeysApart (loads_of w (range_with_len a n))
  two-loads zero a low = tt
  two-loads (suc n) a low = two-both KeysApart (loads_in w a) (loads_of w (range_with_len (a + 1) n))
      (kept-two a (settled_items w a) (two-of (λ x y. x.0 ≢ y.0) (settled_items w a) (finding.settled s es rests a (omega (arith, low))).once))
      (two-loads n (a + 1) (omega (arith, low)))
      (each-weaker (OfPartition a) (λ x. Each (KeysApart x) (loads_of w (range_with_len (a + 1) n)))
      (λ x of. each-weaker (HomeFrom (a + 1)) (KeysApart x) (λ y from same.
      let home = of.1 in let one : home_of x.key s.k ≡ home_of y.key s.k = ap (λ (key : List ℕ). home_of key s.k) same in omega (arith, home, one, from))
      (loads_of w (range_with_len (a + 1) n)) (homes-from n (a + 1) (omega (arith, low))))
      (loads_in w a) (of-partition a (omega (arith, low))))

  partitions : w.shape.k ≡ s.k
  partitions = ap (λ (t : Dimensions). t.k) (shape-after (opening s) es)

  pub keys-differ : EachTwo KeysApart (loads w)
  keys-differ = subst (λ (k : ℕ). EachTwo KeysApart (loads_of w (range_with_len 0 k))) (sym partitions) (two-loads s.k 0 (omega arith))

  -- how long values are
  pub value-long : (x : Load) → IsLoad s w x → length (parcel_for s es rests x).value ≡ x.slot.len
  value-long x load = (finding.in-table s es rests x.partition load.below (x.key, x.slot) load.there).long

  abbrev pub parcels_of : List Load → List Parcel
  parcels_of xs = map (parcel_for s es rests) xs

  weight-one : (d e : ℕ) (xs : List Load) → Each (IsLoad s w) xs → Each (OfPartition d) xs → weight e (parcels_of xs)
      ≡ weight_if (d == e) (sum_by (λ x. x.slot.len) xs)
  weight-one d e [] loads of = nothing (d == e) where
    nothing : (b : Bool) → 0 ≡ weight_if b 0
    nothing true = refl
    nothing false = refl
  weight-one d e (x ∷ xs) loads of = by (d == e) (weight-one d e xs loads.1 of.1) (ap (λ (n : ℕ). n == e) of.0.0) where
    long : length (parcel_for s es rests x).value ≡ x.slot.len
    long = value-long x loads.0

    by : (b : Bool) → weight e (parcels_of xs) ≡ weight_if b (sum_by (λ y. y.slot.len) xs) → (x.partition == e) ≡ b
        → weight_if (x.partition == e) (length (parcel_for s es rests x).value) + weight e (parcels_of xs) ≡ weight_if b (sum_by (λ y. y.slot.len) (x ∷ xs))
    by true rest same =
        let one : weight_if (x.partition == e) (length (parcel_for s es rests x).value)
        ≡ length (parcel_for s es rests x).value =
        ap (λ (b : Bool). weight_if b (length (parcel_for s es rests x).value)) same in
        let cons = sum_by-cons (λ (y : Load). y.slot.len) x xs in
        omega (arith, one, cons, rest, long)
    by false rest same =
        let none : weight_if (x.partition == e) (length (parcel_for s es rests x).value) ≡ 0 =
        ap (λ (b : Bool). weight_if b (length (parcel_for s es rests x).value)) same in
        omega (arith, none, rest)

  no-weight : (e n a : ℕ) → e < a → a + n ≤ s.k → weight e (parcels_of (loads_of w (range_with_len a n))) ≡ 0
  no-weight e zero a above low = refl
  no-weight e (suc n) a above low =
      let both = ap (weight e) (map-both (parcel_for s es rests) (loads_in w a) (loads_of w (range_with_len (a + 1) n)))
      ∙ weight-both e (parcels_of (loads_in w a)) (parcels_of (loads_of w (range_with_len (a + 1) n))) in
      let here : weight e (parcels_of (loads_in w a)) ≡ 0 =
      weight-one a e (loads_in w a) (some-loads s w a (omega (arith, low)) (settled_items w a) (λ x there. there))
      (of-partition a (omega (arith, low)))
      ∙ ap (λ (b : Bool). weight_if b (sum_by (λ x. x.slot.len) (loads_in w a))) (ne_eqb a e (λ (same : a ≡ e). omega (arith, same, above))) in
      let rest = no-weight e n (a + 1) (omega (arith, above)) (omega (arith, low)) in
      omega (arith, both, here, rest)

  weight-loads : (e n a : ℕ) → a ≤ e → e < a + n → a + n ≤ s.k → weight e (parcels_of (loads_of w (range_with_len a n))) ≡ bytes_in_partition w e
  weight-loads e zero a from to low = absurd (omega (arith, from, to))
  weight-loads e (suc n) a from to low = by (cases_eq a e) (λ above. weight-loads e n (a + 1) above (omega (arith, to)) (omega (arith, low))) where
    both : weight e (parcels_of (loads_of w (range_with_len a (suc n)))) ≡ weight e (parcels_of (loads_in w a)) + weight
        e (parcels_of (loads_of w (range_with_len (a + 1) n)))
    both = ap (weight e) (map-both (parcel_for s es rests) (loads_in w a) (loads_of w (range_with_len (a + 1) n)))
        ∙ weight-both e (parcels_of (loads_in w a)) (parcels_of (loads_of w (range_with_len (a + 1) n)))

    one : weight e (parcels_of (loads_in w a)) ≡ weight_if (a == e) (sum_by (λ x. x.slot.len) (loads_in w a))
    one = weight-one a e (loads_in w a) (some-loads s w a (omega (arith, low)) (settled_items w a) (λ x there. there)) (of-partition a (omega (arith, low)))

    by : (a ≡ e) ⊎ (a ≢ e) → (a + 1 ≤ e → weight e (parcels_of (loads_of w (range_with_len (a + 1) n))) ≡ bytes_in_partition w e)
        → weight e (parcels_of (loads_of w (range_with_len a (suc n)))) ≡ bytes_in_partition w e
    by (inl same) later =
        let here : weight_if (a == e) (sum_by (λ x. x.slot.len) (loads_in w a)) ≡ bytes_in_partition w a =
        ap (λ (b : Bool). weight_if b (sum_by (λ x. x.slot.len) (loads_in w a))) (eq-eqb a e same) in
        let rest = no-weight e n (a + 1) (omega (arith, same)) (omega (arith, low)) in
        let all : weight e (parcels_of (loads_of w (range_with_len a (suc n)))) ≡ bytes_in_partition w a = omega (arith, both, one, here, rest) in
        all ∙ ap (bytes_in_partition w) same
    by (inr other) later =
        let none : weight_if (a == e) (sum_by (λ x. x.slot.len) (loads_in w a)) ≡ 0 =
        ap (λ (b : Bool). weight_if b (sum_by (λ x. x.slot.len) (loads_in w a))) (ne_eqb a e other) in
        let rest = later (omega (arith, from, other)) in
        omega (arith, both, one, none, rest)

  -- all values of a partition have as many bytes as its items
  pub weight-is : (d : ℕ) → d < s.k → weight d (parcels_of (loads w)) ≡ bytes_in_partition w d
  weight-is d below = ap (λ (k : ℕ). weight d (parcels_of (loads_of w (range_with_len 0 k)))) partitions
      ∙ weight-loads d s.k 0 (omega arith) (omega (arith, below)) (omega arith)
