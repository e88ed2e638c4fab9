-- What stands behind an era: how its items are read, and what the next one begins with.
use Rattle.std.proofs.Common.{◌≡◌, ℕ, zero, suc, ◌+◌, ◌<◌, ◌≤◌, Bool, true, false, cond, List, [], ◌∷◌, ◌++◌, length}
use Rattle.std.proofs.Common.{map, Option, refl, sym, ap, subst, ◌∙◌, arith}
use Rattle.std.specs.Prelude.{All, count_by, fold}
use Rattle.std.specs.List.{range_with_len}
use Rattle.std.proofs.lemmas.List.Elements.{All-cons, All-head, All-map, All-nil, All-tail}
use Rattle.group_types.specs.Lists.{at}
use Rattle.group_types.specs.declared.run.Run.{Run}
use Rattle.memc_table.specs.Act.{key_of}
use Rattle.memc_table.specs.Contents.{Contents, table_after}
use Rattle.group_calls.specs.declared.entry.Entry.{Entry}
use Rattle.group_run.specs.Meaning.{Logged, count_logged, is_update_of, next_run, runs_left, updates_from}
use Rattle.group_run.specs.World.{World, front_if, world_after}
use Rattle.group_eras.specs.Carry.{Getting, got, parcel_of, read_all, read_before, reading}
use Rattle.group_eras.specs.Carry as carry
use Rattle.group_eras.specs.Items.{Load, loads}
use Rattle.group_eras.proofs.Lists.{map-more}
use Rattle.group_regroup.specs.Carrying.{StandFor, bases_after, load_known}
use Rattle.group_regroup.specs.Items.{AreAllWithin, AreWithin, item_load, item_loads, parcel_as, parcels_as}
use Rattle.group_regroup.specs.declared.items.Item.{Item}
use Rattle.group_regroup.specs.declared.items.Parcel.{Parcel}
use Rattle.group_regroup.proofs.Readings.{got-after}
use Rattle.group_regroup.proofs.Tries.{after-append}

-- where a value stands and what its number is isn't looked at as it is read
read-known : (w : World) (xs : List Load) → read_all w (map load_known xs) ≡ read_all w xs
read-known w [] = refl
read-known w (x ∷ xs) = ap (read_before (got w x) (parcel_of x (got w x).answer)) (read-known (got w x).world xs)

pub read-stand : (w : World) (items : List Item) → StandFor items (loads w) → read_all w (item_loads items) ≡ reading w
read-stand w items stand = ap (read_all w) stand ∙ read-known w (loads w)

pub read-after : (w : World) (xs : List Load) → (read_all w xs).world ≡ world_after w (read_all w xs).events
read-after w [] = refl
read-after w (x ∷ xs) =
    let g : Getting = got w x in
    let rest : carry.Reading = read_all g.world xs in
    read-after g.world xs ∙ ap (λ (v : World). world_after v rest.events) (got-after w x.partition x.key) ∙ sym (after-append w g.events rest.events)

-- what is read of the first partitions is of them
abbrev pub InFirst : ℕ → carry.Parcel → Type 0
InFirst k x = x.partition < k

read-within : (k : ℕ) (w : World) (xs : List Load) → All (λ x. x.partition < k) xs → All (InFirst k) (read_all w xs).parcels
read-within k w [] all = All-nil (InFirst k)
read-within k w (x ∷ xs) all =
    All-cons (InFirst k) (parcel_of x (got w x).answer) (read_all (got w x).world xs).parcels (All-head (λ (y : Load). y.partition < k) x xs all)
    (read-within k (got w x).world xs (All-tail (λ (y : Load). y.partition < k) x xs all))

parcels-back : (k : ℕ) (ps : List Parcel) → All (InFirst k) (parcels_as ps) → AreAllWithin k ps
parcels-back k [] all = All-nil (λ (x : Parcel). x.item.partition.0 < k)
parcels-back k (p ∷ ps) all =
    All-cons (λ (x : Parcel). x.item.partition.0 < k) p ps (All-head (InFirst k) (parcel_as p) (parcels_as ps) all)
    (parcels-back k ps (All-tail (InFirst k) (parcel_as p) (parcels_as ps) all))

pub parcels-within : (k : ℕ) (w : World) (items : List Item) (ps : List Parcel) → AreWithin k items
    → parcels_as ps ≡ (read_all w (item_loads items)).parcels → AreAllWithin k ps
parcels-within k w items ps within is =
    parcels-back k ps (subst (All (InFirst k)) (sym is) (read-within k w (item_loads items) (All-map (λ (x : Load). x.partition < k) item_load items within)))

-- a log has as many updates of a partition as entries that are one
counted-from : (k d : ℕ) (t : Contents) (runs : List (Option Run)) (es : List Entry) (a : ℕ)
    → fold (λ n e. n + cond (is_update_of k d e) 1 0) a es ≡ a + length (updates_from k d t runs es)
counted-from k d t runs [] a = omega arith
counted-from k d t runs (e ∷ es) a =
    let b : Bool = is_update_of k d e in
    let later = counted-from k d (table_after t e.op) (runs_left b runs) es (a + cond b 1 0) in
    let front = by b (record { entry = e; run = next_run runs; item = (table_after t e.op).items (key_of e.op.act) })
    (updates_from k d (table_after t e.op) (runs_left b runs) es) in
    omega (arith, later, front)
  where
    by : (b : Bool) (x : Logged) (xs : List Logged) → length (front_if b x xs) ≡ length xs + cond b 1 0
    by true x xs = omega arith
    by false x xs = omega arith

pub counted : (k d : ℕ) (t : Contents) (runs : List (Option Run)) (es : List Entry) → count_by (is_update_of k d) es ≡ length (updates_from k d t runs es)
counted k d t runs es = let all = counted-from k d t runs es 0 in omega (arith, all)

-- a list for each partition, one more
range-more : {X : Type 0} (f : ℕ → X) (n a : ℕ) → map f (range_with_len a (suc n)) ≡ map f (range_with_len a n) ++ f (a + n) ∷ []
range-more f zero a = let here : a ≡ a + 0 = omega arith in ap (λ (d : ℕ). f d ∷ []) here
range-more {X} f (suc n) a =
    let next : a + 1 + n ≡ a + suc n = omega arith in
    ap (λ (xs : List X). f a ∷ xs) (range-more f n (a + 1) ∙ ap (λ (d : ℕ). map f (range_with_len (a + 1) n) ++ f d ∷ []) next)

range-first : {X : Type 0} (f : ℕ → X) (n : ℕ) → map f (range_with_len 0 (suc n)) ≡ map f (range_with_len 0 n) ++ f n ∷ []
range-first {X} f n = let none : 0 + n ≡ n = omega arith in range-more f n 0 ∙ ap (λ (d : ℕ). map f (range_with_len 0 n) ++ f d ∷ []) none

pub range-long : {X : Type 0} (f : ℕ → X) (n a : ℕ) → length (map f (range_with_len a n)) ≡ n
range-long f zero a = refl
range-long f (suc n) a = ap suc (range-long f n (a + 1))

pub range-all : {X : Type 0} (P : X → Type 0) (f : ℕ → X) (n a : ℕ) → ((d : ℕ) → d < a + n → P (f d)) → All P (map f (range_with_len a n))
range-all P f zero a each = All-nil P
range-all P f (suc n) a each = All-cons P (f a) (map f (range_with_len (a + 1) n)) (each a (omega arith))
    (range-all P f n (a + 1) (λ d low. each d (omega (arith, low))))

pub at-low : (bases : List ℕ) (d most : ℕ) → 0 < most → All (λ base. base < most) bases → at 0 bases d < most
at-low [] d most some all = some
at-low (x ∷ xs) zero most some all = All-head (λ (base : ℕ). base < most) x xs all
at-low (x ∷ xs) (suc d) most some all = at-low xs d most some (All-tail (λ (base : ℕ). base < most) x xs all)

-- the bases of the first partitions
pub record AreBases (w : World) (bases next : List ℕ) (many : ℕ) : Type 0 where
  pub low : many ≤ w.shape.k
  pub is : next ≡ map (λ d. at 0 bases d + count_logged w d) (range_with_len 0 many)

pub bases-none : (w : World) (bases : List ℕ) → AreBases w bases [] 0
bases-none w bases = record { low = omega arith; is = refl }

module _ (w : World) (bases next : List ℕ) (many : ℕ) (are : AreBases w bases next many) where
  pub bases-next : (now : List ℕ) (base : ℕ) → many < w.shape.k → now ≡ next ++ base ∷ []
      → base ≡ at 0 bases many + count_logged w many → AreBases w bases now (many + 1)
  bases-next now base below is value = record { low = omega (arith, below); is = pushed } where
    one : suc many ≡ many + 1
    one = omega arith

    pushed : now ≡ map (λ d. at 0 bases d + count_logged w d) (range_with_len 0 (many + 1))
    pushed = is ∙ ap (λ (xs : List ℕ). xs ++ base ∷ []) are.is
        ∙ ap (λ (x : ℕ). map (λ d. at 0 bases d + count_logged w d) (range_with_len 0 many) ++ x ∷ []) value
        ∙ sym (range-first (λ d. at 0 bases d + count_logged w d) many) ∙ ap (λ (n : ℕ). map (λ d. at 0 bases d + count_logged w d) (range_with_len 0 n)) one

  pub bases-all : w.shape.k ≤ many → next ≡ bases_after w bases
  bases-all high =
      let low = are.low in
      let whole : many ≡ w.shape.k = omega (arith, low, high) in
      are.is ∙ ap (λ (n : ℕ). map (λ d. at 0 bases d + count_logged w d) (range_with_len 0 n)) whole

-- a list that is pushed to, member by member
pub map-same : {X Y : Type 0} (f : X → Y) (xs ys : List X) → xs ≡ ys → map f xs ≡ map f ys
map-same f xs ys is = ap (map f) is

pub map-push : {X Y : Type 0} (f : X → Y) (xs ys zs : List X) (y : X) → xs ≡ ys ++ y ∷ [] → ys ≡ zs → map f xs ≡ map f zs ++ f y ∷ []
map-push {X} {Y} f xs ys zs y is same = map-same f xs (ys ++ y ∷ []) is ∙ map-more f ys y ∙ ap (λ (us : List Y). us ++ f y ∷ []) (map-same f ys zs same)
