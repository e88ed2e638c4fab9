-- What is decoded from bytes that stand at one stamp.
use Rattle.std.proofs.Common.{◌≡◌, ℕ, zero, suc, ◌+◌, ◌*◌, ◌<◌, ◌≤◌, ◌==◌, ◌&&◌, ◌||◌, Bool, true, false, List, [], ◌∷◌}
use Rattle.std.proofs.Common.{◌++◌, length, map, get_or, replicate, bit_xor, All, Contains, Option, Some, None, ◌⊎◌}
use Rattle.std.proofs.Common.{inl, inr, sym, ap, subst, ◌∙◌, refl, arith, is_some}
use Rattle.std.specs.Int.Bits.{xor_zero_l}
use Rattle.std.proofs.lemmas.Grind.{same_number_lists}
use Rattle.std.proofs.lemmas.List.{length-map, length-replicate, get_or_default}
use Rattle.std.proofs.lemmas.List.FromFn.{get_or-map-range_with_len, length-map-range_with_len}
use Rattle.std.proofs.lemmas.Nat.{mul-le}
use Rattle.std.proofs.lemmas.Option.{slice_get-get_or}
use Rattle.std.specs.List.{list_all, list_any, range_with_len}
use Rattle.field_byte.specs.Field.{product}
use Rattle.field_byte.specs.Vectors.{field_sum}
use Rattle.field_byte.proofs.FieldSums.{sum_same}
use Rattle.erasure_code.specs.Code.{Column, coded, coefficient, decoded}
use Rattle.erasure_code.specs.Columns.{Agree, AreDifferent, AreOfBytes, IsEachBelow, column_numbers}
use Rattle.erasure_code.specs.Laws.{CanDecode}
use Rattle.erasure_code.proofs.Decoding.{lost_are_decoded}
use Rattle.erasure_code.proofs.Lists.{get_or-zeros}
use Rattle.erasure_code.proofs.Nodes.{Among}
use Rattle.erasure_code.proofs.Partitions.{coded_at, coded_long}
use Rattle.group_types.specs.Dimensions.{Dimensions, space_of}
use Rattle.group_types.specs.Lists.{at}
use Rattle.group_types.specs.Names.{IsProcess}
use Rattle.group_types.specs.Shape.{IsShape}
use Rattle.group_types.specs.declared.process.ProcessId.{ProcessId}
use Rattle.group_types.specs.declared.process.ProcessId.TheVariants.{DataNode, ParityNode}
use Rattle.group_types.specs.Each.{Each}
use Rattle.group_types.proofs.Eaches.{each-append, each-take, each-weaker}
use Rattle.group_message.specs.declared.update.Update.{Update}
use Rattle.group_run.specs.Leaders.{columns_from, decoded_of, is_complete}
use Rattle.group_run.specs.Process.{Gathering}
use Rattle.law_bytes.specs.Areas.{IsArea, IsBlock, WritesBytes, block_size, code, held, value, SettledWrite}
use Rattle.law_bytes.specs.Decoding.{GathersRight, Rising, SessionsDecode, SpaceIs, SpacesStand, columns, values}
use Rattle.law_bytes.specs.Held.{stand}
use Rattle.law_bytes.proofs.Rising.{Differ, all-among, all-each, among-contains, among-left, among-range, among-right}
use Rattle.law_bytes.proofs.Rising.{any-among, contains-among, differ-append, differ-pairs, differ-rising, each-among}
use Rattle.law_bytes.proofs.Rising.{rising-same}
use Rattle.law_bytes.proofs.Values.{IsAdded, space-added, value-byte}

-- two areas of the same are one
pub area-one : (from len : ℕ) (f : ℕ → ℕ) (a b : List ℕ) → IsArea from len f a → IsArea from len f b → a ≡ b
area-one from len f a b left right = same_number_lists a b (left.long ∙ sym right.long) (λ x below.
    let low : x < len = subst (λ (n : ℕ). x < n) left.long below in left.same x low ∙ sym (right.same x low))

-- the bytes of an area
abbrev pub bytes_of : ℕ → ℕ → (ℕ → ℕ) → List ℕ
bytes_of from len f = map f (range_with_len from len)

pub bytes-area : (from len : ℕ) (f : ℕ → ℕ) → IsArea from len f (bytes_of from len f)
bytes-area from len f = record { long = length-map-range_with_len f from len; same = λ x below. get_or-map-range_with_len f from len x (from + x) 0 below refl }

-- columns that are areas
pub record AreAreas (k from len : ℕ) (f : ℕ → ℕ → ℕ) (cs : List (List ℕ)) : Type 0 where
  pub many : length cs ≡ k
  pub each : (d : ℕ) → d < k → IsArea from len (f d) (get_or cs d [])

pub areas-of : (k from len : ℕ) (f : ℕ → ℕ → ℕ) (column : ℕ → List ℕ)
    → ((d : ℕ) → d < k → IsArea from len (f d) (column d)) → AreAreas k from len f (map column (range_with_len 0 k))
areas-of k from len f column area = record {
  many = length-map-range_with_len column 0 k;
  each = λ d below. subst (IsArea from len (f d))
      (sym (get_or-map-range_with_len column 0 k d d [] below (let same : 0 + d ≡ d = omega arith in same)))
      (area d below);
}

module _ (k from len : ℕ) (f : ℕ → ℕ → ℕ) (cs : List (List ℕ)) (areas : AreAreas k from len f cs) where
  column-at : (d : ℕ) (e : List ℕ) → d < length cs → IsArea from len (f d) (get_or cs d e)
  column-at d e below = subst (IsArea from len (f d)) (get_or_default cs d [] e below) (areas.each d (subst (λ (n : ℕ). d < n) areas.many below))

  pub areas-long : All (λ c. length c ≡ len) cs
  areas-long d e below = (column-at d e below).long

  pub areas-bytes : ((d x : ℕ) → d < k → f d x < 256) → AreOfBytes cs
  areas-bytes bytes d e below x y low =
      let area = column-at d e below in
      subst (λ (n : ℕ). n < 256) (sym (get_or_default (get_or cs d e) x y 0 low ∙ area.same x (subst (λ (n : ℕ). x < n) area.long low)))
      (bytes d (from + x) (subst (λ (n : ℕ). d < n) areas.many below))

  -- their code is the area of the code
  pub coded-area : (m i : ℕ) → IsArea from len (λ x. field_sum k (λ d. product (coefficient m i d) (f d x))) (coded m i len cs)
  coded-area m i = record {
    long = coded_long m i len cs areas-long;
    same = λ x below.
        coded_at m i len x cs areas-long
        ∙ ap (λ (n : ℕ). field_sum n (λ d. product (coefficient m i d) (get_or (get_or cs d []) x 0))) areas.many
        ∙ sum_same k _ _ (λ d low. ap (product (coefficient m i d)) ((areas.each d low).same x below));
  }

-- what has come in, with its numbers
columns-each : (P : ℕ → List ℕ → Type 0) (a : ℕ) (parts : List (Option (List ℕ))) → ((j : ℕ) (bytes : List ℕ) → at None parts j ≡ Some bytes → P (a + j) bytes)
    → Each (λ c. P c.number c.bytes) (columns_from a parts)
columns-each P a [] every = tt
columns-each P a (None ∷ parts) every =
    columns-each P (suc a) parts
    (λ j bytes is. subst (λ (n : ℕ). P n bytes) (let same : a + suc j ≡ suc a + j = omega arith in same)
    (every (suc j) bytes is))
columns-each P a (Some bytes ∷ parts) every = (
  subst (λ (n : ℕ). P n bytes) (let same : a + 0 ≡ a = omega arith in same) (every 0 bytes refl),
  columns-each P (suc a) parts (λ j more is. subst (λ (n : ℕ). P n more) (let same : a + suc j ≡ suc a + j = omega arith in same) (every (suc j) more is)),
)

columns-above : (b a : ℕ) (parts : List (Option (List ℕ))) → b ≤ a → Each (λ y. b ≤ y) (column_numbers (columns_from a parts))
columns-above b a [] low = tt
columns-above b a (None ∷ parts) low = columns-above b (suc a) parts (omega (arith, low))
columns-above b a (Some bytes ∷ parts) low = (low, columns-above b (suc a) parts (omega (arith, low)))

columns-rise : (a : ℕ) (parts : List (Option (List ℕ))) → Rising (column_numbers (columns_from a parts))
columns-rise a [] = tt
columns-rise a (None ∷ parts) = columns-rise (suc a) parts
columns-rise a (Some bytes ∷ parts) = (
  each-weaker (λ y. suc a ≤ y) (λ y. a < y) (λ y above. omega (arith, above))
      (column_numbers (columns_from (suc a) parts)) (columns-above (suc a) (suc a) parts (omega arith)),
  columns-rise (suc a) parts,
)

columns-among : (a : ℕ) (parts : List (Option (List ℕ))) (j : ℕ) → is_some (at None parts j) ≡ true → Among (a + j) (column_numbers (columns_from a parts))
columns-among a [] j there = absurd (cc there)
columns-among a (None ∷ parts) zero there = absurd (cc there)
columns-among a (None ∷ parts) (suc j) there =
    subst (λ (n : ℕ). Among n (column_numbers (columns_from (suc a) parts))) (let same : suc a + j ≡ a + suc j = omega arith
    in same) (columns-among (suc a) parts j there)
columns-among a (Some bytes ∷ parts) zero there = inl (let same : a + 0 ≡ a = omega arith in same)
columns-among a (Some bytes ∷ parts) (suc j) there =
    inr (subst (λ (n : ℕ). Among n (column_numbers (columns_from (suc a) parts)))
    (let same : suc a + j ≡ a + suc j = omega arith in same) (columns-among (suc a) parts j there))

numbers-each : (P : ℕ → Type 0) (cs : List Column) → Each (λ c. P c.number) cs → Each P (column_numbers cs)
numbers-each P [] all = tt
numbers-each P (c ∷ cs) all = (all.0, numbers-each P cs all.1)

-- each number is lost or known
pub each-below-of : (k : ℕ) (lost known : List ℕ) → Differ lost → Differ known
    → ((x : ℕ) → Among x lost → ¬ (Among x known)) → Each (λ x. x < k) lost → Each (λ x. x < k) known
    → ((d : ℕ) → d < k → Among d lost ⊎ Among d known) → IsEachBelow k (lost ++ known)
each-below-of k lost known a b apart lost_in known_in either = record {
  different = differ-pairs (lost ++ known) (differ-append lost known a b apart);
  below = all-each (λ x. x < k) (lost ++ known) (each-append (λ x. x < k) lost known lost_in known_in);
  all = λ d low. among-contains (lost ++ known) d (by d (either d low));
} where
  by : (d : ℕ) → Among d lost ⊎ Among d known → Among d (lost ++ known)
  by d (inl there) = among-left d lost known there
  by d (inr there) = among-right d lost known there

and-parts : (a b : Bool) → (a && b) ≡ true → (a ≡ true) × (b ≡ true)
and-parts true true both = (refl, refl)
and-parts true false both = absurd (cc both)
and-parts false b both = absurd (cc both)

or-parts : (a b : Bool) → (a || b) ≡ true → (a ≡ true) ⊎ (b ≡ true)
or-parts true b either = inl refl
or-parts false true either = inr refl
or-parts false false either = absurd (cc either)

module _ (s : Dimensions) (us : ℕ → List Update) (g : Gathering) (shaped : IsShape s) (right : GathersRight s us g) (complete : is_complete s g ≡ true) where
  known : List Column
  known = columns_from 0 g.blocks_in

  rows : List Column
  rows = columns_from 0 g.rows_in

  parts : (list_all (λ d. list_any (λ l. l == d) g.lost || is_some (at None g.blocks_in d)) (range_with_len 0 s.k)
      ≡ true) × (list_all (λ i. is_some (at None g.rows_in i)) g.rows ≡ true)
  parts = and-parts _ _ complete

  known_each : Each (λ c. (c.number < s.k) × (¬ (Contains g.lost c.number)) × IsBlock s g.block (value (us c.number)) c.bytes) known
  unfolding known
  known_each = columns-each (λ d bytes. (d < s.k) × (¬ (Contains g.lost d)) × IsBlock s g.block (value (us d)) bytes) 0 g.blocks_in
      (λ j bytes is. subst (λ (n : ℕ). (n < s.k) × (¬ (Contains g.lost n)) × IsBlock s g.block (value (us n)) bytes)
      (let same : j ≡ 0 + j = omega arith in same) (right.blocks j bytes is))

  rows_each : Each (λ c. Contains g.rows c.number × IsBlock s g.block (code s c.number us) c.bytes) rows
  unfolding rows
  rows_each = columns-each (λ i bytes. Contains g.rows i × IsBlock s g.block (code s i us) bytes) 0 g.rows_in
      (λ j bytes is. subst (λ (n : ℕ). Contains g.rows n × IsBlock s g.block (code s n us) bytes)
      (let same : j ≡ 0 + j = omega arith in same) (right.codes j bytes is))

  known_in : Each (λ d. (d < s.k) × (¬ (Contains g.lost d))) (column_numbers known)
  known_in =
      numbers-each (λ d. (d < s.k) × (¬ (Contains g.lost d))) known
      (each-weaker (λ c. (c.number < s.k) × (¬ (Contains g.lost c.number)) × IsBlock s g.block (value (us c.number))
      c.bytes) (λ c. (c.number < s.k) × (¬ (Contains g.lost c.number))) (λ c all. (all.0, all.1)) known known_each)

  rows_are : column_numbers rows ≡ g.rows
  unfolding rows
  rows_are = rising-same (column_numbers rows) g.rows (columns-rise 0 g.rows_in) right.rows
      (λ i there. contains-among g.rows i (each-among (λ x. Contains g.rows x) (column_numbers rows) i
      (numbers-each (λ x. Contains g.rows x) rows
      (each-weaker (λ c. Contains g.rows c.number × IsBlock s g.block (code s c.number us) c.bytes)
      (λ c. Contains g.rows c.number) (λ c all. all.0) rows rows_each)) there))
      (λ i there. subst (λ (n : ℕ). Among n (column_numbers rows)) (let same : 0 + i ≡ i = omega arith in same)
      (columns-among 0 g.rows_in i (all-among (λ x. is_some (at None g.rows_in x)) g.rows i parts.1 there)))

  either : (d : ℕ) → d < s.k → Among d g.lost ⊎ Among d (column_numbers known)
  unfolding known
  either d below =
      by (or-parts _ _ (all-among (λ d. list_any (λ l. l == d) g.lost || is_some (at None g.blocks_in d))
      (range_with_len 0 s.k) d parts.0 (among-range d 0 s.k (omega arith) (omega (arith, below))))) where
        by : (list_any (λ l. l == d) g.lost ≡ true) ⊎ (is_some (at None g.blocks_in d) ≡ true) → Among d g.lost
            ⊎ Among d (column_numbers (columns_from 0 g.blocks_in))
        by (inl lost) = inl (any-among g.lost d lost)
        by (inr there) =
            inr (subst (λ (n : ℕ). Among n (column_numbers (columns_from 0 g.blocks_in))) (let same : 0 + d ≡ d = omega arith in
            same) (columns-among 0 g.blocks_in d there))

  can : CanDecode s.k s.m g.lost rows known
  unfolding known rows
  can = record {
    processes = let a = shaped.k in let b = shaped.m in omega (arith, a, b);
    partitions = each-below-of s.k g.lost (column_numbers known) (differ-rising g.lost right.lost)
        (differ-rising (column_numbers known) (columns-rise 0 g.blocks_in))
        (λ x lost there. (each-among (λ d. (d < s.k) × (¬ (Contains g.lost d))) (column_numbers known) x known_in there).1
        (among-contains g.lost x lost)) right.lost_in
        (each-weaker (λ d. (d < s.k) × (¬ (Contains g.lost d))) (λ d. d < s.k) (λ d all. all.0) (column_numbers known) known_in) either;
    different = subst AreDifferent (sym rows_are) (differ-pairs g.rows (differ-rising g.rows right.rows));
    below = subst (All (λ i. i < s.m)) (sym rows_are) (all-each (λ i. i < s.m) g.rows right.rows_in);
    as_many = sym (length-map rows (λ row. row.number)) ∙ ap length rows_are ∙ right.as_many;
  }

  size : block_size s g.block ≡ s.block
  size = let inside = right.inside in
      let fits : (g.block + 1) * s.block ≤ s.blocks * s.block = mul-le (g.block + 1) s.block s.blocks s.block (omega (arith, inside)) (omega arith) in
      let sum : (g.block + 1) * s.block ≡ g.block * s.block + s.block = omega arith in
      omega (arith, fits, sum)

  whole : List (List ℕ)
  whole = map (λ d. bytes_of (g.block * s.block) s.block (value (us d))) (range_with_len 0 s.k)

  areas : AreAreas s.k (g.block * s.block) s.block (λ d. value (us d)) whole
  unfolding whole
  areas = areas-of s.k (g.block * s.block) s.block (λ d. value (us d))
      (λ d. bytes_of (g.block * s.block) s.block (value (us d)))
      (λ d below. bytes-area (g.block * s.block) s.block (value (us d)))

  to_area : (f : ℕ → ℕ) (bytes : List ℕ) → IsBlock s g.block f bytes → IsArea (g.block * s.block) s.block f bytes
  to_area f bytes block = subst (λ (n : ℕ). IsArea (g.block * s.block) n f bytes) size block

  agree : Agree s.k s.m s.block rows known whole
  agree = record {
    many = areas.many;
    long = areas-long s.k (g.block * s.block) s.block (λ d. value (us d)) whole areas;
    holds =
        all-each (λ c. get_or whole c.number [] ≡ c.bytes) known
        (each-weaker (λ c. (c.number < s.k) × (¬ (Contains g.lost c.number)) × IsBlock s g.block (value (us c.number))
        c.bytes) (λ c. get_or whole c.number [] ≡ c.bytes)
        (λ c all. area-one (g.block * s.block) s.block (value (us c.number)) (get_or whole c.number []) c.bytes
        (areas.each c.number all.0) (to_area (value (us c.number)) c.bytes all.2)) known known_each);
    codes =
        all-each (λ c. c.bytes ≡ coded s.m c.number s.block whole) rows
        (each-weaker (λ c. Contains g.rows c.number × IsBlock s g.block (code s c.number us) c.bytes) (λ c. c.bytes ≡ coded s.m c.number s.block whole)
        (λ c all. area-one (g.block * s.block) s.block (code s c.number us) c.bytes (coded s.m c.number s.block whole)
        (to_area (code s c.number us) c.bytes all.1) (coded-area s.k (g.block * s.block) s.block (λ d. value (us d))
        whole areas s.m c.number)) rows rows_each);
  }

  pub decoded-block : (l : ℕ) → Contains g.lost l → IsBlock s g.block (value (us l)) (decoded_of s g l)
  unfolding known rows
  decoded-block l there =
      let low : l < s.k = each-among (λ d. d < s.k) g.lost l right.lost_in (contains-among g.lost l there) in
      let all = lost_are_decoded s.k s.m s.block g.lost rows known whole can
      (areas-bytes s.k (g.block * s.block) s.block (λ d. value (us d)) whole areas (λ d x below. value-byte s (us d) x (right.write d below))) agree in
      let is : get_or whole l [] ≡ decoded s.m s.block g.lost rows known l =
      subst (λ (x : ℕ). get_or whole x [] ≡ decoded s.m s.block g.lost rows known x) there.2
      (all there.0 l there.1) in
      subst (λ (n : ℕ). IsArea (g.block * s.block) n (value (us l)) (decoded_of s g l)) (sym size)
      (subst (IsArea (g.block * s.block) s.block (value (us l))) is (areas.each l low))

pub sessions_decode : SessionsDecode
sessions_decode s us g shaped right complete l there = decoded-block s us g shaped right complete l there

-- the space of a partition is its values
pub values-area : (s : Dimensions) (d : ℕ) (us : List Update) → Each (WritesBytes s) us → IsArea 0 (space_of s) (value us) (values s d us)
values-area s d us write = record {
  long = added.long ∙ length-replicate (space_of s) 0;
  same = λ x below.
      added.bytes x (subst (λ (n : ℕ). x < n) (sym (length-replicate {A = ℕ} (space_of s) 0)) below)
      ∙ ap (λ (y : ℕ). bit_xor y (value us x)) (get_or-zeros (space_of s) x) ∙ xor_zero_l (value us x)
      ∙ (let same : x ≡ 0 + x = omega arith in ap (value us) same);
} where
  added : IsAdded (value us) (replicate (space_of s) 0) (values s d us)
  added = space-added s (DataNode d) d us (replicate (space_of s) 0) (length-replicate (space_of s) 0) write

pub columns-areas : (s : Dimensions) (us : ℕ → List Update) → SettledWrite s us → AreAreas s.k 0 (space_of s) (λ d. value (us d)) (columns s us)
columns-areas s us write = areas-of s.k 0 (space_of s) (λ d. value (us d)) (λ d. values s d (us d)) (λ d below. values-area s d (us d) (write d below))

pub spaces_stand : SpacesStand
spaces_stand s settled p x name inside write holds = by x name inside where
  applied : SettledWrite s (stand settled p)
  applied d below = each-take (WritesBytes s) _ (settled d) (write d below)

  areas : AreAreas s.k 0 (space_of s) (λ d. value (stand settled p d)) (columns s (stand settled p))
  areas = columns-areas s (stand settled p) applied

  space_is : (y : ProcessId) → p.name ≡ y → IsArea 0 (space_of s) (held s y (stand settled p)) p.space
  space_is y is = subst (λ (z : ProcessId). IsArea 0 (space_of s) (held s z (stand settled p)) p.space) is holds.space

  by : (y : ProcessId) → p.name ≡ y → IsProcess s y → SpaceIs s (columns s (stand settled p)) y p.space
  by (DataNode d) is below =
      slice_get-get_or (columns s (stand settled p)) d [] (subst (λ (n : ℕ). d < n) (sym areas.many) below)
      ∙ ap Some (area-one 0 (space_of s) (value (stand settled p d)) (get_or (columns s (stand settled p)) d []) p.space
      (areas.each d below) (space_is (DataNode d) is))
  by (ParityNode i) is below =
      area-one 0 (space_of s) (code s i (stand settled p)) p.space (coded s.m i (space_of s) (columns s (stand settled p))) (space_is (ParityNode i) is)
      (coded-area s.k 0 (space_of s) (λ d. value (stand settled p d)) (columns s (stand settled p)) areas s.m i)
