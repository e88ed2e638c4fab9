-- What updates leave at an address: values and code are sums over the updates.
use Rattle.std.proofs.Common.{◌≡◌, ◌≢◌, ℕ, ◌+◌, ◌-◌, ◌<◌, ◌≤◌, ◌*◌, ◌==◌, List, [], ◌∷◌, ◌++◌, length, get_or, bit_xor}
use Rattle.std.proofs.Common.{All, ◌⊎◌, inl, inr, sym, ap, subst, ◌∙◌, refl, arith, if◌then◌else◌}
use Rattle.std.specs.Int.Bits.{xor_assoc, xor_zero_l, xor_zero_r}
use Rattle.std.proofs.lemmas.Bool.{cases_eq, cases_lt, eq-eqb, ne_eqb}
use Rattle.std.proofs.lemmas.List.{get_or_past}
use Rattle.std.proofs.lemmas.List.Elements.{All-get_or}
use Rattle.field_byte.specs.Field.{product}
use Rattle.field_byte.specs.Vectors.{field_sum}
use Rattle.field_byte.proofs.FieldSums.{sum_of_one, sum_of_sums, sum_same}
use Rattle.field_byte.proofs.Products.{inverse_lt, product_sum_r, product_zero_r}
use Rattle.field_byte.proofs.Sums.{sum_lt}
use Rattle.field_byte.proofs.Vectors.{get_or-scale, length-scale}
use Rattle.erasure_code.specs.Code.{coefficient}
use Rattle.erasure_code.proofs.Sums.{byte_added}
use Rattle.group_types.specs.Dimensions.{Dimensions, space_of}
use Rattle.group_types.specs.declared.process.ProcessId.{ProcessId}
use Rattle.group_types.specs.declared.process.ProcessId.TheVariants.{DataNode, ParityNode}
use Rattle.group_types.specs.Each.{Each}
use Rattle.group_message.specs.declared.update.Body.{Body}
use Rattle.group_message.specs.declared.update.Body.TheVariants.{Put, Remove, Touch}
use Rattle.group_message.specs.declared.update.Update.{Update}
use Rattle.group_run.specs.Applying.{block_added, block_after, coded_delta, space_added, space_after}
use Rattle.group_run.specs.Fitting.{IsRunOf, Writes}
use Rattle.law_bytes.specs.Areas.{HasByteDelta, IsArea, WritesBytes, change, held, shifted, value}
use Rattle.law_bytes.proofs.Areas.{added-long, area_byte, area_long, shifted-before, shifted-from}

-- a difference of bytes adds bytes
pub shifted-byte : (at : ℕ) (delta : List ℕ) (x : ℕ) → All (λ b. b < 256) delta → shifted at delta x < 256
shifted-byte at delta x bytes = by (cases_lt x at) where
  inside : (i : ℕ) → (i < length delta) ⊎ (length delta ≤ i) → get_or delta i 0 < 256
  inside i (inl below) = All-get_or (λ b. b < 256) delta i 0 below bytes
  inside i (inr past) = rw (get_or_past delta i 0 past) (omega arith)

  by : (x < at) ⊎ (at ≤ x) → shifted at delta x < 256
  by (inl early) = rw (shifted-before at delta x early) (omega arith)
  by (inr from) =
      let place : at + (x - at) ≡ x = omega (arith, from) in
      subst (λ (y : ℕ). shifted at delta y < 256) place (rw (shifted-from at delta (x - at)) (inside (x - at) (cases_lt (x - at) (length delta))))

change-byte : (body : Body) (x : ℕ) → HasByteDelta body → change body x < 256
change-byte (Put flags until run delta) x bytes = shifted-byte run.at delta x bytes
change-byte Remove x bytes = omega arith
change-byte (Touch until) x bytes = omega arith

pub value-byte : (s : Dimensions) (us : List Update) (x : ℕ) → Each (WritesBytes s) us → value us x < 256
value-byte s [] x write = omega arith
value-byte s (u ∷ us) x write = sum_lt (change u.body x) (value us x) (change-byte u.body x write.0.bytes) (value-byte s us x write.1)

-- the updates behind others add to what these leave
pub value-append : (us news : List Update) (x : ℕ) → value (us ++ news) x ≡ bit_xor (value us x) (value news x)
value-append [] news x = sym (xor_zero_l (value news x))
value-append (u ∷ us) news x = ap (bit_xor (change u.body x)) (value-append us news x) ∙ sym (xor_assoc (change u.body x) (value us x) (value news x))

-- what a process makes of a byte of partition d
abbrev pub share : Dimensions → ProcessId → ℕ → ℕ → ℕ
share s (DataNode _) d b = b
share s (ParityNode i) d b = product (coefficient s.m i d) b

coefficient-byte : (m i d : ℕ) → coefficient m i d < 256
coefficient-byte m i d = inverse_lt _

share-sum : (s : Dimensions) (name : ProcessId) (d a b : ℕ) → a < 256 → b < 256 → share s name d (bit_xor a b) ≡ bit_xor (share s name d a) (share s name d b)
share-sum s (DataNode e) d a b a_byte b_byte = refl
share-sum s (ParityNode i) d a b a_byte b_byte = product_sum_r (coefficient s.m i d) a b (coefficient-byte s.m i d) a_byte b_byte

share-zero : (s : Dimensions) (name : ProcessId) (d : ℕ) → share s name d 0 ≡ 0
share-zero s (DataNode e) d = refl
share-zero s (ParityNode i) d = product_zero_r (coefficient s.m i d)

delta-long : (s : Dimensions) (name : ProcessId) (d : ℕ) (delta : List ℕ) → length (coded_delta s name d delta) ≡ length delta
delta-long s (DataNode e) d delta = refl
delta-long s (ParityNode i) d delta = length-scale (coefficient s.m i d) delta

delta-byte : (s : Dimensions) (name : ProcessId) (d : ℕ) (delta : List ℕ) (i : ℕ) → get_or (coded_delta s name d delta) i 0 ≡ share s name d (get_or delta i 0)
delta-byte s (DataNode e) d delta i = refl
delta-byte s (ParityNode j) d delta i = get_or-scale (coefficient s.m j d) delta i

-- a process adds its share of a difference
shifted-share : (s : Dimensions) (name : ProcessId) (d at : ℕ) (delta : List ℕ) (x : ℕ)
    → shifted at (coded_delta s name d delta) x ≡ share s name d (shifted at delta x)
shifted-share s name d at delta x = by (cases_lt x at) where
  by : (x < at) ⊎ (at ≤ x) → shifted at (coded_delta s name d delta) x ≡ share s name d (shifted at delta x)
  by (inl early) = shifted-before at (coded_delta s name d delta) x early ∙ sym (ap (share s name d) (shifted-before at delta x early) ∙ share-zero s name d)
  by (inr from) =
      let place : at + (x - at) ≡ x = omega (arith, from) in
      subst (λ (y : ℕ). shifted at (coded_delta s name d delta) y ≡ share s name d (shifted at delta y)) place
      (shifted-from at (coded_delta s name d delta) (x - at) ∙ delta-byte s name d delta (x - at) ∙ ap (share s name d) (sym (shifted-from at delta (x - at))))

-- lists to which a byte is added at each address
pub record IsAdded (f : ℕ → ℕ) (before after : List ℕ) : Type 0 where
  pub long : length after ≡ length before
  pub bytes : (x : ℕ) → x < length before → get_or after x 0 ≡ bit_xor (get_or before x 0) (f x)

added-nothing : (f : ℕ → ℕ) (space : List ℕ) → ((x : ℕ) → f x ≡ 0) → IsAdded f space space
added-nothing f space zeros = record { long = refl; bytes = λ x below. sym (ap (bit_xor (get_or space x 0)) (zeros x) ∙ xor_zero_r (get_or space x 0)) }

-- one addition after the other
added-both : (f g h : ℕ → ℕ) (a b c : List ℕ) → ((x : ℕ) → bit_xor (f x) (g x) ≡ h x) → IsAdded f a b → IsAdded g b c → IsAdded h a c
added-both f g h a b c sums first next = record {
  long = next.long ∙ first.long;
  bytes = λ x below.
      next.bytes x (subst (λ (n : ℕ). x < n) (sym first.long) below)
      ∙ ap (λ (y : ℕ). bit_xor y (g x)) (first.bytes x below)
      ∙ xor_assoc (get_or a x 0) (f x) (g x)
      ∙ ap (bit_xor (get_or a x 0)) (sums x);
}

module _ (s : Dimensions) (name : ProcessId) (d : ℕ) where
  space-one : (body : Body) (space : List ℕ) → length space ≡ space_of s → (u : Update) → u.body ≡ body → WritesBytes s u
      → IsAdded (λ x. share s name d (change body x)) space (space_added s name d body space)
  space-one (Put flags until run delta) space long u is writes = record {
    long = added-long run.at (coded_delta s name d delta) space within;
    bytes = λ x below. byte_added run.at (coded_delta s name d delta) space within x ∙ ap (bit_xor (get_or space x 0)) (shifted-share s name d run.at delta x);
  } where
    run_of : IsRunOf (space_of s) (length delta) run
    run_of = subst (λ (b : Body). Writes (space_of s) b) is writes.writes

    within : run.at + length (coded_delta s name d delta) ≤ length space
    within = let a = run_of.inside in let b = run_of.long in let c = delta-long s name d delta in omega (arith, a, b, c, long)
  space-one Remove space long u is writes = added-nothing (λ x. share s name d 0) space (λ x. share-zero s name d)
  space-one (Touch until) space long u is writes = added-nothing (λ x. share s name d 0) space (λ x. share-zero s name d)

  shares : (u : Update) (us : List Update) (x : ℕ) → WritesBytes s u → Each (WritesBytes s) us
      → bit_xor (share s name d (change u.body x)) (share s name d (value us x)) ≡ share s name d (value (u ∷ us) x)
  shares u us x first rest = sym (share-sum s name d (change u.body x) (value us x) (change-byte u.body x first.bytes) (value-byte s us x rest))

  -- a space after updates of one partition
  pub space-added : (us : List Update) (space : List ℕ) → length space ≡ space_of s → Each (WritesBytes s) us
      → IsAdded (λ x. share s name d (value us x)) space (space_after s name d us space)
  space-added [] space long write = added-nothing (λ x. share s name d 0) space (λ x. share-zero s name d)
  space-added (u ∷ us) space long write =
      let one : IsAdded (λ x. share s name d (change u.body x)) space (space_added s name d u.body space) = space-one u.body space long u refl write.0 in
      added-both (λ x. share s name d (change u.body x)) (λ x. share s name d (value us x)) (λ x. share s name d (value (u ∷ us) x)) space
      (space_added s name d u.body space) (space_after s name d (u ∷ us) space)
      (λ x. shares u us x write.0 write.1) one (space-added us (space_added s name d u.body space) (one.long ∙ long) write.1)

  block-one : (b : ℕ) (body : Body) (bytes : List ℕ) → IsAdded (λ x. share s name d (change body (b * s.block + x))) bytes (block_added s name d b body bytes)
  block-one b (Put flags until run delta) bytes = record {
    long = area_long (b * s.block) run.at (coded_delta s name d delta) bytes;
    bytes = λ x below. area_byte (b * s.block) run.at (coded_delta s name d delta) bytes x below
        ∙ ap (bit_xor (get_or bytes x 0)) (shifted-share s name d run.at delta (b * s.block + x));
  }
  block-one b Remove bytes = added-nothing (λ x. share s name d 0) bytes (λ x. share-zero s name d)
  block-one b (Touch until) bytes = added-nothing (λ x. share s name d 0) bytes (λ x. share-zero s name d)

  -- a block after updates of one partition
  pub block-added : (b : ℕ) (us : List Update) (bytes : List ℕ) → Each (WritesBytes s) us
      → IsAdded (λ x. share s name d (value us (b * s.block + x))) bytes (block_after s name d b us bytes)
  block-added b [] bytes write = added-nothing (λ x. share s name d 0) bytes (λ x. share-zero s name d)
  block-added b (u ∷ us) bytes write =
      let one : IsAdded (λ x. share s name d (change u.body (b * s.block + x))) bytes (block_added s name d b u.body bytes) = block-one b u.body bytes in
      added-both (λ x. share s name d (change u.body (b * s.block + x)))
      (λ x. share s name d (value us (b * s.block + x))) (λ x. share s name d (value (u ∷ us) (b * s.block + x)))
      bytes (block_added s name d b u.body bytes) (block_after s name d b (u ∷ us) bytes)
      (λ x. shares u us (b * s.block + x) write.0 write.1) one (block-added b us (block_added s name d b u.body bytes) write.1)

-- updates of other numbers come behind those of partition d
pub record Grows (s : Dimensions) (d : ℕ) (news : List Update) (us grown : ℕ → List Update) : Type 0 where
  pub here : grown d ≡ us d ++ news
  pub others : (e : ℕ) → e < s.k → e ≢ d → grown e ≡ us e
  pub before : (e : ℕ) → e < s.k → Each (WritesBytes s) (us e)
  pub new : Each (WritesBytes s) news

-- a process is concerned by a partition: a data process by its own
abbrev pub Concerns : Dimensions → ProcessId → ℕ → Type 0
Concerns s (DataNode e) d = (d ≡ e) × (d < s.k)
Concerns s (ParityNode i) d = d < s.k

-- a term that changes in a sum
sum-changed : (n d : ℕ) (f g : ℕ → ℕ) (y : ℕ) → d < n → g d ≡ bit_xor (f d) y → ((e : ℕ) → e < n → e ≢ d → g e ≡ f e)
    → field_sum n g ≡ bit_xor (field_sum n f) y
sum-changed n d f g y below here others =
    sum_same n g (λ e. bit_xor (f e) (one e)) each ∙ sum_of_sums n f one
    ∙ ap (bit_xor (field_sum n f)) (sum_of_one n d one below (λ e _ other. rw (ne_eqb e d other)) ∙ rw (eq-eqb d d refl))
  where
    one : ℕ → ℕ
    one e = if e == d then y else 0

    each : (e : ℕ) → e < n → g e ≡ bit_xor (f e) (one e)
    each e low = by (cases_eq e d) where
      by : (e ≡ d) ⊎ (e ≢ d) → g e ≡ bit_xor (f e) (if e == d then y else 0)
      by (inl same) = rw (eq-eqb e d same) (subst (λ (j : ℕ). g j ≡ bit_xor (f j) y) (sym same) here)
      by (inr other) = rw (ne_eqb e d other) (others e low other ∙ sym (xor_zero_r (f e)))

-- what a process has grows by its share of what the new updates add
pub held-grows : (s : Dimensions) (name : ProcessId) (d : ℕ) (news : List Update) (us grown : ℕ → List Update) (x : ℕ)
    → Concerns s name d → Grows s d news us grown
    → held s name grown x ≡ bit_xor (held s name us x) (share s name d (value news x))
held-grows s (DataNode e) d news us grown x concerns grows =
    ap (λ (j : ℕ). value (grown j) x) (sym concerns.0) ∙ ap (λ (l : List Update). value l x) grows.here ∙ value-append (us d) news x
    ∙ ap (λ (j : ℕ). bit_xor (value (us j) x) (value news x)) concerns.0
held-grows s (ParityNode i) d news us grown x concerns grows =
    sum-changed s.k d (λ e. product (coefficient s.m i e) (value (us e) x))
    (λ e. product (coefficient s.m i e) (value (grown e) x)) (product (coefficient s.m i d) (value news x)) concerns
    (ap (λ (l : List Update). product (coefficient s.m i d) (value l x)) grows.here ∙ ap (product (coefficient s.m i d)) (value-append (us d) news x)
    ∙ product_sum_r (coefficient s.m i d) (value (us d) x) (value news x) (coefficient-byte s.m i d)
    (value-byte s (us d) x (grows.before d concerns)) (value-byte s news x grows.new))
    (λ e low other. ap (λ (l : List Update). product (coefficient s.m i e) (value l x)) (grows.others e low other))

-- a data process is one of the group
abbrev pub Inside : Dimensions → ProcessId → Type 0
Inside s (DataNode e) = e < s.k
Inside s (ParityNode i) = Unit {0}

pub inside-concerned : (s : Dimensions) (name : ProcessId) (d : ℕ) → Concerns s name d → Inside s name
inside-concerned s (DataNode e) d concerns = subst (λ (j : ℕ). j < s.k) concerns.0 concerns.1
inside-concerned s (ParityNode i) d concerns = tt

-- what a process has depends on the updates of the group's partitions alone
pub held-same : (s : Dimensions) (name : ProcessId) (us vs : ℕ → List Update) (x : ℕ) → Inside s name
    → ((e : ℕ) → e < s.k → vs e ≡ us e) → held s name vs x ≡ held s name us x
held-same s (DataNode e) us vs x inside same = ap (λ (l : List Update). value l x) (same e inside)
held-same s (ParityNode i) us vs x inside same =
    sum_same s.k _ _ (λ e below. ap (λ (l : List Update). product (coefficient s.m i e) (value l x)) (same e below))

-- an area to which what it grew by was added
pub area-grown : (from len : ℕ) (f g h : ℕ → ℕ) (before after : List ℕ) → IsArea from len f before → IsAdded (λ x. g (from + x)) before after
    → ((x : ℕ) → h x ≡ bit_xor (f x) (g x)) → IsArea from len h after
area-grown from len f g h before after area added grows = record {
  long = added.long ∙ area.long;
  same = λ x below.
      added.bytes x (subst (λ (n : ℕ). x < n) (sym area.long) below)
      ∙ ap (λ (y : ℕ). bit_xor y (g (from + x))) (area.same x below)
      ∙ sym (grows (from + x));
}

pub area-same : (from len : ℕ) (f h : ℕ → ℕ) (bytes : List ℕ) → IsArea from len f bytes → ((x : ℕ) → h x ≡ f x) → IsArea from len h bytes
area-same from len f h bytes area same = record { long = area.long; same = λ x below. area.same x below ∙ sym (same (from + x)) }
