-- What a head finds in a run of its partition is what the settled updates leave there.
use Rattle.std.proofs.Common.{ℕ, zero, suc, ◌≡◌, ◌<◌, ◌≤◌, ◌+◌, ◌-◌, ◌*◌, ◌/◌, ◌%◌, ◌==◌, Bool, true, false, not, List}
use Rattle.std.proofs.Common.{[], ◌∷◌, length, map, get_or, Option, Some, None, is_some, refl, sym, ap, subst, ◌∙◌}
use Rattle.std.proofs.Common.{if◌then◌else◌, arith}
use Rattle.std.proofs.lemmas.Grind.{common_steps, same_number_lists}
use Rattle.std.proofs.lemmas.List.FromFn.{get_or-map-range_with_len, length-map-range_with_len}
use Rattle.std.proofs.Math.Nat.{div-mul-le_self}
use Rattle.std.proofs.lemmas.Nat.{le-div}
use Rattle.std.specs.List.{range_with_len}
use Rattle.std.specs.Prelude.{find, unwrap_or}
use Rattle.group_types.specs.Dimensions.{Dimensions, space_of}
use Rattle.group_types.specs.Lists.{at}
use Rattle.group_types.specs.declared.process.ProcessId.{ProcessId}
use Rattle.group_types.specs.declared.process.ProcessId.TheVariants.{DataNode, ParityNode}
use Rattle.group_types.specs.declared.run.Run.{Run}
use Rattle.group_types.specs.Each.{Each}
use Rattle.group_message.specs.declared.update.Update.{Update}
use Rattle.erasure_code.specs.Spaces.{bytes_at}
use Rattle.group_run.specs.Applying.{space_after}
use Rattle.group_run.specs.Asking.{found_at, found_unless}
use Rattle.group_run.specs.Deciding.{Bytes}
use Rattle.group_run.specs.Leaders.{blocks_met, missing_block, rebuilt_block, rebuilt_byte, rebuilt_bytes}
use Rattle.group_run.specs.Process.{LeaderState, Process}
use Rattle.law_updates.specs.Decisions.{ReadsFrom}
use Rattle.law_updates.specs.Store.{Store, no_store, store_after, store_from, store_with_update}
use Rattle.law_updates.proofs.Spaces.{get_or-bytes_at, length-bytes_at}
use Rattle.law_bytes.specs.Areas.{IsArea, IsBlock, WritesBytes, block_size, value}
use Rattle.law_bytes.specs.Decoding.{values}
use Rattle.law_bytes.specs.Held.{Holds, stand}
use Rattle.law_bytes.proofs.Decode.{values-area}

-- the space of a store is the partition's space after its updates
pub store-space : (s : Dimensions) (d : ℕ) (store : Store) (us : List Update) → (store_from s d store us).space ≡ space_after s (DataNode d) d us store.space
store-space s d store [] = refl
store-space s d store (u ∷ us) = store-space s d (store_with_update s d u store) us

-- so its bytes are the values
pub store-values : (s : Dimensions) (d : ℕ) (us : List Update) → (store_after s d us).space ≡ values s d us
store-values s d us = store-space s d (no_store s) us

zero_plus : (x : ℕ) → 0 + x ≡ x
zero_plus x = omega arith

-- a quotient rises with the number
div-rises : (k a b : ℕ) → 0 < k → a ≤ b → a / k ≤ b / k
div-rises k a b some low = le-div (a / k) b k some (let less = div-mul-le_self a k in omega (arith, less, low))

-- the bytes of a run that are each those of a space
run-is : (at len : ℕ) (f : ℕ → ℕ) (space : List ℕ) → at + len ≤ length space
    → ((i : ℕ) → i < len → f (at + i) ≡ get_or space (at + i) 0) → map f (range_with_len at len) ≡ bytes_at at len space
run-is at len f space within same =
    let long = length-map-range_with_len f at len in
    same_number_lists (map f (range_with_len at len)) (bytes_at at len space) (long ∙ sym (length-bytes_at at len space within)) (λ i below.
    let here : i < len = omega (arith, long, below) in
    get_or-map-range_with_len f at len i (at + i) 0 here refl ∙ same i here ∙ sym (get_or-bytes_at at len space i here))

-- where no member of a list fails a test, each passes
none-found : (test : ℕ → Bool) (xs : List ℕ) → find test xs ≡ None → Each (λ x. test x ≡ false) xs
none-found test [] none = tt
none-found test (x ∷ xs) none = by (test x) refl none (λ rest. none-found test xs rest) where
  by : (b : Bool) → test x ≡ b → (if b then Some x else find test xs) ≡ None
      → (find test xs ≡ None → Each (λ y. test y ≡ false) xs) → Each (λ y. test y ≡ false) (x ∷ xs)
  by true is rest later = cc rest
  by false is rest later = (is, later rest)

each-in-range : (P : ℕ → Type 0) (a n x : ℕ) → Each P (range_with_len a n) → a ≤ x → x < a + n → P x
each-in-range P a zero x all low high = absurd (omega (arith, low, high))
each-in-range P a (suc n) x all low high = by (x == a) refl (λ above. each-in-range P (a + 1) n x all.1 above (omega (arith, high))) where
  by : (b : Bool) → (x == a) ≡ b → (a + 1 ≤ x → P x) → P x
  by true is later = let same : x ≡ a = grind (arith, common_steps) in subst P (sym same) all.0
  by false is later =
      later (let other : x ≡ a → ⊥ = λ same. (let yes_it_is : (x == a) ≡ true = grind (arith, common_steps) in
      cc (is, yes_it_is)) in omega (arith, low, other))

module _ (s : Dimensions) (d : ℕ) (us : List Update) (write : Each (WritesBytes s) us) (l : LeaderState) (some : 0 < s.block)
    (rebuilt : (b : ℕ) (bytes : List ℕ) → rebuilt_block l d b ≡ Some bytes → IsBlock s b (value us) bytes) where
  -- a byte of a rebuilt block
  byte-of : (a : ℕ) → a < space_of s → (o : Option (List ℕ)) → rebuilt_block l d (a / s.block) ≡ o → is_some o ≡ true
      → at 0 (unwrap_or o []) (a % s.block) ≡ value us a
  byte-of a inside None is there = cc there
  byte-of a inside (Some bytes) is there =
      let area : IsBlock s (a / s.block) (value us) bytes = rebuilt (a / s.block) bytes is in
      let less : a % s.block < s.block = omega (arith, some) in
      let split : a / s.block * s.block + a % s.block ≡ a = omega (arith, some) in
      let low : a % s.block < block_size s (a / s.block) = omega (arith, less, split, inside) in
      at-get bytes (a % s.block) ∙ area.same (a % s.block) low ∙ ap (value us) split where
        at-get : (xs : List ℕ) (i : ℕ) → at 0 xs i ≡ get_or xs i 0
        at-get [] i = refl
        at-get (x ∷ xs) zero = refl
        at-get (x ∷ xs) (suc i) = at-get xs i

  -- a run that misses no block has the values
  pub rebuilt-reads : (run : Run) → missing_block s d run l ≡ None → run.at + run.len ≤ space_of s
      → rebuilt_bytes s d run l ≡ bytes_at run.at run.len (store_after s d us).space
  rebuilt-reads run none within =
      run-is run.at run.len (rebuilt_byte s d l) (store_after s d us).space (omega (arith, long, within)) (λ i below.
      byte-of (run.at + i) (omega (arith, within, below)) (rebuilt_block l d ((run.at + i) / s.block)) refl (met i below)
      ∙ sym (ap (λ (xs : List ℕ). get_or xs (run.at + i) 0) (store-values s d us)
      ∙ area.same (run.at + i) (omega (arith, within, below)) ∙ ap (value us) (zero_plus (run.at + i)))) where
        area : IsArea 0 (space_of s) (value us) (values s d us)
        area = values-area s d us write

        long : length (store_after s d us).space ≡ space_of s
        long = ap length (store-values s d us) ∙ area.long

        met : (i : ℕ) → i < run.len → is_some (rebuilt_block l d ((run.at + i) / s.block)) ≡ true
        met i below = passed (is_some (rebuilt_block l d ((run.at + i) / s.block)))
            (in_range (run.len == 0) refl (none-found (λ b. not (is_some (rebuilt_block l d b))) (blocks_met s run)
            none)) where
              passed : (b : Bool) → not b ≡ false → b ≡ true
              passed true is = refl
              passed false is = cc is

              first : ℕ
              first = run.at / s.block

              last : ℕ
              last = (run.at + run.len - 1) / s.block

              in_range : (b : Bool) → (run.len == 0) ≡ b → Each (λ b. not (is_some (rebuilt_block l d b)) ≡ false)
                  (if b then [] else range_with_len first (last - first + 1))
                  → not (is_some (rebuilt_block l d ((run.at + i) / s.block))) ≡ false
              in_range true is all = absurd (let none_there : run.len ≡ 0 = grind (arith, common_steps) in omega (arith, none_there, below))
              in_range false is all =
                  each-in-range (λ b. not (is_some (rebuilt_block l d b)) ≡ false) first (last - first + 1) ((run.at + i) / s.block) all
                  (div-rises s.block run.at (run.at + i) some (omega arith))
                  (let high = div-rises s.block (run.at + i) (run.at + run.len - 1) some (omega (arith, below)) in omega (arith, high))

-- a data process finds the values in its space, and a parity process in the blocks that it rebuilt
pub reads : (s : Dimensions) (settled : ℕ → List Update) (d : ℕ) (p : Process) (name : ProcessId) → d < s.k → 0 < s.block
    → ((e : ℕ) → name ≡ DataNode e → (e ≡ d) × (p.space ≡ values s d (stand settled p d)))
    → Each (WritesBytes s) (stand settled p d) → Holds s settled p → ReadsFrom (store_after s d (stand settled p d)).space (found_at s d p name)
reads s settled d p (DataNode e) below some own write holds run bytes within found =
    bytes-of found ∙ ap (bytes_at run.at run.len) ((own e refl).1 ∙ sym (store-values s d (stand settled p d))) where
      bytes-of : Bytes (bytes_at run.at run.len p.space) ≡ Bytes bytes → bytes ≡ bytes_at run.at run.len p.space
      bytes-of same = cc same
reads s settled d p (ParityNode i) below some own write holds run bytes within found = by (missing_block s d run p.as_leader) refl found where
  by : (o : Option ℕ) → missing_block s d run p.as_leader ≡ o → found_unless o (rebuilt_bytes s d run p.as_leader) ≡ Bytes bytes
      → bytes ≡ bytes_at run.at run.len (store_after s d (stand settled p d)).space
  by (Some b) is same = absurd (cc same)
  by None is same =
      is_bytes same
      ∙ rebuilt-reads s d (stand settled p d) write p.as_leader some
      (λ b found_bytes there. holds.rebuilt d b found_bytes below there) run is (omega (arith, within, long)) where
        is_bytes : Bytes (rebuilt_bytes s d run p.as_leader) ≡ Bytes bytes → bytes ≡ rebuilt_bytes s d run p.as_leader
        is_bytes same = cc same

        long : length (store_after s d (stand settled p d)).space ≡ space_of s
        long = ap length (store-values s d (stand settled p d)) ∙ (values-area s d (stand settled p d) write).long
