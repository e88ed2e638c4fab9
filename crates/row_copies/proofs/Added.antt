-- What an update, and marks, make of a copy, and lists that are made index by index.
use Rattle.std.proofs.Common.{◌≡◌, ℕ, zero, suc, ◌+◌, ◌-◌, ◌<◌, Bool, true, false, ◌&&◌, if◌then◌else◌, List, [], ◌∷◌}
use Rattle.std.proofs.Common.{◌++◌, length, get_or, set, map, replicate, is_some, None, refl, sym, ap, ap₂, ◌∙◌, arith}
use Rattle.std.specs.List.{list_all, range_with_len}
use Rattle.group_types.specs.Dimensions.{Dimensions}
use Rattle.group_types.specs.Lists.{at}
use Rattle.group_types.specs.declared.process.ProcessId.TheVariants.{ParityNode}
use Rattle.group_message.specs.declared.update.Update.{Update}
use Rattle.group_run.specs.Applying.{block_added, copy_after}
use Rattle.group_run.specs.Process.{Copy}

module _ (s : Dimensions) (number d : ℕ) (u : Update) (c : Copy) where
  pub copy_kept : is_some (at None c.marks d) ≡ true → c ≡ copy_after s (ParityNode number) d (u ∷ []) c
  copy_kept is = ap (λ (b : Bool). if b then c else record c { bytes = block_added s (ParityNode number) d c.block u.body c.bytes }) (sym is)

  pub copy_added : is_some (at None c.marks d) ≡ false → (bytes : List ℕ) → bytes ≡ block_added s (ParityNode number) d c.block u.body c.bytes
      → record c { bytes = bytes } ≡ copy_after s (ParityNode number) d (u ∷ []) c
  copy_added is bytes sum =
      ap (λ (bs : List ℕ). record c { bytes = bs }) sum
      ∙ ap (λ (b : Bool). if b then c else record c { bytes = block_added s (ParityNode number) d c.block u.body c.bytes }) (sym is)

  chosen : (b : Bool) (bytes : List ℕ) → ((if b then c else record c { bytes = bytes }).leader ≡ c.leader)
      × ((if b then c else record c { bytes = bytes }).number ≡ c.number)
  chosen true bytes = (refl, refl)
  chosen false bytes = (refl, refl)

  -- a copy stays one for its session
  pub session_kept : ((copy_after s (ParityNode number) d (u ∷ []) c).leader ≡ c.leader) × ((copy_after s (ParityNode number) d (u ∷ []) c).number ≡ c.number)
  session_kept = chosen (is_some (at None c.marks d)) (block_added s (ParityNode number) d c.block u.body c.bytes)

-- the first of the partitions that are left
pub all_from : (test : ℕ → Bool) (d k : ℕ) → d < k → list_all test (range_with_len d (k - d)) ≡ (test d && list_all test (range_with_len (d + 1) (k - (d + 1))))
all_from test d k below = let more : k - d ≡ suc (k - (d + 1)) = omega arith in ap (λ (n : ℕ). list_all test (range_with_len d n)) more

-- one number more is written over the zeros
pub one_more : (f : ℕ → ℕ) (a d r : ℕ) → set (map f (range_with_len a d) ++ replicate (suc r) 0) d (f (a + d))
    ≡ map f (range_with_len a (suc d)) ++ replicate r 0
one_more f a zero r = let here : a + 0 ≡ a = omega arith in ap (λ (x : ℕ). f x ∷ replicate r 0) here
one_more f a (suc d) r =
    let there : a + suc d ≡ a + 1 + d = omega arith in
    ap (λ (x : ℕ). f a ∷ set (map f (range_with_len (a + 1) d) ++ replicate (suc r) 0) d (f x)) there
    ∙ ap (λ (rest : List ℕ). f a ∷ rest) (one_more f (a + 1) d r)

pub still_zero : (f : ℕ → ℕ) (a d r : ℕ) → get_or (map f (range_with_len a d) ++ replicate r 0) d 0 ≡ 0
still_zero f a zero zero = refl
still_zero f a zero (suc r) = refl
still_zero f a (suc d) r = still_zero f (a + 1) d r

pub numbers_long : (f : ℕ → ℕ) (a d r : ℕ) → length (map f (range_with_len a d) ++ replicate r 0) ≡ d + r
numbers_long f a zero zero = refl
numbers_long f a zero (suc r) = let rest = numbers_long f a zero r in omega (arith, rest)
numbers_long f a (suc d) r = let rest = numbers_long f (a + 1) d r in omega (arith, rest)

pub write_more : (f : ℕ → ℕ) (d k x : ℕ) (into : List ℕ) → d < k → x ≡ f d → into ≡ map f (range_with_len 0 d) ++ replicate (k - d) 0
    → set into d x ≡ map f (range_with_len 0 (d + 1)) ++ replicate (k - (d + 1)) 0
write_more f d k x into below is so_far =
    let r : ℕ = k - (d + 1) in
    let left : k - d ≡ suc r = omega arith in
    let here : d ≡ 0 + d = omega arith in
    let next : suc d ≡ d + 1 = omega arith in
    ap₂ (λ (xs : List ℕ) (y : ℕ). set xs d y) (so_far ∙ ap (λ (n : ℕ). map f (range_with_len 0 d) ++ replicate n 0) left) (is ∙ ap f here)
    ∙ (one_more f 0 d r ∙ ap (λ (n : ℕ). map f (range_with_len 0 n) ++ replicate r 0) next)
