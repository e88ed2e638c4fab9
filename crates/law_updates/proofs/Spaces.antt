-- The bytes of a run after a difference is added: those of its own run are the value, and those of a run
-- apart from it stay.
use Rattle.std.proofs.Common.{ℕ, zero, suc, ◌≡◌, ◌+◌, ◌-◌, ◌<◌, ◌≤◌, Bool, true, false, List, [], ◌∷◌, ◌++◌, length}
use Rattle.std.proofs.Common.{drop, get_or, replicate, bit_xor, ◌⊎◌, inl, inr, refl, sym, ap, subst, ◌∙◌, arith}
use Rattle.std.specs.Prelude.{All}
use Rattle.std.specs.Int.Bits.{xor_assoc, xor_self, xor_zero_r}
use Rattle.std.proofs.lemmas.Nat.{xor_comm}
use Rattle.std.proofs.lemmas.Bool.{cases_lt}
use Rattle.std.proofs.lemmas.Grind.{common_steps, same_number_lists}
use Rattle.std.proofs.lemmas.List.{length-append, length-replicate, length-take, length-drop, get_or-take, get_or-drop}
use Rattle.std.proofs.lemmas.List.{get_or_append_left, get_or-append-add, get_or_past}
use Rattle.field_byte.specs.Vectors.{add_bytes}
use Rattle.field_byte.proofs.Sums.{sum_lt}
use Rattle.field_byte.proofs.Vectors.{AreBytes, get_or-add_bytes, length-add_bytes}
use Rattle.erasure_code.specs.Spaces.{added_at, bytes_at}
use Rattle.erasure_code.proofs.Lists.{get_or-zeros}
use Rattle.erasure_code.proofs.Sums.{byte_added, length-added}
use Rattle.group_types.specs.declared.run.Run.{Run}
use Rattle.group_run.specs.Free.{in_run}
use Rattle.group_run.specs.Headline.{AreApart}

pub length-bytes_at : (at len : ℕ) (space : List ℕ) → at + len ≤ length space → length (bytes_at at len space) ≡ len
length-bytes_at at len space within = omega (arith, length-take len (drop at space), length-drop at space)

pub get_or-bytes_at : (at len : ℕ) (space : List ℕ) (i : ℕ) → i < len → get_or (bytes_at at len space) i 0 ≡ get_or space (at + i) 0
get_or-bytes_at at len space i below = get_or-take len (drop at space) i 0 below ∙ get_or-drop at space i 0

-- two spaces with the same bytes in a run
pub same-bytes_at : (at len : ℕ) (space other : List ℕ) → at + len ≤ length space → at + len ≤ length other
    → ((i : ℕ) → i < len → get_or space (at + i) 0 ≡ get_or other (at + i) 0) → bytes_at at len space ≡ bytes_at at len other
same-bytes_at at len space other within inside same =
    let long = length-bytes_at at len space within in
    same_number_lists (bytes_at at len space) (bytes_at at len other) (long ∙ sym (length-bytes_at at len other inside)) (λ k below.
    let here : k < len = omega (arith, long, below) in
    get_or-bytes_at at len space k here ∙ same k here ∙ sym (get_or-bytes_at at len other k here))

-- what a difference has at an address: nothing before its run
before_run : (at : ℕ) (bytes : List ℕ) (a : ℕ) → a < at → get_or (replicate at 0 ++ bytes) a 0 ≡ 0
before_run at bytes a early = get_or_append_left (replicate at 0) bytes 0 a (omega (arith, length-replicate {A = ℕ} at 0, early)) ∙ get_or-zeros at a

behind_run : (at : ℕ) (bytes : List ℕ) (a : ℕ) → at + length bytes ≤ a → get_or (replicate at 0 ++ bytes) a 0 ≡ 0
behind_run at bytes a past = get_or_past (replicate at 0 ++ bytes) a 0
    (omega (arith, length-append (replicate at 0) bytes, length-replicate {A = ℕ} at 0, past))

own_run : (at : ℕ) (bytes : List ℕ) (i : ℕ) → get_or (replicate at 0 ++ bytes) (at + i) 0 ≡ get_or bytes i 0
own_run at bytes i = ap (λ k. get_or (replicate at 0 ++ bytes) (k + i) 0) (sym (length-replicate at 0)) ∙ get_or-append-add (replicate at 0) bytes i 0

module _ (at : ℕ) (bytes space : List ℕ) (within : at + length bytes ≤ length space) where
  -- outside of its run a difference changes nothing
  pub outside : (a : ℕ) → (a < at) ⊎ (at + length bytes ≤ a) → get_or (added_at at bytes space) a 0 ≡ get_or space a 0
  outside a (inl early) = byte_added at bytes space within a ∙ (ap (bit_xor (get_or space a 0)) (before_run at bytes a early) ∙ xor_zero_r (get_or space a 0))
  outside a (inr past) = byte_added at bytes space within a ∙ (ap (bit_xor (get_or space a 0)) (behind_run at bytes a past) ∙ xor_zero_r (get_or space a 0))

  pub inside : (i : ℕ) → get_or (added_at at bytes space) (at + i) 0 ≡ bit_xor (get_or space (at + i) 0) (get_or bytes i 0)
  inside i = byte_added at bytes space within (at + i) ∙ ap (bit_xor (get_or space (at + i) 0)) (own_run at bytes i)

-- an address of a run
pub in_run-is : (x at len : ℕ) → at ≤ x → x < at + len → in_run x (record { at = at; len = len }) ≡ true
in_run-is x at len from to = grind (arith, common_steps)

not_in_run : (x at len : ℕ) → in_run x (record { at = at; len = len }) ≡ false → (x < at) ⊎ (at + len ≤ x)
not_in_run x at len out = by (cases_lt x at) (cases_lt x (at + len)) where
  by : (x < at) ⊎ (at ≤ x) → (x < at + len) ⊎ (at + len ≤ x) → (x < at) ⊎ (at + len ≤ x)
  by (inl early) other = inl early
  by (inr from) (inr past) = inr past
  by (inr from) (inl to) = let e = in_run-is x at len from to in cc (out, e)

pub apart-sym : (a b : Run) → AreApart a b → AreApart b a
apart-sym a b apart x here = by (in_run x a) refl where
  by : (t : Bool) → in_run x a ≡ t → in_run x a ≡ false
  by true e = let out = apart x e in cc (out, here)
  by false e = e

-- a run apart from the one that is written keeps its bytes
pub apart-bytes : (run other : Run) (delta space : List ℕ) → run.len ≡ length delta → run.at + run.len ≤ length space
    → other.at + other.len ≤ length space → AreApart run other
    → bytes_at other.at other.len (added_at run.at delta space) ≡ bytes_at other.at other.len space
apart-bytes run other delta space long within inside apart =
    let fits : run.at + length delta ≤ length space = omega arith in
    let same = length-added run.at delta space fits in
    same-bytes_at other.at other.len (added_at run.at delta space) space (omega arith) inside (λ i below.
    let here : in_run (other.at + i) other ≡ true = in_run-is (other.at + i) other.at other.len (omega arith) (omega arith) in
    let out = not_in_run (other.at + i) run.at run.len (apart-sym run other apart (other.at + i) here) in
    outside run.at delta space fits (other.at + i) (placed (other.at + i) out)) where
      placed : (x : ℕ) → (x < run.at) ⊎ (run.at + run.len ≤ x) → (x < run.at) ⊎ (run.at + length delta ≤ x)
      placed x (inl early) = inl early
      placed x (inr past) = inr (omega arith)

-- a value that is written over what stands in its run, as a difference, stands there
pub own-bytes : (run : Run) (value space : List ℕ) → run.len ≡ length value → run.at + run.len ≤ length space
    → bytes_at run.at run.len (added_at run.at (add_bytes value (bytes_at run.at run.len space)) space) ≡ value
own-bytes run value space long within =
    let under = bytes_at run.at run.len space in
    let under_long : length under ≡ run.len = length-bytes_at run.at run.len space within in
    let even : length value ≡ length under = omega arith in
    let delta = add_bytes value under in
    let delta_long : length delta ≡ length value = length-add_bytes value under even in
    let fits : run.at + length delta ≤ length space = omega arith in
    let same = length-added run.at delta space fits in
    let own : length (bytes_at run.at run.len (added_at run.at delta space)) ≡ run.len =
    length-bytes_at run.at run.len (added_at run.at delta space) (omega arith) in
    same_number_lists (bytes_at run.at run.len (added_at run.at delta space)) value (own ∙ long) (λ k below.
    let here : k < run.len = omega arith in
    get_or-bytes_at run.at run.len (added_at run.at delta space) k here
    ∙ inside run.at delta space fits k
    ∙ ap (bit_xor (get_or space (run.at + k) 0)) (get_or-add_bytes value under k even
    ∙ ap (bit_xor (get_or value k 0)) (get_or-bytes_at run.at run.len space k here))
    ∙ twice (get_or space (run.at + k) 0) (get_or value k 0)) where
      twice : (a b : ℕ) → bit_xor a (bit_xor b a) ≡ b
      twice a b = ap (bit_xor a) (xor_comm b a) ∙ sym (xor_assoc a a b) ∙ ap (λ (x : ℕ). bit_xor x b) (xor_self a) ∙ xor_comm 0 b ∙ xor_zero_r b

-- bytes, read with 0 past the end, and as std's word has them
pub bytes-from : (xs : List ℕ) → All (λ b. b < 256) xs → AreBytes xs
bytes-from xs all k = by (cases_lt k (length xs)) where
  by : (k < length xs) ⊎ (length xs ≤ k) → get_or xs k 0 < 256
  by (inl below) = all k 0 below
  by (inr past) = let none = get_or_past xs k 0 past in omega arith

pub bytes-all : (xs : List ℕ) → AreBytes xs → All (λ b. b < 256) xs
bytes-all xs are k d below = let e = any xs k d below in let here = are k in subst (λ (b : ℕ). b < 256) (sym e) here where
  any : (ys : List ℕ) (i e : ℕ) → i < length ys → get_or ys i e ≡ get_or ys i 0
  any [] i e below = absurd (omega arith)
  any (y ∷ ys) zero e below = refl
  any (y ∷ ys) (suc i) e below = any ys i e (omega arith)

pub bytes-added : (at : ℕ) (delta space : List ℕ) → at + length delta ≤ length space → AreBytes delta → AreBytes space → AreBytes (added_at at delta space)
bytes-added at delta space within small all a = by (cases_lt a at) (cases_lt a (at + length delta)) where
  by : (a < at) ⊎ (at ≤ a) → (a < at + length delta) ⊎ (at + length delta ≤ a) → get_or (added_at at delta space) a 0 < 256
  by (inl early) other = let e = outside at delta space within a (inl early) in let here = all a in omega arith
  by (inr from) (inr past) = let e = outside at delta space within a (inr past) in let here = all a in omega arith
  by (inr from) (inl to) =
      let e = inside at delta space within (a - at) in
      let place : at + (a - at) ≡ a = omega arith in
      let sum = sum_lt (get_or space (at + (a - at)) 0) (get_or delta (a - at) 0) (all (at + (a - at))) (small (a - at)) in
      subst (λ (k : ℕ). get_or (added_at at delta space) k 0 < 256) place (subst (λ (b : ℕ). b < 256) (sym e) sum)

pub bytes-bytes_at : (at len : ℕ) (space : List ℕ) → AreBytes space → AreBytes (bytes_at at len space)
bytes-bytes_at at len space all k = by (cases_lt k len) where
  by : (k < len) ⊎ (len ≤ k) → get_or (bytes_at at len space) k 0 < 256
  by (inl below) = let e = get_or-bytes_at at len space k below in subst (λ (b : ℕ). b < 256) (sym e) (all (at + k))
  by (inr past) = let e = get_or_past (bytes_at at len space) k 0 (omega (arith, length-take len (drop at space))) in omega arith
