-- The bytes of a space in pages as one list.
use Rattle.std.proofs.Common.{◌≡◌, ℕ, zero, suc, ◌+◌, ◌-◌, ◌*◌, ◌/◌, ◌%◌, ◌<◌, ◌≤◌, List, ◌++◌, length, get_or}
use Rattle.std.proofs.Common.{replicate, Some, None, Option, take, drop, Contains, Result, Ok, Err, OnOk, bit_xor, ◌⊎◌}
use Rattle.std.proofs.Common.{is_some, refl, sym, ap, ap₂, ◌∙◌, subst, inl, inr, arith}
use Rattle.std.proofs.lemmas.Bool.{cases_lt}
use Rattle.std.proofs.lemmas.List.{length-take, length-drop, get_or-take, get_or-drop, get_or-replicate, get_or_past, length-replicate, drop-drop, append_assoc}
use Rattle.std.proofs.lemmas.List.FromFn.{length-map-range_with_len, get_or-map-range_with_len}
use Rattle.std.proofs.lemmas.Grind.{same_number_lists}
use Rattle.field_byte.specs.Vectors.{add_bytes, scale}
use Rattle.field_byte.proofs.Vectors.{length-add_bytes, length-scale, get_or-add_bytes, get_or-scale}
use Rattle.group_types.specs.declared.run.Run.{Run}
use Rattle.page_map.specs.Pages.{PageContents, AddsProduct, HasPages, MakesZeros, Meets, SameDimensions, byte_in, byte_of, numbers_in, page_in, no_pages}
use Rattle.page_map.specs.Spaces.{AllMade, MakesOnly, page_bytes}
use Rattle.page_map.proofs.Addresses.{put_mid, length_mid, mid_below, mid_at, mid_above, listed_if_there, there_if_listed}
use Rattle.page_map.proofs.Unions.{meets_between, same_or_earlier}

pub length-bytes_of : (c : PageContents) → length (page_bytes c) ≡ c.blocks * c.block
length-bytes_of c = length-map-range_with_len (byte_in c) 0 (c.blocks * c.block)

pub get_or-bytes_of : (c : PageContents) (k : ℕ) → k < c.blocks * c.block → get_or (page_bytes c) k 0 ≡ byte_in c k
get_or-bytes_of c k below = get_or-map-range_with_len (byte_in c) 0 (c.blocks * c.block) k k 0 below (omega arith)

-- spaces of the same bytes
pub same_bytes : (old new : PageContents) → SameDimensions old new → ((a : ℕ) → byte_in new a ≡ byte_in old a) → page_bytes new ≡ page_bytes old
same_bytes old new same each =
    let long : new.blocks * new.block ≡ old.blocks * old.block = ap₂ (λ x y. x * y) same.blocks same.block in
    let new_long = length-bytes_of new in
    same_number_lists _ _ (new_long ∙ (long ∙ sym (length-bytes_of old)))
    (λ k below. get_or-bytes_of new k (omega arith) ∙ (each k ∙ sym (get_or-bytes_of old k (omega (arith, long)))))

-- without a page all bytes are zero
pub bytes_of_none : (blocks block : ℕ) → page_bytes (no_pages blocks block) ≡ replicate (blocks * block) 0
bytes_of_none blocks block =
    let long = length-bytes_of (no_pages blocks block) in
    same_number_lists _ _ (long ∙ sym (length-replicate (blocks * block) 0))
    (λ k below. get_or-bytes_of (no_pages blocks block) k (omega arith) ∙ sym (get_or-replicate (blocks * block) k 0 0 (omega arith)))

-- what is read is the space's part
pub bytes_read : (c : PageContents) (at : ℕ) (into : List ℕ) → at + length into ≤ c.blocks * c.block
    → ((k : ℕ) → k < length into → get_or into k 0 ≡ byte_in c (at + k))
    → into ≡ take (length into) (drop at (page_bytes c))
bytes_read c at into within each =
    let long = length-bytes_of c in
    let part = length-take (length into) (drop at (page_bytes c)) in
    let rest = length-drop at (page_bytes c) in
    same_number_lists _ _ (omega arith) (λ k below.
    each k below ∙ (sym (get_or-bytes_of c (at + k) (omega arith))
    ∙ (sym (get_or-drop at (page_bytes c) k 0) ∙ sym (get_or-take (length into) (drop at (page_bytes c)) k 0 below))))

-- a product added byte by byte is the sum of lists
pub bytes_added : (old new : PageContents) (at coef : ℕ) (bytes : List ℕ) → at + length bytes ≤ old.blocks * old.block
    → AddsProduct old new at coef bytes (length bytes)
    → page_bytes new ≡ take at (page_bytes old) ++ add_bytes (take (length (scale coef bytes)) (drop at (page_bytes old)))
    (scale coef bytes) ++ drop (at + length (scale coef bytes)) (page_bytes old)
bytes_added old new at coef bytes within is =
    let s = page_bytes old in
    let n = length (scale coef bytes) in
    let n_is : n ≡ length bytes = length-scale coef bytes in
    let part = take n (drop at s) in
    let sum = add_bytes part (scale coef bytes) in
    let old_long = length-bytes_of old in
    let new_long = length-bytes_of new in
    let area : new.blocks * new.block ≡ old.blocks * old.block = ap₂ (λ x y. x * y) is.dimensions.blocks is.dimensions.block in
    let part_long : length part ≡ n = omega (arith, length-take n (drop at s), length-drop at s) in
    let sum_long : length sum ≡ n = length-add_bytes part (scale coef bytes) part_long ∙ part_long in
    let room : at + n ≤ length s = omega arith in
    let whole : page_bytes new ≡ put_mid at n s sum =
    same_number_lists _ _ (omega (arith, length_mid at n s sum sum_long room))
    (λ k below. get_or-bytes_of new k (omega arith) ∙ elim (cases_lt k at) [
      | inl lower ↦ is.others k (inl lower) ∙ (sym (get_or-bytes_of old k (omega arith)) ∙ sym (mid_below at n s sum sum_long room k lower))
      | inr from ↦ elim (cases_lt k (at + n)) [
        | inl inside ↦
            let place : at + (k - at) ≡ k = omega arith in
            ap (byte_in new) (sym place)
            ∙ (is.added (k - at) (omega arith)
            ∙ (ap₂ bit_xor
            (sym (get_or-bytes_of old (at + (k - at)) (omega arith))
            ∙ (sym (get_or-drop at s (k - at) 0) ∙ sym (get_or-take n (drop at s) (k - at) 0 (omega arith))))
            (sym (get_or-scale coef bytes (k - at)))
            ∙ (sym (get_or-add_bytes part (scale coef bytes) (k - at) part_long)
            ∙ (sym (mid_at at n s sum sum_long room (k - at) (omega arith)) ∙ ap (λ j. get_or (put_mid at n s sum) j 0) place))))
        | inr higher ↦ is.others k (inr (omega arith)) ∙ (sym (get_or-bytes_of old k (omega arith)) ∙ sym (mid_above at n s sum sum_long room k higher))
      ]
    ]) in
    whole ∙ (ap (λ rest. take at s ++ (sum ++ rest)) (drop-drop n at s) ∙ sym (append_assoc (take at s) sum (drop (at + n) s)))

-- whether a block has an address of a range
meets_or_not : (block at len b : ℕ) → 0 < block → Meets block at len b ⊎ (¬ (Meets block at len b))
meets_or_not block at zero b long = inr (λ meets. omega (arith, meets.1, meets.2))
meets_or_not block at (suc n) b long = elim (cases_lt b (at / block)) [
  | inl before ↦ inr (λ meets. omega (arith, before, meets.3, same_or_earlier at meets.0 block long meets.1))
  | inr from ↦ elim (cases_lt b ((at + n) / block + 1)) [
    | inl to ↦ let met = meets_between at (at + n) block b long from to (omega arith) in inl (met.0, met.1, omega (arith, met.2), met.3)
    | inr past ↦ inr (λ meets. omega (arith, past, meets.3, same_or_earlier meets.0 (at + n) block long (omega (arith, meets.2))))
  ]
]

zero_byte : (n i : ℕ) → get_or {A = ℕ} (replicate n 0) i 0 ≡ 0
zero_byte n i = elim (cases_lt i n) [
  | inl below ↦ get_or-replicate n i 0 0 below
  | inr past ↦ get_or_past (replicate n 0) i 0 (omega (arith, length-replicate {A = ℕ} n 0))
]

-- reserving changes no byte
pub byte_reserved : (old new : PageContents) (at len : ℕ) → 0 < old.block → SameDimensions old new
    → MakesZeros old new at len → (a : ℕ) → byte_in new a ≡ byte_in old a
byte_reserved old new at len long same made a = rw same.block (byte (page_in old (a / old.block)) refl)
  where
    byte : (o : Option (List ℕ)) → page_in old (a / old.block) ≡ o
        → byte_of (page_in new (a / old.block)) (a % old.block) ≡ byte_of (page_in old (a / old.block)) (a % old.block)
    byte (Some x) some = ap (λ o. byte_of o (a % old.block)) (made.there (a / old.block) (ap is_some some))
    byte None none = elim (meets_or_not old.block at len (a / old.block) long) [
      | inl meets ↦ ap (λ o. byte_of o (a % old.block)) (made.zero (a / old.block) meets none)
          ∙ (zero_byte old.block (a % old.block) ∙ sym (ap (λ o. byte_of o (a % old.block)) none))
      | inr apart ↦ ap (λ o. byte_of o (a % old.block)) (made.others (a / old.block) apart)
    ]

pub made_after : (old new : PageContents) (run : Run) → MakesZeros old new run.at run.len → MakesOnly old.block run (numbers_in old) (numbers_in new)
made_after old new run made = record {
  kept = λ b listed. let there = there_if_listed old.pages b listed in listed_if_there new.pages b (ap is_some (made.there b there) ∙ there);
  others = λ b apart listed. let there = there_if_listed new.pages b listed in listed_if_there old.pages b (sym (ap is_some (made.others b apart)) ∙ there);
}

pub all_listed : (c : PageContents) (run : Run) → HasPages c run.at run.len → AllMade c.block run (numbers_in c)
all_listed c run there a from below = listed_if_there c.pages (a / c.block) (there a from below)

pub all_found : (c : PageContents) (block at len : ℕ) → c.block ≡ block
    → ((a : ℕ) → at ≤ a → a < at + len → Contains (numbers_in c) (a / block)) → HasPages c at len
all_found c block at len same made a from below =
    there_if_listed c.pages (a / c.block) (subst (λ b. Contains (numbers_in c) (a / b)) (sym same) (made a from below))

pub ready_at : (old new : PageContents) (run : Run) {E : Type 0} (r : Result (Unit {0}) E) → new.block ≡ old.block
    → OnOk r (HasPages new run.at run.len) → OnOk r (AllMade old.block run (numbers_in new))
ready_at old new run (Ok _) same there = rw (← same) (all_listed new run there)
ready_at old new run (Err _) same there = tt

pub made_at : (old new : PageContents) (run : Run) {E : Type 0} (r : Result (Unit {0}) E)
    → OnOk r (MakesZeros old new run.at run.len) → OnOk r (MakesOnly old.block run (numbers_in old) (numbers_in new))
made_at old new run (Ok _) made = made_after old new run made
made_at old new run (Err _) made = tt
