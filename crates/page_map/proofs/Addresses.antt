-- Bytes by their addresses: which page an address lies in, and what is read and added piece by piece.
use Rattle.std.proofs.Common.{◌≡◌, ◌≢◌, ℕ, zero, suc, ◌+◌, ◌-◌, ◌*◌, ◌/◌, ◌%◌, ◌<◌, ◌≤◌, List, [], ◌∷◌, ◌++◌, length}
use Rattle.std.proofs.Common.{get_or, Some, IsSome, map, take, drop, bit_xor, ◌⊎◌, Contains, refl, sym, ap, ap₂, ◌∙◌}
use Rattle.std.proofs.Common.{subst, inl, inr, arith}
use Rattle.std.proofs.Math.Nat.{div-eq_of_lt-le}
use Rattle.field_byte.specs.Vectors.{add_bytes, scale}
use Rattle.field_byte.proofs.Vectors.{AreBytes, get_or-scale, length-scale, get_or-add_bytes, length-add_bytes}
use Rattle.field_byte.proofs.Products.{product_one_l}
use Rattle.std.proofs.lemmas.Bool.{cases_eq, cases_lt, true≢false}
use Rattle.std.proofs.lemmas.List.{length-take, length-drop, length-append, get_or-take, get_or-drop, get_or-append_right}
use Rattle.std.proofs.lemmas.List.Edits.{length-between}
use Rattle.std.proofs.lemmas.Slice.{take-put_mid, take-put_mid_below, drop-put_mid, between_is}
use Rattle.std.proofs.lemmas.Grind.{same_number_lists}
use Rattle.std.proofs.lemmas.Bool.Decides.{nat_tests}
use Rattle.group_types.proofs.Places.{overwritten_whole}
use Rattle.page_map.specs.declared.page.Page.{Page}
use Rattle.page_map.specs.Loans.{rewritten, with_page}
use Rattle.page_map.proofs.Places.{look_up-rewritten}
use Rattle.field_byte.specs.Field.{product}
use Rattle.std.specs.List.{between}
use Rattle.page_map.specs.Pages.{PageContents, page_in, byte_of, byte_in, HasPage, AddsProduct, numbers_in, look_up}

pub scale_one : (xs : List ℕ) → AreBytes xs → scale 1 xs ≡ xs
scale_one xs bytes = same_number_lists _ _ (length-scale 1 xs) (λ k below. get_or-scale 1 xs k ∙ product_one_l (get_or xs k 0) (bytes k))

-- so far into its block as the addresses behind it in this block
pub in_block : (a j block : ℕ) → 0 < block → a % block + j < block → ((a + j) / block ≡ a / block) × ((a + j) % block ≡ a % block + j)
in_block a j block some within =
    let q = a / block in
    let above : (q + 1) * block ≡ block * q + block = omega arith in
    let same : (a + j) / block ≡ q = div-eq_of_lt-le block (omega arith) (omega (arith, above)) in
    let here : block * ((a + j) / block) ≡ block * q = ap (λ d. block * d) same in
    (same, omega (arith, here))

-- the byte at an address is that of its page
pub byte_in_piece : (c : PageContents) (a j : ℕ) → 0 < c.block → a % c.block + j < c.block
    → byte_in c (a + j) ≡ byte_of (page_in c (a / c.block)) (a % c.block + j)
byte_in_piece c a j some within =
    let is = in_block a j c.block some within in
    ap₂ (λ b i. byte_of (page_in c b) i) is.0 is.1

-- a list with others in place of the k from the a-th on
abbrev pub put_mid : ℕ → ℕ → List ℕ → List ℕ → List ℕ
put_mid a k xs ys = take a xs ++ (ys ++ drop k (drop a xs))

module _ (a k : ℕ) (xs ys : List ℕ) (long : length ys ≡ k) (within : a + k ≤ length xs) where
  pub length_mid : length (put_mid a k xs ys) ≡ length xs
  length_mid =
      let whole = length-append (take a xs) (ys ++ drop k (drop a xs)) in
      let rest = length-append ys (drop k (drop a xs)) in
      omega (arith, whole, rest, long, length-take a xs, length-drop k (drop a xs), length-drop a xs)

  pub mid_below : (j : ℕ) → j < a → get_or (put_mid a k xs ys) j 0 ≡ get_or xs j 0
  mid_below j below =
      sym (get_or-take a (put_mid a k xs ys) j 0 below)
      ∙ (ap (λ l. get_or l j 0) (take-put_mid_below a k xs ys a (omega arith) (omega arith))
      ∙ get_or-take a xs j 0 below)

  pub mid_at : (i : ℕ) → i < k → get_or (put_mid a k xs ys) (a + i) 0 ≡ get_or ys i 0
  mid_at i below =
      let whole = take-put_mid a k xs ys (a + k) (omega (arith, long)) (omega arith) in
      let front = length-take a xs in
      sym (get_or-take (a + k) (put_mid a k xs ys) (a + i) 0 (omega arith))
      ∙ (ap (λ l. get_or l (a + i) 0) whole
      ∙ (get_or-append_right (take a xs) ys a (a + i) 0 (omega (arith, front)) (omega arith) ∙ ap (λ j. get_or ys j 0) (omega arith)))

  pub mid_above : (j : ℕ) → a + k ≤ j → get_or (put_mid a k xs ys) j 0 ≡ get_or xs j 0
  mid_above j above =
      let place : a + k + (j - (a + k)) ≡ j = omega arith in
      ap (λ i. get_or (put_mid a k xs ys) i 0) (sym place)
      ∙ (sym (get_or-drop (a + k) (put_mid a k xs ys) (j - (a + k)) 0)
      ∙ (ap (λ l. get_or l (j - (a + k)) 0) (drop-put_mid a k xs ys (a + k) (omega arith) (omega arith) long)
      ∙ (get_or-drop (a + k) xs (j - (a + k)) 0 ∙ ap (λ i. get_or xs i 0) place)))

-- one more piece is read
pub read_more : (c : PageContents) (at done len k : ℕ) (old piece : List ℕ) → 0 < c.block → (at + done) % c.block + len
    ≤ c.block → done + len ≤ length old → length piece ≡ k → k ≡ len
    → ((i : ℕ) → i < length piece → get_or piece i 0 ≡ byte_of (page_in c ((at + done) / c.block)) ((at + done) % c.block + i))
    → ((j : ℕ) → j < done → get_or old j 0 ≡ byte_in c (at + j)) → (j : ℕ) → j < done + len → get_or (put_mid done k old piece) j 0 ≡ byte_in c (at + j)
read_more c at done len k old piece some fits within long same is before j below = elim (cases_lt j done) [
  | inl earlier ↦ mid_below done k old piece long (omega arith) j earlier ∙ before j earlier
  | inr here ↦
      let place : done + (j - done) ≡ j = omega arith in
      let address : at + done + (j - done) ≡ at + j = omega arith in
      ap (λ i. get_or (put_mid done k old piece) i 0) (sym place)
      ∙ (mid_at done k old piece long (omega arith) (j - done) (omega arith)
      ∙ (is (j - done) (omega arith) ∙ (sym (byte_in_piece c (at + done) (j - done) some (omega arith)) ∙ ap (byte_in c) address)))
]

-- what is found after a page was written over by as many bytes
module _ (c : PageContents) (b : ℕ) (page bytes : List ℕ) (there : page_in c b ≡ Some page) (long : length bytes ≡ length page) where
  written : page_in (with_page c b bytes) b ≡ Some bytes
  written = look_up-rewritten c.pages b bytes b ∙ (rw there (grind (arith, nat_tests, ap Some (overwritten_whole page bytes long))))

  unwritten : (q : ℕ) → q ≢ b → page_in (with_page c b bytes) q ≡ page_in c q
  unwritten q apart = look_up-rewritten c.pages b bytes q ∙ grind (arith, nat_tests)

  -- an address elsewhere has its byte as before
  pub byte_kept : (a : ℕ) → (a / c.block ≡ b → get_or bytes (a % c.block) 0 ≡ get_or page (a % c.block) 0) → byte_in (with_page c b bytes) a ≡ byte_in c a
  byte_kept a same = elim (cases_eq (a / c.block) b) [
    | inl here ↦
        ap (λ q. byte_of (page_in (with_page c b bytes) q) (a % c.block)) here
        ∙ (ap (λ o. byte_of o (a % c.block)) written
        ∙ (same here ∙ sym (ap (λ q. byte_of (page_in c q) (a % c.block)) here
        ∙ ap (λ o. byte_of o (a % c.block)) there)))
    | inr apart ↦ ap (λ o. byte_of o (a % c.block)) (unwritten (a / c.block) apart)
  ]

  pub byte_written : (a : ℕ) → a / c.block ≡ b → byte_in (with_page c b bytes) a ≡ get_or bytes (a % c.block) 0
  byte_written a here = ap (λ q. byte_of (page_in (with_page c b bytes) q) (a % c.block)) here ∙ ap (λ o. byte_of o (a % c.block)) written

pub numbers_rewritten : (ps : List Page) (b : ℕ) (bytes : List ℕ) → map (λ p. p.number) (rewritten ps b bytes) ≡ map (λ p. p.number) ps
numbers_rewritten [] b bytes = refl
numbers_rewritten (p ∷ ps) b bytes = grind (arith, nat_tests, numbers_rewritten ps b bytes)

-- one more piece is added
module _ (start now : PageContents) (at coef : ℕ) (bytes : List ℕ) (done len k : ℕ) (page dst : List ℕ)
    (some : 0 < now.block) (fits : (at + done) % now.block + len ≤ now.block) (within : done + len ≤ length bytes) (same : k ≡ len)
    (there : page_in now ((at + done) / now.block) ≡ Some page) (long : length page ≡ now.block)
    (is : dst ≡ add_bytes (take k (drop ((at + done) % now.block) page)) (scale coef (between done (done + len) bytes)))
    (before : AddsProduct start now at coef bytes done) where
  abbrev from : ℕ
  from = (at + done) % now.block

  abbrev number : ℕ
  number = (at + done) / now.block

  abbrev bytes' : List ℕ
  bytes' = put_mid from k page dst

  abbrev pub after : PageContents
  after = with_page now number bytes'

  src_long : length (between done (done + len) bytes) ≡ len
  src_long = length-between bytes done (done + len) within ∙ omega arith

  mid_long : length (take k (drop from page)) ≡ len
  mid_long = omega (arith, length-take k (drop from page), length-drop from page)

  pair_long : length (take k (drop from page)) ≡ length (scale coef (between done (done + len) bytes))
  pair_long = mid_long ∙ sym (length-scale coef (between done (done + len) bytes) ∙ src_long)

  dst_long : length dst ≡ k
  dst_long = ap length is ∙ (length-add_bytes _ _ pair_long ∙ (mid_long ∙ sym same))

  room : from + k ≤ length page
  room = omega arith

  new_long : length bytes' ≡ length page
  new_long = length_mid from k page dst dst_long room

  dst_byte : (i : ℕ) → i < len → get_or dst i 0 ≡ bit_xor (get_or page (from + i) 0) (product coef (get_or bytes (done + i) 0))
  dst_byte i below =
      ap (λ l. get_or l i 0) is
      ∙ (get_or-add_bytes _ _ i pair_long
      ∙ ap₂ bit_xor (get_or-take k (drop from page) i 0 (omega arith) ∙ get_or-drop from page i 0)
      (get_or-scale coef (between done (done + len) bytes) i
      ∙ ap (product coef) (ap (λ l. get_or l i 0) (between_is bytes done (done + len))
      ∙ (get_or-drop done (take (done + len) bytes) i 0 ∙ get_or-take (done + len) bytes (done + i) 0
      (omega arith)))))

  kept : (a : ℕ) → (a < at + done) ⊎ (at + done + len ≤ a) → byte_in after a ≡ byte_in now a
  kept a outside = byte_kept now number page bytes' there new_long a (λ here.
      let product_same : now.block * (a / now.block) ≡ now.block * number = ap (λ q. now.block * q) here in
      elim outside [
        | inl lower ↦ mid_below from k page dst dst_long room (a % now.block) (omega (arith, product_same, lower))
        | inr higher ↦ mid_above from k page dst dst_long room (a % now.block) (omega (arith, product_same, higher))
      ])

  added : (i : ℕ) → i < len → byte_in after (at + done + i) ≡ bit_xor (byte_in start (at + (done + i))) (product coef (get_or bytes (done + i) 0))
  added i below =
      let place = in_block (at + done) i now.block some (omega arith) in
      let address : at + done + i ≡ at + (done + i) = omega arith in
      byte_written now number page bytes' there new_long (at + done + i) place.0
      ∙ (ap (λ j. get_or bytes' j 0) place.1
      ∙ (mid_at from k page dst dst_long room i (omega arith)
      ∙ (dst_byte i below
      ∙ ap (λ x. bit_xor x (product coef (get_or bytes (done + i) 0)))
      (sym (ap (λ o. byte_of o (from + i)) there)
      ∙ (sym (byte_in_piece now (at + done) i some (omega arith)) ∙ (before.others (at + done + i) (inr (omega arith)) ∙ ap (byte_in start) address))))))

  pub add_more : AddsProduct start after at coef bytes (done + len)
  add_more = record {
    added = λ j below. elim (cases_lt j done) [
      | inl earlier ↦ kept (at + j) (inl (omega arith)) ∙ before.added j earlier
      | inr here ↦
          let address : at + done + (j - done) ≡ at + j = omega arith in
          let place : done + (j - done) ≡ j = omega arith in
          subst (λ i. byte_in after (at + i) ≡ bit_xor (byte_in start (at + i)) (product coef (get_or bytes i 0))) place
          (subst (λ a. byte_in after a ≡ bit_xor (byte_in start (at + (done + (j - done))))
          (product coef (get_or bytes (done + (j - done)) 0))) {x = at + done + (j - done)} (omega arith)
          (added (j - done) (omega arith)))
    ];
    others = λ a outside. elim outside [
      | inl lower ↦ kept a (inl (omega (arith, lower))) ∙ before.others a (inl lower)
      | inr higher ↦ kept a (inr (omega (arith, higher))) ∙ before.others a (inr (omega (arith, higher)))
    ];
    numbers = numbers_rewritten now.pages number bytes' ∙ before.numbers;
    dimensions = record { blocks = before.dimensions.blocks; block = before.dimensions.block };
    room = before.room;
  }

-- a page is there exactly where its number is listed
pub listed_if_there : (ps : List Page) (b : ℕ) → IsSome (look_up ps b) → Contains (map (λ p. p.number) ps) b
listed_if_there [] b there = absurd (true≢false (sym there))
listed_if_there (p ∷ ps) b there = elim (cases_eq p.number b) [
  | inl here ↦ (0, omega arith, here)
  | inr apart ↦
      let rest : IsSome (look_up ps b) = grind (arith, nat_tests) in
      let more = listed_if_there ps b rest in
      (suc more.0, omega (arith, more.1), more.2)
]

pub there_if_listed : (ps : List Page) (b : ℕ) → Contains (map (λ p. p.number) ps) b → IsSome (look_up ps b)
there_if_listed [] b listed = absurd (omega (arith, listed.1))
there_if_listed (p ∷ ps) b (zero, within, here) = grind (arith, nat_tests, here)
there_if_listed (p ∷ ps) b (suc k, within, here) = grind (arith, nat_tests, there_if_listed ps b (k, omega (arith, within), here))

pub still_there : (old new : PageContents) (b : ℕ) → numbers_in new ≡ numbers_in old → HasPage old b → HasPage new b
still_there old new b same there = there_if_listed new.pages b (subst (λ ns. Contains ns b) (sym same) (listed_if_there old.pages b there))

-- the same where the length of a block goes by another name
pub add_more_by : (start now : PageContents) (at coef : ℕ) (bytes : List ℕ) (done len k : ℕ) (page dst : List ℕ) (block : ℕ) → now.block ≡ block
    → 0 < block → (at + done) % block + len ≤ block → done + len ≤ length bytes → k ≡ len → page_in now ((at + done) / block) ≡ Some page → length page ≡ block
    → dst ≡ add_bytes (take k (drop ((at + done) % block) page)) (scale coef (between done (done + len) bytes))
    → AddsProduct start now at coef bytes done
    → AddsProduct start (with_page now ((at + done) / block) (put_mid ((at + done) % block) k page dst)) at coef bytes (done + len)
add_more_by start now at coef bytes done len k page dst block same =
    subst (λ b. 0 < b → (at + done) % b + len ≤ b → done + len ≤ length bytes → k ≡ len → page_in now ((at + done) / b)
    ≡ Some page → length page ≡ b
    → dst ≡ add_bytes (take k (drop ((at + done) % b) page)) (scale coef (between done (done + len) bytes))
    → AddsProduct start now at coef bytes done
    → AddsProduct start (with_page now ((at + done) / b) (put_mid ((at + done) % b) k page dst)) at coef bytes
    (done + len)) same (add_more start now at coef bytes done len k page dst)
