-- What a search finds among sorted pages, what a look-up finds, and what an edit does to it.
use Rattle.std.proofs.Common.{◌≡◌, ◌≢◌, ℕ, zero, suc, ◌+◌, ◌-◌, ◌*◌, ◌<◌, ◌≤◌, eqb, List, [], ◌∷◌, length, get_or, set}
use Rattle.std.proofs.Common.{if◌then◌else◌, Some, None, IsSome, Result, Ok, Err, IfOk, IfErr, IsTrue, Bool, is_ok}
use Rattle.std.proofs.Common.{is_some, option_map, map, drop, ◌++◌, refl, sym, ap, ◌∙◌, subst, inl, inr, arith}
use Rattle.std.specs.List.{insert}
use Rattle.std.proofs.lemmas.List.{get_or_default, length-take, length-append, length-drop, length-set, length-map}
use Rattle.std.proofs.lemmas.List.{get_or-map, get_or-set_same, get_or-set_other}
use Rattle.std.proofs.Math.Nat.{mul-le-mul_left}
use Rattle.group_types.specs.Pieces.{overwritten}
use Rattle.page_map.specs.Loans.{rewritten}
use Rattle.std.specs.List.Sorted.{IsSearchInRange, IsBinarySearchResult, IsNonDecreasingBy, IsStrictlyIncreasing}
use Rattle.std.specs.Ordering.{nat_cmp, ordering_index}
use Rattle.std.proofs.lemmas.Cmp.{ranked}
use Rattle.std.proofs.lemmas.List.Sorted.{IsNonDecreasingBy-from_default}
use Rattle.std.proofs.lemmas.List.Edits.{length-insert, get_or-insert_below, get_or-insert_at, get_or-insert_above}
use Rattle.std.proofs.lemmas.Bool.{cases_eq, true≢false}
use Rattle.std.proofs.lemmas.Bool.Decides.{nat_tests}
use Rattle.page_map.specs.declared.page.Page.{Page}
use Rattle.page_map.specs.Pages.{look_up}
use Rattle.page_map.specs.Order.{page_at, IsStrictlySorted, IsAt, IsGapFor, ArePages}

-- no page before place i has the number
abbrev pub NoneBefore : List Page → ℕ → ℕ → Type 0
NoneBefore ps b i = (j : ℕ) → j < i → (page_at ps j).number ≢ b

none_before_tail : (p : Page) (ps : List Page) (b i : ℕ) → NoneBefore (p ∷ ps) b (suc i) → NoneBefore ps b i
none_before_tail p ps b i none j lt = none (suc j) (omega arith)

is_at_tail : (p : Page) (ps : List Page) (b i : ℕ) → IsAt (p ∷ ps) b (suc i) → IsAt ps b i
is_at_tail p ps b i is_at = record { in_range = omega (arith, is_at.in_range); has_number = is_at.has_number }

pub look_up_absent : (ps : List Page) (b : ℕ) → NoneBefore ps b (length ps) → look_up ps b ≡ None
look_up_absent [] b none = refl
look_up_absent (p ∷ ps) b none = grind (arith, nat_tests, none 0 (omega arith), look_up_absent ps b (none_before_tail p ps b _ none))

pub look_up_present : (ps : List Page) (b i : ℕ) → IsAt ps b i → NoneBefore ps b i → look_up ps b ≡ Some (page_at ps i).bytes
look_up_present [] b i is_at none = absurd (omega (arith, is_at.in_range))
look_up_present (p ∷ ps) b zero is_at none = grind (arith, nat_tests, is_at.has_number)
look_up_present (p ∷ ps) b (suc i) is_at none =
    grind (
      arith,
      nat_tests,
      none 0 (omega arith),
      look_up_present ps b i (is_at_tail p ps b i is_at)
          (none_before_tail p ps b i none),
    )

-- a new page before any other of its number is found
pub look_up-insert : (ps : List Page) (p : Page) (i : ℕ) → NoneBefore ps p.number i → (q : ℕ)
    → look_up (insert ps i p) q ≡ (if eqb p.number q then Some p.bytes else look_up ps q)
look_up-insert ps p zero none q = refl
look_up-insert [] p (suc i) none q = refl
look_up-insert (x ∷ ps) p (suc i) none q = grind (arith, nat_tests, none 0 (omega arith), look_up-insert ps p i (none_before_tail x ps p.number i none) q)

module _ (ps : List Page) (sorted : IsStrictlySorted ps) (b : ℕ) where
  comparisons_rise : IsNonDecreasingBy (λ (p : Page). ordering_index (nat_cmp p.number b)) ps
  comparisons_rise = IsNonDecreasingBy-from_default (λ (p : Page). ordering_index (nat_cmp p.number b)) ps
      (record { number = 0; bytes = [] }) (λ i j le in_range.
      let rise : (page_at ps i).number ≤ (page_at ps j).number = grind (arith, sorted i j, λ (same : i ≡ j). ap (λ k. (page_at ps k).number) same) in
      grind (arith, nat_tests))

  -- a binary search by number ends at the page, or at the gap for it
  pub searched : (r : Result ℕ ℕ) → IsSearchInRange r (length ps)
      → IsBinarySearchResult (λ (p : Page). nat_cmp p.number b) ps r
      → record { found : IfOk r (IsAt ps b); absent : IfErr r (IsGapFor ps b) }
  searched (Ok at) in_range equal =
      record {
        found = record {
          in_range = in_range;
          has_number = ranked _ b _ (sym (equal (record { number = 0; bytes = [] })));
        };
        absent = tt;
      }
  searched (Err at) in_range parted = record {
    found = tt;
    absent = record {
      in_range = in_range;
      lower_before = λ j lt. ranked _ b _ (sym ((parted comparisons_rise).0 j (record { number = 0; bytes = [] }) (omega arith) lt));
      higher_after = λ j le lt. ranked _ b _ (sym ((parted comparisons_rise).1 j (record { number = 0; bytes = [] }) le lt));
    };
  }

  pub none_before_at : (at : ℕ) → IsAt ps b at → NoneBefore ps b at
  none_before_at at is_at j lt same = omega (arith, sorted j at lt is_at.in_range, is_at.has_number)

  -- the page is found at its place
  pub look_up_at : (at : ℕ) → IsAt ps b at → look_up ps b ≡ Some (page_at ps at).bytes
  look_up_at at is_at = look_up_present ps b at is_at (none_before_at at is_at)

-- a number that has a gap is not found
pub look_up_gap : (ps : List Page) (b at : ℕ) → IsGapFor ps b at → look_up ps b ≡ None
look_up_gap ps b at gap = look_up_absent ps b (λ j lt same. grind (arith, gap.lower_before j, gap.higher_after j))

module _ (ps : List Page) (at : ℕ) (p : Page) (gap : IsGapFor ps p.number at) where
  pub none_before_gap : NoneBefore ps p.number at
  none_before_gap j lt same = omega (arith, gap.lower_before j lt)

  -- each page is an old one below the gap, the new one at it, or an old one moved up by one
  at_below : (i : ℕ) → i < at → page_at (insert ps at p) i ≡ page_at ps i
  at_below i below = get_or-insert_below ps at p _ i below gap.in_range

  at_gap : (i : ℕ) → i ≡ at → page_at (insert ps at p) i ≡ p
  at_gap i here = rw here (get_or-insert_at ps at p _ gap.in_range)

  at_above : (i : ℕ) → at < i → page_at (insert ps at p) i ≡ page_at ps (i - 1)
  at_above i above = subst (λ q. page_at (insert ps at p) q ≡ page_at ps (i - 1)) {x = i - 1 + 1} (omega arith)
      (get_or-insert_above ps at p _ (i - 1) (omega arith) gap.in_range)

  sorted_insert : IsStrictlySorted ps → IsStrictlySorted (insert ps at p)
  sorted_insert sorted i j lt in_range =
      let long = length-insert ps at p gap.in_range in
      grind (
        arith,
        at_below i,
        at_gap i,
        at_above i,
        at_below j,
        at_gap j,
        at_above j,
        sorted i j,
        sorted i (j - 1),
        sorted (i - 1) (j - 1),
        gap.lower_before i,
        gap.higher_after (j - 1),
      )

  -- pages stay pages with a further one in its gap
  pub pages_insert : (blocks block : ℕ) → ArePages blocks block ps → p.number < blocks → length p.bytes ≡ block → ArePages blocks block (insert ps at p)
  pages_insert blocks block pages below whole =
      let long = length-insert ps at p gap.in_range in
      record {
        dimensions = pages.dimensions;
        sorted = sorted_insert pages.sorted;
        below = λ i in_range. grind (arith, at_below i, at_gap i, at_above i, pages.below i, pages.below (i - 1));
        whole = λ i in_range. grind (arith, at_below i, at_gap i, at_above i, pages.whole i, pages.whole (i - 1));
      }

-- each number is at least its place
number_above : (ps : List Page) → IsStrictlySorted ps → (i : ℕ) → i < length ps → i ≤ (page_at ps i).number
number_above ps sorted zero in_range = omega arith
number_above ps sorted (suc i) in_range = omega (arith, number_above ps sorted i (omega arith), sorted i (suc i) (omega arith) in_range)

-- so there are no more pages than blocks
pub few : (blocks block : ℕ) (ps : List Page) → ArePages blocks block ps → length ps ≤ blocks
few blocks block [] pages = omega arith
few blocks block (p ∷ ps) pages =
    omega (arith, number_above (p ∷ ps) pages.sorted (length ps) (omega arith), pages.below (length ps) (omega arith))

pub few_in_a_word : (blocks block : ℕ) (ps : List Page) → ArePages blocks block ps → length ps < 4294967296
few_in_a_word blocks block ps pages =
    let d = pages.dimensions in
    let bound : blocks * 16 ≤ blocks * block = mul-le-mul_left blocks d.long in
    omega (arith, few blocks block ps pages, d.all)

-- a search tells whether there is a page
pub is_found : (ps : List Page) → IsStrictlySorted ps → (b : ℕ) (r : Result ℕ ℕ) → IfOk r (IsAt ps b)
    → IfErr r (IsGapFor ps b) → (t : Bool) → t ≡ is_ok r → (IsTrue t → IsSome (look_up ps b))
    × (IsSome (look_up ps b) → IsTrue t)
is_found ps sorted b (Ok at) found absent t is = (λ _. rw (look_up_at ps sorted b at found) refl, λ _. is)
is_found ps sorted b (Err at) found absent t is = (
  λ yes. absurd (true≢false (sym yes ∙ is)),
  λ there. absurd (true≢false (sym there ∙ ap is_some (look_up_gap ps b at absent))),
)

pub read_at : (ps : List Page) (at : ℕ) (p : Page) → at < length ps → p ≡ get_or ps at p → p ≡ page_at ps at
read_at ps at p within is = is ∙ get_or_default ps at p (record { number = 0; bytes = [] }) within

-- writing into the page found is writing into the page of its number
pub rewritten_at : (ps : List Page) (b i : ℕ) (bytes : List ℕ) (p : Page) → IsAt ps b i → NoneBefore ps b i
    → p ≡ page_at ps i → set ps i (record { number = p.number; bytes = overwritten p.bytes bytes })
    ≡ rewritten ps b bytes
rewritten_at [] b i bytes p is_at none is = absurd (omega (arith, is_at.in_range))
rewritten_at (x ∷ ps) b zero bytes p is_at none is = grind (arith, nat_tests, is_at.has_number)
rewritten_at (x ∷ ps) b (suc i) bytes p is_at none is =
    grind (arith, nat_tests, none 0 (omega arith), rewritten_at ps b i bytes p (is_at_tail x ps b i is_at) (none_before_tail x ps b i none) is)

-- the page found afterwards
pub look_up-rewritten : (ps : List Page) (b : ℕ) (bytes : List ℕ) (q : ℕ) → look_up (rewritten ps b bytes) q
    ≡ (if eqb b q then option_map (λ old. overwritten old bytes) (look_up ps q) else look_up ps q)
look_up-rewritten [] b bytes q = grind (arith, nat_tests)
look_up-rewritten (x ∷ ps) b bytes q = grind (arith, nat_tests, look_up-rewritten ps b bytes q)

length-overwritten : (old bytes : List ℕ) → length (overwritten old bytes) ≡ length old
length-overwritten old bytes = omega (
  arith,
  length-take (length old) (bytes ++ drop (length bytes) old),
  length-append bytes (drop (length bytes) old),
  length-drop (length bytes) old,
)

-- pages stay pages when one of them is written into
pub pages_set : (blocks block : ℕ) (ps : List Page) (i : ℕ) (p : Page) (bytes : List ℕ) → ArePages blocks block ps
    → i < length ps → p ≡ page_at ps i
    → ArePages blocks block (set ps i (record { number = p.number; bytes = overwritten p.bytes bytes }))
pages_set blocks block ps i p bytes pages within is =
    let new : Page = record { number = p.number; bytes = overwritten p.bytes bytes } in
    let none : Page = record { number = 0; bytes = [] } in
    let long = length-set ps i new in
    let same_number : (k : ℕ) → (page_at (set ps i new) k).number ≡ (page_at ps k).number = λ k. elim (cases_eq k i) [
      | inl here ↦ rw here (ap (λ (q : Page). q.number) (get_or-set_same ps i new none within) ∙ ap (λ (q : Page). q.number) is)
      | inr apart ↦ ap (λ (q : Page). q.number) (get_or-set_other ps i k new none apart)
    ] in
    let same_length : (k : ℕ) → length (page_at (set ps i new) k).bytes ≡ length (page_at ps k).bytes = λ k. elim (cases_eq k i) [
      | inl here ↦ rw here (ap (λ (q : Page). length q.bytes) (get_or-set_same ps i new none within)
          ∙ length-overwritten p.bytes bytes ∙ ap (λ (q : Page). length q.bytes) is)
      | inr apart ↦ ap (λ (q : Page). length q.bytes) (get_or-set_other ps i k new none apart)
    ] in
    record {
      dimensions = pages.dimensions;
      sorted = λ j k lt in_range. rw (same_number j, same_number k) (pages.sorted j k lt (omega arith));
      below = λ k in_range. rw (same_number k) (pages.below k (omega arith));
      whole = λ k in_range. same_length k ∙ pages.whole k (omega arith);
    }

-- the new page is found, and every other as before
pub found_after : (ps : List Page) (p : Page) (at : ℕ) → IsGapFor ps p.number at
    → (look_up (insert ps at p) p.number ≡ Some p.bytes)
    × ((q : ℕ) → q ≢ p.number → look_up (insert ps at p) q ≡ look_up ps q)
found_after ps p at gap =
    let found = look_up-insert ps p at (none_before_gap ps at p gap) in
    (grind (arith, nat_tests, found p.number), λ q apart. grind (arith, nat_tests, found q))

-- the numbers of sorted pages rise
pub numbers_rise : (ps : List Page) → IsStrictlySorted ps → IsStrictlyIncreasing (map (λ p. p.number) ps)
numbers_rise ps sorted k below =
    let many = length-map ps (λ (p : Page). p.number) in
    let none : Page = record { number = 0; bytes = [] } in
    rw (
      get_or-map (λ (p : Page). p.number) ps k none 0 (omega (arith, many, below)),
      get_or-map (λ (p : Page). p.number) ps (k + 1) none 0 (omega (arith, many, below)),
    )
    (sorted k (k + 1) (omega arith) (omega (arith, many, below)))
