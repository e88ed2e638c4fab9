-- Rebuilt blocks in pages: what is found, placed and added.
use Rattle.std.proofs.Common.{◌≡◌, ◌≢◌, ℕ, zero, suc, ◌+◌, ◌-◌, ◌*◌, ◌/◌, ◌%◌, ◌<◌, ◌≤◌, ◌⊎◌, Bool, false, List, []}
use Rattle.std.proofs.Common.{◌∷◌, length, map, drop, get_or, Option, Some, None, IfSome, is_some, option_map}
use Rattle.std.proofs.Common.{unwrap_or, find, not, refl, sym, ap, ap₂, ◌∙◌, subst, inl, inr, add-one, add-zero, ne_eqb}
use Rattle.std.proofs.Common.{◌==◌, arith}
use Rattle.std.specs.Prelude.{if◌then◌else◌}
use Rattle.std.specs.List.{range_with_len}
use Rattle.std.proofs.Math.Nat.{div-mul-le_self, mul-le-mul_right}
use Rattle.block_sessions.proofs.Areas.{area_apart, area_empty}
use Rattle.std.proofs.lemmas.Bool.{cases_eq, cases_lt}
use Rattle.std.proofs.lemmas.Bool.Decides.{nat_tests}
use Rattle.std.proofs.lemmas.List.{get_or_past, get_or-drop, get_or-take, length-drop, length-take}
use Rattle.std.proofs.lemmas.List.FromFn.{get_or-map-range_with_len, length-map-range_with_len}
use Rattle.std.proofs.lemmas.Grind.{same_number_lists}
use Rattle.group_types.specs.Dimensions.{Dimensions}
use Rattle.group_types.specs.Lists.{at, put}
use Rattle.group_types.specs.declared.process.ProcessId.TheVariants.{DataNode}
use Rattle.group_types.proofs.Lists.{at-map-range, at_behind, at_index}
use Rattle.group_types.proofs.Places.{overwritten_whole}
use Rattle.group_types.specs.declared.run.Run.{Run}
use Rattle.group_run.specs.Leaders.{blocks_met}
use Rattle.group_message.specs.declared.update.Body.TheVariants.{Put, Remove, Touch}
use Rattle.group_message.specs.declared.update.Update.{Update}
use Rattle.group_run.specs.Applying.{area_added, block_added, block_after, rebuilt_after}
use Rattle.page_map.specs.Pages.{HasPage, PageContents, PlacesOnly, SameDimensions, byte_in, byte_of, page_in}
use Rattle.erasure_code.specs.Spaces.{bytes_at}
use Rattle.page_map.specs.Spaces.{LiesIn, page_bytes}
use Rattle.page_map.proofs.Spaces.{get_or-bytes_of, length-bytes_of}
use Rattle.page_map.specs.Loans.{with_page}
use Rattle.page_map.proofs.Places.{look_up-rewritten}
use Rattle.page_map.proofs.Unions.{block_within, none_unless, same_or_earlier}
use Rattle.block_sessions.specs.Rebuilt.{HoldsBlocks, byte_in_blocks, kept_unless, rebuilt_in}

pub rebuilt_at : (c : PageContents) (b : ℕ) → b < c.blocks → at None (rebuilt_in c) b ≡ page_in c b
rebuilt_at c b below = at-map-range None (page_in c) c.blocks 0 b below ∙ ap (page_in c) (omega arith)

pub same_range : {X : Type 0} (f g : ℕ → X) (a n : ℕ) → ((b : ℕ) → a ≤ b → b < a + n → f b ≡ g b) → map f (range_with_len a n) ≡ map g (range_with_len a n)
same_range f g a zero same = refl
same_range f g a (suc n) same = ap₂ (λ x xs. x ∷ xs) (same a (omega arith) (omega arith))
    (same_range f g (a + 1) n (λ b from below. same b (omega arith) (omega arith)))

-- one entry of a range put
pub put_range : {X : Type 0} (d : X) (f g : ℕ → X) (a n i : ℕ) (y : X) → i < n → g (a + i) ≡ y
    → ((b : ℕ) → b ≢ a + i → g b ≡ f b) → map g (range_with_len a n) ≡ put d (map f (range_with_len a n)) i y
put_range d f g a zero i y below here others = absurd (omega arith)
put_range d f g a (suc n) zero y below here others =
    ap₂ (λ x xs. x ∷ xs) (subst (λ b. g b ≡ y) (add-zero a) here) (same_range g f (a + 1) n (λ b from _. others b (λ same. omega arith)))
put_range d f g a (suc n) (suc i) y below here others =
    let place : a + suc i ≡ a + 1 + i = omega arith in
    ap₂ (λ x xs. x ∷ xs) (others a (λ same. omega arith))
    (put_range d f g (a + 1) n i y (omega arith) (subst (λ b. g b ≡ y) place here) (λ b apart. others b (λ same. apart (same ∙ place))))

-- a block that wasn't there is kept
pub kept : (s : Dimensions) (most b : ℕ) (bytes : List ℕ) (old new : PageContents) → HoldsBlocks s most old → b < s.blocks
    → page_in old b ≡ None → PlacesOnly old new b bytes → SameDimensions old new
    → rebuilt_in new ≡ kept_unless (is_some (at None (rebuilt_in old) b)) b bytes (rebuilt_in old)
kept s most b bytes old new holds below none placed same =
    let absent : at None (rebuilt_in old) b ≡ None = rebuilt_at old b (omega (arith, holds.blocks)) ∙ none in
    rw (absent, same.blocks) (put_range None (page_in old) (page_in new) 0 old.blocks b (Some bytes)
    (omega (arith, holds.blocks)) (ap (page_in new) (omega arith) ∙ placed.placed)
    (λ q apart. placed.others q (λ here. apart (omega arith))))

-- updates of all the blocks from a on
pub all_after : (s : Dimensions) (d : ℕ) (us : List Update) (f g : ℕ → Option (List ℕ)) (a n : ℕ)
    → ((b : ℕ) → g b ≡ option_map (block_after s (DataNode d) d b us) (f b))
    → map g (range_with_len a n) ≡ rebuilt_after s d us a (map f (range_with_len a n))
all_after s d us f g a zero each = refl
all_after s d us f g a (suc n) each =
    ap₂ (λ x xs. x ∷ xs) (each a) (all_after s d us f g (a + 1) n each ∙ ap (λ b. rebuilt_after s d us b (map f (range_with_len (a + 1) n))) (add-one a))

-- what of the blocks of a range isn't there
abbrev pub unmade : PageContents → ℕ → Bool
unmade c b = not (is_some (at None (rebuilt_in c) b))

-- a block that a run meets is one of the space
pub met_below : (s : Dimensions) (run : Run) (block b : ℕ) → 0 < s.block → LiesIn run s → 1 ≤ run.len → block ≡ s.block
    → b < (run.at + run.len - 1) / block + 1 → b < s.blocks
met_below s run block b long within some same met =
    let last = block_within (run.at + run.len - 1) s.blocks s.block long (omega (arith, within)) in
    omega (arith, last, subst (λ n. b < (run.at + run.len - 1) / n + 1) same met)

-- the blocks that a run meets are those from its first to its last
pub run_blocks : (s : Dimensions) (run : Run) (first end : ℕ) → 0 < s.block → 1 ≤ run.len → first ≡ run.at / s.block
    → end ≡ (run.at + run.len - 1) / s.block + 1 → range_with_len first (end - first) ≡ blocks_met s run
run_blocks s run first end long some is_first is_end =
    let some_test : (run.len == 0) ≡ false = ne_eqb run.len 0 (λ none. omega arith) in
    let order = same_or_earlier run.at (run.at + run.len - 1) s.block long (omega arith) in
    let count : end - first ≡ (run.at + run.len - 1) / s.block - run.at / s.block + 1 = omega (arith, order) in
    sym (ap (λ t. if t then [] else range_with_len (run.at / s.block) ((run.at + run.len - 1) / s.block - run.at / s.block + 1)) some_test
    ∙ ap₂ (λ a n. range_with_len a n) (sym is_first) (sym count))

module _ (c : PageContents) (b end : ℕ) where
  -- the first block of the rest is there
  pub skipped : b < end → b < c.blocks → HasPage c b → find (unmade c) (range_with_len (b + 1) (end - (b + 1))) ≡ find (unmade c) (range_with_len b (end - b))
  skipped more below there =
      let count : end - b ≡ suc (end - (b + 1)) = omega arith in
      sym (ap (λ n. find (unmade c) (range_with_len b n)) count
      ∙ ap (λ t. if not t then Some b else find (unmade c) (range_with_len (b + 1) (end - (b + 1))))
      (ap is_some (rebuilt_at c b below) ∙ there))

  -- it isn't
  pub first_unmade : b < end → b < c.blocks → ¬ (HasPage c b) → find (unmade c) (range_with_len b (end - b)) ≡ Some b
  first_unmade more below apart =
      let count : end - b ≡ suc (end - (b + 1)) = omega arith in
      ap (λ n. find (unmade c) (range_with_len b n)) count
      ∙ ap (λ t. if not t then Some b else find (unmade c) (range_with_len (b + 1) (end - (b + 1))))
      (ap is_some (rebuilt_at c b below ∙ none_unless (page_in c b) apart))

  pub none_unmade : end ≤ b → find (unmade c) (range_with_len b (end - b)) ≡ None
  none_unmade past = let count : end - b ≡ 0 = omega arith in ap (λ n. find (unmade c) (range_with_len b n)) count

read_at : (bytes : List ℕ) (i : ℕ) → get_or bytes i 0 ≡ at 0 bytes i
read_at bytes i = elim (cases_lt i (length bytes)) [
  | inl below ↦ sym (at_index 0 0 bytes i below)
  | inr past ↦ get_or_past bytes i 0 past ∙ sym (at_behind 0 bytes i past)
]

-- a byte of the pages is that of the rebuilt blocks
pub byte_rebuilt : (c : PageContents) (a : ℕ) → 0 < c.block → a < c.blocks * c.block → byte_in c a ≡ byte_in_blocks c.block (rebuilt_in c) a
byte_rebuilt c a long below = by (page_in c (a / c.block)) ∙ ap (λ o. at 0 (unwrap_or o []) (a % c.block))
    (sym (rebuilt_at c (a / c.block) (block_within a c.blocks c.block long below)))
  where
    by : (o : Option (List ℕ)) → byte_of o (a % c.block) ≡ at 0 (unwrap_or o []) (a % c.block)
    by None = refl
    by (Some bytes) = read_at bytes (a % c.block)

-- the bytes of a run are those of the rebuilt blocks
pub bytes_rebuilt : (c : PageContents) (from len : ℕ) → 0 < c.block → from + len ≤ c.blocks * c.block
    → bytes_at from len (page_bytes c) ≡ map (byte_in_blocks c.block (rebuilt_in c)) (range_with_len from len)
bytes_rebuilt c from len long within =
    let byte : ℕ → ℕ = byte_in_blocks c.block (rebuilt_in c) in
    let all = length-bytes_of c in
    let part = length-take len (drop from (page_bytes c)) in
    let rest = length-drop from (page_bytes c) in
    same_number_lists _ _ (omega (arith, length-map-range_with_len byte from len)) (λ k below.
    let inside : k < len = omega arith in
    get_or-take len (drop from (page_bytes c)) k 0 inside
    ∙ (get_or-drop from (page_bytes c) k 0
    ∙ (get_or-bytes_of c (from + k) (omega arith)
    ∙ (byte_rebuilt c (from + k) long (omega arith) ∙ sym (get_or-map-range_with_len byte from len k (from + k) 0 inside refl)))))

-- a page more leaves room for one less
pub kept_holds : (s : Dimensions) (most b : ℕ) (bytes : List ℕ) (old new : PageContents) → HoldsBlocks s most old
    → length bytes ≡ s.block → PlacesOnly old new b bytes → SameDimensions old new → new.room ≡ old.room - 1
    → HoldsBlocks s (most - 1) new
kept_holds s most b bytes old new holds whole placed same room = record {
  long = holds.long;
  blocks = same.blocks ∙ holds.blocks;
  block = same.block ∙ holds.block;
  room = omega (arith, holds.room, room);
  whole = λ q. elim (cases_eq q b) [
    | inl here ↦ rw (here, placed.placed) whole
    | inr apart ↦ rw (placed.others q apart) (holds.whole q)
  ];
}

pub less_room : (s : Dimensions) (most : ℕ) (c : PageContents) → HoldsBlocks s most c → HoldsBlocks s (most - 1) c
less_room s most c holds = record { long = holds.long; blocks = holds.blocks; block = holds.block; room = omega (arith, holds.room); whole = holds.whole }

-- a block that was there stays
pub kept_there : (c : PageContents) (b : ℕ) (bytes : List ℕ) → b < c.blocks → HasPage c b
    → rebuilt_in c ≡ kept_unless (is_some (at None (rebuilt_in c) b)) b bytes (rebuilt_in c)
kept_there c b bytes below there = sym (ap (λ t. kept_unless t b bytes (rebuilt_in c)) (ap is_some (rebuilt_at c b below) ∙ there))

-- a difference is added to the pages from `first` to below `next`
pub record AddsTo (s : Dimensions) (at : ℕ) (delta : List ℕ) (old new : PageContents) (first next : ℕ) : Type 0 where
  pub added : (q : ℕ) → first ≤ q → q < next → page_in new q ≡ option_map (area_added (q * s.block) at delta) (page_in old q)
  pub others : (q : ℕ) → (q < first) ⊎ (next ≤ q) → page_in new q ≡ page_in old q
  pub holds : (most : ℕ) → HoldsBlocks s most old → HoldsBlocks s most new

-- a page that isn't there
pub adds_none : (s : Dimensions) (at : ℕ) (delta : List ℕ) (old now : PageContents) (first next : ℕ) → first ≤ next
    → AddsTo s at delta old now first next → page_in now next ≡ None → AddsTo s at delta old now first (next + 1)
adds_none s at delta old now first next order is none = record {
  added = λ q from below. elim (cases_eq q next) [
    | inl here ↦ rw (here, none, sym (is.others next (inr (omega arith))) ∙ none) refl
    | inr apart ↦ is.added q from (omega (arith, apart))
  ];
  others = λ q apart. is.others q (elim apart [ inl before ↦ inl before | inr past ↦ inr (omega arith) ]);
  holds = is.holds;
}

-- a page that is
pub adds_page : (s : Dimensions) (at : ℕ) (delta page bytes : List ℕ) (old now : PageContents) (first next : ℕ)
    → first ≤ next → AddsTo s at delta old now first next → page_in now next ≡ Some page → length page ≡ s.block
    → length bytes ≡ length page → bytes ≡ area_added (next * s.block) at delta page → AddsTo s at delta old (with_page now next bytes) first (next + 1)
adds_page s at delta page bytes old now first next order is there whole long sum = record {
  added = λ q from below. elim (cases_eq q next) [
    | inl here ↦ rw here (written ∙ (ap Some sum ∙ ap (option_map (area_added (next * s.block) at delta)) (sym there ∙ is.others next (inr (omega arith)))))
    | inr apart ↦ unwritten q apart ∙ is.added q from (omega (arith, apart))
  ];
  others = λ q apart. unwritten q (λ here. elim apart [ inl before ↦ omega (arith, before, here) | inr past ↦ omega (arith, past, here) ])
      ∙ is.others q (elim apart [ inl before ↦ inl before | inr past ↦ inr (omega arith) ]);
  holds = λ most holds. let now_holds = is.holds most holds in record {
    long = now_holds.long;
    blocks = now_holds.blocks;
    block = now_holds.block;
    room = now_holds.room;
    whole = λ q. elim (cases_eq q next) [
      | inl here ↦ rw (here, written) (long ∙ whole)
      | inr apart ↦ rw (unwritten q apart) (now_holds.whole q)
    ];
  };
}
  where
    written : page_in (with_page now next bytes) next ≡ Some bytes
    written = look_up-rewritten now.pages next bytes next ∙ (rw there (grind (arith, nat_tests, ap Some (overwritten_whole page bytes long))))

    unwritten : (q : ℕ) → q ≢ next → page_in (with_page now next bytes) q ≡ page_in now q
    unwritten q apart = look_up-rewritten now.pages next bytes q ∙ grind (arith, nat_tests)

-- a page that a difference doesn't change
unmet : (from at block : ℕ) (delta : List ℕ) (o : Option (List ℕ)) → IfSome o (λ bytes. length bytes ≡ block)
    → (at + length delta ≤ from) ⊎ (from + block ≤ at) → o ≡ option_map (area_added from at delta) o
unmet from at block delta None whole apart = refl
unmet from at block delta (Some bytes) whole apart =
    ap Some (sym (area_apart from at delta bytes (elim apart [ inl past ↦ inl past | inr early ↦ inr (omega arith) ])))

pub empty_added : (from at : ℕ) (delta : List ℕ) (o : Option (List ℕ)) → length delta ≡ 0 → o ≡ option_map (area_added from at delta) o
empty_added from at delta None none = refl
empty_added from at delta (Some bytes) none = ap Some (sym (area_empty from at delta bytes none))

-- all the pages that it meets are changed
pub added_all : (s : Dimensions) (at : ℕ) (delta : List ℕ) (old new : PageContents) (first next : ℕ) → HoldsBlocks s 0 old
    → AddsTo s at delta old new first next → 1 ≤ length delta → first ≡ at / s.block
    → (at + length delta - 1) / s.block + 1 ≤ next
    → (q : ℕ) → page_in new q ≡ option_map (area_added (q * s.block) at delta) (page_in old q)
added_all s at delta old new first next holds is some is_first is_last q =
    let long = holds.long in
    elim (cases_lt q first) [
      | inl before ↦
          let up : (q + 1) * s.block ≤ first * s.block = mul-le-mul_right s.block (omega arith) in
          let begins : first * s.block ≤ at = subst (λ n. n * s.block ≤ at) (sym is_first) (div-mul-le_self at s.block) in
          is.others q (inl before) ∙ unmet (q * s.block) at s.block delta (page_in old q) (holds.whole q) (inr (omega (arith, up, begins)))
      | inr from ↦ elim (cases_lt q next) [
        | inl inside ↦ is.added q from inside
        | inr past ↦
            let up : ((at + length delta - 1) / s.block + 1) * s.block ≤ q * s.block = mul-le-mul_right s.block (omega arith) in
            let ends : at + length delta ≤ ((at + length delta - 1) / s.block + 1) * s.block = omega (arith, long) in
            is.others q (inr past) ∙ unmet (q * s.block) at s.block delta (page_in old q) (holds.whole q) (inl (omega (arith, up, ends)))
      ]
    ]

pub run_rebuilt : (s : Dimensions) (c : PageContents) (run : Run) → HoldsBlocks s 0 c → LiesIn run s
    → bytes_at run.at run.len (page_bytes c) ≡ map (byte_in_blocks s.block (rebuilt_in c)) (range_with_len run.at run.len)
run_rebuilt s c run holds within =
    let area : c.blocks * c.block ≡ s.blocks * s.block = ap₂ (λ x y. x * y) holds.blocks holds.block in
    bytes_rebuilt c run.at run.len (omega (arith, holds.long, holds.block)) (omega (arith, area, within))
    ∙ ap (λ n. map (byte_in_blocks n (rebuilt_in c)) (range_with_len run.at run.len)) holds.block

-- the blocks after an update that puts, and after others
pub put_blocks : (s : Dimensions) (d : ℕ) (u : Update) (flags : ℕ) (until : Option ℕ) (run : Run) (delta : List ℕ)
    (old new : PageContents) → u.body ≡ Put flags until run delta → new.blocks ≡ old.blocks
    → ((b : ℕ) → page_in new b ≡ option_map (area_added (b * s.block) run.at delta) (page_in old b))
    → rebuilt_in new ≡ rebuilt_after s d (u ∷ []) 0 (rebuilt_in old)
put_blocks s d u flags until run delta old new is same each =
    ap (λ n. map (page_in new) (range_with_len 0 n)) same
    ∙ all_after s d (u ∷ []) (page_in old) (page_in new) 0 old.blocks
    (λ b. each b ∙ ap (λ body. option_map (block_added s (DataNode d) d b body) (page_in old b)) (sym is))

unchanged : (o : Option (List ℕ)) → o ≡ option_map (λ bytes. bytes) o
unchanged None = refl
unchanged (Some bytes) = refl

pub remove_blocks : (s : Dimensions) (d : ℕ) (u : Update) (c : PageContents) → u.body ≡ Remove → rebuilt_in c ≡ rebuilt_after s d (u ∷ []) 0 (rebuilt_in c)
remove_blocks s d u c is = all_after s d (u ∷ []) (page_in c) (page_in c) 0 c.blocks (λ b. unchanged (page_in c b)
    ∙ ap (λ body. option_map (block_added s (DataNode d) d b body) (page_in c b)) (sym is))

pub touch_blocks : (s : Dimensions) (d : ℕ) (u : Update) (until : Option ℕ) (c : PageContents) → u.body ≡ Touch until
    → rebuilt_in c ≡ rebuilt_after s d (u ∷ []) 0 (rebuilt_in c)
touch_blocks s d u until c is = all_after s d (u ∷ []) (page_in c) (page_in c) 0 c.blocks (λ b. unchanged (page_in c b)
    ∙ ap (λ body. option_map (block_added s (DataNode d) d b body) (page_in c b)) (sym is))
