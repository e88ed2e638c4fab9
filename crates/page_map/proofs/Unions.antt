-- Pages taken out, pages that a range lacks, and pages taken over from others.
use Rattle.std.proofs.Common.{◌≡◌, ◌≢◌, ℕ, ◌+◌, ◌-◌, ◌*◌, ◌/◌, ◌<◌, ◌≤◌, List, [], ◌∷◌, ◌++◌, length, replicate, Some}
use Rattle.std.proofs.Common.{None, IsSome, IfSome, is_some, Option, option_to_list, refl, sym, ap, ◌∙◌, subst, inl}
use Rattle.std.proofs.Common.{inr, arith}
use Rattle.std.proofs.Math.Nat.{div-mul-le_self, div-lt_iff_lt-mul, mul-le-mul_right, mul-div_left}
use Rattle.std.proofs.lemmas.Nat.{le-div}
use Rattle.std.proofs.lemmas.List.{get_or_append_left, get_or_at, length-append}
use Rattle.std.proofs.lemmas.Bool.{cases_eq, cases_lt, true≢false}
use Rattle.std.proofs.lemmas.Bool.Decides.{nat_tests}
use Rattle.page_map.specs.declared.page.Page.{Page}
use Rattle.page_map.specs.Pages.{PageContents, no_pages, look_up, page_in, pages_made, HasPage, SameDimensions, PlacesOnly}
use Rattle.page_map.specs.Pages.{MakesZeros, IsTakenOut, IsUnion, AreMissing, HasPages}
use Rattle.page_map.specs.Order.{page_at, ArePages}
use Rattle.page_map.proofs.Places.{look_up_absent}

pub none_unless : (o : Option (List ℕ)) → ¬ (IsSome o) → o ≡ None
none_unless None un = refl
none_unless (Some x) un = absurd (un refl)

some_not_none : (o : Option (List ℕ)) → IsSome o → o ≡ None → ⊥
some_not_none o some none = true≢false (sym some ∙ ap is_some none)

look_up-end : (ps : List Page) (p : Page) (q : ℕ) → q ≢ p.number → look_up (ps ++ p ∷ []) q ≡ look_up ps q
look_up-end [] p q apart = grind (arith, nat_tests)
look_up-end (x ∷ ps) p q apart = grind (arith, nat_tests, look_up-end ps p q apart)

look_up_last : (ps : List Page) (p : Page) → look_up ps p.number ≡ None → look_up (ps ++ p ∷ []) p.number ≡ Some p.bytes
look_up_last [] p none = grind (arith, nat_tests)
look_up_last (x ∷ ps) p none = grind (arith, nat_tests, look_up_last ps p)

-- the last page taken out
pub taken_out : (blocks block room room' : ℕ) (old new : List Page) (r : Option Page) → ArePages blocks block old → old ≡ new ++ option_to_list r
    → IfSome r (IsTakenOut (record { blocks = blocks; block = block; pages = old; room = room })
    (record { blocks = blocks; block = block; pages = new; room = room' }))
taken_out blocks block room room' old new None pages is = tt
taken_out blocks block room room' old new (Some p) pages is =
    let pages' : ArePages blocks block (new ++ p ∷ []) = subst (ArePages blocks block) is pages in
    let last : page_at (new ++ p ∷ []) (length new) ≡ p = get_or_at new p [] (record { number = 0; bytes = [] }) (length new) refl in
    let long = length-append new (p ∷ []) in
    let none : look_up new p.number ≡ None = look_up_absent new p.number (λ j below same.
    let rise = pages'.sorted j (length new) below (omega arith) in
    let left = get_or_append_left new (p ∷ []) (record { number = 0; bytes = [] }) j below in
    let lower : (page_at (new ++ p ∷ []) j).number < p.number = subst (λ (x : Page). (page_at (new ++ p ∷ []) j).number < x.number) last rise in
    let less : (page_at new j).number < p.number = subst (λ (x : Page). x.number < p.number) left lower in
    omega (arith, same, less)) in
    record {
      taken = rw is (look_up_last new p none);
      gone = none;
      others = λ q apart. rw is (sym (look_up-end new p q apart));
      below = subst (λ (x : Page). x.number < blocks) last (pages'.below (length new) (omega arith));
      whole = subst (λ (x : Page). length x.bytes ≡ block) last (pages'.whole (length new) (omega arith));
      fewer = rw is (sym long);
      dimensions = record { blocks = refl; block = refl };
    }

-- a loop's fact: fresh pages of zeros for the blocks from `first` to below `next` that have none
pub record AreFresh (old fresh : PageContents) (first next : ℕ) : Type 0 where
  pub dimensions : SameDimensions old fresh
  pub from : first ≤ next
  pub zero : (b : ℕ) → first ≤ b → b < next → page_in old b ≡ None → page_in fresh b ≡ Some (replicate old.block 0)
  pub there : (b : ℕ) → HasPage old b → page_in fresh b ≡ None
  pub before : (b : ℕ) → b < first → page_in fresh b ≡ None
  pub after : (b : ℕ) → next ≤ b → page_in fresh b ≡ None

pub fresh_skipped : (old fresh : PageContents) (first next : ℕ) → AreFresh old fresh first next → HasPage old next → AreFresh old fresh first (next + 1)
fresh_skipped old fresh first next is has = record {
  dimensions = is.dimensions;
  from = omega (arith, is.from);
  zero = λ b from below none. elim (cases_eq b next) [
    | inl same ↦ absurd (some_not_none (page_in old next) has (subst (λ k. page_in old k ≡ None) same none))
    | inr apart ↦ is.zero b from (omega (arith, apart)) none
  ];
  there = is.there;
  before = is.before;
  after = λ b past. is.after b (omega arith);
}

pub fresh_placed : (old fresh new : PageContents) (first next : ℕ) → AreFresh old fresh first next → page_in old next ≡ None
    → PlacesOnly fresh new next (replicate old.block 0) → SameDimensions fresh new → AreFresh old new first (next + 1)
fresh_placed old fresh new first next is none placed same = record {
  dimensions = record { blocks = same.blocks ∙ is.dimensions.blocks; block = same.block ∙ is.dimensions.block };
  from = omega (arith, is.from);
  zero = λ b from below lacks. elim (cases_eq b next) [
    | inl here ↦ rw here placed.placed
    | inr apart ↦ placed.others b apart ∙ is.zero b from (omega (arith, apart)) lacks
  ];
  there = λ b has. elim (cases_eq b next) [
    | inl here ↦ absurd (some_not_none (page_in old next) (subst (λ k. HasPage old k) here has) none)
    | inr apart ↦ placed.others b apart ∙ is.there b has
  ];
  before = λ b below. placed.others b (λ here. omega (arith, here)) ∙ is.before b below;
  after = λ b past. placed.others b (λ here. omega (arith, here)) ∙ is.after b (omega arith);
}

-- a lower address lies in no later block
pub same_or_earlier : (a c block : ℕ) → 0 < block → a ≤ c → a / block ≤ c / block
same_or_earlier a c block some le = le-div (a / block) c block some (omega (arith, div-mul-le_self a block))

-- a block between those of two addresses has an address between them
pub meets_between : (at last block b : ℕ) → 0 < block → at / block ≤ b → b < last / block + 1 → at ≤ last → (a : ℕ) × (at ≤ a) × (a ≤ last) × (a / block ≡ b)
meets_between at last block b some from to le = elim (cases_lt (b * block) at) [
  | inl lower ↦ (at, omega arith, le, omega (arith, le-div b at block some (omega arith)))
  | inr higher ↦
      let below : b ≤ last / block = omega arith in
      (b * block, higher, omega (arith, mul-le-mul_right block below, div-mul-le_self last block), mul-div_left b some)
]

pub block_within : (a blocks block : ℕ) → 0 < block → a < blocks * block → a / block < blocks
block_within a blocks block some within = (div-lt_iff_lt-mul some).1 within

pub missing_nowhere : (old : PageContents) (at len : ℕ) → len ≡ 0 → AreMissing old (no_pages old.blocks old.block) at len
missing_nowhere old at len none = record {
  zero = λ b meets _. absurd (omega (arith, none, meets.1, meets.2));
  there = λ b _. refl;
  others = λ b _. refl;
  dimensions = record { blocks = refl; block = refl };
}

pub missing_after : (old fresh : PageContents) (at len : ℕ) → 0 < old.block → 0 < len
    → AreFresh old fresh (at / old.block) ((at + len - 1) / old.block + 1) → AreMissing old fresh at len
missing_after old fresh at len long some is = record {
  zero = λ b meets none.
      let first = same_or_earlier at meets.0 old.block long meets.1 in
      let last = same_or_earlier meets.0 (at + len - 1) old.block long (omega (arith, meets.2)) in
      is.zero b (omega (arith, first, meets.3)) (omega (arith, last, meets.3)) none;
  there = is.there;
  others = λ b apart. elim (cases_lt b (at / old.block)) [
    | inl before ↦ is.before b before
    | inr from ↦ elim (cases_lt b ((at + len - 1) / old.block + 1)) [
      | inl below ↦
          let met = meets_between at (at + len - 1) old.block b long from below (omega arith) in
          absurd (apart (met.0, met.1, omega (arith, met.2), met.3))
      | inr past ↦ is.after b past
    ]
  ];
  dimensions = is.dimensions;
}

-- the first that is there
abbrev pub or_else : Option (List ℕ) → Option (List ℕ) → Option (List ℕ)
or_else None o = o
or_else (Some x) o = Some x

-- a loop's fact: what the others had is here or still there
pub record AreMoving (all start others now : PageContents) : Type 0 where
  pub union : (b : ℕ) → or_else (page_in others b) (page_in now b) ≡ or_else (page_in all b) (page_in start b)
  pub apart : (b : ℕ) → HasPage others b → page_in now b ≡ None
  pub room : now.room + pages_made all ≡ start.room + pages_made others
  pub enough : pages_made others ≤ now.room
  pub from : SameDimensions start now
  pub to : SameDimensions now others

pub moving_at_first : (all start : PageContents) → ((b : ℕ) → HasPage all b → page_in start b ≡ None)
    → pages_made all ≤ start.room → SameDimensions start all → AreMoving all start all start
moving_at_first all start apart enough same = record {
  union = λ b. refl;
  apart = apart;
  room = refl;
  enough = enough;
  from = record { blocks = refl; block = refl };
  to = same;
}

pub moving_more : (all start others now others' now' : PageContents) (p : Page) → AreMoving all start others now
    → IsTakenOut others others' p → PlacesOnly now now' p.number p.bytes → SameDimensions now now'
    → now'.room ≡ now.room - 1
    → AreMoving all start others' now'
moving_more all start others now others' now' p is taken placed same room = record {
  union = λ b. elim (cases_eq b p.number) [
    | inl here ↦
        let old : or_else (Some p.bytes) (page_in now b) ≡ or_else (page_in all b) (page_in start b) =
        subst (λ o. or_else o (page_in now b) ≡ or_else (page_in all b) (page_in start b)) {y = Some p.bytes}
        (rw here taken.taken) (is.union b) in
        rw (here, taken.gone, placed.placed) (subst (λ k. Some p.bytes ≡ or_else (page_in all k) (page_in start k)) here old)
    | inr apart ↦ rw (taken.others b apart, placed.others b apart) (is.union b)
  ];
  apart = λ b has. elim (cases_eq b p.number) [
    | inl here ↦ absurd (some_not_none (page_in others' p.number) (subst (λ k. HasPage others' k) here has) taken.gone)
    | inr apart ↦ placed.others b apart ∙ is.apart b (subst (λ o. IsSome o) (taken.others b apart) has)
  ];
  room = omega (arith, is.room, is.enough, taken.fewer, room);
  enough = omega (arith, is.enough, taken.fewer, room);
  from = record { blocks = same.blocks ∙ is.from.blocks; block = same.block ∙ is.from.block };
  to = record { blocks = taken.dimensions.blocks ∙ (is.to.blocks ∙ sym same.blocks); block = taken.dimensions.block ∙ (is.to.block ∙ sym same.block) };
}

no_page : (c : PageContents) (b : ℕ) → pages_made c ≡ 0 → page_in c b ≡ None
no_page c b none = look_up_absent c.pages b (λ j below. absurd (omega arith))

first_of : (o o' : Option (List ℕ)) → IsSome o → or_else o o' ≡ o
first_of None o' some = absurd (true≢false (sym some))
first_of (Some x) o' some = refl

pub moved : (all start others now : PageContents) → AreMoving all start others now → pages_made others ≡ 0 → IsUnion all start now
moved all start others now is none =
    let here : (b : ℕ) → page_in now b ≡ or_else (page_in all b) (page_in start b) =
    λ b. subst (λ o. or_else o (page_in now b) ≡ or_else (page_in all b) (page_in start b)) (no_page others b none)
    (is.union b) in
    record {
      added = λ b has. here b ∙ first_of (page_in all b) (page_in start b) has;
      kept = λ b lacks. here b ∙ ap (λ o. or_else o (page_in start b)) lacks;
    }

-- what a range lacks, taken over, is what reserving it makes
pub reserved : (old fresh now new : PageContents) (at len : ℕ) → AreMissing old fresh at len
    → ((b : ℕ) → page_in now b ≡ page_in old b) → IsUnion fresh now new → MakesZeros old new at len
reserved old fresh now new at len missing same union = record {
  zero = λ b meets none. let is = missing.zero b meets none in union.added b (ap is_some is) ∙ is;
  there = λ b has. union.kept b (missing.there b has) ∙ same b;
  others = λ b apart. union.kept b (missing.others b apart) ∙ same b;
}

pub missing_apart : (old fresh : PageContents) (at len b : ℕ) → AreMissing old fresh at len → HasPage fresh b → page_in old b ≡ None
missing_apart old fresh at len b missing has = none_unless (page_in old b) (λ there. some_not_none (page_in fresh b) has (missing.there b there))

pub all_there : (old new : PageContents) (at len : ℕ) → new.block ≡ old.block → MakesZeros old new at len → HasPages new at len
all_there old new at len same made a from below = rw same (met (page_in old (a / old.block)) refl)
  where
    met : (o : Option (List ℕ)) → page_in old (a / old.block) ≡ o → HasPage new (a / old.block)
    met None none = ap is_some (made.zero (a / old.block) (a, from, below, refl) none)
    met (Some x) some = ap is_some (made.there (a / old.block) (ap is_some some) ∙ some)
