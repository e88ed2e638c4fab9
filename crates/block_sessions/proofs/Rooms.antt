-- Room for further pages, and the rebuilt blocks of all partitions.
use Rattle.std.proofs.Common.{◌≡◌, ℕ, zero, suc, ◌+◌, ◌<◌, ◌≤◌, ◌==◌, ◌||◌, max, List, [], ◌∷◌, ◌++◌, length, map, take}
use Rattle.std.proofs.Common.{drop, set, get_or, replicate, None, refl, sym, ap, ap₂, ◌∙◌, arith}
use Rattle.std.specs.List.{list_any}
use Rattle.std.proofs.lemmas.List.{length-append, length-drop, length-map, length-replicate, length-set, length-take}
use Rattle.std.proofs.lemmas.List.{map-append, map-set, set-get_or, take-append-drop, get_or_default}
use Rattle.std.proofs.lemmas.List.Edits.{map_over_more}
use Rattle.std.proofs.lemmas.List.Elements.{All-append, All-drop, All-map, All-replicate, All-set, All-take, All-weaker}
use Rattle.group_types.specs.Dimensions.{Dimensions}
use Rattle.group_types.specs.Lists.{at, put}
use Rattle.group_types.proofs.Lists.{at-map, at_index, set_put}
use Rattle.page_map.specs.Pages.{PageContents, no_pages, page_in}
use Rattle.block_sessions.specs.declared.session.OpenSession.{OpenSession}
use Rattle.block_sessions.specs.Opened.{gathering_of}
use Rattle.block_sessions.specs.Rebuilt.{AreRebuilt, HoldsBlocks, rebuilt_in}
use Rattle.block_sessions.proofs.Arrived.{all_none}

-- pages with room for at least so many more
abbrev pub with_room : ℕ → PageContents → PageContents
with_room count c = record c { room = max c.room count }

pub any_room : (s : Dimensions) (most less : ℕ) (c : PageContents) → less ≤ most → HoldsBlocks s most c → HoldsBlocks s less c
any_room s most less c le holds = record {
  long = holds.long;
  blocks = holds.blocks;
  block = holds.block;
  room = omega (arith, le, holds.room);
  whole = holds.whole;
}

pub any_rooms : (s : Dimensions) (most less : ℕ) (pages : List PageContents) → less ≤ most → AreRebuilt s most pages → AreRebuilt s less pages
any_rooms s most less pages le is =
    record {
      all = is.all;
      each = All-weaker (HoldsBlocks s most) (HoldsBlocks s less)
          (λ c holds. any_room s most less c le holds) pages is.each;
    }

roomy_holds : (s : Dimensions) (most count : ℕ) (c : PageContents) → HoldsBlocks s most c → HoldsBlocks s most (with_room count c)
roomy_holds s most count c holds = record {
  long = holds.long;
  blocks = holds.blocks;
  block = holds.block;
  room = omega (arith, holds.room);
  whole = holds.whole;
}

room_made : (s : Dimensions) (most count : ℕ) (c : PageContents) → most ≤ count → HoldsBlocks s 0 c → HoldsBlocks s most (with_room count c)
room_made s most count c le holds = record { long = holds.long; blocks = holds.blocks; block = holds.block; room = omega (arith, le); whole = holds.whole }

same_blocks : (count : ℕ) (pages : List PageContents) → map rebuilt_in (map (with_room count) pages) ≡ map rebuilt_in pages
same_blocks count [] = refl
same_blocks count (c ∷ cs) = ap (λ l. rebuilt_in c ∷ l) (same_blocks count cs)

abbrev pub roomy_to : ℕ → ℕ → List PageContents → List PageContents
roomy_to count i pages = map (with_room count) (take i pages) ++ drop i pages

module _ (count i : ℕ) (pages : List PageContents) where
  pub same_blocks_to : map rebuilt_in (roomy_to count i pages) ≡ map rebuilt_in pages
  same_blocks_to =
      map-append rebuilt_in (map (with_room count) (take i pages)) (drop i pages)
      ∙ (ap (λ l. l ++ map rebuilt_in (drop i pages)) (same_blocks count (take i pages))
      ∙ (sym (map-append rebuilt_in (take i pages) (drop i pages)) ∙ ap (map rebuilt_in) (take-append-drop i pages)))

  as_many : length (roomy_to count i pages) ≡ length pages
  as_many = omega (
    arith,
    length-append (map (with_room count) (take i pages)) (drop i pages),
    length-map (take i pages) (with_room count),
    length-take i pages,
    length-drop i pages,
  )

  pub rebuilt_to : (s : Dimensions) (most : ℕ) → AreRebuilt s most pages → AreRebuilt s most (roomy_to count i pages)
  rebuilt_to s most is = record {
    all = as_many ∙ is.all;
    each = All-append (HoldsBlocks s most) (map (with_room count) (take i pages)) (drop i pages)
        (All-map (HoldsBlocks s most) (with_room count) (take i pages)
        (All-take (λ c. HoldsBlocks s most (with_room count c)) i pages
        (All-weaker (HoldsBlocks s most) (λ c. HoldsBlocks s most (with_room count c)) (roomy_holds s most count)
        pages is.each)))
        (All-drop (HoldsBlocks s most) i pages is.each);
  }

  pub rebuilt_all : (s : Dimensions) (most : ℕ) → length pages ≤ i → most ≤ count → AreRebuilt s 0 pages → AreRebuilt s most (roomy_to count i pages)
  rebuilt_all s most past le is = record {
    all = as_many ∙ is.all;
    each = All-append (HoldsBlocks s most) (map (with_room count) (take i pages)) (drop i pages)
        (All-map (HoldsBlocks s most) (with_room count) (take i pages)
        (All-take (λ c. HoldsBlocks s most (with_room count c)) i pages
        (All-weaker (HoldsBlocks s 0) (λ c. HoldsBlocks s most (with_room count c))
        (λ c holds. room_made s most count c le holds) pages is.each)))
        (λ k d below. absurd (omega (arith, length-drop i pages)));
  }

-- nothing is rebuilt at first
none_rebuilt : (blocks block : ℕ) → rebuilt_in (no_pages blocks block) ≡ replicate blocks None
none_rebuilt blocks block = all_none (page_in (no_pages blocks block)) 0 blocks (λ b. refl)

pub all_unbuilt : (k blocks block : ℕ) → map rebuilt_in (replicate k (no_pages blocks block)) ≡ replicate k (replicate blocks None)
all_unbuilt zero blocks block = refl
all_unbuilt (suc k) blocks block = ap₂ (λ x xs. x ∷ xs) (none_rebuilt blocks block) (all_unbuilt k blocks block)

pub rebuilt_at_first : (s : Dimensions) → 0 < s.block → AreRebuilt s 0 (replicate s.k (no_pages s.blocks s.block))
rebuilt_at_first s long = record {
  all = length-replicate s.k (no_pages s.blocks s.block);
  each = All-replicate (HoldsBlocks s 0) s.k (no_pages s.blocks s.block)
      (record { long = long; blocks = refl; block = refl; room = omega arith; whole = λ b. tt });
}

-- the blocks of one partition among all
module _ (pages : List PageContents) (d : ℕ) (c : PageContents) (below : d < length pages) where
  pub one_of_all : c ≡ get_or pages d c → at [] (map rebuilt_in pages) d ≡ rebuilt_in c
  one_of_all is = at-map c [] rebuilt_in pages d below ∙ ap rebuilt_in (at_index c c pages d below ∙ sym is)

  pub one_changed : map rebuilt_in (set pages d c) ≡ put [] (map rebuilt_in pages) d (rebuilt_in c)
  one_changed = map-set rebuilt_in pages d c ∙ set_put [] (map rebuilt_in pages) d (rebuilt_in c) (omega (arith, length-map pages rebuilt_in))

  pub rebuilt_set : (s : Dimensions) (most : ℕ) → AreRebuilt s most pages → HoldsBlocks s most c → AreRebuilt s most (set pages d c)
  rebuilt_set s most is holds = record { all = length-set pages d c ∙ is.all; each = All-set (HoldsBlocks s most) pages d c holds is.each }

-- a test of the sessions
pub any_open : (block : ℕ) (sessions : List OpenSession) → list_any (λ g. g.block == block) sessions
    ≡ list_any (λ g. g.block == block) (map gathering_of sessions)
any_open block [] = refl
any_open block (g ∷ gs) = ap (λ t. g.block == block || t) (any_open block gs)

pub set_same : {X : Type 0} (xs : List X) (i : ℕ) (d y : X) → y ≡ get_or xs i d → set xs i y ≡ xs
set_same xs i d y same = ap (set xs i) same ∙ set-get_or xs i d

pub roomy_more : (count i : ℕ) (pages now : List PageContents) (d : PageContents) → i < length pages
    → now ≡ roomy_to count i pages → set now i (with_room count (get_or now i d)) ≡ roomy_to count (i + 1) pages
roomy_more count i pages now d below is =
    let long : length now ≡ length pages = ap length is ∙ as_many count i pages in
    map_over_more (with_room count) pages now i (get_or now i d) below is (sym (get_or_default now i (get_or now i d) d (omega arith)))
