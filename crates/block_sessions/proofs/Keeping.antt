-- Decoded blocks are kept one after the other.
use Rattle.std.proofs.Common.{◌≡◌, ◌≢◌, ℕ, suc, ◌+◌, ◌-◌, ◌<◌, ◌≤◌, Bool, true, false, List, [], ◌∷◌, length, vec_len}
use Rattle.std.proofs.Common.{map, drop, set, get_or, Option, None, Some, is_some, All, Contains, refl, sym, ap, ap₂}
use Rattle.std.proofs.Common.{◌∙◌, subst, arith}
use Rattle.std.specs.List.{remove}
use Rattle.std.specs.List.Sorted.{IsStrictlyIncreasing}
use Rattle.std.proofs.lemmas.List.Kept.{AllPairs-from_increasing}
use Rattle.std.proofs.lemmas.Bool.Decides.{nat_tests}
use Rattle.std.proofs.lemmas.List.{at_drop_more, drop_all, get_or-set_other, get_or_default, length-map}
use Rattle.group_types.specs.Dimensions.{Dimensions}
use Rattle.group_types.specs.Lists.{at, put}
use Rattle.group_types.specs.Pieces.{bytes_of, numbers_of, place_of, without}
use Rattle.group_types.specs.declared.piece_list.Piece.{Piece}
use Rattle.group_types.proofs.Lists.{put-at}
use Rattle.page_map.specs.Pages.{PageContents}
use Rattle.group_run.specs.Leaders.{decoded_of, rebuilt_block, rebuilt_unless, with_decoded}
use Rattle.group_run.specs.Process.{Gathering, LeaderState}
use Rattle.block_sessions.specs.declared.session.OpenSession.{OpenSession}
use Rattle.block_sessions.specs.Leading.{holding}
use Rattle.block_sessions.specs.Opened.{IsDecoded}
use Rattle.block_sessions.specs.Rebuilt.{AreRebuilt, HoldsBlocks, kept_unless, rebuilt_in}
use Rattle.block_sessions.proofs.Rooms.{any_rooms, one_changed, one_of_all, rebuilt_set}

-- one block kept is the machine's
kept_one : (t : Bool) (s : Dimensions) (g : Gathering) (l : ℕ) (pages : List PageContents) (old new : PageContents)
    (state : LeaderState) → l < length pages → old ≡ get_or pages l old
    → rebuilt_in new ≡ kept_unless t g.block (decoded_of s g l) (rebuilt_in old) → holding (set pages l new) state
    ≡ rebuilt_unless t s g l (holding pages state)
kept_one true s g l pages old new state below is kept = ap (λ (blocks : List (List (Option (List ℕ)))). record state { rebuilt = blocks })
    (one_changed pages l new below
    ∙ (ap (put [] (map rebuilt_in pages) l) (kept ∙ sym (one_of_all pages l old below is))
    ∙ put-at [] [] (map rebuilt_in pages) l (omega (arith, length-map pages rebuilt_in))))
kept_one false s g l pages old new state below is kept = ap (λ (blocks : List (List (Option (List ℕ)))). record state { rebuilt = blocks })
    (one_changed pages l new below ∙ ap (put [] (map rebuilt_in pages) l)
    (kept ∙ ap (λ (blocks : List (Option (List ℕ))). put None blocks g.block (Some (decoded_of s g l)))
    (sym (one_of_all pages l old below is))))

-- a loop's fact: the blocks of the first `done` lost partitions are kept, and those of the others are there
pub record AreKept (s : Dimensions) (g : Gathering) (start now : List PageContents) (out : List Piece) (done : ℕ) : Type 0 where
  pub numbers : numbers_of out ≡ drop done g.lost
  pub long : (j : ℕ) → done ≤ j → j < length g.lost → length (bytes_of out (get_or g.lost j 0)) ≡ s.block
  pub decoded : (j : ℕ) → done ≤ j → j < length g.lost → bytes_of out (get_or g.lost j 0) ≡ decoded_of s g (get_or g.lost j 0)
  pub rest : (state : LeaderState) → with_decoded s g (drop done g.lost) (holding now state) ≡ with_decoded s g g.lost (holding start state)
  pub all : (most : ℕ) → AreRebuilt s most start → AreRebuilt s (most - 1) now
  pub left : (most : ℕ) → AreRebuilt s most start → (j : ℕ) (d : PageContents) → done ≤ j → j < length g.lost
      → HoldsBlocks s most (get_or now (get_or g.lost j 0) d)

pub kept_at_first : (s : Dimensions) (g : Gathering) (start : List PageContents) (out : List Piece)
    → All (λ l. l < s.k) g.lost → IsDecoded s g out → AreKept s g start start out 0
kept_at_first s g start out below is = record {
  numbers = is.numbers;
  long = λ j _ less. is.long j 0 less;
  decoded = λ j _ less. is.decoded j 0 less;
  rest = λ state. refl;
  all = λ most rebuilt. any_rooms s most (most - 1) start (omega arith) rebuilt;
  left = λ most rebuilt j d _ less. rebuilt.each (get_or g.lost j 0) d (omega (arith, below j 0 less, rebuilt.all));
}

-- the first piece is taken
without_first : (out : List Piece) (l : ℕ) (ls : List ℕ) → numbers_of out ≡ l ∷ ls
    → record {
      numbers : numbers_of (without out l) ≡ ls;
      others : (q : ℕ) → q ≢ l → bytes_of (without out l) q
          ≡ bytes_of out q;
    }
without_first [] l ls is = absurd (omega (arith, ap length is))
without_first (p ∷ ps) l ls is = record {
  numbers = ap numbers_of taken ∙ rest;
  others = λ q apart. ap (λ (x : List Piece). bytes_of x q) taken ∙ sym (behind q (λ same. apart (sym same ∙ here)));
}
  where
    here : p.number ≡ l
    here = ap (λ (ns : List ℕ). get_or ns 0 0) is

    rest : numbers_of ps ≡ ls
    rest = ap (drop 1) is

    at_front : place_of (p ∷ ps) l ≡ 0
    at_front = grind (arith, nat_tests, here)

    taken : without (p ∷ ps) l ≡ ps
    taken = ap (remove (p ∷ ps)) at_front

    behind : (q : ℕ) → p.number ≢ q → bytes_of (p ∷ ps) q ≡ bytes_of ps q
    behind q apart = let place : place_of (p ∷ ps) q ≡ suc (place_of ps q) = grind (arith, nat_tests) in
        ap (λ i. (get_or (p ∷ ps) i (record { number = q; bytes = [] })).bytes) place

-- one more is kept
pub kept_more : (s : Dimensions) (g : Gathering) (start now : List PageContents) (out : List Piece) (done l : ℕ)
    (old new : PageContents) (bytes : List ℕ) → IsStrictlyIncreasing g.lost → done < length g.lost
    → l ≡ get_or g.lost done 0
    → AreKept s g start now out done → l < length now → old ≡ get_or now l old → bytes ≡ bytes_of out l
    → rebuilt_in new ≡ kept_unless (is_some (at None (rebuilt_in old) g.block)) g.block bytes (rebuilt_in old)
    → ((most : ℕ) → HoldsBlocks s most old → HoldsBlocks s (most - 1) new)
    → AreKept s g start (set now l new) (without out l) (done + 1)
kept_more s g start now out done l old new bytes rising less is_l is below is_old is_bytes kept holds = record {
  numbers = first.numbers;
  long = λ j from under. ap length (first.others (get_or g.lost j 0) (apart j from under)) ∙ is.long j (omega arith) under;
  decoded = λ j from under. first.others (get_or g.lost j 0) (apart j from under) ∙ is.decoded j (omega arith) under;
  rest = λ state.
      let t = is_some (rebuilt_block (holding now state) l g.block) in
      let same_test : is_some (at None (rebuilt_in old) g.block) ≡ t =
      ap (λ (blocks : List (Option (List ℕ))). is_some (at None blocks g.block))
      (sym (one_of_all now l old below is_old)) in
      let kept_now : rebuilt_in new ≡ kept_unless t g.block (decoded_of s g l) (rebuilt_in old) = kept
      ∙ ap₂ (λ (b : Bool) (bs : List ℕ). kept_unless b g.block bs (rebuilt_in old)) same_test decoded in
      ap (with_decoded s g (drop (done + 1) g.lost)) (kept_one t s g l now old new state below is_old kept_now)
      ∙ (ap (λ (x : ℕ). with_decoded s g (x ∷ drop (done + 1) g.lost) (holding now state)) is_l
      ∙ (sym (at_drop_more (λ (ls : List ℕ). with_decoded s g ls (holding now state)) g.lost done 0 less) ∙ is.rest state));
  all = λ most rebuilt. rebuilt_set now l new below s (most - 1) (is.all most rebuilt) (holds most (held most rebuilt));
  left = λ most rebuilt j d from under. subst (λ (c : PageContents). HoldsBlocks s most c)
      (sym (get_or-set_other now l (get_or g.lost j 0) new d (apart j from under)))
      (is.left most rebuilt j d (omega arith) under);
}
  where
    apart : (j : ℕ) → done + 1 ≤ j → j < length g.lost → get_or g.lost j 0 ≢ l
    apart j from under same = let up = AllPairs-from_increasing g.lost rising done j 0 (omega arith) under in omega (arith, up, same, is_l)

    first : record { numbers : numbers_of (without out l) ≡ drop (done + 1) g.lost; others : (q : ℕ) → q ≢ l → bytes_of (without out l) q ≡ bytes_of out q }
    first = without_first out l (drop (done + 1) g.lost)
        (is.numbers ∙ (at_drop_more (λ (ls : List ℕ). ls) g.lost done 0 less ∙ ap (λ x. x ∷ drop (done + 1) g.lost)
        (sym is_l)))

    decoded : bytes ≡ decoded_of s g l
    decoded = is_bytes ∙ (ap (bytes_of out) is_l ∙ (is.decoded done (omega arith) less ∙ ap (decoded_of s g) (sym is_l)))

    held : (most : ℕ) → AreRebuilt s most start → HoldsBlocks s most old
    held most rebuilt = subst (λ (c : PageContents). HoldsBlocks s most c) (sym (is_old ∙ ap (λ i. get_or now i old) is_l))
        (is.left most rebuilt done old (omega arith) less)

-- all are kept
pub all_kept : (s : Dimensions) (g : Gathering) (start now : List PageContents) (out : List Piece) (done : ℕ)
    → length g.lost ≤ done → AreKept s g start now out done → (state : LeaderState)
    → holding now state ≡ with_decoded s g g.lost (holding start state)
all_kept s g start now out done past is state = sym (ap (λ (ls : List ℕ). with_decoded s g ls (holding now state)) (drop_all done g.lost past)) ∙ is.rest state

-- the next lost partition, and its piece
pub next_lost : (done l : ℕ) {g h : OpenSession} → g ≡ h → done < vec_len g.lost → l ≡ get_or g.lost.items done l
    → (done < length h.lost.items) × (l ≡ get_or h.lost.items done 0)
next_lost done l {g} {h} same under is =
    let less : done < length h.lost.items = omega (arith, under, g.lost.ok.0, ap (λ (x : OpenSession). length x.lost.items) same) in
    (less, is ∙ (ap (λ (x : OpenSession). get_or x.lost.items done l) same ∙ get_or_default h.lost.items done l 0 less))

pub next_out : (lost : List ℕ) (out : List Piece) (done l : ℕ) → numbers_of out ≡ drop done lost → done < length lost
    → l ≡ get_or lost done 0 → Contains (numbers_of out) l
next_out lost out done l numbers less is =
    subst (λ (ns : List ℕ). Contains ns l)
    (sym (numbers
    ∙ (at_drop_more (λ (ls : List ℕ). ls) lost done 0 less ∙ ap (λ x. x ∷ drop (done + 1) lost) (sym is))))
    (0, omega arith, refl)
