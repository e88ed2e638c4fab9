-- How many have answered a ping, counted one process after the other with those whose deaths were taken.
use Rattle.std.proofs.Common.{ℕ, zero, suc, ◌≡◌, ◌≤◌, ◌+◌, ◌&&◌, ◌||◌, nat_lt, Bool, true, false, not, map, refl, ap, ◌∙◌, if◌then◌else◌, arith}
use Rattle.std.specs.Int.{from_bool}
use Rattle.std.specs.List.{range_with_len}
use Rattle.group_types.specs.Lists.{at}
use Rattle.group_types.specs.Names.{index_of, process_at}
use Rattle.membership.specs.Members.{count_dead_words, count_known_dead, knows_dead}
use Rattle.group_wire.specs.Sets.{size_of}
use Rattle.group_wire.proofs.Sizes.{sizes_are_counts}
use Rattle.group_member.specs.Showing.{counts_for, own_answerers}
use Rattle.group_member.specs.Standing.{OwnSigns, OwnWords}
use Rattle.group_member.specs.Words.{AreWords}

-- a word counts as one
abbrev counts : Bool → ℕ
counts word = if word then 1 else 0

abbrev counted : (ℕ → Bool) → ℕ → ℕ → ℕ
counted f a n = count_dead_words (map f (range_with_len a n))

as-count : (b : Bool) → from_bool b ≡ counts b
as-count true = refl
as-count false = refl

pub at-most-one : (b : Bool) → from_bool b ≤ 1
at-most-one true = omega arith
at-most-one false = omega arith

-- one more at the end of a range
at-end : (f : ℕ → Bool) (a n : ℕ) → counted f a (n + 1) ≡ counted f a n + counts (f (a + n))
at-end f a zero =
    let none : a + 0 ≡ a = omega arith in
    let same : counts (f (a + 0)) ≡ counts (f a) = ap (λ (b : ℕ). counts (f b)) none in
    omega (arith, same)
at-end f a (suc n) =
    let rest = at-end f (a + 1) n in
    let along : a + 1 + n ≡ a + suc n = omega arith in
    let more : suc n + 1 ≡ suc (n + 1) = omega arith in
    let same : counts (f (a + 1 + n)) ≡ counts (f (a + suc n)) = ap (λ (b : ℕ). counts (f b)) along in
    let long : counted f a (suc n + 1) ≡ counted f a (suc (n + 1)) = ap (counted f a) more in
    omega (arith, rest, same, long)

-- one or the other is one and not the other, or the other
one-each : (a b : Bool) → counts (a || b) ≡ counts (b && not a) + counts a
one-each true true = refl
one-each true false = refl
one-each false true = refl
one-each false false = refl

apart : (a b : ℕ → Bool) (n x : ℕ) → counted (λ y. a y || b y) x n ≡ counted (λ y. b y && not (a y)) x n + counted a x n
apart a b zero x = refl
apart a b (suc n) x =
    let here = one-each (a x) (b x) in
    let rest = apart a b n (x + 1) in
    omega (arith, here, rest)

module _ (w : OwnWords) (v : OwnSigns) (ping : ℕ) where
  -- how many of the first
  abbrev pub known_below : ℕ → ℕ
  known_below x = counted (λ y. counts_for w v ping (process_at w.shape y)) 0 x

  pub one_known : (x : ℕ) → known_below (x + 1) ≡ known_below x + counts (counts_for w v ping (process_at w.shape x))
  one_known x =
      let none : 0 + x ≡ x = omega arith in
      let same : counts (counts_for w v ping (process_at w.shape (0 + x)))
      ≡ counts (counts_for w v ping (process_at w.shape x)) =
      ap (λ (b : ℕ). counts (counts_for w v ping (process_at w.shape b))) none in
      let more = at-end (λ y. counts_for w v ping (process_at w.shape y)) 0 x in
      omega (arith, more, same)

  -- one process more is counted, or isn't
  pub more_known : (x n : ℕ) (b : Bool) → n ≡ from_bool b → b ≡ counts_for w v ping (process_at w.shape x) → known_below x + n ≡ known_below (x + 1)
  more_known x n b is same =
      let here : n ≡ counts (counts_for w v ping (process_at w.shape x)) = is ∙ as-count b ∙ ap counts same in
      let more = one_known x in
      omega (arith, here, more)

  pub all_known : AreWords w → known_below (w.shape.k + w.shape.m) ≡ size_of w.shape (own_answerers w v ping) + count_known_dead w.taken
  all_known words =
      let parts : known_below (w.shape.k + w.shape.m) ≡ size_of w.shape (own_answerers w v ping) + size_of w.shape (knows_dead w.taken) =
      apart (λ y. knows_dead w.taken (process_at w.shape y))
      (λ y. nat_lt ping (at 0 v.answered (index_of w.shape (process_at w.shape y)))) (w.shape.k + w.shape.m) 0 in
      let taken = sizes_are_counts w.shape w.taken (λ x is. words.named x (words.permitted x (words.taken x is))) in
      omega (arith, parts, taken)
