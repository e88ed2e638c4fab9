-- The words that say dead, counted by the processes of a group.
use Rattle.std.proofs.Common.{ℕ, zero, suc, ◌≡◌, ◌<◌, ◌+◌, Bool, true, false, List, [], ◌∷◌, map, refl, sym, ap, ◌∙◌, if◌then◌else◌, arith}
use Rattle.std.specs.List.{range_with_len}
use Rattle.group_types.specs.Lists.{at}
use Rattle.group_types.specs.Names.{process_at}
use Rattle.group_types.specs.declared.process.ProcessId.TheVariants.{DataNode, ParityNode}
use Rattle.group_types.proofs.Names.{process_at-index}
use Rattle.membership.specs.Members.{count_dead_words, knows_dead}
use Rattle.group_wire.specs.Sizes.{SizesAreCounts}

-- a word counts as one
abbrev counts : Bool → ℕ
counts word = if word then 1 else 0

-- as many of a range, from here on
abbrev counted : (ℕ → Bool) → ℕ → ℕ → ℕ
counted f a n = count_dead_words (map f (range_with_len a n))

-- a range is counted in two parts
in-parts : (f : ℕ → Bool) (a n m : ℕ) → counted f a (n + m) ≡ counted f a n + counted f (a + n) m
in-parts f a zero m =
    let none : 0 + m ≡ m = omega arith in
    let same : a + 0 ≡ a = omega arith in
    let long : counted f a (0 + m) ≡ counted f a m = ap (counted f a) none in
    let moved : counted f (a + 0) m ≡ counted f a m = ap (λ (b : ℕ). counted f b m) same in
    omega (arith, long, moved)
in-parts f a (suc n) m =
    let rest = in-parts f (a + 1) n m in
    let more : suc n + m ≡ suc (n + m) = omega arith in
    let same : a + 1 + n ≡ a + suc n = omega arith in
    let long : counted f a (suc n + m) ≡ counts (f a) + counted f (a + 1) (n + m) = ap (counted f a) more in
    let moved : counted f (a + 1 + n) m ≡ counted f (a + suc n) m = ap (λ (b : ℕ). counted f b m) same in
    omega (arith, rest, long, moved)

-- words of which none says dead
none-dead : (words : List Bool) → ((i : ℕ) → at false words i ≡ true → i < 0) → count_dead_words words ≡ 0
none-dead [] none = refl
none-dead (true ∷ words) none = absurd (omega (arith, none 0 refl))
none-dead (false ∷ words) none = let rest = none-dead words (λ i dead. absurd (omega (arith, none (suc i) dead))) in omega (arith, rest)

-- a range is counted by the words
by-words : (f : ℕ → Bool) (words : List Bool) (a n : ℕ) → ((i : ℕ) → i < n → f (a + i) ≡ at false words i) → ((i : ℕ) → at false words i ≡ true → i < n)
    → count_dead_words (map f (range_with_len a n)) ≡ count_dead_words words
by-words f [] a zero same within = refl
by-words f [] a (suc n) same within =
    let here : counts (f a) ≡ 0 = ap counts (ap f (omega arith) ∙ same 0 (omega arith)) in
    let rest = by-words f [] (a + 1) n (λ i below. ap f (omega arith) ∙ same (suc i) (omega (arith, below))) (λ i dead. absurd (cc dead)) in
    omega (arith, here, rest)
by-words f (word ∷ words) a zero same within = sym (none-dead (word ∷ words) within)
by-words f (word ∷ words) a (suc n) same within =
    let here : counts (f a) ≡ counts word = ap counts (ap f (omega arith) ∙ same 0 (omega arith)) in
    let rest = by-words f words (a + 1) n (λ i below. ap f (omega arith) ∙ same (suc i) (omega (arith, below)))
    (λ i dead. omega (arith, within (suc i) dead)) in
    omega (arith, here, rest)

pub sizes_are_counts : SizesAreCounts
sizes_are_counts s known named =
    let set : ℕ → Bool = λ x. knows_dead known (process_at s x) in
    let parts = in-parts set 0 s.k s.m in
    let values = by-words set known.data_dead 0 s.k
    (λ i below. ap set (omega arith) ∙ ap (knows_dead known) (process_at-index s (DataNode i) below)) (λ i dead. named (DataNode i) dead) in
    let codes = by-words set known.parity_dead (0 + s.k) s.m
    (λ i below. ap set (omega arith) ∙ ap (knows_dead known) (process_at-index s (ParityNode i) below)) (λ i dead. named (ParityNode i) dead) in
    omega (arith, parts, values, codes)
