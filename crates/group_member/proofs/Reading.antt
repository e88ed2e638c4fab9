-- Functions that are changed at one process, and sets that have the same processes.
use Rattle.std.proofs.Common.{ℕ, zero, suc, ◌≡◌, ◌≢◌, ◌+◌, Bool, true, false, map, refl, ap, if◌then◌else◌, arith}
use Rattle.std.specs.List.{range_with_len}
use Rattle.group_types.specs.Dimensions.{Dimensions}
use Rattle.group_types.specs.Names.{process_at}
use Rattle.group_types.specs.declared.process.ProcessId.{ProcessId}
use Rattle.group_types.proofs.Names.{same-ne, same-refl}
use Rattle.membership.specs.Members.{Membership, count_dead_words, knows_dead, with_dead}
use Rattle.group_wire.specs.Sets.{Processes, changed, one_or, size_of}
use Rattle.group_member.proofs.Keeping.{still-known}

pub changed-here : {X : Type 0} (f : ProcessId → X) (p : ProcessId) (y : X) → changed f p y p ≡ y
changed-here f p y = ap (λ (b : Bool). one_or b y (f p)) (same-refl p)

pub changed-other : {X : Type 0} (f : ProcessId → X) (p q : ProcessId) (y : X) → q ≢ p → changed f p y q ≡ f q
changed-other f p q y other = ap (λ (b : Bool). one_or b y (f q)) (same-ne q p other)

-- a word counts as one
abbrev counts : Bool → ℕ
counts word = if word then 1 else 0

-- sets with the same processes are of one size
counted-same : (a b : ℕ → Bool) → ((x : ℕ) → a x ≡ b x) → (n x : ℕ)
    → count_dead_words (map a (range_with_len x n)) ≡ count_dead_words (map b (range_with_len x n))
counted-same a b same zero x = refl
counted-same a b same (suc n) x =
    let here : counts (a x) ≡ counts (b x) = ap counts (same x) in
    let rest = counted-same a b same n (x + 1) in
    omega (arith, here, rest)

pub size-same : (s : Dimensions) (a b : Processes) → ((q : ProcessId) → a q ≡ b q) → size_of s a ≡ size_of s b
size-same s a b same = counted-same (λ x. a (process_at s x)) (λ x. b (process_at s x)) (λ x. same (process_at s x)) (s.k + s.m) 0

-- whom the larger set doesn't have the smaller hasn't
pub unknown-before : (known : Membership) (x q : ProcessId) → knows_dead (with_dead known x) q ≡ false → knows_dead known q ≡ false
unknown-before known x q off = by (knows_dead known q) refl where
  by : (b : Bool) → knows_dead known q ≡ b → b ≡ false
  by false is = refl
  by true is = absurd (cc (off, still-known known x q is))

pub unknown-among : (a b : Membership) (q : ProcessId) → (knows_dead a q ≡ true → knows_dead b q ≡ true) → knows_dead b q ≡ false → knows_dead a q ≡ false
unknown-among a b q among off = by (knows_dead a q) refl where
  by : (c : Bool) → knows_dead a q ≡ c → c ≡ false
  by false is = refl
  by true is = absurd (cc (off, among is))
