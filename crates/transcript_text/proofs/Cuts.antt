-- A text is cut at the first of a byte in one way.
use Rattle.std.specs.Borrow.{Bor}
use Rattle.std.specs.Prelude.{IsTrue, ◌↔◌, MatchOption}
use Rattle.std.proofs.Common.{Bool, true, false, length, ◌==◌, Option, Some, None, ◌≡◌, ◌≢◌, ◌<◌, ℕ, List, [], ◌∷◌, ◌++◌, refl, sym, ap, arith}
use Rattle.std.proofs.lemmas.Bool.Decides.{nat_tests}
use Rattle.std.proofs.lemmas.List.Elements.{All-head, All-tail}
use Rattle.transcript_text.specs.Reading.{Lacks, IsBehind}

pub Lacks-head : (b x : ℕ) (xs : List ℕ) → Lacks b (x ∷ xs) → x ≢ b
Lacks-head b x xs lacks = All-head (λ y. y ≢ b) x xs lacks

pub Lacks-tail : (b x : ℕ) (xs : List ℕ) → Lacks b (x ∷ xs) → Lacks b xs
Lacks-tail b x xs lacks = All-tail (λ y. y ≢ b) x xs lacks

-- the byte stands in the text
pub there : (b : ℕ) (xs us : List ℕ) → ¬ (Lacks b (xs ++ b ∷ us))
there b [] us lacks = Lacks-head b b us lacks refl
there b (x ∷ xs) us lacks = there b xs us (Lacks-tail b x (xs ++ b ∷ us) lacks)

-- the front that lacks the byte, and what is behind the byte
pub cut_same : (b : ℕ) (xs ys us vs : List ℕ) → Lacks b xs → Lacks b ys → xs ++ b ∷ us ≡ ys ++ b ∷ vs → (xs ≡ ys) × (us ≡ vs)
cut_same b [] [] us vs lx ly e = (refl, cc e)
cut_same b [] (y ∷ ys) us vs lx ly e = absurd (Lacks-head b y ys ly (cc e))
cut_same b (x ∷ xs) [] us vs lx ly e = absurd (Lacks-head b x xs lx (cc e))
cut_same b (x ∷ xs) (y ∷ ys) us vs lx ly e =
    let head : x ≡ y = cc e in
    let tail : xs ++ b ∷ us ≡ ys ++ b ∷ vs = cc e in
    let rest = cut_same b xs ys us vs (Lacks-tail b x xs lx) (Lacks-tail b y ys ly) tail in
    let r = rest.0 in
    (cc (head, r), rest.1)

-- what is behind a front that is taken off
pub behind-strip : (front text : List ℕ) (o : Option (Bor (List ℕ)))
    → MatchOption o ((rest : List ℕ) → text ≢ front ++ rest) (λ x. text ≡ front ++ x.now) → IsBehind front text o
behind-strip front text (Some rest) is = is
behind-strip front text None is = is

-- a test of the length says whether a list is empty
pub empty-test : (xs : List ℕ) (b : Bool) → b ≡ (length xs == 0) → IsTrue b ↔ (xs ≡ [])
empty-test [] b is = (λ told. refl, λ none. is)
empty-test (x ∷ xs) false is = (λ told. absurd (cc told), λ none. cc none)
empty-test (x ∷ xs) true is = absurd (grind (arith, nat_tests, is))

pub some-test : (xs : List ℕ) (b : Bool) → b ≡ (length xs == 0) → b ≡ false → 0 < length xs
some-test [] b is other = cc (is, other)
some-test (x ∷ xs) b is other = omega arith
