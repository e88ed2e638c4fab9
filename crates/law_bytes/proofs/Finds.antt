-- Lists: what is found in them, and each of their members.
use Rattle.std.proofs.Common.{◌≡◌, Bool, true, false, List, [], ◌∷◌, ◌++◌, map, find, cond, Option, Some, None, IfSome, refl, subst, ℕ, zero, suc, ◌<◌, take}
use Rattle.group_types.specs.Each.{Each}
use Rattle.group_types.proofs.Eaches.{each-take}
use Rattle.law_bytes.specs.Decoding.{Rising}

-- what is found passes the test, and what is said of each member is said of it
pub found-each : {X : Type 0} (test : X → Bool) (P : X → Type 0) (xs : List X) (x : X) → find test xs ≡ Some x → Each P xs → (test x ≡ true) × P x
found-each test P [] x is all = absurd (cc is)
found-each test P (y ∷ ys) x is all = by (test y) refl is (λ there. found-each test P ys x there all.1) where
  by : (b : Bool) → test y ≡ b → cond b (Some y) (find test ys) ≡ Some x → (find test ys ≡ Some x → (test x ≡ true) × P x) → (test x ≡ true) × P x
  by true passes here later = let same : y ≡ x = cc here in (subst (λ z. test z ≡ true) same passes, subst P same all.0)
  by false fails there later = later there

-- of the first that is found in a list or is put behind it
pub found-behind : {X : Type 0} (test : X → Bool) (P : X → Type 0) (xs : List X) (y : X) → IfSome (find test xs) P → P y → IfSome (find test (xs ++ y ∷ [])) P
found-behind test P [] y front last = by (test y) where
  by : (b : Bool) → IfSome (cond b (Some y) None) P
  by true = last
  by false = tt
found-behind test P (x ∷ xs) y front last = by (test x) front (λ there. found-behind test P xs y there last) where
  by : (b : Bool) → IfSome (cond b (Some x) (find test xs)) P
      → (IfSome (find test xs) P → IfSome (find test (xs ++ y ∷ [])) P)
      → IfSome (cond b (Some x) (find test (xs ++ y ∷ []))) P
  by true here later = here
  by false there later = later there

-- of the first that is found among turned members
pub found-map : {X : Type 0} (test : X → Bool) (P : X → Type 0) (f : X → X) (xs : List X) → ((x : X) → test (f x) ≡ test x) → ((x : X) → P x → P (f x))
    → IfSome (find test xs) P → IfSome (find test (map f xs)) P
found-map test P f [] same turns front = tt
found-map test P f (x ∷ xs) same turns front = by (test x) (test (f x)) (same x) front (λ there. found-map test P f xs same turns there) where
  by : (b c : Bool) → c ≡ b → IfSome (cond b (Some x) (find test xs)) P
      → (IfSome (find test xs) P → IfSome (find test (map f xs)) P)
      → IfSome (cond c (Some (f x)) (find test (map f xs))) P
  by true true is here later = turns x here
  by false false is there later = later there
  by true false is here later = absurd (cc is)
  by false true is here later = absurd (cc is)

-- where nothing is found no member passes
pub found-none : {X : Type 0} (test : X → Bool) (xs : List X) → find test xs ≡ None → Each (λ x. test x ≡ false) xs
found-none test [] none = tt
found-none test (x ∷ xs) none = by (test x) refl none (λ there. found-none test xs there) where
  by : (b : Bool) → test x ≡ b → cond b (Some x) (find test xs) ≡ None
      → (find test xs ≡ None → Each (λ x. test x ≡ false) xs) → Each (λ x. test x ≡ false) (x ∷ xs)
  by true passes here later = absurd (cc here)
  by false fails there later = (fails, later there)

-- of what is found, from each member that passes
pub found-if : {X : Type 0} (test : X → Bool) (P : X → Type 0) (xs : List X) → Each (λ x. test x ≡ true → P x) xs → IfSome (find test xs) P
found-if test P [] all = tt
found-if test P (x ∷ xs) all = by (test x) refl (found-if test P xs all.1) where
  by : (b : Bool) → test x ≡ b → IfSome (find test xs) P → IfSome (cond b (Some x) (find test xs)) P
  by true passes later = all.0 passes
  by false fails later = later

pub if-some : {X : Type 0} (P : X → Type 0) (o : Option X) (x : X) → o ≡ Some x → IfSome o P → P x
if-some P None x is holds = absurd (cc is)
if-some P (Some y) x is holds = let same : y ≡ x = cc is in subst P same holds

pub if-weaker : {X : Type 0} (P Q : X → Type 0) → ((x : X) → P x → Q x) → (o : Option X) → IfSome o P → IfSome o Q
if-weaker P Q turn None holds = tt
if-weaker P Q turn (Some x) holds = turn x holds

pub rising-take : (n : ℕ) (xs : List ℕ) → Rising xs → Rising (take n xs)
rising-take zero xs rises = tt
rising-take (suc n) [] rises = tt
rising-take (suc n) (x ∷ xs) rises = (each-take (λ y. x < y) n xs rises.0, rising-take n xs rises.1)
