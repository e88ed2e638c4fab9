use Rattle.std.proofs.Common.{◌≡◌, ◌⊎◌, inl, inr, Bool, true, false, Option, Some, None, option_map, option_and_then, if◌then◌else◌, refl}

-- what was read first, and what came of it
pub bound : {A B : Type 0} (o : Option A) (f : A → Option B) (y : B) → option_and_then f o ≡ Some y → (x : A) × (o ≡ Some x) × (f x ≡ Some y)
bound None f y is = cc is
bound (Some x) f y is = (x, refl, is)

-- what was read, of which this was made
pub mapped : {A B : Type 0} (g : A → B) (o : Option A) (y : B) → option_map g o ≡ Some y → (x : A) × (o ≡ Some x) × (g x ≡ y)
mapped g None y is = cc is
mapped g (Some x) y is = (x, refl, cc is)

-- the branch of a test that gave it
pub chosen : {A : Type 0} (b : Bool) (x y : Option A) (z : A) → (if b then x else y) ≡ Some z → (x ≡ Some z) ⊎ (y ≡ Some z)
chosen true x y z is = inl is
chosen false x y z is = inr is

-- the test that was passed
pub passed : {A : Type 0} (b : Bool) (x : Option A) (z : A) → (if b then x else None) ≡ Some z → (b ≡ true) × (x ≡ Some z)
passed true x z is = (refl, is)
passed false x z is = cc is
