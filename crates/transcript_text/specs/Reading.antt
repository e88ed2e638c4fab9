-- What reading a text gives: the one thing that has the text, or nothing where no such thing has it.
use Rattle.std.specs.Borrow.{Bor}
use Rattle.std.specs.Prelude.{ℕ, ◌≡◌, ◌≢◌, ◌++◌, ◌∷◌, List, All, Option, Some, None}

-- a word is read as x, which is within its limits and has this text; nothing is read where no such x has it
abbrev pub ReadsAs : {X : Type 0} → (X → Type 0) → (X → List ℕ) → List ℕ → Option X → Type 0
ReadsAs Fits text word (Some x) = Fits x × (text x ≡ word)
ReadsAs Fits text word None = (x : _) → Fits x → text x ≢ word

-- the same of the front of a line, with what is behind it
abbrev pub ReadsFront : {X : Type 0} → (X → Type 0) → (X → List ℕ) → List ℕ → Option (X × Bor (List ℕ)) → Type 0
ReadsFront Fits text line (Some (x, rest)) = Fits x × (text x ++ rest.now ≡ line)
ReadsFront Fits text line None = (x : _) (rest : List ℕ) → Fits x → text x ++ rest ≢ line

-- what is behind a front, where the text has it
abbrev pub IsBehind : List ℕ → List ℕ → Option (Bor (List ℕ)) → Type 0
IsBehind front text (Some rest) = text ≡ front ++ rest.now
IsBehind front text None = (rest : List ℕ) → text ≢ front ++ rest

-- a text lacks a byte
abbrev pub Lacks : ℕ → List ℕ → Type 0
Lacks byte text = All (λ b. b ≢ byte) text

-- a text is cut at the first such byte
abbrev pub IsSplitAt : ℕ → List ℕ → Option (Bor (List ℕ) × Bor (List ℕ)) → Type 0
IsSplitAt byte text (Some (front, rest)) = Lacks byte front.now × (front.now ++ byte ∷ rest.now ≡ text)
IsSplitAt byte text None = Lacks byte text
