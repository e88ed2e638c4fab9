-- What is said of each member of a list, and of each two of them, by recursion on the list.
use Rattle.std.specs.Prelude.{List, [], ◌∷◌}

-- each member of a list
abbrev pub Each : {X : Type 0} → (X → Type 0) → List X → Type 0
Each P [] = Unit {0}
Each P (x ∷ xs) = P x × Each P xs

-- each member with each later one
abbrev pub EachTwo : {X : Type 0} → (X → X → Type 0) → List X → Type 0
EachTwo R [] = Unit {0}
EachTwo R (x ∷ xs) = Each (R x) xs × EachTwo R xs
