-- What the answers of a listener say of its connections.
use Rattle.std.specs.Prelude.{◌≡◌, ℕ, Bool, true, false, List, [], ◌∷◌, Option, Some, None, Result, Ok, Err, ⊤}

-- how many connections an answer hands out
abbrev pub count_handed_out : {C E : Type 0} → Result (Option C) E → ℕ
count_handed_out (Ok (Some c)) = 1
count_handed_out (Ok None) = 0
count_handed_out (Err e) = 0

-- no connection ends the listener, a connection comes only before its end, and a failure changes nothing
abbrev pub IsOverAfter : {C E : Type 0} → Bool → Bool → Result (Option C) E → Type 0
IsOverAfter before now (Ok (Some c)) = (before ≡ false) × (now ≡ false)
IsOverAfter before now (Ok None) = now ≡ true
IsOverAfter before now (Err e) = now ≡ before

-- connections to come that are told stay as they were
abbrev pub StaysToCome : Option (List (List ℕ)) → Option (List (List ℕ)) → Type 0
StaysToCome None now = ⊤
StaysToCome (Some before) now = now ≡ Some before

-- the first of the connections to come was handed out, with its bytes left to read
pub record HandsOut (before : List (List ℕ)) (now : Option (List (List ℕ))) (left : Option (List ℕ)) : Type 0 where
  pub bytes : List ℕ
  pub rest : List (List ℕ)
  pub first : before ≡ bytes ∷ rest
  pub others : now ≡ Some rest
  pub readable : left ≡ Some bytes

-- where connections to come are told, the first is handed out, none is where there are none, and a failure leaves them
abbrev pub TakesNext : {C E : Type 0} → Option (List (List ℕ)) → Option (List (List ℕ)) → (C → Option (List ℕ)) → Result (Option C) E → Type 0
TakesNext None now left result = ⊤
TakesNext (Some before) now left (Ok (Some c)) = HandsOut before now (left c)
TakesNext (Some before) now left (Ok None) = (before ≡ []) × (now ≡ Some [])
TakesNext (Some before) now left (Err e) = now ≡ Some before
