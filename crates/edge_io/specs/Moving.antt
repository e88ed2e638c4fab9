-- What a source handed out and a sink took, and which bytes a read and a write move.
use Rattle.std.specs.Prelude.{◌≡◌, ℕ, ◌<◌, ◌↔◌, Bool, true, List, [], ◌++◌, length, take, Option, Result, Ok, Err, MatchResult}
use Rattle.std.specs.Io.KnownBytes.{Consumes, IsAtEnd}

-- the bytes that a source handed out so far, whether its last read that didn't fail met the end, and the bytes still to
-- come, where they are known
pub record Input : Type 0 where
  pub taken : List ℕ
  pub ended : Bool
  pub left : Option (List ℕ)

-- a source handed out these bytes in between
pub record Takes (before now : Input) (bytes : List ℕ) : Type 0 where
  pub taken : now.taken ≡ before.taken ++ bytes
  pub left : Consumes before.left now.left bytes

-- a source met its end, and no byte is known to come
pub record IsEnded (input : Input) : Type 0 where
  pub met : input.ended ≡ true
  pub none : IsAtEnd input.left

-- a read handed out the first n bytes of its room; it met the end exactly where n is 0 and there was room
pub record GivesFront (before now : Input) (n : ℕ) (room : List ℕ) : Type 0 where
  pub takes : Takes before now (take n room)
  pub ended : IsEnded now ↔ ((n ≡ 0) × (0 < length room))

-- what a read moves: after an error it moved nothing
abbrev pub ReadTakes : {E : Type 0} → Input → Input → Result ℕ E → List ℕ → Type 0
ReadTakes before now (Ok n) room = GivesFront before now n room
ReadTakes before now (Err e) room = Takes before now [] × (now.ended ≡ before.ended)

-- a sink took these bytes in between
abbrev pub Appends : List ℕ → List ℕ → List ℕ → Type 0
Appends before now bytes = now ≡ before ++ bytes

-- what a write moves: the first n bytes of its piece, or nothing after an error
abbrev pub WriteMoves : {E : Type 0} → List ℕ → List ℕ → Result ℕ E → List ℕ → Type 0
WriteMoves before now result piece = MatchResult result (λ n. Appends before now (take n piece)) (λ _. now ≡ before)
