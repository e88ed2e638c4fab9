-- What a value's place ends as, where a `&mut` to the value is returned.
use Rattle.std.specs.Prelude.{ℕ, Option}
use Rattle.std.specs.Borrow.{Fml, Lends, LendsIf, MutBor, RattleType}
use Rattle.ready_places.specs.Placed.{Placed, with_value_at}
use Rattle.ready_places.specs.contracts.places.Places.{the_row}

-- what is last written through r is in the end the value of the key
abbrev pub LendsValue : (T : RattleType) → MutBor (Placed T.Denot) → ℕ → MutBor T.Denot → Fml
LendsValue T placed key r = Lends (the_row T) T placed r (with_value_at placed.now key)

-- the same where r is a reference, and at `None` nothing changes
abbrev pub LendsPlace : (T : RattleType) → MutBor (Placed T.Denot) → ℕ → Option (MutBor T.Denot) → Fml
LendsPlace T placed key r = LendsIf (the_row T) T placed r (with_value_at placed.now key) placed.now
