-- Which bytes a read moves that does not wait, and what an outbox sends.
use Rattle.std.specs.Prelude.{◌≡◌, ◌≢◌, ℕ, ◌+◌, ◌<◌, ◌≤◌, List, [], ◌++◌, length, take, Option, Result, Ok, Err, ⊤}
use Rattle.std.specs.Io.KnownBytes.{Consumes}
use Rattle.edge_io.specs.Moving.{Input, IsEnded, Takes, Appends}
use Rattle.outbox.specs.declared.sending.Sending.{Sending}
use Rattle.outbox.specs.declared.sending.Sending.TheVariants as sending
use Rattle.outbox.specs.declared.reading.Reading.{Reading}
use Rattle.outbox.specs.declared.reading.Reading.TheVariants.{Came, Ended, Waits}

-- the bytes that came are some, and not more than there is room for
abbrev pub IsCount : {E : Type 0} → Result Reading E → ℕ → Type 0
IsCount (Ok (Came n)) room = (0 < n) × (n ≤ room)
IsCount (Ok Ended) room = ⊤
IsCount (Ok Waits) room = ⊤
IsCount (Err e) room = ⊤

-- a read within its room, whose length stays
pub record IsReadWithin {E : Type 0} (result : Result Reading E) (before now : List ℕ) : Type 0 where
  pub same : length now ≡ length before
  pub count : IsCount result (length now)

-- what a read moves: the bytes that came, which stand at the front of its room. It meets the end where it says so
abbrev pub TryTakes : {E : Type 0} → Input → Input → Result Reading E → List ℕ → Type 0
TryTakes before now (Ok (Came n)) room = Takes before now (take n room) × ¬ (IsEnded now)
TryTakes before now (Ok Ended) room = Takes before now [] × IsEnded now
TryTakes before now (Ok Waits) room = Takes before now [] × (now.ended ≡ before.ended)
TryTakes before now (Err e) room = Takes before now [] × (now.ended ≡ before.ended)

-- what such a read makes of the bytes that are still to come, where they are known
abbrev pub TryConsumes : {E : Type 0} → Option (List ℕ) → Option (List ℕ) → Result Reading E → List ℕ → Type 0
TryConsumes before now (Ok (Came n)) room = Consumes before now (take n room)
TryConsumes before now (Ok Ended) room = Consumes before now []
TryConsumes before now (Ok Waits) room = Consumes before now []
TryConsumes before now (Err e) room = Consumes before now []

-- how far it was sent of at most so many bytes
abbrev pub IsSent : {E : Type 0} → ℕ → List ℕ → List ℕ → List ℕ → Result Sending E → Type 0
IsSent most held held_now waiting_now (Ok sending.All) = waiting_now ≡ []
IsSent most held held_now waiting_now (Ok sending.Part) = (waiting_now ≢ []) × (length held_now ≡ length held + most)
IsSent most held held_now waiting_now (Ok sending.Waits) = (waiting_now ≢ []) × (length held_now < length held + most)
IsSent most held held_now waiting_now (Err e) = ⊤

-- the front of what waited was sent, and the rest of it waits
pub record Sends (held held_now waiting waiting_now : List ℕ) : Type 0 where
  pub front : List ℕ
  pub sent : Appends held held_now front
  pub rest : waiting ≡ front ++ waiting_now
