-- What reading a source to its end, under a limit, takes from it.
use Rattle.std.specs.Prelude.{ℕ, ◌≡◌, ◌+◌, ◌≤◌, List, length, Result, Ok, Err, Vec}
use Rattle.edge_io.specs.Faults.{Rose}
use Rattle.edge_io.specs.Moving.{Input, IsEnded, Takes}
use Rattle.edge_io.specs.declared.fault.ReadFault.{ReadFault}
use Rattle.edge_io.specs.declared.fault.ReadFault.TheVariants.{TooLong, Failed, Want}

-- a source handed out these bytes, and met its end
pub record IsReadWhole (before now : Input) (bytes : List ℕ) : Type 0 where
  pub taken : Takes before now bytes
  pub ended : IsEnded now

-- a source handed out so many bytes
pub record TakesExactly (count : ℕ) (before now : Input) : Type 0 where
  pub bytes : List ℕ
  pub taken : Takes before now bytes
  pub exact : length bytes ≡ count

-- a source handed out at most so many bytes
pub record TakesAtMost (most : ℕ) (before now : Input) : Type 0 where
  pub bytes : List ℕ
  pub taken : Takes before now bytes
  pub few : length bytes ≤ most

-- a source of at most so many bytes was read to its end, or it has more, or a read failed, or there was no memory
abbrev pub HasReadWhole : ℕ → Input → Input → ℕ → ℕ → Result (List ℕ) ReadFault → Type 0
HasReadWhole most before now faults faults_now (Ok bytes) = IsReadWhole before now bytes × (length bytes ≤ most)
HasReadWhole most before now faults faults_now (Err TooLong) = TakesExactly (most + 1) before now
HasReadWhole most before now faults faults_now (Err Failed) = Rose faults faults_now × TakesAtMost most before now
HasReadWhole most before now faults faults_now (Err Want) = TakesAtMost (most + 1) before now

-- the bytes in an answer
abbrev pub bytes_in : {E Z : Type 0} → Result (Vec ℕ Z) E → Result (List ℕ) E
bytes_in (Ok bytes) = Ok bytes.items
bytes_in (Err e) = Err e
