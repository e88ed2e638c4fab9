-- What a row keeps, as contracts see it.
use Rattle.std.specs.Prelude.{◌≡◌, ℕ, ◌<◌, Bool, false, true, ⊤, List, [], ◌∷◌, length, All, is_some, Option, Some, None, replicate, slice_index_or}
use Rattle.group_types.specs.Dimensions.{Dimensions}
use Rattle.group_run.specs.Process.{Copy, RowState}
use Rattle.group_run.specs.Rows.{copy_in, is_marked, marked, with_copy, without_copy}

-- its shape, the number of its parity process, how many copies can begin without memory, and the machine's
-- part of it
pub record Row : Type 0 where
  pub shape : Dimensions
  pub number : ℕ
  pub room : ℕ
  pub state : RowState

-- the row of these copies and last ceased sessions
abbrev pub row_of : Dimensions → ℕ → ℕ → List Copy → List ℕ → Row
row_of s number room copies ceased = record { shape = s; number = number; room = room; state = record { copies = copies; ceased = ceased } }

-- a copy of a block of these bytes with no mark
abbrev pub unmarked : Dimensions → ℕ → ℕ → ℕ → List ℕ → Copy
unmarked s leader number block bytes = record { leader = leader; number = number; block = block; bytes = bytes; marks = replicate s.k None }

-- the copy is for a session of a parity process, has a block of the space, and a place for each mark
pub record IsWholeCopy (s : Dimensions) (copy : Copy) : Type 0 where
  pub leader : copy.leader < s.m
  pub block : copy.block < s.blocks
  pub bytes : length copy.bytes ≡ s.block
  pub marks : length copy.marks ≡ s.k

-- no two of the copies are for one session
abbrev pub HaveOneEach : List Copy → Type 0
HaveOneEach [] = ⊤
HaveOneEach (copy ∷ copies) = (is_some (copy_in copies copy.leader copy.number) ≡ false) × HaveOneEach copies

-- what every row keeps
pub record IsRow (row : Row) : Type 0 where
  pub number : row.number < row.shape.m
  pub leaders : length row.state.ceased ≡ row.shape.m
  pub whole : All (IsWholeCopy row.shape) row.state.copies
  pub each : HaveOneEach row.state.copies

-- the copy for a session stands at this place
pub record CopyStandsAt (leader number : ℕ) (copies : List Copy) (place : ℕ) : Type 0 where
  pub within : place < length copies
  pub copy : (d : Copy) → copy_in copies leader number ≡ Some (slice_index_or copies place d)

-- what a mark makes of the copies: those that are left, and the one whose marks are all there
pub record Marking : Type 0 where
  pub copies : List Copy
  pub done : Option Copy

-- a copy that was marked is handed out once all its marks are there, and takes its place again until then
abbrev pub kept_until : Bool → Copy → List Copy → Marking
kept_until true copy copies = record { copies = without_copy copy.leader copy.number copies; done = Some copy }
kept_until false copy copies = record { copies = with_copy copy copies; done = None }

-- a partition is marked in the copy of a session, if there is one
abbrev pub marking : Dimensions → ℕ → ℕ → Option Copy → List Copy → Marking
marking s d n None copies = record { copies = copies; done = None }
marking s d n (Some copy) copies = kept_until (is_marked s (marked d n copy)) (marked d n copy) copies
