-- What holds of block sessions: rebuilt blocks are exact, and all that comes in for a session stands at
-- the same numbers.
use Rattle.std.specs.Prelude.{ℕ, ◌≡◌, ◌<◌, List, map, length, unwrap_or, Some, None, Contains}
use Rattle.std.specs.List.{range_with_len}
use Rattle.group_types.specs.Dimensions.{Dimensions, space_of}
use Rattle.group_types.specs.Lists.{at}
use Rattle.group_types.specs.declared.process.ProcessId.TheVariants.{ParityNode}
use Rattle.group_message.specs.declared.message.Message.TheVariants as tells
use Rattle.group_calls.specs.declared.event.Event.{Event}
use Rattle.group_run.specs.Applying.{replica_of}
use Rattle.erasure_code.specs.Code.{coded}
use Rattle.group_run.specs.Leaders.{rebuilt_block, session_of}
use Rattle.group_run.specs.Meaning.{values_after, spaces_at, process_of, Lives, IsDown, link}
use Rattle.group_run.specs.Process.{Process, Copy, Gathering}
use Rattle.group_run.specs.Rows.{block_in}
use Rattle.group_run.specs.World.{World, after}

-- a block of the values of partition d after its first n updates
abbrev pub value_block : World → ℕ → ℕ → ℕ → List ℕ
value_block w block d n = block_in w.shape block (values_after w d n)

-- a block of the code of parity process i at a stamp
abbrev pub code_block : World → ℕ → ℕ → List ℕ → List ℕ
code_block w block i v = block_in w.shape block (coded w.shape.m i (space_of w.shape) (spaces_at w 0 v))

-- a rebuilt block of a partition is that of its values, at the leader's settled number
abbrev pub RebuiltIsSettled : World → Type 0
RebuiltIsSettled w = (i d block : ℕ) (bytes : List ℕ) → Lives w (ParityNode i) → d < w.shape.k
    → rebuilt_block (process_of w (ParityNode i)).as_leader d block ≡ Some bytes
    → bytes ≡ value_block w block d (replica_of (process_of w (ParityNode i)) d).applied

-- all that has come in for an open session, and the rows that are on their way to it, stand at one stamp
pub record StandsAt (w : World) (l : ℕ) (g : Gathering) (v : List ℕ) : Type 0 where
  pub long : length v ≡ w.shape.k
  pub blocks : (d : ℕ) (bytes : List ℕ) → at None g.blocks_in d ≡ Some bytes → bytes ≡ value_block w g.block d (at 0 v d)
  pub rows : (i : ℕ) (bytes : List ℕ) → at None g.rows_in i ≡ Some bytes → bytes ≡ code_block w g.block i v
  pub coming : (i : ℕ) (bytes stamp : List ℕ) → i < w.shape.m → Contains (link w (ParityNode i) (ParityNode l)) (tells.Row (session_of l g.number) bytes stamp)
      → (stamp ≡ v) × (bytes ≡ code_block w g.block i v)

-- every open session has its stamp
abbrev pub SessionsHaveStamps : World → Type 0
SessionsHaveStamps w = (l : ℕ) (g : Gathering) → Lives w (ParityNode l)
    → Contains (process_of w (ParityNode l)).as_leader.sessions g → (v : List ℕ) × StandsAt w l g v

-- the numbers that a row's copy stands at: its marks', and elsewhere the row's applied numbers
abbrev pub copy_stamp : Dimensions → Process → Copy → List ℕ
copy_stamp s p copy = map (λ d. unwrap_or (at None copy.marks d) (replica_of p d).applied) (range_with_len 0 s.k)

-- a row's copy that isn't finished is the code at these numbers
abbrev pub CopiesHoldCode : World → Type 0
CopiesHoldCode w = (i : ℕ) (copy : Copy) → Lives w (ParityNode i) → Contains (process_of w (ParityNode i)).as_row.copies copy
    → copy.bytes ≡ code_block w copy.block i (copy_stamp w.shape (process_of w (ParityNode i)) copy)

-- what is promised of block sessions while the group isn't down
pub record Recovers (s : Dimensions) (es : List Event) : Type 0 where
  pub rebuilt : ¬ (IsDown (after s es)) → RebuiltIsSettled (after s es)
  pub sessions : ¬ (IsDown (after s es)) → SessionsHaveStamps (after s es)
  pub copies : ¬ (IsDown (after s es)) → CopiesHoldCode (after s es)
