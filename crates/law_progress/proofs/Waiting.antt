-- What is under way for an open session of a living leader: for each row and each partition a question, a mark, a marked
-- copy or the row, and for each data process's block a question or the block.
use Rattle.std.specs.Prelude.{ℕ, ◌≡◌, ◌≢◌, ◌<◌, ◌⊎◌, true, false, List, [], ◌∷◌, is_some, option_map, Option, Some, None}
use Rattle.group_types.specs.Dimensions.{Dimensions}
use Rattle.group_types.specs.Lists.{at}
use Rattle.group_types.specs.Names.{IsProcess}
use Rattle.group_types.specs.declared.process.ProcessId.{ProcessId}
use Rattle.group_types.specs.declared.process.ProcessId.TheVariants.{DataNode, ParityNode}
use Rattle.membership.specs.Members.{knows_dead}
use Rattle.group_message.specs.declared.message.Message.{Message}
use Rattle.group_message.specs.declared.message.Message.TheVariants as tells
use Rattle.group_run.specs.Leaders.{open_session}
use Rattle.group_run.specs.Process.{Gathering, Process}
use Rattle.group_run.specs.Rows.{copy_in}
use Rattle.law_moves.specs.State.{State, HoldsAlways}
use Rattle.law_bytes.proofs.Stamps.{OfSession}

-- one of a list is so
abbrev pub Has : {X : Type 0} → (X → Type 0) → List X → Type 0
Has P [] = ⊥
Has P (x ∷ xs) = P x ⊎ Has P xs

-- the question for a block of session n of parity process l, and one that names row r
abbrev pub IsRead : ℕ → ℕ → Message → Type 0
IsRead l n (tells.ReadBlock session block rows) = OfSession l n session
IsRead l n _ = ⊥

abbrev pub AsksForBlock : ℕ → ℕ → ℕ → Message → Type 0
AsksForBlock l n r (tells.ReadBlock session block rows) = OfSession l n session × Has (λ i. i ≡ r) rows
AsksForBlock l n r _ = ⊥

-- a mark of partition d, a row, and a block for the session
abbrev pub IsMark : ℕ → ℕ → ℕ → Message → Type 0
IsMark l n d (tells.Mark session r block e number) = OfSession l n session × (e.0 ≡ d)
IsMark l n d _ = ⊥

abbrev pub IsRow : ℕ → ℕ → Message → Type 0
IsRow l n (tells.Row session bytes stamp) = OfSession l n session
IsRow l n _ = ⊥

abbrev pub IsBlock : ℕ → ℕ → Message → Type 0
IsBlock l n (tells.Block session bytes number) = OfSession l n session
IsBlock l n _ = ⊥

-- the marks of a process's copy for a session, and that a partition is among them
abbrev pub marks_in : Process → ℕ → ℕ → Option (List (Option ℕ))
marks_in p l n = option_map (λ c. c.marks) (copy_in p.as_row.copies l n)

abbrev pub Marked : ℕ → Option (List (Option ℕ)) → Type 0
Marked d None = ⊥
Marked d (Some marks) = is_some (at None marks d) ≡ true

-- an open session waits for a row, or for a block
abbrev pub WantsRow : ℕ → Option Gathering → Type 0
WantsRow r None = ⊥
WantsRow r (Some g) = Has (λ i. i ≡ r) g.rows × (at None g.rows_in r ≡ None)

abbrev pub WantsBlock : ℕ → Option Gathering → Type 0
WantsBlock d None = ⊥
WantsBlock d (Some g) = at None g.blocks_in d ≡ None

-- something is under way from partition d to row r, or from there to the leader
pub data RowComes (s : Dimensions) (v : State) (l n r d : ℕ) : Type 0 where
  Asked : v.dead (DataNode d) ≡ false → Has (AsksForBlock l n r) (v.link (ParityNode l) (DataNode d)) → RowComes s v l n r d
  Marking : (x : ProcessId) → IsProcess s x → x ≢ ParityNode r → v.dead x ≡ false → (x ≡ ParityNode l)
      ⊎ (x ≡ DataNode d) → Has (IsMark l n d) (v.link x (ParityNode r)) → RowComes s v l n r d
  Copied : Marked d (marks_in (v.process (ParityNode r)) l n) → RowComes s v l n r d
  Given : r ≢ l → Has (IsRow l n) (v.link (ParityNode r) (ParityNode l)) → RowComes s v l n r d

-- or the block of partition d
abbrev pub BlockComes : State → ℕ → ℕ → ℕ → Type 0
BlockComes v l n d = Has (IsRead l n) (v.link (ParityNode l) (DataNode d)) ⊎ Has (IsBlock l n) (v.link (DataNode d) (ParityNode l))

-- so it is for all that open sessions of living leaders wait for, as far as those who are to give it live
pub record Waited (s : Dimensions) (v : State) : Type 0 where
  pub rows : (l n r d : ℕ) → l < s.m → r < s.m → d < s.k → v.dead (ParityNode l) ≡ false → v.dead (ParityNode r) ≡ false
      → WantsRow r (open_session (v.process (ParityNode l)).as_leader n)
      → (knows_dead (v.process (ParityNode l)).known (DataNode d) ≡ true) ⊎ (v.dead (DataNode d) ≡ false) → RowComes s v l n r d
  pub blocks : (l n d : ℕ) → l < s.m → d < s.k → v.dead (ParityNode l) ≡ false → v.dead (DataNode d) ≡ false
      → WantsBlock d (open_session (v.process (ParityNode l)).as_leader n) → BlockComes v l n d

-- so it is along every run
abbrev pub WaitedAlways : Type 0
WaitedAlways = (s : Dimensions) → HoldsAlways s (Waited s)
