-- What stands beside the things that sessions wait for: copies and sessions are fine, close notices leave what is open, and
-- whatever is under way for a row is of a session that waits for the row, or is ceased there.
use Rattle.std.proofs.Common.{◌≡◌, ◌≢◌, ℕ, ◌<◌, ◌≤◌, true, false, List, [], ◌++◌, is_some, ◌⊎◌}
use Rattle.group_types.specs.Dimensions.{Dimensions}
use Rattle.group_types.specs.Lists.{at}
use Rattle.group_types.specs.Names.{IsProcess}
use Rattle.group_types.specs.declared.process.ProcessId.{ProcessId}
use Rattle.group_types.specs.declared.process.ProcessId.TheVariants.{DataNode, ParityNode}
use Rattle.group_types.specs.Each.{Each}
use Rattle.group_message.specs.declared.message.Message.{Message}
use Rattle.group_run.specs.Applying.{ProcessStep}
use Rattle.law_moves.proofs.Moves.{Acted}
use Rattle.law_moves.specs.State.{State}
use Rattle.law_moves.proofs.Members.{Members}
use Rattle.law_bytes.proofs.Tokens.{Token, is_token, tokens}
use Rattle.law_progress.proofs.Waiting.{Has, AsksForBlock, IsMark, WantsRow, Waited, marks_in}
use Rattle.law_progress.proofs.Sides.{Accepts, Fair, Fresh, IsCease, LeaderFine, Leaves, RowFine, opened}

-- a session is ceased at row r, or will be
abbrev pub Ended : State → ℕ → ℕ → ℕ → Type 0
Ended v l n r = (n ≤ at 0 (v.process (ParityNode r)).as_row.ceased l) ⊎ ((l ≢ r) × Has (IsCease n) (v.link (ParityNode l) (ParityNode r)))

-- something of it is under way for row r, or there
pub data Pending (s : Dimensions) (v : State) (l n r : ℕ) : Type 0 where
  CopyThere : is_some (marks_in (v.process (ParityNode r)) l n) ≡ true → Pending s v l n r
  MarkThere : (a : ProcessId) (d : ℕ) → IsProcess s a → a ≢ ParityNode r → Has (IsMark l n d) (v.link a (ParityNode r)) → Pending s v l n r
  AskThere : (e : ℕ) → e < s.k → v.dead (DataNode e) ≡ false → Has (AsksForBlock l n r) (v.link (ParityNode l) (DataNode e)) → Pending s v l n r

pub record Ending (s : Dimensions) (v : State) : Type 0 where
  pub waited : Waited s v
  pub rows : (p : ProcessId) → IsProcess s p → v.dead p ≡ false → RowFine s (v.process p)
  pub leaders : (p : ProcessId) → IsProcess s p → v.dead p ≡ false → LeaderFine s (v.process p)
  pub ceased : (l r n : ℕ) → l < s.m → r < s.m → v.dead (ParityNode l) ≡ false → v.dead (ParityNode r) ≡ false → Fresh (v.process (ParityNode l)) n
      → (at 0 (v.process (ParityNode r)).as_row.ceased l < n) × (l ≢ r → Each (Leaves n) (v.link (ParityNode l) (ParityNode r)))
  pub pends : (l n r : ℕ) → l < s.m → r < s.m → v.dead (ParityNode l) ≡ false → v.dead (ParityNode r) ≡ false → Pending s v l n r
      → WantsRow r (opened (v.process (ParityNode l)) n) ⊎ Ended v l n r

-- a step of p that takes the messages `came` out of the link from x, in a group where each session has few tokens
pub record Move (s : Dimensions) (v u w : State) (x p : ProcessId) (came : List Message) (t : ProcessStep) : Type 0 where
  pub inside : IsProcess s p
  pub lives : v.dead p ≡ false
  pub from : IsProcess s x
  pub apart : came ≢ [] → x ≢ p
  pub before : Members s v
  pub after : Members s w
  pub same : (q : ProcessId) → IsProcess s q → u.process q ≡ v.process q
  pub dead : (q : ProcessId) → IsProcess s q → u.dead q ≡ v.dead q
  pub links : (a b : ProcessId) → IsProcess s a → IsProcess s b → (a ≢ x) ⊎ (b ≢ p) → u.link a b ≡ v.link a b
  pub first : v.link x p ≡ came ++ u.link x p
  pub acts : Acted s u w p t
  pub fair : Fair s x came (v.process p) t
  pub accepted : (l n d r : ℕ) → p ≡ ParityNode r → l < s.m → v.dead (ParityNode l) ≡ false → v.dead x ≡ false → at 0 (v.process p).as_row.ceased l < n
      → Has (IsMark l n d) came → Each (Accepts (v.process p)) came
  pub within : (l n d : ℕ) → Has (IsMark l n d) came → d < s.k
  pub reader : (l n r : ℕ) → Has (AsksForBlock l n r) came → (x ≡ ParityNode l) × ((e : ℕ) × (p ≡ DataNode e))
  pub spent : (k : Token) → k.partition < s.k → Has (λ m. is_token k x p m ≡ true) came → tokens s u k ≤ 0
  pub few : (k : Token) → k.partition < s.k → tokens s u k ≤ 1
