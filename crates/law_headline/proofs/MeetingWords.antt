-- The first message of a link into a living process fits what the process holds.
use Rattle.std.specs.Prelude.{◌≡◌, ◌≢◌, false, List, ◌∷◌, IfSome, Contains}
use Rattle.group_types.specs.Dimensions.{Dimensions}
use Rattle.group_types.specs.Names.{IsProcess}
use Rattle.group_types.specs.declared.process.ProcessId.{ProcessId}
use Rattle.group_types.specs.declared.process.ProcessId.TheVariants.{DataNode, ParityNode}
use Rattle.group_message.specs.declared.message.Message.{Message}
use Rattle.group_message.specs.declared.message.Message.TheVariants as tells
use Rattle.group_run.specs.Fitting.{Fits}
use Rattle.group_run.specs.Leaders.{open_session}
use Rattle.group_run.specs.Process.{Gathering, Process}
use Rattle.group_run.specs.Rows.{copy_in, parity_number}
use Rattle.group_run.specs.World.{AskedCall}
use Rattle.law_moves.specs.State.{State}
use Rattle.law_moves.proofs.Members.{Members}
use Rattle.law_histories.proofs.Reach.{Reach}
use Rattle.law_updates.specs.Fine.{Fine}
use Rattle.law_bytes.proofs.FreshWords.{MarksAreNew}
use Rattle.law_bytes.proofs.LeadingWords.{SessionsFit}
use Rattle.law_headline.proofs.Sound.{LinksSound}

-- the copy for the session of a mark is of the mark's block
abbrev pub SameBlock : Message → Process → Type 0
SameBlock (tells.Mark session r block d n) p = IfSome (copy_in p.as_row.copies (parity_number session.leader) session.number) (λ c. c.block ≡ block)
SameBlock _ p = Unit {0}

-- a parity process is among the rows of a session
abbrev pub AmongRows : ProcessId → Gathering → Type 0
AmongRows (DataNode e) g = Unit {0}
AmongRows (ParityNode i) g = Contains g.rows i

-- the open session of a row has its sender among its rows
abbrev pub RowAsked : ProcessId → Message → Process → Type 0
RowAsked x (tells.Row session bytes stamp) p = IfSome (open_session p.as_leader session.number) (AmongRows x)
RowAsked x _ p = Unit {0}

-- what is told of a group at one moment: of its members, of histories of these calls, of marks, and of sessions
pub record GroupStands (s : Dimensions) (calls : List AskedCall) (v : State) : Type 0 where
  pub members : Members s v
  pub reach : Reach (Fine s calls) s v
  pub marks : MarksAreNew s v
  pub sessions : SessionsFit s v
  pub sound : LinksSound s v

-- the first message of each link into a living process fits, where a mark's copy is of its block and a row was
-- asked for
abbrev pub FirstsFit : Dimensions → State → Type 0
FirstsFit s v = (x p : ProcessId) (m : Message) (rest : List Message) → IsProcess s x → IsProcess s p → x ≢ p → v.dead p ≡ false → v.link x p ≡ m ∷ rest
    → SameBlock m (v.process p) → RowAsked x m (v.process p) → Fits s x m (v.process p)

-- so it is in every such group
abbrev pub MessagesFit : Type 0
MessagesFit = (s : Dimensions) (calls : List AskedCall) (v : State) → GroupStands s calls v → FirstsFit s v
