-- What a call asks of a node, and what it leaves there.
use Rattle.std.specs.Prelude.{ℕ, ◌≡◌, ◌⊎◌, ◌<◌, ◌^◌, true, false, List, ⊤}
use Rattle.group_types.specs.Dimensions.{Dimensions}
use Rattle.group_types.specs.Hash.{home_of}
use Rattle.group_types.specs.declared.process.ProcessId.TheVariants.{ParityNode}
use Rattle.memc_table.specs.Asked.{Asked}
use Rattle.group_calls.specs.Turns.{accepts}
use Rattle.group_calls.specs.declared.event.Answer.{Answer}
use Rattle.group_calls.specs.declared.event.Answer.TheVariants as says
use Rattle.group_calls.specs.declared.event.Cause.TheVariants as cause
use Rattle.group_run.specs.Applying.{replica_of}
use Rattle.group_run.specs.Deciding.{is_get}
use Rattle.group_run.specs.Process.{Process}
use Rattle.group_run.specs.Replica.{last_of}

-- the partition of a key has numbers left for updates, and a parity process for block sessions
pub record HasNumbers (s : Dimensions) (key : List ℕ) (p : Process) : Type 0 where
  pub updates : last_of (replica_of p (home_of key s.k)) < 2 ^ 62
  pub sessions : (i : ℕ) → p.name ≡ ParityNode i → p.as_leader.last_session < 2 ^ 62

-- with this answer a call has changed nothing: it was refused, or read, or was not made
abbrev pub ChangesNothing : Asked → Answer → Type 0
ChangesNothing op (says.Reply reply) = (accepts reply ≡ false) ⊎ (is_get op.act ≡ true)
ChangesNothing op (says.Retry (cause.Pending d n)) = ⊤
ChangesNothing op (says.Retry (cause.Block b)) = ⊥
ChangesNothing op says.Moved = ⊤
ChangesNothing op says.NoSpace = ⊤
ChangesNothing op _ = ⊥

-- a parity process has opened a block session meanwhile
pub record HasOpened (before now : Process) : Type 0 where
  pub leader : ℕ
  pub name : before.name ≡ ParityNode leader
  pub session : before.as_leader.last_session < now.as_leader.last_session
