-- A group over machines that is closed and at rest: its table stays what it is.
use Rattle.std.specs.Prelude.{◌≡◌, true, false, List, ◌++◌}
use Rattle.group_types.specs.Dimensions.{Dimensions}
use Rattle.group_types.specs.Each.{Each}
use Rattle.group_types.specs.Names.{IsProcess}
use Rattle.group_types.specs.declared.process.ProcessId.{ProcessId}
use Rattle.memc_table.specs.Asked.{Asked}
use Rattle.group_calls.specs.Turns.{accepts}
use Rattle.group_calls.specs.declared.entry.Entry.{Entry}
use Rattle.group_run.specs.Deciding.{is_get}
use Rattle.group_wire.specs.Actions.{Action}
use Rattle.group_wire.specs.Composed.{AreActions, composed}
use Rattle.group_wire.specs.GoingOn.{NamedAreTaken, OthersAreHere}
use Rattle.group_wire.specs.Sets.{Processes}
use Rattle.group_wire.specs.State.{Group}
use Rattle.wire_progress.specs.Emptying.{WiresAreEmpty}
use Rattle.wire_eras.specs.Begun.{BeginsOnly, OnlyOpen}
use Rattle.wire_eras.specs.Laws.{log_made}
use Rattle.wire_eras.specs.Told.{table_left}

-- an op changes nothing
abbrev pub Gets : Asked → Type 0
Gets op = is_get op.act ≡ true

-- the group is at rest: of the members that aren't named each is here, has taken the deaths of all that are, and has received
-- all that the others sent to it
pub record AreMembersAtRest (g : Group) : Type 0 where
  pub named : Processes
  pub others : OthersAreHere g named
  pub taken : NamedAreTaken g named
  pub wires : WiresAreEmpty g named
  pub one : ProcessId
  pub member : IsProcess g.shape one
  pub out : named one ≡ false

-- no change is open, and none is begun behind
pub record IsClosed (s : Dimensions) (actions more : List Action) : Type 0 where
  pub run : AreActions s (actions ++ more)
  pub rest : AreMembersAtRest (composed s actions).group
  pub still : OnlyOpen Gets (composed s actions).group.gateways
  pub behind : Each (BeginsOnly Gets) more

-- then nothing is logged behind that changes the table
pub record LogsNoChange (s : Dimensions) (actions more : List Action) : Type 0 where
  pub later : List Entry
  pub log : log_made s (actions ++ more) ≡ log_made s actions ++ later
  pub refused : Each (λ e. accepts e.reply ≡ false) later
  pub table : table_left s.k (log_made s (actions ++ more)) ≡ table_left s.k (log_made s actions)

abbrev pub ClosedLogsNoChange : Type 0
ClosedLogsNoChange = (s : Dimensions) (actions more : List Action) → IsClosed s actions more → LogsNoChange s actions more
