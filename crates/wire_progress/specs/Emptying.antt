-- Where all that are ever cut are among at most m, the members that go on can receive all that is on its way between them.
use Rattle.std.specs.Prelude.{◌≡◌, ◌≢◌, false, List, []}
use Rattle.group_types.specs.Dimensions.{Dimensions}
use Rattle.group_types.specs.Names.{IsProcess}
use Rattle.group_types.specs.declared.process.ProcessId.{ProcessId}
use Rattle.group_types.specs.declared.process.ProcessId.TheVariants.{DataNode}
use Rattle.group_types.specs.Hash.{home_of}
use Rattle.memc_table.specs.Act.{key_of}
use Rattle.memc_table.specs.Asked.{Asked}
use Rattle.group_calls.specs.Turns.{CallName}
use Rattle.group_calls.specs.declared.event.Answer.{Answer}
use Rattle.group_calls.specs.declared.event.Answer.TheVariants as says
use Rattle.group_run.specs.Asking.{ask_process}
use Rattle.group_run.specs.Progress.{IsQuiet}
use Rattle.group_wire.specs.Actions.{Action}
use Rattle.group_wire.specs.Composed.{AreActions, Composed, composed}
use Rattle.group_wire.specs.Composition.{machine}
use Rattle.group_wire.specs.GoingOn.{CanBe, NamedAreTaken, OthersAreHere}
use Rattle.group_wire.specs.Sets.{Processes}
use Rattle.group_wire.specs.State.{Group}

-- no message is on a wire between two members that go on
abbrev pub WiresAreEmpty : Group → Processes → Type 0
WiresAreEmpty g named = (x p : ProcessId) → IsProcess g.shape x → IsProcess g.shape p → x ≢ p
    → named x ≡ false → named p ≡ false → g.works.messages x p ≡ []

-- a reply, want of space, or a ticket
abbrev pub IsGiven : Answer → Type 0
IsGiven (says.Reply reply) = Unit {0}
IsGiven says.NoSpace = Unit {0}
IsGiven (says.Ticket n) = Unit {0}
IsGiven _ = ⊥

-- no call has to wait that is asked of the data process of its key, where that goes on
abbrev pub NoCallWaits : Group → Processes → Type 0
NoCallWaits g named = (name : CallName) (op : Asked) → named (DataNode (home_of (key_of op.act) g.shape.k)) ≡ false
    → IsGiven (ask_process g.shape name op (g.works.process (DataNode (home_of (key_of op.act) g.shape.k)))).answer

-- the named deaths are taken and all messages received, with no call changed: so the machine has nothing unfinished
pub record IsEmptied (before after : Composed) (named : Processes) : Type 0 where
  pub others : OthersAreHere after.group named
  pub taken : NamedAreTaken after.group named
  pub wires : WiresAreEmpty after.group named
  pub quiet : IsQuiet (machine after)
  pub calls : NoCallWaits after.group named
  pub gateways : after.group.gateways ≡ before.group.gateways

-- so it can be, where any member goes on
abbrev pub MembersCanBeDrained : Type 0
MembersCanBeDrained = (s : Dimensions) (actions : List Action) (named : Processes) (one : ProcessId) → AreActions s actions
    → OthersAreHere (composed s actions).group named → IsProcess s one → named one ≡ false
    → CanBe s actions (λ c. IsEmptied (composed s actions) c named)
