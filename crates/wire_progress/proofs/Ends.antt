-- Where a call may stand between its phases.
use Rattle.std.proofs.Common.{ℕ, ◌≡◌, Some}
use Rattle.group_types.specs.Dimensions.{Dimensions}
use Rattle.group_types.specs.declared.process.ProcessId.{ProcessId}
use Rattle.memc_table.specs.Asked.{Asked}
use Rattle.group_wire.specs.Composed.{Composed}
use Rattle.group_wire.specs.GoingOn.{IsEnd}
use Rattle.group_wire.specs.Sets.{Processes}
use Rattle.group_wire.specs.State.{AskFor, Told, Unasked, AskedOf, Answered, OpenCall, gateway_of}
use Rattle.group_wire.proofs.GoingOn.{IsOther}
use Rattle.wire_progress.proofs.Serving.{Between, CanServe}
use Rattle.wire_progress.proofs.Stages.{IsFree}
use Rattle.wire_progress.proofs.Waits.{IsHeld}

-- it waits for no member
pub record Freed (named : Processes) (caller : ℕ) (op : Asked) (c : Composed) : Type 0 where
  pub serves : CanServe named caller c.group
  pub call : OpenCall
  pub open_call : c.group.gateways.call caller ≡ Some call
  pub same_op : call.op ≡ op
  pub free : IsFree call.stage

-- it is to be asked
pub record IsToAsk (named : Processes) (caller : ℕ) (op : Asked) (c : Composed) : Type 0 where
  pub serves : CanServe named caller c.group
  pub call : OpenCall
  pub open_call : c.group.gateways.call caller ≡ Some call
  pub same_op : call.op ≡ op
  pub stage : call.stage ≡ Unasked

-- it is answered
pub record Answers (named : Processes) (caller : ℕ) (op : Asked) (c : Composed) : Type 0 where
  pub serves : CanServe named caller c.group
  pub call : OpenCall
  pub open_call : c.group.gateways.call caller ≡ Some call
  pub same_op : call.op ≡ op
  pub told : Told
  pub pinged : ℕ
  pub stage : call.stage ≡ Answered told pinged
  pub ends : IsEnd told.answer

-- it waits for its update alone, at a member that holds it
pub record AwaitsUpdate (s : Dimensions) (named : Processes) (caller : ℕ) (op : Asked) (c : Composed) : Type 0 where
  pub serves : CanServe named caller c.group
  pub call : OpenCall
  pub open_call : c.group.gateways.call caller ≡ Some call
  pub same_op : call.op ≡ op
  pub holder : ProcessId
  pub other : IsOther s named holder
  pub stage : call.stage ≡ AskedOf holder
  pub held : IsHeld s (c.group.works.process holder) (AskFor caller call.position call.op)
  pub between : Between (gateway_of s caller) holder c.group.gateways
