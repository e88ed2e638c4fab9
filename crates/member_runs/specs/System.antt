-- The members of a group, side by side: each as a value, with what it handed out and nobody has read.
use Rattle.std.specs.Prelude.{◌≡◌, ◌≢◌, List, [], ◌∷◌, ◌++◌, Option, Some, None, ⊤}
use Rattle.group_types.specs.Dimensions.{Dimensions}
use Rattle.group_types.specs.Names.{IsProcess}
use Rattle.group_types.specs.declared.process.ProcessId.{ProcessId}
use Rattle.group_wire.specs.Actions.{Action}
use Rattle.group_wire.specs.Sets.{changed}
use Rattle.group_wire.specs.State.{opening_group}
use Rattle.group_member.specs.Acting.{nothing_out}
use Rattle.group_member.specs.Opening.{opening_member}
use Rattle.group_member.specs.Standing.{HandedFrames, Member, MemberStands}
use Rattle.member_runs.specs.Calls.{MemberCall, HasCalled, actions_of, hands_of}
use Rattle.member_runs.specs.Reading.{Delivery, IsFirstFor, read_by, without_first}

pub record System : Type 0 where
  pub members : ProcessId → Member
  pub out : ProcessId → HandedFrames

-- a member at the start: the clauses of `Member::new`
pub record IsNewMember (s : Dimensions) (p : ProcessId) (v : Member) : Type 0 where
  pub opening : v ≡ opening_member s p
  pub stands : MemberStands (opening_group s) nothing_out v

-- at the start each process of the group has a new member, and nothing is handed out
pub record IsOpening (s : Dimensions) (y : System) : Type 0 where
  pub members : (p : ProcessId) → IsProcess s p → IsNewMember s p (y.members p)
  pub out : (p : ProcessId) → y.out p ≡ nothing_out

-- a step: the member of a process makes a call, after which it is this
pub record SystemStep : Type 0 where
  pub at : ProcessId
  pub call : MemberCall
  pub after : Member

-- what p reads was handed out to it by another member of the group, and is the first of its kind
pub record IsDelivered (s : Dimensions) (y : System) (p : ProcessId) (d : Delivery) : Type 0 where
  pub sender : IsProcess s d.from
  pub other : d.from ≢ p
  pub first : IsFirstFor p d.frame (y.out d.from)

abbrev pub IsReadable : Dimensions → System → ProcessId → Option Delivery → Type 0
IsReadable s y p None = ⊤
IsReadable s y p (Some d) = IsDelivered s y p d

-- a step may come: the call is made as its clause says, of what may be read
pub record MayStep (s : Dimensions) (y : System) (t : SystemStep) : Type 0 where
  pub member : IsProcess s t.at
  pub called : HasCalled t.call (y.members t.at) t.after
  pub reads : IsReadable s y t.at (read_by t.call)

-- what is handed out after it is read
abbrev pub out_read : ProcessId → Option Delivery → (ProcessId → HandedFrames) → ProcessId → HandedFrames
out_read p None out = out
out_read p (Some d) out = changed out d.from (without_first p d.frame (out d.from))

-- the members after a step
abbrev pub after_step : System → SystemStep → System
after_step y t = record {
  members = changed y.members t.at t.after;
  out = changed (out_read t.at (read_by t.call) y.out) t.at (hands_of t.call (y.members t.at) (y.out t.at));
}

abbrev pub after_steps : System → List SystemStep → System
after_steps y [] = y
after_steps y (t ∷ steps) = after_steps (after_step y t) steps

-- steps that may come, one after the other
abbrev pub AreSystemSteps : Dimensions → System → List SystemStep → Type 0
AreSystemSteps s y [] = ⊤
AreSystemSteps s y (t ∷ steps) = MayStep s y t × AreSystemSteps s (after_step y t) steps

-- the actions of all steps, in their order
abbrev pub all_actions : System → List SystemStep → List Action
all_actions y [] = []
all_actions y (t ∷ steps) = actions_of t.call (y.members t.at) ++ all_actions (after_step y t) steps
