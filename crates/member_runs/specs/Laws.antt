-- What holds of the members of a group, side by side, whatever calls they make and in whatever order.
use Rattle.std.specs.Prelude.{ℕ, ◌≡◌, ◌<◌, ◌≤◌, true, List, Some}
use Rattle.group_types.specs.Dimensions.{Dimensions}
use Rattle.group_types.specs.Names.{IsProcess}
use Rattle.group_types.specs.Shape.{IsShape}
use Rattle.group_types.specs.declared.process.ProcessId.{ProcessId}
use Rattle.membership.specs.Members.{knows_dead}
use Rattle.memc_table.specs.declared.reply.Reply.{Reply}
use Rattle.group_calls.specs.declared.event.Answer.TheVariants as says
use Rattle.group_run.specs.Meaning.{process_of}
use Rattle.group_wire.specs.Composed.{AreActions, Composed, composed}
use Rattle.group_wire.specs.Composition.{HasNotFailed, IsComposed, machine}
use Rattle.group_wire.specs.Laws.{NoTwoHoldAll}
use Rattle.group_wire.specs.Sets.{size_of}
use Rattle.group_wire.specs.Shown.{IsLoggedSinceBegun}
use Rattle.group_wire.specs.State.{Group, OpenCall, Told}
use Rattle.group_member.specs.Callers.{answer_told_at, caller_of}
use Rattle.group_member.specs.Standing.{MemberStands}
use Rattle.member_runs.specs.Calls.{Shows}
use Rattle.member_runs.specs.System.{AreSystemSteps, IsOpening, MayStep, System, SystemStep, after_steps, all_actions}

-- new members of a group have made these steps
pub record HaveMade (s : Dimensions) (y : System) (steps : List SystemStep) : Type 0 where
  pub shape : IsShape s
  pub opening : IsOpening s y
  pub made : AreSystemSteps s y steps

-- what they made of the group on its machines
abbrev pub composed_of : Dimensions → System → List SystemStep → Composed
composed_of s y steps = composed s (all_actions y steps)

-- the member of each process has its name, and stands
abbrev pub AllStand : Group → System → Type 0
AllStand g y = (p : ProcessId) → IsProcess g.shape p → ((y.members p).words.name ≡ p) × MemberStands g (y.out p) (y.members p)

-- their actions, in their order, are a run of the group on its machines, after which every member stands
pub record MakeARun (s : Dimensions) (y : System) (steps : List SystemStep) : Type 0 where
  pub run : AreActions s (all_actions y steps)
  pub stand : AllStand (composed_of s y steps).group (after_steps y steps)

abbrev pub MembersMakeARun : Type 0
MembersMakeARun = (s : Dimensions) (y : System) (steps : List SystemStep) → HaveMade s y steps → MakeARun s y steps

-- so what they make composes to a run of the machine, whose processes are those of the members that haven't failed
pub record AreTheMachine (c : Composed) (y : System) : Type 0 where
  pub composed : IsComposed c
  pub processes : (p : ProcessId) → HasNotFailed c p → process_of (machine c) p ≡ (y.members p).node.process

abbrev pub MembersAreTheMachine : Type 0
MembersAreTheMachine = (s : Dimensions) (y : System) (steps : List SystemStep) → HaveMade s y steps
    → AreTheMachine (composed_of s y steps) (after_steps y steps)

-- at most m have failed, and each that hasn't has cut all that have
pub record AreBarred (c : Composed) (y : System) : Type 0 where
  pub few : size_of c.group.shape c.failed ≤ c.group.shape.m
  pub cut : (p x : ProcessId) → HasNotFailed c p → c.failed x ≡ true → knows_dead (y.members p).words.cut x ≡ true

abbrev pub MembersAreBarred : Type 0
MembersAreBarred = (s : Dimensions) (y : System) (steps : List SystemStep) → HaveMade s y steps → AreBarred (composed_of s y steps) (after_steps y steps)

-- in its next step a member shows what an open call of a caller was told
pub record ShowsNext (s : Dimensions) (y : System) (t : SystemStep) (caller : ℕ) (o : OpenCall) (told : Told) : Type 0 where
  pub may : MayStep s y t
  pub ping : ℕ
  pub shows : t.call ≡ Shows caller ping
  pub opened : (caller_of (y.members t.at).callers caller).call ≡ Some o
  pub answered : answer_told_at o.stage ≡ Some told

-- where no two permitted sets together hold all members, a reply that is shown is that of the call's entry in the machine's
-- log, for what the client asked, logged since the call began
abbrev pub MembersShowLogged : Type 0
MembersShowLogged = (s : Dimensions) (y : System) (steps : List SystemStep) (t : SystemStep) (caller : ℕ) (o : OpenCall) (told : Told) (reply : Reply)
    → HaveMade s y steps → NoTwoHoldAll (composed_of s y steps).group
    → ShowsNext s (after_steps y steps) t caller o told → told.answer ≡ says.Reply reply → IsLoggedSinceBegun (composed_of s y steps) caller o reply

-- no two do where there are more data processes than parity processes
abbrev pub NoTwoMembersHoldAll : Type 0
NoTwoMembersHoldAll = (s : Dimensions) (y : System) (steps : List SystemStep) → HaveMade s y steps → s.m < s.k → NoTwoHoldAll (composed_of s y steps).group
