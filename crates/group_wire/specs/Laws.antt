-- What holds of every run of a group on its machines.
use Rattle.std.specs.Prelude.{ℕ, ◌≡◌, ◌<◌, ◌≤◌, ◌⊎◌, false, List}
use Rattle.group_types.specs.Dimensions.{Dimensions}
use Rattle.group_types.specs.Names.{IsProcess}
use Rattle.group_types.specs.declared.process.ProcessId.{ProcessId}
use Rattle.group_wire.specs.Actions.{Action, Permit, Show}
use Rattle.group_wire.specs.Composed.{AreActions, Composed, composed, composed_with}
use Rattle.group_wire.specs.May.{MayAct}
use Rattle.group_wire.specs.Sets.{IsSubset, Processes, size_of}
use Rattle.group_wire.specs.State.{Group, gateway_of}

-- the barrier: at most m have failed, and each member that hasn't failed has cut all that have
pub record IsBarred (c : Composed) : Type 0 where
  pub few : size_of c.group.shape c.failed ≤ c.group.shape.m
  pub cut : (r : ProcessId) → IsProcess c.group.shape r → c.failed r ≡ false → IsSubset c.failed (c.group.words.cut r)

abbrev pub BarrierAlways : Type 0
BarrierAlways = (s : Dimensions) (actions : List Action) → AreActions s actions → IsBarred (composed s actions)

-- right after a member that hasn't failed permitted itself a set, those who have failed are exactly that set
abbrev pub PermitsExactly : Type 0
PermitsExactly = (s : Dimensions) (actions : List Action) (p : ProcessId) → AreActions s actions → MayAct (composed s actions).group (Permit p)
    → (composed s actions).failed p ≡ false
    → (x : ProcessId) → (composed_with (composed s actions) (Permit p)).failed x ≡ (composed s actions).group.words.cut p x

-- no two permitted sets together hold all members: there is one in neither
abbrev pub NoTwoHoldAll : Group → Type 0
NoTwoHoldAll g = (p q : ProcessId) → (x : ProcessId) × IsProcess g.shape x × (g.words.permitted p x ≡ false) × (g.words.permitted q x ≡ false)

-- a member hadn't failed when it sent a ping
abbrev pub SentAlive : Composed → ProcessId → ℕ → Type 0
SentAlive c p ping = (c.failed p ≡ false) ⊎ (ping < c.lived p)

-- where no two permitted sets together hold all members, an answer is shown only by a ping that its gateway sent before it
-- failed
abbrev pub ShownByLiving : Type 0
ShownByLiving = (s : Dimensions) (actions : List Action) (caller ping : ℕ) → AreActions s actions → NoTwoHoldAll (composed s actions).group
    → MayAct (composed s actions).group (Show caller ping) → SentAlive (composed s actions) (gateway_of s caller) ping

-- so it is where there are more data processes than parity processes
abbrev pub MoreDataThanParity : Type 0
MoreDataThanParity = (s : Dimensions) (actions : List Action) → AreActions s actions → s.m < s.k → NoTwoHoldAll (composed s actions).group

-- and where all that are ever cut are among m
abbrev pub FewAreNamed : Type 0
FewAreNamed = (s : Dimensions) (actions : List Action) (named : Processes) → AreActions s actions → size_of s named ≤ s.m
    → ((p : ProcessId) → IsSubset ((composed s actions).group.words.cut p) named) → NoTwoHoldAll (composed s actions).group
