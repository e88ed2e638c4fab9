-- What holds of a parity process that lets it lead.
use Rattle.std.specs.Prelude.{◌≡◌, ℕ, ◌<◌, ◌≤◌, true, false, ⊤, List, is_some, All, Contains}
use Rattle.std.specs.List.{list_all, range_with_len}
use Rattle.group_types.specs.Dimensions.{Dimensions}
use Rattle.group_types.specs.Shape.{IsShape}
use Rattle.group_types.specs.declared.process.ProcessId.TheVariants.{DataNode, ParityNode}
use Rattle.membership.specs.Members.{Membership, count_known_dead, knows_dead, with_dead}
use Rattle.group_message.specs.declared.message.Message.{Message}
use Rattle.group_message.specs.declared.message.Message.TheVariants as tells
use Rattle.group_run.specs.Applying.{head_at}
use Rattle.group_run.specs.Process.{Copy, Process}
use Rattle.group_run.specs.Rows.{parity_number}

-- a partition's data process is known dead, and so is each parity process below a number
pub record IsVacant (known : Membership) (d number : ℕ) : Type 0 where
  pub lost : knows_dead known (DataNode d) ≡ true
  pub lower : list_all (λ j. knows_dead known (ParityNode j)) (range_with_len 0 number) ≡ true

-- no copy is for a session of a leader above a number
abbrev pub AreStarted : ℕ → ℕ → List Copy → Type 0
AreStarted leader number copies = All (λ c. c.leader ≡ leader → c.number ≤ number) copies

-- a parity process that can lead: it lives, in a group that isn't down; what it heads was vacant, it is a row of each
-- session that it opened, and a copy for a session of its own is for one that it started
pub record CanLead (s : Dimensions) (p : Process) : Type 0 where
  pub limits : IsShape s
  pub named : (i : ℕ) × (p.name ≡ ParityNode i) × (i < s.m)
  pub shape : p.known.shape ≡ s
  pub few : count_known_dead p.known ≤ s.m
  pub living : knows_dead p.known p.name ≡ false
  pub heads : (d : ℕ) → is_some (head_at p d) ≡ true → IsVacant p.known d (parity_number p.name)
  pub rows : All (λ g. Contains g.rows (parity_number p.name)) p.as_leader.sessions
  pub copies : AreStarted (parity_number p.name) p.as_leader.last_session p.as_row.copies

-- what a message meets besides where it comes in a group that isn't down: at most m are known dead after a notice, and
-- a mark for a session of the process's own is for one that it started
abbrev pub IsOfGroup : Dimensions → Message → Process → Type 0
IsOfGroup s (tells.Notice dead) p = count_known_dead (with_dead p.known dead) ≤ s.m
IsOfGroup s (tells.Mark session _ _ _ _) p = parity_number session.leader ≡ parity_number p.name → session.number ≤ p.as_leader.last_session
IsOfGroup s _ p = ⊤
