-- What comes to a process by its kind, how many dead a process may learn of, and of which of its own sessions marks come.
use Rattle.std.specs.Prelude.{ℕ, ◌≡◌, ◌≢◌, ◌≤◌, List, ◌∷◌}
use Rattle.group_types.specs.Dimensions.{Dimensions}
use Rattle.group_types.specs.Names.{IsProcess}
use Rattle.group_types.specs.declared.process.Partition.{Partition}
use Rattle.group_types.specs.declared.process.ProcessId.{ProcessId}
use Rattle.group_types.specs.declared.process.ProcessId.TheVariants.{DataNode, ParityNode}
use Rattle.group_types.specs.declared.process.Rank.{Rank}
use Rattle.membership.specs.Members.{count_known_dead, with_dead}
use Rattle.group_message.specs.declared.message.Message.{Message}
use Rattle.group_message.specs.declared.message.Message.TheVariants as tells
use Rattle.group_message.specs.declared.message.Session.{Session}
use Rattle.group_calls.specs.declared.event.Event.{Event}
use Rattle.group_run.specs.Fitting.{IsForData, IsForParity}
use Rattle.group_run.specs.Headline.{IsRun}
use Rattle.group_run.specs.Meaning.{IsDown, Lives, link, process_of}
use Rattle.group_run.specs.Rows.{parity_number}
use Rattle.group_run.specs.World.{World, after}

abbrev pub IsFor : ProcessId → Message → Type 0
IsFor (DataNode d) m = IsForData m
IsFor (ParityNode i) m = IsForParity (ParityNode i) m

-- the first message of each link into a living process is for it
abbrev pub FirstsAreFor : Dimensions → World → Type 0
FirstsAreFor s w = (from to : ProcessId) (m : Message) (rest : List Message) → IsProcess s from → IsProcess s to → from ≢ to → Lives w to
    → link w from to ≡ m ∷ rest → IsFor to m

-- so it is along every run
abbrev pub KindsAlways : Type 0
KindsAlways = (s : Dimensions) (es : List Event) → IsRun s es → FirstsAreFor s (after s es)

-- a living process that receives a notice next knows of no more than m dead then
abbrev pub KnowsFewDead : Dimensions → World → Type 0
KnowsFewDead s w = (from to dead : ProcessId) (rest : List Message) → IsProcess s from → IsProcess s to → from ≢ to → Lives w to
    → link w from to ≡ tells.Notice dead ∷ rest → count_known_dead (with_dead (process_of w to).known dead) ≤ s.m

-- so it is along every run, while the group isn't down
abbrev pub FewDeadAlways : Type 0
FewDeadAlways = (s : Dimensions) (es : List Event) → IsRun s es → ¬ (IsDown (after s es)) → KnowsFewDead s (after s es)

-- a living process that receives a mark for a session of its own next has started that session
abbrev pub OwnMarksStarted : Dimensions → World → Type 0
OwnMarksStarted s w = (from to : ProcessId) (session : Session) (r : Rank) (block : ℕ) (d : Partition) (n : ℕ) (rest : List Message)
    → IsProcess s from → IsProcess s to → from ≢ to → Lives w to
    → link w from to ≡ tells.Mark session r block d n ∷ rest → parity_number session.leader ≡ parity_number to
    → session.number ≤ (process_of w to).as_leader.last_session

-- so it is along every run
abbrev pub OwnMarksAlways : Type 0
OwnMarksAlways = (s : Dimensions) (es : List Event) → IsRun s es → OwnMarksStarted s (after s es)
