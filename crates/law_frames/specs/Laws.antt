-- Which messages of a run have a frame.
use Rattle.std.specs.Prelude.{ℕ, ◌≢◌, ◌<◌, ◌≤◌, ◌^◌, List}
use Rattle.group_types.specs.Dimensions.{Dimensions}
use Rattle.group_types.specs.Each.{Each}
use Rattle.group_types.specs.Names.{IsProcess}
use Rattle.group_types.specs.declared.process.ProcessId.{ProcessId}
use Rattle.group_message.specs.declared.message.Message.{Message}
use Rattle.group_message.specs.declared.message.Message.TheVariants as tells
use Rattle.group_calls.specs.declared.event.Event.{Event}
use Rattle.group_calls.specs.declared.event.Event.TheVariants.{Ask}
use Rattle.group_run.specs.Applying.{replica_of}
use Rattle.group_run.specs.Headline.{IsRun}
use Rattle.group_run.specs.Heading.{partition, rank}
use Rattle.group_run.specs.Meaning.{Lives, link, process_of}
use Rattle.group_run.specs.Replica.{Replica, last_of}
use Rattle.group_run.specs.World.{after}
use Rattle.wire_codec.specs.Fits.{HasFrame}
use Rattle.link_frames.specs.Limits.{FitsAsked}

-- what is asked has come in a frame
abbrev pub FitsEvent : Event → Type 0
FitsEvent (Ask caller op p) = FitsAsked op
FitsEvent _ = Unit {0}

-- what a head tells of a replica's log has a frame: all of it to those who follow, and each update of it
pub record LogHasFrames (r d : ℕ) (replica : Replica) : Type 0 where
  pub adopt : HasFrame (tells.Adopt (rank r) (partition d) replica.applied replica.log)
  pub updates : (stable : ℕ) → stable ≤ last_of replica → Each (λ u. HasFrame (tells.Update (rank r) (partition d) u stable)) replica.log

-- along every run of fewer than 2^64 events all of whose asks have come in frames it is so of every log of a living process
abbrev pub LogsHaveFrames : Type 0
LogsHaveFrames = (s : Dimensions) (es : List Event) → IsRun s es → Each FitsEvent es → (after s es).events < 2 ^ 64
    → (p : ProcessId) (r d : ℕ) → Lives (after s es) p → r ≤ s.m → d < s.k → LogHasFrames r d (replica_of (process_of (after s es) p) d)

-- a message that tells of updates has a frame: one of them, a new head's list, how far one has them, and how far they are settled
abbrev pub HasFrameIfTelling : Message → Type 0
HasFrameIfTelling (tells.Update r d u stable) = HasFrame (tells.Update r d u stable)
HasFrameIfTelling (tells.Adopt r d base list) = HasFrame (tells.Adopt r d base list)
HasFrameIfTelling (tells.Ack r d number) = HasFrame (tells.Ack r d number)
HasFrameIfTelling (tells.Stable r d number) = HasFrame (tells.Stable r d number)
HasFrameIfTelling _ = Unit {0}

-- along every run of fewer than 2^63 events, likewise, it is so of all that stands in a link between two living processes
abbrev pub TellingsHaveFrames : Type 0
TellingsHaveFrames = (s : Dimensions) (es : List Event) → IsRun s es → Each FitsEvent es → (after s es).events < 2 ^ 63
    → (from to : ProcessId) → Lives (after s es) from → Lives (after s es) to → from ≢ to → Each HasFrameIfTelling (link (after s es) from to)

-- so has a message of a block session: a question for a block, a block, a mark, a row, and that sessions are closed
abbrev pub HasFrameIfOfSession : Message → Type 0
HasFrameIfOfSession (tells.ReadBlock session block rows) = HasFrame (tells.ReadBlock session block rows)
HasFrameIfOfSession (tells.Block session bytes number) = HasFrame (tells.Block session bytes number)
HasFrameIfOfSession (tells.Mark session r block d number) = HasFrame (tells.Mark session r block d number)
HasFrameIfOfSession (tells.Row session bytes stamp) = HasFrame (tells.Row session bytes stamp)
HasFrameIfOfSession (tells.Cease upto) = HasFrame (tells.Cease upto)
HasFrameIfOfSession _ = Unit {0}

-- along every run of fewer than 2^63 events it is so of all that stands in a link into a living process
abbrev pub SessionsHaveFrames : Type 0
SessionsHaveFrames = (s : Dimensions) (es : List Event) → IsRun s es → (after s es).events < 2 ^ 63
    → (from to : ProcessId) → IsProcess s from → Lives (after s es) to → from ≢ to → Each HasFrameIfOfSession (link (after s es) from to)
