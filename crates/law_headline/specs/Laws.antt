-- The headline for every shape and every run, and what stands beside it.
use Rattle.std.specs.Prelude.{◌≡◌, ◌≢◌, List, ◌∷◌}
use Rattle.group_types.specs.Dimensions.{Dimensions}
use Rattle.group_types.specs.Names.{IsProcess}
use Rattle.group_types.specs.declared.process.ProcessId.{ProcessId}
use Rattle.group_message.specs.declared.message.Message.{Message}
use Rattle.group_calls.specs.declared.event.Event.{Event}
use Rattle.group_run.specs.Fitting.{Fits}
use Rattle.group_run.specs.Headline.{Headline, IsRun}
use Rattle.group_run.specs.Keeping.{HeldIsHeld, KeptIsLast}
use Rattle.group_run.specs.Meaning.{Lives, link, process_of}
use Rattle.group_run.specs.Recovery.{CopiesHoldCode, RebuiltIsSettled}
use Rattle.group_run.specs.World.{after}

-- the headline
abbrev pub HeadlineAlways : Type 0
HeadlineAlways = (s : Dimensions) (es : List Event) → IsRun s es → Headline s es

-- rebuilt blocks have the values of the log, and rows' copies the code of these
abbrev pub RebuiltAlways : Type 0
RebuiltAlways = (s : Dimensions) (es : List Event) → IsRun s es → RebuiltIsSettled (after s es)

abbrev pub CopiesAlways : Type 0
CopiesAlways = (s : Dimensions) (es : List Event) → IsRun s es → CopiesHoldCode (after s es)

-- the message that is delivered next from a process to a living one fits what that holds
abbrev pub FitsAlways : Type 0
FitsAlways = (s : Dimensions) (es : List Event) → IsRun s es → (from to : ProcessId) (m : Message) (rest : List Message)
    → IsProcess s from → IsProcess s to → from ≢ to → Lives (after s es) to
    → link (after s es) from to ≡ m ∷ rest → Fits s from m (process_of (after s es) to)

-- replicas keep each caller's last applied update, and held calls are of logged updates or of those that wait
abbrev pub CallsAlways : Type 0
CallsAlways = (s : Dimensions) (es : List Event) → IsRun s es → KeptIsLast (after s es) × HeldIsHeld (after s es)
