-- Where each session follows a plan, the first message of each link into a living process fits, with no more
-- said of the message.
use Rattle.std.specs.Prelude.{◌≡◌, ◌≢◌, false, List, ◌∷◌}
use Rattle.group_types.specs.Dimensions.{Dimensions}
use Rattle.group_types.specs.Names.{IsProcess}
use Rattle.group_types.specs.declared.process.ProcessId.{ProcessId}
use Rattle.group_message.specs.declared.message.Message.{Message}
use Rattle.group_run.specs.Fitting.{Fits}
use Rattle.group_run.specs.World.{AskedCall}
use Rattle.law_moves.specs.State.{State}
use Rattle.law_bytes.proofs.Stamps.{SessionsStand}
use Rattle.law_headline.proofs.MeetingWords.{GroupStands}

-- the first message of each link into a living process fits
abbrev pub EveryFirstFits : Dimensions → State → Type 0
EveryFirstFits s v = (x p : ProcessId) (m : Message) (rest : List Message) → IsProcess s x → IsProcess s p → x ≢ p → v.dead p ≡ false
    → v.link x p ≡ m ∷ rest → Fits s x m (v.process p)

-- so it is in every such group in which each session follows a plan
abbrev pub PlannedFit : Type 0
PlannedFit = (s : Dimensions) (calls : List AskedCall) (v : State) → GroupStands s calls v → SessionsStand s v → EveryFirstFits s v
