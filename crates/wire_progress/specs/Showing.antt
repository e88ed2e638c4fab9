-- Where all that are ever cut are among at most m, every open call of a gateway that goes on can be shown.
use Rattle.std.specs.Prelude.{ℕ, ◌≡◌, false, List, Some}
use Rattle.group_types.specs.Dimensions.{Dimensions}
use Rattle.group_calls.specs.declared.event.Answer.{Answer}
use Rattle.group_wire.specs.Actions.{Action}
use Rattle.group_wire.specs.Composed.{AreActions, composed}
use Rattle.group_wire.specs.GoingOn.{CanBe, IsEnd, IsShownAs, OthersAreHere}
use Rattle.group_wire.specs.May.{IsCaller}
use Rattle.group_wire.specs.Sets.{Processes}
use Rattle.group_wire.specs.State.{OpenCall, gateway_of}

-- as ended by a reply or want of space; whatever it asks and wherever it stands: to be asked, asked of a member, with a
-- ticket, of unknown fate, traced, or answered
abbrev pub CallsCanBeShown : Type 0
CallsCanBeShown = (s : Dimensions) (actions : List Action) (named : Processes) (caller : ℕ) (o : OpenCall) → AreActions s actions
    → OthersAreHere (composed s actions).group named → IsCaller (composed s actions).group caller → named (gateway_of s caller) ≡ false
    → (composed s actions).group.gateways.call caller ≡ Some o
    → CanBe s actions (λ c. (answer : Answer) × IsEnd answer × IsShownAs caller o answer c)
