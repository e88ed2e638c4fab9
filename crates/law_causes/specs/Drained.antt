-- Where no delivery is next.
use Rattle.std.specs.Prelude.{◌≡◌, ◌↔◌, List, None}
use Rattle.group_types.specs.Dimensions.{Dimensions}
use Rattle.group_calls.specs.declared.event.Event.{Event}
use Rattle.group_run.specs.Draining.{next_delivery}
use Rattle.group_run.specs.Headline.{IsRun}
use Rattle.group_run.specs.Meaning.{IsDrained}
use Rattle.group_run.specs.World.{World, after}

-- no delivery is next exactly where every link into a living process is empty
abbrev pub NextTellsDrained : World → Type 0
NextTellsDrained w = (next_delivery w ≡ None) ↔ IsDrained w

-- at every moment of every run
abbrev pub NextAlways : Type 0
NextAlways = (s : Dimensions) (es : List Event) → IsRun s es → NextTellsDrained (after s es)
