-- What a script keeps to that is read from a text: its callers and calls are within their limits, and its last step, and no
-- other one, asks for the places.
use Rattle.std.specs.Prelude.{◌≡◌, ◌<◌, ◌^◌, List, [], ◌∷◌, length, ⊤}
use Rattle.group_types.specs.Dimensions.{Dimensions, callers}
use Rattle.group_types.specs.Names.{IsProcess}
use Rattle.group_calls.specs.declared.event.Event.{Event}
use Rattle.group_calls.specs.declared.event.Event.TheVariants as happens
use Rattle.run_verify.specs.Steps.{Script}
use Rattle.run_verify.specs.declared.step.Step.{Step}
use Rattle.run_verify.specs.declared.step.Step.TheVariants.{Make, Deliveries, Look, Placing}

-- an event whose caller and call are within their limits
abbrev pub IsEventInRange : Event → Type 0
IsEventInRange (happens.Ask caller op p) = caller < callers
IsEventInRange (happens.Collect caller call p) = (caller < callers) × (call < 2 ^ 64)
IsEventInRange (happens.Trace caller call d p) = (caller < callers) × (call < 2 ^ 64)
IsEventInRange (happens.Deliver from to) = ⊤
IsEventInRange (happens.Fail p keep) = ⊤
IsEventInRange (happens.Flush p) = ⊤

-- a step whose event is, or whose process is one of the group
abbrev pub FitsStep : Dimensions → Step → Type 0
FitsStep s (Make event) = IsEventInRange event
FitsStep s Deliveries = ⊤
FitsStep s (Look p run) = IsProcess s p
FitsStep s Placing = ⊤

abbrev pub FitSteps : Dimensions → List Step → Type 0
FitSteps s [] = Unit {0}
FitSteps s (step ∷ steps) = FitsStep s step × FitSteps s steps

-- the last step, and no other one, asks for the places
abbrev pub EndsPlacing : List Step → Type 0
EndsPlacing [] = ⊥
EndsPlacing (Placing ∷ steps) = steps ≡ []
EndsPlacing (Make e ∷ steps) = EndsPlacing steps
EndsPlacing (Deliveries ∷ steps) = EndsPlacing steps
EndsPlacing (Look p run ∷ steps) = EndsPlacing steps

pub record IsPlainScript (script : Script) : Type 0 where
  pub fits : FitSteps script.shape script.steps
  pub few : length script.steps < 2 ^ 64
  pub ends : EndsPlacing script.steps
