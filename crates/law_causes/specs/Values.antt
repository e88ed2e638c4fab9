-- Which updates have a run.
use Rattle.std.specs.Prelude.{ℕ, ◌≡◌, ◌<◌, Bool, true, false, List, Some, is_some, slice_get}
use Rattle.group_types.specs.Dimensions.{Dimensions}
use Rattle.memc_table.specs.declared.act.Act.{Act}
use Rattle.memc_table.specs.declared.act.Act.TheVariants.{Delete, Get, Touch}
use Rattle.group_calls.specs.declared.event.Event.{Event}
use Rattle.group_run.specs.Headline.{IsRun}
use Rattle.group_run.specs.Meaning.{Logged, updates_of}
use Rattle.group_run.specs.World.{World, after}

-- the act gives its key a value: all but a get, a deletion and a touch
abbrev pub gives_value : Act → Bool
gives_value (Get _) = false
gives_value (Delete _) = false
gives_value (Touch _ _) = false
gives_value _ = true

-- a logged update has a run exactly where its op does
abbrev pub RunsAreOfValues : World → Type 0
RunsAreOfValues w = (d n : ℕ) (u : Logged) → d < w.shape.k → slice_get (updates_of w d) n ≡ Some u → is_some u.run ≡ gives_value u.entry.op.act

-- along every run
abbrev pub RunsAlways : Type 0
RunsAlways = (s : Dimensions) (es : List Event) → IsRun s es → RunsAreOfValues (after s es)
