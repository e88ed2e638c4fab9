-- The machine's run of a schedule, as the rule of a stage reads it.
use Rattle.std.specs.Prelude.{◌≡◌, ℕ, ◌==◌, List, ◌++◌, if◌then◌else◌}
use Rattle.group_types.specs.Dimensions.{Dimensions}
use Rattle.group_types.specs.Lists.{at}
use Rattle.group_calls.specs.declared.event.Answer.{Answer}
use Rattle.group_calls.specs.declared.event.Event.{Event}
use Rattle.group_calls.specs.declared.event.Event.TheVariants.{Ask}
use Rattle.group_run.specs.World.{after, group_step}
use Rattle.group_node.specs.Standing.{NodeStanding}
use Rattle.group_core.specs.Schedules.{node_after_schedule}

-- the machine's node of the process at an index, after a schedule, as a node is seen
abbrev pub standing_at : Dimensions → List Event → ℕ → NodeStanding
standing_at s es p = record { shape = s; node = node_after_schedule s es p }

-- the machine's answer to an event after a schedule
abbrev pub answer_at : Dimensions → List Event → Event → Answer
answer_at s es e = (group_step (after s es) e).answer

-- how many calls a caller asked, after a schedule
abbrev pub asked_at : Dimensions → List Event → ℕ → ℕ
asked_at s es caller = at 0 (after s es).asked caller

-- 1 for an ask of this caller
abbrev pub ask_by : ℕ → Event → ℕ
ask_by c (Ask caller op p) = if caller == c then 1 else 0
ask_by c _ = 0

-- the first events of the list are these
pub record StartsWith (all first : List Event) : Type 0 where
  pub rest : List Event
  pub whole : all ≡ first ++ rest
