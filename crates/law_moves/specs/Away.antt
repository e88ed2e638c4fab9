-- Where a call is sent away.
use Rattle.std.specs.Prelude.{ℕ, ◌≡◌, ◌↔◌, true, List}
use Rattle.group_types.specs.Dimensions.{Dimensions}
use Rattle.group_types.specs.declared.process.ProcessId.{ProcessId}
use Rattle.memc_table.specs.Asked.{Asked}
use Rattle.group_calls.specs.declared.event.Answer.TheVariants as says
use Rattle.group_calls.specs.declared.event.Event.{Event}
use Rattle.group_calls.specs.declared.event.Event.TheVariants.{Ask}
use Rattle.group_run.specs.Causes.{IsReady, IsUp, home_in}
use Rattle.group_run.specs.Headline.{IsRun, MayCome}
use Rattle.group_run.specs.Meaning.{IsDown, is_dead}
use Rattle.group_run.specs.World.{World, after, step}

-- the answers to a call that isn't served here, each exactly where it should come
pub record SentAway (w : World) (caller : ℕ) (op : Asked) (p : ProcessId) : Type 0 where
  pub down : ((step w (Ask caller op p)).turn.answer ≡ says.Down) ↔ IsDown w
  pub lost : ((step w (Ask caller op p)).turn.answer ≡ says.Lost) ↔ ((¬ (IsDown w)) × (is_dead w p ≡ true))
  pub moved : ((step w (Ask caller op p)).turn.answer ≡ says.Moved) ↔ (IsUp w p × (¬ (IsReady w p (home_in w op))))

-- so it is along every run
abbrev pub AwayAlways : Type 0
AwayAlways = (s : Dimensions) (es : List Event) → IsRun s es → (caller : ℕ) (op : Asked) (p : ProcessId)
    → MayCome (after s es) (Ask caller op p) → SentAway (after s es) caller op p
