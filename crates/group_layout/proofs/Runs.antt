-- Each group makes a run of its own.
use Rattle.std.proofs.Common.{ℕ, ◌≡◌, List, sym, ap, subst, ◌∙◌}
use Rattle.group_types.specs.Dimensions.{Dimensions}
use Rattle.group_types.specs.Shape.{IsShape}
use Rattle.group_types.proofs.Lists.{at-replicate}
use Rattle.group_calls.specs.Log.{IsLegal}
use Rattle.group_calls.specs.Turns.{log_of}
use Rattle.group_calls.specs.declared.event.Event.{Event}
use Rattle.group_run.specs.Headline.{Headline, IsRun, IsRunFrom}
use Rattle.group_run.specs.World.{World, after, opening, turns_from, turns_of, world_after}
use Rattle.law_headline.proofs.Headlines.{headline_always}
use Rattle.group_layout.specs.Cluster.{Groups, MayAllMove, Move, all_moved, logged_in, opening_groups, turns_made, world_in}
use Rattle.group_layout.specs.Promise.{AreRuns, MakesARun, MovesAreRuns, entries_in, events_in}
use Rattle.group_layout.specs.Within.{turns_in}
use Rattle.group_layout.proofs.Moves.{entries-logged, log-moved, run-moved, turns-moved, world-moved}

module _ (s : Dimensions) (count : ℕ) (moves : List Move) (limits : IsShape s) (may : MayAllMove (opening_groups s count) moves) where
  abbrev start : Groups
  start = opening_groups s count

  abbrev g : Groups
  g = all_moved start moves

  log-is : g.log ≡ logged_in (turns_made start moves)
  log-is = log-moved start moves

  module _ (j : ℕ) where
    abbrev es : List Event
    es = events_in j moves

    at-start : world_in start j ≡ opening s
    at-start = at-replicate (opening s) count j

    runs : IsRun s es
    runs = (limits, subst (λ (w : World). IsRunFrom w es) at-start (run-moved start moves j may))

    stands : world_in g j ≡ after s es
    stands = world-moved start moves j ∙ ap (λ (w : World). world_after w es) at-start

    turns-are : turns_in j (turns_made start moves) ≡ turns_of s es
    turns-are = turns-moved start moves j ∙ ap (λ (w : World). turns_from w es) at-start

    holds : Headline s es
    holds = headline_always s es runs

    entries-are : entries_in j g.log ≡ (after s es).log
    entries-are = ap (entries_in j) log-is ∙ entries-logged j (turns_made start moves) ∙ ap log_of turns-are ∙ sym holds.one_log.kept

    pub makes-a-run : MakesARun s g (turns_made start moves) j
    makes-a-run = record {
      events = es;
      run = runs;
      stands = stands;
      turns = turns-are;
      entries = entries-are;
      legal = subst (IsLegal s.k) (sym entries-are) holds.one_log.legal;
      headline = holds;
    }

  pub are-runs : AreRuns s count g (turns_made start moves)
  are-runs = record { log = log-is; each = λ j below. makes-a-run j }

pub moves_are_runs : MovesAreRuns
moves_are_runs s count moves limits may = are-runs s count moves limits may
