-- The log stands beside what is settled, and a head issues what prolongs its fine history.
use Rattle.std.specs.Prelude.{ℕ, ◌≡◌, List, [], ◌∷◌, ◌++◌}
use Rattle.group_types.specs.Dimensions.{Dimensions, space_of}
use Rattle.group_types.specs.Hash.{home_of}
use Rattle.memc_table.specs.Act.{key_of}
use Rattle.group_message.specs.declared.update.Body.{Body}
use Rattle.group_message.specs.declared.update.Outcome.{Outcome}
use Rattle.group_message.specs.declared.update.Update.{Update}
use Rattle.group_calls.specs.declared.decision.Decision.TheVariants.{Issue}
use Rattle.group_run.specs.Applying.{replica_of}
use Rattle.group_run.specs.Asking.{found_at, update_of}
use Rattle.group_run.specs.Deciding.{decide}
use Rattle.group_run.specs.Process.{Head, Process}
use Rattle.law_updates.specs.Fine.{Fine}
use Rattle.law_log.proofs.CallWords.{IsNextCall}
use Rattle.group_calls.specs.declared.event.Event.{Event}
use Rattle.group_run.specs.Headline.{IsRun}
use Rattle.group_run.specs.World.{AskedCall, after}
use Rattle.group_run.specs.History.{history}
use Rattle.law_log.specs.Book.{book_of}
use Rattle.law_log.specs.Stands.{HeadStands, StandsAlways}
use Rattle.law_log.proofs.Ties.{ArePlaced, LogStands}

-- the log stands beside what is settled, and the places are the runs of the settled updates
pub record LogTies (s : Dimensions) (es : List Event) : Type 0 where
  pub stands : LogStands s (book_of s es).issued (after s es).log (book_of s es).history.settled
  pub placed : ArePlaced (after s es).places (book_of s es).history.settled

-- so it is along every run in which heads stand
abbrev pub LogIsTied : Type 0
LogIsTied = (s : Dimensions) → StandsAlways s → (es : List Event) → IsRun s es → LogTies s es

-- a head that stands issues for the next call of a caller an update that prolongs its fine history
abbrev pub HeadsIssueFine : Type 0
HeadsIssueFine = (s : Dimensions) (calls : List AskedCall) (settled : List Update) (d : ℕ) (p : Process) (h : Head) (c : AskedCall) (body : Body)
    (outcome : Outcome)
    → HeadStands s calls settled d p h → IsNextCall calls c → home_of (key_of c.op.act) s.k ≡ d
    → decide (space_of s) h.inherited (replica_of p d) c.op (found_at s d p p.name) ≡ Issue body outcome
    → Fine s (calls ++ c ∷ []) d (replica_of p d).applied (history settled (replica_of p d) ++ update_of c.name c.op d body outcome p ∷ [])
