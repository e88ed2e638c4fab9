-- Histories of replicas: what they are, what a sentence on them has to keep, and that what is applied is
-- settled.
use Rattle.std.specs.Prelude.{ℕ, ◌≡◌, ◌≤◌, ◌-◌, List, [], length, replicate, take, drop, None}
use Rattle.group_message.specs.declared.message.Message.{Message}
use Rattle.group_message.specs.declared.update.Update.{Update}
use Rattle.group_run.specs.Replica.{Replica, callers, items_after, kept_after, up_to}
use Rattle.group_run.specs.History.{history}
use Rattle.law_histories.proofs.LaneWords.{Prolongs, Seen, next}
use Rattle.law_histories.proofs.Folds.{run}

-- what a sentence on histories has to keep: it is true of none, and stays true as more is applied
pub record HistoryLaws (F : ℕ → ℕ → List Update → Type 0) : Type 0 where
  pub start : (d : ℕ) → F d 0 []
  pub rises : (d a b : ℕ) (history : List Update) → F d a history → a ≤ b → b ≤ length history → F d b history

-- the settled items of a replica, and what it keeps of callers, are those that its applied updates leave
pub record ItemsFit (settled : List Update) (replica : Replica) : Type 0 where
  pub items : replica.items ≡ items_after [] (take replica.applied settled)
  pub kept : replica.kept ≡ kept_after (replicate callers None) (take replica.applied settled)

-- what a replica applies that prolongs the settled updates are the settled ones behind its own
abbrev pub AppliedIsSettled : Type 0
AppliedIsSettled = (settled : List Update) (r : Replica) (n : ℕ) → r.applied ≤ length settled → Prolongs settled (history settled r) → n ≤ length settled
    → up_to n r ≡ take (n - r.applied) (drop r.applied settled)

-- messages never lower the rank under which a partition is seen
abbrev pub RankRises : Type 0
RankRises = (d : ℕ) (seen : Seen) (ms : List Message) → seen.rank ≤ (run (next d) seen ms).rank
