-- What is still owed where a head issues an update: the one place that makes a history no other had.
use Rattle.std.specs.Prelude.{ℕ, ◌≡◌, List, [], ◌∷◌, ◌++◌, Some}
use Rattle.group_types.specs.Dimensions.{Dimensions, space_of}
use Rattle.group_types.specs.Hash.{home_of}
use Rattle.group_types.specs.declared.process.ProcessId.{ProcessId}
use Rattle.memc_table.specs.Act.{key_of}
use Rattle.memc_table.specs.Asked.{Asked}
use Rattle.group_message.specs.declared.update.Body.{Body}
use Rattle.group_message.specs.declared.update.Outcome.{Outcome}
use Rattle.group_message.specs.declared.update.Update.{Update}
use Rattle.group_calls.specs.Turns.{CallName}
use Rattle.group_calls.specs.declared.decision.Decision.TheVariants as decides
use Rattle.group_run.specs.Applying.{head_at, replica_of}
use Rattle.group_run.specs.Asking.{found_at, update_of}
use Rattle.group_run.specs.Deciding.{decide}
use Rattle.group_run.specs.Process.{Head, Process}
use Rattle.group_run.specs.History.{history}
use Rattle.law_moves.specs.State.{State}

-- whatever a head of partition d would decide to issue for a call keeps the sentence on histories
abbrev pub IssuesIn : (ℕ → ℕ → List Update → Type 0) → Dimensions → ℕ → List Update → Process → CallName → Asked → Type 0
IssuesIn F s d settled p name op = (h : Head) (body : Body) (outcome : Outcome) → head_at p d ≡ Some h
    → decide (space_of s) h.inherited (replica_of p d) op (found_at s d p p.name) ≡ decides.Issue body outcome
    → F d (replica_of p d).applied (history settled (replica_of p d) ++ update_of name op d body outcome p ∷ [])

-- so it is at process p, in the partition of the call's key
abbrev pub IssueKeeps : (ℕ → ℕ → List Update → Type 0) → Dimensions → State → ProcessId → CallName → Asked → Type 0
IssueKeeps F s v p name op = IssuesIn F s (home_of (key_of op.act) s.k) (v.settled (home_of (key_of op.act) s.k)) (v.process p) name op
