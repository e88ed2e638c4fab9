-- What holds of an update that a head decided on, before it is issued.
use Rattle.std.specs.Prelude.{◌≡◌, ◌-◌, ◌<◌, ⊤, ℕ, List, [], length, IfSome}
use Rattle.group_types.specs.Dimensions.{Dimensions, space_of}
use Rattle.group_message.specs.declared.message.Message.TheVariants as tells
use Rattle.group_message.specs.declared.update.Body.{Body}
use Rattle.group_message.specs.declared.update.Body.TheVariants.{Put}
use Rattle.group_message.specs.declared.update.Update.{Update}
use Rattle.group_calls.specs.declared.decision.Decision.{Decision}
use Rattle.group_calls.specs.declared.decision.Decision.TheVariants.{Answer, Retry, NoSpace, NeedBlock, Issue}
use Rattle.run_alloc.specs.Free.{AllFree}
use Rattle.group_run.specs.Deciding.{window}
use Rattle.group_run.specs.Fitting.{Writes}
use Rattle.group_run.specs.Free.{is_free}
use Rattle.group_run.specs.Applying.{Sent, Settlement}
use Rattle.group_run.specs.Heading.{partition, rank}
use Rattle.group_run.specs.Process.{Head}
use Rattle.group_run.specs.Replica.{Replica, freed_by, items_after, run_of, slot_in}
use Rattle.head_service.specs.Peers.{settles, to_all}
use Rattle.head_service.specs.declared.peers.Peers.{Peers}

-- an update of this body on a key can come next: its value has a free run, it gives back what its key
-- has once all that waits is settled, and fewer than 256 updates wait
pub record CanIssue (space : ℕ) (r : Replica) (key : List ℕ) (body : Body) : Type 0 where
  pub writes : Writes space body
  pub free : IfSome (run_of body) (λ run. AllFree (is_free space r) run.at run.len)
  pub frees : freed_by body (slot_in r.items key) ≡ freed_by body (slot_in (items_after r.items r.log) key)
  pub few : length r.log < window

-- what a head decided can be done
abbrev pub CanFollow : Dimensions → Replica → List ℕ → Decision → Type 0
CanFollow s r key (Issue body outcome) = CanIssue (space_of s) r key body
CanFollow s r key (Answer reply) = ⊤
CanFollow s r key (Retry n) = ⊤
CanFollow s r key NoSpace = ⊤
CanFollow s r key (NeedBlock b) = b < s.blocks

-- a value that is put has a run as long as its difference, and a block that is needed is one of the space
abbrev pub IsWholeDecision : Dimensions → Decision → Type 0
IsWholeDecision s (Issue (Put _ _ run delta) _) = run.len ≡ length delta
IsWholeDecision s (NeedBlock b) = b < s.blocks
IsWholeDecision s _ = ⊤

-- what issuing an update takes of memory, where the partition is applied up to a number: the number that is settled
-- then, what is sent, and an empty list with room for what is settled
pub record IsReadyToIssue (peers : Peers) (h : Head) (d : ℕ) (u : Update) (applied number : ℕ) (sent : List Sent)
    (settled : List Settlement) (capacity : ℕ) : Type 0 where
  pub reaches : number ≡ settles peers h u.number
  pub messages : sent ≡ to_all peers (tells.Update (rank h.rank) (partition d) u applied)
  pub empty : settled ≡ []
  pub fits : capacity ≡ number - applied
