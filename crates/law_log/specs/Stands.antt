-- What has to stand at every moment for the log: what is settled is fine, and heads have it.
use Rattle.std.specs.Prelude.{ℕ, ◌≡◌, ◌≢◌, ◌<◌, ◌≤◌, false, List, [], length, replicate, take, None, Some, Contains}
use Rattle.group_types.specs.Dimensions.{Dimensions}
use Rattle.group_types.specs.Lists.{at}
use Rattle.group_types.specs.Names.{IsProcess}
use Rattle.group_types.specs.declared.process.ProcessId.{ProcessId}
use Rattle.group_message.specs.declared.update.Outcome.{Outcome}
use Rattle.group_message.specs.declared.update.Update.{Update}
use Rattle.group_calls.specs.Turns.{CallName, Turn}
use Rattle.group_calls.specs.Within.{Traces}
use Rattle.group_calls.specs.declared.event.Answer.TheVariants as says
use Rattle.group_calls.specs.declared.event.Event.{Event}
use Rattle.group_run.specs.Applying.{head_at, held_at, replica_of}
use Rattle.group_run.specs.Asking.{found_at}
use Rattle.group_run.specs.Headline.{IsRun}
use Rattle.group_run.specs.Process.{Head, Held, Process}
use Rattle.group_run.specs.Replica.{callers, items_after, kept_after, last_of}
use Rattle.group_run.specs.World.{AskedCall, update_name}
use Rattle.group_run.specs.History.{history}
use Rattle.law_moves.specs.State.{IsGroupUp, State, state_of}
use Rattle.law_updates.specs.Decisions.{ReadsFrom}
use Rattle.law_updates.specs.Fine.{Fine}
use Rattle.law_updates.specs.Store.{store_after}
use Rattle.law_log.specs.Book.{book_of}

-- a head has every settled update of its partition, in a fine history; its items are those of what it has
-- applied, so are the outcomes that it keeps, and it finds in runs what the space has then. What it inherited
-- is settled first, and once it is, the head has applied all that is settled
pub record HeadStands (s : Dimensions) (calls : List AskedCall) (settled : List Update) (d : ℕ) (p : Process) (h : Head) : Type 0 where
  pub within : (replica_of p d).applied ≤ length settled
  pub reached : length settled ≤ last_of (replica_of p d)
  pub prolongs : take (length settled) (history settled (replica_of p d)) ≡ settled
  pub fine : Fine s calls d (replica_of p d).applied (history settled (replica_of p d))
  pub items : (replica_of p d).items ≡ items_after [] (take (replica_of p d).applied settled)
  pub kept : (replica_of p d).kept ≡ kept_after (replicate callers None) (take (replica_of p d).applied settled)
  pub reads : ReadsFrom (store_after s d (take (replica_of p d).applied settled)).space (found_at s d p p.name)
  pub inherits : (replica_of p d).applied < h.inherited → length settled ≤ h.inherited
  pub applied : h.inherited ≤ (replica_of p d).applied → (replica_of p d).applied ≡ length settled

-- a settled update of this call has this outcome
pub record IsSettledAs (settled : List Update) (name : CallName) (outcome : Outcome) : Type 0 where
  pub update : Update
  pub there : Contains settled update
  pub named : update_name update ≡ name
  pub ended : update.outcome ≡ outcome

-- what stands in a state beside the issued calls: what is settled is fine; and while the group isn't down, each
-- living head has it, and what is held of a call whose update is applied is that of a settled update
pub record Stands (s : Dimensions) (calls : List AskedCall) (v : State) : Type 0 where
  pub settled : (d : ℕ) → d < s.k → Fine s calls d (length (v.settled d)) (v.settled d)
  pub heads : IsGroupUp s v → (p : ProcessId) (d : ℕ) (h : Head) → IsProcess s p → v.dead p ≡ false → d < s.k → head_at (v.process p) d ≡ Some h
      → HeadStands s calls (v.settled d) d (v.process p) h
  pub held : IsGroupUp s v → (p : ProcessId) (d : ℕ) (x : Held) → IsProcess s p → v.dead p ≡ false → d < s.k → Contains (held_at (v.process p) d) x
      → x.number ≤ (replica_of (v.process p) d).applied → IsSettledAs (v.settled d) (record { caller = x.caller; call = x.call }) x.outcome

-- so it is along every run
abbrev pub StandsAlways : Dimensions → Type 0
StandsAlways s = (es : List Event) → IsRun s es → Stands s (book_of s es).issued (state_of (book_of s es).history)

-- a call that a trace told to be gone from a partition has no settled update there, then or later
abbrev pub GoneStays : Dimensions → Type 0
GoneStays s = (es : List Event) → IsRun s es → (turn : Turn) (name : CallName) (d : ℕ)
    → Contains (book_of s es).turns turn → Traces turn.event name d → turn.answer ≡ says.Gone
    → (u : Update) → Contains (at [] (book_of s es).history.settled d) u → update_name u ≢ name
