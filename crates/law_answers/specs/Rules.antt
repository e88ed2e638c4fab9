-- The rules of a head that is ready, in their order: where no earlier one decides, each decides the answer by its premise.
use Rattle.std.specs.Prelude.{ℕ, suc, ◌≡◌, ◌<◌, ◌⊎◌, true, false, List, length, Option, Some, None}
use Rattle.group_types.specs.Dimensions.{Dimensions}
use Rattle.group_types.specs.declared.process.Partition.{Partition}
use Rattle.group_types.specs.declared.process.ProcessId.{ProcessId}
use Rattle.group_types.specs.declared.run.Run.{Run}
use Rattle.memc_table.specs.Act.{key_of}
use Rattle.memc_table.specs.Asked.{Asked}
use Rattle.memc_table.specs.Contents.{reply_of}
use Rattle.memc_table.specs.declared.holding.Holding.{Holding}
use Rattle.group_calls.specs.Turns.{accepts}
use Rattle.group_calls.specs.declared.event.Answer.{Answer}
use Rattle.group_calls.specs.declared.event.Answer.TheVariants.{NoSpace, Reply, Retry, Ticket}
use Rattle.group_calls.specs.declared.event.Cause.TheVariants.{Block, Pending}
use Rattle.group_calls.specs.declared.event.Event.{Event}
use Rattle.group_calls.specs.declared.event.Event.TheVariants.{Ask}
use Rattle.group_run.specs.Applying.{replica_of}
use Rattle.group_run.specs.Causes.{FindsNoRun, FindsWindowFull, HasInherited, IsReady, IsUp, MissesBlock, NeedsItem}
use Rattle.group_run.specs.Causes.{NeedsPlace, WaitsForKey, home_in, replica_for, table_now}
use Rattle.group_run.specs.Deciding.{is_blind, window}
use Rattle.group_run.specs.Headline.{IsRun, MayCome}
use Rattle.group_run.specs.Meaning.{process_of}
use Rattle.group_run.specs.Replica.{last_of}
use Rattle.group_run.specs.World.{World, after, step}

-- no unfinished update on the key stands in the way
abbrev pub IsUnhindered : World → ProcessId → Asked → Type 0
IsUnhindered w p op = (d n : ℕ) → ¬ (WaitsForKey w p op d n)

-- how many bytes the item of the op's key has in the table, 0 where there is none
abbrev pub held_length : Option Holding → ℕ
held_length None = 0
held_length (Some h) = length h.item.value

-- the table refuses the op
abbrev pub Refuses : World → Asked → Type 0
Refuses w op = accepts (reply_of (table_now w) op) ≡ false

-- and no byte of the item is needed to say so
abbrev pub RefusesBlindly : World → Asked → Type 0
RefusesBlindly w op = Refuses w op × (is_blind (held_length ((table_now w).items (key_of op.act))) (reply_of (table_now w) op) ≡ true)

-- the bytes of the item that the op needs are there
abbrev pub CanRead : World → ProcessId → Asked → Type 0
CanRead w p op = (run : Run) (b : ℕ) → NeedsItem w p op run → ¬ (MissesBlock w p op run b)

-- the bytes under the new value are there
abbrev pub CanWrite : World → ProcessId → Asked → Type 0
CanWrite w p op = (run : Run) (b : ℕ) → NeedsPlace w p op run → ¬ (MissesBlock w p op run b)

-- another update of the partition may be issued
abbrev pub HasWindow : World → ProcessId → Asked → Type 0
HasWindow w p op = length (replica_for w p op).log < window

-- n is the oldest inherited update that is unfinished at the process, of the lowest partition that has one
pub record IsOldestInherited (w : World) (p : ProcessId) (d n : ℕ) : Type 0 where
  pub partition : d < w.shape.k
  pub has : HasInherited (process_of w p) d
  pub lowest : (e : ℕ) → e < d → ¬ (HasInherited (process_of w p) e)
  pub oldest : n ≡ suc (replica_of (process_of w p) d).applied

-- block b has to be rebuilt: what was inherited is waited for first
pub record WaitsForBlock (w : World) (p : ProcessId) (b : ℕ) (answer : Answer) : Type 0 where
  pub inherited : (d : Partition) (n : ℕ) → IsOldestInherited w p d.0 n → answer ≡ Retry (Pending d n)
  pub none : ((d : ℕ) → d < w.shape.k → ¬ (HasInherited (process_of w p) d)) → answer ≡ Retry (Block b)

-- the op is issued as the next update, and answered by the table's reply where it is settled at once
abbrev pub IsIssued : World → ProcessId → Asked → Answer → Type 0
IsIssued w p op answer = (answer ≡ Ticket (suc (last_of (replica_for w p op)))) ⊎ (answer ≡ Reply (reply_of (table_now w) op))

-- the rules
pub record FollowsRules (w : World) (p : ProcessId) (op : Asked) (answer : Answer) : Type 0 where
  pub key : (d : Partition) (n : ℕ) → WaitsForKey w p op d.0 n → answer ≡ Retry (Pending d n)
  pub blind : IsUnhindered w p op → RefusesBlindly w op → answer ≡ Reply (reply_of (table_now w) op)
  pub item : IsUnhindered w p op → ¬ (RefusesBlindly w op) → (run : Run) (b : ℕ) → NeedsItem w p op run → MissesBlock w p op run b → WaitsForBlock w p b answer
  pub refusal : IsUnhindered w p op → CanRead w p op → Refuses w op → answer ≡ Reply (reply_of (table_now w) op)
  pub full : IsUnhindered w p op → CanRead w p op → (d : Partition) (n : ℕ) → FindsWindowFull w p op d.0 n → answer ≡ Retry (Pending d n)
  pub space : IsUnhindered w p op → CanRead w p op → HasWindow w p op → FindsNoRun w p op → answer ≡ NoSpace
  pub place : IsUnhindered w p op → CanRead w p op → HasWindow w p op → (run : Run) (b : ℕ) → NeedsPlace w p op run
      → MissesBlock w p op run b → WaitsForBlock w p b answer
  pub issue : IsUnhindered w p op → CanRead w p op → HasWindow w p op → ¬ (FindsNoRun w p op) → CanWrite w p op → accepts (reply_of (table_now w) op) ≡ true
      → IsIssued w p op answer

-- each ask at a head that is ready is answered by them
abbrev pub AsksFollowRules : World → Type 0
AsksFollowRules w = (caller : ℕ) (op : Asked) (p : ProcessId) → MayCome w (Ask caller op p) → IsUp w p → IsReady w p (home_in w op)
    → FollowsRules w p op (step w (Ask caller op p)).turn.answer

-- so it is along every run
abbrev pub RulesAlways : Type 0
RulesAlways = (s : Dimensions) (es : List Event) → IsRun s es → AsksFollowRules (after s es)
