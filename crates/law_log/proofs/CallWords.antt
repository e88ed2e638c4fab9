-- The moves of a state beside the calls whose updates were issued, and what carries a sentence on both along
-- every run.
use Rattle.std.specs.Prelude.{ℕ, ◌≡◌, ◌≢◌, ◌<◌, false, List, [], ◌++◌, All}
use Rattle.std.specs.List.{range_with_len}
use Rattle.group_types.specs.Dimensions.{Dimensions}
use Rattle.group_types.specs.Names.{IsProcess}
use Rattle.group_types.specs.declared.process.ProcessId.{ProcessId}
use Rattle.memc_table.specs.Act.{act_value}
use Rattle.group_message.specs.declared.message.Message.{Message}
use Rattle.group_calls.specs.declared.event.Event.{Event}
use Rattle.group_run.specs.Asking.{ask_process, collect_from}
use Rattle.group_run.specs.Headline.{IsRun}
use Rattle.group_run.specs.Receiving.{receive}
use Rattle.group_run.specs.Replica.{callers}
use Rattle.group_run.specs.World.{AskedCall, flush_process, is_issued}
use Rattle.law_moves.proofs.Moves.{Acted, Died, Popped}
use Rattle.law_moves.specs.State.{IsGroupUp, State, state_of}
use Rattle.law_moves.proofs.State.{Opens}
use Rattle.law_updates.proofs.Fine.{ComesBehind}
use Rattle.law_log.specs.Book.{book_of, call_if}

-- a call that may be asked next: its caller is in range, its value consists of bytes, and it comes behind the
-- others of its caller
pub record IsNextCall (calls : List AskedCall) (c : AskedCall) : Type 0 where
  pub caller : c.name.caller < callers
  pub bytes : All (λ b. b < 256) (act_value c.op.act)
  pub behind : ComesBehind calls c

-- a sentence on the issued calls and the state that every move keeps; an ask names the next call of its caller,
-- which is issued if the answer says so
pub record KeepsCalls (s : Dimensions) (P : List AskedCall → State → Type 0) : Type 0 where
  pub opens : (v : State) → Opens s v → P [] v
  pub asks : (calls : List AskedCall) (v w : State) (p : ProcessId) (c : AskedCall) → IsProcess s p → IsGroupUp s v → v.dead p ≡ false → IsNextCall calls c
      → P calls v → Acted s v w p (ask_process s c.name c.op (v.process p)).step
      → P (calls ++ call_if (is_issued (ask_process s c.name c.op (v.process p)).answer) c) w
  pub collects : (calls : List AskedCall) (v w : State) (p : ProcessId) (caller call : ℕ) → IsProcess s p → IsGroupUp s v → v.dead p ≡ false
      → P calls v → Acted s v w p (collect_from caller call (v.process p) (range_with_len 0 s.k)).step → P calls w
  pub flushes : (calls : List AskedCall) (v w : State) (p : ProcessId) → IsProcess s p → IsGroupUp s v → v.dead p ≡ false
      → P calls v → Acted s v w p (flush_process s (v.process p)).step → P calls w
  pub receives : (calls : List AskedCall) (v u w : State) (x p : ProcessId) (m : Message) → IsProcess s x → IsProcess s p → x ≢ p → IsGroupUp s v
      → v.dead p ≡ false
      → P calls v → Popped s v u x p m → Acted s u w p (receive s x m (v.process p)) → P calls w
  pub dies : (calls : List AskedCall) (v w : State) (p : ProcessId) (keep : ℕ) → IsProcess s p → P calls v → Died s v w p keep → P calls w

-- a sentence that every move keeps holds along every run
abbrev pub CallsAreKept : Type 1
CallsAreKept = (s : Dimensions) (P : List AskedCall → State → Type 0) → KeepsCalls s P
    → (es : List Event) → IsRun s es → P (book_of s es).issued (state_of (book_of s es).history)
