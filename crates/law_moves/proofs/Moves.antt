-- The three moves of a state, and the sentences that every move keeps.
use Rattle.std.specs.Prelude.{ℕ, ◌≡◌, ◌≢◌, ◌<◌, ◌⊎◌, true, false, List, [], ◌∷◌, ◌++◌, take, All}
use Rattle.std.specs.List.{range_with_len}
use Rattle.group_types.specs.Dimensions.{Dimensions}
use Rattle.group_types.specs.Names.{IsProcess}
use Rattle.group_types.specs.declared.process.ProcessId.{ProcessId}
use Rattle.membership.specs.Members.{knows_dead}
use Rattle.memc_table.specs.Act.{act_value}
use Rattle.memc_table.specs.Asked.{Asked}
use Rattle.group_message.specs.declared.message.Message.{Message}
use Rattle.group_message.specs.declared.message.Message.TheVariants as tells
use Rattle.group_calls.specs.Turns.{CallName}
use Rattle.group_calls.specs.declared.event.Event.{Event}
use Rattle.group_run.specs.Applying.{ProcessStep}
use Rattle.group_run.specs.Asking.{ask_process, collect_from}
use Rattle.group_run.specs.Headline.{IsRun, MayCome}
use Rattle.group_run.specs.History.{history_of, no_history, prolonged, settled_with}
use Rattle.group_run.specs.Process.{Process}
use Rattle.group_run.specs.Receiving.{receive}
use Rattle.group_run.specs.World.{after, flush_process, sent_to}
use Rattle.law_moves.specs.State.{IsGroupUp, State, state_of}
use Rattle.law_moves.proofs.State.{Opens}

-- one process makes a step: what it sends stands behind its links to those that it doesn't know to be dead,
-- and what it settles for the first time behind what is settled
pub record Acted (s : Dimensions) (v w : State) (p : ProcessId) (t : ProcessStep) : Type 0 where
  pub process : w.process p ≡ t.process
  pub others : (q : ProcessId) → IsProcess s q → q ≢ p → w.process q ≡ v.process q
  pub dead : (q : ProcessId) → IsProcess s q → w.dead q ≡ v.dead q
  pub sends : (q : ProcessId) → IsProcess s q → knows_dead t.process.known q ≡ false → w.link p q ≡ v.link p q ++ sent_to q t.sent
  pub links : (x q : ProcessId) → IsProcess s x → IsProcess s q → x ≢ p → w.link x q ≡ v.link x q
  pub settled : (d : ℕ) → d < s.k → w.settled d ≡ settled_with t.settled d (v.settled d)

-- the first message is taken out of the link from x to p
pub record Popped (s : Dimensions) (v u : State) (x p : ProcessId) (m : Message) : Type 0 where
  pub first : v.link x p ≡ m ∷ u.link x p
  pub links : (y q : ProcessId) → IsProcess s y → IsProcess s q → (y ≢ x) ⊎ (q ≢ p) → u.link y q ≡ v.link y q
  pub processes : (q : ProcessId) → IsProcess s q → u.process q ≡ v.process q
  pub dead : (q : ProcessId) → IsProcess s q → u.dead q ≡ v.dead q
  pub settled : (d : ℕ) → u.settled d ≡ v.settled d

-- a process dies: its links are cut, and its notice stands behind
pub record Died (s : Dimensions) (v w : State) (p : ProcessId) (keep : ℕ) : Type 0 where
  pub lived : v.dead p ≡ false
  pub dead : w.dead p ≡ true
  pub others : (q : ProcessId) → IsProcess s q → q ≢ p → w.dead q ≡ v.dead q
  pub processes : (q : ProcessId) → IsProcess s q → w.process q ≡ v.process q
  pub cut : (q : ProcessId) → IsProcess s q → w.link p q ≡ take keep (v.link p q) ++ tells.Notice p ∷ []
  pub links : (x q : ProcessId) → IsProcess s x → IsProcess s q → x ≢ p → w.link x q ≡ v.link x q
  pub settled : (d : ℕ) → w.settled d ≡ v.settled d

-- what a process makes of a call, of a collect, or of being told to tell how far it has settled
pub data Treats (s : Dimensions) (p : Process) : ProcessStep → Type 0 where
  Asks : (name : CallName) (op : Asked) → All (λ b. b < 256) (act_value op.act) → Treats s p (ask_process s name op p).step
  Collects : (caller call : ℕ) → Treats s p (collect_from caller call p (range_with_len 0 s.k)).step
  Flushes : Treats s p (flush_process s p).step

-- a sentence that every move keeps
pub record Keeps (s : Dimensions) (P : State → Type 0) : Type 0 where
  pub opens : (v : State) → Opens s v → P v
  pub treats : (v w : State) (p : ProcessId) (t : ProcessStep) → IsProcess s p → IsGroupUp s v → v.dead p ≡ false
      → Treats s (v.process p) t → P v → Acted s v w p t → P w
  pub receives : (v u w : State) (x p : ProcessId) (m : Message) → IsProcess s x → IsProcess s p → x ≢ p → IsGroupUp s v → v.dead p ≡ false
      → P v → Popped s v u x p m → Acted s u w p (receive s x m (v.process p)) → P w
  pub dies : (v w : State) (p : ProcessId) (keep : ℕ) → IsProcess s p → P v → Died s v w p keep → P w

-- an event makes one of the moves, or leaves the state as it is
pub data Moves (s : Dimensions) (v w : State) : Type 0 where
  Stays : w ≡ v → Moves s v w
  Treated : (p : ProcessId) (t : ProcessStep) → IsProcess s p → IsGroupUp s v → v.dead p ≡ false → Treats s (v.process p) t → Acted s v w p t → Moves s v w
  Received : (u : State) (x p : ProcessId) (m : Message) → IsProcess s x → IsProcess s p → x ≢ p → IsGroupUp s v → v.dead p ≡ false
      → Popped s v u x p m → Acted s u w p (receive s x m (v.process p)) → Moves s v w
  Failed : (p : ProcessId) (keep : ℕ) → IsProcess s p → Died s v w p keep → Moves s v w

-- a run begins in an opening state, and each event that may come makes a move
pub record RunMoves (s : Dimensions) : Type 0 where
  pub opens : Opens s (state_of (no_history s))
  pub moves : (es : List Event) (e : Event) → IsRun s es → MayCome (after s es) e
      → Moves s (state_of (history_of s es)) (state_of (prolonged (history_of s es) e))

-- so it is for every shape
abbrev pub RunsMove : Type 0
RunsMove = (s : Dimensions) → RunMoves s
