-- Rows on their way have a number for each partition and come from another process than they go to, and the
-- open sessions of a process have rising numbers.
use Rattle.std.specs.Prelude.{ℕ, ◌≡◌, ◌≢◌, ◌≤◌, false, List, length, map}
use Rattle.group_types.specs.Dimensions.{Dimensions}
use Rattle.group_types.specs.Names.{IsProcess}
use Rattle.group_types.specs.declared.process.ProcessId.{ProcessId}
use Rattle.group_types.specs.Each.{Each}
use Rattle.group_message.specs.declared.message.Message.{Message}
use Rattle.group_message.specs.declared.message.Message.TheVariants as tells
use Rattle.group_run.specs.Process.{Gathering, LeaderState}
use Rattle.law_moves.specs.State.{State}
use Rattle.law_bytes.specs.Decoding.{Rising}

-- a row from x to q has a number for each partition, and x isn't q
abbrev pub RowSound : Dimensions → ProcessId → ProcessId → Message → Type 0
RowSound s x q (tells.Row session bytes stamp) = (length stamp ≡ s.k) × (x ≢ q)
RowSound s x q _ = Unit {0}

-- the numbers of some sessions, in order
abbrev pub numbers_of : List Gathering → List ℕ
numbers_of gs = map (λ g. g.number) gs

-- the numbers of a leader's open sessions rise, up to the last that it opened
pub record Numbered (l : LeaderState) : Type 0 where
  pub rises : Rising (numbers_of l.sessions)
  pub below : Each (λ g. g.number ≤ l.last_session) l.sessions

-- so are all rows on their way to living processes, from themselves too, and the sessions of these
pub record RowsSound (s : Dimensions) (v : State) : Type 0 where
  pub links : (x q : ProcessId) → IsProcess s x → IsProcess s q → v.dead q ≡ false → Each (RowSound s x q) (v.link x q)
  pub sessions : (p : ProcessId) → IsProcess s p → v.dead p ≡ false → Numbered (v.process p).as_leader
