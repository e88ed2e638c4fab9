-- What the law of bytes takes from other laws: about the settled updates, about marks that are taken, and
-- about blocks that are newly rebuilt.
use Rattle.std.specs.Prelude.{ℕ, suc, ◌≡◌, ◌<◌, ◌≤◌, ◌+◌, true, List, ◌++◌, length, take, drop, Some, None, IfSome}
use Rattle.group_types.specs.Dimensions.{Dimensions}
use Rattle.group_types.specs.Lists.{at}
use Rattle.group_types.specs.declared.process.ProcessId.TheVariants.{ParityNode}
use Rattle.group_message.specs.declared.message.Message.{Message}
use Rattle.group_message.specs.declared.message.Message.TheVariants as tells
use Rattle.group_message.specs.declared.update.Update.{Update}
use Rattle.group_run.specs.Applying.{ProcessStep, replica_of}
use Rattle.group_run.specs.Leaders.{rebuilt_block}
use Rattle.group_run.specs.Process.{Process}
use Rattle.group_run.specs.Replica.{Replica, last_of}
use Rattle.group_run.specs.Rows.{accepts_mark, copy_in, parity_number}
use Rattle.group_run.specs.World.{settled_in}
use Rattle.law_bytes.specs.Areas.{IsBlock, value}
use Rattle.law_bytes.specs.Held.{stand}

-- a log goes on as the settled updates do, as far as both reach
abbrev pub GoesOn : List Update → Replica → Type 0
GoesOn settled r = (m : ℕ) → m ≤ length r.log → r.applied + m ≤ length settled → take m r.log ≡ take m (drop r.applied settled)

-- what a step applies is settled after it: it applies no more than is settled, and the logs go on as the settled
-- updates do
pub record AppliesSettled (s : Dimensions) (settled : ℕ → List Update) (p : Process) (t : ProcessStep) : Type 0 where
  pub within : (d : ℕ) → d < s.k → (replica_of t.process d).applied ≤ length (settled d)
  pub log : (d : ℕ) → d < s.k → GoesOn (settled d) (replica_of p d)

-- what a step settles are the next settled updates
abbrev pub SettlesNext : Dimensions → (ℕ → List Update) → Process → ProcessStep → Type 0
SettlesNext s settled p t = (d : ℕ) → d < s.k → let us : List Update = settled_in d t.settled in
    take ((replica_of p d).applied + length us) (settled d) ≡ take (replica_of p d).applied (settled d) ++ us

-- a mark that a row takes has a number that the row can apply up to, and its partition isn't marked in the
-- session's copy
pub record MarkIsNew (p : Process) (leader number d n : ℕ) : Type 0 where
  pub above : (replica_of p d).applied ≤ n
  pub issued : n ≤ last_of (replica_of p d)
  pub unmarked : IfSome (copy_in p.as_row.copies leader number) (λ c. at None c.marks d ≡ None)

-- a message that is a mark, and is taken, is so
abbrev pub MarksNew : Message → Process → Type 0
MarksNew (tells.Mark session r block d n) p =
    accepts_mark p (parity_number session.leader) session.number r.0 d.0 ≡ true → MarkIsNew p (parity_number session.leader) session.number d.0 n
MarksNew _ p = Unit {0}

-- a parity process has nothing marked for the session that it opens next
abbrev pub NextIsNew : Dimensions → Process → Type 0
NextIsNew s p = (l : ℕ) → p.name ≡ ParityNode l → IfSome (copy_in p.as_row.copies l (suc p.as_leader.last_session))
    (λ c. (d : ℕ) → d < s.k → at None c.marks d ≡ None)

-- a block that wasn't rebuilt before a step, and is after it, has the settled values
abbrev pub RebuildsRight : Dimensions → (ℕ → List Update) → Process → Process → Type 0
RebuildsRight s settled p q = (d b : ℕ) (bytes : List ℕ) → d < s.k → rebuilt_block p.as_leader d b ≡ None → rebuilt_block q.as_leader d b ≡ Some bytes
    → IsBlock s b (value (stand settled q d)) bytes
