-- What tokens say of marks: a mark that is on its way isn't made yet, and for a session that isn't opened yet
-- nothing is marked.
use Rattle.std.specs.Prelude.{◌≡◌, ◌≢◌, false, List, ◌∷◌, None, IfSome}
use Rattle.group_types.specs.Dimensions.{Dimensions}
use Rattle.group_types.specs.Lists.{at}
use Rattle.group_types.specs.Names.{IsProcess}
use Rattle.group_types.specs.declared.process.ProcessId.{ProcessId}
use Rattle.group_message.specs.declared.message.Message.{Message}
use Rattle.group_message.specs.declared.message.Message.TheVariants as tells
use Rattle.group_run.specs.Process.{Process}
use Rattle.group_run.specs.Rows.{copy_in, parity_number}
use Rattle.law_moves.specs.State.{State, HoldsAlways}
use Rattle.law_bytes.proofs.Premises.{NextIsNew}

-- a message's partition, if it is a mark, isn't marked in the copy of its session
abbrev pub IsUnmarked : Message → Process → Type 0
IsUnmarked (tells.Mark session r block d n) p = IfSome (copy_in p.as_row.copies (parity_number session.leader) session.number) (λ c. at None c.marks d.0 ≡ None)
IsUnmarked _ p = Unit {0}

-- marks are new
pub record MarksAreNew (s : Dimensions) (v : State) : Type 0 where
  pub coming : (x p : ProcessId) (m : Message) (rest : List Message) → IsProcess s x → IsProcess s p → x ≢ p
      → v.dead p ≡ false → v.link x p ≡ m ∷ rest → IsUnmarked m (v.process p)
  pub next : (p : ProcessId) → IsProcess s p → v.dead p ≡ false → NextIsNew s (v.process p)

-- so it is along every run
abbrev pub MarksAlwaysNew : Type 0
MarksAlwaysNew = (s : Dimensions) → HoldsAlways s (MarksAreNew s)
