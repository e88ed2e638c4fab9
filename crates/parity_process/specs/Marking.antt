-- Marks, as a row takes them.
use Rattle.std.specs.Prelude.{ℕ, All, Contains}
use Rattle.group_types.specs.Dimensions.{Dimensions}
use Rattle.group_types.specs.declared.process.ProcessId.TheVariants.{ParityNode}
use Rattle.group_message.specs.declared.message.Message.TheVariants as tells
use Rattle.group_run.specs.Applying.{ProcessStep, Sent, apply_to}
use Rattle.group_run.specs.Leaders.{copy_marked, session_of}
use Rattle.group_run.specs.Process.{Copy, Process}
use Rattle.group_run.specs.Rows.{copy_in, parity_number, marks_of}

-- each open session waits for the process's own row
abbrev pub WaitForOwnRow : Process → Type 0
WaitForOwnRow p = All (λ g. Contains g.rows (parity_number p.name)) p.as_leader.sessions

-- what a mark makes of a row that has a copy for its session: the partition is applied up to the mark's number,
-- and marked there
abbrev pub copy_taken : Dimensions → ℕ → ℕ → ℕ → ℕ → Process → ProcessStep
copy_taken s leader number d n p = let q : Process = apply_to s d n p in copy_marked s d n (copy_in q.as_row.copies leader number) q

-- the message that brings a copy to its leader
abbrev pub row_message : Dimensions → Copy → Sent
row_message s copy = record { to = ParityNode copy.leader; message = tells.Row (session_of copy.leader copy.number) copy.bytes (marks_of s copy) }
