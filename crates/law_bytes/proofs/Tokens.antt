-- Tokens of block sessions, counted: what a session has under way for a partition, in links and at
-- processes, is at most one thing for each row, and at most one for the partition's own block.
use Rattle.std.specs.Prelude.{ℕ, suc, ◌<◌, ◌≤◌, ◌+◌, ◌==◌, nat_lt, Bool, true, false, ◌&&◌, List, [], ◌∷◌, map, is_some, Option, Some, None, if◌then◌else◌}
use Rattle.std.specs.List.{range_with_len}
use Rattle.group_types.specs.Dimensions.{Dimensions}
use Rattle.group_types.specs.Lists.{at}
use Rattle.group_types.specs.Names.{process_at, same_process}
use Rattle.group_types.specs.declared.process.ProcessId.{ProcessId}
use Rattle.group_types.specs.declared.process.ProcessId.TheVariants.{DataNode, ParityNode}
use Rattle.group_message.specs.declared.message.Message.{Message}
use Rattle.group_message.specs.declared.message.Message.TheVariants as tells
use Rattle.group_message.specs.declared.message.Session.{Session}
use Rattle.group_run.specs.Leaders.{open_session}
use Rattle.group_run.specs.Process.{Copy, Gathering, Process}
use Rattle.group_run.specs.Rows.{copy_in}
use Rattle.law_moves.specs.State.{State, HoldsAlways}

-- what a session may have under way for a partition: for the row of a parity process, or its own block
pub data Way : Type 0 where
  Row : ℕ → Way
  Own : Way

-- a session by its leader and its number, a partition, and which of the two
pub record Token : Type 0 where
  pub leader : ℕ
  pub number : ℕ
  pub partition : ℕ
  pub way : Way

-- 1 where a test passes
abbrev pub one_if : Bool → ℕ
one_if true = 1
one_if false = 0

-- a session's name is the token's
abbrev pub of_session : Token → Session → Bool
of_session t session = same_process session.leader (ParityNode t.leader) && session.number == t.number

-- a mark for partition d that goes to a process
abbrev pub marks_way : Way → ℕ → ℕ → ProcessId → Bool
marks_way (Row r) d e q = e == d && same_process q (ParityNode r)
marks_way Own d e q = false

-- a row, or a block, that comes from a process
abbrev pub row_way : Way → ProcessId → Bool
row_way (Row r) x = same_process x (ParityNode r)
row_way Own x = false

abbrev pub block_way : Way → ℕ → ProcessId → Bool
block_way (Row r) d x = false
block_way Own d x = same_process x (DataNode d)

-- a message from x to q is such a token: the question for the block, a mark for the row, the row, or the block
abbrev pub is_token : Token → ProcessId → ProcessId → Message → Bool
is_token t x q (tells.ReadBlock session block rows) = of_session t session && same_process q (DataNode t.partition)
is_token t x q (tells.Mark session r block d n) = of_session t session && marks_way t.way t.partition d.0 q
is_token t x q (tells.Row session bytes stamp) = of_session t session && row_way t.way x
is_token t x q (tells.Block session bytes n) = of_session t session && block_way t.way t.partition x
is_token t x q _ = false

-- how many of the messages in a link are
abbrev pub in_link : Token → ProcessId → ProcessId → List Message → ℕ
in_link t x q [] = 0
in_link t x q (m ∷ ms) = one_if (is_token t x q m) + in_link t x q ms

-- the partition is marked in a copy
abbrev pub is_marked_in : ℕ → Option Copy → Bool
is_marked_in d None = false
is_marked_in d (Some c) = is_some (at None c.marks d)

-- the row, or the block, is kept in an open session
abbrev pub is_kept_in : Way → ℕ → Option Gathering → Bool
is_kept_in (Row r) d None = false
is_kept_in (Row r) d (Some g) = is_some (at None g.rows_in r)
is_kept_in Own d None = false
is_kept_in Own d (Some g) = is_some (at None g.blocks_in d)

-- a row has it as a mark in its copy
abbrev pub in_copy : Token → Way → Process → Bool
in_copy t (Row r) p = same_process p.name (ParityNode r) && is_marked_in t.partition (copy_in p.as_row.copies t.leader t.number)
in_copy t Own p = false

-- a leader keeps it in its session
abbrev pub in_session : Token → Process → Bool
in_session t p = same_process p.name (ParityNode t.leader) && is_kept_in t.way t.partition (open_session p.as_leader t.number)

-- what a process has
abbrev pub at_process : Token → Process → ℕ
at_process t p = one_if (in_copy t t.way p) + one_if (in_session t p)

-- the sum over processes
abbrev pub sum_of : List ProcessId → (ProcessId → ℕ) → ℕ
sum_of [] f = 0
sum_of (p ∷ ps) f = f p + sum_of ps f

-- all processes of a group
abbrev pub everyone : Dimensions → List ProcessId
everyone s = map (process_at s) (range_with_len 0 (s.k + s.m))

-- what is in the link from x to another process q
abbrev pub between : State → Token → ProcessId → ProcessId → ℕ
between v t q x = if same_process x q then 0 else in_link t x q (v.link x q)

-- what a living process has, with the links to it
abbrev pub around : Dimensions → State → Token → ProcessId → ℕ
around s v t q = if v.dead q then 0 else at_process t (v.process q) + sum_of (everyone s) (between v t q)

-- all that a session has under way
abbrev pub tokens : Dimensions → State → Token → ℕ
tokens s v t = sum_of (everyone s) (around s v t)

-- it is at most one, and nothing of a session that its leader hasn't opened yet
abbrev pub TokensHold : Dimensions → State → Type 0
TokensHold s v = (t : Token) → t.partition < s.k → t.leader < s.m
    → tokens s v t ≤ one_if (nat_lt t.number (suc (v.process (ParityNode t.leader)).as_leader.last_session))

-- so it is along every run
abbrev pub TokensAlways : Type 0
TokensAlways = (s : Dimensions) → HoldsAlways s (TokensHold s)
