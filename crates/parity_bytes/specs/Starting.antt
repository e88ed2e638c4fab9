-- A leader that starts a session.
use Rattle.std.specs.Prelude.{ℕ, suc, nat_lt, Bool, true, false, List}
use Rattle.group_types.specs.Dimensions.{Dimensions}
use Rattle.group_types.specs.Lists.{at}
use Rattle.group_run.specs.Leaders.{with_leader}
use Rattle.group_run.specs.Process.{Process}
use Rattle.group_run.specs.Rows.{begin_copy}
use Rattle.block_sessions.specs.Leading.{started}

-- the process with its own copy for a session begun, where its row takes it
abbrev pub begun_if : Bool → Dimensions → ℕ → ℕ → ℕ → Process → Process
begun_if true s leader number block p = begin_copy s leader number block p
begun_if false s leader number block p = p

-- the process's row takes the marks of its own next session
abbrev pub takes_next : ℕ → Process → Bool
takes_next leader p = nat_lt (at 0 p.as_row.ceased leader) (suc p.as_leader.last_session)

-- the process with a session more, and its own copy for it
abbrev pub session_begun : Dimensions → ℕ → ℕ → List ℕ → List ℕ → Process → Process
session_begun s leader block lost rows p =
    begun_if (takes_next leader p) s leader (suc p.as_leader.last_session) block (with_leader (started s block lost rows p.as_leader) p)
