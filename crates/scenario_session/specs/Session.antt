-- What comes of a connection that a fresh group serves.
use Rattle.std.specs.Prelude.{ℕ, ◌≡◌, List, Option, Result, Ok, Err}
use Rattle.edge_io.specs.Moving.{Input}
use Rattle.group_types.specs.Dimensions.{Dimensions}
use Rattle.front_end.specs.Answers.{stand}
use Rattle.front_end.specs.Connection.{HasServed}
use Rattle.front_end.specs.declared.end.ConnectionFault.{ConnectionFault}
use Rattle.front_end.specs.declared.end.ConnectionFault.TheVariants as fault
use Rattle.front_end.specs.declared.end.End.{End}
use Rattle.front_end.specs.declared.end.End.TheVariants as end
use Rattle.caller_table.specs.Tables.{Caller, IsOneTable, fresh, group_ways}
use Rattle.scenario_session.specs.declared.end.SessionEnd.{SessionEnd}
use Rattle.scenario_session.specs.declared.end.SessionEnd.TheVariants.{Done, Cut, LineTooLong, Worn, ReadFault, WriteFault, Want}

-- how a session ends whose connection ended so
abbrev pub session_end_of : Result End ConnectionFault → SessionEnd
session_end_of (Ok end.Quit) = Done
session_end_of (Ok end.Ended) = Done
session_end_of (Ok end.Cut) = Cut
session_end_of (Ok end.LineTooLong) = LineTooLong
session_end_of (Ok end.Worn) = Worn
session_end_of (Err fault.ReadFault) = ReadFault
session_end_of (Err fault.WriteFault) = WriteFault
session_end_of (Err fault.Want) = Want

-- a connection was served over a fresh group of this shape, and ended so; whatever calls lead from that group on, their
-- ends are those of one table
pub record IsSessionServed (s : Dimensions) (told : Option ℕ) (input input_now : Input) (held held_now : List ℕ)
    (connection : Result End ConnectionFault) : Type 0 where
  pub after : Caller
  pub served : HasServed group_ways told input input_now (stand (fresh s) held) (stand after held_now) connection
  pub one_table : IsOneTable s

-- and the session ends by how the connection ended
pub record HasEndedSession (s : Dimensions) (told : Option ℕ) (input input_now : Input) (held held_now : List ℕ) (end : SessionEnd) : Type 0 where
  pub connection : Result End ConnectionFault
  pub served : IsSessionServed s told input input_now held held_now connection
  pub ends : end ≡ session_end_of connection
