-- What members do, one thing at a time.
use Rattle.std.specs.Prelude.{ℕ}
use Rattle.group_types.specs.declared.process.ProcessId.{ProcessId}
use Rattle.memc_table.specs.Asked.{Asked}
use Rattle.group_wire.specs.Sets.{Processes}

pub data Action : Type 0 where
  -- a client's call begins at the gateway of the caller that it is lent
  Begin : (caller : ℕ) → Asked → Action
  -- the gateway asks a member to treat the call, or to trace it
  Send : (caller : ℕ) → (to : ProcessId) → Action
  -- a member reads the first request of a wire, and keeps it until it treats it
  Read : (from at : ProcessId) → Action
  -- a member treats the request at this place among those that it has read
  Treat : (at : ProcessId) → (place : ℕ) → Action
  -- a member hands out a call that it holds
  Collect : (caller call : ℕ) → (at : ProcessId) → Action
  -- a member tells how far it has settled
  Flush : (at : ProcessId) → Action
  -- a gateway reads the first answer of a wire
  Learn : (from at : ProcessId) → Action
  -- a member receives the first message of a wire
  Receive : (from at : ProcessId) → Action
  -- the gateway gives up what it asked of a member whose death it has taken
  GiveUp : (caller : ℕ) → Action
  -- a member stops to read from x and to send to it, for ever
  Cut : (x at : ProcessId) → Action
  -- a member says whom it has cut, to all others
  Say : (at : ProcessId) → Action
  -- a member hears the first such set of a wire
  Hear : (from at : ProcessId) → Action
  -- a member permits itself to take the deaths of all that it has cut
  Permit : (at : ProcessId) → Action
  -- a member takes the death of x
  Take : (x at : ProcessId) → Action
  -- a member sends a ping to these; m + 1 are enough where one of them may hang, each with one ping under way to it
  Ping : (to : Processes) → (at : ProcessId) → Action
  -- a member answers the first ping of a wire
  Pong : (from at : ProcessId) → Action
  -- a member counts the first pong of a wire, for all pings up to its number
  Count : (from at : ProcessId) → Action
  -- the gateway shows the client the answer, by the answers to one of its pings
  Show : (caller ping : ℕ) → Action
  -- the gateway lets go a call that waits for no member, and shows nothing of it
  LetGo : (caller : ℕ) → Action
  -- a member's program ends, for ever
  Stop : (at : ProcessId) → Action
