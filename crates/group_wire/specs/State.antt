-- A group whose processes stand on machines of their own: what each member has, and what is on the wires between them.
-- A member is one program with one process of the group, and is the gateway of some callers. Frames of one kind stand on
-- a wire in the order in which they were sent; those of different kinds may overtake one another, which TCP never does.
use Rattle.std.specs.Prelude.{ℕ, ◌+◌, ◌/◌, Bool, List, [], Option, None}
use Rattle.group_types.specs.Dimensions.{Dimensions, callers}
use Rattle.group_types.specs.Names.{process_at}
use Rattle.group_types.specs.declared.process.ProcessId.{ProcessId}
use Rattle.memc_table.specs.Asked.{Asked}
use Rattle.group_message.specs.declared.message.Message.{Message}
use Rattle.group_calls.specs.declared.event.Answer.{Answer}
use Rattle.group_run.specs.Process.{Process, opening_process}
use Rattle.group_wire.specs.Sets.{Processes, nobody}

-- what a gateway asks of a member: to treat a caller's call, under its position, or to trace it in a partition
pub data Request : Type 0 where
  AskFor : (caller call : ℕ) → Asked → Request
  TraceOf : (caller call d : ℕ) → Request

-- what a member tells a gateway of a call: the answer to its ask, or what came of it later
pub record Told : Type 0 where
  pub caller : ℕ
  pub call : ℕ
  pub traced : Bool
  pub answer : Answer

-- where a call stands at its gateway: to be asked, asked of a member, of unknown fate, traced at a member, or answered,
-- when so many pings had been sent
pub data Stage : Type 0 where
  Unasked : Stage
  AskedOf : ProcessId → Stage
  Unknown : Stage
  TracedAt : ProcessId → Stage
  Answered : Told → ℕ → Stage

-- a client's call that is open at its gateway, with the position of its last ask
pub record OpenCall : Type 0 where
  pub op : Asked
  pub position : ℕ
  pub stage : Stage

-- what members know of one another: whom each has cut, which sets each said on its wires, what each has heard that each has
-- cut, whose deaths each may take, and whose it has taken
pub record Words : Type 0 where
  pub cut : ProcessId → Processes
  pub said : ProcessId → ProcessId → List Processes
  pub heard : ProcessId → ProcessId → Processes
  pub permitted : ProcessId → Processes
  pub taken : ProcessId → Processes

-- the processes of the members, and the messages that are on the wires
pub record Works : Type 0 where
  pub process : ProcessId → Process
  pub messages : ProcessId → ProcessId → List Message

-- the callers' open calls and next positions, the requests on the wires and those that a member has read and not
-- treated, and the answers on the wires
pub record Gateways : Type 0 where
  pub call : ℕ → Option OpenCall
  pub next : ℕ → ℕ
  pub requests : ProcessId → ProcessId → List Request
  pub parked : ProcessId → List Request
  pub answers : ProcessId → ProcessId → List Told

-- how many pings each member has sent, the pings and pongs on the wires, and who has answered each ping of each or a later
pub record Signs : Type 0 where
  pub pinged : ProcessId → ℕ
  pub pings : ProcessId → ProcessId → List ℕ
  pub pongs : ProcessId → ProcessId → List ℕ
  pub answered : ProcessId → ℕ → Processes

-- the group on its machines
pub record Group : Type 0 where
  pub shape : Dimensions
  pub gone : Processes
  pub words : Words
  pub works : Works
  pub gateways : Gateways
  pub signs : Signs

-- the member that is the gateway of a caller: each member has as many callers, in order
abbrev pub gateway_of : Dimensions → ℕ → ProcessId
gateway_of s caller = process_at s (caller / (callers / (s.k + s.m)))

-- the group at the start
abbrev pub opening_group : Dimensions → Group
opening_group s = record {
  shape = s;
  gone = nobody;
  words = record { cut = λ p. nobody; said = λ p q. []; heard = λ p q. nobody; permitted = λ p. nobody; taken = λ p. nobody };
  works = record { process = opening_process s; messages = λ p q. [] };
  gateways = record { call = λ c. None; next = λ c. 0; requests = λ p q. []; parked = λ p. []; answers = λ p q. [] };
  signs = record { pinged = λ p. 0; pings = λ p q. []; pongs = λ p q. []; answered = λ p j. nobody };
}
