-- Ops that move out of their tickets one after another, each as its update is logged.
use Rattle.std.specs.Prelude.{◌≢◌, List, [], ◌∷◌, None, map, AllPairs, if◌then◌else◌}
use Rattle.group_message.specs.declared.update.Update.{Update}
use Rattle.group_calls.specs.Turns.{CallName}
use Rattle.group_calls.specs.declared.entry.Entry.{Entry}
use Rattle.group_run.specs.World.{Ticket, entry_then, op_in, same_call, update_name}

-- no two tickets are of one call
abbrev pub Differ : List Ticket → Type 0
Differ tickets = AllPairs (λ t u. t.name ≢ u.name) tickets

-- a ticket once the op of this call is taken
abbrev pub op_taken : CallName → Ticket → Ticket
op_taken name t = if same_call name t.name then record t { op = None } else t

-- tickets once the ops of these updates' calls are taken
abbrev pub ops_taken : List Update → List Ticket → List Ticket
ops_taken [] tickets = tickets
ops_taken (u ∷ us) tickets = ops_taken us (map (op_taken (update_name u)) tickets)

-- the entries of updates, each of which takes the op of its call
abbrev pub entries_taken : List Ticket → List Update → List Entry
entries_taken tickets [] = []
entries_taken tickets (u ∷ us) = entry_then u (op_in (update_name u) tickets) (entries_taken (map (op_taken (update_name u)) tickets) us)
