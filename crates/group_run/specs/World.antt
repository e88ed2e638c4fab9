-- The group as a whole: its nodes, and what each event does to the nodes that it names.
use Rattle.std.specs.Prelude.{ℕ, suc, ◌+◌, ◌==◌, nat_lt, Bool, true, false, ◌&&◌, List, [], ◌∷◌, ◌++◌, length, take}
use Rattle.std.specs.Prelude.{map, filter, replicate, Option, Some, None, if◌then◌else◌}
use Rattle.std.specs.List.{list_any, range_with_len}
use Rattle.group_types.specs.Dimensions.{Dimensions}
use Rattle.group_types.specs.Lists.{at, put}
use Rattle.group_types.specs.Names.{index_of, process_at, same_process}
use Rattle.group_types.specs.declared.process.ProcessId.{ProcessId}
use Rattle.group_types.specs.declared.run.Run.{Run}
use Rattle.membership.specs.Members.{Membership, count_dead_words, knows_dead}
use Rattle.memc_table.specs.Asked.{Asked}
use Rattle.memc_table.specs.declared.reply.Reply.{Reply}
use Rattle.group_message.specs.declared.message.Message.{Message}
use Rattle.group_message.specs.declared.message.Message.TheVariants as tells
use Rattle.group_message.specs.declared.update.Update.{Update}
use Rattle.group_calls.specs.Turns.{Turn, CallName, name_of, call_entry, accepts}
use Rattle.group_calls.specs.declared.entry.Entry.{Entry}
use Rattle.group_calls.specs.declared.event.Answer.{Answer}
use Rattle.group_calls.specs.declared.event.Answer.TheVariants as says
use Rattle.group_calls.specs.declared.event.Event.{Event}
use Rattle.group_calls.specs.declared.event.Event.TheVariants.{Ask, Collect, Deliver, Fail, Flush, Trace}
use Rattle.group_run.specs.Applying.{ProcessStep, Sent, Settlement, sending, head_at}
use Rattle.group_run.specs.Asking.{CallStep, ask_process, collect_from, fate_of, reply_from}
use Rattle.group_run.specs.Heading.{tell_stables}
use Rattle.group_run.specs.Process.{Node, Process, opening_process}
use Rattle.group_run.specs.Receiving.{receive}
use Rattle.group_run.specs.Replica.{run_of, callers}

-- the list with an entry in front, if it is to be there
abbrev pub front_if : {X : Type 0} → Bool → X → List X → List X
front_if true x xs = x ∷ xs
front_if false x xs = xs

-- a list that is mostly left alone, so it is only copied where something comes behind it
abbrev pub grown : {X : Type 0} → List X → List X → List X
grown xs [] = xs
grown xs (y ∷ ys) = xs ++ y ∷ ys

-- the messages for one process, in order
abbrev pub sent_to : ProcessId → List Sent → List Message
sent_to q [] = []
sent_to q (x ∷ xs) = front_if (same_process x.to q) x.message (sent_to q xs)

-- a link with messages behind, which are not sent to a process that is known to be dead
abbrev pub link_after : Bool → List Message → List Message → List Message
link_after true link sent = link
link_after false link sent = grown link sent

-- the links of a process after it sent messages
abbrev pub links_after : Dimensions → Membership → List Sent → List (List Message) → List (List Message)
links_after s known sent links = map
    (λ x. link_after (knows_dead known (process_at s x)) (at [] links x) (sent_to (process_at s x) sent))
    (range_with_len 0 (s.k + s.m))

-- a node after a step of its process
abbrev pub node_after : Dimensions → ProcessStep → Node → Node
node_after s step node = record node { process = step.process; links = links_after s step.process.known step.sent node.links }

-- what a node makes of an event
pub record NodeStep : Type 0 where
  pub node : Node
  pub answer : Answer
  pub settled : List Settlement

-- an answer that leaves the node as it is
abbrev pub unchanged : Answer → Node → NodeStep
unchanged answer node = record { node = node; answer = answer; settled = [] }

-- a call that a process treats
abbrev pub treated : Dimensions → Node → CallStep → NodeStep
treated s node call = record { node = node_after s call.step node; answer = call.answer; settled = call.step.settled }

-- a call is answered so where the group is down, or else where the process is dead
abbrev pub if_up : Bool → Bool → Node → NodeStep → NodeStep
if_up true dead node step = unchanged says.Down node
if_up false true node step = unchanged says.Lost node
if_up false false node step = step

-- a call is asked at a node
abbrev pub ask_node : Dimensions → CallName → Asked → Node → NodeStep
ask_node s name op node = if_up node.down node.dead node (treated s node (ask_process s name op node.process))

-- a call is collected at a node
abbrev pub collect_node : Dimensions → ℕ → ℕ → Node → NodeStep
collect_node s caller call node = if_up node.down node.dead node (treated s node (collect_from caller call node.process (range_with_len 0 s.k)))

-- a process tells how far it has settled
abbrev pub flush_process : Dimensions → Process → CallStep
flush_process s p = record { step = sending (tell_stables s p (range_with_len 0 s.k)) p; answer = says.Done }

-- a node tells how far it has settled
abbrev pub flush_node : Dimensions → Node → NodeStep
flush_node s node = if_up node.down node.dead node (treated s node (flush_process s node.process))

-- a call is traced at a node
abbrev pub trace_node : Dimensions → ℕ → ℕ → ℕ → Node → NodeStep
trace_node s caller call d node = if_up node.down node.dead node (unchanged (fate_of s caller call d node.process (head_at node.process d)) node)

-- a node with other messages in its link to a process
abbrev pub with_link : Dimensions → ProcessId → List Message → Node → Node
with_link s q link node = record node { links = put [] node.links (index_of s q) link }

-- the links but for an empty one to a process
abbrev pub links_without : Dimensions → ProcessId → List (List Message) → List (List Message)
links_without s dead links = map (λ x. if same_process (process_at s x) dead then [] else at [] links x) (range_with_len 0 (s.k + s.m))

-- a node that receives the notice of a death empties its link to the dead process
abbrev pub link_emptied : Dimensions → Message → Node → Node
link_emptied s (tells.Notice dead) node = record node { links = links_without s dead node.links }
link_emptied s _ node = node

-- a message is received at a node
abbrev pub receive_node : Dimensions → ProcessId → Message → Node → NodeStep
receive_node s from message node =
    let step : ProcessStep = receive s from message node.process in
    record { node = link_emptied s message (node_after s step node); answer = says.Done; settled = step.settled }

-- the two nodes of a delivery, the sender's first
pub record DeliveryStep : Type 0 where
  pub sender : Node
  pub receiver : NodeStep

-- nothing is delivered
abbrev pub undelivered : Answer → Node → Node → DeliveryStep
undelivered answer sender receiver = record { sender = sender; receiver = unchanged answer receiver }

-- the first message of a link is received, where the group isn't down, the receiver lives, and there is one
abbrev pub delivered : Bool → Bool → Dimensions → ProcessId → ProcessId → Node → Node → List Message → DeliveryStep
delivered true dead s from to sender receiver link = undelivered says.Down sender receiver
delivered false true s from to sender receiver link = undelivered says.Idle sender receiver
delivered false false s from to sender receiver [] = undelivered says.Idle sender receiver
delivered false false s from to sender receiver (message ∷ rest) =
    record { sender = with_link s to rest sender; receiver = receive_node s from message receiver }

-- a delivery from one node to another
abbrev pub deliver_nodes : Dimensions → ProcessId → ProcessId → Node → Node → DeliveryStep
deliver_nodes s from to sender receiver = delivered receiver.down receiver.dead s from to sender receiver (at [] sender.links (index_of s to))

-- the links of a process that dies: each keeps its first messages, and the notice stands behind
abbrev pub links_cut : Dimensions → ProcessId → ℕ → List (List Message) → List (List Message)
links_cut s x keep links = map (λ y. take keep (at [] links y) ++ tells.Notice x ∷ []) (range_with_len 0 (s.k + s.m))

-- a node whose process dies
abbrev pub node_failed : Dimensions → ProcessId → ℕ → Node → Node
node_failed s x keep node = record node { dead = true; links = links_cut s x keep node.links }

-- a node that is told whether the group is down
abbrev pub with_down : Bool → Node → Node
with_down down node = record node { down = down }

-- a call whose update was issued, with the length of the log as it was asked, and its op until that
-- moves into the log
pub record Ticket : Type 0 where
  pub name : CallName
  pub since : ℕ
  pub op : Option Asked

-- the group: its nodes by index, the number of events, of each caller's asks, the log, per partition the
-- run of each logged update, and the calls whose update was issued. A place of a list that nobody has
-- written reads as it was at the start: `process_node` as a process that opens, `at 0 asked` as no ask, and
-- `at [] places` as no update
pub record World : Type 0 where
  pub shape : Dimensions
  pub nodes : List Node
  pub events : ℕ
  pub asked : List ℕ
  pub log : List Entry
  pub places : List (List (Option Run))
  pub tickets : List Ticket

-- a node at the start
abbrev pub opening_node : Dimensions → ProcessId → Node
opening_node s name = record { process = opening_process s name; links = replicate (s.k + s.m) []; dead = false; down = false }

-- the group at the start
abbrev pub opening : Dimensions → World
opening s = record {
  shape = s;
  nodes = map (λ x. opening_node s (process_at s x)) (range_with_len 0 (s.k + s.m));
  events = 0;
  asked = replicate callers 0;
  log = [];
  places = replicate s.k [];
  tickets = [];
}

-- the node of a process, among the nodes of a group
abbrev pub node_in : Dimensions → List Node → ProcessId → Node
node_in s nodes p = at (opening_node s p) nodes (index_of s p)

-- the node of a process
abbrev pub process_node : World → ProcessId → Node
process_node w p = node_in w.shape w.nodes p

-- the nodes, but for one that is now this
abbrev pub with_node : Dimensions → ProcessId → Node → List Node → List Node
with_node s p node nodes = put (opening_node s p) nodes (index_of s p) node

-- how many nodes are dead
abbrev pub dead_nodes : List Node → ℕ
dead_nodes nodes = count_dead_words (map (λ node. node.dead) nodes)

-- what a group makes of an event: its nodes, the answer, and what is settled
pub record GroupStep : Type 0 where
  pub nodes : List Node
  pub answer : Answer
  pub settled : List Settlement

-- one node changes
abbrev pub one_changes : World → ProcessId → NodeStep → GroupStep
one_changes w p t = record { nodes = with_node w.shape p t.node w.nodes; answer = t.answer; settled = t.settled }

-- two nodes change, the sender and then the receiver
abbrev pub two_change : World → ProcessId → ProcessId → DeliveryStep → GroupStep
two_change w from to t = record {
  nodes = with_node w.shape to t.receiver.node (with_node w.shape from t.sender w.nodes);
  answer = t.receiver.answer;
  settled = t.receiver.settled;
}

-- a failure: the process is dead, its links are cut, and the group is down where more than m are dead
abbrev pub nodes_told : ℕ → List Node → List Node
nodes_told m nodes = map (with_down (nat_lt m (dead_nodes nodes))) nodes

abbrev pub failed_nodes : Dimensions → List Node → ProcessId → ℕ → List Node
failed_nodes s nodes p keep = nodes_told s.m (with_node s p (node_failed s p keep (node_in s nodes p)) nodes)

-- all nodes change by a failure, but not by that of a process which is dead
abbrev pub all_change : Bool → Dimensions → List Node → ProcessId → ℕ → GroupStep
all_change true s nodes p keep = record { nodes = nodes; answer = says.AlreadyDead; settled = [] }
all_change false s nodes p keep = record { nodes = failed_nodes s nodes p keep; answer = says.Done; settled = [] }

-- the name of a caller's next call
abbrev pub next_name : World → ℕ → CallName
next_name w caller = record { caller = caller; call = at 0 w.asked caller }

-- what a group makes of each event
abbrev pub group_step : World → Event → GroupStep
group_step w (Ask caller op p) = one_changes w p (ask_node w.shape (next_name w caller) op (process_node w p))
group_step w (Collect caller call p) = one_changes w p (collect_node w.shape caller call (process_node w p))
group_step w (Deliver from to) = two_change w from to (deliver_nodes w.shape from to (process_node w from) (process_node w to))
group_step w (Fail p keep) = all_change (process_node w p).dead w.shape w.nodes p keep
group_step w (Flush p) = one_changes w p (flush_node w.shape (process_node w p))
group_step w (Trace caller call d p) = one_changes w p (trace_node w.shape caller call d.0 (process_node w p))

-- a call that is asked
pub record AskedCall : Type 0 where
  pub name : CallName
  pub op : Asked

-- the call that an event asks, if it asks one
abbrev pub call_of : World → Event → Option AskedCall
call_of w (Ask caller op p) = Some (record { name = next_name w caller; op = op })
call_of w _ = None

-- how often each caller asked, after a call
abbrev pub asked_after : List ℕ → Option AskedCall → List ℕ
asked_after asked None = asked
asked_after asked (Some c) = put 0 asked c.name.caller (suc (at 0 asked c.name.caller))

-- an update was issued for a call that is answered so
abbrev pub is_issued : Answer → Bool
is_issued (says.Ticket _) = true
is_issued (says.Reply reply) = accepts reply
is_issued _ = false

-- the calls whose update was issued, with this one behind
abbrev pub ticket_if : Bool → ℕ → AskedCall → List Ticket → List Ticket
ticket_if true since c tickets = tickets ++ record { name = c.name; since = since; op = Some c.op } ∷ []
ticket_if false since c tickets = tickets

abbrev pub tickets_after : ℕ → Option AskedCall → Answer → List Ticket → List Ticket
tickets_after since None answer tickets = tickets
tickets_after since (Some c) answer tickets = ticket_if (is_issued answer) since c tickets

-- a refusal that is given at once is logged in its ask
abbrev pub refusal_logged : Bool → AskedCall → Reply → List Entry
refusal_logged true c reply = []
refusal_logged false c reply = call_entry c.name c.op reply ∷ []

abbrev pub logged_at_once : Option AskedCall → Answer → List Entry
logged_at_once (Some c) (says.Reply reply) = refusal_logged (accepts reply) c reply
logged_at_once _ _ = []

-- whether two names are of one call
abbrev pub same_call : CallName → CallName → Bool
same_call a b = a.caller == b.caller && a.call == b.call

-- the name of the call that an update is of
abbrev pub update_name : Update → CallName
update_name u = record { caller = u.caller; call = u.call }

-- the op of a call whose update was issued and isn't logged yet
abbrev pub op_in : CallName → List Ticket → Option Asked
op_in name [] = None
op_in name (t ∷ ts) = if same_call t.name name then t.op else op_in name ts

-- the entry of a settled update behind others, if its call has an op
abbrev pub entry_then : Update → Option Asked → List Entry → List Entry
entry_then u None entries = entries
entry_then u (Some op) entries = call_entry (update_name u) op (reply_from u.outcome) ∷ entries

-- the entries of settled updates: each has the op of its call
abbrev pub entries_for : List Ticket → List Update → List Entry
entries_for tickets [] = []
entries_for tickets (u ∷ us) = entry_then u (op_in (update_name u) tickets) (entries_for tickets us)

-- the settled updates of one partition
abbrev pub settled_in : ℕ → List Settlement → List Update
settled_in d [] = []
settled_in d (x ∷ xs) = front_if (x.partition == d) x.update (settled_in d xs)

-- those of them that the log doesn't have yet, which has the first c of the partition
abbrev pub new_ones : ℕ → List Update → List Update
new_ones c us = filter (λ u. nat_lt c u.number) us

-- what an event logs, and where the updates of each partition stand
pub record Ledger : Type 0 where
  pub logged : List Entry
  pub places : List (List (Option Run))

-- the ledger with new updates of partition d
abbrev pub ledger_with : List Ticket → ℕ → List Update → Ledger → Ledger
ledger_with tickets d news ledger = record {
  logged = grown ledger.logged (entries_for tickets news);
  places = put [] ledger.places d (grown (at [] ledger.places d) (map (λ u. run_of u.body) news));
}

-- the ledger with the settled updates of partitions, in order, that aren't in the log yet
abbrev pub ledger_after : List Ticket → List Settlement → List ℕ → Ledger → Ledger
ledger_after tickets settled [] ledger = ledger
ledger_after tickets settled (d ∷ ds) ledger =
    ledger_after tickets settled ds (ledger_with tickets d (new_ones (length (at [] ledger.places d)) (settled_in d settled)) ledger)

-- the op of a ticket moves into the log with its entry
abbrev pub op_moved : List Entry → Ticket → Ticket
op_moved logged t = if list_any (λ e. same_call (name_of e) t.name) logged then record t { op = None } else t

abbrev pub ops_moved : List Entry → List Ticket → List Ticket
ops_moved [] tickets = tickets
ops_moved (e ∷ es) tickets = map (op_moved (e ∷ es)) tickets

-- an event's turn, and the group after it
pub record WorldStep : Type 0 where
  pub world : World
  pub turn : Turn

-- the step that an event makes: the nodes that it names change, and what is settled for the first time
-- is logged
abbrev pub step : World → Event → WorldStep
step w e =
    let t : GroupStep = group_step w e in
    let tickets : List Ticket = tickets_after (length w.log) (call_of w e) t.answer w.tickets in
    let ledger : Ledger = ledger_after tickets t.settled (range_with_len 0 w.shape.k)
    (record { logged = logged_at_once (call_of w e) t.answer; places = w.places }) in
    record {
      world = record {
        shape = w.shape;
        nodes = t.nodes;
        events = suc w.events;
        asked = asked_after w.asked (call_of w e);
        log = grown w.log ledger.logged;
        places = ledger.places;
        tickets = ops_moved ledger.logged tickets;
      };
      turn = record { event = e; answer = t.answer; logged = ledger.logged };
    }

-- the group after events, and their turns
abbrev pub world_after : World → List Event → World
world_after w [] = w
world_after w (e ∷ es) = world_after (step w e).world es

-- the turns of events, from a group on
abbrev pub turns_from : World → List Event → List Turn
turns_from w [] = []
turns_from w (e ∷ es) = (step w e).turn ∷ turns_from (step w e).world es

-- the run of a group: the group that events leave from the start on, and their turns
abbrev pub after : Dimensions → List Event → World
after s es = world_after (opening s) es

-- the turns of a run
abbrev pub turns_of : Dimensions → List Event → List Turn
turns_of s es = turns_from (opening s) es

-- the indices of the nodes that an event names
abbrev pub names : Dimensions → Event → List ℕ
names s (Ask _ _ p) = index_of s p ∷ []
names s (Collect _ _ p) = index_of s p ∷ []
names s (Deliver from to) = index_of s from ∷ index_of s to ∷ []
names s (Fail _ _) = range_with_len 0 (s.k + s.m)
names s (Flush p) = index_of s p ∷ []
names s (Trace _ _ _ p) = index_of s p ∷ []
