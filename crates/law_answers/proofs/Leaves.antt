-- What an answer to an ask leaves as it was.
use Rattle.std.proofs.Common.{ℕ, zero, suc, ◌≡◌, ◌≢◌, ◌<◌, ◌≤◌, ◌+◌, nat_le, nat_lt, Bool, true, false, ◌||◌}
use Rattle.std.proofs.Common.{if◌then◌else◌, List, [], ◌∷◌, ◌++◌, length, map, Option, Some, None, ◌⊎◌, inl, inr, refl}
use Rattle.std.proofs.Common.{sym, ap, subst, ◌∙◌, arith}
use Rattle.std.proofs.lemmas.List.{length-replicate, map-id}
use Rattle.std.proofs.lemmas.List.FromFn.{length-map-range_with_len}
use Rattle.std.specs.List.{range_with_len}
use Rattle.group_types.specs.Dimensions.{Dimensions, space_of}
use Rattle.group_types.specs.Hash.{home_of}
use Rattle.group_types.specs.Lists.{at}
use Rattle.group_types.specs.Names.{IsProcess, index_of, process_at, same_process}
use Rattle.group_types.specs.declared.process.ProcessId.{ProcessId}
use Rattle.group_types.specs.declared.run.Run.{Run}
use Rattle.group_types.proofs.Lists.{at-map, length-put, map-indices, put-at}
use Rattle.group_types.proofs.Names.{index-below, process_at-index, same-cases}
use Rattle.group_types.specs.Each.{Each}
use Rattle.membership.specs.Members.{knows_dead}
use Rattle.memc_table.specs.Act.{key_of}
use Rattle.memc_table.specs.Asked.{Asked}
use Rattle.memc_table.specs.declared.reply.Reply.{Reply}
use Rattle.group_message.specs.declared.message.Message.{Message}
use Rattle.group_message.specs.declared.message.Message.TheVariants as tells
use Rattle.group_message.specs.declared.update.Update.{Update}
use Rattle.group_calls.specs.Turns.{CallName, accepts, call_entry}
use Rattle.group_calls.specs.declared.decision.Decision.{Decision}
use Rattle.group_calls.specs.declared.decision.Decision.TheVariants as decides
use Rattle.group_calls.specs.declared.entry.Entry.{Entry}
use Rattle.group_calls.specs.declared.event.Answer.{Answer}
use Rattle.group_calls.specs.declared.event.Answer.TheVariants as says
use Rattle.group_calls.specs.declared.event.Cause.TheVariants as cause
use Rattle.group_calls.specs.declared.event.Event.{Event}
use Rattle.group_calls.specs.declared.event.Event.TheVariants.{Ask, Collect, Deliver, Fail, Flush, Trace}
use Rattle.group_run.specs.Applying.{ProcessStep, Settlement, for_each, head_at, quiet, replica_of}
use Rattle.group_run.specs.Asking.{CallStep, Oldest, act_on, ask_head, ask_process, collect_from, fate_of, found_at}
use Rattle.group_run.specs.Asking.{issued, oldest_inherited, retry_block, ticketed, update_of}
use Rattle.group_run.specs.Causes.{AskLeaves, KeepsLedger}
use Rattle.group_run.specs.Deciding.{decide}
use Rattle.group_run.specs.Headline.{IsRun, MayCome}
use Rattle.group_run.specs.Leaders.{copy_kept, copy_marked, lost_of, mark_taken, own_mark, session_opened, start_session}
use Rattle.group_run.specs.Meaning.{process_of}
use Rattle.group_run.specs.Process.{Copy, Head, Node, Process}
use Rattle.group_run.specs.Receiving.{receive}
use Rattle.group_run.specs.Rows.{parity_number}
use Rattle.group_run.specs.World.{asked_after, AskedCall, DeliveryStep, GroupStep, Ledger, NodeStep, Ticket, World, after}
use Rattle.group_run.specs.World.{all_change, dead_nodes, delivered, flush_process, group_step, grown, if_up}
use Rattle.group_run.specs.World.{ledger_after, ledger_with, link_after, link_emptied, links_after, logged_at_once}
use Rattle.group_run.specs.World.{next_name, node_after, node_failed, node_in, process_node, opening_node, op_moved}
use Rattle.group_run.specs.World.{ops_moved, receive_node, refusal_logged, same_call, step, ticket_if, tickets_after}
use Rattle.group_run.specs.World.{treated, unchanged, with_down, with_link, with_node}
use Rattle.law_moves.proofs.Reading.{at-indices, node-back, node-here, node-other, size-with_node}
use Rattle.law_log.specs.Book.{Book, book_of, no_book}
use Rattle.law_log.proofs.Ties.{AreTickets}
use Rattle.law_log.proofs.Books.{book-framed, book-world, book_always}
use Rattle.law_log.proofs.Calls.{AreAsked, asked_always, next_call}
use Rattle.law_log.proofs.Entries.{accepted-from, call-ne}
use Rattle.law_log.proofs.Logging.{LogsOf, logs_always}
use Rattle.law_log.proofs.Logs.{next-new}
use Rattle.law_headline.proofs.All.{whole-always}
use Rattle.law_headline.proofs.Promises.{stands-always}
use Rattle.law_headline.proofs.Nexts.{row-none}
use Rattle.law_answers.specs.Laws.{AsksLeaveAlways}
use Rattle.law_answers.proofs.Settling.{none-when}

-- every node has a link to each process
abbrev pub LinksMany : Dimensions → List Node → Type 0
LinksMany s nodes = (p : ProcessId) → IsProcess s p → length (node_in s nodes p).links ≡ s.k + s.m

-- to empty a link leaves as many
emptied-many : (s : Dimensions) (m : Message) (node : Node) → length node.links ≡ s.k + s.m → length (link_emptied s m node).links ≡ s.k + s.m
emptied-many s (tells.Notice dead) node many =
    length-map-range_with_len (λ x. if same_process (process_at s x) dead then [] else at [] node.links x) 0 (s.k + s.m)
emptied-many s (tells.Update r d u stable) node many = many
emptied-many s (tells.Ack r d n) node many = many
emptied-many s (tells.Stable r d n) node many = many
emptied-many s (tells.Adopt r d base list) node many = many
emptied-many s (tells.ReadBlock session block rows) node many = many
emptied-many s (tells.Block session bytes n) node many = many
emptied-many s (tells.Mark session r block d n) node many = many
emptied-many s (tells.Row session bytes stamp) node many = many
emptied-many s (tells.Cease upto) node many = many

module _ (s : Dimensions) (nodes : List Node) (size : length nodes ≡ s.k + s.m) (all : LinksMany s nodes) where
  -- one node changes
  links-one : (p : ProcessId) (node : Node) → IsProcess s p → length node.links ≡ s.k + s.m → LinksMany s (with_node s p node nodes)
  links-one p node pin many q qin = by (same-cases q p) where
    by : (q ≡ p) ⊎ (q ≢ p) → length (node_in s (with_node s p node nodes) q).links ≡ s.k + s.m
    by (inl same) = ap (λ (x : ProcessId). length (node_in s (with_node s p node nodes) x).links) same
        ∙ ap (λ (n : Node). length n.links) (node-here s nodes p node) ∙ many
    by (inr other) = ap (λ (n : Node). length n.links) (node-other s nodes p q node pin qin other size) ∙ all q qin

  -- a node that treats a call
  sent-many : (t : ProcessStep) (node : Node) → length (node_after s t node).links ≡ s.k + s.m
  sent-many t node = length-map-range_with_len _ 0 (s.k + s.m)

  links-treated : (p : ProcessId) (call : CallStep) (down dead : Bool) → IsProcess s p
      → LinksMany s (with_node s p (if_up down dead (node_in s nodes p) (treated s (node_in s nodes p) call)).node nodes)
  links-treated p call true dead pin = links-one p (node_in s nodes p) pin (all p pin)
  links-treated p call false true pin = links-one p (node_in s nodes p) pin (all p pin)
  links-treated p call false false pin = links-one p (node_after s call.step (node_in s nodes p)) pin (sent-many call.step (node_in s nodes p))

  links-answered : (p : ProcessId) (answer : Answer) (down dead : Bool) → IsProcess s p
      → LinksMany s (with_node s p (if_up down dead (node_in s nodes p) (unchanged answer (node_in s nodes p))).node nodes)
  links-answered p answer true dead pin = links-one p (node_in s nodes p) pin (all p pin)
  links-answered p answer false true pin = links-one p (node_in s nodes p) pin (all p pin)
  links-answered p answer false false pin = links-one p (node_in s nodes p) pin (all p pin)

  links-failed : (p : ProcessId) (keep : ℕ) (dead : Bool) → IsProcess s p → LinksMany s (all_change dead s nodes p keep).nodes
  links-failed p keep true pin q qin = all q qin
  links-failed p keep false pin q qin =
      let cut : List Node = with_node s p (node_failed s p keep (node_in s nodes p)) nodes in
      ap (λ (n : Node). length n.links) (at-map (opening_node s q) (opening_node s q) (with_down (nat_lt s.m (dead_nodes cut))) cut (index_of s q)
      (let low = index-below s q qin in let many = size-with_node s nodes p (node_failed s p keep (node_in s nodes p)) pin size in omega (arith, low, many)))
      ∙ links-one p (node_failed s p keep (node_in s nodes p)) pin (length-map-range_with_len _ 0 (s.k + s.m)) q qin

-- two nodes change
links-delivered : (s : Dimensions) (nodes : List Node) (size : length nodes ≡ s.k + s.m) (all : LinksMany s nodes)
    (x p : ProcessId) (down dead : Bool) (link : List Message)
    → IsProcess s x → IsProcess s p
    → let b : DeliveryStep = delivered down dead s x p (node_in s nodes x) (node_in s nodes p) link in
    LinksMany s (with_node s p b.receiver.node (with_node s x b.sender nodes))
links-delivered s nodes size all x p true dead link xin pin =
    links-one s (with_node s x (node_in s nodes x) nodes) (size-with_node s nodes x (node_in s nodes x) xin size)
    (links-one s nodes size all x (node_in s nodes x) xin (all x xin)) p (node_in s nodes p) pin (all p pin)
links-delivered s nodes size all x p false true link xin pin =
    links-one s (with_node s x (node_in s nodes x) nodes) (size-with_node s nodes x (node_in s nodes x) xin size)
    (links-one s nodes size all x (node_in s nodes x) xin (all x xin)) p (node_in s nodes p) pin (all p pin)
links-delivered s nodes size all x p false false [] xin pin =
    links-one s (with_node s x (node_in s nodes x) nodes) (size-with_node s nodes x (node_in s nodes x) xin size)
    (links-one s nodes size all x (node_in s nodes x) xin (all x xin)) p (node_in s nodes p) pin (all p pin)
links-delivered s nodes size all x p false false (m ∷ rest) xin pin =
    let sender : Node = with_link s p rest (node_in s nodes x) in
    let many : length sender.links ≡ s.k + s.m = length-put [] (node_in s nodes x).links (index_of s p) rest
    (let low = index-below s p pin in let long = all x xin in omega (arith, low, long))
    ∙ all x xin in
    links-one s (with_node s x sender nodes) (size-with_node s nodes x sender xin size)
    (links-one s nodes size all x sender xin many) p (receive_node s x m (node_in s nodes p)).node pin
    (emptied-many s m (node_after s (receive s x m (node_in s nodes p).process) (node_in s nodes p)) (length-map-range_with_len _ 0 (s.k + s.m)))

-- places are kept for each partition
places-many : (tickets : List Ticket) (t : List Settlement) (n a k : ℕ) (ledger : Ledger) → a + n ≤ k → length ledger.places ≡ k
    → length (ledger_after tickets t (range_with_len a n) ledger).places ≡ k
places-many tickets t zero a k ledger low many = many
places-many tickets t (suc n) a k ledger low many = places-many tickets t n (a + 1) k _ (omega (arith, low))
    (length-put [] ledger.places a _ (omega (arith, low, many)) ∙ many)

-- a group with all its links and places
pub record IsWide (w : World) : Type 0 where
  pub links : LinksMany w.shape w.nodes
  pub places : length w.places ≡ w.shape.k

wide-links : (w : World) (e : Event) → length w.nodes ≡ w.shape.k + w.shape.m → LinksMany w.shape w.nodes → MayCome w e
    → LinksMany w.shape (group_step w e).nodes
wide-links w (Ask caller op p) size all may = links-treated w.shape w.nodes size all p
    (ask_process w.shape (next_name w caller) op (process_of w p)) (process_node w p).down (process_node w p).dead may.1
wide-links w (Collect caller call p) size all may =
    links-treated w.shape w.nodes size all p (collect_from caller call (process_of w p) (range_with_len 0 w.shape.k))
    (process_node w p).down (process_node w p).dead may.1
wide-links w (Flush p) size all may = links-treated w.shape w.nodes size all p (flush_process w.shape (process_of w p))
    (process_node w p).down (process_node w p).dead may
wide-links w (Trace caller call d p) size all may =
    links-answered w.shape w.nodes size all p
    (fate_of w.shape caller call d.0 (process_of w p) (head_at (process_of w p) d.0)) (process_node w p).down
    (process_node w p).dead may.3
wide-links w (Deliver from to) size all may = links-delivered w.shape w.nodes size all from to (process_node w to).down
    (process_node w to).dead (at [] (process_node w from).links (index_of w.shape to)) may.0 may.1
wide-links w (Fail p keep) size all may = links-failed w.shape w.nodes size all p keep (process_node w p).dead may

wide-step : (w : World) (e : Event) → length w.nodes ≡ w.shape.k + w.shape.m → MayCome w e → IsWide w → IsWide (step w e).world
wide-step w e size may wide = record {
  links = wide-links w e size wide.links may;
  places = places-many _ (group_step w e).settled w.shape.k 0 w.shape.k _ (omega arith) wide.places;
}

wide-opening : (s : Dimensions) → IsWide (no_book s).history.world
wide-opening s = record {
  links = λ p pin. ap (λ (n : Node). length n.links) (node-opening p pin) ∙ length-replicate (s.k + s.m) [];
  places = length-replicate s.k [];
} where
  node-opening : (p : ProcessId) → IsProcess s p → node_in s (no_book s).history.world.nodes p ≡ opening_node s p
  node-opening p pin = at-indices s (opening_node s p) (λ x. opening_node s (process_at s x)) p pin ∙ ap (opening_node s) (process_at-index s p pin)

pub wide_always : (s : Dimensions) (es : List Event) → IsRun s es → IsWide (after s es)
wide_always s es run = subst IsWide (book-world s es) (book_always s (λ b. IsWide b.history.world) (wide-opening s)
    (λ done e now more may wide. wide-step (book_of s done).history.world e (book-framed s done now).nodes_many
    (subst (λ (w : World). MayCome w e) (sym (book-world s done)) may) wide) es run)

-- where nothing is settled the ledger stays
pub ledger-stays : (tickets : List Ticket) (n a : ℕ) (ledger : Ledger) → a + n ≤ length ledger.places
    → ledger_after tickets [] (range_with_len a n) ledger ≡ ledger
ledger-stays tickets zero a ledger low = refl
ledger-stays tickets (suc n) a ledger low =
    let same : ledger_with tickets a [] ledger ≡ ledger =
    ap (λ (ps : List (List (Option Run))). record { logged = ledger.logged; places = ps })
    (put-at [] [] ledger.places a (omega (arith, low))) in
    ap (ledger_after tickets [] (range_with_len (a + 1) n)) same ∙ ledger-stays tickets n (a + 1) ledger (omega (arith, low))

-- a ticket of another call stays
tickets-stay : (name : CallName) (op : Asked) (reply : Reply) (tickets : List Ticket)
    → Each (λ t. t.name ≢ name) tickets → map (op_moved (call_entry name op reply ∷ [])) tickets ≡ tickets
tickets-stay name op reply [] other = refl
tickets-stay name op reply (t ∷ ts) other =
    let fails : same_call name t.name ≡ false = call-ne name t.name (λ same. other.0 (sym same)) in
    let here : op_moved (call_entry name op reply ∷ []) t ≡ t = ap (λ (b : Bool). if (b || false) then record t { op = None } else t) fails in
    let rest : map (op_moved (call_entry name op reply ∷ [])) ts ≡ ts = tickets-stay name op reply ts other.1 in
    λ i. here i ∷ rest i

copy_kept-settles : (b : Bool) (s : Dimensions) (copy : Copy) (p : Process) → (copy_kept b s copy p).settled ≡ []
copy_kept-settles true s copy p = row-none _ s copy _
copy_kept-settles false s copy p = refl

copy_marked-settles : (s : Dimensions) (d n : ℕ) (o : Option Copy) (p : Process) → (copy_marked s d n o p).settled ≡ []
copy_marked-settles s d n None p = refl
copy_marked-settles s d n (Some copy) p = copy_kept-settles _ s _ p

own-settles : (s : Dimensions) (leader number block l : ℕ) (p : Process) → (own_mark s leader number block l p).settled ≡ []
own-settles s leader number block l p = none-when _ p (mark_taken s leader number block l (replica_of p l).applied p)
    (copy_marked-settles s l (replica_of p l).applied _ _)

each-settles : (f : ℕ → Process → ProcessStep) (ls : List ℕ) (p : Process) → ((l : ℕ) (q : Process) → (f l q).settled ≡ []) → (for_each ls f p).settled ≡ []
each-settles f [] p none = refl
each-settles f (l ∷ ls) p none = (λ i. none l p i ++ (for_each ls f (f l p).process).settled) ∙ each-settles f ls (f l p).process none

session-settles : (s : Dimensions) (block : ℕ) (p : Process) → (start_session s block p).settled ≡ []
session-settles s block p =
    let leader : ℕ = parity_number p.name in
    let number : ℕ = suc p.as_leader.last_session in
    each-settles (own_mark s leader number block) (lost_of s p) (session_opened s number block p) (λ l q. own-settles s leader number block l q)

-- nothing sent leaves a node as it is
node-stays : (s : Dimensions) (node : Node) → length node.links ≡ s.k + s.m → node_after s (quiet node.process) node ≡ node
node-stays s node many = ap (λ (ls : List (List Message)). record node { links = ls }) same where
  each : (i : ℕ) → i < length node.links → at [] node.links i ≡ link_after (knows_dead node.process.known (process_at s (0 + i))) (at [] node.links (0 + i)) []
  each i low = by (knows_dead node.process.known (process_at s (0 + i))) where
    by : (b : Bool) → at [] node.links i ≡ link_after b (at [] node.links (0 + i)) []
    by true = ap (at [] node.links) (omega arith)
    by false = ap (at [] node.links) (omega arith)

  same : links_after s node.process.known [] node.links ≡ node.links
  same =
      ap (λ (n : ℕ). map (λ x. link_after (knows_dead node.process.known (process_at s x)) (at [] node.links x) []) (range_with_len 0 n)) (sym many)
      ∙ sym (map-indices (λ (l : List Message). l) [] (λ x. link_after (knows_dead node.process.known (process_at s x))
      (at [] node.links x) []) node.links 0 each) ∙ map-id node.links

-- what a step of the group leaves, by its answer
abbrev Walked : List Node → GroupStep → Answer → Type 0
Walked nodes g (says.Ticket n) = Unit {0}
Walked nodes g (says.Reply reply) = accepts reply ≡ false → (g.nodes ≡ nodes) × (g.settled ≡ [])
Walked nodes g (says.Retry (cause.Block b)) = g.settled ≡ []
Walked nodes g _ = (g.nodes ≡ nodes) × (g.settled ≡ [])

module _ (w : World) (size : length w.nodes ≡ w.shape.k + w.shape.m) (wide : IsWide w) (p : ProcessId) (pin : IsProcess w.shape p) where
  -- the node was put back
  stays : with_node w.shape p (process_node w p) w.nodes ≡ w.nodes
  stays = node-back w.shape w.nodes p pin size

  -- a call that is only answered
  abbrev step_of : CallStep → GroupStep
  step_of call = record {
    nodes = with_node w.shape p (node_after w.shape call.step (process_node w p)) w.nodes;
    answer = call.answer;
    settled =
        call.step.settled;
  }

  put_back : with_node w.shape p (node_after w.shape (quiet (process_of w p)) (process_node w p)) w.nodes ≡ w.nodes
  put_back = ap (λ (n : Node). with_node w.shape p n w.nodes) (node-stays w.shape (process_node w p) (wide.links p pin)) ∙ stays

  walked-retry : (b : ℕ) (o : Option Oldest) → Walked w.nodes (step_of (retry_block w.shape b o (process_of w p)))
      (retry_block w.shape b o (process_of w p)).answer
  walked-retry b (Some o) = (put_back, refl)
  walked-retry b None = none-when _ (process_of w p) (start_session w.shape b (process_of w p)) (session-settles w.shape b (process_of w p))

  walked-ticketed : (b : Bool) (d : ℕ) (u : Update) (t : ProcessStep) → Walked w.nodes (step_of (ticketed b d u t)) (ticketed b d u t).answer
  walked-ticketed true d u t = λ refused. absurd (let yes = accepted-from u.outcome in cc (yes, refused))
  walked-ticketed false d u t = tt

  walked-act : (name : CallName) (op : Asked) (d : ℕ) (h : Head) (decision : Decision)
      → Walked w.nodes (step_of (act_on w.shape name op d h (process_of w p) decision)) (act_on w.shape name op d h (process_of w p) decision).answer
  walked-act name op d h (decides.Answer r) = λ refused. (put_back, refl)
  walked-act name op d h (decides.Retry n) = (put_back, refl)
  walked-act name op d h decides.NoSpace = (put_back, refl)
  walked-act name op d h (decides.NeedBlock b) = walked-retry b (oldest_inherited (process_of w p) (range_with_len 0 w.shape.k))
  walked-act name op d h (decides.Issue body outcome) =
      let u : Update = update_of name op d body outcome (process_of w p) in
      walked-ticketed (nat_le u.number (replica_of (issued w.shape d h u (process_of w p)).process d).applied) d u (issued w.shape d h u (process_of w p))

  walked-head : (name : CallName) (op : Asked) (d : ℕ) (o : Option Head)
      → Walked w.nodes (step_of (ask_head w.shape name op d (process_of w p) o)) (ask_head w.shape name op d (process_of w p) o).answer
  walked-head name op d None = (put_back, refl)
  walked-head name op d (Some h) =
      walked-act name op d h (decide (space_of w.shape) h.inherited (replica_of (process_of w p) d) op
      (found_at w.shape d (process_of w p) (process_of w p).name))

  walked : (caller : ℕ) (op : Asked) → Walked w.nodes (group_step w (Ask caller op p)) (group_step w (Ask caller op p)).answer
  walked caller op = by (process_node w p).down (process_node w p).dead where
    by : (down dead : Bool) → let t : NodeStep =
        if_up down dead (process_node w p)
        (treated w.shape (process_node w p) (ask_process w.shape (next_name w caller) op (process_of w p))) in
        Walked w.nodes (record { nodes = with_node w.shape p t.node w.nodes; answer = t.answer; settled = t.settled }) t.answer
    by true dead = (stays, refl)
    by false true = (stays, refl)
    by false false = walked-head (next_name w caller) op (home_of (key_of op.act) w.shape.k) (head_at (process_of w p) (home_of (key_of op.act) w.shape.k))

-- the group after a call that this step of it answers
abbrev world_with : World → AskedCall → List Node → List Settlement → Answer → World
world_with w c nodes settled answer =
    let tickets : List Ticket = tickets_after (length w.log) (Some c) answer w.tickets in
    let ledger : Ledger = ledger_after tickets settled (range_with_len 0 w.shape.k) (record { logged = logged_at_once (Some c) answer; places = w.places }) in
    record {
      shape = w.shape;
      nodes = nodes;
      events = suc w.events;
      asked = asked_after w.asked (Some c);
      log = grown w.log ledger.logged;
      places = ledger.places;
      tickets = ops_moved ledger.logged tickets;
    }

module _ (w : World) (wide : IsWide w) (c : AskedCall) (other : Each (λ t. t.name ≢ c.name) w.tickets) where
  ledger-is : (tickets : List Ticket) (logged : List Entry) (settled : List Settlement) → settled ≡ []
      → ledger_after tickets settled (range_with_len 0 w.shape.k) (record { logged = logged; places = w.places })
      ≡ record { logged = logged; places = w.places }
  ledger-is tickets logged settled none =
      ap (λ (t : List Settlement). ledger_after tickets t (range_with_len 0 w.shape.k) (record { logged = logged; places = w.places })) none
      ∙ ledger-stays tickets w.shape.k 0 (record { logged = logged; places = w.places }) (let many = wide.places in omega (arith, many))

  -- where nothing is logged at once
  keeps : (nodes : List Node) (settled : List Settlement) (answer : Answer) → settled ≡ [] → logged_at_once (Some c) answer ≡ []
      → tickets_after (length w.log) (Some c) answer w.tickets ≡ w.tickets → KeepsLedger w (world_with w c nodes settled answer)
  keeps nodes settled answer none quiet_log same =
      let ledger = ledger-is (tickets_after (length w.log) (Some c) answer w.tickets) (logged_at_once (Some c) answer) settled none in
      record {
        log = ap (λ (l : Ledger). grown w.log l.logged) ledger ∙ ap (grown w.log) quiet_log;
        places = ap (λ (l : Ledger). l.places) ledger;
        tickets = ap (λ (l : Ledger). ops_moved l.logged (tickets_after (length w.log) (Some c) answer w.tickets)) ledger
            ∙ ap (λ (es : List Entry). ops_moved es (tickets_after (length w.log) (Some c) answer w.tickets)) quiet_log ∙ same;
      }

  refused : (nodes : List Node) (settled : List Settlement) (reply : Reply) → settled ≡ [] → accepts reply ≡ false
      → ((world_with w c nodes settled (says.Reply reply)).places ≡ w.places) × ((world_with w c nodes settled (says.Reply reply)).tickets ≡ w.tickets)
  refused nodes settled reply none refuses =
      let ledger = ledger-is (tickets_after (length w.log) (Some c) (says.Reply reply) w.tickets) (logged_at_once (Some c) (says.Reply reply)) settled none in (
        ap (λ (l : Ledger). l.places) ledger,
        ap (λ (l : Ledger). ops_moved l.logged (tickets_after (length w.log) (Some c) (says.Reply reply) w.tickets)) ledger
            ∙ ap (λ (b : Bool). ops_moved (refusal_logged b c reply) (ticket_if b (length w.log) c w.tickets)) refuses
            ∙ tickets-stay c.name c.op reply w.tickets other,
      )

  leaves : (g : GroupStep) (answer : Answer) → Walked w.nodes g answer → AskLeaves w (world_with w c g.nodes g.settled answer) answer
  leaves g (says.Ticket n) walks = tt
  leaves g (says.Reply reply) walks = λ refuses. let both = walks refuses in let kept =
      refused g.nodes g.settled reply both.1 refuses in (both.0, kept.0, kept.1)
  leaves g (says.Retry (cause.Block b)) walks = keeps g.nodes g.settled (says.Retry (cause.Block b)) walks refl refl
  leaves g (says.Retry (cause.Pending d n)) walks = (walks.0, keeps g.nodes g.settled (says.Retry (cause.Pending d n)) walks.1 refl refl)
  leaves g says.NotYet walks = (walks.0, keeps g.nodes g.settled says.NotYet walks.1 refl refl)
  leaves g says.NoSpace walks = (walks.0, keeps g.nodes g.settled says.NoSpace walks.1 refl refl)
  leaves g says.Moved walks = (walks.0, keeps g.nodes g.settled says.Moved walks.1 refl refl)
  leaves g says.Lost walks = (walks.0, keeps g.nodes g.settled says.Lost walks.1 refl refl)
  leaves g says.Down walks = (walks.0, keeps g.nodes g.settled says.Down walks.1 refl refl)
  leaves g says.Idle walks = (walks.0, keeps g.nodes g.settled says.Idle walks.1 refl refl)
  leaves g says.Stranger walks = (walks.0, keeps g.nodes g.settled says.Stranger walks.1 refl refl)
  leaves g says.Done walks = (walks.0, keeps g.nodes g.settled says.Done walks.1 refl refl)
  leaves g says.AlreadyDead walks = (walks.0, keeps g.nodes g.settled says.AlreadyDead walks.1 refl refl)
  leaves g says.Gone walks = (walks.0, keeps g.nodes g.settled says.Gone walks.1 refl refl)
  leaves g (says.Stale n) walks = (walks.0, keeps g.nodes g.settled (says.Stale n) walks.1 refl refl)

-- tickets are of calls that were asked, so the next call has none
tickets-other : (log : List Entry) (asked : List ℕ) (c : AskedCall) (calls : List AskedCall) (tickets : List Ticket) → c.name.call ≡ at 0 asked c.name.caller
    → AreAsked asked calls → AreTickets log calls tickets → Each (λ t. t.name ≢ c.name) tickets
tickets-other log asked c [] [] next all are = tt
tickets-other log asked c [] (t ∷ ts) next all are = absurd are
tickets-other log asked c (x ∷ xs) [] next all are = absurd are
tickets-other log asked c (x ∷ xs) (t ∷ ts) next all are =
    ((λ same. next-new asked c x.name next all.0 (sym are.0 ∙ same)), tickets-other log asked c xs ts next all.1 are.2)

pub asks_leave_always : AsksLeaveAlways
asks_leave_always s es run caller op p may =
    let b : Book = book_of s es in
    let world : b.history.world ≡ after s es = book-world s es in
    let size : length (after s es).nodes ≡ (after s es).shape.k + (after s es).shape.m =
    subst (λ (w : World). length w.nodes ≡ w.shape.k + w.shape.m) world (book-framed s es run).nodes_many in
    let logs : LogsOf b = logs_always s (stands-always s (whole-always s)) es run in
    let wide : IsWide (after s es) = wide_always s es run in
    let other : Each (λ t. t.name ≢ next_name (after s es) caller) (after s es).tickets
    = subst (λ (w : World). Each (λ t. t.name ≢ next_name w caller) w.tickets) world
    (tickets-other b.history.world.log b.history.world.asked (next_call b.history.world caller op) b.issued
    b.history.world.tickets refl (asked_always s es run) logs.has_tickets) in
    leaves (after s es) wide (next_call (after s es) caller op) other (group_step (after s es) (Ask caller op p))
    (group_step (after s es) (Ask caller op p)).answer (walked (after s es) size wide p may.1 caller op)
