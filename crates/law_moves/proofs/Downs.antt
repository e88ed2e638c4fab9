-- A group that is down: the words of its nodes, and that its log stands still.
use Rattle.std.proofs.Common.{ℕ, zero, suc, ◌≡◌, ◌<◌, ◌≤◌, ◌+◌, Bool, true, false, nat_lt, List, [], ◌∷◌, length, map}
use Rattle.std.proofs.Common.{Option, Some, None, if◌then◌else◌, refl, sym, ap, subst, ◌∙◌, arith}
use Rattle.std.proofs.lemmas.Grind.{common_steps}
use Rattle.std.specs.List.{range_with_len}
use Rattle.group_types.specs.Dimensions.{Dimensions}
use Rattle.group_types.specs.Lists.{at, put}
use Rattle.group_types.specs.Names.{IsProcess, index_of}
use Rattle.group_types.specs.declared.process.ProcessId.{ProcessId}
use Rattle.membership.specs.Members.{count_dead_words}
use Rattle.group_message.specs.declared.update.Update.{Update}
use Rattle.group_calls.specs.declared.event.Answer.TheVariants as says
use Rattle.group_calls.specs.declared.event.Event.{Event}
use Rattle.group_calls.specs.declared.event.Event.TheVariants.{Ask, Collect, Deliver, Fail, Flush, Trace}
use Rattle.group_run.specs.Applying.{Settlement, head_at}
use Rattle.group_run.specs.Asking.{ask_process, collect_from, fate_of}
use Rattle.group_run.specs.Causes.{StandsStill}
use Rattle.group_run.specs.Headline.{IsRun, MayCome}
use Rattle.group_run.specs.History.{History, history_of, no_history}
use Rattle.group_run.specs.Meaning.{IsDown}
use Rattle.group_run.specs.Process.{Node}
use Rattle.group_run.specs.World.{AskedCall, DeliveryStep, GroupStep, Ledger, NodeStep, Ticket, World, after, all_change}
use Rattle.group_run.specs.World.{call_of, dead_nodes, deliver_nodes, delivered, flush_process, group_step, grown}
use Rattle.group_run.specs.World.{if_up, ledger_after, logged_at_once, next_name, node_failed, node_in, process_node}
use Rattle.group_run.specs.World.{nodes_told, opening_node, step, tickets_after, treated, unchanged, with_node}
use Rattle.law_moves.specs.Down.{DownAlways, WordsAlways}
use Rattle.law_moves.proofs.Events.{Framed, FramedHistory, told-lost}
use Rattle.law_moves.proofs.Reading.{node-back}
use Rattle.law_moves.proofs.Runs.{framed-from, framed-opening, world-from}

-- the frame of the group after a run
framed-after : (s : Dimensions) (es : List Event) → IsRun s es → (w : World) → w ≡ after s es → (settled : List (List Update)) × Framed w.shape w.nodes settled
framed-after s es run w is =
    let h : History = history_of s es in
    let framed : FramedHistory h = framed-from (no_history s) es (framed-opening s) run.1 in
    let same : h.world ≡ w = world-from (no_history s) es ∙ sym is in
    (h.settled, subst (λ (v : World). Framed v.shape v.nodes h.settled) same framed)

pub words_always : WordsAlways
words_always s es run p pin = (framed-after s es run (after s es) refl).1.down p pin

-- where nothing is settled nothing is logged
quiet-ledger : (tickets : List Ticket) (ds : List ℕ) (ledger : Ledger) → (ledger_after tickets [] ds ledger).logged ≡ ledger.logged
quiet-ledger tickets [] ledger = refl
quiet-ledger tickets (d ∷ ds) ledger = quiet-ledger tickets ds _

-- whoever is put dead makes no fewer dead
more-dead : (e : Node) (xs : List Node) (i : ℕ) (y : Node) → y.dead ≡ true → count_dead_words (map (λ (n : Node). n.dead) xs)
    ≤ count_dead_words (map (λ (n : Node). n.dead) (put e xs i y))
more-dead e [] i y dead = omega arith
more-dead e (x ∷ xs) zero y dead = by x.dead where
  by : (b : Bool) → (if b then 1 else 0) + count_dead_words (map (λ (n : Node). n.dead) xs) ≤ (if y.dead then 1 else 0) + count_dead_words
      (map (λ (n : Node). n.dead) xs)
  by b = let one : ◌≡◌ {A = ℕ} (if y.dead then 1 else 0) 1 = ap (λ (c : Bool). if c then 1 else 0) dead in few b (omega (arith, one))
    where
      few : (b : Bool) → 1 + count_dead_words (map (λ (n : Node). n.dead) xs) ≤ (if y.dead then 1 else 0) + count_dead_words (map (λ (n : Node). n.dead) xs)
          → (if b then 1 else 0) + count_dead_words (map (λ (n : Node). n.dead) xs) ≤ (if y.dead then 1 else 0) + count_dead_words
          (map (λ (n : Node). n.dead) xs)
      few true most = most
      few false most = omega (arith, most)
more-dead e (x ∷ xs) (suc i) y dead = let rest = more-dead e xs i y dead in omega (arith, rest)

module _ (w : World) (settled : List (List Update)) (framed : Framed w.shape w.nodes settled) (isdown : IsDown w) where
  -- each node knows it
  told : (p : ProcessId) → IsProcess w.shape p → (process_node w p).down ≡ true
  told p pin = framed.down p pin ∙ (let above : w.shape.m < dead_nodes w.nodes = isdown in grind (arith, common_steps))

  -- an event after which all nodes are the same, that settles nothing and is answered so
  record Nothing (e : Event) : Type 0 where
    answer : (group_step w e).answer ≡ says.Down
    quiet : (group_step w e).settled ≡ []
    nodes : (group_step w e).nodes ≡ w.nodes

  nothing-logged : (e : Event) → (group_step w e).settled ≡ [] → logged_at_once (call_of w e) (group_step w e).answer ≡ [] → (step w e).world.log ≡ w.log
  nothing-logged e quiet none =
      let tickets : List Ticket = tickets_after (length w.log) (call_of w e) (group_step w e).answer w.tickets in
      ap (grown w.log)
      (ap (λ (t : List Settlement).
      (ledger_after tickets t (range_with_len 0 w.shape.k)
      (record { logged = logged_at_once (call_of w e) (group_step w e).answer; places = w.places })).logged) quiet
      ∙ quiet-ledger tickets (range_with_len 0 w.shape.k) (record { logged = logged_at_once (call_of w e) (group_step w e).answer; places = w.places }) ∙ none)

  none-at-once : (call : Option AskedCall) → logged_at_once call says.Down ≡ []
  none-at-once None = refl
  none-at-once (Some c) = refl

  still : (e : Event) → Nothing e → StandsStill w e
  still e nothing = record {
    down = λ no. nothing.answer;
    log = nothing-logged e nothing.quiet (ap (logged_at_once (call_of w e)) nothing.answer ∙ none-at-once (call_of w e));
    stays = subst (λ (nodes : List Node). w.shape.m < dead_nodes nodes) (sym nothing.nodes) isdown;
  }

  -- one node that is told so answers so
  record AnswersDown (node : Node) (t : NodeStep) : Type 0 where
    answer : t.answer ≡ says.Down
    quiet : t.settled ≡ []
    node_same : t.node ≡ node

  answers-down : (node : Node) (t : NodeStep) (b : Bool) → b ≡ true → AnswersDown node (if_up b node.dead node t)
  answers-down node t true is = record { answer = refl; quiet = refl; node_same = refl }
  answers-down node t false is = cc is

  one : (e : Event) (p : ProcessId) (t : NodeStep) → IsProcess w.shape p
      → (group_step w e) ≡ record { nodes = with_node w.shape p t.node w.nodes; answer = t.answer; settled = t.settled } → AnswersDown (process_node w p) t
      → Nothing e
  one e p t pin is answers = record {
    answer = ap (λ (g : GroupStep). g.answer) is ∙ answers.answer;
    quiet = ap (λ (g : GroupStep). g.settled) is ∙ answers.quiet;
    nodes = ap (λ (g : GroupStep). g.nodes) is ∙ ap (λ (n : Node). with_node w.shape p n w.nodes) answers.node_same
        ∙ node-back w.shape w.nodes p pin framed.nodes_many;
  }

  stands : (e : Event) → MayCome w e → StandsStill w e
  stands (Ask caller op p) may =
      still (Ask caller op p)
      (one (Ask caller op p) p _ may.1 refl
      (answers-down (process_node w p)
      (treated w.shape (process_node w p) (ask_process w.shape (next_name w caller) op (process_node w p).process))
      (process_node w p).down (told p may.1)))
  stands (Collect caller call p) may =
      still (Collect caller call p)
      (one (Collect caller call p) p _ may.1 refl
      (answers-down (process_node w p)
      (treated w.shape (process_node w p) (collect_from caller call (process_node w p).process (range_with_len 0 w.shape.k)))
      (process_node w p).down (told p may.1)))
  stands (Flush p) may =
      still (Flush p)
      (one (Flush p) p _ may refl
      (answers-down (process_node w p) (treated w.shape (process_node w p) (flush_process w.shape (process_node w p).process))
      (process_node w p).down (told p may)))
  stands (Trace caller call d p) may =
      still (Trace caller call d p)
      (one (Trace caller call d p) p _ may.3 refl
      (answers-down (process_node w p)
      (unchanged (fate_of w.shape caller call d.0 (process_node w p).process (head_at (process_node w p).process d.0))
      (process_node w p)) (process_node w p).down (told p may.3)))
  stands (Deliver from to) may = still (Deliver from to) (by (process_node w to).down (told to may.1)) where
    answers : (b : Bool) → b ≡ true → (t : DeliveryStep) → t ≡ delivered b (process_node w to).dead w.shape from to
        (process_node w from) (process_node w to) (at [] (process_node w from).links (index_of w.shape to))
        → (t.receiver.answer ≡ says.Down) × (t.receiver.settled ≡ []) × (t.sender ≡ process_node w from) × (t.receiver.node ≡ process_node w to)
    answers true is t same = (
      ap (λ (x : DeliveryStep). x.receiver.answer) same,
      ap (λ (x : DeliveryStep). x.receiver.settled) same,
      ap (λ (x : DeliveryStep). x.sender) same,
      ap (λ (x : DeliveryStep). x.receiver.node) same,
    )
    answers false is t same = cc is

    by : (b : Bool) → b ≡ true → Nothing (Deliver from to)
    by b is =
        let got = answers (process_node w to).down (told to may.1) (deliver_nodes w.shape from to (process_node w from) (process_node w to)) refl in record {
          answer = got.0;
          quiet = got.1;
          nodes = (λ i. with_node w.shape to (got.3 i) (with_node w.shape from (got.2 i) w.nodes))
              ∙ ap (with_node w.shape to (process_node w to)) (node-back w.shape w.nodes from may.0 framed.nodes_many)
              ∙ node-back w.shape w.nodes to may.1 framed.nodes_many;
        }
  stands (Fail p keep) may = record {
    down = λ no. absurd (no tt);
    log = nothing-logged (Fail p keep) (quiet (process_node w p).dead) refl;
    stays = stays (process_node w p).dead;
  } where
    quiet : (dead : Bool) → (all_change dead w.shape w.nodes p keep).settled ≡ []
    quiet true = refl
    quiet false = refl

    stays : (dead : Bool) → w.shape.m < dead_nodes (all_change dead w.shape w.nodes p keep).nodes
    stays true = isdown
    stays false =
        let cut : List Node = with_node w.shape p (node_failed w.shape p keep (node_in w.shape w.nodes p)) w.nodes in
        let same : dead_nodes (nodes_told w.shape.m cut) ≡ dead_nodes cut = ap count_dead_words (told-lost cut (nat_lt w.shape.m (dead_nodes cut))) in
        let more : dead_nodes w.nodes ≤ dead_nodes cut = more-dead (opening_node w.shape p) w.nodes (index_of w.shape p)
        (node_failed w.shape p keep (node_in w.shape w.nodes p)) refl in
        let above : w.shape.m < dead_nodes w.nodes = isdown in
        omega (arith, same, more, above)

pub down_always : DownAlways
down_always s es run isdown e may = let framed = framed-after s es run (after s es) refl in stands (after s es) framed.0 framed.1 isdown e may
