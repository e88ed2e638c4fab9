-- A flush tells the settled numbers, and nothing else.
use Rattle.std.proofs.Common.{ℕ, suc, ◌≡◌, ◌≢◌, ◌<◌, ◌+◌, Bool, true, false, List, [], ◌∷◌, ◌++◌, length, Option, Some, None, refl, ap, ◌∙◌, arith}
use Rattle.std.specs.Prelude.{flat_map}
use Rattle.std.specs.List.{range_with_len}
use Rattle.group_types.specs.Dimensions.{Dimensions}
use Rattle.group_types.specs.Lists.{at}
use Rattle.group_types.specs.Names.{IsProcess, index_of}
use Rattle.group_types.specs.declared.process.ProcessId.{ProcessId}
use Rattle.group_types.specs.declared.process.ProcessId.TheVariants.{DataNode, ParityNode}
use Rattle.membership.specs.Members.{knows_dead}
use Rattle.group_message.specs.declared.message.Message.{Message}
use Rattle.group_message.specs.declared.message.Message.TheVariants.{Stable}
use Rattle.group_calls.specs.declared.event.Answer.TheVariants.{Done}
use Rattle.group_calls.specs.declared.event.Event.TheVariants.{Flush}
use Rattle.group_run.specs.Applying.{head_at, replica_of}
use Rattle.group_run.specs.Asking.{CallStep}
use Rattle.group_run.specs.Heading.{other_parities, partition, rank, tell_stable, tell_stables, to_parities}
use Rattle.group_run.specs.Meaning.{link, process_of}
use Rattle.group_run.specs.Process.{Head, Node, Process}
use Rattle.group_run.specs.World.{Ledger, NodeStep, World, after, flush_process, grown, if_up, ledger_after, link_after}
use Rattle.group_run.specs.World.{node_after, ops_moved, process_node, sent_to, step, treated, with_node}
use Rattle.law_moves.proofs.Moves.{Flushes}
use Rattle.law_moves.proofs.Reading.{link-living, link-sent, node-here, node-other}
use Rattle.law_histories.proofs.Calls.{sent-one}
use Rattle.law_histories.proofs.Steps.{sent_to-append}
use Rattle.law_answers.proofs.Leaves.{IsWide, ledger-stays, wide_always}
use Rattle.law_answers.proofs.Walks.{framed-after}
use Rattle.law_progress.proofs.Outward.{none-to, treated-out}
use Rattle.law_causes.specs.Flushing.{HasToldStables, TellsAlways, stable_told}
use Rattle.law_causes.proofs.Standing.{named-always}

module _ (s : Dimensions) (p : Process) where
  -- to another parity process that isn't known dead go all of them
  module _ (i : ℕ) (low : i < s.m) (other : ParityNode i ≢ p.name) (living : knows_dead p.known (ParityNode i) ≡ false) where
    one-told : (d : ℕ) (o : Option Head) → sent_to (ParityNode i) (tell_stable s p d o) ≡ stable_told p d o
    one-told d None = refl
    one-told d (Some h) = sent-one s p (Stable (rank h.rank) (partition d) (replica_of p d).applied) i low other living

    all-told : (ds : List ℕ) → sent_to (ParityNode i) (tell_stables s p ds) ≡ flat_map (λ d. stable_told p d (head_at p d)) ds
    all-told [] = refl
    all-told (d ∷ ds) =
        sent_to-append (ParityNode i) (tell_stable s p d (head_at p d)) (tell_stables s p ds)
        ∙ ap (λ (ms : List Message). ms ++ sent_to (ParityNode i) (tell_stables s p ds)) (one-told d (head_at p d))
        ∙ ap (λ (ms : List Message). stable_told p d (head_at p d) ++ ms) (all-told ds)

  -- to data processes none
  none-to-data : (e : ℕ) (m : Message) (is : List ℕ) → sent_to (DataNode e) (to_parities is m) ≡ []
  none-to-data e m [] = refl
  none-to-data e m (i ∷ is) = none-to-data e m is

  none-told : (e d : ℕ) (o : Option Head) → sent_to (DataNode e) (tell_stable s p d o) ≡ []
  none-told e d None = refl
  none-told e d (Some h) = none-to-data e (Stable (rank h.rank) (partition d) (replica_of p d).applied) (other_parities s.m p.name p.known)

  no-data : (e : ℕ) (ds : List ℕ) → sent_to (DataNode e) (tell_stables s p ds) ≡ []
  no-data e [] = refl
  no-data e (d ∷ ds) =
      sent_to-append (DataNode e) (tell_stable s p d (head_at p d)) (tell_stables s p ds)
      ∙ ap (λ (ms : List Message). ms ++ sent_to (DataNode e) (tell_stables s p ds)) (none-told e d (head_at p d)) ∙ no-data e ds

-- nothing is sent
quiet-link : (b : Bool) (l : List Message) → link_after b l [] ≡ l
quiet-link true l = refl
quiet-link false l = refl

-- the group after a node's step that asks nothing
abbrev world_with : World → ProcessId → NodeStep → World
world_with w p t =
    let ledger : Ledger = ledger_after w.tickets t.settled (range_with_len 0 w.shape.k) (record { logged = []; places = w.places }) in
    record {
      shape = w.shape;
      nodes = with_node w.shape p t.node w.nodes;
      events = suc w.events;
      asked = w.asked;
      log = grown w.log ledger.logged;
      places = ledger.places;
      tickets = ops_moved ledger.logged w.tickets;
    }

module _ (w : World) (size : length w.nodes ≡ w.shape.k + w.shape.m) (wide : IsWide w) (p : ProcessId)
    (pin : IsProcess w.shape p) (name : (process_of w p).name ≡ p) where
  abbrev x : Process
  x = process_of w p

  abbrev call : CallStep
  call = flush_process w.shape (process_of w p)

  abbrev new : Node
  new = node_after w.shape (flush_process w.shape (process_of w p)).step (process_node w p)

  abbrev later : World
  later = world_with w p (treated w.shape (process_node w p) (flush_process w.shape (process_of w p)))

  ledger-is : ledger_after w.tickets [] (range_with_len 0 w.shape.k) (record { logged = []; places = w.places }) ≡ record { logged = []; places = w.places }
  ledger-is = ledger-stays w.tickets w.shape.k 0 (record { logged = []; places = w.places }) (let many = wide.places in omega (arith, many))

  here : process_node later p ≡ new
  here = node-here w.shape w.nodes p new

  -- the link to a process afterwards
  sent-link : (q : ProcessId) → IsProcess w.shape q → link later p q ≡ link_after (knows_dead x.known q) (link w p q)
      (sent_to q (tell_stables w.shape x (range_with_len 0 w.shape.k)))
  sent-link q qin = ap (λ (n : Node). at [] n.links (index_of w.shape q)) here
      ∙ link-sent w.shape x.known (tell_stables w.shape x (range_with_len 0 w.shape.k)) (process_node w p).links q qin

  none-sent : (q : ProcessId) → IsProcess w.shape q → sent_to q (tell_stables w.shape x (range_with_len 0 w.shape.k)) ≡ [] → link later p q ≡ link w p q
  none-sent q qin none = sent-link q qin ∙ ap (link_after (knows_dead x.known q) (link w p q)) none ∙ quiet-link (knows_dead x.known q) (link w p q)

  told : HasToldStables w later p
  told = record {
    told = λ i low other living.
        ap (λ (n : Node). at [] n.links (index_of w.shape (ParityNode i))) here
        ∙ link-living w.shape x.known (tell_stables w.shape x (range_with_len 0 w.shape.k)) (process_node w p).links (ParityNode i) low living
        ∙ ap (λ (ms : List Message). link w p (ParityNode i) ++ ms)
        (all-told w.shape x i low (λ same. other (same ∙ name)) living (range_with_len 0 w.shape.k));
    to_data = λ d low. none-sent (DataNode d) low (no-data w.shape x d (range_with_len 0 w.shape.k));
    to_dead = λ q qin dead. sent-link q qin
        ∙ ap (λ (b : Bool). link_after b (link w p q) (sent_to q (tell_stables w.shape x (range_with_len 0 w.shape.k))))
        dead;
    to_itself = none-sent p pin (none-to p (tell_stables w.shape x (range_with_len 0 w.shape.k)) (treated-out p w.shape x call.step name Flushes).others);
    process = ap (λ (n : Node). n.process) here;
    lives = ap (λ (n : Node). n.dead) here;
    others = λ q qin other. node-other w.shape w.nodes p q new pin qin other size;
    ledger = record {
      log = ap (λ (l : Ledger). grown w.log l.logged) ledger-is;
      places = ap (λ (l : Ledger). l.places) ledger-is;
      tickets = ap (λ (l : Ledger). ops_moved l.logged w.tickets) ledger-is;
    };
  }

  pub flush-tells : (step w (Flush p)).turn.answer ≡ Done → HasToldStables w (step w (Flush p)).world p
  flush-tells is = by (process_node w p).down (process_node w p).dead is where
    by : (down dead : Bool) → (if_up down dead (process_node w p) (treated w.shape (process_node w p) call)).answer ≡ Done
        → HasToldStables w (world_with w p (if_up down dead (process_node w p) (treated w.shape (process_node w p) call))) p
    by true dead is = absurd (cc is)
    by false true is = absurd (cc is)
    by false false is = told

pub tells_always : TellsAlways
tells_always s es run p may =
    let framed = framed-after s es run (after s es) refl in
    flush-tells (after s es) framed.1.nodes_many (wide_always s es run) p may (named-always s es run p may)
