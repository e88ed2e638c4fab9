-- Each event of a history makes a move, and the frame of the group stays.
use Rattle.std.proofs.Common.{ℕ, ◌≡◌, ◌≢◌, ◌<◌, ◌≤◌, ◌+◌, ◌⊎◌, inl, inr, Bool, true, false, nat_lt, List, [], ◌∷◌}
use Rattle.std.proofs.Common.{length, map, refl, sym, ap, subst, ◌∙◌, arith}
use Rattle.std.proofs.lemmas.Grind.{common_steps}
use Rattle.std.proofs.lemmas.List.{length-map}
use Rattle.std.specs.List.{range_with_len}
use Rattle.group_types.specs.Dimensions.{Dimensions}
use Rattle.group_types.specs.Lists.{at}
use Rattle.group_types.specs.Names.{IsProcess, index_of, process_at}
use Rattle.group_types.specs.declared.process.ProcessId.{ProcessId}
use Rattle.group_types.proofs.Lists.{at-any, at-map, map-indices, map-put}
use Rattle.group_types.proofs.Names.{index-below, index-process_at, same-cases}
use Rattle.membership.specs.Members.{count_dead_words}
use Rattle.group_message.specs.declared.message.Message.{Message}
use Rattle.group_message.specs.declared.message.Message.TheVariants as tells
use Rattle.group_message.specs.declared.update.Update.{Update}
use Rattle.group_calls.specs.declared.event.Event.{Event}
use Rattle.group_calls.specs.declared.event.Event.TheVariants.{Ask, Collect, Deliver, Fail, Flush, Trace}
use Rattle.group_run.specs.Applying.{ProcessStep, Settlement, head_at}
use Rattle.group_run.specs.Asking.{CallStep, ask_process, collect_from, fate_of}
use Rattle.group_run.specs.Headline.{MayCome}
use Rattle.group_run.specs.History.{History, prolonged, settled_after, settled_with}
use Rattle.group_run.specs.Process.{Node}
use Rattle.group_run.specs.Receiving.{receive}
use Rattle.group_run.specs.World.{NodeStep, DeliveryStep, all_change, treated, unchanged, delivered, if_up}
use Rattle.group_run.specs.World.{flush_process, link_emptied, node_after, node_failed, node_in, nodes_told, process_node}
use Rattle.group_run.specs.World.{dead_nodes, next_name, opening_node, with_down, with_link, with_node}
use Rattle.law_moves.proofs.Moves.{Moves, Stays, Treated, Received, Failed, Treats, Asks, Collects, Flushes}
use Rattle.law_moves.specs.State.{IsGroupUp, lost_in, state_from}
use Rattle.law_moves.proofs.Reading.{node-back, node-here, node-other, size-with_node}
use Rattle.law_moves.proofs.Settled.{settled-at, settled-many, settled-quiet}
use Rattle.law_moves.proofs.Steps.{NodeActs, acted, died, node_acts, node_receives, popped}

-- what holds of the nodes and of the settled updates of every run
pub record Framed (s : Dimensions) (nodes : List Node) (settled : List (List Update)) : Type 0 where
  pub nodes_many : length nodes ≡ s.k + s.m
  pub settled_many : length settled ≡ s.k
  pub down : (p : ProcessId) → IsProcess s p → (node_in s nodes p).down ≡ nat_lt s.m (dead_nodes nodes)

-- who of the nodes is dead, told by the state
pub lost-nodes : (s : Dimensions) (nodes : List Node) (settled : List (List Update)) → length nodes ≡ s.k + s.m
    → lost_in s (state_from s nodes settled) ≡ dead_nodes nodes
lost-nodes s nodes settled size = ap count_dead_words (sym words) where
  word : (i : ℕ) → i < length nodes → (at (opening_node s (process_at s 0)) nodes i).dead ≡ (node_in s nodes (process_at s (0 + i))).dead
  word i below =
      let start : 0 + i ≡ i = omega arith in
      ap (λ (n : Node). n.dead) (at-any (opening_node s (process_at s 0)) (opening_node s (process_at s (0 + i))) nodes i below)
      ∙ ap (λ (x : ℕ). (at (opening_node s (process_at s (0 + i))) nodes x).dead) (sym (index-process_at s (0 + i) ∙ start))

  words : map (λ (n : Node). n.dead) nodes ≡ map (λ x. (node_in s nodes (process_at s x)).dead) (range_with_len 0 (s.k + s.m))
  words =
      map-indices (λ (n : Node). n.dead) (opening_node s (process_at s 0)) (λ x. (node_in s nodes (process_at s x)).dead) nodes 0 word
      ∙ ap (λ (n : ℕ). map (λ x. (node_in s nodes (process_at s x)).dead) (range_with_len 0 n)) size

module _ (s : Dimensions) (nodes : List Node) (settled : List (List Update)) (framed : Framed s nodes settled) where
  -- a node that isn't told that the group is down is in a group that isn't
  pub up_from : (p : ProcessId) → IsProcess s p → (node_in s nodes p).down ≡ false → IsGroupUp s (state_from s nodes settled)
  up_from p pin up =
      let told : nat_lt s.m (dead_nodes nodes) ≡ false = sym (framed.down p pin) ∙ up in
      let few : dead_nodes nodes ≤ s.m = grind (arith, common_steps) in
      let same = lost-nodes s nodes settled framed.nodes_many in omega (arith, few, same)

  -- one node changes, and its words stay
  pub framed-one : (new : List (List Update)) (p : ProcessId) (node : Node) → IsProcess s p
      → node.dead ≡ (node_in s nodes p).dead → node.down ≡ (node_in s nodes p).down
      → length new ≡ length settled → Framed s (with_node s p node nodes) new
  framed-one new p node pin dead down many = record {
    nodes_many = size-with_node s nodes p node pin framed.nodes_many;
    settled_many = many ∙ framed.settled_many;
    down = λ q qin. word q qin (same-cases q p) ∙ framed.down q qin ∙ ap (λ (n : ℕ). nat_lt s.m n) (sym (ap count_dead_words lost));
  } where
    lost : map (λ (n : Node). n.dead) (with_node s p node nodes) ≡ map (λ (n : Node). n.dead) nodes
    lost =
        map-put (λ (n : Node). n.dead) (opening_node s p) (opening_node s p) nodes (index_of s p) node
        (let low = index-below s p pin in let many = framed.nodes_many in omega (arith, low, many)) dead

    word : (q : ProcessId) → IsProcess s q → (q ≡ p) ⊎ (q ≢ p) → (node_in s (with_node s p node nodes) q).down ≡ (node_in s nodes q).down
    word q qin (inr other) = ap (λ (n : Node). n.down) (node-other s nodes p q node pin qin other framed.nodes_many)
    word q qin (inl same) =
        ap (λ (x : ProcessId). (node_in s (with_node s p node nodes) x).down) same ∙ ap (λ (n : Node). n.down) (node-here s nodes p node) ∙ down
        ∙ ap (λ (x : ProcessId). (node_in s nodes x).down) (sym same)

  -- what comes of an event: the frame, and a move
  pub record Comes (new : List Node) (updates : List (List Update)) : Type 0 where
    pub frame : Framed s new updates
    pub move : Moves s (state_from s nodes settled) (state_from s new updates)

  -- nothing changed
  pub comes_same : (new : List Node) → new ≡ nodes → Comes new (settled_after [] (range_with_len 0 s.k) settled)
  comes_same new same = record {
    frame = subst (λ (ns : List Node). Framed s ns (settled_after [] (range_with_len 0 s.k) settled)) (sym same)
        (subst (λ (us : List (List Update)). Framed s nodes us) (sym stays) framed);
    move = Stays (λ i. state_from s (same i) (stays i));
  } where
    stays : settled_after [] (range_with_len 0 s.k) settled ≡ settled
    stays = settled-quiet s.k 0 settled (let many = framed.settled_many in omega (arith, many))

  -- the settled updates, partition by partition
  pub grows : (t : List Settlement) (d : ℕ) → d < s.k → at [] (settled_after t (range_with_len 0 s.k) settled) d ≡ settled_with t d (at [] settled d)
  grows t d below = settled-at t s.k 0 d settled (omega arith) (omega arith)

  pub many_after : (t : List Settlement) → length (settled_after t (range_with_len 0 s.k) settled) ≡ length settled
  many_after t = settled-many t s.k 0 settled (let many = framed.settled_many in omega (arith, many))

  -- a process treats a call
  pub comes_treated : (p : ProcessId) (call : CallStep) → IsProcess s p → (down dead : Bool) → (node_in s nodes p).down ≡ down → (node_in s nodes p).dead ≡ dead
      → Treats s (node_in s nodes p).process call.step
      → Comes (with_node s p (if_up down dead (node_in s nodes p) (treated s (node_in s nodes p) call)).node nodes)
      (settled_after (if_up down dead (node_in s nodes p) (treated s (node_in s nodes p) call)).settled (range_with_len 0 s.k) settled)
  comes_treated p call pin true dead isdown isdead treats = comes_same _ (node-back s nodes p pin framed.nodes_many)
  comes_treated p call pin false true isdown isdead treats = comes_same _ (node-back s nodes p pin framed.nodes_many)
  comes_treated p call pin false false isdown isdead treats = record {
    frame = framed-one (settled_after call.step.settled (range_with_len 0 s.k) settled) p
        (node_after s call.step (node_in s nodes p)) pin refl refl (many_after call.step.settled);
    move = Treated p call.step pin (up_from p pin isdown) isdead treats
        (acted s nodes framed.nodes_many settled (settled_after call.step.settled (range_with_len 0 s.k) settled) p
        (node_after s call.step (node_in s nodes p)) call.step pin
        (node_acts s call.step (node_in s nodes p)) (grows call.step.settled));
  }

  -- a process answers and stays as it is
  pub comes_answered : (p : ProcessId) → IsProcess s p → (node : NodeStep) → node.node ≡ node_in s nodes p → node.settled ≡ []
      → Comes (with_node s p node.node nodes) (settled_after node.settled (range_with_len 0 s.k) settled)
  comes_answered p pin node same none =
      subst (λ (t : List Settlement). Comes (with_node s p node.node nodes) (settled_after t (range_with_len 0 s.k) settled)) (sym none)
      (comes_same (with_node s p node.node nodes) (ap (λ (n : Node). with_node s p n nodes) same ∙ node-back s nodes p pin framed.nodes_many))

-- to empty a link changes no word
pub emptied-dead : (s : Dimensions) (m : Message) (node : Node) → (link_emptied s m node).dead ≡ node.dead
emptied-dead s (tells.Notice dead) node = refl
emptied-dead s (tells.Update r d u stable) node = refl
emptied-dead s (tells.Ack r d n) node = refl
emptied-dead s (tells.Stable r d n) node = refl
emptied-dead s (tells.Adopt r d base list) node = refl
emptied-dead s (tells.ReadBlock session block rows) node = refl
emptied-dead s (tells.Block session bytes n) node = refl
emptied-dead s (tells.Mark session r block d n) node = refl
emptied-dead s (tells.Row session bytes stamp) node = refl
emptied-dead s (tells.Cease upto) node = refl

emptied-down : (s : Dimensions) (m : Message) (node : Node) → (link_emptied s m node).down ≡ node.down
emptied-down s (tells.Notice dead) node = refl
emptied-down s (tells.Update r d u stable) node = refl
emptied-down s (tells.Ack r d n) node = refl
emptied-down s (tells.Stable r d n) node = refl
emptied-down s (tells.Adopt r d base list) node = refl
emptied-down s (tells.ReadBlock session block rows) node = refl
emptied-down s (tells.Block session bytes n) node = refl
emptied-down s (tells.Mark session r block d n) node = refl
emptied-down s (tells.Row session bytes stamp) node = refl
emptied-down s (tells.Cease upto) node = refl

-- the words of nodes of which one died, and which were told so
pub told-lost : (nodes : List Node) (down : Bool) → map (λ (n : Node). n.dead) (map (with_down down) nodes) ≡ map (λ (n : Node). n.dead) nodes
told-lost [] down = refl
told-lost (n ∷ ns) down = ap (λ (rest : List Bool). n.dead ∷ rest) (told-lost ns down)

module _ (s : Dimensions) (nodes : List Node) (settled : List (List Update)) (framed : Framed s nodes settled) where
  -- the nodes of a delivery are both put back
  back_two : (x p : ProcessId) → IsProcess s x → IsProcess s p → with_node s p (node_in s nodes p) (with_node s x (node_in s nodes x) nodes) ≡ nodes
  back_two x p xin pin = ap (with_node s p (node_in s nodes p)) (node-back s nodes x xin framed.nodes_many) ∙ node-back s nodes p pin framed.nodes_many

  -- a message is delivered, or nothing
  pub comes_delivered : (x p : ProcessId) → IsProcess s x → IsProcess s p → x ≢ p → (down dead : Bool)
      → (node_in s nodes p).down ≡ down → (node_in s nodes p).dead ≡ dead
      → (link : List Message) → at [] (node_in s nodes x).links (index_of s p) ≡ link
      → let b : DeliveryStep = delivered down dead s x p (node_in s nodes x) (node_in s nodes p) link in
      Comes s nodes settled framed (with_node s p b.receiver.node (with_node s x b.sender nodes))
      (settled_after b.receiver.settled (range_with_len 0 s.k) settled)
  comes_delivered x p xin pin apart true dead isdown isdead link is = comes_same s nodes settled framed _ (back_two x p xin pin)
  comes_delivered x p xin pin apart false true isdown isdead link is = comes_same s nodes settled framed _ (back_two x p xin pin)
  comes_delivered x p xin pin apart false false isdown isdead [] is = comes_same s nodes settled framed _ (back_two x p xin pin)
  comes_delivered x p xin pin apart false false isdown isdead (m ∷ rest) is = record {
    frame = frame_two;
    move = Received (state_from s popped_nodes settled) x p m xin pin apart (up_from s nodes settled framed p pin isdown) isdead
        (popped s nodes framed.nodes_many settled x p m rest xin pin is)
        (acted s popped_nodes popped_many settled (settled_after step.settled (range_with_len 0 s.k) settled) p received
        step pin here_acts (grows s nodes settled framed step.settled));
  } where
    step : ProcessStep
    step = receive s x m (node_in s nodes p).process

    popped_nodes : List Node
    popped_nodes = with_node s x (with_link s p rest (node_in s nodes x)) nodes

    received : Node
    received = link_emptied s m (node_after s step (node_in s nodes p))

    popped_many : length popped_nodes ≡ s.k + s.m
    popped_many = size-with_node s nodes x (with_link s p rest (node_in s nodes x)) xin framed.nodes_many

    receiver_stays : node_in s popped_nodes p ≡ node_in s nodes p
    receiver_stays = node-other s nodes x p (with_link s p rest (node_in s nodes x)) xin pin (λ same. apart (sym same)) framed.nodes_many

    here_acts : NodeActs s (node_in s popped_nodes p) received step
    here_acts = subst (λ (n : Node). NodeActs s n received step) (sym receiver_stays) (node_receives s x m (node_in s nodes p))

    frame_one : Framed s popped_nodes settled
    frame_one = framed-one s nodes settled framed settled x (with_link s p rest (node_in s nodes x)) xin refl refl refl

    frame_two : Framed s (with_node s p received popped_nodes) (settled_after step.settled (range_with_len 0 s.k) settled)
    frame_two = framed-one s popped_nodes settled frame_one (settled_after step.settled (range_with_len 0 s.k) settled) p received pin
        (emptied-dead s m (node_after s step (node_in s nodes p)) ∙ ap (λ (n : Node). n.dead) (sym receiver_stays))
        (emptied-down s m (node_after s step (node_in s nodes p)) ∙ ap (λ (n : Node). n.down) (sym receiver_stays))
        (many_after s nodes settled framed step.settled)

  -- a process dies, or was dead
  pub comes_failed : (p : ProcessId) (keep : ℕ) → IsProcess s p → (dead : Bool) → (node_in s nodes p).dead ≡ dead
      → Comes s nodes settled framed (all_change dead s nodes p keep).nodes
      (settled_after (all_change dead s nodes p keep).settled (range_with_len 0 s.k) settled)
  comes_failed p keep pin true isdead = comes_same s nodes settled framed nodes refl
  comes_failed p keep pin false isdead =
      subst (λ (us : List (List Update)). Comes s nodes settled framed (nodes_told s.m cut) us)
      (sym (settled-quiet s.k 0 settled (let many = framed.settled_many in omega (arith, many))))
      (record {
        frame = record {
          nodes_many = length-map cut (with_down down) ∙ size-with_node s nodes p failed pin framed.nodes_many;
          settled_many = framed.settled_many;
          down = λ q qin. word q qin ∙ ap (λ (n : ℕ). nat_lt s.m n) (sym (ap count_dead_words (told-lost cut down)));
        };
        move = Failed p keep pin (died s nodes framed.nodes_many settled p keep pin isdead);
      })
    where
      failed : Node
      failed = node_failed s p keep (node_in s nodes p)

      cut : List Node
      cut = with_node s p failed nodes

      down : Bool
      down = nat_lt s.m (dead_nodes cut)

      word : (q : ProcessId) → IsProcess s q → (node_in s (map (with_down down) cut) q).down ≡ down
      word q qin = ap (λ (n : Node). n.down) (at-map (opening_node s q) (opening_node s q) (with_down down) cut (index_of s q)
          (let low = index-below s q qin in let many = size-with_node s nodes p failed pin framed.nodes_many in omega (arith, low, many)))

-- the frame of a history
abbrev pub FramedHistory : History → Type 0
FramedHistory h = Framed h.world.shape h.world.nodes h.settled

-- each event that may come makes a move, and the frame stays
pub event_comes : (h : History) (e : Event) (framed : FramedHistory h) → MayCome h.world e
    → Comes h.world.shape h.world.nodes h.settled framed (prolonged h e).world.nodes (prolonged h e).settled
event_comes h (Ask caller op p) framed may =
    comes_treated h.world.shape h.world.nodes h.settled framed p
    (ask_process h.world.shape (next_name h.world caller) op (process_node h.world p).process) may.1
    (process_node h.world p).down (process_node h.world p).dead refl refl (Asks (next_name h.world caller) op may.2)
event_comes h (Collect caller call p) framed may =
    comes_treated h.world.shape h.world.nodes h.settled framed p
    (collect_from caller call (process_node h.world p).process (range_with_len 0 h.world.shape.k)) may.1
    (process_node h.world p).down (process_node h.world p).dead refl refl (Collects caller call)
event_comes h (Flush p) framed may =
    comes_treated h.world.shape h.world.nodes h.settled framed p (flush_process h.world.shape (process_node h.world p).process) may
    (process_node h.world p).down (process_node h.world p).dead refl refl Flushes
event_comes h (Trace caller call d p) framed may =
    comes_answered h.world.shape h.world.nodes h.settled framed p may.3
    (if_up (process_node h.world p).down (process_node h.world p).dead (process_node h.world p) answer)
    (traced (process_node h.world p).down (process_node h.world p).dead).0 (traced (process_node h.world p).down (process_node h.world p).dead).1
  where
    answer : NodeStep
    answer = unchanged (fate_of h.world.shape caller call d.0 (process_node h.world p).process (head_at (process_node h.world p).process d.0))
        (process_node h.world p)

    traced : (down dead : Bool) → ((if_up down dead (process_node h.world p) answer).node ≡ process_node h.world p)
        × ((if_up down dead (process_node h.world p) answer).settled ≡ [])
    traced true dead = (refl, refl)
    traced false true = (refl, refl)
    traced false false = (refl, refl)
event_comes h (Deliver from to) framed may =
    comes_delivered h.world.shape h.world.nodes h.settled framed from to may.0 may.1 may.2 (process_node h.world to).down
    (process_node h.world to).dead refl refl
    (at [] (process_node h.world from).links (index_of h.world.shape to)) refl
event_comes h (Fail p keep) framed may = comes_failed h.world.shape h.world.nodes h.settled framed p keep may (process_node h.world p).dead refl
