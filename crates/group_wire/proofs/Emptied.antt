-- In every run of the machine the link to a process that is known to be dead is empty.
use Rattle.std.proofs.Common.{ℕ, ◌≡◌, ◌≢◌, ◌+◌, ◌⊎◌, inl, inr, Bool, true, false, List, [], ◌∷◌, ◌++◌, length, refl, sym, ap, subst, ◌∙◌, if◌then◌else◌}
use Rattle.group_types.specs.Dimensions.{Dimensions}
use Rattle.group_types.specs.Lists.{at}
use Rattle.group_types.specs.Names.{IsProcess, index_of, process_at, same_process}
use Rattle.group_types.specs.declared.process.ProcessId.{ProcessId}
use Rattle.group_types.proofs.Names.{process_at-index, same-cases, same-refl}
use Rattle.membership.specs.Members.{knows_dead}
use Rattle.group_message.specs.declared.message.Message.{Message}
use Rattle.group_message.specs.declared.message.Message.TheVariants as tells
use Rattle.group_calls.specs.declared.event.Event.{Event}
use Rattle.group_calls.specs.declared.event.Event.TheVariants as event
use Rattle.group_run.specs.Applying.{ProcessStep, head_at}
use Rattle.group_run.specs.Asking.{CallStep, ask_process, collect_from, fate_of}
use Rattle.group_run.specs.Headline.{IsRun, IsRunFrom, MayCome}
use Rattle.group_run.specs.Process.{Node}
use Rattle.group_run.specs.Receiving.{receive}
use Rattle.group_run.specs.World.{NodeStep, DeliveryStep, World, after, all_change, delivered, flush_process, if_up}
use Rattle.group_run.specs.World.{link_after, link_emptied, links_after, links_without, next_name, node_after}
use Rattle.group_run.specs.World.{node_failed, node_in, nodes_told, opening, process_node, sent_to, step, treated, unchanged}
use Rattle.group_run.specs.World.{with_link, with_node, world_after}
use Rattle.law_moves.specs.State.{state_from}
use Rattle.law_moves.proofs.Events.{emptied-dead}
use Rattle.law_moves.proofs.Members.{Stands}
use Rattle.law_moves.specs.Known.{is_notice}
use Rattle.law_moves.proofs.Moves.{Died, Popped}
use Rattle.law_moves.proofs.Reading.{at-indices, link-others, link-sent, node-back, node-here, node-other, size-with_node}
use Rattle.law_moves.proofs.Runs.{runs_move}
use Rattle.law_moves.proofs.Standing.{stands-notice, stands-popped}
use Rattle.law_moves.proofs.Steps.{died, popped}
use Rattle.law_answers.proofs.Entries.{after-more, run-more}
use Rattle.std.specs.List.{range_with_len}
use Rattle.group_wire.proofs.Extending.{nodes-many, shape-after, stands-after}
use Rattle.group_wire.proofs.Mirrors.{link_in}

-- what stands in links by who is dead and known to be
abbrev pub Stood : Dimensions → List Node → Type 0
Stood s nodes = (x q : ProcessId) → IsProcess s x → IsProcess s q → x ≢ q → (node_in s nodes q).dead ≡ false
    → Stands x (node_in s nodes x).dead (knows_dead (node_in s nodes q).process.known x) (link_in s nodes x q)

-- nothing is on the way from a process that lives to one that it knows to be dead
abbrev pub Emptied : Dimensions → List Node → Type 0
Emptied s nodes = (p q : ProcessId) → IsProcess s p → IsProcess s q → q ≢ p → (node_in s nodes p).dead ≡ false
    → knows_dead (node_in s nodes p).process.known q ≡ true → link_in s nodes p q ≡ []

not-nothing : (front : List Message) (m : Message) → front ++ m ∷ [] ≡ [] → ⊥
not-nothing [] m is = cc is
not-nothing (x ∷ front) m is = cc is

-- where a link stays, its sender is known to be dead as before
still-known : (x : ProcessId) (dead old new : Bool) (link : List Message) → Stands x dead old link → Stands x dead new link → new ≡ true → old ≡ true
still-known x dead true new link was is knows = refl
still-known x dead false false link was is knows = cc knows
still-known x false false true link was is knows = absurd is
still-known x true false true link was is knows = absurd (not-nothing was.front (tells.Notice x) (sym was.is ∙ is))

-- a dead process of which nothing is on the way is known to be dead
pub nothing-known : (x : ProcessId) (dead known : Bool) (link : List Message) → Stands x dead known link → dead ≡ true → link ≡ [] → known ≡ true
nothing-known x dead true link stands lost none = refl
nothing-known x true false link stands lost none = absurd (not-nothing stands.front (tells.Notice x) (sym stands.is ∙ none))
nothing-known x false false link stands lost none = cc lost

-- a message tells of a death, or not
which-notice : (m : Message) → (is_notice m ≡ false) ⊎ ((d : ProcessId) × (m ≡ tells.Notice d))
which-notice (tells.Notice d) = inr (d, refl)
which-notice (tells.Update r d u stable) = inl refl
which-notice (tells.Ack r d n) = inl refl
which-notice (tells.Stable r d n) = inl refl
which-notice (tells.Adopt r d base list) = inl refl
which-notice (tells.ReadBlock session block rows) = inl refl
which-notice (tells.Block session bytes n) = inl refl
which-notice (tells.Mark session r block d n) = inl refl
which-notice (tells.Row session bytes stamp) = inl refl
which-notice (tells.Cease upto) = inl refl

-- what is emptied changes no process
emptied-process : (s : Dimensions) (m : Message) (node : Node) → (link_emptied s m node).process ≡ node.process
emptied-process s (tells.Notice dead) node = refl
emptied-process s (tells.Update r d u stable) node = refl
emptied-process s (tells.Ack r d n) node = refl
emptied-process s (tells.Stable r d n) node = refl
emptied-process s (tells.Adopt r d base list) node = refl
emptied-process s (tells.ReadBlock session block rows) node = refl
emptied-process s (tells.Block session bytes n) node = refl
emptied-process s (tells.Mark session r block d n) node = refl
emptied-process s (tells.Row session bytes stamp) node = refl
emptied-process s (tells.Cease upto) node = refl

emptied-here : (s : Dimensions) (dead : ProcessId) (links : List (List Message)) (q : ProcessId) → IsProcess s q
    → q ≡ dead → at [] (links_without s dead links) (index_of s q) ≡ []
emptied-here s dead links q qin same =
    at-indices s [] (λ x. if same_process (process_at s x) dead then [] else at [] links x) q qin
    ∙ ap (λ (x : ProcessId). if same_process x dead then [] else at [] links (index_of s q)) (process_at-index s q qin)
    ∙ ap (λ (b : Bool). if b then [] else at [] links (index_of s q)) (ap (same_process q) (sym same) ∙ same-refl q)

-- a link is empty behind a notice, where it was, and where the notice is of its receiver
link-nothing : (s : Dimensions) (m : Message) (node : Node) (q : ProcessId) → IsProcess s q
    → (at [] node.links (index_of s q) ≡ []) ⊎ (m ≡ tells.Notice q) → at [] (link_emptied s m node).links (index_of s q)
    ≡ []
link-nothing s (tells.Notice dead) node q qin (inr is) = emptied-here s dead node.links q qin (sym (ap named is)) where
  named : Message → ProcessId
  named (tells.Notice y) = y
  named _ = dead
link-nothing s (tells.Notice dead) node q qin (inl none) = by (same-cases q dead) where
  by : (q ≡ dead) ⊎ (q ≢ dead) → at [] (links_without s dead node.links) (index_of s q) ≡ []
  by (inl same) = emptied-here s dead node.links q qin same
  by (inr other) = link-others s dead node.links q qin other ∙ none
link-nothing s (tells.Update r d u stable) node q qin (inl none) = none
link-nothing s (tells.Update r d u stable) node q qin (inr is) = cc is
link-nothing s (tells.Ack r d n) node q qin (inl none) = none
link-nothing s (tells.Ack r d n) node q qin (inr is) = cc is
link-nothing s (tells.Stable r d n) node q qin (inl none) = none
link-nothing s (tells.Stable r d n) node q qin (inr is) = cc is
link-nothing s (tells.Adopt r d base list) node q qin (inl none) = none
link-nothing s (tells.Adopt r d base list) node q qin (inr is) = cc is
link-nothing s (tells.ReadBlock session block rows) node q qin (inl none) = none
link-nothing s (tells.ReadBlock session block rows) node q qin (inr is) = cc is
link-nothing s (tells.Block session bytes n) node q qin (inl none) = none
link-nothing s (tells.Block session bytes n) node q qin (inr is) = cc is
link-nothing s (tells.Mark session r block d n) node q qin (inl none) = none
link-nothing s (tells.Mark session r block d n) node q qin (inr is) = cc is
link-nothing s (tells.Row session bytes stamp) node q qin (inl none) = none
link-nothing s (tells.Row session bytes stamp) node q qin (inr is) = cc is
link-nothing s (tells.Cease upto) node q qin (inl none) = none
link-nothing s (tells.Cease upto) node q qin (inr is) = cc is

module _ (s : Dimensions) (nodes : List Node) (size : length nodes ≡ s.k + s.m) (old : Emptied s nodes) where
  -- one node changes, and has emptied its links to those that it knows to be dead
  emptied-one : (p : ProcessId) (node : Node) → IsProcess s p
      → ((q : ProcessId) → IsProcess s q → q ≢ p → knows_dead node.process.known q ≡ true
      → at [] node.links (index_of s q) ≡ [])
      → Emptied s (with_node s p node nodes)
  emptied-one p node pin empty y q yin qin other lives knows = by (same-cases y p) where
    here : node_in s (with_node s p node nodes) p ≡ node
    here = node-here s nodes p node

    by : (y ≡ p) ⊎ (y ≢ p) → link_in s (with_node s p node nodes) y q ≡ []
    by (inl same) =
        let there : node_in s (with_node s p node nodes) y ≡ node = ap (λ (z : ProcessId). node_in s (with_node s p node nodes) z) same ∙ here in
        ap (λ (n : Node). at [] n.links (index_of s q)) there
        ∙ empty q qin (λ at_p. other (at_p ∙ sym same)) (sym (ap (λ (n : Node). knows_dead n.process.known q) there) ∙ knows)
    by (inr far) =
        let there : node_in s (with_node s p node nodes) y ≡ node_in s nodes y = node-other s nodes p y node pin yin far size in
        ap (λ (n : Node). at [] n.links (index_of s q)) there
        ∙ old y q yin qin other (sym (ap (λ (n : Node). n.dead) there) ∙ lives) (sym (ap (λ (n : Node). knows_dead n.process.known q) there) ∙ knows)

  -- what a process sends doesn't go to one that it knows to be dead
  sent-nothing : (p : ProcessId) (t : ProcessStep) → IsProcess s p → (node_in s nodes p).dead ≡ false
      → ((q : ProcessId) → IsProcess s q → q ≢ p → knows_dead t.process.known q ≡ true → knows_dead (node_in s nodes p).process.known q ≡ true)
      → (q : ProcessId) → IsProcess s q → q ≢ p → knows_dead t.process.known q ≡ true
      → at [] (links_after s t.process.known t.sent (node_in s nodes p).links) (index_of s q) ≡ []
  sent-nothing p t pin lives knew q qin other knows =
      link-sent s t.process.known t.sent (node_in s nodes p).links q qin
      ∙ ap (λ (b : Bool). link_after b (link_in s nodes p q) (sent_to q t.sent)) knows
      ∙ old p q pin qin other lives (knew q qin other knows)

  -- the first message of a link is taken out of it
  emptied-popped : (x p : ProcessId) (m : Message) (rest : List Message) → IsProcess s x → IsProcess s p → p ≢ x
      → link_in s nodes x p ≡ m ∷ rest → Emptied s (with_node s x (with_link s p rest (node_in s nodes x)) nodes)
  emptied-popped x p m rest xin pin apart first y q yin qin other lives knows = by (same-cases y x) (same-cases q p) where
    pops : Popped s (state_from s nodes []) (state_from s (with_node s x (with_link s p rest (node_in s nodes x)) nodes) []) x p m
    pops = popped s nodes size [] x p m rest xin pin first

    was : link_in s nodes y q ≡ []
    was = old y q yin qin other (sym (pops.dead y yin) ∙ lives) (sym (ap (λ p. knows_dead p.known q) (pops.processes y yin)) ∙ knows)

    by : (y ≡ x) ⊎ (y ≢ x) → (q ≡ p) ⊎ (q ≢ p) → link_in s (with_node s x (with_link s p rest (node_in s nodes x)) nodes) y q ≡ []
    by (inr far) w = pops.links y q yin qin (inl far) ∙ was
    by (inl same) (inr far) = pops.links y q yin qin (inr far) ∙ was
    by (inl same) (inl at_p) = cc (sym first ∙ ap (λ (z : ProcessId). link_in s nodes z p) (sym same)
        ∙ ap (λ (z : ProcessId). link_in s nodes y z) (sym at_p) ∙ was)

  -- a process fails
  emptied-failed : (p : ProcessId) (keep : ℕ) → IsProcess s p → (dead : Bool) → (node_in s nodes p).dead ≡ dead
      → Emptied s (all_change dead s nodes p keep).nodes
  emptied-failed p keep pin true isdead y q yin qin other lives knows = old y q yin qin other lives knows
  emptied-failed p keep pin false isdead y q yin qin other lives knows = by (same-cases y p) where
    dies : Died s (state_from s nodes []) (state_from s (nodes_told s.m (with_node s p (node_failed s p keep (node_in s nodes p)) nodes)) []) p keep
    dies = died s nodes size [] p keep pin isdead

    by : (y ≡ p) ⊎ (y ≢ p) → link_in s (nodes_told s.m (with_node s p (node_failed s p keep (node_in s nodes p)) nodes)) y q ≡ []
    by (inl same) =
        cc (
          lives,
          ap
              (λ (z : ProcessId). (node_in s (nodes_told s.m (with_node s p (node_failed s p keep (node_in s nodes p)) nodes))
              z).dead) same ∙ dies.dead,
        )
    by (inr far) = dies.links y q yin qin far ∙ old y q yin qin other (sym (dies.others y yin far) ∙ lives)
        (sym (ap (λ p. knows_dead p.known q) (dies.processes y yin)) ∙ knows)

  emptied-back : (p : ProcessId) (node : Node) → IsProcess s p → node ≡ node_in s nodes p → Emptied s (with_node s p node nodes)
  emptied-back p node pin same = subst (Emptied s) (sym (ap (λ (n : Node). with_node s p n nodes) same ∙ node-back s nodes p pin size)) old

  back-two : (x p : ProcessId) → IsProcess s x → IsProcess s p → Emptied s (with_node s p (node_in s nodes p) (with_node s x (node_in s nodes x) nodes))
  back-two x p xin pin = subst (Emptied s) (sym (ap (with_node s p (node_in s nodes p)) (node-back s nodes x xin size) ∙ node-back s nodes p pin size)) old

  module _ (before : Stood s nodes) where
    -- a process treats a call
    emptied-treated : (p : ProcessId) (call : CallStep) → IsProcess s p → (down dead : Bool) → (node_in s nodes p).dead ≡ dead
        → Stood s (with_node s p (if_up down dead (node_in s nodes p) (treated s (node_in s nodes p) call)).node nodes)
        → Emptied s (with_node s p (if_up down dead (node_in s nodes p) (treated s (node_in s nodes p) call)).node nodes)
    emptied-treated p call pin true dead isdead now = emptied-back p _ pin refl
    emptied-treated p call pin false true isdead now = emptied-back p _ pin refl
    emptied-treated p call pin false false isdead now = emptied-one p (node_after s call.step (node_in s nodes p)) pin
        (sent-nothing p call.step pin isdead knew) where
          new : Node
          new = node_after s call.step (node_in s nodes p)

          here : node_in s (with_node s p (node_after s call.step (node_in s nodes p)) nodes) p ≡ node_after s call.step (node_in s nodes p)
          here = node-here s nodes p (node_after s call.step (node_in s nodes p))

          knew : (q : ProcessId) → IsProcess s q → q ≢ p → knows_dead call.step.process.known q ≡ true → knows_dead (node_in s nodes p).process.known q ≡ true
          knew q qin other knows =
              let there : node_in s (with_node s p new nodes) q ≡ node_in s nodes q = node-other s nodes p q new pin qin other size in
              still-known q (node_in s nodes q).dead (knows_dead (node_in s nodes p).process.known q)
              (knows_dead call.step.process.known q) (link_in s nodes q p)
              (before q p qin pin other isdead)
              (subst (λ (n : Node). Stands q n.dead (knows_dead call.step.process.known q) (at [] n.links (index_of s p))) there
              (subst (λ (n : Node). Stands q (node_in s (with_node s p new nodes) q).dead (knows_dead n.process.known q)
              (link_in s (with_node s p new nodes) q p)) here
              (now q p qin pin other (ap (λ (n : Node). n.dead) here ∙ isdead))))
              knows

module _ (s : Dimensions) (nodes : List Node) (size : length nodes ≡ s.k + s.m) (old : Emptied s nodes) (before : Stood s nodes) where
  -- a message is received
  emptied-received : (x p : ProcessId) (m : Message) (rest : List Message) → IsProcess s x → IsProcess s p → x ≢ p
      → link_in s nodes x p ≡ m ∷ rest → (node_in s nodes p).dead ≡ false
      → let base : List Node = with_node s x (with_link s p rest (node_in s nodes x)) nodes in
      let node : Node = link_emptied s m (node_after s (receive s x m (node_in s nodes p).process) (node_in s nodes p)) in
      Stood s (with_node s p node base) → Emptied s (with_node s p node base)
  emptied-received x p m rest xin pin apart first lives now =
      emptied-one s base many (emptied-popped s nodes size old x p m rest xin pin (λ same. apart (sym same)) first) p node pin links
    where
      base : List Node
      base = with_node s x (with_link s p rest (node_in s nodes x)) nodes

      t : ProcessStep
      t = receive s x m (node_in s nodes p).process

      node : Node
      node = link_emptied s m (node_after s (receive s x m (node_in s nodes p).process) (node_in s nodes p))

      many : length base ≡ s.k + s.m
      many = size-with_node s nodes x (with_link s p rest (node_in s nodes x)) xin size

      pops : Popped s (state_from s nodes []) (state_from s base []) x p m
      pops = popped s nodes size [] x p m rest xin pin first

      here : node_in s (with_node s p node base) p ≡ node
      here = node-here s base p node

      stands : (q : ProcessId) → IsProcess s q → q ≢ p → Stands q (node_in s nodes q).dead (knows_dead t.process.known q) (link_in s base q p)
      stands q qin other =
          let there : node_in s (with_node s p node base) q ≡ node_in s base q = node-other s base p q node pin qin other many in
          subst (λ (b : Bool). Stands q b (knows_dead t.process.known q) (link_in s base q p)) (pops.dead q qin)
          (subst (λ (n : Node). Stands q n.dead (knows_dead t.process.known q) (at [] n.links (index_of s p))) there
          (subst (λ (b : Bool). Stands q (node_in s (with_node s p node base) q).dead b (link_in s (with_node s p node base) q p))
          (ap (λ (n : Node). knows_dead n.process.known q) here ∙ ap (λ p. knows_dead p.known q) (emptied-process s m (node_after s t (node_in s nodes p))))
          (now q p qin pin other (ap (λ (n : Node). n.dead) here ∙ emptied-dead s m (node_after s t (node_in s nodes p)) ∙ lives))))

      links : (q : ProcessId) → IsProcess s q → q ≢ p → knows_dead node.process.known q ≡ true → at [] node.links (index_of s q) ≡ []
      links q qin other knows = link-nothing s m (node_after s t (node_in s nodes p)) q qin (by (same-cases q x) (which-notice m)) where
        known : knows_dead t.process.known q ≡ true
        known = sym (ap (λ p. knows_dead p.known q) (emptied-process s m (node_after s t (node_in s nodes p)))) ∙ knows

        Empties : Type 0
        Empties = (at [] (node_after s t (node_in s nodes p)).links (index_of s q) ≡ []) ⊎ (m ≡ tells.Notice q)

        sent : knows_dead (node_in s nodes p).process.known q ≡ true → at [] (node_after s t (node_in s nodes p)).links (index_of s q) ≡ []
        sent knew =
            link-sent s t.process.known t.sent (node_in s nodes p).links q qin
            ∙ ap (λ (b : Bool). link_after b (link_in s nodes p q) (sent_to q t.sent)) known
            ∙ old p q pin qin other lives knew

        was : Stands q (node_in s nodes q).dead (knows_dead (node_in s nodes p).process.known q) (link_in s nodes q p)
        was = before q p qin pin other lives

        popped-one : q ≡ x → link_in s nodes q p ≡ m ∷ link_in s base q p
        popped-one same = subst (λ (z : ProcessId). link_in s nodes z p ≡ m ∷ link_in s base z p) (sym same) pops.first

        by : (q ≡ x) ⊎ (q ≢ x) → (is_notice m ≡ false) ⊎ ((d : ProcessId) × (m ≡ tells.Notice d))
            → (at [] (node_after s t (node_in s nodes p)).links (index_of s q) ≡ []) ⊎ (m ≡ tells.Notice q)
        by (inr far) w =
            inl (sent (still-known q (node_in s nodes q).dead (knows_dead (node_in s nodes p).process.known q)
            (knows_dead t.process.known q) (link_in s nodes q p) was
            (subst (Stands q (node_in s nodes q).dead (knows_dead t.process.known q)) (pops.links q p qin pin (inl far)) (stands q qin other)) known))
        by (inl same) (inl plain) =
            inl (sent (still-known q (node_in s nodes q).dead (knows_dead (node_in s nodes p).process.known q)
            (knows_dead t.process.known q) (link_in s base q p)
            (stands-popped q (node_in s nodes q).dead (knows_dead (node_in s nodes p).process.known q) m (link_in s base q p) plain
            (subst (Stands q (node_in s nodes q).dead (knows_dead (node_in s nodes p).process.known q)) (popped-one same) was)) (stands q qin other) known))
        by (inl same) (inr (d, is)) =
            inr (is ∙ ap tells.Notice
            (stands-notice q (node_in s nodes q).dead (knows_dead (node_in s nodes p).process.known q) d
            (link_in s base q p)
            (subst (Stands q (node_in s nodes q).dead (knows_dead (node_in s nodes p).process.known q))
            (popped-one same ∙ ap (λ (n : Message). n ∷ link_in s base q p) is) was)).2)

  emptied-delivered : (x p : ProcessId) → IsProcess s x → IsProcess s p → x ≢ p → (down dead : Bool)
      → (node_in s nodes p).dead ≡ dead → (link : List Message) → link_in s nodes x p ≡ link
      → let b : DeliveryStep = delivered down dead s x p (node_in s nodes x) (node_in s nodes p) link in
      Stood s (with_node s p b.receiver.node (with_node s x b.sender nodes)) → Emptied s (with_node s p b.receiver.node (with_node s x b.sender nodes))
  emptied-delivered x p xin pin apart true dead isdead link is now = back-two s nodes size old x p xin pin
  emptied-delivered x p xin pin apart false true isdead link is now = back-two s nodes size old x p xin pin
  emptied-delivered x p xin pin apart false false isdead [] is now = back-two s nodes size old x p xin pin
  emptied-delivered x p xin pin apart false false isdead (m ∷ rest) is now = emptied-received x p m rest xin pin apart is isdead now

-- each event keeps it so
emptied-step : (w : World) (e : Event) → length w.nodes ≡ w.shape.k + w.shape.m → MayCome w e → Stood w.shape w.nodes
    → Stood w.shape (step w e).world.nodes → Emptied w.shape w.nodes → Emptied w.shape (step w e).world.nodes
emptied-step w (event.Ask caller op p) many may before now old =
    emptied-treated w.shape w.nodes many old before p
    (ask_process w.shape (next_name w caller) op (process_node w p).process) may.1 (process_node w p).down (process_node w p).dead
    refl now
emptied-step w (event.Collect caller call p) many may before now old =
    emptied-treated w.shape w.nodes many old before p
    (collect_from caller call (process_node w p).process (range_with_len 0 w.shape.k)) may.1 (process_node w p).down
    (process_node w p).dead refl now
emptied-step w (event.Flush p) many may before now old =
    emptied-treated w.shape w.nodes many old before p (flush_process w.shape (process_node w p).process) may (process_node w p).down
    (process_node w p).dead refl now
emptied-step w (event.Trace caller call d p) many may before now old = emptied-back w.shape w.nodes many old p _ may.3
    (traced (process_node w p).down (process_node w p).dead) where
      answer : NodeStep
      answer = unchanged (fate_of w.shape caller call d.0 (process_node w p).process (head_at (process_node w p).process d.0)) (process_node w p)

      traced : (down dead : Bool) → (if_up down dead (process_node w p) answer).node ≡ process_node w p
      traced true dead = refl
      traced false true = refl
      traced false false = refl
emptied-step w (event.Deliver x p) many may before now old =
    emptied-delivered w.shape w.nodes many old before x p may.0 may.1 may.2 (process_node w p).down (process_node w p).dead refl
    (at [] (process_node w x).links (index_of w.shape p)) refl now
emptied-step w (event.Fail p keep) many may before now old = emptied-failed w.shape w.nodes many old p keep may (process_node w p).dead refl

module _ (s : Dimensions) where
  stood-after : (es : List Event) → IsRun s es → Stood (after s es).shape (after s es).nodes
  stood-after es run = subst (λ (t : Dimensions). Stood t (after s es).nodes) (sym (shape-after s es run)) (stands-after s es run)

  emptied-from : (done rest : List Event) → IsRun s done → IsRunFrom (after s done) rest → Emptied (after s done).shape (after s done).nodes
      → let w : World = world_after (after s done) rest in Emptied w.shape w.nodes
  emptied-from done [] run more old = old
  emptied-from done (e ∷ rest) run more old =
      let next : after s (done ++ e ∷ []) ≡ (step (after s done) e).world = after-more (opening s) done e in
      let longer : IsRun s (done ++ e ∷ []) = (run.0, run-more (opening s) done e run.1 more.0) in
      let many : length (after s done).nodes ≡ (after s done).shape.k + (after s done).shape.m =
      subst (λ (t : Dimensions). length (after s done).nodes ≡ t.k + t.m) (sym (shape-after s done run))
      (nodes-many s done run) in
      let now : Emptied (step (after s done) e).world.shape (step (after s done) e).world.nodes =
      emptied-step (after s done) e many more.0 (stood-after done run)
      (subst (λ (w : World). Stood w.shape w.nodes) next (stood-after (done ++ e ∷ []) longer)) old in
      subst (λ (w : World). Emptied (world_after w rest).shape (world_after w rest).nodes) next
      (emptied-from (done ++ e ∷ []) rest longer (subst (λ (w : World). IsRunFrom w rest) (sym next) more.1)
      (subst (λ (w : World). Emptied w.shape w.nodes) (sym next) now))

  -- so it is along every run
  pub emptied-after : (es : List Event) → IsRun s es → Emptied s (after s es).nodes
  emptied-after es run = subst (λ (t : Dimensions). Emptied t (after s es).nodes) (shape-after s es run)
      (emptied-from [] es (run.0, tt) run.1 (λ p q pin qin other lives knows. (runs_move s).opens.links p q pin qin))
