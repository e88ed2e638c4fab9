-- A group that isn't down is drained where no delivery is left, and it can be drained.
use Rattle.std.proofs.Common.{ℕ, zero, suc, ◌≡◌, ◌≢◌, ◌<◌, ◌≤◌, ◌+◌, ◌⊎◌, inl, inr, Bool, true, false, nat_lt, List, []}
use Rattle.std.proofs.Common.{◌∷◌, length, refl, sym, ap, subst, ◌∙◌, arith}
use Rattle.std.proofs.lemmas.Grind.{common_steps}
use Rattle.group_types.specs.Dimensions.{Dimensions}
use Rattle.group_types.specs.Names.{IsProcess, index_of}
use Rattle.group_types.specs.declared.process.ProcessId.{ProcessId}
use Rattle.group_types.proofs.Lists.{map-put}
use Rattle.group_types.proofs.Names.{index-below, same-cases}
use Rattle.membership.specs.Members.{count_dead_words}
use Rattle.group_message.specs.declared.message.Message.{Message}
use Rattle.group_calls.specs.declared.event.Answer.TheVariants as says
use Rattle.group_calls.specs.declared.event.Event.{Event}
use Rattle.group_calls.specs.declared.event.Event.TheVariants.{Deliver}
use Rattle.group_run.specs.Headline.{IsRun, IsRunFrom, MayCome}
use Rattle.group_run.specs.History.{no_history}
use Rattle.group_run.specs.Keeping.{NodesKnowDown}
use Rattle.group_run.specs.Meaning.{IsDown, IsDrained, Lives, is_dead, link}
use Rattle.group_run.specs.Process.{Node}
use Rattle.group_run.specs.Progress.{DeliveryLowers, load_of}
use Rattle.group_run.specs.Receiving.{receive}
use Rattle.group_run.specs.World.{DeliveryStep, World, after, dead_nodes, deliver_nodes, delivered, node_after, node_in}
use Rattle.group_run.specs.World.{opening, opening_node, process_node, step, with_node, world_after}
use Rattle.law_moves.proofs.Events.{emptied-dead}
use Rattle.law_moves.proofs.Downs.{words_always}
use Rattle.law_moves.proofs.Reading.{node-other, size-with_node}
use Rattle.law_moves.proofs.Runs.{framed-from, framed-opening, world-from}
use Rattle.law_bytes.proofs.Tokens.{everyone}
use Rattle.law_bytes.proofs.Sums.{Within, everyone-inside, within-everyone}
use Rattle.law_progress.specs.Ends.{CanBeDrained, DeliversAlways, DrainedAlways, Drains, HasDelivery}
use Rattle.law_progress.proofs.Always.{deliveries_lower}

-- what is asked of a group at every moment
pub record Ready (w : World) : Type 0 where
  pub lowers : DeliveryLowers w
  pub many : length w.nodes ≡ w.shape.k + w.shape.m
  pub words : NodesKnowDown w

pub ready-after : (s : Dimensions) (es : List Event) → IsRun s es → Ready (after s es)
ready-after s es run = record {
  lowers = deliveries_lower s es run;
  many = subst (λ (w : World). length w.nodes ≡ w.shape.k + w.shape.m) (world-from (no_history s) es)
      (framed-from (no_history s) es (framed-opening s) run.1).nodes_many;
  words = words_always s es run;
}

-- the link from one process to another is empty, if that lives
abbrev Empty : World → ProcessId → ProcessId → Type 0
Empty w p q = Lives w q → p ≢ q → link w p q ≡ []

-- a message that waits for a living process comes with its delivery
pub message-comes : (w : World) → NodesKnowDown w → ¬ (IsDown w)
    → (from to : ProcessId) (m : Message) (rest : List Message) → Lives w to → link w from to ≡ m ∷ rest
    → (step w (Deliver from to)).turn.answer ≡ says.Done
message-comes w words up from to m rest lives first =
    ap (λ (b : Bool). (delivered b (process_node w to).dead w.shape from to (process_node w from) (process_node w to)
    (link w from to)).receiver.answer) (words to lives.0 ∙ not_above)
    ∙ ap (λ (b : Bool). (delivered false b w.shape from to (process_node w from) (process_node w to) (link w from to)).receiver.answer) lives.1
    ∙ ap (λ (ms : List Message). (delivered false false w.shape from to (process_node w from) (process_node w to) ms).receiver.answer) first
  where
    few : dead_nodes w.nodes ≤ w.shape.m
    few = by (nat_lt w.shape.m (dead_nodes w.nodes)) refl where
      by : (b : Bool) → nat_lt w.shape.m (dead_nodes w.nodes) ≡ b → dead_nodes w.nodes ≤ w.shape.m
      by true is = absurd (up (grind (arith, common_steps)))
      by false is = grind (arith, common_steps)

    not_above : nat_lt w.shape.m (dead_nodes w.nodes) ≡ false
    not_above = let least = few in grind (arith, common_steps)

can-come : (w : World) → NodesKnowDown w → ¬ (IsDown w) → (from to : ProcessId) (m : Message) (rest : List Message) → IsProcess w.shape from → Lives w to
    → from ≢ to → link w from to ≡ m ∷ rest → HasDelivery w
can-come w words up from to m rest fin lives apart first = record {
  from = from;
  to = to;
  may = (fin, lives.0, apart);
  done = message-comes w words up from to m rest lives first;
}

module _ (w : World) (words : NodesKnowDown w) (up : ¬ (IsDown w)) where
  -- the link from one process to another is drained, or has a delivery
  one-link : (from to : ProcessId) → IsProcess w.shape from → IsProcess w.shape to → Empty w from to ⊎ HasDelivery w
  one-link from to fin tin = by (same-cases from to) (is_dead w to) refl (link w from to) refl where
    by : (from ≡ to) ⊎ (from ≢ to) → (b : Bool) → is_dead w to ≡ b → (ms : List Message) → link w from to ≡ ms → Empty w from to ⊎ HasDelivery w
    by (inl same) b is ms has = inl (λ lives apart. absurd (apart same))
    by (inr other) true is ms has = inl (λ lives apart. let lives_so = lives.1 in cc (is, lives_so))
    by (inr other) false is [] has = inl (λ lives apart. has)
    by (inr other) false is (m ∷ rest) has = inr (can-come w words up from to m rest fin (tin, is) other has)

  -- the links from one process to some, and from some to all
  links-from : (from : ProcessId) → IsProcess w.shape from → (qs : List ProcessId) → ((q : ProcessId) → Within q qs → IsProcess w.shape q)
      → ((q : ProcessId) → Within q qs → Empty w from q) ⊎ HasDelivery w
  links-from from fin [] inside = inl (λ q there. absurd there)
  links-from from fin (to ∷ qs) inside = by (one-link from to fin (inside to (inl refl))) (links-from from fin qs (λ q there. inside q (inr there))) where
    by : Empty w from to ⊎ HasDelivery w → ((q : ProcessId) → Within q qs → Empty w from q) ⊎ HasDelivery w
        → ((q : ProcessId) → Within q (to ∷ qs) → Empty w from q) ⊎ HasDelivery w
    by (inr has) _ = inr has
    by (inl first) (inr has) = inr has
    by (inl first) (inl rest) = inl each where
      each : (q : ProcessId) → Within q (to ∷ qs) → Empty w from q
      each q (inl same) = subst (λ (z : ProcessId). Empty w from z) (sym same) first
      each q (inr there) = rest q there

  all-links : (ps : List ProcessId) → ((p : ProcessId) → Within p ps → IsProcess w.shape p) → ((p q : ProcessId) → Within p ps → Empty w p q) ⊎ HasDelivery w
  all-links [] inside = inl (λ p q there. absurd there)
  all-links (from ∷ ps) inside =
      by (links-from from (inside from (inl refl)) (everyone w.shape) (everyone-inside w.shape))
      (all-links ps (λ p there. inside p (inr there))) where
        by : ((q : ProcessId) → Within q (everyone w.shape) → Empty w from q) ⊎ HasDelivery w → ((p q : ProcessId) → Within p ps → Empty w p q) ⊎ HasDelivery w
            → ((p q : ProcessId) → Within p (from ∷ ps) → Empty w p q) ⊎ HasDelivery w
        by (inr has) _ = inr has
        by (inl first) (inr has) = inr has
        by (inl first) (inl rest) = inl each where
          each : (p q : ProcessId) → Within p (from ∷ ps) → Empty w p q
          each p q (inl same) lives = subst (λ (z : ProcessId). z ≢ q → link w z q ≡ []) (sym same) (first q (within-everyone w.shape q lives.0) lives)
          each p q (inr there) lives = rest p q there lives

  drained-or-delivers : IsDrained w ⊎ HasDelivery w
  drained-or-delivers = by (all-links (everyone w.shape) (everyone-inside w.shape)) where
    by : ((p q : ProcessId) → Within p (everyone w.shape) → Empty w p q) ⊎ HasDelivery w → IsDrained w ⊎ HasDelivery w
    by (inr has) = inr has
    by (inl all) = inl (λ from to fin lives apart. all from to (within-everyone w.shape from fin) lives apart)

pub deliveries_are_left : DeliversAlways
deliveries_are_left s es run up = drained-or-delivers (after s es) (words_always s es run) up

-- as many are dead after a delivery as before it
module _ (s : Dimensions) (nodes : List Node) (size : length nodes ≡ s.k + s.m) where
  put-dead : (p : ProcessId) (node : Node) → IsProcess s p → node.dead ≡ (node_in s nodes p).dead → dead_nodes (with_node s p node nodes) ≡ dead_nodes nodes
  put-dead p node pin same =
      ap count_dead_words (map-put (λ (n : Node). n.dead) (opening_node s p) (opening_node s p) nodes (index_of s p) node
      (let low = index-below s p pin in omega (arith, low, size)) same)

two-dead : (s : Dimensions) (nodes : List Node) → length nodes ≡ s.k + s.m → (x p : ProcessId) → IsProcess s x → IsProcess s p → x ≢ p → (b : DeliveryStep)
    → (b.sender.dead ≡ (node_in s nodes x).dead) × (b.receiver.node.dead ≡ (node_in s nodes p).dead)
    → dead_nodes (with_node s p b.receiver.node (with_node s x b.sender nodes)) ≡ dead_nodes nodes
two-dead s nodes size x p xin pin apart b same =
    put-dead s (with_node s x b.sender nodes) (size-with_node s nodes x b.sender xin size) p b.receiver.node pin
    (same.1 ∙ ap (λ (n : Node). n.dead) (sym (node-other s nodes x p b.sender xin pin (λ is. apart (sym is)) size)))
    ∙ put-dead s nodes size x b.sender xin same.0

words-stay : (s : Dimensions) (x p : ProcessId) (sender receiver : Node) (down dead : Bool) (ms : List Message)
    → ((delivered down dead s x p sender receiver ms).sender.dead ≡ sender.dead)
    × ((delivered down dead s x p sender receiver ms).receiver.node.dead ≡ receiver.dead)
words-stay s x p sender receiver true dead ms = (refl, refl)
words-stay s x p sender receiver false true ms = (refl, refl)
words-stay s x p sender receiver false false [] = (refl, refl)
words-stay s x p sender receiver false false (m ∷ rest) = (refl, emptied-dead s m (node_after s (receive s x m receiver.process) receiver))

pub still-up : (w : World) → length w.nodes ≡ w.shape.k + w.shape.m → (from to : ProcessId)
    → MayCome w (Deliver from to) → ¬ (IsDown w) → ¬ (IsDown (step w (Deliver from to)).world)
still-up w size from to may up down =
    let same = two-dead w.shape w.nodes size from to may.0 may.1 may.2 (deliver_nodes w.shape from to (process_node w from) (process_node w to))
    (words-stay w.shape from to (process_node w from) (process_node w to) (process_node w to).down (process_node w to).dead (link w from to)) in
    let above : w.shape.m < dead_nodes (step w (Deliver from to)).world.nodes = down in
    up (omega (arith, same, above))

-- deliveries one after the other, until none is left
drains : (n : ℕ) (w : World) → ((gs : List Event) → IsRunFrom w gs → Ready (world_after w gs)) → ¬ (IsDown w) → load_of w ≤ n → Drains w
drains zero w ready up most = by (drained-or-delivers w (ready [] tt).words up) where
  by : IsDrained w ⊎ HasDelivery w → Drains w
  by (inl drained) = record { events = []; may = tt; delivered = tt; drained = drained }
  by (inr has) = let less = (ready [] tt).lowers has.from has.to has.may has.done in absurd (omega (arith, less, most))
drains (suc n) w ready up most = by (drained-or-delivers w (ready [] tt).words up) (λ v. drains n v) where
  by : IsDrained w ⊎ HasDelivery w
      → ((v : World) → ((gs : List Event) → IsRunFrom v gs → Ready (world_after v gs)) → ¬ (IsDown v) → load_of v ≤ n
      → Drains v) → Drains w
  by (inl drained) later = record { events = []; may = tt; delivered = tt; drained = drained }
  by (inr has) later =
      let less = (ready [] tt).lowers has.from has.to has.may has.done in
      let rest : Drains (step w (Deliver has.from has.to)).world = later (step w (Deliver has.from has.to)).world
      (λ gs more. ready (Deliver has.from has.to ∷ gs) (has.may, more))
      (still-up w (ready [] tt).many has.from has.to has.may up) (omega (arith, less, most)) in
      record { events = Deliver has.from has.to ∷ rest.events; may = (has.may, rest.may); delivered = (tt, has.done, rest.delivered); drained = rest.drained }

drains-after : (w : World) → ((gs : List Event) → IsRunFrom w gs → Ready (world_after w gs)) → (es : List Event)
    → IsRunFrom w es → CanBeDrained (world_after w es)
drains-after w ready [] run = λ up. drains (load_of w) w ready up (omega arith)
drains-after w ready (e ∷ es) run = drains-after (step w e).world (λ gs more. ready (e ∷ gs) (run.0, more)) es run.1

pub groups_drain : DrainedAlways
groups_drain s es run = drains-after (opening s) (λ gs more. ready-after s gs (run.0, more)) es run.1
