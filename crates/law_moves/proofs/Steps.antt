-- What the changes of nodes are as moves of a state.
use Rattle.std.proofs.Common.{ℕ, ◌≡◌, ◌≢◌, ◌<◌, ◌+◌, ◌⊎◌, inl, inr, Bool, true, false, nat_lt, List, [], ◌∷◌, ◌++◌, length, map, refl, sym, ap, ◌∙◌, arith}
use Rattle.group_types.specs.Dimensions.{Dimensions}
use Rattle.group_types.specs.Lists.{at}
use Rattle.group_types.specs.Names.{IsProcess, index_of}
use Rattle.group_types.specs.declared.process.ProcessId.{ProcessId}
use Rattle.group_types.proofs.Lists.{at-put, at-put-other, at-map}
use Rattle.group_types.proofs.Names.{index-below, same-cases}
use Rattle.membership.specs.Members.{Membership, knows_dead, with_dead}
use Rattle.group_message.specs.declared.message.Message.{Message}
use Rattle.group_message.specs.declared.message.Message.TheVariants as tells
use Rattle.group_message.specs.declared.update.Update.{Update}
use Rattle.group_run.specs.Applying.{ProcessStep}
use Rattle.group_run.specs.History.{settled_with}
use Rattle.group_run.specs.Process.{Node}
use Rattle.group_run.specs.Receiving.{receive}
use Rattle.group_run.specs.World.{link_emptied, links_after, node_after, node_failed, node_in, opening_node, nodes_told}
use Rattle.group_run.specs.World.{dead_nodes, sent_to, with_down, with_link, with_node}
use Rattle.law_moves.proofs.Moves.{Acted, Popped, Died}
use Rattle.law_moves.specs.State.{state_from}
use Rattle.law_moves.proofs.Known.{known-notice, knows-with_dead}
use Rattle.law_moves.proofs.Reading.{index-apart, link-cut, link-living, link-others, node-here, node-other, size-with_node}

-- a node after a step of its process
pub record NodeActs (s : Dimensions) (old new : Node) (t : ProcessStep) : Type 0 where
  pub process : new.process ≡ t.process
  pub dead : new.dead ≡ old.dead
  pub sends : (q : ProcessId) → IsProcess s q → knows_dead t.process.known q ≡ false → at [] new.links (index_of s q)
      ≡ at [] old.links (index_of s q) ++ sent_to q t.sent

pub node_acts : (s : Dimensions) (t : ProcessStep) (node : Node) → NodeActs s node (node_after s t node) t
node_acts s t node = record {
  process = refl;
  dead = refl;
  sends = λ q qin living. link-living s t.process.known t.sent node.links q qin living;
}

-- whoever isn't known to be dead after a notice isn't the one that it names
not_the_dead : (s : Dimensions) (x dead : ProcessId) (node : Node) (q : ProcessId)
    → knows_dead (receive s x (tells.Notice dead) node.process).process.known q ≡ false → q ≢ dead
not_the_dead s x dead node q living same =
    let knows : knows_dead (receive s x (tells.Notice dead) node.process).process.known q ≡ true =
    ap (λ (known : Membership). knows_dead known q) (known-notice s dead node.process)
    ∙ ap (knows_dead (with_dead node.process.known dead)) same ∙ knows-with_dead node.process.known dead in
    cc (living, knows)

pub node_receives : (s : Dimensions) (x : ProcessId) (m : Message) (node : Node)
    → NodeActs s node (link_emptied s m (node_after s (receive s x m node.process) node)) (receive s x m node.process)
node_receives s x (tells.Notice dead) node =
    let t : ProcessStep = receive s x (tells.Notice dead) node.process in record {
      process = refl;
      dead = refl;
      sends = λ q qin living.
          link-others s dead (links_after s t.process.known t.sent node.links) q qin (not_the_dead s x dead node q living)
          ∙ link-living s t.process.known t.sent node.links q qin living;
    }
node_receives s x (tells.Update r d u stable) node = node_acts s (receive s x (tells.Update r d u stable) node.process) node
node_receives s x (tells.Ack r d n) node = node_acts s (receive s x (tells.Ack r d n) node.process) node
node_receives s x (tells.Stable r d n) node = node_acts s (receive s x (tells.Stable r d n) node.process) node
node_receives s x (tells.Adopt r d base list) node = node_acts s (receive s x (tells.Adopt r d base list) node.process) node
node_receives s x (tells.ReadBlock session block rows) node = node_acts s (receive s x (tells.ReadBlock session block rows) node.process) node
node_receives s x (tells.Block session bytes n) node = node_acts s (receive s x (tells.Block session bytes n) node.process) node
node_receives s x (tells.Mark session r block d n) node = node_acts s (receive s x (tells.Mark session r block d n) node.process) node
node_receives s x (tells.Row session bytes stamp) node = node_acts s (receive s x (tells.Row session bytes stamp) node.process) node
node_receives s x (tells.Cease upto) node = node_acts s (receive s x (tells.Cease upto) node.process) node

module _ (s : Dimensions) (nodes : List Node) (size : length nodes ≡ s.k + s.m) where
  -- one node acts
  pub acted : (settled new : List (List Update)) (p : ProcessId) (node : Node) (t : ProcessStep) → IsProcess s p → NodeActs s (node_in s nodes p) node t
      → ((d : ℕ) → d < s.k → at [] new d ≡ settled_with t.settled d (at [] settled d))
      → Acted s (state_from s nodes settled) (state_from s (with_node s p node nodes) new) p t
  acted settled new p node t pin acts grows = record {
    process = ap (λ (n : Node). n.process) here ∙ acts.process;
    others = λ q qin other. ap (λ (n : Node). n.process) (there q qin other);
    dead = λ q qin. dies q qin (same-cases q p);
    sends = λ q qin living. ap (λ (n : Node). at [] n.links (index_of s q)) here ∙ acts.sends q qin living;
    links = λ x q xin qin other. ap (λ (n : Node). at [] n.links (index_of s q)) (there x xin other);
    settled = grows;
  } where
    here : node_in s (with_node s p node nodes) p ≡ node
    here = node-here s nodes p node

    there : (q : ProcessId) → IsProcess s q → q ≢ p → node_in s (with_node s p node nodes) q ≡ node_in s nodes q
    there q qin other = node-other s nodes p q node pin qin other size

    dies : (q : ProcessId) → IsProcess s q → (q ≡ p) ⊎ (q ≢ p) → (node_in s (with_node s p node nodes) q).dead ≡ (node_in s nodes q).dead
    dies q qin (inl same) =
        ap (λ (x : ProcessId). (node_in s (with_node s p node nodes) x).dead) same
        ∙ ap (λ (n : Node). n.dead) here ∙ acts.dead ∙ ap (λ (x : ProcessId). (node_in s nodes x).dead) (sym same)
    dies q qin (inr other) = ap (λ (n : Node). n.dead) (there q qin other)

  -- the sender's node loses the first message of a link
  pub popped : (settled : List (List Update)) (x p : ProcessId) (m : Message) (rest : List Message) → IsProcess s x → IsProcess s p
      → at [] (node_in s nodes x).links (index_of s p) ≡ m ∷ rest
      → Popped s (state_from s nodes settled) (state_from s (with_node s x (with_link s p rest (node_in s nodes x)) nodes) settled) x p m
  popped settled x p m rest xin pin first = record {
    first = first ∙ ap (λ (r : List Message). m ∷ r) (sym taken);
    links = λ y q yin qin apart. same_link y q yin qin (same-cases y x) apart;
    processes = λ q qin. same_process q qin (same-cases q x);
    dead = λ q qin. same_dead q qin (same-cases q x);
    settled = λ d. refl;
  } where
    sender : Node
    sender = with_link s p rest (node_in s nodes x)

    here : node_in s (with_node s x sender nodes) x ≡ sender
    here = node-here s nodes x sender

    there : (q : ProcessId) → IsProcess s q → q ≢ x → node_in s (with_node s x sender nodes) q ≡ node_in s nodes q
    there q qin other = node-other s nodes x q sender xin qin other size

    taken : at [] (node_in s (with_node s x sender nodes) x).links (index_of s p) ≡ rest
    taken = ap (λ (n : Node). at [] n.links (index_of s p)) here ∙ at-put [] [] (node_in s nodes x).links (index_of s p) rest

    same_link : (y q : ProcessId) → IsProcess s y → IsProcess s q → (y ≡ x) ⊎ (y ≢ x) → (y ≢ x) ⊎ (q ≢ p)
        → at [] (node_in s (with_node s x sender nodes) y).links (index_of s q) ≡ at [] (node_in s nodes y).links (index_of s q)
    same_link y q yin qin (inr other) apart = ap (λ (n : Node). at [] n.links (index_of s q)) (there y yin other)
    same_link y q yin qin (inl same) (inl other) = absurd (other same)
    same_link y q yin qin (inl same) (inr other) =
        ap (λ (z : ProcessId). at [] (node_in s (with_node s x sender nodes) z).links (index_of s q)) same
        ∙ ap (λ (n : Node). at [] n.links (index_of s q)) here
        ∙ at-put-other [] (node_in s nodes x).links (index_of s p) (index_of s q) rest (index-apart s p q pin qin other)
        ∙ ap (λ (z : ProcessId). at [] (node_in s nodes z).links (index_of s q)) (sym same)

    same_process : (q : ProcessId) → IsProcess s q → (q ≡ x) ⊎ (q ≢ x) → (node_in s (with_node s x sender nodes) q).process ≡ (node_in s nodes q).process
    same_process q qin (inr other) = ap (λ (n : Node). n.process) (there q qin other)
    same_process q qin (inl same) =
        ap (λ (z : ProcessId). (node_in s (with_node s x sender nodes) z).process) same ∙ ap (λ (n : Node). n.process) here
        ∙ ap (λ (z : ProcessId). (node_in s nodes z).process) (sym same)

    same_dead : (q : ProcessId) → IsProcess s q → (q ≡ x) ⊎ (q ≢ x) → (node_in s (with_node s x sender nodes) q).dead ≡ (node_in s nodes q).dead
    same_dead q qin (inr other) = ap (λ (n : Node). n.dead) (there q qin other)
    same_dead q qin (inl same) =
        ap (λ (z : ProcessId). (node_in s (with_node s x sender nodes) z).dead) same ∙ ap (λ (n : Node). n.dead) here
        ∙ ap (λ (z : ProcessId). (node_in s nodes z).dead) (sym same)

  -- a process dies
  pub died : (settled : List (List Update)) (p : ProcessId) (keep : ℕ) → IsProcess s p → (node_in s nodes p).dead ≡ false
      → Died s (state_from s nodes settled) (state_from s (nodes_told s.m (with_node s p (node_failed s p keep (node_in s nodes p)) nodes)) settled) p keep
  died settled p keep pin lived = record {
    lived = lived;
    dead = ap (λ (n : Node). n.dead) here;
    others = λ q qin other. ap (λ (n : Node). n.dead) (there q qin other);
    processes = λ q qin. same_process q qin (same-cases q p);
    cut = λ q qin. ap (λ (n : Node). at [] n.links (index_of s q)) here ∙ link-cut s p keep (node_in s nodes p).links q qin;
    links = λ x q xin qin other. ap (λ (n : Node). at [] n.links (index_of s q)) (there x xin other);
    settled = λ d. refl;
  } where
    failed : Node
    failed = node_failed s p keep (node_in s nodes p)

    cut : List Node
    cut = with_node s p failed nodes

    down : Bool
    down = nat_lt s.m (dead_nodes cut)

    told : (q : ProcessId) → IsProcess s q → node_in s (map (with_down down) cut) q ≡ with_down down (node_in s cut q)
    told q qin = at-map (opening_node s q) (opening_node s q) (with_down down) cut (index_of s q)
        (let low = index-below s q qin in let many = size-with_node s nodes p failed pin size in omega arith)

    here : node_in s (map (with_down down) cut) p ≡ with_down down failed
    here = told p pin ∙ ap (with_down down) (node-here s nodes p failed)

    there : (q : ProcessId) → IsProcess s q → q ≢ p → node_in s (map (with_down down) cut) q ≡ with_down down (node_in s nodes q)
    there q qin other = told q qin ∙ ap (with_down down) (node-other s nodes p q failed pin qin other size)

    same_process : (q : ProcessId) → IsProcess s q → (q ≡ p) ⊎ (q ≢ p) → (node_in s (map (with_down down) cut) q).process ≡ (node_in s nodes q).process
    same_process q qin (inr other) = ap (λ (n : Node). n.process) (there q qin other)
    same_process q qin (inl same) =
        ap (λ (z : ProcessId). (node_in s (map (with_down down) cut) z).process) same ∙ ap (λ (n : Node). n.process) here
        ∙ ap (λ (z : ProcessId). (node_in s nodes z).process) (sym same)
