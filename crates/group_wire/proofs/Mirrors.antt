-- The members that haven't failed, and the wires between them, beside the nodes of the machine.
use Rattle.std.proofs.Common.{◌≡◌, ◌≢◌, ◌+◌, ◌⊎◌, inl, inr, Bool, true, false, List, [], ◌∷◌, ◌++◌, length, refl, sym, ap, subst, ◌∙◌}
use Rattle.std.proofs.lemmas.List.{append-nil, append_assoc}
use Rattle.group_types.specs.Dimensions.{Dimensions}
use Rattle.group_types.specs.Lists.{at}
use Rattle.group_types.specs.Names.{IsProcess, index_of}
use Rattle.group_types.specs.declared.process.ProcessId.{ProcessId}
use Rattle.group_types.proofs.Lists.{at-put, at-put-other}
use Rattle.group_types.proofs.Names.{same-cases}
use Rattle.membership.specs.Members.{knows_dead}
use Rattle.group_message.specs.declared.message.Message.{Message}
use Rattle.group_message.specs.declared.message.Message.TheVariants as tells
use Rattle.group_message.specs.declared.update.Update.{Update}
use Rattle.group_run.specs.Applying.{ProcessStep}
use Rattle.group_run.specs.Process.{Node}
use Rattle.group_run.specs.World.{node_failed, node_in, nodes_told, sent_to, with_link, with_node}
use Rattle.law_moves.specs.State.{state_from}
use Rattle.law_moves.proofs.Moves.{Died}
use Rattle.law_moves.proofs.Reading.{index-apart, node-here, node-other}
use Rattle.law_moves.proofs.Steps.{NodeActs, died}
use Rattle.group_wire.specs.Composition.{Carried}
use Rattle.group_wire.specs.Sets.{Processes, changed, changed_from, one_or, with_one}
use Rattle.group_wire.specs.State.{Works}
use Rattle.group_wire.specs.Sending.{stepped}
use Rattle.group_wire.proofs.Changes.{changed-each, changed-here, changed-other}
use Rattle.group_wire.proofs.Requests.{Living}

-- the machine's link between two processes
abbrev pub link_in : Dimensions → List Node → ProcessId → ProcessId → List Message
link_in s nodes p q = at [] (node_in s nodes p).links (index_of s q)

pub record Mirrors (s : Dimensions) (nodes : List Node) (cut : ProcessId → Processes) (failed : Processes)
    (taken : ProcessId → Processes) (works : Works) : Type 0 where
  pub dead : (p : ProcessId) → IsProcess s p → (node_in s nodes p).dead ≡ failed p
  pub process : (p : ProcessId) → Living s failed p → (node_in s nodes p).process ≡ works.process p
  pub links : (p q : ProcessId) → Living s failed p → Living s failed q → p ≢ q → Carried (cut p q) (link_in s nodes p q) (works.messages p q)
  pub notices : (x p : ProcessId) → IsProcess s x → failed x ≡ true → Living s failed p → link_in s nodes x p ≡ one_or (taken p x) [] (tells.Notice x ∷ [])

-- what is sent to another that isn't known to be dead
carried-sent : (shut : Bool) (link wire sent : List Message) → Carried shut link wire → Carried shut (link ++ sent) (one_or shut wire (wire ++ sent))
carried-sent true link wire sent c = record {
  lost = c.lost ++ sent;
  is = ap (λ (l : List Message). l ++ sent) c.is
      ∙ append_assoc wire c.lost sent;
  whole = λ open_to. cc open_to;
}
carried-sent false link wire sent c = record {
  lost = [];
  is = ap (λ (l : List Message). l ++ sent) (c.is ∙ ap (λ (l : List Message). wire ++ l) (c.whole refl) ∙ append-nil wire) ∙ sym (append-nil (wire ++ sent));
  whole = λ _. refl;
}

module _ (s : Dimensions) (nodes : List Node) (size : length nodes ≡ s.k + s.m) (cut : ProcessId → Processes)
    (failed : Processes) (taken : ProcessId → Processes) (works : Works)
    (b : Mirrors s nodes cut failed taken works) where
  -- a member makes a step, and so does its process of the machine
  pub mirrors-acts : (p : ProcessId) (node : Node) (t : ProcessStep) → Living s failed p → NodeActs s (node_in s nodes p) node t
      → ((q : ProcessId) → Living s failed q → q ≢ p → knows_dead t.process.known q ≡ false)
      → Mirrors s (with_node s p node nodes) cut failed taken (stepped cut p t works)
  mirrors-acts p node t lives acts unknown = record {
    dead = λ q qin. deads q qin (same-cases q p);
    process = λ q ql. processes q ql (same-cases q p);
    links = λ x q xl ql other. linked x q xl ql other (same-cases x p);
    notices = λ x q xin fails ql. ap (λ (n : Node). at [] n.links (index_of s q))
        (there x xin (λ same. cc (fails, lives.1, ap failed same))) ∙ b.notices x q xin fails ql;
  } where
    here : node_in s (with_node s p node nodes) p ≡ node
    here = node-here s nodes p node

    there : (q : ProcessId) → IsProcess s q → q ≢ p → node_in s (with_node s p node nodes) q ≡ node_in s nodes q
    there q qin other = node-other s nodes p q node lives.0 qin other size

    deads : (q : ProcessId) → IsProcess s q → (q ≡ p) ⊎ (q ≢ p) → (node_in s (with_node s p node nodes) q).dead ≡ failed q
    deads q qin (inr other) = ap (λ (n : Node). n.dead) (there q qin other) ∙ b.dead q qin
    deads q qin (inl same) =
        ap (λ (x : ProcessId). (node_in s (with_node s p node nodes) x).dead) same ∙ ap (λ (n : Node). n.dead) here
        ∙ acts.dead ∙ b.dead p lives.0 ∙ ap failed (sym same)

    processes : (q : ProcessId) → Living s failed q → (q ≡ p) ⊎ (q ≢ p) → (node_in s (with_node s p node nodes) q).process ≡ (stepped cut p t works).process q
    processes q ql (inr other) = ap (λ (n : Node). n.process) (there q ql.0 other) ∙ b.process q ql ∙ sym (changed-other works.process p q t.process other)
    processes q ql (inl same) =
        ap (λ (x : ProcessId). (node_in s (with_node s p node nodes) x).process) same ∙ ap (λ (n : Node). n.process) here ∙ acts.process
        ∙ sym (changed-here works.process p t.process) ∙ ap (λ (x : ProcessId). (stepped cut p t works).process x) (sym same)

    rows : ProcessId → List Message
    rows q = one_or (cut p q) (works.messages p q) (works.messages p q ++ sent_to q t.sent)

    linked : (x q : ProcessId) → Living s failed x → Living s failed q → x ≢ q → (x ≡ p) ⊎ (x ≢ p)
        → Carried (cut x q) (link_in s (with_node s p node nodes) x q) ((stepped cut p t works).messages x q)
    linked x q xl ql other (inr far) =
        subst (λ (l : List Message). Carried (cut x q) l ((stepped cut p t works).messages x q))
        (sym (ap (λ (n : Node). at [] n.links (index_of s q)) (there x xl.0 far)))
        (subst (Carried (cut x q) (link_in s nodes x q))
        (sym (ap (λ (f : ProcessId → List Message). f q)
        (changed-other works.messages p x
        (λ q. one_or (cut p q) (works.messages p q) (works.messages p q ++ sent_to q t.sent)) far)))
        (b.links x q xl ql other))
    linked x q xl ql other (inl same) =
        subst (λ (y : ProcessId). Carried (cut y q) (link_in s (with_node s p node nodes) y q)
        ((stepped cut p t works).messages y q)) (sym same)
        (subst (λ (l : List Message). Carried (cut p q) l ((stepped cut p t works).messages p q))
        (sym (ap (λ (n : Node). at [] n.links (index_of s q)) here ∙ acts.sends q ql.0 (unknown q ql (λ at_p. other (same ∙ sym at_p)))))
        (subst (Carried (cut p q) (link_in s nodes p q ++ sent_to q t.sent))
        (sym (ap (λ (f : ProcessId → List Message). f q)
        (changed-here works.messages p
        (λ q. one_or (cut p q) (works.messages p q) (works.messages p q ++ sent_to q t.sent)))))
        (carried-sent (cut p q) (link_in s nodes p q) (works.messages p q) (sent_to q t.sent) (b.links p q lives ql (λ at_q. other (same ∙ at_q))))))

  -- the sender's node loses the first message of a link
  module _ (x p : ProcessId) (xin : IsProcess s x) (pin : IsProcess s p) (rest : List Message) where
    abbrev pub popped_nodes : List Node
    popped_nodes = with_node s x (with_link s p rest (node_in s nodes x)) nodes

    pop-here : node_in s (with_node s x (with_link s p rest (node_in s nodes x)) nodes) x ≡ with_link s p rest (node_in s nodes x)
    pop-here = node-here s nodes x (with_link s p rest (node_in s nodes x))

    pop-other : (q : ProcessId) → IsProcess s q → q ≢ x → node_in s (with_node s x (with_link s p rest (node_in s nodes x)) nodes) q ≡ node_in s nodes q
    pop-other q qin other = node-other s nodes x q (with_link s p rest (node_in s nodes x)) xin qin other size

    pop-link : link_in s popped_nodes x p ≡ rest
    pop-link = ap (λ (n : Node). at [] n.links (index_of s p)) pop-here ∙ at-put [] [] (node_in s nodes x).links (index_of s p) rest

    pop-links : (y q : ProcessId) → IsProcess s y → IsProcess s q → (y ≡ x) ⊎ (y ≢ x) → (y ≢ x) ⊎ (q ≢ p) → link_in s popped_nodes y q ≡ link_in s nodes y q
    pop-links y q yin qin (inr other) apart = ap (λ (n : Node). at [] n.links (index_of s q)) (pop-other y yin other)
    pop-links y q yin qin (inl same) (inl other) = absurd (other same)
    pop-links y q yin qin (inl same) (inr other) =
        ap (λ (z : ProcessId). link_in s popped_nodes z q) same
        ∙ ap (λ (n : Node). at [] n.links (index_of s q)) pop-here
        ∙ at-put-other [] (node_in s nodes x).links (index_of s p) (index_of s q) rest (index-apart s p q pin qin other)
        ∙ ap (λ (z : ProcessId). link_in s nodes z q) (sym same)

    pop-dead : (q : ProcessId) → IsProcess s q → (q ≡ x) ⊎ (q ≢ x) → (node_in s popped_nodes q).dead ≡ (node_in s nodes q).dead
    pop-dead q qin (inr other) = ap (λ (n : Node). n.dead) (pop-other q qin other)
    pop-dead q qin (inl same) =
        ap (λ (z : ProcessId). (node_in s popped_nodes z).dead) same ∙ ap (λ (n : Node). n.dead) pop-here
        ∙ ap (λ (z : ProcessId). (node_in s nodes z).dead) (sym same)

    pop-process : (q : ProcessId) → IsProcess s q → (q ≡ x) ⊎ (q ≢ x) → (node_in s popped_nodes q).process ≡ (node_in s nodes q).process
    pop-process q qin (inr other) = ap (λ (n : Node). n.process) (pop-other q qin other)
    pop-process q qin (inl same) =
        ap (λ (z : ProcessId). (node_in s popped_nodes z).process) same ∙ ap (λ (n : Node). n.process) pop-here
        ∙ ap (λ (z : ProcessId). (node_in s nodes z).process) (sym same)

    -- of two that haven't failed
    pub mirrors-popped : (wire : List Message) → failed x ≡ false → failed p ≡ false → Carried (cut x p) rest wire
        → Mirrors s (with_node s x (with_link s p rest (node_in s nodes x)) nodes) cut failed taken
        (record works { messages = changed_from works.messages x p wire })
    mirrors-popped wire xl pl c = record {
      dead = λ q qin. pop-dead q qin (same-cases q x) ∙ b.dead q qin;
      process = λ q ql. pop-process q ql.0 (same-cases q x) ∙ b.process q ql;
      links = λ y q yl ql other. linked y q yl ql other (same-cases y x) (same-cases q p);
      notices = λ y q yin fails ql. pop-links y q yin ql.0 (same-cases y x) (inl (λ same. cc (fails, xl, ap failed same))) ∙ b.notices y q yin fails ql;
    } where
      linked : (y q : ProcessId) → Living s failed y → Living s failed q → y ≢ q → (y ≡ x) ⊎ (y ≢ x) → (q ≡ p) ⊎ (q ≢ p)
          → Carried (cut y q) (link_in s popped_nodes y q) (changed_from works.messages x p wire y q)
      linked y q yl ql other (inr far) w =
          subst (λ (l : List Message). Carried (cut y q) l (changed_from works.messages x p wire y q))
          (sym (pop-links y q yl.0 ql.0 (inr far) (inl far)))
          (subst (Carried (cut y q) (link_in s nodes y q))
          (sym (ap (λ (f : ProcessId → List Message). f q)
          (changed-other works.messages x y (changed (works.messages x) p wire) far))) (b.links y q yl ql other))
      linked y q yl ql other (inl same) (inr far) =
          subst (λ (l : List Message). Carried (cut y q) l (changed_from works.messages x p wire y q))
          (sym (pop-links y q yl.0 ql.0 (inl same) (inr far)))
          (subst (Carried (cut y q) (link_in s nodes y q))
          (sym (ap (λ (z : ProcessId). changed_from works.messages x p wire z q) same
          ∙ ap (λ (f : ProcessId → List Message). f q)
          (changed-here works.messages x (changed (works.messages x) p wire)) ∙ changed-other (works.messages x) p q
          wire far ∙ ap (λ (z : ProcessId). works.messages z q) (sym same)))
          (b.links y q yl ql other))
      linked y q yl ql other (inl same) (inl at_p) =
          subst (λ (z : ProcessId). Carried (cut z q) (link_in s popped_nodes z q)
          (changed_from works.messages x p wire z q)) (sym same)
          (subst (λ (z : ProcessId). Carried (cut x z) (link_in s popped_nodes x z) (changed_from works.messages x p wire x z)) (sym at_p)
          (subst (λ (l : List Message). Carried (cut x p) l (changed_from works.messages x p wire x p)) (sym pop-link)
          (subst (Carried (cut x p) rest)
          (sym (ap (λ (f : ProcessId → List Message). f p)
          (changed-here works.messages x (changed (works.messages x) p wire))
          ∙ changed-here (works.messages x) p wire)) c)))

    -- of one that has failed: its notice is taken
    pub mirrors-taken : rest ≡ [] → failed x ≡ true
        → Mirrors s (with_node s x (with_link s p rest (node_in s nodes x)) nodes) cut failed
        (changed taken p (with_one (taken p) x)) works
    mirrors-taken empty lost = record {
      dead = λ q qin. pop-dead q qin (same-cases q x) ∙ b.dead q qin;
      process = λ q ql. pop-process q ql.0 (same-cases q x) ∙ b.process q ql;
      links = λ y q yl ql other. subst (λ (l : List Message). Carried (cut y q) l (works.messages y q))
          (sym (pop-links y q yl.0 ql.0 (same-cases y x) (inl (λ same. cc (lost, yl.1, ap failed same)))))
          (b.links y q yl ql other);
      notices = λ y q yin fails ql. changed-each (λ q set. Living s failed q → link_in s popped_nodes y q
          ≡ one_or (set y) [] (tells.Notice y ∷ [])) taken p (with_one (taken p) x)
          (λ ql. changed-each (λ y is. IsProcess s y → failed y ≡ true → link_in s popped_nodes y p
          ≡ one_or is [] (tells.Notice y ∷ [])) (taken p) x true (λ _ _. pop-link ∙ empty)
          (λ y other yin fails. pop-links y p yin pin (same-cases y x) (inl other) ∙ b.notices y p yin fails ql) y yin fails)
          (λ q other ql. pop-links y q yin ql.0 (same-cases y x) (inr other) ∙ b.notices y q yin fails ql) q ql;
    }

  -- a process fails, and its links hold its notice alone
  pub mirrors-failed : (settled : List (List Update)) (x : ProcessId) → IsProcess s x → failed x ≡ false
      → ((q : ProcessId) → Living s failed q → taken q x ≡ false)
      → Mirrors s (nodes_told s.m (with_node s x (node_failed s x 0 (node_in s nodes x)) nodes)) cut (with_one failed x) taken works
  mirrors-failed settled x xin lives fresh = record {
    dead = λ q qin. deads q qin (same-cases q x);
    process = λ q ql. d.processes q ql.0 ∙ b.process q (was q ql);
    links = λ y q yl ql other. subst (λ (l : List Message). Carried (cut y q) l (works.messages y q))
        (sym (d.links y q yl.0 ql.0 (not_x y yl))) (b.links y q (was y yl) (was q ql) other);
    notices = λ y q yin fails ql. notice y q yin fails ql (same-cases y x);
  } where
    d : Died s (state_from s nodes settled) (state_from s (nodes_told s.m (with_node s x (node_failed s x 0 (node_in s nodes x)) nodes)) settled) x 0
    d = died s nodes size settled x 0 xin (b.dead x xin ∙ lives)

    not_x : (q : ProcessId) → Living s (with_one failed x) q → q ≢ x
    not_x q ql same = cc (ql.1, ap (with_one failed x) same, changed-here failed x true)

    was : (q : ProcessId) → Living s (with_one failed x) q → Living s failed q
    was q ql = (ql.0, sym (changed-other failed x q true (not_x q ql)) ∙ ql.1)

    deads : (q : ProcessId) → IsProcess s q → (q ≡ x) ⊎ (q ≢ x)
        → (node_in s (nodes_told s.m (with_node s x (node_failed s x 0 (node_in s nodes x)) nodes)) q).dead
        ≡ with_one failed x q
    deads q qin (inr other) = d.others q qin other ∙ b.dead q qin ∙ sym (changed-other failed x q true other)
    deads q qin (inl same) =
        ap (λ (z : ProcessId). (node_in s (nodes_told s.m (with_node s x (node_failed s x 0 (node_in s nodes x)) nodes))
        z).dead) same ∙ d.dead ∙ sym (changed-here failed x true) ∙ ap (with_one failed x) (sym same)

    notice : (y q : ProcessId) → IsProcess s y → with_one failed x y ≡ true → Living s (with_one failed x) q → (y ≡ x) ⊎ (y ≢ x)
        → link_in s (nodes_told s.m (with_node s x (node_failed s x 0 (node_in s nodes x)) nodes)) y q ≡ one_or (taken q y) [] (tells.Notice y ∷ [])
    notice y q yin fails ql (inr other) = d.links y q yin ql.0 other ∙ b.notices y q yin (sym (changed-other failed x y true other) ∙ fails) (was q ql)
    notice y q yin fails ql (inl same) =
        ap (λ (z : ProcessId). link_in s (nodes_told s.m (with_node s x (node_failed s x 0 (node_in s nodes x)) nodes)) z q) same ∙ d.cut q ql.0
        ∙ sym (ap (λ (z : ProcessId). one_or (taken q z) [] (tells.Notice z ∷ [])) same
        ∙ ap (λ (b : Bool). one_or b [] (tells.Notice x ∷ [])) (fresh q (was q ql)))

  -- the same with other words for the same processes
  pub mirrors-as : (now : Processes) → ((p : ProcessId) → IsProcess s p → failed p ≡ now p) → Mirrors s nodes cut now taken works
  mirrors-as now same = record {
    dead = λ p pin. b.dead p pin ∙ same p pin;
    process = λ p pl. b.process p (pl.0, same p pl.0 ∙ pl.1);
    links = λ p q pl ql other. b.links p q (pl.0, same p pl.0 ∙ pl.1) (ql.0, same q ql.0 ∙ ql.1) other;
    notices = λ x p xin fails pl. b.notices x p xin (same x xin ∙ fails) (pl.0, same p pl.0 ∙ pl.1);
  }

  -- members cut others
  pub mirrors-cut : (now : ProcessId → Processes) → ((p q : ProcessId) → cut p q ≡ true → now p q ≡ true) → Mirrors s nodes now failed taken works
  mirrors-cut now grows = record {
    dead = b.dead;
    process = b.process;
    links = λ p q pl ql other. let c = b.links p q pl ql other in
        record { lost = c.lost; is = c.is; whole = λ open_to. c.whole (was (cut p q) (grows p q) open_to) };
    notices = b.notices;
  } where
    was : {a : Bool} (c : Bool) → (c ≡ true → a ≡ true) → a ≡ false → c ≡ false
    was true there is = cc (there refl, is)
    was false there is = refl

  -- what members that have failed do isn't seen
  pub mirrors-others : (taken_now : ProcessId → Processes) (works_now : Works) → ((p : ProcessId) → Living s failed p → works_now.process p ≡ works.process p)
      → ((p q : ProcessId) → Living s failed p → Living s failed q → works_now.messages p q ≡ works.messages p q)
      → ((p x : ProcessId) → Living s failed p → taken_now p x ≡ taken p x) → Mirrors s nodes cut failed taken_now works_now
  mirrors-others taken_now works_now processes messages takes = record {
    dead = b.dead;
    process = λ p pl. b.process p pl ∙ sym (processes p pl);
    links = λ p q pl ql other. subst (Carried (cut p q) (link_in s nodes p q)) (sym (messages p q pl ql)) (b.links p q pl ql other);
    notices = λ x p xin fails pl. b.notices x p xin fails pl ∙ sym (ap (λ (b : Bool). one_or b [] (tells.Notice x ∷ [])) (takes p x pl));
  }

  -- a step of a member that has failed
  pub mirrors-ghost : (p : ProcessId) (t : ProcessStep) → failed p ≡ true → Mirrors s nodes cut failed taken (stepped cut p t works)
  mirrors-ghost p t lost = mirrors-others taken (stepped cut p t works)
      (λ q ql. changed-other works.process p q t.process (λ same. cc (ql.1, lost, ap failed same)))
      (λ x q xl ql. ap (λ (f : ProcessId → List Message). f q)
      (changed-other works.messages p x
      (λ q. one_or (cut p q) (works.messages p q) (works.messages p q ++ sent_to q t.sent))
      (λ same. cc (xl.1, lost, ap failed same))))
      (λ q x ql. refl)

  pub mirrors-ghost-read : (x p : ProcessId) (wire : List Message) → failed p ≡ true
      → Mirrors s nodes cut failed taken (record works { messages = changed_from works.messages x p wire })
  mirrors-ghost-read x p wire lost =
      mirrors-others taken (record works { messages = changed_from works.messages x p wire }) (λ q ql. refl)
      (λ y q yl ql. by y q ql (same-cases y x)) (λ q y ql. refl) where
        by : (y q : ProcessId) → Living s failed q → (y ≡ x) ⊎ (y ≢ x) → changed_from works.messages x p wire y q ≡ works.messages y q
        by y q ql (inr other) = ap (λ (f : ProcessId → List Message). f q) (changed-other works.messages x y (changed (works.messages x) p wire) other)
        by y q ql (inl same) =
            ap (λ (z : ProcessId). changed_from works.messages x p wire z q) same
            ∙ ap (λ (f : ProcessId → List Message). f q) (changed-here works.messages x (changed (works.messages x) p wire))
            ∙ changed-other (works.messages x) p q wire (λ at_p. cc (ql.1, lost, ap failed at_p))
            ∙ ap (λ (z : ProcessId). works.messages z q) (sym same)
