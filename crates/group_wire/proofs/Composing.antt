-- What members that haven't failed do, as events of the machine.
use Rattle.std.proofs.Common.{ℕ, ◌≡◌, ◌≢◌, ◌<◌, ◌≤◌, ◌+◌, Bool, true, false, List, [], ◌∷◌, ◌++◌, length, refl, sym, ap, subst, ◌∙◌, All}
use Rattle.std.proofs.lemmas.List.{append-nil}
use Rattle.std.specs.List.{range_with_len}
use Rattle.group_types.specs.Dimensions.{Dimensions}
use Rattle.group_types.specs.Lists.{at}
use Rattle.group_types.specs.Names.{IsProcess, index_of}
use Rattle.group_types.specs.declared.process.ProcessId.{ProcessId}
use Rattle.membership.specs.Members.{knows_dead}
use Rattle.memc_table.specs.Act.{act_value}
use Rattle.memc_table.specs.Asked.{Asked}
use Rattle.group_message.specs.declared.message.Message.{Message}
use Rattle.group_message.specs.declared.message.Message.TheVariants as tells
use Rattle.group_calls.specs.declared.event.Answer.{Answer}
use Rattle.group_calls.specs.declared.event.Answer.TheVariants as says
use Rattle.group_calls.specs.declared.event.Event.{Event}
use Rattle.group_calls.specs.declared.event.Event.TheVariants as event
use Rattle.group_run.specs.Applying.{ProcessStep, quiet, head_at}
use Rattle.group_run.specs.Asking.{ask_process, collect_from, fate_of}
use Rattle.group_run.specs.Headline.{MayCome}
use Rattle.group_run.specs.Heading.{partition}
use Rattle.group_run.specs.Process.{Node, Process}
use Rattle.group_run.specs.Receiving.{receive}
use Rattle.group_run.specs.Replica.{callers}
use Rattle.group_run.specs.World.{World, NodeStep, after, ask_node, deliver_nodes, delivered, flush_process, if_up}
use Rattle.group_run.specs.World.{next_name, node_in, process_node, receive_node, step, treated, unchanged, with_link}
use Rattle.group_run.specs.World.{with_node}
use Rattle.law_moves.proofs.Reading.{node-back, node-here, node-other, size-with_node}
use Rattle.law_moves.proofs.Steps.{NodeActs, node_acts, node_receives}
use Rattle.group_wire.specs.Composed.{Made}
use Rattle.group_wire.specs.Composition.{Carried}
use Rattle.group_wire.specs.Sets.{Processes, changed, changed_from, one_or, size_of, with_one}
use Rattle.group_wire.specs.State.{Works}
use Rattle.group_wire.specs.Sending.{stepped}
use Rattle.group_wire.proofs.Extending.{Makes, after-made, events_in, makes-more, nodes-many, shape-after, unknown-after, up-after}
use Rattle.group_wire.proofs.Mirrors.{Mirrors, link_in, mirrors-acts, mirrors-popped, mirrors-taken}
use Rattle.group_wire.proofs.Positions.{asked_by}
use Rattle.group_wire.proofs.Requests.{Living}

-- the events that members made are a run, which leaves those who haven't failed as they are
pub record Composes (s : Dimensions) (cut : ProcessId → Processes) (failed : Processes) (taken : ProcessId → Processes)
    (works : Works) (made : List Made) : Type 0 where
  pub makes : Makes s made
  pub mirrors : Mirrors s (after s (events_in made)).nodes cut failed taken works

module _ (s : Dimensions) (cut : ProcessId → Processes) (failed : Processes) (taken : ProcessId → Processes)
    (works : Works) (made : List Made) (c : Composes s cut failed taken works made) (few : size_of s failed ≤ s.m) where
  abbrev w : World
  w = after s (events_in made)

  shape : (after s (events_in made)).shape ≡ s
  shape = shape-after s (events_in made) c.makes.run

  many : length (after s (events_in made)).nodes ≡ s.k + s.m
  many = nodes-many s (events_in made) c.makes.run

  node_is : ProcessId → Node
  node_is p = node_in s (after s (events_in made)).nodes p

  lives-here : (p : ProcessId) → Living s failed p → (node_in s (after s (events_in made)).nodes p).dead ≡ false
  lives-here p pl = c.mirrors.dead p pl.0 ∙ pl.1

  up-here : (p : ProcessId) → Living s failed p → (node_in s (after s (events_in made)).nodes p).down ≡ false
  up-here p pl = up-after s (events_in made) c.makes.run failed c.mirrors.dead few p pl.0

  -- a process of the machine makes a step, from nodes that mirror the members
  acts-on : (base : List Node) (taken_now : ProcessId → Processes) (works_now : Works) → length base ≡ s.k + s.m → Mirrors s base cut failed taken_now works_now
      → (p : ProcessId) (node : Node) (t : ProcessStep) (x : Made) → Living s failed p → NodeActs s (node_in s base p) node t
      → MayCome (after s (events_in made)) x.event → (step (after s (events_in made)) x.event).world.nodes
      ≡ with_node s p node base → (step (after s (events_in made)) x.event).turn.answer ≡ x.answer
      → Composes s cut failed taken_now (stepped cut p t works_now) (made ++ x ∷ [])
  acts-on base taken_now works_now size mirrors p node t x pl acts may nodes answer = record {
    makes = makes;
    mirrors = subst (λ (ns : List Node). Mirrors s ns cut failed taken_now (stepped cut p t works_now)) (sym there)
        (mirrors-acts s base size cut failed taken_now works_now mirrors p node t pl acts unknown);
  } where
    makes : Makes s (made ++ x ∷ [])
    makes = makes-more s made x c.makes may answer

    there : (after s (events_in (made ++ x ∷ []))).nodes ≡ with_node s p node base
    there = ap (λ (w : World). w.nodes) (after-made s made x) ∙ nodes

    unknown : (q : ProcessId) → Living s failed q → q ≢ p → knows_dead t.process.known q ≡ false
    unknown q ql other =
        let here : node_in s (after s (events_in (made ++ x ∷ []))).nodes p ≡ node = ap (λ (ns : List Node). node_in s ns p) there ∙ node-here s base p node in
        let far : node_in s (after s (events_in (made ++ x ∷ []))).nodes q ≡ node_in s base q =
        ap (λ (ns : List Node). node_in s ns q) there ∙ node-other s base p q node pl.0 ql.0 other size in
        let known : t.process ≡ (node_in s (after s (events_in (made ++ x ∷ []))).nodes p).process = sym (ap (λ (n : Node). n.process) here ∙ acts.process) in
        ap (λ (p : Process). knows_dead p.known q) known
        ∙ unknown-after s (events_in (made ++ x ∷ [])) makes.run p q pl.0 ql.0 other
        (ap (λ (n : Node). n.dead) here ∙ acts.dead ∙ mirrors.dead p pl.0 ∙ pl.1)
        (ap (λ (n : Node). n.dead) far ∙ mirrors.dead q ql.0 ∙ ql.1)

  -- a member treats what it was asked
  acts-treated : (e : Event) (p : ProcessId) (v : Dimensions → Node → NodeStep) (t : Process → ProcessStep) (a : Process → Answer) → Living s failed p
      → (step (after s (events_in made)) e).world.nodes ≡ with_node w.shape p
      (if_up (process_node w p).down (process_node w p).dead (process_node w p) (v w.shape (process_node w p))).node w.nodes
      → (step (after s (events_in made)) e).turn.answer ≡
      (if_up (process_node w p).down (process_node w p).dead (process_node w p) (v w.shape (process_node w p))).answer
      → ((n : Node) → NodeActs s n (v s n).node (t n.process)) → ((n : Node) → (v s n).answer ≡ a n.process) → MayCome w e
      → Composes s cut failed taken (stepped cut p (t (works.process p)) works) (made ++ record { event = e; answer = a (works.process p) } ∷ [])
  acts-treated e p v t a pl nodes answer acts says may =
      acts-on w.nodes taken works many c.mirrors p (v s (node_in s w.nodes p)).node (t (works.process p))
      (record { event = e; answer = a (works.process p) }) pl
      (subst (λ (q : Process). NodeActs s (node_in s w.nodes p) (v s (node_in s w.nodes p)).node (t q)) (c.mirrors.process p pl) (acts (node_in s w.nodes p)))
      may
      (nodes ∙ (λ i. with_node (shape i) p (in-all i).node w.nodes))
      (answer ∙ (λ i. (in-all i).answer) ∙ says (node_in s w.nodes p) ∙ ap a (c.mirrors.process p pl))
    where
      in-shape : if_up (process_node w p).down (process_node w p).dead (process_node w p) (v w.shape (process_node w p))
          ≡ if_up (node_in s w.nodes p).down (node_in s w.nodes p).dead (node_in s w.nodes p)
          (v s (node_in s w.nodes p))
      in-shape = λ i. if_up (node_in (shape i) w.nodes p).down (node_in (shape i) w.nodes p).dead
          (node_in (shape i) w.nodes p) (v (shape i) (node_in (shape i) w.nodes p))

      in-all : if_up (process_node w p).down (process_node w p).dead (process_node w p) (v w.shape (process_node w p)) ≡ v s (node_in s w.nodes p)
      in-all = in-shape ∙ (λ i. if_up (up-here p pl i) (lives-here p pl i) (node_in s w.nodes p) (v s (node_in s w.nodes p)))

  is-in : (p : ProcessId) → IsProcess s p → IsProcess w.shape p
  is-in p pin = subst (λ (t : Dimensions). IsProcess t p) (sym shape) pin

  pub composes-ask : (p : ProcessId) (caller call : ℕ) (op : Asked) → Living s failed p → caller < callers
      → All (λ b. b < 256) (act_value op.act) → call ≡ asked_by made caller
      → Composes s cut failed taken (stepped cut p (ask_process s (record { caller = caller; call = call }) op (works.process p)).step works)
      (made ++ record { event = event.Ask caller op p; answer = (ask_process s (record { caller = caller; call = call }) op (works.process p)).answer } ∷ [])
  composes-ask p caller call op pl low bytes is =
      subst (λ (n : ℕ). Composes s cut failed taken (stepped cut p (ask_process s (record { caller = caller; call = n }) op (works.process p)).step works)
      (made ++ record {
        event = event.Ask caller op p;
        answer = (ask_process s (record { caller = caller; call = n }) op (works.process p)).answer;
      } ∷ []))
      (c.makes.asked caller ∙ sym is)
      (acts-treated (event.Ask caller op p) p (λ t n. treated t n (ask_process t (next_name w caller) op n.process))
      (λ q. (ask_process s (next_name w caller) op q).step) (λ q. (ask_process s (next_name w caller) op q).answer)
      pl refl refl (λ n. node_acts s (ask_process s (next_name w caller) op n.process).step n) (λ n. refl) (low, is-in p pl.0, bytes))

  pub composes-trace : (p : ProcessId) (caller call d : ℕ) → Living s failed p → caller < callers → call < asked_by made caller → d < s.k
      → Composes s cut failed taken (stepped cut p (quiet (works.process p)) works)
      (made ++ record {
        event = event.Trace caller call (partition d) p;
        answer = fate_of s caller call d (works.process p) (head_at (works.process p) d);
      } ∷ [])
  composes-trace p caller call d pl low below part =
      acts-treated (event.Trace caller call (partition d) p) p
      (λ t n. unchanged (fate_of t caller call d n.process (head_at n.process d)) n) quiet
      (λ q. fate_of s caller call d q (head_at q d))
      pl refl refl (λ n. record { process = refl; dead = refl; sends = λ q qin living. sym (append-nil (at [] n.links (index_of s q))) }) (λ n. refl)
      (low, subst (λ (n : ℕ). call < n) (sym (c.makes.asked caller)) below, subst (λ (t : Dimensions). d < t.k) (sym shape) part, is-in p pl.0)

  pub composes-collect : (p : ProcessId) (caller call : ℕ) → Living s failed p → caller < callers
      → Composes s cut failed taken (stepped cut p (collect_from caller call (works.process p) (range_with_len 0 s.k)).step works)
      (made ++ record { event = event.Collect caller call p; answer = (collect_from caller call (works.process p) (range_with_len 0 s.k)).answer } ∷ [])
  composes-collect p caller call pl low =
      acts-treated (event.Collect caller call p) p
      (λ t n. treated t n (collect_from caller call n.process (range_with_len 0 t.k)))
      (λ q. (collect_from caller call q (range_with_len 0 s.k)).step)
      (λ q. (collect_from caller call q (range_with_len 0 s.k)).answer)
      pl refl refl (λ n. node_acts s (collect_from caller call n.process (range_with_len 0 s.k)).step n) (λ n. refl) (low, is-in p pl.0)

  pub composes-flush : (p : ProcessId) → Living s failed p
      → Composes s cut failed taken (stepped cut p (flush_process s (works.process p)).step works)
      (made ++ record { event = event.Flush p; answer = says.Done } ∷ [])
  composes-flush p pl =
      acts-treated (event.Flush p) p (λ t n. treated t n (flush_process t n.process)) (λ q. (flush_process s q).step) (λ q. says.Done)
      pl refl refl (λ n. node_acts s (flush_process s n.process).step n) (λ n. refl) (is-in p pl.0)

  -- a message is delivered, from nodes that lost it
  delivers : (x p : ProcessId) (m : Message) (rest : List Message) (taken_now : ProcessId → Processes)
      (works_now : Works) → IsProcess s x → x ≢ p → Living s failed p → link_in s w.nodes x p ≡ m ∷ rest
      → works_now.process p ≡ works.process p
      → Mirrors s (with_node s x (with_link s p rest (node_in s w.nodes x)) w.nodes) cut failed taken_now works_now
      → Composes s cut failed taken_now (stepped cut p (receive s x m (works.process p)) works_now)
      (made ++ record { event = event.Deliver x p; answer = says.Done } ∷ [])
  delivers x p m rest taken_now works_now xin other pl first same mirrors =
      acts-on (with_node s x (with_link s p rest (node_in s w.nodes x)) w.nodes) taken_now works_now
      (size-with_node s w.nodes x (with_link s p rest (node_in s w.nodes x)) xin many) mirrors
      p (receive_node s x m (node_in s w.nodes p)).node (receive s x m (works.process p)) (record { event = event.Deliver x p; answer = says.Done }) pl
      (subst (λ (n : Node). NodeActs s n (receive_node s x m (node_in s w.nodes p)).node (receive s x m (works.process p)))
      (sym (node-other s w.nodes x p (with_link s p rest (node_in s w.nodes x)) xin pl.0 (λ at_x. other (sym at_x)) many))
      (subst (λ (q : Process). NodeActs s (node_in s w.nodes p) (receive_node s x m (node_in s w.nodes p)).node
      (receive s x m q)) (c.mirrors.process p pl) (node_receives s x m (node_in s w.nodes p))))
      (is-in x xin, is-in p pl.0, other)
      (λ i. with_node (shape i) p (in-all i).receiver.node (with_node (shape i) x (in-all i).sender w.nodes))
      (λ i. (in-all i).receiver.answer)
    where
      in-all : deliver_nodes w.shape x p (process_node w x) (process_node w p) ≡ delivered false false s x p (node_in s w.nodes x) (node_in s w.nodes p)
          (m ∷ rest)
      in-all =
          (λ i. deliver_nodes (shape i) x p (node_in (shape i) w.nodes x) (node_in (shape i) w.nodes p))
          ∙ (λ i. delivered (up-here p pl i) (lives-here p pl i) s x p (node_in s w.nodes x) (node_in s w.nodes p) (first i))

  pub composes-receive : (x p : ProcessId) (m : Message) (rest : List Message) → Living s failed x → Living s failed p → x ≢ p → works.messages x p ≡ m ∷ rest
      → Composes s cut failed taken
      (stepped cut p (receive s x m (works.process p))
      (record works { messages = changed_from works.messages x p rest }))
      (made ++ record { event = event.Deliver x p; answer = says.Done } ∷ [])
  composes-receive x p m rest xl pl other is =
      let carried : Carried (cut x p) (link_in s w.nodes x p) (works.messages x p) = c.mirrors.links x p xl pl other in
      let first : link_in s w.nodes x p ≡ m ∷ (rest ++ carried.lost) = carried.is ∙ ap (λ (l : List Message). l ++ carried.lost) is in
      delivers x p m (rest ++ carried.lost) taken (record works { messages = changed_from works.messages x p rest }) xl.0 other pl first refl
      (mirrors-popped s w.nodes many cut failed taken works c.mirrors x p xl.0 pl.0 (rest ++ carried.lost) rest xl.1 pl.1
      (record { lost = carried.lost; is = refl; whole = carried.whole }))

  pub composes-take : (x p : ProcessId) → IsProcess s x → failed x ≡ true → Living s failed p → taken p x ≡ false
      → Composes s cut failed (changed taken p (with_one (taken p) x))
      (stepped cut p (receive s x (tells.Notice x) (works.process p)) works)
      (made ++ record { event = event.Deliver x p; answer = says.Done } ∷ [])
  composes-take x p xin lost pl untaken =
      delivers x p (tells.Notice x) [] (changed taken p (with_one (taken p) x)) works xin
      (λ same. cc (lost, pl.1, ap failed same)) pl (c.mirrors.notices x p xin lost pl
      ∙ ap (λ (b : Bool). one_or b [] (tells.Notice x ∷ [])) untaken) refl
      (mirrors-taken s w.nodes many cut failed taken works c.mirrors x p xin pl.0 [] refl lost)

  -- a call that is asked of a process that has failed is lost, and changes nothing
  pub composes-lost : (x : ProcessId) (caller : ℕ) (op : Asked) → IsProcess s x → failed x ≡ true → caller < callers → All (λ b. b < 256) (act_value op.act)
      → Composes s cut failed taken works (made ++ record { event = event.Ask caller op x; answer = says.Lost } ∷ [])
  composes-lost x caller op xin lost low bytes = record {
    makes = makes-more s made (record { event = event.Ask caller op x; answer = says.Lost }) c.makes (low, is-in x xin, bytes) (λ i. (path i).answer);
    mirrors = subst (λ (ns : List Node). Mirrors s ns cut failed taken works)
        (sym (ap (λ (w : World). w.nodes)
        (after-made s made (record { event = event.Ask caller op x; answer = says.Lost }))
        ∙ (λ i. with_node (shape i) x (path i).node w.nodes) ∙ node-back s w.nodes x xin many))
        c.mirrors;
  } where
    path : ask_node w.shape (next_name w caller) op (process_node w x) ≡ unchanged says.Lost (node_in s w.nodes x)
    path =
        (λ i. ask_node (shape i) (next_name w caller) op (node_in (shape i) w.nodes x))
        ∙ (λ i. if_up (up-after s (events_in made) c.makes.run failed c.mirrors.dead few x xin i)
        ((c.mirrors.dead x xin ∙ lost) i) (node_in s w.nodes x)
        (treated s (node_in s w.nodes x) (ask_process s (next_name w caller) op (node_in s w.nodes x).process)))
