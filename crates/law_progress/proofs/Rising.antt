-- An event adds little to the weight of what is on its way.
use Rattle.std.proofs.Common.{ℕ, zero, suc, ◌≡◌, ◌≢◌, ◌<◌, ◌≤◌, ◌+◌, ◌*◌, ◌⊎◌, inl, inr, Bool, true, false, List, []}
use Rattle.std.proofs.Common.{◌∷◌, length, take, refl, sym, ap, subst, ◌∙◌, arith}
use Rattle.std.proofs.lemmas.List.FromFn.{length-map-range_with_len}
use Rattle.std.specs.List.{range_with_len}
use Rattle.group_types.specs.Dimensions.{Dimensions}
use Rattle.group_types.specs.Lists.{at}
use Rattle.group_types.specs.Names.{IsProcess, index_of, process_at}
use Rattle.group_types.specs.Shape.{IsShape}
use Rattle.group_types.specs.declared.process.ProcessId.{ProcessId}
use Rattle.group_types.proofs.Names.{same-cases}
use Rattle.group_message.specs.declared.message.Message.{Message}
use Rattle.group_message.specs.declared.message.Message.TheVariants as tells
use Rattle.group_calls.specs.declared.event.Answer.{Answer}
use Rattle.group_calls.specs.declared.event.Answer.TheVariants as says
use Rattle.group_calls.specs.declared.event.Event.{Event}
use Rattle.group_calls.specs.declared.event.Event.TheVariants.{Ask, Collect, Deliver, Fail, Flush, Trace}
use Rattle.group_run.specs.Applying.{Sent, head_at}
use Rattle.group_run.specs.Asking.{CallStep, ask_process, collect_from, fate_of}
use Rattle.group_run.specs.Headline.{MayCome}
use Rattle.group_run.specs.History.{no_history}
use Rattle.group_run.specs.Process.{Node}
use Rattle.group_run.specs.Progress.{weight_of}
use Rattle.group_run.specs.World.{DeliveryStep, World, after, all_change, delivered, flush_process, group_step, if_up, next_name}
use Rattle.group_run.specs.World.{node_after, node_failed, node_in, nodes_told, process_node, sent_to, step, treated, unchanged, with_node}
use Rattle.law_moves.proofs.Moves.{Died}
use Rattle.law_moves.specs.State.{State, state_from}
use Rattle.law_moves.proofs.Reading.{node-back}
use Rattle.law_moves.proofs.Runs.{shape-from, world-from}
use Rattle.law_moves.proofs.Steps.{died}
use Rattle.law_bytes.proofs.Tokens.{everyone, sum_of}
use Rattle.law_answers.specs.Steps.{FewForEach}
use Rattle.law_answers.proofs.Starting.{sends_few}
use Rattle.law_progress.specs.Drains.{RisesLittle, RisesLittleAlways, most_rise}
use Rattle.law_progress.proofs.Drained.{Ready, ready-after}
use Rattle.law_progress.proofs.Loads.{Adds, adds-weigh, after-weighs, load-is, node-adds, way_of, weights, weights-append}

-- no message weighs more than a notice
light : (m : Message) → weight_of m ≤ 200
light (tells.Notice dead) = omega arith
light (tells.Update r d u stable) = omega arith
light (tells.Ack r d n) = omega arith
light (tells.Stable r d n) = omega arith
light (tells.Adopt r d base list) = omega arith
light (tells.ReadBlock session block rows) = omega arith
light (tells.Block session bytes n) = omega arith
light (tells.Mark session r block d n) = omega arith
light (tells.Row session bytes stamp) = omega arith
light (tells.Cease upto) = omega arith

weights-most : (ms : List Message) → weights ms ≤ length ms * 200
weights-most [] = omega arith
weights-most (m ∷ ms) = let one = light m in let rest = weights-most ms in omega (arith, one, rest)

weights-take : (n : ℕ) (ms : List Message) → weights (take n ms) ≤ weights ms
weights-take zero ms = omega arith
weights-take (suc n) [] = omega arith
weights-take (suc n) (m ∷ ms) = let rest = weights-take n ms in omega (arith, rest)

sum-most : (ps : List ProcessId) (f : ProcessId → ℕ) (c : ℕ) → ((p : ProcessId) → f p ≤ c) → sum_of ps f ≤ length ps * c
sum-most [] f c most = omega arith
sum-most (p ∷ ps) f c most = let one = most p in let rest = sum-most ps f c most in omega (arith, one, rest)

module _ (s : Dimensions) (shaped : IsShape s) where
  -- little to each of the processes is little in all
  little : (c : ProcessId → ℕ) → ((q : ProcessId) → c q ≤ 3400) → sum_of (everyone s) c ≤ most_rise
  little c each =
      let most = sum-most (everyone s) c 3400 each in
      let many = length-map-range_with_len (process_at s) 0 (s.k + s.m) in
      let few = shaped.k.1 in
      let fewer = shaped.m in
      let enough : 68000 ≤ most_rise = omega arith in
      omega (arith, most, many, few, fewer, enough)

  few-weigh : (sent : List Sent) → FewForEach s sent → (q : ProcessId) → weights (sent_to q sent) ≤ 3400
  few-weigh sent few q = let most = weights-most (sent_to q sent) in let count = few q in let parts = shaped.k.1 in omega (arith, most, count, parts)

  module _ (nodes : List Node) (size : length nodes ≡ s.k + s.m) where
    abbrev way : List Node → ℕ
    way new = way_of s (state_from s new [])

    same-rises : (new : List Node) → new ≡ nodes → way new ≤ way nodes + most_rise
    same-rises new same = let is = ap way same in omega (arith, is)

    adds-rises : (new : List Node) (p : ProcessId) (c : ProcessId → ℕ)
        → Adds s (state_from s nodes []) (state_from s new []) p c → ((q : ProcessId) → c q ≤ 3400)
        → way new ≤ way nodes + most_rise
    adds-rises new p c adds each = let more = adds-weigh s (state_from s nodes []) (state_from s new []) p c adds in
        let few = little c each in omega (arith, more, few)

    -- a call
    treated-rises : (p : ProcessId) (call : CallStep) → IsProcess s p → FewForEach s call.step.sent → (down dead : Bool)
        → way (with_node s p (if_up down dead (node_in s nodes p) (treated s (node_in s nodes p) call)).node nodes) ≤ way nodes + most_rise
    treated-rises p call pin few true dead = same-rises (with_node s p (node_in s nodes p) nodes) (node-back s nodes p pin size)
    treated-rises p call pin few false true = same-rises (with_node s p (node_in s nodes p) nodes) (node-back s nodes p pin size)
    treated-rises p call pin few false false =
        let node : Node = node_after s call.step (node_in s nodes p) in
        adds-rises (with_node s p node nodes) p (λ q. weights (sent_to q call.step.sent))
        (node-adds s nodes p node (λ q. weights (sent_to q call.step.sent)) size pin refl
        (after-weighs s call.step (node_in s nodes p))) (few-weigh call.step.sent few)

    answered-rises : (p : ProcessId) (answer : Answer) → IsProcess s p → (down dead : Bool)
        → way (with_node s p (if_up down dead (node_in s nodes p) (unchanged answer (node_in s nodes p))).node nodes) ≤ way nodes + most_rise
    answered-rises p answer pin true dead = same-rises (with_node s p (node_in s nodes p) nodes) (node-back s nodes p pin size)
    answered-rises p answer pin false true = same-rises (with_node s p (node_in s nodes p) nodes) (node-back s nodes p pin size)
    answered-rises p answer pin false false = same-rises (with_node s p (node_in s nodes p) nodes) (node-back s nodes p pin size)

    -- a delivery, which lowers the weight where a message comes
    abbrev after_delivery : ProcessId → ProcessId → DeliveryStep → List Node
    after_delivery from to t = with_node s to t.receiver.node (with_node s from t.sender nodes)

    nothing-rises : (from to : ProcessId) → IsProcess s from → IsProcess s to
        → way (with_node s to (node_in s nodes to) (with_node s from (node_in s nodes from) nodes))
        ≤ way nodes + most_rise
    nothing-rises from to fin tin = same-rises (with_node s to (node_in s nodes to) (with_node s from (node_in s nodes from) nodes))
        (ap (with_node s to (node_in s nodes to)) (node-back s nodes from fin size) ∙ node-back s nodes to tin size)

    delivery-rises : (from to : ProcessId) → IsProcess s from → IsProcess s to → (down dead : Bool) (link : List Message)
        → ((delivered down dead s from to (node_in s nodes from) (node_in s nodes to) link).receiver.answer ≡ says.Done
        → way (after_delivery from to (delivered down dead s from to (node_in s nodes from) (node_in s nodes to) link)) < way nodes)
        → way (after_delivery from to (delivered down dead s from to (node_in s nodes from) (node_in s nodes to) link)) ≤ way nodes + most_rise
    delivery-rises from to fin tin true dead link lowers = nothing-rises from to fin tin
    delivery-rises from to fin tin false true link lowers = nothing-rises from to fin tin
    delivery-rises from to fin tin false false [] lowers = nothing-rises from to fin tin
    delivery-rises from to fin tin false false (m ∷ rest) lowers = let less = lowers refl in omega (arith, less)

    -- a death
    dying-rises : (p : ProcessId) (keep : ℕ) → IsProcess s p → (dead : Bool) → (node_in s nodes p).dead ≡ dead
        → way (all_change dead s nodes p keep).nodes ≤ way nodes + most_rise
    dying-rises p keep pin true isdead = same-rises nodes refl
    dying-rises p keep pin false isdead = adds-rises (all_change false s nodes p keep).nodes p (λ q. 200) adds (λ q. omega arith) where
      v : State
      v = state_from s nodes []

      w : State
      w = state_from s (nodes_told s.m (with_node s p (node_failed s p keep (node_in s nodes p)) nodes)) []

      dies : Died s v w p keep
      dies = died s nodes size [] p keep pin isdead

      adds : Adds s v w p (λ q. 200)
      adds = record {
        dead = λ q qin was. by q qin was (same-cases q p);
        here = λ q qin.
            let cut = ap weights (dies.cut q qin) in
            let both = weights-append (take keep (v.link p q)) (tells.Notice p ∷ []) in
            let front = weights-take keep (v.link p q) in
            omega (arith, cut, both, front);
        others = λ x q xin qin other. dies.links x q xin qin other;
      } where
        by : (q : ProcessId) → IsProcess s q → v.dead q ≡ true → (q ≡ p) ⊎ (q ≢ p) → w.dead q ≡ true
        by q qin was (inl same) = ap w.dead same ∙ dies.dead
        by q qin was (inr other) = dies.others q qin other ∙ was

-- in a group of which deliveries lower the weight
module _ (w : World) (shaped : IsShape w.shape) (ready : Ready w) where
  nodes-rise : (e : Event) → MayCome w e → way_of w.shape (state_from w.shape (group_step w e).nodes [])
      ≤ way_of w.shape (state_from w.shape w.nodes []) + most_rise
  nodes-rise (Ask caller op p) may =
      treated-rises w.shape shaped w.nodes ready.many p (ask_process w.shape (next_name w caller) op (process_node w p).process) may.1
      ((sends_few w.shape (process_node w p).process shaped).asked (next_name w caller) op) (process_node w p).down (process_node w p).dead
  nodes-rise (Collect caller call p) may =
      treated-rises w.shape shaped w.nodes ready.many p (collect_from caller call (process_node w p).process (range_with_len 0 w.shape.k)) may.1
      (subst (FewForEach w.shape) (sym ((sends_few w.shape (process_node w p).process shaped).collected caller call))
      (λ q. omega arith)) (process_node w p).down (process_node w p).dead
  nodes-rise (Flush p) may =
      treated-rises w.shape shaped w.nodes ready.many p (flush_process w.shape (process_node w p).process) may
      (sends_few w.shape (process_node w p).process shaped).flushed (process_node w p).down (process_node w p).dead
  nodes-rise (Trace caller call d p) may =
      answered-rises w.shape shaped w.nodes ready.many p
      (fate_of w.shape caller call d.0 (process_node w p).process (head_at (process_node w p).process d.0)) may.3
      (process_node w p).down (process_node w p).dead
  nodes-rise (Fail p keep) may = dying-rises w.shape shaped w.nodes ready.many p keep may (process_node w p).dead refl
  nodes-rise (Deliver from to) may =
      delivery-rises w.shape shaped w.nodes ready.many from to may.0 may.1 (process_node w to).down (process_node w to).dead
      (at [] (process_node w from).links (index_of w.shape to)) lowers
    where
      lowers : (step w (Deliver from to)).turn.answer ≡ says.Done
          → way_of w.shape (state_from w.shape (group_step w (Deliver from to)).nodes []) < way_of w.shape (state_from w.shape w.nodes [])
      lowers done =
          let less = ready.lowers from to may done in
          let before = load-is w in
          let after = load-is (step w (Deliver from to)).world in
          omega (arith, less, before, after)

  load-rises : RisesLittle w
  load-rises e may =
      let more = nodes-rise e may in
      let before = load-is w in
      let after = load-is (step w e).world in
      omega (arith, more, before, after)

pub rises-little : RisesLittleAlways
rises-little s es run =
    load-rises (after s es)
    (subst IsShape
    (sym (ap (λ (w : World). w.shape) (sym (world-from (no_history s) es)) ∙ shape-from (no_history s) es)) run.0)
    (ready-after s es run)
