-- How many deliveries a drain has: no more than the weight of what is on its way.
use Rattle.std.proofs.Common.{ℕ, zero, suc, ◌≡◌, ◌≢◌, ◌<◌, ◌≤◌, ◌+◌, ◌*◌, nat_le, Bool, true, false, cond, not, ◌&&◌}
use Rattle.std.proofs.Common.{List, [], ◌∷◌, length, Option, Some, None, if◌then◌else◌, ◌⊎◌, inl, inr, refl, sym, ap}
use Rattle.std.proofs.Common.{subst, ◌∙◌, arith}
use Rattle.std.specs.Prelude.{filter}
use Rattle.std.specs.List.{range_with_len}
use Rattle.group_types.specs.Dimensions.{Dimensions, space_of}
use Rattle.group_types.specs.Hash.{home_of}
use Rattle.group_types.specs.Names.{IsProcess, same_process}
use Rattle.group_types.specs.declared.process.ProcessId.{ProcessId}
use Rattle.group_types.specs.declared.process.ProcessId.TheVariants.{DataNode, ParityNode}
use Rattle.group_types.proofs.Names.{same-cases}
use Rattle.group_message.specs.declared.message.Message.{Message}
use Rattle.group_message.specs.declared.message.Message.TheVariants as tells
use Rattle.group_message.specs.declared.update.Update.{Update}
use Rattle.group_calls.specs.declared.decision.Decision.{Decision}
use Rattle.group_calls.specs.declared.event.Event.{Event}
use Rattle.membership.specs.Members.{knows_dead}
use Rattle.group_run.specs.Applying.{ProcessStep, head_at, replica_of, with_replica}
use Rattle.group_run.specs.Asking.{CallStep, act_on, ask_head, ask_process, issue, issued, ticketed}
use Rattle.group_run.specs.Draining.{drain_events, next_delivery}
use Rattle.group_run.specs.Heading.{judge, judge_head, other_parities, partition, rank, to_others, to_parities}
use Rattle.group_run.specs.Headline.{MayCome}
use Rattle.group_run.specs.Meaning.{is_dead, link, process_of}
use Rattle.group_run.specs.Process.{Head, Node, Process}
use Rattle.group_run.specs.Progress.{load_of, weight_of}
use Rattle.group_run.specs.Replica.{with_update}
use Rattle.group_run.specs.World.{World, after, if_up, next_name, node_after, node_in, opening, process_node, sent_to, step, treated, with_node}
use Rattle.law_moves.specs.State.{State, state_from}
use Rattle.law_moves.proofs.Reading.{node-back}
use Rattle.law_bytes.proofs.Tokens.{everyone}
use Rattle.law_bytes.proofs.Sums.{everyone-inside, sum-zero}
use Rattle.law_progress.proofs.Alone.{alone-after}
use Rattle.law_progress.proofs.Drained.{ready-after}
use Rattle.law_progress.proofs.Loads.{adds-weigh, after-weighs, load-is, node-adds, on_way, sent-sum, way_from, way_of, weights}
use Rattle.law_progress.proofs.Rising.{rises-little}
use Rattle.law_progress.proofs.Sending.{sent-append, sent_weight}
use Rattle.group_eras.specs.Carry.{draining}
use Rattle.group_eras.specs.Eras.{carrier}
use Rattle.group_eras.proofs.Draining.{shape-after}
use Rattle.group_eras.proofs.Issues as issues
use Rattle.group_eras.proofs.Issues.{IsReadyAt}
use Rattle.group_eras.proofs.Resting.{Rests, settled_of}
use Rattle.group_eras.proofs.Served.{FirstHeads, first-heads}
use Rattle.group_eras.proofs.Setup.{ComesNext, SetUp, op_of, weight}
use Rattle.group_eras.specs.Carry.{Parcel, expiry_of, set_of}

drain-by : (n : ℕ) (w : World) → length (drain_events n w) ≤ n
drain-by zero w = omega arith
drain-by (suc n) w = by (next_delivery w) (λ v. drain-by n v) where
  by : (o : Option Event) → ((v : World) → length (drain_events n v) ≤ n)
      → length (elim o as (λ _. List Event) [ None ↦ [] | Some e ↦ e ∷ drain_events n (step w e).world ]) ≤ suc n
  by None later = omega arith
  by (Some e) later = let rest = later (step w e).world in omega (arith, rest)

pub drain-short : (w : World) → length (draining w) ≤ load_of w
drain-short w = drain-by (load_of w) w

-- nothing is on its way in a group at rest
pub rest-load : (s : Dimensions) (es : List Event) → Rests s es → load_of (after s es) ≡ 0
rest-load s es rests = load-is w ∙ sum-zero (everyone w.shape) (way_from w.shape v)
    (λ p there. sum-zero (everyone w.shape) (on_way v p)
    (λ q here. quiet p q (everyone-inside w.shape p there) (everyone-inside w.shape q here) (is_dead w q) refl)) where
      w : World
      w = after s es

      v : State
      v = state_from (after s es).shape (after s es).nodes []

      quiet : (p q : ProcessId) → IsProcess (after s es).shape p → IsProcess (after s es).shape q → (b : Bool)
          → is_dead (after s es) q ≡ b → (if b then 0 else weights (link (after s es) p q)) ≡ 0
      quiet p q pin qin true dead = refl
      quiet p q pin qin false lives = ap weights (by (same-cases p q)) where
        by : (p ≡ q) ⊎ (p ≢ q) → link (after s es) p q ≡ []
        by (inl same) = ap (λ (x : ProcessId). link (after s es) x q) same ∙ alone-after s es rests.run q (qin, lives)
        by (inr apart) = rests.drained p q pin (qin, lives) apart

-- an event after which a drain is short
pub event-drain : (s : Dimensions) (es : List Event) (e : Event) → Rests s es → MayCome (after s es) e → length (draining (step (after s es) e).world) ≤ 131072
event-drain s es e rests may =
    let short = drain-short (step (after s es) e).world in
    let rises : load_of (step (after s es) e).world ≤ load_of (after s es) + 131072 = rises-little s es rests.run e may in
    let none = rest-load s es rests in
    omega (arith, short, rises, none)

-- what a set sends
to-weigh : (is : List ℕ) (m : Message) → weight_of m ≤ 2 → sent_weight (to_parities is m) ≤ length is * 2
to-weigh [] m few = omega arith
to-weigh (i ∷ is) m few = let rest = to-weigh is m few in omega (arith, rest, few)

filter-few : (test : ℕ → Bool) (xs : List ℕ) → length (filter test xs) ≤ length xs
filter-few test [] = omega arith
filter-few test (x ∷ xs) = by (test x) (filter-few test xs) where
  by : (b : Bool) → length (filter test xs) ≤ length xs → length (cond b (x ∷ filter test xs) (filter test xs)) ≤ suc (length xs)
  by true rest = omega (arith, rest)
  by false rest = omega (arith, rest)

range-long : (n a : ℕ) → length (range_with_len a n) ≡ n
range-long zero a = refl
range-long (suc n) a = ap suc (range-long n (a + 1))

judge-silent : (s : Dimensions) (d : ℕ) (p : Process) → (judge s d p).sent ≡ []
judge-silent s d p = by (head_at p d) where
  by : (o : Option Head) → (judge_head s d p o).sent ≡ []
  by None = refl
  by (Some h) = refl

issue-weighs : (s : Dimensions) (d : ℕ) (h : Head) (u : Update) (p : Process) → sent_weight (issue s d h u p).step.sent ≤ s.m * 2
issue-weighs s d h u p = by (nat_le u.number (replica_of (issued s d h u p).process d).applied) (issued s d h u p) step-weighs where
  by : (b : Bool) (t : ProcessStep) → sent_weight t.sent ≤ s.m * 2 → sent_weight (ticketed b d u t).step.sent ≤ s.m * 2
  by true t few = few
  by false t few = few

  step-weighs : sent_weight (issued s d h u p).sent ≤ s.m * 2
  step-weighs =
      let m : Message = tells.Update (rank h.rank) (partition d) u (replica_of p d).applied in
      let q : Process = with_replica d (with_update u (replica_of p d)) p in
      let both = sent-append (to_others s p m) (judge s d q).sent in
      let none = ap sent_weight (judge-silent s d q) in
      let to = to-weigh (other_parities s.m p.name p.known) m (omega arith) in
      let few = filter-few (λ i. not (same_process p.name (ParityNode i)) && not (knows_dead p.known (ParityNode i))) (range_with_len 0 s.m) in
      let long = range-long s.m 0 in
      omega (arith, both, none, to, few, long)

module _ (s : Dimensions) (nodes : List Node) (size : length nodes ≡ s.k + s.m) where
  abbrev way : List Node → ℕ
  way new = way_of s (state_from s new [])

  treated-adds : (p : ProcessId) (call : CallStep) → IsProcess s p → (down dead : Bool)
      → way (with_node s p (if_up down dead (node_in s nodes p) (treated s (node_in s nodes p) call)).node nodes) ≤ way nodes + sent_weight call.step.sent
  treated-adds p call pin true dead = let same = ap way (node-back s nodes p pin size) in omega (arith, same)
  treated-adds p call pin false true = let same = ap way (node-back s nodes p pin size) in omega (arith, same)
  treated-adds p call pin false false =
      let node : Node = node_after s call.step (node_in s nodes p) in
      let more = adds-weigh s (state_from s nodes []) (state_from s (with_node s p node nodes) []) p (λ q. weights (sent_to q call.step.sent))
      (node-adds s nodes p node (λ q. weights (sent_to q call.step.sent)) size pin refl (after-weighs s call.step (node_in s nodes p))) in
      let all = sent-sum s call.step.sent in
      omega (arith, more, all)

-- the drain of a set
pub set-drain : (s : Dimensions) (es : List Event) (ps : List Parcel) (up : SetUp s es ps) (x : Parcel)
    → ComesNext s ps x → length (draining (step (after s es) (set_of x)).world) ≤ s.m * 2
set-drain s es ps up x comes =
    let short = drain-short (step w (set_of x)).world in
    let none = rest-load s es up.rests in
    let before = load-is w in
    let after-is = load-is (step w (set_of x)).world in
    let adds = treated-adds w.shape w.nodes (ready-after s es up.rests.run).many (DataNode x.partition)
    (ask_process w.shape (next_name w carrier) (op_of x) (process_node w (DataNode x.partition)).process) pin
    (process_node w (DataNode x.partition)).down (process_node w (DataNode x.partition)).dead in
    let sends = asked in
    let many : w.shape.m ≡ s.m = ap (λ (t : Dimensions). t.m) shape in
    omega (arith, short, none, before, after-is, adds, sends, many)
  where
    w : World
    w = after s es

    shape : (after s es).shape ≡ s
    shape = shape-after (opening s) es

    pin : IsProcess (after s es).shape (DataNode x.partition)
    pin = subst (λ (t : Dimensions). x.partition < t.k) (sym shape) comes.below

    first : FirstHeads s es x.partition
    first = first-heads s es up.rests up.live x.partition comes.below

    here : home_of x.key (after s es).shape.k ≡ x.partition
    here = ap (λ (t : Dimensions). home_of x.key t.k) shape ∙ comes.home

    fits : weight x.partition ps + length x.value ≤ space_of (after s es).shape
    fits = subst (λ (t : Dimensions). weight x.partition ps + length x.value ≤ space_of t) (sym shape) comes.room

    decided : (o : Option Head) → head_at (process_of (after s es) (DataNode x.partition)) x.partition ≡ o
        → sent_weight (ask_head (after s es).shape (next_name (after s es) carrier) (op_of x) x.partition
        (process_of (after s es) (DataNode x.partition)) o).step.sent ≤ (after s es).shape.m * 2
    decided None is = omega arith
    decided (Some h) is =
        let one = issues.decided (after s es) x.partition (settled_of s es x.partition) first.ready
        (weight x.partition ps) (up.piled x.partition comes.below) x.key x.flags (expiry_of x.until) x.value
        (up.keys x.partition comes.below x.key comes.new) fits h.inherited in
        subst (λ (y : Decision). sent_weight (act_on (after s es).shape (next_name (after s es) carrier) (op_of x)
        x.partition h (process_of (after s es) (DataNode x.partition)) y).step.sent ≤ (after s es).shape.m * 2)
        (sym one) (issue-weighs (after s es).shape x.partition h _ (process_of (after s es) (DataNode x.partition)))

    asked : sent_weight (ask_process (after s es).shape (next_name (after s es) carrier) (op_of x)
        (process_node (after s es) (DataNode x.partition)).process).step.sent ≤ (after s es).shape.m * 2
    asked = subst
        (λ (e : ℕ). sent_weight (ask_head (after s es).shape (next_name (after s es) carrier) (op_of x) e
        (process_of (after s es) (DataNode x.partition))
        (head_at (process_of (after s es) (DataNode x.partition)) e)).step.sent
        ≤ (after s es).shape.m * 2) (sym here) (decided (head_at (process_of (after s es) (DataNode x.partition)) x.partition) refl)
