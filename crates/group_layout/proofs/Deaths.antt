-- Only a failure adds a dead process to a group, and it adds one at most.
use Rattle.std.proofs.Common.{ℕ, zero, suc, ◌≡◌, ◌≢◌, ◌≤◌, ◌+◌, Bool, true, false, List, [], ◌∷◌, map, if◌then◌else◌, refl, sym, ap, ◌∙◌, arith}
use Rattle.std.specs.List.{range_with_len}
use Rattle.group_types.specs.Dimensions.{Dimensions}
use Rattle.group_types.specs.Lists.{at, put}
use Rattle.group_types.specs.Names.{index_of, process_at}
use Rattle.group_types.specs.declared.process.ProcessId.{ProcessId}
use Rattle.group_message.specs.declared.message.Message.{Message}
use Rattle.group_calls.specs.declared.event.Answer.{Answer}
use Rattle.group_calls.specs.declared.event.Event.{Event}
use Rattle.group_calls.specs.declared.event.Event.TheVariants.{Ask, Collect, Deliver, Fail, Flush, Trace}
use Rattle.group_run.specs.Applying.{head_at}
use Rattle.group_run.specs.Asking.{CallStep, ask_process, collect_from, fate_of}
use Rattle.group_run.specs.Process.{Node}
use Rattle.group_run.specs.Receiving.{receive}
use Rattle.group_run.specs.World.{DeliveryStep, World, all_change, dead_nodes, deliver_nodes, delivered, flush_process}
use Rattle.group_run.specs.World.{if_up, next_name, node_after, node_failed, nodes_told, opening, opening_node, process_node}
use Rattle.group_run.specs.World.{step, treated, unchanged, with_down, with_node}
use Rattle.law_moves.proofs.Events.{emptied-dead}
use Rattle.group_run.specs.Causes.{IsFailure}

-- one more for a word that is true
abbrev pub one-if : Bool → ℕ
one-if b = if b then 1 else 0

none-if : (b : Bool) → b ≡ false → one-if b ≡ 0
none-if b is = ap one-if is

-- a node that is put where one as dead stood
pub dead-put : (d : Node) → d.dead ≡ false → (nodes : List Node) (i : ℕ) (node : Node) → node.dead ≡ (at d nodes i).dead
    → dead_nodes (put d nodes i node) ≡ dead_nodes nodes
dead-put d lives [] zero node same = let none : one-if node.dead ≡ 0 = none-if node.dead (same ∙ lives) in omega (arith, none)
dead-put d lives [] (suc i) node same =
    let none : one-if d.dead ≡ 0 = none-if d.dead lives in
    let rest : dead_nodes (put d [] i node) ≡ 0 = dead-put d lives [] i node same in
    omega (arith, none, rest)
dead-put d lives (x ∷ xs) zero node same = ap (λ (b : Bool). one-if b + dead_nodes xs) same
dead-put d lives (x ∷ xs) (suc i) node same = ap (λ (n : ℕ). one-if x.dead + n) (dead-put d lives xs i node same)

at-most-one : (b : Bool) → one-if b ≤ 1
at-most-one true = omega arith
at-most-one false = omega arith

-- any node that is put
pub dead-put-any : (d : Node) → d.dead ≡ false → (nodes : List Node) (i : ℕ) (node : Node) → dead_nodes (put d nodes i node) ≤ suc (dead_nodes nodes)
dead-put-any d lives [] zero node = let one = at-most-one node.dead in omega (arith, one)
dead-put-any d lives [] (suc i) node =
    let none : one-if d.dead ≡ 0 = none-if d.dead lives in
    let rest : dead_nodes (put d [] i node) ≤ 1 = dead-put-any d lives [] i node in
    omega (arith, none, rest)
dead-put-any d lives (x ∷ xs) zero node = let one = at-most-one node.dead in omega (arith, one)
dead-put-any d lives (x ∷ xs) (suc i) node = let rest = dead-put-any d lives xs i node in omega (arith, rest)

-- another node is as dead as before
dead-at : (d e : Node) → d.dead ≡ false → e.dead ≡ false → (nodes : List Node) (i k : ℕ) (x : Node)
    → x.dead ≡ (at d nodes i).dead → (at e (put d nodes i x) k).dead ≡ (at e nodes k).dead
dead-at d e dl el [] zero zero x same = same ∙ dl ∙ sym el
dead-at d e dl el [] zero (suc k) x same = refl
dead-at d e dl el [] (suc i) zero x same = dl ∙ sym el
dead-at d e dl el [] (suc i) (suc k) x same = dead-at d e dl el [] i k x same
dead-at d e dl el (y ∷ ys) zero zero x same = same
dead-at d e dl el (y ∷ ys) zero (suc k) x same = refl
dead-at d e dl el (y ∷ ys) (suc i) zero x same = refl
dead-at d e dl el (y ∷ ys) (suc i) (suc k) x same = dead-at d e dl el ys i k x same

dead-told : (down : Bool) (nodes : List Node) → dead_nodes (map (with_down down) nodes) ≡ dead_nodes nodes
dead-told down [] = refl
dead-told down (x ∷ xs) = ap (λ (n : ℕ). one-if x.dead + n) (dead-told down xs)

-- nobody is dead at the start
dead-opening : (s : Dimensions) (xs : List ℕ) → dead_nodes (map (λ x. opening_node s (process_at s x)) xs) ≡ 0
dead-opening s [] = refl
dead-opening s (x ∷ xs) = let rest = dead-opening s xs in omega (arith, rest)

pub none-dead : (s : Dimensions) → dead_nodes (opening s).nodes ≡ 0
none-dead s = dead-opening s (range_with_len 0 (s.k + s.m))

treated-dead : (s : Dimensions) (down dead : Bool) (node : Node) (call : CallStep) → (if_up down dead node (treated s node call)).node.dead ≡ node.dead
treated-dead s true dead node call = refl
treated-dead s false true node call = refl
treated-dead s false false node call = refl

unchanged-dead : (down dead : Bool) (node : Node) (answer : Answer) → (if_up down dead node (unchanged answer node)).node.dead ≡ node.dead
unchanged-dead true dead node answer = refl
unchanged-dead false true node answer = refl
unchanged-dead false false node answer = refl

sender-dead : (s : Dimensions) (down dead : Bool) (from to : ProcessId) (a b : Node) (link : List Message)
    → (delivered down dead s from to a b link).sender.dead ≡ a.dead
sender-dead s true dead from to a b link = refl
sender-dead s false true from to a b link = refl
sender-dead s false false from to a b [] = refl
sender-dead s false false from to a b (m ∷ rest) = refl

receiver-dead : (s : Dimensions) (down dead : Bool) (from to : ProcessId) (a b : Node) (link : List Message)
    → (delivered down dead s from to a b link).receiver.node.dead ≡ b.dead
receiver-dead s true dead from to a b link = refl
receiver-dead s false true from to a b link = refl
receiver-dead s false false from to a b [] = refl
receiver-dead s false false from to a b (m ∷ rest) = emptied-dead s m (node_after s (receive s from m b.process) b)

-- an event that is no failure
pub dead-step : (w : World) (e : Event) → ¬ (IsFailure e) → dead_nodes (step w e).world.nodes ≡ dead_nodes w.nodes
dead-step w (Fail p keep) other = absurd (other tt)
dead-step w (Ask caller op p) other = dead-put (opening_node w.shape p) refl w.nodes (index_of w.shape p) _
    (treated-dead w.shape (process_node w p).down (process_node w p).dead (process_node w p)
    (ask_process w.shape (next_name w caller) op (process_node w p).process))
dead-step w (Collect caller call p) other = dead-put (opening_node w.shape p) refl w.nodes (index_of w.shape p) _
    (treated-dead w.shape (process_node w p).down (process_node w p).dead (process_node w p)
    (collect_from caller call (process_node w p).process (range_with_len 0 w.shape.k)))
dead-step w (Flush p) other = dead-put (opening_node w.shape p) refl w.nodes (index_of w.shape p) _
    (treated-dead w.shape (process_node w p).down (process_node w p).dead (process_node w p) (flush_process w.shape (process_node w p).process))
dead-step w (Trace caller call d p) other = dead-put (opening_node w.shape p) refl w.nodes (index_of w.shape p) _
    (unchanged-dead (process_node w p).down (process_node w p).dead (process_node w p)
    (fate_of w.shape caller call d.0 (process_node w p).process (head_at (process_node w p).process d.0)))
dead-step w (Deliver from to) other =
    let a : Node = process_node w from in
    let b : Node = process_node w to in
    let link : List Message = at [] a.links (index_of w.shape to) in
    let both : DeliveryStep = deliver_nodes w.shape from to a b in
    let sends : both.sender.dead ≡ a.dead = sender-dead w.shape b.down b.dead from to a b link in
    let takes : both.receiver.node.dead ≡ b.dead = receiver-dead w.shape b.down b.dead from to a b link in
    let nodes : List Node = with_node w.shape from both.sender w.nodes in
    dead-put (opening_node w.shape to) refl nodes (index_of w.shape to) both.receiver.node
    (takes ∙ sym (dead-at (opening_node w.shape from) (opening_node w.shape to) refl refl w.nodes
    (index_of w.shape from) (index_of w.shape to) both.sender sends))
    ∙ dead-put (opening_node w.shape from) refl w.nodes (index_of w.shape from) both.sender sends

-- a failure
pub dead-fail : (w : World) (p : ProcessId) (keep : ℕ) → dead_nodes (step w (Fail p keep)).world.nodes ≤ suc (dead_nodes w.nodes)
dead-fail w p keep = by (process_node w p).dead where
  cut : List Node
  cut = with_node w.shape p (node_failed w.shape p keep (process_node w p)) w.nodes

  by : (dead : Bool) → dead_nodes (all_change dead w.shape w.nodes p keep).nodes ≤ suc (dead_nodes w.nodes)
  by true = omega arith
  by false =
      let few : dead_nodes cut ≤ suc (dead_nodes w.nodes) = dead-put-any (opening_node w.shape p) refl w.nodes
      (index_of w.shape p) (node_failed w.shape p keep (process_node w p)) in
      let told : dead_nodes (nodes_told w.shape.m cut) ≡ dead_nodes cut = dead-told _ cut in
      omega (arith, few, told)

-- an event that is no failure leaves each node as dead as it was
pub same-dead : (w : World) (e : Event) → ¬ (IsFailure e) → (d : Node) → d.dead ≡ false → (k : ℕ) → (at d (step w e).world.nodes k).dead ≡ (at d w.nodes k).dead
same-dead w (Fail p keep) other d lives k = absurd (other tt)
same-dead w (Ask caller op p) other d lives k = dead-at (opening_node w.shape p) d refl lives w.nodes (index_of w.shape p) k _
    (treated-dead w.shape (process_node w p).down (process_node w p).dead (process_node w p)
    (ask_process w.shape (next_name w caller) op (process_node w p).process))
same-dead w (Collect caller call p) other d lives k = dead-at (opening_node w.shape p) d refl lives w.nodes (index_of w.shape p) k _
    (treated-dead w.shape (process_node w p).down (process_node w p).dead (process_node w p)
    (collect_from caller call (process_node w p).process (range_with_len 0 w.shape.k)))
same-dead w (Flush p) other d lives k = dead-at (opening_node w.shape p) d refl lives w.nodes (index_of w.shape p) k _
    (treated-dead w.shape (process_node w p).down (process_node w p).dead (process_node w p) (flush_process w.shape (process_node w p).process))
same-dead w (Trace caller call x p) other d lives k = dead-at (opening_node w.shape p) d refl lives w.nodes (index_of w.shape p) k _
    (unchanged-dead (process_node w p).down (process_node w p).dead (process_node w p)
    (fate_of w.shape caller call x.0 (process_node w p).process (head_at (process_node w p).process x.0)))
same-dead w (Deliver from to) other d lives k =
    let a : Node = process_node w from in
    let b : Node = process_node w to in
    let link : List Message = at [] a.links (index_of w.shape to) in
    let both : DeliveryStep = deliver_nodes w.shape from to a b in
    let sends : both.sender.dead ≡ a.dead = sender-dead w.shape b.down b.dead from to a b link in
    let takes : both.receiver.node.dead ≡ b.dead = receiver-dead w.shape b.down b.dead from to a b link in
    let nodes : List Node = with_node w.shape from both.sender w.nodes in
    dead-at (opening_node w.shape to) d refl lives nodes (index_of w.shape to) k both.receiver.node
    (takes ∙ sym (dead-at (opening_node w.shape from) (opening_node w.shape to) refl refl w.nodes
    (index_of w.shape from) (index_of w.shape to) both.sender sends))
    ∙ dead-at (opening_node w.shape from) d refl lives w.nodes (index_of w.shape from) k both.sender sends

-- a failure leaves the others so
told-at : (down : Bool) (d : Node) (nodes : List Node) (k : ℕ) → (at d (map (with_down down) nodes) k).dead ≡ (at d nodes k).dead
told-at down d [] k = refl
told-at down d (x ∷ xs) zero = refl
told-at down d (x ∷ xs) (suc k) = told-at down d xs k

other-at : (d e : Node) → d.dead ≡ false → e.dead ≡ false → (nodes : List Node) (i k : ℕ) (x : Node) → k ≢ i
    → (at e (put d nodes i x) k).dead ≡ (at e nodes k).dead
other-at d e dl el [] zero zero x apart = absurd (apart refl)
other-at d e dl el [] zero (suc k) x apart = refl
other-at d e dl el [] (suc i) zero x apart = dl ∙ sym el
other-at d e dl el [] (suc i) (suc k) x apart = other-at d e dl el [] i k x (λ same. apart (ap suc same))
other-at d e dl el (y ∷ ys) zero zero x apart = absurd (apart refl)
other-at d e dl el (y ∷ ys) zero (suc k) x apart = refl
other-at d e dl el (y ∷ ys) (suc i) zero x apart = refl
other-at d e dl el (y ∷ ys) (suc i) (suc k) x apart = other-at d e dl el ys i k x (λ same. apart (ap suc same))

pub fail-dead : (w : World) (p : ProcessId) (keep : ℕ) (d : Node) → d.dead ≡ false → (k : ℕ) → k ≢ index_of w.shape p
    → (at d (step w (Fail p keep)).world.nodes k).dead ≡ (at d w.nodes k).dead
fail-dead w p keep d lives k apart = by (process_node w p).dead where
  cut : List Node
  cut = with_node w.shape p (node_failed w.shape p keep (process_node w p)) w.nodes

  by : (dead : Bool) → (at d (all_change dead w.shape w.nodes p keep).nodes k).dead ≡ (at d w.nodes k).dead
  by true = refl
  by false = told-at _ d cut k ∙ other-at (opening_node w.shape p) d refl lives w.nodes (index_of w.shape p) k
      (node_failed w.shape p keep (process_node w p)) apart

pub none-dead-at : (s : Dimensions) (d : Node) → d.dead ≡ false → (xs : List ℕ) (k : ℕ) → (at d (map (λ x. opening_node s (process_at s x)) xs) k).dead ≡ false
none-dead-at s d lives [] k = lives
none-dead-at s d lives (x ∷ xs) zero = refl
none-dead-at s d lives (x ∷ xs) (suc k) = none-dead-at s d lives xs k
