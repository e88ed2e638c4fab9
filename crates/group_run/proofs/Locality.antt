use Rattle.std.proofs.Common.{ℕ, zero, suc, ◌≡◌, ◌≢◌, ◌<◌, ◌≤◌, ◌+◌, Bool, true, false, nat_lt, List, [], ◌∷◌, length}
use Rattle.std.proofs.Common.{drop, map, ◌⊎◌, inl, inr, refl, sym, ap, subst, ◌∙◌, arith}
use Rattle.std.proofs.lemmas.Bool.{cases_eq}
use Rattle.std.proofs.lemmas.Grind.{common_steps}
use Rattle.std.specs.List.{range_with_len}
use Rattle.group_types.specs.Dimensions.{Dimensions}
use Rattle.group_types.specs.Lists.{at, put}
use Rattle.group_types.specs.Names.{index_of}
use Rattle.group_types.specs.declared.process.ProcessId.{ProcessId}
use Rattle.group_types.proofs.Lists.{at-put, at-put-within, length-put-le, at-map}
use Rattle.group_message.specs.declared.message.Message.{Message}
use Rattle.group_calls.specs.declared.event.Event.TheVariants.{Ask, Collect, Deliver, Fail, Flush, Trace}
use Rattle.group_run.specs.Locality.{occurrences, OthersStay, SenderKeeps, LosesFirst, LearnsDown, OthersAreTold, SameAt, NamesDecide}
use Rattle.group_run.specs.Process.{Node}
use Rattle.group_run.specs.World.{World, opening_node, GroupStep, one_changes, two_change, all_change, node_failed}
use Rattle.group_run.specs.World.{dead_nodes, with_node, with_link, with_down, delivered, NodeStep, DeliveryStep}
use Rattle.group_run.specs.World.{ask_node, collect_node, flush_node, trace_node, deliver_nodes, next_name, node_in}
use Rattle.group_run.specs.World.{process_node}

-- a number that never stands in a list isn't its first
pub times-first : (k x : ℕ) (xs : List ℕ) → occurrences k (x ∷ xs) ≡ 0 → k ≢ x
times-first k x xs none same = grind (arith, common_steps)

pub times-rest : (k x : ℕ) (xs : List ℕ) → occurrences k (x ∷ xs) ≡ 0 → occurrences k xs ≡ 0
times-rest k x xs none = omega arith

-- a number of a range stands there
pub times-range : (k a n : ℕ) → a ≤ k → k < a + n → occurrences k (range_with_len a n) ≢ 0
times-range k a zero low high none = absurd (omega arith)
times-range k a (suc n) low high none =
    let other : k ≢ a = times-first k a (range_with_len (a + 1) n) none in
    times-range k (a + 1) n (omega (arith, other)) (omega arith) (times-rest k a (range_with_len (a + 1) n) none)

one_stays : (w : World) (p : ProcessId) (t : NodeStep) (k : ℕ) (d : Node) → k < length w.nodes
    → occurrences k (index_of w.shape p ∷ []) ≡ 0 → at d (one_changes w p t).nodes k ≡ at d w.nodes k
one_stays w p t k d within none = at-put-within d (opening_node w.shape p) w.nodes (index_of w.shape p) k t.node
    (times-first k (index_of w.shape p) [] none) within

pub others_stay : OthersStay
others_stay w (Ask caller op p) k d size within none = one_stays w p (ask_node w.shape (next_name w caller) op (process_node w p)) k d within none
others_stay w (Collect caller call p) k d size within none = one_stays w p (collect_node w.shape caller call (process_node w p)) k d within none
others_stay w (Flush p) k d size within none = one_stays w p (flush_node w.shape (process_node w p)) k d within none
others_stay w (Trace caller call partition p) k d size within none =
    one_stays w p (trace_node w.shape caller call partition.0 (process_node w p)) k d within none
others_stay w (Fail p keep) k d size within none = absurd (times-range k 0 (w.shape.k + w.shape.m) (omega arith) (omega arith) none)
others_stay w (Deliver from to) k d size within none =
    let x = index_of w.shape from in
    let y = index_of w.shape to in
    let both : DeliveryStep = deliver_nodes w.shape from to (process_node w from) (process_node w to) in
    let nodes : List Node = with_node w.shape from both.sender w.nodes in
    at-put-within d (opening_node w.shape to) nodes y k both.receiver.node (times-first k y [] (times-rest k x (y ∷ []) none))
    (let grows = length-put-le (opening_node w.shape from) w.nodes x both.sender in omega arith)
    ∙ at-put-within d (opening_node w.shape from) w.nodes x k both.sender (times-first k x (y ∷ []) none) within

-- a delivery's sender loses the first message of the link, or nothing
loses : (w : World) (from to : ProcessId) (down dead : Bool) (sender receiver : Node) (link : List Message) → link ≡ at [] sender.links (index_of w.shape to)
    → LosesFirst w to sender (delivered down dead w.shape from to sender receiver link).sender
loses w from to true dead sender receiver link same = inl refl
loses w from to false true sender receiver link same = inl refl
loses w from to false false sender receiver [] same = inl refl
loses w from to false false sender receiver (m ∷ rest) same = inr (ap (λ (link : List Message). with_link w.shape to (drop 1 link) sender) same)

pub sender_keeps : SenderKeeps
sender_keeps w from to d other =
    let x = index_of w.shape from in
    let y = index_of w.shape to in
    let both : DeliveryStep = deliver_nodes w.shape from to (process_node w from) (process_node w to) in
    let nodes : List Node = with_node w.shape from both.sender w.nodes in
    let here : at d nodes x ≡ both.sender = at-put d (opening_node w.shape from) w.nodes x both.sender in
    let within : x < length nodes = put-within (opening_node w.shape from) w.nodes x both.sender in
    let after : at d (with_node w.shape to both.receiver.node nodes) x ≡ both.sender =
    at-put-within d (opening_node w.shape to) nodes y x both.receiver.node other within ∙ here in
    subst (λ (node : Node). LosesFirst w to (process_node w from) node) (sym after)
    (loses w from to (process_node w to).down (process_node w to).dead (process_node w from) (process_node w to)
    (at [] (process_node w from).links y) refl)
  where
    put-within : (e : Node) (xs : List Node) (i : ℕ) (y : Node) → i < length (put e xs i y)
    put-within e [] zero y = omega arith
    put-within e [] (suc i) y = let rest = put-within e [] i y in omega arith
    put-within e (x ∷ xs) zero y = omega arith
    put-within e (x ∷ xs) (suc i) y = let rest = put-within e xs i y in omega arith

-- a failure changes of another node only the word whether the group is down
pub others_are_told : OthersAreTold
others_are_told w p keep k d within other = by (process_node w p).dead where
  told_one : (nodes : List Node) (down : Bool) → k < length nodes → at d nodes k ≡ at d w.nodes k
      → LearnsDown (at d w.nodes k) (at d (map (with_down down) nodes) k)
  told_one nodes down inside same =
      let turned : at d (map (with_down down) nodes) k ≡ with_down down (at d w.nodes k) =
      at-map d d (with_down down) nodes k inside ∙ ap (with_down down) same in
      subst (λ (node : Node). LearnsDown (at d w.nodes k) node) (sym turned) refl

  by : (dead : Bool) → LearnsDown (at d w.nodes k) (at d (all_change dead w.shape w.nodes p keep).nodes k)
  by true = refl
  by false =
      let nodes : List Node = with_node w.shape p (node_failed w.shape p keep (process_node w p)) w.nodes in
      told_one nodes (nat_lt w.shape.m (dead_nodes nodes))
      (let grows = length-put-le (opening_node w.shape p) w.nodes (index_of w.shape p) (node_failed w.shape p keep (process_node w p)) in omega arith)
      (at-put-within d (opening_node w.shape p) w.nodes (index_of w.shape p) k (node_failed w.shape p keep (process_node w p)) other within)

-- a number that stands in a list of one is it
times-one : (k x : ℕ) → 0 < occurrences k (x ∷ []) → k ≡ x
times-one k x some = grind (arith, common_steps)

one_same : (w v : World) (p : ProcessId) (t u : NodeStep) (k : ℕ) (d : Node) → w.shape ≡ v.shape → t ≡ u
    → 0 < occurrences k (index_of w.shape p ∷ []) → SameAt d (one_changes w p t) (one_changes v p u) k
one_same w v p t u k d shape same some =
    let here : k ≡ index_of w.shape p = times-one k (index_of w.shape p) some in
    let there : k ≡ index_of v.shape p = here ∙ ap (λ (s : Dimensions). index_of s p) shape in
    let mine : at d (one_changes w p t).nodes k ≡ t.node = ap (at d (one_changes w p t).nodes) here
    ∙ at-put d (opening_node w.shape p) w.nodes (index_of w.shape p) t.node in
    let its : at d (one_changes v p u).nodes k ≡ u.node = ap (at d (one_changes v p u).nodes) there
    ∙ at-put d (opening_node v.shape p) v.nodes (index_of v.shape p) u.node in
    record {
      answer = ap (λ (x : NodeStep). x.answer) same;
      settled = ap (λ (x : NodeStep). x.settled) same;
      node = mine ∙ ap (λ (x : NodeStep). x.node) same ∙ sym its;
    }

times-two : (k x y : ℕ) → 0 < occurrences k (x ∷ y ∷ []) → k ≢ y → k ≡ x
times-two k x y some other = grind (arith, common_steps)

-- the node at an index named by a delivery, the receiver's or else the sender's
receiver_put : (w : World) (from to : ProcessId) (b : DeliveryStep) (k : ℕ) (d : Node) → k ≡ index_of w.shape to
    → at d (two_change w from to b).nodes k ≡ b.receiver.node
receiver_put w from to b k d here = ap (at d (two_change w from to b).nodes) here ∙ at-put d (opening_node w.shape to)
    (with_node w.shape from b.sender w.nodes) (index_of w.shape to) b.receiver.node

sender_put : (w : World) (from to : ProcessId) (b : DeliveryStep) (k : ℕ) (d : Node) → k < length w.nodes
    → k ≢ index_of w.shape to → k ≡ index_of w.shape from → at d (two_change w from to b).nodes k ≡ b.sender
sender_put w from to b k d within other here =
    let grows = length-put-le (opening_node w.shape from) w.nodes (index_of w.shape from) b.sender in
    at-put-within d (opening_node w.shape to) (with_node w.shape from b.sender w.nodes) (index_of w.shape to) k b.receiver.node other (omega arith)
    ∙ ap (at d (with_node w.shape from b.sender w.nodes)) here
    ∙ at-put d (opening_node w.shape from) w.nodes (index_of w.shape from) b.sender

two_same : (w v : World) (from to : ProcessId) (b c : DeliveryStep) (k : ℕ) (d : Node) → w.shape ≡ v.shape → b ≡ c → k < length w.nodes → k < length v.nodes
    → 0 < occurrences k (index_of w.shape from ∷ index_of w.shape to ∷ []) → (k ≡ index_of w.shape to) ⊎ (k ≢ index_of w.shape to)
    → at d (two_change w from to b).nodes k ≡ at d (two_change v from to c).nodes k
two_same w v from to b c k d shape same mine its some (inl here) =
    receiver_put w from to b k d here ∙ ap (λ (x : DeliveryStep). x.receiver.node) same
    ∙ sym (receiver_put v from to c k d (here ∙ ap (λ (s : Dimensions). index_of s to) shape))
two_same w v from to b c k d shape same mine its some (inr other) =
    let here = times-two k (index_of w.shape from) (index_of w.shape to) some other in
    sender_put w from to b k d mine other here ∙ ap (λ (x : DeliveryStep). x.sender) same
    ∙ sym (sender_put v from to c k d its (λ e. other (e ∙ sym (ap (λ (s : Dimensions). index_of s to) shape)))
    (here ∙ ap (λ (s : Dimensions). index_of s from) shape))

pub names_decide : NamesDecide
names_decide w v (Ask caller op p) k d same mine its some =
    one_same w v p _ _ k d same.0 (λ i. ask_node (same.0 i) (same.2 i) op (same.1 i)) some
names_decide w v (Collect caller call p) k d same mine its some =
    one_same w v p _ _ k d same.0 (λ i. collect_node (same.0 i) caller call (same.1 i)) some
names_decide w v (Flush p) k d same mine its some =
    one_same w v p _ _ k d same.0 (λ i. flush_node (same.0 i) (same.1 i)) some
names_decide w v (Trace caller call partition p) k d same mine its some =
    one_same w v p _ _ k d same.0 (λ i. trace_node (same.0 i) caller call partition.0 (same.1 i)) some
names_decide w v (Fail p keep) k d same mine its some =
    let made : all_change (process_node w p).dead w.shape w.nodes p keep ≡ all_change (process_node v p).dead v.shape v.nodes p
    keep = λ i. all_change (node_in (same.0 i) (same.1 i) p).dead (same.0 i) (same.1 i) p keep in
    record {
      answer = ap (λ (x : GroupStep). x.answer) made;
      settled = ap (λ (x : GroupStep). x.settled) made;
      node = ap (λ (x : GroupStep). at d x.nodes k) made;
    }
names_decide w v (Deliver from to) k d same mine its some =
    let both : deliver_nodes w.shape from to (process_node w from) (process_node w to) ≡ deliver_nodes v.shape from to
    (process_node v from) (process_node v to) = λ i. deliver_nodes (same.0 i) from to (same.1 i) (same.2 i) in
    record {
      answer = ap (λ (x : DeliveryStep). x.receiver.answer) both;
      settled = ap (λ (x : DeliveryStep). x.receiver.settled) both;
      node = two_same w v from to _ _ k d same.0 both mine its some (cases_eq k (index_of w.shape to));
    }
