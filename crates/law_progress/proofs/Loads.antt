-- The weight of what is on its way to living processes, and how a delivery changes it.
use Rattle.std.proofs.Common.{ℕ, zero, suc, ◌≡◌, ◌≢◌, ◌≤◌, ◌+◌, ◌⊎◌, inl, inr, Bool, true, false, List, [], ◌∷◌, ◌++◌}
use Rattle.std.proofs.Common.{length, map, if◌then◌else◌, refl, sym, ap, ◌∙◌, arith}
use Rattle.std.specs.Prelude.{sum_by}
use Rattle.std.proofs.lemmas.List.Sums.{sum_by-cons}
use Rattle.std.specs.List.{range_with_len}
use Rattle.group_types.specs.Dimensions.{Dimensions}
use Rattle.group_types.specs.Lists.{at}
use Rattle.group_types.specs.Names.{IsProcess, index_of, process_at, same_process}
use Rattle.group_types.specs.declared.process.ProcessId.{ProcessId}
use Rattle.group_types.proofs.Names.{index-process_at, same-cases, same-ne, same-refl}
use Rattle.membership.specs.Members.{knows_dead}
use Rattle.group_message.specs.declared.message.Message.{Message}
use Rattle.group_message.specs.declared.message.Message.TheVariants as tells
use Rattle.group_run.specs.Applying.{ProcessStep, Sent}
use Rattle.group_run.specs.Draining.{node_at}
use Rattle.group_run.specs.Process.{Node}
use Rattle.group_run.specs.Progress.{load_from, load_of, weight_of}
use Rattle.group_run.specs.World.{World, front_if, link_after, link_emptied, links_after, links_without, node_after, node_in, sent_to, with_node}
use Rattle.law_moves.proofs.Moves.{Popped}
use Rattle.law_moves.specs.State.{State, state_from}
use Rattle.law_moves.proofs.Reading.{at-indices, grown-is, link-sent, node-here, node-other}
use Rattle.law_bytes.proofs.Tokens.{everyone, sum_of}
use Rattle.law_bytes.proofs.Sums.{everyone-inside, everyone-once, only-here, only_at, sum-both, sum-le, sum-less, sum-only, sum-zero, within-everyone}
use Rattle.law_progress.proofs.Sending.{sent_weight}

-- the weight of messages
abbrev pub weights : List Message → ℕ
weights [] = 0
weights (m ∷ ms) = weight_of m + weights ms

pub weights-append : (a b : List Message) → weights (a ++ b) ≡ weights a + weights b
weights-append [] b = omega arith
weights-append (m ∷ ms) b = let rest = weights-append ms b in omega (arith, rest)

weights-sum : (ms : List Message) → sum_by weight_of ms ≡ weights ms
weights-sum [] = refl
weights-sum (m ∷ ms) = let one = sum_by-cons weight_of m ms in let rest = weights-sum ms in omega (arith, one, rest)

-- the weight in the link from p to q, where q lives
abbrev pub on_way : State → ProcessId → ProcessId → ℕ
on_way v p q = if v.dead q then 0 else weights (v.link p q)

-- the weight of what is on its way from a process to those that live, and of all
abbrev pub way_from : Dimensions → State → ProcessId → ℕ
way_from s v p = sum_of (everyone s) (on_way v p)

abbrev pub way_of : Dimensions → State → ℕ
way_of s v = sum_of (everyone s) (way_from s v)

-- a sum over indices is one over the processes at them
sums-same : (s : Dimensions) (f : ℕ → ℕ) (g : ProcessId → ℕ) → ((x : ℕ) → f x ≡ g (process_at s x)) → (a n : ℕ)
    → sum_by f (range_with_len a n) ≡ sum_of (map (process_at s) (range_with_len a n)) g
sums-same s f g same a zero = refl
sums-same s f g same a (suc n) =
    let one = sum_by-cons f a (range_with_len (a + 1) n) in
    let here = same a in
    let rest = sums-same s f g same (a + 1) n in
    omega (arith, one, here, rest)

pub load-is : (w : World) → load_of w ≡ way_of w.shape (state_from w.shape w.nodes [])
load-is w = sums-same w.shape (load_from w) (way_from w.shape v) from 0 (w.shape.k + w.shape.m) where
  v : State
  v = state_from w.shape w.nodes []

  link : (x y : ℕ)
      → (if (node_at w y).dead then 0 else sum_by weight_of (at [] (node_at w x).links y))
      ≡ on_way (state_from w.shape w.nodes []) (process_at w.shape x) (process_at w.shape y)
  link x y =
      ap (λ (n : ℕ). if (node_at w y).dead then 0 else n) (weights-sum (at [] (node_at w x).links y))
      ∙ ap (λ (i : ℕ). if (node_at w y).dead then 0 else weights (at [] (node_at w x).links i)) (sym (index-process_at w.shape y))

  from : (x : ℕ) → load_from w x ≡ way_from w.shape (state_from w.shape w.nodes []) (process_at w.shape x)
  from x =
      sums-same w.shape (λ y. if (node_at w y).dead then 0 else sum_by weight_of (at [] (node_at w x).links y))
      (on_way (state_from w.shape w.nodes []) (process_at w.shape x)) (link x) 0 (w.shape.k + w.shape.m)

-- what is sent weighs as much as what the processes get of it
front-weighs : (to q : ProcessId) (m : Message) (rest : List Message) → weights (front_if (same_process to q) m rest)
    ≤ only_at to (weight_of m) q + weights rest
front-weighs to q m rest = by (same-cases q to) where
  by : (q ≡ to) ⊎ (q ≢ to) → weights (front_if (same_process to q) m rest) ≤ only_at to (weight_of m) q + weights rest
  by (inl same) =
      let here = only-here to q (weight_of m) same in
      let is : weights (front_if (same_process to q) m rest) ≡ weight_of m + weights rest =
      ap (λ (b : Bool). weights (front_if b m rest)) (ap (same_process to) same ∙ same-refl to) in
      omega (arith, here, is)
  by (inr other) =
      let is : weights (front_if (same_process to q) m rest) ≡ weights rest =
      ap (λ (b : Bool). weights (front_if b m rest)) (same-ne to q (λ same. other (sym same))) in
      omega (arith, is)

pub sent-sum : (s : Dimensions) (sent : List Sent) → sum_of (everyone s) (λ q. weights (sent_to q sent)) ≤ sent_weight sent
sent-sum s [] = let none = sum-zero (everyone s) (λ q. 0) (λ q there. refl) in omega (arith, none)
sent-sum s (z ∷ zs) =
    let rest = sent-sum s zs in
    let first = sum-only (everyone s) z.to (weight_of z.message) (everyone-once s) in
    let split = sum-both (everyone s) (only_at z.to (weight_of z.message)) (λ q. weights (sent_to q zs)) in
    let whole = sum-le (everyone s) (λ q. only_at z.to (weight_of z.message) q + weights (sent_to q zs)) (λ q. weights (sent_to q (z ∷ zs)))
    (λ q there. front-weighs z.to q z.message (sent_to q zs)) in
    omega (arith, rest, first, split, whole)

-- a link has at most what was sent more
link-weighs : (b : Bool) (old sent : List Message) → weights (link_after b old sent) ≤ weights old + weights sent
link-weighs true old sent = omega arith
link-weighs false old sent = let is = ap weights (grown-is old sent) in let both = weights-append old sent in omega (arith, is, both)

module _ (s : Dimensions) where
  pub after-weighs : (t : ProcessStep) (node : Node) (q : ProcessId) → IsProcess s q
      → weights (at [] (node_after s t node).links (index_of s q)) ≤ weights (at [] node.links (index_of s q)) + weights (sent_to q t.sent)
  after-weighs t node q qin =
      let is = ap weights (link-sent s t.process.known t.sent node.links q qin) in
      let less = link-weighs (knows_dead t.process.known q) (at [] node.links (index_of s q)) (sent_to q t.sent) in
      omega (arith, is, less)

  -- and less, where one link is emptied
  emptied-weighs : (dead : ProcessId) (links : List (List Message)) (q : ProcessId) → IsProcess s q
      → weights (at [] (links_without s dead links) (index_of s q)) ≤ weights (at [] links (index_of s q))
  emptied-weighs dead links q qin =
      let is = ap weights (at-indices s [] (λ x. if same_process (process_at s x) dead then [] else at [] links x) q qin) in
      let less = by (same_process (process_at s (index_of s q)) dead) in
      omega (arith, is, less)
    where
      by : (b : Bool) → weights (if b then [] else at [] links (index_of s q)) ≤ weights (at [] links (index_of s q))
      by true = omega arith
      by false = omega arith

  pub received-weighs : (m : Message) (t : ProcessStep) (node : Node) (q : ProcessId) → IsProcess s q
      → weights (at [] (link_emptied s m (node_after s t node)).links (index_of s q)) ≤ weights (at [] node.links (index_of s q)) + weights (sent_to q t.sent)
  received-weighs (tells.Notice dead) t node q qin =
      let less = emptied-weighs dead (links_after s t.process.known t.sent node.links) q qin in
      let more = after-weighs t node q qin in
      omega (arith, less, more)
  received-weighs (tells.Update r d u stable) t node q qin = after-weighs t node q qin
  received-weighs (tells.Ack r d n) t node q qin = after-weighs t node q qin
  received-weighs (tells.Stable r d n) t node q qin = after-weighs t node q qin
  received-weighs (tells.Adopt r d base list) t node q qin = after-weighs t node q qin
  received-weighs (tells.ReadBlock session block rows) t node q qin = after-weighs t node q qin
  received-weighs (tells.Block session bytes n) t node q qin = after-weighs t node q qin
  received-weighs (tells.Mark session r block d n) t node q qin = after-weighs t node q qin
  received-weighs (tells.Row session bytes stamp) t node q qin = after-weighs t node q qin
  received-weighs (tells.Cease upto) t node q qin = after-weighs t node q qin

  -- the dead stay dead, and a link weighs at most so much more
  way-le : (v w : State) (x q : ProcessId) (c : ℕ) → (v.dead q ≡ true → w.dead q ≡ true)
      → weights (w.link x q) ≤ weights (v.link x q) + c → on_way w x q ≤ on_way v x q + c
  way-le v w x q c dead less = by (v.dead q) (w.dead q) dead where
    by : (a b : Bool) → (a ≡ true → b ≡ true) → (if b then 0 else weights (w.link x q)) ≤ (if a then 0 else weights (v.link x q)) + c
    by true true is = omega arith
    by false false is = omega (arith, less)
    by true false is = absurd (cc (is refl))
    by false true is = omega arith

  way-living : (v : State) (x q : ProcessId) → v.dead q ≡ false → on_way v x q ≡ weights (v.link x q)
  way-living v x q lives = ap (λ (b : Bool). if b then 0 else weights (v.link x q)) lives

  -- a message to a living process is taken out
  pub popped-weighs : (v u : State) (x p : ProcessId) (m : Message) → IsProcess s x → IsProcess s p → v.dead p ≡ false
      → Popped s v u x p m → way_of s u + weight_of m ≤ way_of s v
  popped-weighs v u x p m xin pin lives pops = sum-less (everyone s) (way_from s v) (way_from s u) x (weight_of m)
      (within-everyone s x xin) (λ y there. every y (everyone-inside s y there)) here where
        link : (y q : ProcessId) → IsProcess s y → IsProcess s q → on_way u y q ≤ on_way v y q
        link y q yin qin = let less = way-le v u y q 0 (λ dead. pops.dead q qin ∙ dead) (by (same-cases y x) (same-cases q p)) in omega (arith, less) where
          same : u.link y q ≡ v.link y q → weights (u.link y q) ≤ weights (v.link y q) + 0
          same is = let alike = ap weights is in omega (arith, alike)

          by : (y ≡ x) ⊎ (y ≢ x) → (q ≡ p) ⊎ (q ≢ p) → weights (u.link y q) ≤ weights (v.link y q) + 0
          by (inr other) _ = same (pops.links y q yin qin (inl other))
          by (inl is) (inr other) = same (pops.links y q yin qin (inr other))
          by (inl is) (inl there) =
              let first = ap weights pops.first in
              let a = ap (λ (z : ProcessId). weights (u.link z q)) is ∙ ap (λ (z : ProcessId). weights (u.link x z)) there in
              let b = ap (λ (z : ProcessId). weights (v.link z q)) is ∙ ap (λ (z : ProcessId). weights (v.link x z)) there in
              omega (arith, first, a, b)

        every : (y : ProcessId) → IsProcess s y → way_from s u y ≤ way_from s v y
        every y yin = sum-le (everyone s) (on_way v y) (on_way u y) (λ q there. link y q yin (everyone-inside s q there))

        here : way_from s u x + weight_of m ≤ way_from s v x
        here = sum-less (everyone s) (on_way v x) (on_way u x) p (weight_of m) (within-everyone s p pin) (λ q there. link x q xin (everyone-inside s q there))
            (let before = way-living v x p lives in let after = way-living u x p (pops.dead p pin ∙ lives) in
            let first = ap weights pops.first in omega (arith, before, after, first))

  -- the links of one process get heavier by so much, it may die, and nothing else changes
  pub record Adds (u w : State) (p : ProcessId) (c : ProcessId → ℕ) : Type 0 where
    pub dead : (q : ProcessId) → IsProcess s q → u.dead q ≡ true → w.dead q ≡ true
    pub here : (q : ProcessId) → IsProcess s q → weights (w.link p q) ≤ weights (u.link p q) + c q
    pub others : (x q : ProcessId) → IsProcess s x → IsProcess s q → x ≢ p → w.link x q ≡ u.link x q

  pub adds-weigh : (u w : State) (p : ProcessId) (c : ProcessId → ℕ) → Adds u w p c → way_of s w ≤ way_of s u + sum_of (everyone s) c
  adds-weigh u w p c adds =
      let all = sum-le (everyone s) (λ x. way_from s u x + only_at p total x) (way_from s w)
      (λ x there. every x (everyone-inside s x there) (same-cases x p)) in
      let both = sum-both (everyone s) (way_from s u) (only_at p total) in
      let one = sum-only (everyone s) p total (everyone-once s) in
      omega (arith, all, both, one)
    where
      total : ℕ
      total = sum_of (everyone s) c

      from-here : way_from s w p ≤ way_from s u p + total
      from-here =
          let all = sum-le (everyone s) (λ q. on_way u p q + c q) (on_way w p)
          (λ q there. way-le u w p q (c q) (adds.dead q (everyone-inside s q there)) (adds.here q (everyone-inside s q there))) in
          let both = sum-both (everyone s) (on_way u p) c in
          omega (arith, all, both)

      every : (x : ProcessId) → IsProcess s x → (x ≡ p) ⊎ (x ≢ p) → way_from s w x ≤ way_from s u x + only_at p total x
      every x xin (inl is) =
          let only = only-here p x total is in
          let a = ap (way_from s w) is in
          let b = ap (way_from s u) is in
          let less = from-here in
          omega (arith, only, a, b, less)
      every x xin (inr other) =
          let less = sum-le (everyone s) (on_way u x) (on_way w x) (λ q there.
          let alike = ap weights (adds.others x q xin (everyone-inside s q there) other) in
          let one = way-le u w x q 0 (adds.dead q (everyone-inside s q there)) (omega (arith, alike)) in
          omega (arith, one)) in
          omega (arith, less)

  -- a node's links get heavier
  pub node-adds : (nodes : List Node) (p : ProcessId) (new : Node) (c : ProcessId → ℕ) → length nodes ≡ s.k + s.m → IsProcess s p
      → new.dead ≡ (node_in s nodes p).dead
      → ((q : ProcessId) → IsProcess s q → weights (at [] new.links (index_of s q)) ≤ weights (at [] (node_in s nodes p).links (index_of s q)) + c q)
      → Adds (state_from s nodes []) (state_from s (with_node s p new nodes) []) p c
  node-adds nodes p new c size pin same more = record {
    dead = λ q qin dead. by q qin dead (same-cases q p);
    here = λ q qin. let now = ap (λ (n : Node). weights (at [] n.links (index_of s q))) here in let less = more q qin in omega (arith, now, less);
    others = λ x q xin qin other. ap (λ (n : Node). at [] n.links (index_of s q)) (there x xin other);
  } where
    here : node_in s (with_node s p new nodes) p ≡ new
    here = node-here s nodes p new

    there : (q : ProcessId) → IsProcess s q → q ≢ p → node_in s (with_node s p new nodes) q ≡ node_in s nodes q
    there q qin other = node-other s nodes p q new pin qin other size

    by : (q : ProcessId) → IsProcess s q → (node_in s nodes q).dead ≡ true → (q ≡ p) ⊎ (q ≢ p) → (node_in s (with_node s p new nodes) q).dead ≡ true
    by q qin dead (inr other) = ap (λ (n : Node). n.dead) (there q qin other) ∙ dead
    by q qin dead (inl is) =
        ap (λ (z : ProcessId). (node_in s (with_node s p new nodes) z).dead) is ∙ ap (λ (n : Node). n.dead) here ∙ same
        ∙ ap (λ (z : ProcessId). (node_in s nodes z).dead) (sym is) ∙ dead
