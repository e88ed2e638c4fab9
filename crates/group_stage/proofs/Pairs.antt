-- A delivery: the two nodes in hand treat it as the machine does, and so the call is the event.
use Rattle.std.proofs.Common.{ℕ, ◌≡◌, ◌≢◌, ◌<◌, ◌+◌, ◌-◌, List, [], ◌∷◌, ◌++◌, length, map, refl, sym, ap, subst, ◌∙◌, arith}
use Rattle.std.specs.Prelude.{Bool, Option, None, true, false}
use Rattle.group_types.specs.Dimensions.{Dimensions, processes_of}
use Rattle.group_types.specs.Lists.{at, put}
use Rattle.group_types.specs.Names.{IsProcess, index_of, process_at}
use Rattle.group_types.specs.declared.process.ProcessId.{ProcessId}
use Rattle.group_types.proofs.Lists.{at-put, at-put-within, length-put}
use Rattle.group_types.proofs.Names.{index-below, index-one}
use Rattle.group_message.specs.declared.message.Message.{Message}
use Rattle.group_calls.specs.declared.event.Answer.{Answer}
use Rattle.group_calls.specs.declared.event.Event.{Event}
use Rattle.group_calls.specs.declared.event.Event.TheVariants.{Deliver}
use Rattle.group_run.specs.Headline.{IsRun, MayCome}
use Rattle.group_run.specs.Locality.{occurrences}
use Rattle.group_run.specs.Process.{Node, Process}
use Rattle.group_run.specs.World.{DeliveryStep, GroupStep, World, after, deliver_nodes, group_step, names, opening, opening_node, process_node, two_change}
use Rattle.group_node.specs.Delivering.{Comes}
use Rattle.group_node.specs.Standing.{NodeStanding}
use Rattle.group_node.specs.Steps.{made}
use Rattle.group_node.specs.declared.node.NodeOut.{NodeOut}
use Rattle.group_core.specs.Pairs.{Delivered}
use Rattle.group_core.specs.Runs.{HasRun}
use Rattle.group_core.proofs.Known.{first-comes}
use Rattle.group_core.proofs.Runs as core_runs
use Rattle.group_core.proofs.Schedules.{has-run, many-after, node-is, shape-is}
use Rattle.group_stage.specs.Conditions.{CanFinishTwo, InHand, IsIdle}
use Rattle.group_stage.specs.Ended.{Ended, WasUp}
use Rattle.group_stage.specs.Pairing.{CanDeliver, one_of, other_of}
use Rattle.group_stage.specs.Places.{slot_of}
use Rattle.group_stage.specs.Schedules.{answer_at, ask_by, standing_at}
use Rattle.group_stage.specs.Steps.{Knows, Sat}
use Rattle.group_stage.specs.Views.{asks_by, begun, committed, released, with_met, with_node_held}
use Rattle.group_stage.specs.declared.answer.StageAnswer.TheVariants.{Busy, Made}
use Rattle.group_stage.specs.declared.view.Plan.{Plan}
use Rattle.group_stage.specs.declared.view.View.{View}
use Rattle.group_stage.proofs.Hands.{up-at}
use Rattle.group_stage.proofs.Releasing.{tally-append, tally-else}
use Rattle.group_stage.proofs.Sums.{times-here}
use Rattle.law_answers.proofs.Entries.{after-more}
use Rattle.group_stage.proofs.Runs.{run-more}

-- an event of two processes, which the caller of this view may make
pub record IsTwo (s : Dimensions) (v : View) (e : Event) (p q : ℕ) : Type 0 where
  pub named : (x : ℕ) → occurrences x (names s e) ≡ occurrences x (q ∷ p ∷ [])
  pub own : (c : ℕ) → occurrences c v.numbers ≡ 0 → ask_by c e ≡ 0
  pub may : (w : World) → w.shape ≡ s → ((c : ℕ) → 0 < occurrences c v.numbers → at 0 w.asked c ≡ asks_by c v.made) → MayCome w e

-- the view with both nodes in hand
abbrev pub two_held : View → Event → ℕ → NodeStanding → ℕ → NodeStanding → View
two_held v e p y q z = with_node_held (with_node_held (begun e v) p y) q z

-- the nodes treat it as the machine does, with the machine's answer
abbrev pub TreatsTwo : View → Event → ℕ → NodeStanding → ℕ → NodeStanding → NodeStanding → NodeStanding → Answer → Type 0
TreatsTwo v e p y q z first second a = (es : List Event) → Knows es (two_held v e p y q z)
    → (first ≡ standing_at v.shape (es ++ e ∷ []) p) × (second ≡ standing_at v.shape (es ++ e ∷ []) q) × (a ≡ answer_at v.shape es e)

module _ (s : Dimensions) (es : List Event) (run : IsRun s es) (from to : ProcessId) (fin : IsProcess s from)
    (tin : IsProcess s to) (apart : from ≢ to) (t : DeliveryStep)
    (is : group_step (after s es) (Deliver from to) ≡ two_change (after s es) from to t) where
  w : World
  w = after s es

  put_from : List Node
  put_from = put (opening_node s from) (after s es).nodes (index_of s from) t.sender

  nodes-are : (after s (es ++ Deliver from to ∷ [])).nodes ≡ put (opening_node s to)
      (put (opening_node s from) (after s es).nodes (index_of s from) t.sender) (index_of s to) t.receiver.node
  nodes-are =
      let shape = shape-is s es in
      ap (λ (v : World). v.nodes) (after-more (opening s) es (Deliver from to)) ∙ ap (λ (g : GroupStep). g.nodes) is
      ∙ (λ i. put (opening_node (shape i) to)
      (put (opening_node (shape i) from) (after s es).nodes (index_of (shape i) from) t.sender)
      (index_of (shape i) to) t.receiver.node)

  many : length (put (opening_node s from) (after s es).nodes (index_of s from) t.sender) ≡ s.k + s.m
  many = let low = index-below s from fin in let size = many-after s es run in
      length-put (opening_node s from) (after s es).nodes (index_of s from) t.sender (omega (arith, low, size)) ∙ size

  other : index_of s from ≢ index_of s to
  other same = apart (index-one s from to fin tin same)

  pub sender-stands : standing_at s (es ++ Deliver from to ∷ []) (index_of s from) ≡ record { shape = s; node = t.sender }
  sender-stands =
      let x : ℕ = index_of s from in
      let d : Node = opening_node s (process_at s x) in
      ap (λ (n : Node). record { shape = s; node = n })
      (ap (λ (ns : List Node). at d ns x) nodes-are
      ∙ at-put-within d (opening_node s to) (put (opening_node s from) (after s es).nodes x t.sender) (index_of s to) x
      t.receiver.node other (let low = index-below s from fin in let size = many in omega (arith, low, size))
      ∙ at-put d (opening_node s from) (after s es).nodes x t.sender)

  pub receiver-stands : standing_at s (es ++ Deliver from to ∷ []) (index_of s to) ≡ record { shape = s; node = t.receiver.node }
  receiver-stands =
      let x : ℕ = index_of s to in
      let d : Node = opening_node s (process_at s x) in
      ap (λ (n : Node). record { shape = s; node = n })
      (ap (λ (ns : List Node). at d ns x) nodes-are
      ∙ at-put d (opening_node s to) (put (opening_node s from) (after s es).nodes (index_of s from) t.sender) x
      t.receiver.node)

  pub delivery-answer : answer_at s es (Deliver from to) ≡ t.receiver.answer
  delivery-answer = ap (λ (g : GroupStep). g.answer) is

-- what is in hand stands as in the run, sender and receiver
module _ (s : Dimensions) (es : List Event) (run : IsRun s es) (from to : ProcessId) (fin : IsProcess s from)
    (tin : IsProcess s to) (apart : from ≢ to) (sender receiver : NodeStanding)
    (sent : sender ≡ standing_at s es (index_of s from)) (received : receiver ≡ standing_at s es (index_of s to)) where
  has : HasRun (after s es)
  has = has-run s es run

  shape : (after s es).shape ≡ s
  shape = shape-is s es

  fin' : IsProcess (after s es).shape from
  fin' = subst (λ (t : Dimensions). IsProcess t from) (sym shape) fin

  tin' : IsProcess (after s es).shape to
  tin' = subst (λ (t : Dimensions). IsProcess t to) (sym shape) tin

  sender-node : sender.node ≡ process_node (after s es) from
  sender-node = ap (λ (z : NodeStanding). z.node) sent ∙ node-is s es from fin

  receiver-node : receiver.node ≡ process_node (after s es) to
  receiver-node = ap (λ (z : NodeStanding). z.node) received ∙ node-is s es to tin

  sender-name : sender.node.process.name ≡ from
  sender-name = ap (λ (n : Node). n.process.name) sender-node ∙ core_runs.named (after s es) has from fin'

  receiver-name : receiver.node.process.name ≡ to
  receiver-name = ap (λ (n : Node). n.process.name) receiver-node ∙ core_runs.named (after s es) has to tin'

  receiver-shape : receiver.shape ≡ (after s es).shape
  receiver-shape = ap (λ (z : NodeStanding). z.shape) received ∙ sym shape

  same-shapes : sender.shape ≡ receiver.shape
  same-shapes = ap (λ (z : NodeStanding). z.shape) sent ∙ sym (ap (λ (z : NodeStanding). z.shape) received)

  comes : receiver.node.down ≡ false → receiver.node.dead ≡ false → (m : Message) (rest : List Message)
      → at [] sender.node.links (index_of receiver.shape receiver.node.process.name) ≡ m ∷ rest
      → Comes receiver.shape sender.node.process.name m receiver.node.process
  comes up lives m rest first =
      let named = core_runs.named (after s es) has to tin' in
      let link : at [] (process_node (after s es) from).links (index_of (after s es).shape to) ≡ m ∷ rest
      = (λ i. at [] ((sym sender-node) i).links (index_of ((sym receiver-shape) i) ((sym receiver-name) i))) ∙ first in
      let all = first-comes (after s es) has from to m rest fin' tin' apart named
      (ap (λ (n : Node). n.down) (sym receiver-node) ∙ up) (ap (λ (n : Node). n.dead) (sym receiver-node) ∙ lives)
      link in
      let at_shape : Comes receiver.shape from m (process_node (after s es) to).process =
      subst (λ (t : Dimensions). Comes t from m (process_node (after s es) to).process) (sym receiver-shape) all in
      let by_name : Comes receiver.shape sender.node.process.name m (process_node (after s es) to).process =
      subst (λ (x : ProcessId). Comes receiver.shape x m (process_node (after s es) to).process) (sym sender-name)
      at_shape in
      subst (λ (x : Process). Comes receiver.shape sender.node.process.name m x) (sym (ap (λ (n : Node). n.process) receiver-node)) by_name

  -- what comes may come
  can-deliver : CanDeliver sender receiver
  can-deliver = record { same = same-shapes; comes = comes }

  -- what the nodes made is what the machine makes
  pub delivered-as : (t : DeliveryStep) → deliver_nodes receiver.shape sender.node.process.name receiver.node.process.name sender.node receiver.node ≡ t
      → group_step (after s es) (Deliver from to) ≡ two_change (after s es) from to t
  delivered-as t is = ap (two_change (after s es) from to)
      ((λ i. deliver_nodes ((sym receiver-shape) i) ((sym sender-name) i) ((sym receiver-name) i) ((sym sender-node) i) ((sym receiver-node) i)) ∙ is)

-- the two nodes after a delivery, the sender's and the receiver's
pub delivery-treats : (s : Dimensions) (es : List Event) (run : IsRun s es) (from to : ProcessId) → IsProcess s from
    → IsProcess s to → from ≢ to → (sender receiver sender' receiver' : NodeStanding) (out : NodeOut)
    → sender ≡ standing_at s es (index_of s from) → receiver ≡ standing_at s es (index_of s to) → Delivered sender receiver sender' receiver' out
    → (sender' ≡ standing_at s (es ++ Deliver from to ∷ []) (index_of s from))
    × (receiver' ≡ standing_at s (es ++ Deliver from to ∷ []) (index_of s to))
    × (out.answer ≡ answer_at s es (Deliver from to))
delivery-treats s es run from to fin tin apart sender receiver sender' receiver' out sent received is =
    let t : DeliveryStep = record { sender = sender'.node; receiver = made receiver'.node out } in
    let step = delivered-as s es run from to fin tin apart sender receiver sent received t is.step in
    let a : sender'.shape ≡ s = is.sender_shape ∙ ap (λ (z : NodeStanding). z.shape) sent in
    let b : receiver'.shape ≡ s = is.receiver_shape ∙ ap (λ (z : NodeStanding). z.shape) received in (
      (λ i. record { shape = a i; node = sender'.node }) ∙ sym (sender-stands s es run from to fin tin apart t step),
      (λ i. record { shape = b i; node = receiver'.node }) ∙ sym (receiver-stands s es run from to fin tin apart t step),
      sym (delivery-answer s es run from to fin tin apart t step),
    )

-- what is in hand can be finished
pub can-finish-two : (plan : Plan) (v : View) (e : Event) (p q : ℕ) (y z first second : NodeStanding) (a : Answer)
    (m m' : Sat) (slots : List (ℕ × Option NodeStanding)) → IsIdle (v, slots) → v.shape ≡ plan.shape
    → p < processes_of plan.shape → q < processes_of plan.shape → IsTwo v.shape v e p q → (fs : List Event)
    × InHand (begun e v) p slots y m fs → (es : List Event) × InHand m.0 q m.1 z m' es
    → TreatsTwo v e p y q z first second a → CanFinishTwo plan m' p q first second
can-finish-two plan v e p q y z first second a m m' slots ready shape low high two took taken treats =
    let ones : IsTwo plan.shape v e p q = subst (λ (s : Dimensions). IsTwo s v e p q) shape two in
    let u : View = two_held v e p y q z in
    let before : m ≡ (with_node_held (begun e v) p y, (slot_of p, None) ∷ []) = took.1.seat
    ∙ (λ i. (with_node_held (begun e v) p y, (slot_of p, None) ∷ ready.slots i)) in
    let seat : m' ≡ (u, (slot_of q, None) ∷ (slot_of p, None) ∷ []) =
    taken.1.seat ∙ ap (λ (x : Sat). (with_node_held x.0 q z, (slot_of q, None) ∷ x.1)) before in
    subst (λ (x : Sat). CanFinishTwo plan x p q first second) (sym seat) (record {
      old = y;
      next = z;
      within = low;
      next_within = high;
      can = record {
        part = ready.part;
        due = refl;
        holds = λ x below named.
            let none_else : map (λ (h : ℕ × NodeStanding). h.0) v.held ≡ [] = ap (map (λ (h : ℕ × NodeStanding). h.0)) ready.idle in
            let all : occurrences x (q ∷ p ∷ map (λ (h : ℕ × NodeStanding). h.0) v.held) ≡ occurrences x (q ∷ p ∷ []) =
            ap (λ (l : List ℕ). occurrences x (q ∷ p ∷ l)) none_else in
            let same = ones.named x in
            omega (arith, named, same, all);
        own = ones.own;
        may = ones.may;
      };
      held = ap (λ (hs : List (ℕ × NodeStanding)). (q, z) ∷ (p, y) ∷ hs) ready.idle;
      slot = refl;
      treated = λ es knows. (treats es knows).0;
      next_treated = λ es knows. (treats es knows).1;
    })

-- and is the event then
pub made-ended-two : (v : View) (e : Event) (p q : ℕ) (y z first second : NodeStanding) (a : Answer) (m m' w : Sat)
    (slots : List (ℕ × Option NodeStanding)) → IsIdle (v, slots) → IsTwo v.shape v e p q
    → (fs : List Event) × InHand (begun e v) p slots y m fs → (es : List Event) × InHand m.0 q m.1 z m' es → TreatsTwo v e p y q z first second a
    → (es : List Event) × Knows es m'.0 × ((f : ℕ) × (g : ℕ) × (w ≡ (released (released (committed es m'.0) q f) p g, []))) → Ended e v (Made a) w.0
made-ended-two v e p q y z first second a m m' w slots ready two took taken treats fin =
    let es = fin.0 in
    let u : View = two_held v e p y q z in
    let view : m'.0 ≡ u = ap (λ (x : Sat). x.0) taken.1.seat ∙ ap (λ (x : Sat). with_node_held x.0 q z) took.1.seat in
    let knows : Knows es u = subst (Knows es) view fin.1 in
    let f : ℕ = fin.2.0 in
    let g : ℕ = fin.2.1 in
    let after_all : w.0 ≡ released (released (committed es u) q f) p g = ap (λ (x : Sat). x.0) fin.2.2
    ∙ ap (λ (x : View). released (released (committed es x) q f) p g) view in
    let answer : a ≡ answer_at v.shape es e = (treats es knows).2 in
    subst (λ (x : View). Ended e v (Made a) x) (sym after_all) (
      record {
        shape = refl;
        parts = refl;
        numbers = refl;
        calls = refl;
        idle = ap (λ (hs : List (ℕ × NodeStanding)). map (λ (h : ℕ × NodeStanding). (h.0, standing_at v.shape (es ++ e ∷ []) h.0)) hs) ready.idle;
      },
      (
        es,
        record {
          run = run-more v.shape es e knows.run (two.may (after v.shape es) (shape-is v.shape es) knows.asked);
          seen = knows.seen;
          earlier = knows.made;
          position = knows.asked;
          answer = answer;
          made = ap (λ (x : Answer). v.made ++ record { number = length es; event = e; answer = x } ∷ []) (sym answer);
          after = refl;
          met = refl;
        },
      ),
    )

pub deliver-may : (s : Dimensions) (from to : ProcessId) → IsProcess s from → IsProcess s to → from ≢ to → (w : World)
    → w.shape ≡ s → MayCome w (Deliver from to)
deliver-may s from to fin tin apart w shape = (
  subst (λ (t : Dimensions). IsProcess t from) (sym shape) fin,
  subst (λ (t : Dimensions). IsProcess t to)
      (sym shape) tin,
  apart,
)

-- from a node to one behind it, or turned
pub is-two : (up : Bool) (v : View) (from to : ProcessId) (p q : ℕ) → IsProcess v.shape from → IsProcess v.shape to
    → from ≢ to → p ≡ index_of v.shape (one_of up from to) → q ≡ index_of v.shape (other_of up from to)
    → IsTwo v.shape v (Deliver from to) p q
is-two true v from to p q fin tin apart a b = record {
  named = λ x. let same : occurrences x (index_of v.shape from ∷ index_of v.shape to ∷ []) ≡ occurrences x (p ∷ q ∷ []) =
      λ i. occurrences x ((sym a) i ∷ (sym b) i ∷ []) in omega (arith, same);
  own = λ c no. refl;
  may = λ w shape known. deliver-may v.shape from to fin tin apart w shape;
}
is-two false v from to p q fin tin apart a b = record {
  named = λ x. (λ i. occurrences x ((sym b) i ∷ (sym a) i ∷ []));
  own = λ c no. refl;
  may = λ w shape known. deliver-may v.shape from to fin tin apart w shape;
}

pub treats-two : (up : Bool) (v : View) (from to : ProcessId) (p q : ℕ) (y z first second : NodeStanding)
    (out : NodeOut) → IsProcess v.shape from → IsProcess v.shape to → from ≢ to
    → p ≡ index_of v.shape (one_of up from to) → q ≡ index_of v.shape (other_of up from to)
    → Delivered (one_of up y z) (other_of up y z) (one_of up first second) (other_of up first second) out
    → TreatsTwo v (Deliver from to) p y q z first second out.answer
treats-two true v from to p q y z first second out fin tin apart a b is es knows =
    let s = v.shape in
    let sent : y ≡ standing_at s es (index_of s from) = knows.held.1.0 ∙ ap (standing_at s es) a in
    let received : z ≡ standing_at s es (index_of s to) = knows.held.0 ∙ ap (standing_at s es) b in
    let all = delivery-treats s es knows.run from to fin tin apart y z first second out sent received is in
    (all.0 ∙ ap (standing_at s (es ++ Deliver from to ∷ [])) (sym a), all.1 ∙ ap (standing_at s (es ++ Deliver from to ∷ [])) (sym b), all.2)
treats-two false v from to p q y z first second out fin tin apart a b is es knows =
    let s = v.shape in
    let received : y ≡ standing_at s es (index_of s to) = knows.held.1.0 ∙ ap (standing_at s es) a in
    let sent : z ≡ standing_at s es (index_of s from) = knows.held.0 ∙ ap (standing_at s es) b in
    let all = delivery-treats s es knows.run from to fin tin apart z y second first out sent received is in
    (all.1 ∙ ap (standing_at s (es ++ Deliver from to ∷ [])) (sym a), all.0 ∙ ap (standing_at s (es ++ Deliver from to ∷ [])) (sym b), all.2)

-- the processes are two
apart-of : (up : Bool) (s : Dimensions) (from to : ProcessId) (p q : ℕ) → IsProcess s from → IsProcess s to → from ≢ to
    → p ≡ index_of s (one_of up from to) → q ≡ index_of s (other_of up from to) → p ≢ q
apart-of true s from to p q fin tin apart a b = λ same. apart (index-one s from to fin tin (sym a ∙ same ∙ b))
apart-of false s from to p q fin tin apart a b = λ same. apart (index-one s from to fin tin (sym b ∙ sym same ∙ a))

-- what is in hand in this order, sender and receiver or turned, can be delivered
deliver-of : (up : Bool) (s : Dimensions) (es : List Event) → IsRun s es → (from to : ProcessId) → IsProcess s from
    → IsProcess s to → from ≢ to → (y z : NodeStanding)
    → y ≡ standing_at s es (index_of s (one_of up from to)) → z ≡ standing_at s es (index_of s (other_of up from to))
    → CanDeliver (one_of up y z) (other_of up y z)
deliver-of true s es run from to fin tin apart y z a b = can-deliver s es run from to fin tin apart y z a b
deliver-of false s es run from to fin tin apart y z a b = can-deliver s es run from to fin tin apart z y b a

-- the second word was met held, and the first node went back
pub busy-second : (v : View) (e : Event) (p q : ℕ) (r : ProcessId) (y : NodeStanding) (m m' w : Sat)
    (slots : List (ℕ × Option NodeStanding)) → IsIdle (v, slots) → IsTwo v.shape v e p q → q ≡ index_of v.shape r
    → p ≢ q
    → (fs : List Event) × InHand (begun e v) p slots y m fs → m' ≡ (with_met m.0 q, m.1) → (found : ℕ) × (w.0 ≡ released m'.0 p found) → Ended e v (Busy r) w.0
busy-second v e p q r y m m' w slots ready two here apart took met back =
    let found : ℕ = back.0 in
    let after_all : w.0 ≡ released (with_met (with_node_held (begun e v) p y) q) p found =
    back.1 ∙ ap (λ (x : Sat). released x.0 p found) met ∙ ap (λ (x : Sat). released (with_met x.0 q) p found) took.1.seat in
    subst (λ (x : View). Ended e v (Busy r) x) (sym after_all) (
      record { shape = refl; parts = refl; numbers = refl; calls = refl; idle = ready.idle },
      record {
        named = let one = two.named (index_of v.shape r) in let same =
            ap (λ (x : ℕ). occurrences (index_of v.shape r) (x ∷ p ∷ [])) here in let more =
            times-here (index_of v.shape r) (p ∷ []) in omega (arith, one, same, more);
        met = ap (λ (x : ℕ). v.met ++ x ∷ []) here;
        cleared = let more = tally-append (index_of v.shape r) v.cleared ((p, found - 1) ∷ []) in let none_here =
            tally-else (index_of v.shape r) p (found - 1) (λ same. apart (same ∙ sym here)) in
            omega (arith, more, none_here);
        made = refl;
        seen = refl;
      },
    )

-- both nodes of a delivery are in hand, in the order of processes
module _ (plan : Plan) (v : View) (f : Event) (up : Bool) (from to one other : ProcessId) (p q : ℕ)
    (slots : List (ℕ × Option NodeStanding)) (y : NodeStanding) (m : Sat)
    (ready : IsIdle (v, slots)) (shape : v.shape ≡ plan.shape) (event : f ≡ Deliver from to)
    (from_in : IsProcess plan.shape from) (to_in : IsProcess plan.shape to) (apart : from ≢ to)
    (one-is : one ≡ one_of up from to) (other-is : other ≡ other_of up from to) (low : p ≡ index_of plan.shape one) (high : q ≡ index_of plan.shape other)
    (took : (es : List Event) × InHand (begun f v) p slots y m es) where
  fin : IsProcess v.shape from
  fin = subst (λ (s : Dimensions). IsProcess s from) (sym shape) from_in

  tin : IsProcess v.shape to
  tin = subst (λ (s : Dimensions). IsProcess s to) (sym shape) to_in

  here : p ≡ index_of v.shape (one_of up from to)
  here = low ∙ (λ i. index_of ((sym shape) i) (one-is i))

  there : q ≡ index_of v.shape (other_of up from to)
  there = high ∙ (λ i. index_of ((sym shape) i) (other-is i))

  two : IsTwo v.shape v (Deliver from to) p q
  two = is-two up v from to p q fin tin apart here there

  first_in : (es : List Event) × InHand (begun (Deliver from to) v) p slots y m es
  first_in = subst (λ (e : Event). (es : List Event) × InHand (begun e v) p slots y m es) event took

  -- the second word was met held
  pub second-busy : (m' w : Sat) → m' ≡ (with_met m.0 q, m.1) → (found : ℕ) × (w.0 ≡ released m'.0 p found) → Ended (Deliver from to) v (Busy other) w.0
  second-busy m' w met back = busy-second v (Deliver from to) p q other y m m' w slots ready two
      (high ∙ ap (λ (s : Dimensions). index_of s other) (sym shape))
      (apart-of up v.shape from to p q fin tin apart here there) first_in met back

  module _ (z : NodeStanding) (m' : Sat) (taken : (es : List Event) × InHand m.0 q m.1 z m' es) where
    knows-two : Knows taken.0 (two_held v (Deliver from to) p y q z)
    knows-two = subst (λ (x : Sat). Knows taken.0 (with_node_held x.0 q z)) first_in.1.seat taken.1.knows

    first-stands : y ≡ standing_at v.shape taken.0 (index_of v.shape (one_of up from to))
    first-stands = knows-two.held.1.0 ∙ ap (standing_at v.shape taken.0) here

    second-stands : z ≡ standing_at v.shape taken.0 (index_of v.shape (other_of up from to))
    second-stands = knows-two.held.0 ∙ ap (standing_at v.shape taken.0) there

    pub may-deliver : CanDeliver (one_of up y z) (other_of up y z)
    may-deliver = deliver-of up v.shape taken.0 knows-two.run from to fin tin apart y z first-stands second-stands

    -- the receiver was up
    pub receiver-up : (other_of up y z).node.down ≡ false → (other_of up y z).node.dead ≡ false → WasUp v to
    receiver-up = by up first-stands second-stands where
      by : (b : Bool) → y ≡ standing_at v.shape taken.0 (index_of v.shape (one_of b from to))
          → z ≡ standing_at v.shape taken.0 (index_of v.shape (other_of b from to))
          → (other_of b y z).node.down ≡ false → (other_of b y z).node.dead ≡ false → WasUp v to
      by true a b up lives = up-at v (two_held v (Deliver from to) p y q z) to (index_of v.shape to) z taken.0 refl refl refl knows-two refl b up lives
      by false a b up lives = up-at v (two_held v (Deliver from to) p y q z) to (index_of v.shape to) y taken.0 refl refl refl knows-two refl a up lives

    module _ (first second : NodeStanding) (out : NodeOut)
        (delivered : Delivered (one_of up y z) (other_of up y z) (one_of up first second) (other_of up first second)
        out) where
      treats : TreatsTwo v (Deliver from to) p y q z first second out.answer
      treats = treats-two up v from to p q y z first second out fin tin apart here there delivered

      within : (x : ℕ) (r : ProcessId) → x ≡ index_of plan.shape r → IsProcess plan.shape r → x < processes_of plan.shape
      within x r is inside = let below = index-below plan.shape r inside in omega (arith, is, below)

      inside : (b : Bool) → IsProcess plan.shape (one_of b from to) × IsProcess plan.shape (other_of b from to)
      inside true = (from_in, to_in)
      inside false = (to_in, from_in)

      pub can-end : CanFinishTwo plan m' p q first second
      can-end = can-finish-two plan v (Deliver from to) p q y z first second out.answer m m' slots ready shape
          (within p one low (subst (IsProcess plan.shape) (sym one-is) (inside up).0))
          (within q other high (subst (IsProcess plan.shape) (sym other-is) (inside up).1)) two first_in taken treats

      pub ends : (w : Sat) → (es : List Event) × Knows es m'.0
          × ((g : ℕ) × (h : ℕ) × (w ≡ (released (released (committed es m'.0) q g) p h, [])))
          → Ended (Deliver from to) v (Made out.answer) w.0
      ends w fin = made-ended-two v (Deliver from to) p q y z first second out.answer m m' w slots ready two first_in taken treats fin
