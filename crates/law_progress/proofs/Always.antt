-- Along every run each delivery lowers the weight of what is on its way, so draining ends.
use Rattle.std.proofs.Common.{◌≡◌, ◌≢◌, ◌<◌, ◌+◌, Bool, true, false, List, [], ◌∷◌, length, refl, sym, ap, subst, ◌∙◌, arith}
use Rattle.group_types.specs.Dimensions.{Dimensions}
use Rattle.group_types.specs.Lists.{at}
use Rattle.group_types.specs.Names.{IsProcess, index_of}
use Rattle.group_types.specs.Shape.{IsShape}
use Rattle.group_types.specs.declared.process.ProcessId.{ProcessId}
use Rattle.group_types.specs.Each.{Each}
use Rattle.group_message.specs.declared.message.Message.{Message}
use Rattle.group_message.specs.declared.message.Message.TheVariants as tells
use Rattle.group_calls.specs.declared.event.Answer.TheVariants as says
use Rattle.group_calls.specs.declared.event.Event.{Event}
use Rattle.group_calls.specs.declared.event.Event.TheVariants.{Ask, Collect, Deliver, Fail, Flush, Trace}
use Rattle.group_run.specs.Applying.{ProcessStep}
use Rattle.group_run.specs.Headline.{IsRunFrom}
use Rattle.group_run.specs.History.{History, history_of, no_history}
use Rattle.group_run.specs.Process.{Node}
use Rattle.group_run.specs.Progress.{DeliveryLowers}
use Rattle.group_run.specs.Receiving.{receive}
use Rattle.group_run.specs.World.{DeliveryStep, World, delivered, link_emptied, node_after, node_in, opening, process_node}
use Rattle.group_run.specs.World.{sent_to, step, with_link, with_node, world_after}
use Rattle.law_moves.proofs.Events.{emptied-dead}
use Rattle.law_moves.specs.State.{state_from, state_of}
use Rattle.law_moves.proofs.Events.{FramedHistory}
use Rattle.law_moves.proofs.Reading.{node-other, size-with_node}
use Rattle.law_moves.proofs.Runs.{framed-from, framed-opening, shape-from, world-from}
use Rattle.law_moves.proofs.Steps.{popped}
use Rattle.law_log.specs.Book.{no_book}
use Rattle.law_log.proofs.Books.{book-history}
use Rattle.law_headline.proofs.Sound.{LinksSound, Sound}
use Rattle.law_headline.proofs.All.{whole-always}
use Rattle.law_headline.proofs.Always.{sound-always}
use Rattle.law_progress.specs.Ends.{DrainsEnd, EndsAlways, LowersAlways}
use Rattle.law_progress.proofs.Differing.{differ-below}
use Rattle.law_progress.proofs.Loads.{Adds, adds-weigh, load-is, node-adds, popped-weighs, received-weighs, sent-sum, way_of, weights}
use Rattle.law_progress.proofs.Sending.{FewRows, receive-sends}

module _ (s : Dimensions) (shaped : IsShape s) (nodes : List Node) (size : length nodes ≡ s.k + s.m) where
  -- a delivery with which a message comes
  delivery-lowers : (x p : ProcessId) → IsProcess s x → IsProcess s p → x ≢ p → (down dead : Bool) → (node_in s nodes p).dead ≡ dead
      → (link : List Message) → at [] (node_in s nodes x).links (index_of s p) ≡ link
      → ((m : Message) (rest : List Message) → dead ≡ false → link ≡ m ∷ rest → FewRows m)
      → (delivered down dead s x p (node_in s nodes x) (node_in s nodes p) link).receiver.answer ≡ says.Done
      → let b : DeliveryStep = delivered down dead s x p (node_in s nodes x) (node_in s nodes p) link in
      way_of s (state_from s (with_node s p b.receiver.node (with_node s x b.sender nodes)) []) < way_of s (state_from s nodes [])
  delivery-lowers x p xin pin apart true dead isdead link is few done = absurd (cc done)
  delivery-lowers x p xin pin apart false true isdead link is few done = absurd (cc done)
  delivery-lowers x p xin pin apart false false isdead [] is few done = absurd (cc done)
  delivery-lowers x p xin pin apart false false isdead (m ∷ rest) is few done =
      let out = popped-weighs s (state_from s nodes []) (state_from s left []) x p m xin pin isdead (popped s nodes size [] x p m rest xin pin is) in
      let added = adds-weigh s (state_from s left []) (state_from s (with_node s p received left) []) p (λ q. weights (sent_to q turn.sent)) adds in
      let sent = sent-sum s turn.sent in
      let less = receive-sends s shaped x m (node_in s nodes p).process (few m rest refl refl) in
      omega (arith, out, added, sent, less)
    where
      turn : ProcessStep
      turn = receive s x m (node_in s nodes p).process

      left : List Node
      left = with_node s x (with_link s p rest (node_in s nodes x)) nodes

      received : Node
      received = link_emptied s m (node_after s turn (node_in s nodes p))

      many : length left ≡ s.k + s.m
      many = size-with_node s nodes x (with_link s p rest (node_in s nodes x)) xin size

      stays : node_in s left p ≡ node_in s nodes p
      stays = node-other s nodes x p (with_link s p rest (node_in s nodes x)) xin pin (λ same. apart (sym same)) size

      adds : Adds s (state_from s left []) (state_from s (with_node s p received left) []) p (λ q. weights (sent_to q turn.sent))
      adds = node-adds s left p received (λ q. weights (sent_to q turn.sent)) many pin
          (emptied-dead s m (node_after s turn (node_in s nodes p)) ∙ ap (λ (n : Node). n.dead) (sym stays))
          (λ q qin.
          let before = ap (λ (n : Node). weights (at [] n.links (index_of s q))) stays in
          let less = received-weighs s m turn (node_in s nodes p) q qin in
          omega (arith, before, less))

-- the questions for blocks that are on their way to the living name few rows
few-from : (s : Dimensions) → IsShape s → (x : ProcessId) (m : Message) → Sound s x m → FewRows m
few-from s shaped x (tells.ReadBlock session block rows) sound = let few =
    differ-below s.m rows sound.in_group sound.differ in let most = shaped.m in omega (arith, few, most)
few-from s shaped x (tells.Update r d u stable) sound = tt
few-from s shaped x (tells.Ack r d n) sound = tt
few-from s shaped x (tells.Stable r d n) sound = tt
few-from s shaped x (tells.Adopt r d base list) sound = tt
few-from s shaped x (tells.Block session bytes n) sound = tt
few-from s shaped x (tells.Mark session r block d n) sound = tt
few-from s shaped x (tells.Row session bytes stamp) sound = tt
few-from s shaped x (tells.Cease upto) sound = tt
few-from s shaped x (tells.Notice dead) sound = tt

-- in a group of which the messages are sound
group-lowers : (h : History) → IsShape h.world.shape → FramedHistory h → LinksSound h.world.shape (state_of h) → DeliveryLowers h.world
group-lowers h shaped framed sound from to may done =
    let less = delivery-lowers h.world.shape shaped h.world.nodes framed.nodes_many from to may.0 may.1 may.2
    (process_node h.world to).down (process_node h.world to).dead refl
    (at [] (process_node h.world from).links (index_of h.world.shape to)) refl few done in
    let before = load-is h.world in
    let after = load-is (step h.world (Deliver from to)).world in
    omega (arith, less, before, after)
  where
    few : (m : Message) (rest : List Message) → (process_node h.world to).dead ≡ false
        → at [] (process_node h.world from).links (index_of h.world.shape to) ≡ m ∷ rest → FewRows m
    few m rest lives first =
        few-from h.world.shape shaped from m
        (subst (Each (Sound h.world.shape from)) first (sound.links from to may.0 may.1 may.2 lives)).0

pub deliveries_lower : LowersAlways
deliveries_lower s es run = subst DeliveryLowers (world-from (no_history s) es)
    (group-lowers h (subst IsShape (sym shape) run.0) (framed-from (no_history s) es (framed-opening s) run.1)
    (subst (λ (t : Dimensions). LinksSound t (state_of h)) (sym shape) sound))
  where
    h : History
    h = history_of s es

    shape : (history_of s es).world.shape ≡ s
    shape = shape-from (no_history s) es

    sound : LinksSound s (state_of (history_of s es))
    sound = subst (λ (g : History). LinksSound s (state_of g)) (book-history (no_book s) es) (sound-always s (whole-always s) es run)

-- where each delivery from here on lowers the weight, draining ends
ends : (w : World) → ((gs : List Event) → IsRunFrom w gs → DeliveryLowers (world_after w gs)) → DrainsEnd w
ends w always [] run all = omega arith
ends w always (Deliver from to ∷ es) run all =
    let lowers = always [] tt from to run.0 all.1 in
    let rest = ends (step w (Deliver from to)).world (λ gs more. always (Deliver from to ∷ gs) (run.0, more)) es run.1 all.2 in
    omega (arith, lowers, rest)
ends w always (Ask caller op p ∷ es) run all = absurd all.0
ends w always (Collect caller call p ∷ es) run all = absurd all.0
ends w always (Fail p keep ∷ es) run all = absurd all.0
ends w always (Flush p ∷ es) run all = absurd all.0
ends w always (Trace caller call d p ∷ es) run all = absurd all.0

ends-after : (w : World) → ((gs : List Event) → IsRunFrom w gs → DeliveryLowers (world_after w gs)) → (es : List Event)
    → IsRunFrom w es → DrainsEnd (world_after w es)
ends-after w always [] run = ends w always
ends-after w always (e ∷ es) run = ends-after (step w e).world (λ gs more. always (e ∷ gs) (run.0, more)) es run.1

pub draining_ends : EndsAlways
draining_ends s es run = ends-after (opening s) (λ gs more. deliveries_lower s gs (run.0, more)) es run.1
