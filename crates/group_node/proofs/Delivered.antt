-- What a delivery makes of two nodes.
use Rattle.std.proofs.Common.{ℕ, ◌≡◌, ◌≢◌, ◌<◌, ◌+◌, Bool, true, false, if◌then◌else◌, List, [], ◌∷◌, length, drop}
use Rattle.std.proofs.Common.{Some, None, refl, sym, ap, subst, ◌∙◌, arith}
use Rattle.std.specs.Prelude.{slice_get}
use Rattle.group_types.specs.Dimensions.{Dimensions}
use Rattle.group_types.specs.Lists.{at, put}
use Rattle.group_types.specs.Names.{IsProcess, index_of, process_at, same_process}
use Rattle.group_types.specs.declared.process.ProcessId.{ProcessId}
use Rattle.group_types.proofs.Lists.{at-put, at-put-other, length-put}
use Rattle.group_types.proofs.Names.{index-below, index-process_at, process_at-index, same-eq, same-refl}
use Rattle.membership.specs.Members.{Membership}
use Rattle.group_message.specs.declared.message.Message.{Message}
use Rattle.group_message.specs.declared.message.Message.TheVariants as tells
use Rattle.group_calls.specs.declared.event.Answer.TheVariants as says
use Rattle.group_run.specs.Applying.{ProcessStep}
use Rattle.group_run.specs.Fitting.{Fits}
use Rattle.group_run.specs.Process.{Node, Process}
use Rattle.group_run.specs.Receiving.{receive}
use Rattle.group_run.specs.World as world
use Rattle.group_run.specs.World.{deliver_nodes, delivered, link_emptied, links_after, links_without, node_after, receive_node}
use Rattle.process_service.specs.declared.step.Step.{Step}
use Rattle.process_service.specs.Steps.{machine_step}
use Rattle.link_core.specs.Outgoing.{Link, link_to, with_link_to}
use Rattle.group_node.specs.declared.node.NodeOut.{NodeOut}
use Rattle.group_node.specs.Delivering.{Comes}
use Rattle.group_node.specs.Rooms.{messages}
use Rattle.group_node.specs.Standing.{NodeStanding}
use Rattle.group_node.specs.Steps.{made}
use Rattle.group_node.proofs.Links.{messages-at, messages-long, messages-with}
use Rattle.group_node.proofs.Ranges.{entries-same}

-- the link to a dead process is emptied
without-is : (s : Dimensions) (dead : ProcessId) (links : List (List Message)) → IsProcess s dead → length links ≡ s.k + s.m
    → put [] links (index_of s dead) [] ≡ links_without s dead links
without-is s dead links named long =
    entries-same [] (λ x. if same_process (process_at s x) dead then [] else at [] links x) (put [] links (index_of s dead) []) (s.k + s.m)
    (length-put [] links (index_of s dead) [] (let below = index-below s dead named in omega (arith, long, below)) ∙ long)
    (λ x below. by x (same_process (process_at s x) dead) refl) where
      by : (x : ℕ) (b : Bool) → same_process (process_at s x) dead ≡ b → at [] (put [] links (index_of s dead) []) x ≡ (if b then [] else at [] links x)
      by x true e =
          let here : x ≡ index_of s dead = sym (index-process_at s x) ∙ ap (index_of s) (same-eq (process_at s x) dead e) in
          ap (at [] (put [] links (index_of s dead) [])) here ∙ at-put [] [] links (index_of s dead) []
      by x false e = at-put-other [] links (index_of s dead) x [] apart where
        apart : x ≢ index_of s dead
        apart same = cc (e, same-refl dead, ap (λ (q : ProcessId). same_process q dead) (ap (process_at s) same ∙ process_at-index s dead named))

emptied : (s : Dimensions) (dead : ProcessId) (node : Node) (old new : List (Link Message)) (x n : ℕ) → IsProcess s dead → length old ≡ s.k + s.m
    → node.links ≡ messages old → x ≡ index_of s dead
    → new ≡ with_link_to old x [] n → link_emptied s (tells.Notice dead) node ≡ record node { links = messages new }
emptied s dead node old new x n named long links here is =
    let within : x < length old = let below = index-below s dead named in omega (arith, below, here, long) in
    let after : messages new ≡ links_without s dead node.links =
    ap messages is ∙ messages-with old x [] n within ∙ ap (λ (y : ℕ). put [] (messages old) y []) here
    ∙ without-is s dead (messages old) named (messages-long old ∙ long) ∙ ap (links_without s dead) (sym links) in
    ap (λ (ls : List (List Message)). record node { links = ls }) (sym after)

pub not-emptied : (s : Dimensions) (m : Message) (node : Node) → ((dead : ProcessId) → m ≢ tells.Notice dead) → link_emptied s m node ≡ node
not-emptied s (tells.Notice dead) node other = absurd (other dead refl)
not-emptied s (tells.Update r d u stable) node other = refl
not-emptied s (tells.Ack r d n) node other = refl
not-emptied s (tells.Stable r d n) node other = refl
not-emptied s (tells.Adopt r d base list) node other = refl
not-emptied s (tells.ReadBlock session block rows) node other = refl
not-emptied s (tells.Block session bytes n) node other = refl
not-emptied s (tells.Mark session r block d n) node other = refl
not-emptied s (tells.Row session bytes stamp) node other = refl
not-emptied s (tells.Cease upto) node other = refl

-- a node receives a message: its process makes a step, and what that sends goes into the links
module _ (s t : Dimensions) (from : ProcessId) (m : Message) (node : Node) (step : Step) (new : Process)
    (known : Membership) (own roomy after : List (Link Message))
    (same : t ≡ s)
    (is : receive t from m node.process ≡ machine_step new step) (links_are : node.links ≡ messages own) (room_made : messages roomy ≡ messages own)
    (known_is : known ≡ new.known)
    (sent : messages after ≡ links_after s known step.sent.items (messages roomy)) where
  abbrev pub acted : Node
  acted = record node { process = new; links = messages after }

  links_now : links_after s new.known step.sent.items node.links ≡ messages after
  links_now =
      ap (links_after s new.known step.sent.items) (links_are ∙ sym room_made)
      ∙ ap (λ (k : Membership). links_after s k step.sent.items (messages roomy)) (sym known_is) ∙ sym sent

  steps : receive_node s from m node ≡ record { node = link_emptied s m acted; answer = says.Done; settled = step.settled.items }
  steps =
      ap (λ (x : ProcessStep). record { node = link_emptied s m (node_after s x node); answer = says.Done; settled = x.settled })
      (ap (λ (x : Dimensions). receive x from m node.process) (sym same) ∙ is)
      ∙ ap (λ (links : List (List Message)). record
      { node = link_emptied s m (record node { process = new; links = links }); answer = says.Done; settled = step.settled.items }) links_now

  -- the notice of a death
  pub hears : (dead : ProcessId) (cut : List (Link Message)) (x n : ℕ) → m ≡ tells.Notice dead → Fits s from m node.process → length after ≡ s.k + s.m
      → x ≡ index_of s dead → cut ≡ with_link_to after x [] n
      → receive_node s from m node ≡ record { node = record acted { links = messages cut }; answer = says.Done; settled = step.settled.items }
  hears dead cut x n notice fits long here made =
      let named : IsProcess s dead = (subst (λ (y : Message). Fits s from y node.process) notice fits).1.process in
      steps
      ∙ ap (λ (y : Message). record { node = link_emptied s y acted; answer = says.Done; settled = step.settled.items }) notice
      ∙ ap (λ (n : Node). record { node = n; answer = says.Done; settled = step.settled.items }) (emptied s dead acted after cut x n named long refl here made)

  -- another message
  pub takes : ((dead : ProcessId) → m ≢ tells.Notice dead) → receive_node s from m node
      ≡ record { node = acted; answer = says.Done; settled = step.settled.items }
  takes other = steps ∙ ap (λ (n : Node). record { node = n; answer = says.Done; settled = step.settled.items }) (not-emptied s m acted other)

-- the first message of a link
pub head-is : {X : Type 0} (xs : List X) (x : X) → Some x ≡ slice_get xs 0 → xs ≡ x ∷ drop 1 xs
head-is [] x is = absurd (cc is)
head-is (y ∷ ys) x is = let same : y ≡ x = cc is in ap (λ (z : _). z ∷ ys) same

pub none-is : {X : Type 0} (xs : List X) → None ≡ slice_get xs 0 → xs ≡ []
none-is [] is = refl
none-is (y ∷ ys) is = absurd (cc is)

pub first-is : (links : List (Link Message)) (x y : ℕ) (m : Message) → x ≡ y → Some m ≡ slice_get (link_to links x).messages 0
    → at [] (messages links) y ≡ m ∷ drop 1 (link_to links x).messages
first-is links x y m same is = ap (at [] (messages links)) (sym same) ∙ messages-at links x ∙ head-is (link_to links x).messages m is

pub no-first : (links : List (Link Message)) (x y : ℕ) → x ≡ y → None ≡ slice_get (link_to links x).messages 0 → at [] (messages links) y ≡ []
no-first links x y same is = ap (at [] (messages links)) (sym same) ∙ messages-at links x ∙ none-is (link_to links x).messages is

-- what is delivered to a node that lives, in a group that is up
lives-on : (down dead : Bool) (s : Dimensions) (from to : ProcessId) (sender receiver : Node) (link : List Message) → down ≡ false → dead ≡ false
    → delivered down dead s from to sender receiver link ≡ delivered false false s from to sender receiver link
lives-on true dead s from to sender receiver link is_up lives = absurd (cc is_up)
lives-on false true s from to sender receiver link is_up lives = absurd (cc lives)
lives-on false false s from to sender receiver link is_up lives = refl

module _ (s : Dimensions) (from to : ProcessId) (sender receiver : Node) (is_up : receiver.down ≡ false) (lives : receiver.dead ≡ false) where
  pub nothing-comes : (out : NodeOut) → at [] sender.links (index_of s to) ≡ [] → out.answer ≡ says.Idle → out.settled.items ≡ []
      → deliver_nodes s from to sender receiver ≡ record { sender = sender; receiver = made receiver out }
  nothing-comes out none answer settled =
      ap (delivered receiver.down receiver.dead s from to sender receiver) none
      ∙ lives-on receiver.down receiver.dead s from to sender receiver [] is_up lives
      ∙ (λ j. record { sender = sender; receiver = record { node = receiver; answer = (sym answer) j; settled = (sym settled) j } })

  pub one-comes : (m : Message) (rest : List Message) (new : Node) (out : NodeOut) (links : List (List Message)) → at [] sender.links (index_of s to) ≡ m ∷ rest
      → links ≡ put [] sender.links (index_of s to) rest → receive_node s from m receiver ≡ made new out
      → deliver_nodes s from to sender receiver ≡ record { sender = record sender { links = links }; receiver = made new out }
  one-comes m rest new out links first popped comes =
      ap (delivered receiver.down receiver.dead s from to sender receiver) first
      ∙ lives-on receiver.down receiver.dead s from to sender receiver (m ∷ rest) is_up lives
      ∙ (λ j. record { sender = record sender { links = (sym popped) j }; receiver = comes j })

-- the links without the first message of one
pub popped : (s : Dimensions) (to : ProcessId) (old new : List (Link Message)) (x n : ℕ) → IsProcess s to → length old ≡ s.k + s.m → x ≡ index_of s to
    → new ≡ with_link_to old x (drop 1 (link_to old x).messages) n → messages new ≡ put [] (messages old) (index_of s to) (drop 1 (link_to old x).messages)
popped s to old new x n named long here made =
    let within : x < length old = let below = index-below s to named in omega (arith, below, here, long) in
    ap messages made ∙ messages-with old x (drop 1 (link_to old x).messages) n within
    ∙ ap (λ (y : ℕ). put [] (messages old) y (drop 1 (link_to old x).messages)) here

-- a delivery by the calls of two nodes: the first message of the sender's link is received, and handed out then
module _ (s r : NodeStanding) (from to : ProcessId) (same : s.shape ≡ r.shape) (from_is : from ≡ s.node.process.name) (to_is : to ≡ r.node.process.name) where
  here : index_of s.shape to ≡ index_of r.shape r.node.process.name
  here = ap (λ (x : Dimensions). index_of x to) same ∙ ap (index_of r.shape) to_is

  pub first-there : (m : Message) → Some m ≡ slice_get (at [] s.node.links (index_of s.shape to)) 0
      → at [] s.node.links (index_of r.shape r.node.process.name) ≡ m ∷ drop 1 (at [] s.node.links (index_of s.shape to))
  first-there m is = ap (at [] s.node.links) (sym here) ∙ head-is (at [] s.node.links (index_of s.shape to)) m is

  pub comes-there : (m : Message) → Comes r.shape s.node.process.name m r.node.process → Comes r.shape from m r.node.process
  comes-there m comes = subst (λ (p : ProcessId). Comes r.shape p m r.node.process) (sym from_is) comes

  pub delivery-comes : r.node.down ≡ false → r.node.dead ≡ false
      → (r.node.down ≡ false → r.node.dead ≡ false → (m : Message) (rest : List Message)
      → at [] s.node.links (index_of r.shape r.node.process.name) ≡ m ∷ rest → Comes r.shape s.node.process.name m r.node.process)
      → (m : Message) → Some m ≡ slice_get (at [] s.node.links (index_of s.shape to)) 0 → Comes r.shape from m r.node.process
  delivery-comes up lives all m is =
      comes-there m (all up lives m (drop 1 (at [] s.node.links (index_of s.shape to))) (first-there m is))

  pub none-there : r.node.down ≡ false → r.node.dead ≡ false → (out : NodeOut) → None ≡ slice_get (at [] s.node.links (index_of s.shape to)) 0
      → out.answer ≡ says.Idle → out.settled.items ≡ []
      → deliver_nodes r.shape s.node.process.name r.node.process.name s.node r.node ≡ record { sender = s.node; receiver = made r.node out }
  none-there up lives out none answer settled =
      nothing-comes r.shape s.node.process.name r.node.process.name s.node r.node up lives out
      (ap (at [] s.node.links) (sym here) ∙ none-is (at [] s.node.links (index_of s.shape to)) none) answer settled

  pub handed-out : r.node.down ≡ false → r.node.dead ≡ false → (m : Message) (new after : Node) (out : NodeOut)
      → Some m ≡ slice_get (at [] s.node.links (index_of s.shape to)) 0 → receive_node r.shape from m r.node ≡ made new out
      → after ≡ world.with_link s.shape to (drop 1 (at [] s.node.links (index_of s.shape to))) s.node
      → deliver_nodes r.shape s.node.process.name r.node.process.name s.node r.node ≡ record { sender = after; receiver = made new out }
  handed-out up lives m new after out first comes is =
      let rest = drop 1 (at [] s.node.links (index_of s.shape to)) in
      one-comes r.shape s.node.process.name r.node.process.name s.node r.node up lives m rest new out
      (put [] s.node.links (index_of r.shape r.node.process.name) rest) (first-there m first) refl
      (subst (λ (p : ProcessId). receive_node r.shape p m r.node ≡ made new out) from_is comes)
      ∙ ap (λ (x : Node). record { sender = x; receiver = made new out })
      (ap (λ (x : ℕ). record s.node { links = put [] s.node.links x rest }) (sym here) ∙ sym is)
