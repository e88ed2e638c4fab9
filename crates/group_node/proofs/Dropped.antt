-- A message that is dropped for its rank, and a mark that a row doesn't take, makes nothing.
use Rattle.std.proofs.Common.{ℕ, ◌≡◌, ◌≢◌, ◌+◌, ◌==◌, Bool, true, false, List, [], length, Option, Some, None, refl, ap, ◌∙◌}
use Rattle.group_types.specs.Dimensions.{Dimensions}
use Rattle.group_types.specs.declared.process.ProcessId.{ProcessId}
use Rattle.group_types.specs.declared.process.ProcessId.TheVariants.{DataNode, ParityNode}
use Rattle.group_message.specs.declared.message.Message.{Message}
use Rattle.group_message.specs.declared.message.Message.TheVariants as tells
use Rattle.group_calls.specs.declared.event.Answer.TheVariants as says
use Rattle.group_run.specs.Applying.{ProcessStep, head_at, quiet, when}
use Rattle.group_run.specs.Heading.{acknowledge}
use Rattle.group_run.specs.Process.{Head, Node, Process}
use Rattle.group_run.specs.Receiving.{receive}
use Rattle.group_run.specs.World.{link_emptied, node_after, receive_node}
use Rattle.process_service.specs.Current.{is_current}
use Rattle.process_service.specs.Standing.{is_under}
use Rattle.link_core.specs.Outgoing.{Link}
use Rattle.group_node.specs.Rooms.{messages}
use Rattle.group_node.proofs.Delivered.{not-emptied}
use Rattle.group_node.proofs.Links.{messages-long}
use Rattle.group_node.proofs.Sent.{nothing-behind}

module _ (s : Dimensions) (p : Process) where
  not-when : (b : Bool) (step : ProcessStep) → b ≡ false → when b p step ≡ quiet p
  not-when true step no-rank = absurd (cc no-rank)
  not-when false step no-rank = refl

  not-headed : (i r d n : ℕ) (o : Option Head) → is_under r o ≡ false → acknowledge s i r d n o p ≡ quiet p
  not-headed i r d n None other = refl
  not-headed i r d n (Some h) other = not-when (r == h.rank) _ other

  drops : (from : ProcessId) (m : Message) → is_current p m ≡ false → receive s from m p ≡ quiet p
  drops from (tells.Update r d u stable) stale = not-when _ _ stale
  drops from (tells.Stable r d n) stale = not-when _ _ stale
  drops from (tells.Adopt r d base list) stale = not-when _ _ stale
  drops (DataNode e) (tells.Ack r d n) stale = refl
  drops (ParityNode i) (tells.Ack r d n) stale = not-headed i r.0 d.0 n (head_at p d.0) stale
  drops from (tells.ReadBlock session block rows) stale = absurd (cc stale)
  drops from (tells.Block session bytes n) stale = absurd (cc stale)
  drops from (tells.Mark session r block d n) stale = not-when _ _ stale
  drops from (tells.Row session bytes stamp) stale = absurd (cc stale)
  drops from (tells.Cease upto) stale = absurd (cc stale)
  drops from (tells.Notice dead) stale = absurd (cc stale)

  other-than-notice : (m : Message) → is_current p m ≡ false → (dead : ProcessId) → m ≢ tells.Notice dead
  other-than-notice m stale dead notice = absurd (cc (ap (is_current p) notice, stale))

pub nothing-received : (s : Dimensions) (from : ProcessId) (m : Message) (node : Node) (own : List (Link Message))
    → node.links ≡ messages own → length own ≡ s.k + s.m
    → is_current node.process m ≡ false → receive_node s from m node ≡ record { node = node; answer = says.Done; settled = [] }
nothing-received s from m node own links long stale =
    ap (λ (step : ProcessStep). record {
      node = link_emptied s m (node_after s step node);
      answer = says.Done;
      settled = step.settled;
    }) (drops s node.process from m stale)
    ∙ ap (λ (n : Node). record { node = n; answer = says.Done; settled = [] })
    (not-emptied s m (node_after s (quiet node.process) node) (other-than-notice s node.process m stale)
    ∙ ap (λ (ls : List (List Message)). record node { links = ls })
    (nothing-behind s node.process.known node.links (ap length links ∙ messages-long own ∙ long)))
