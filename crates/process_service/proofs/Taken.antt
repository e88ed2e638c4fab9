-- A partition is taken over.
use Rattle.std.proofs.Common.{ℕ, suc, ◌≡◌, ◌≢◌, ◌<◌, Bool, true, false, List, ◌++◌, None, Some, length, refl, sym, ap, ◌∙◌}
use Rattle.std.proofs.lemmas.List.{length-replicate}
use Rattle.group_types.specs.Dimensions.{Dimensions}
use Rattle.group_types.specs.Lists.{at, put}
use Rattle.group_types.specs.declared.process.ProcessId.{ProcessId}
use Rattle.group_run.specs.Applying.{ProcessStep, Settlement, bytes_after, when}
use Rattle.group_run.specs.Heading.{settlements}
use Rattle.group_run.specs.Process.{Head, Process, new_head}
use Rattle.group_run.specs.Receiving.{take_over_if, taken_over, takes_over}
use Rattle.group_run.specs.Replica.{Replica, applied_to, empty_replica, last_of, up_to}
use Rattle.group_run.specs.Rows.{parity_number}
use Rattle.head_service.specs.Laws.{ArePeers, successor}
use Rattle.head_service.specs.Peers.{settles}
use Rattle.head_service.specs.Serving.{Serving, serving}
use Rattle.head_service.specs.declared.peers.Peers.{Peers}
use Rattle.head_service.proofs.Machine.{takeovers_are_the_machines}
use Rattle.process_service.specs.Noticing.{successor_at, successor_if, is_due, is_taken_over}
use Rattle.process_service.specs.Steps.{HasMade}
use Rattle.process_service.proofs.Mourning.{due-is, successor-same, take-same, view}
use Rattle.process_service.proofs.Judged.{made-nothing}

module _ (s : Dimensions) (v : Serving) (b : Process) (same : b.name ≡ v.name) (shape : s ≡ v.shape) (d : ℕ) where
  -- the test is the machine's
  tested : takes_over (serving v b) d b.name ≡ is_taken_over v d
  tested = due-is s (serving v b) d b.name ∙ ap (λ (x : ProcessId). is_due v.known x d (at None v.heads d)) same

  -- there is a new head exactly where the partition is taken over, and this is it
  due-of : (due : Bool) (h : Head) (r : Replica) → Some h ≡ successor_if due v.shape v.name r → due ≡ true
  due-of true h r is = refl
  due-of false h r is = absurd (cc is)

  successor-of : (due : Bool) (h : Head) (r : Replica) → Some h ≡ successor_if due v.shape v.name r → h ≡ new_head v.shape (suc (parity_number v.name)) (last_of r)
  successor-of true h r is = cc is
  successor-of false h r is = absurd (cc is)

  none-of : (due : Bool) (r : Replica) → None ≡ successor_if due v.shape v.name r → due ≡ false
  none-of true r is = absurd (cc is)
  none-of false r is = refl

  -- nothing is taken over
  pub left-alone : (before : List Settlement) → None ≡ successor_at v d → HasMade (take_over_if s d (serving v b)) before (serving v b) before
  left-alone before none = made-nothing (take_over_if s d (serving v b)) (serving v b) before
      (ap (λ (due : Bool). when due (serving v b) (taken_over s d (serving v b))) (tested ∙ none-of (is_taken_over v d) (at empty_replica v.replicas d) none))

  -- it is taken over
  pub taken-made : (peers : Peers) (h : Head) (r : Replica) → ArePeers s v b peers → at empty_replica v.replicas d ≡ r
      → d < length v.replicas → Some h ≡ successor_at v d
      → (r2 : Replica) (b2 : Process) (before after : List Settlement) → r2 ≡ applied_to (settles peers h (last_of r)) r
      → b2 ≡ bytes_after s d (up_to (settles peers h (last_of r)) r) b → after ≡ before ++ settlements d (up_to (settles peers h (last_of r)) r)
      → HasMade (take_over_if s d (serving v b)) before
      (serving (record v { replicas = put empty_replica v.replicas d r2; ranks = put 0 v.ranks d h.rank; heads = put None v.heads d (Some h) }) b2) after
  taken-made peers h r are here within is r2 b2 before after r-is b-is settled =
      let h-is : h ≡ successor s b r = successor-of (is_taken_over v d) h r (is ∙ ap (successor_if (is_taken_over v d) v.shape v.name) here)
      ∙ ap (λ (x : Dimensions). new_head x (suc (parity_number v.name)) (last_of r)) (sym shape)
      ∙ ap (λ (x : ProcessId). new_head s (suc (parity_number x)) (last_of r)) (sym same) in
      let law : take_over_if s d (serving v b) ≡ record {
        process = serving (record v {
          replicas = put empty_replica v.replicas d (applied_to (settles peers (successor s b r) (last_of r)) r);
          ranks = put 0 v.ranks d (successor s b r).rank;
          heads = put None v.heads d (Some (successor s b r));
        }) (bytes_after s d (up_to (settles peers (successor s b r) (last_of r)) r) b);
        sent = _;
        settled = settlements d (up_to (settles peers (successor s b r) (last_of r)) r);
      }
      = ap (λ (due : Bool). when due (serving v b) (taken_over s d (serving v b))) (tested ∙ due-of (is_taken_over v d) h (at empty_replica v.replicas d) is)
      ∙ takeovers_are_the_machines s v b peers d r are here within in
      record {
        process = rw (r-is, b-is, h-is) (sym (ap (λ (x : ProcessStep). x.process) law));
        settled = rw (settled, h-is) (sym (ap (λ (x : ProcessStep). before ++ x.settled) law));
      }

-- a new head counts the acknowledgements of m parity processes
pub successor-long : (v : Serving) (d : ℕ) (h : Head) → Some h ≡ successor_at v d → length h.acks ≡ v.shape.m
successor-long v d h is = by (is_taken_over v d) is where
  by : (due : Bool) → Some h ≡ successor_if due v.shape v.name (at empty_replica v.replicas d) → length h.acks ≡ v.shape.m
  by true is =
      let e : h ≡ new_head v.shape (suc (parity_number v.name)) (last_of (at empty_replica v.replicas d)) = cc is in
      ap (λ (x : Head). length x.acks) e ∙ length-replicate v.shape.m None
  by false is = absurd (cc is)

-- a process, seen as what it keeps
pub viewed : (s : Dimensions) (v : Serving) (b : Process) → b.name ≡ v.name → s ≡ v.shape → view s (serving v b) ≡ v
viewed s v b name shape = ap (λ (x : ProcessId). record v { shape = s; name = x }) name ∙ ap (λ (x : Dimensions). record v { shape = x }) shape

-- the new heads of other partitions stay
pub successors-stay : (s : Dimensions) (v w : Serving) (b b2 : Process) → b.name ≡ v.name → s ≡ v.shape → b2.name ≡ w.name → s ≡ w.shape → (d e : ℕ) → e ≢ d
    → serving w b2 ≡ (take_over_if s d (serving v b)).process → successor_at w e ≡ successor_at v e
successors-stay s v w b b2 name shape name2 shape2 d e other is =
    ap (λ (x : Serving). successor_at x e) (sym (viewed s w b2 name2 shape2))
    ∙ ap (λ (p : Process). successor_at (view s p) e) is
    ∙ successor-same s d e (serving v b) (take_over_if s d (serving v b)).process other (take-same s d (serving v b))
    ∙ ap (λ (x : Serving). successor_at x e) (viewed s v b name shape)
