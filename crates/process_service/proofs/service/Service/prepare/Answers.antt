use Rattle.std.proofs.Common.{ℕ, ◌≡◌, ◌<◌, ◌+◌, ◌-◌, ◌∷◌, ◌++◌, [], Bool, List, Option, None, ap, sym, ◌∙◌, append_assoc, arith}
use Rattle.std.proofs.lemmas.Grind.{common_steps}
use Rattle.std.specs.List.{range_with_len}
use Rattle.group_types.specs.Lists.{at}
use Rattle.membership.specs.Members.{Membership}
use Rattle.group_run.specs.Applying.{Sent}
use Rattle.group_run.specs.Process.{Head}
use Rattle.group_run.specs.Replica.{Replica, empty_replica}
use Rattle.head_service.specs.Serving.{Serving}
use Rattle.process_service.specs.Noticing.{adoption_if, adoptions, bereaved, successor_at, successor_if, successors, is_due, is_taken_over}
use Rattle.process_service.proofs.Each.{range-front}
use Rattle.process_service.proofs.service.Service.prepare.Goals as goal

pub partitions-preserved : goal.partitions-preserved
partitions-preserved c =
    let v : Serving = bereaved c.args.dead c.args.self.now in
    let d : ℕ = c.partitions.d in
    let k : ℕ = v.shape.k in
    let r : Replica = at empty_replica v.replicas d in
    let wide : c.self.inside.shape.k ≡ c.args.self.now.shape.k = ap (λ (w : Serving). w.shape.k) c.self.view_is in
    let below : d < k = grind (arith, common_steps) in
    let rest : List ℕ = range_with_len (d + 1) (k - (d + 1)) in
    let due : c.is_due-due.result ≡ is_taken_over v d
    = c.is_due-due.ensures ∙ ap (λ (x : Membership). is_due x v.name d (at None v.heads d)) c.partitions.invariant.known in
    let head : c.in_ok-head.head ≡ successor_at v d = c.in_ok-head.ensures ∙ ap (λ (x : Bool). successor_if x v.shape v.name r) due in
    let told : adoption_if c.is_due-due.result v.shape c.fail.new.self v.name d r ≡ adoption_if (is_taken_over v d) v.shape v.known v.name d r
    = ap (λ (x : Bool). adoption_if x v.shape c.fail.new.self v.name d r) due
    ∙ ap (λ (x : Membership). adoption_if (is_taken_over v d) v.shape x v.name d r) c.partitions.invariant.known in
    record {
      known = c.partitions.invariant.known;
      kept = c.partitions.invariant.kept;
      heads = ap (λ (xs : List (Option Head)). xs ++ successors v rest) c.in_ok-push.ensures.items
          ∙ append_assoc c.partitions.notice.heads.items (c.in_ok-head.head ∷ []) (successors v rest)
          ∙ ap (λ (x : Option Head). c.partitions.notice.heads.items ++ x ∷ successors v rest) head
          ∙ sym (ap (λ (ds : List ℕ). c.partitions.notice.heads.items ++ successors v ds) (range-front d k below)) ∙ c.partitions.invariant.heads;
      sent = ap (λ (xs : List Sent). xs ++ adoptions v rest) c.in_ok-adoption_if.ensures
          ∙ append_assoc c.partitions.sent.items (adoption_if c.is_due-due.result v.shape c.fail.new.self v.name d r) (adoptions v rest)
          ∙ ap (λ (xs : List Sent). c.partitions.sent.items ++ (xs ++ adoptions v rest)) told
          ∙ sym (ap (λ (ds : List ℕ). c.partitions.sent.items ++ adoptions v ds) (range-front d k below)) ∙ c.partitions.invariant.sent;
      settled = c.partitions.invariant.settled;
      room = c.partitions.invariant.room;
    }
