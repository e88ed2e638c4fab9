use Rattle.std.proofs.Common.{ℕ, ◌≡◌, ◌++◌, Bool, List, true, OnOk, ap, sym, subst, ◌∙◌}
use Rattle.group_types.specs.Lists.{at}
use Rattle.group_types.specs.declared.process.ProcessId.{ProcessId}
use Rattle.group_message.specs.declared.message.Message.TheVariants as tells
use Rattle.group_run.specs.Applying.{Sent}
use Rattle.group_run.specs.Heading.{other_parities, partition, rank, to_parities}
use Rattle.group_run.specs.Replica.{Replica, empty_replica}
use Rattle.head_service.specs.Serving.{Serving}
use Rattle.process_service.specs.Noticing.{adoption_if}
use Rattle.process_service.proofs.Lent.{IsLent, here}
use Rattle.process_service.proofs.service.Service.adoption_if.Goals as goal

pub returns : goal.returns
returns c =
    let lent : IsLent c.self.inside c.args.self.now c.args.partition.0 c.index-replica.result.now
    = record { place = record { view = c.self.view_is; kept = c.self.invariant; below = c.requires }; entry = c.index-replica.ensures } in
    let told : ℕ → ProcessId → ℕ → Replica → List Sent
    = λ m name n r. to_parities (other_parities m name c.args.known) (tells.Adopt (rank n) (partition c.args.partition.0) r.applied r.log) in
    subst (λ (xs : List Sent). OnOk c.adoption.result (c.adoption.new.sent.items ≡ c.args.sent.now.items ++ xs))
    (ap (λ (m : ℕ). told m c.self.inside.name c.next_rank.result.0 c.index-replica.result.now.replica)
    (c.m.ensures.value ∙ ap (λ (v : Serving). v.shape.m) c.self.view_is)
    ∙ ap (λ (x : ProcessId). told c.args.self.now.shape.m x c.next_rank.result.0 c.index-replica.result.now.replica)
    (ap (λ (v : Serving). v.name) c.self.view_is)
    ∙ ap (λ (n : ℕ). told c.args.self.now.shape.m c.args.self.now.name n c.index-replica.result.now.replica) c.next_rank.ensures
    ∙ ap (λ (r : Replica). adoption_if true c.args.self.now.shape c.args.known c.args.self.now.name c.args.partition.0 r) (sym (here lent))
    ∙ ap (λ (due : Bool). adoption_if due c.args.self.now.shape c.args.known c.args.self.now.name c.args.partition.0
    (at empty_replica c.args.self.now.replicas c.args.partition.0)) (sym c.if-not-due.false))
    c.adoption.ensures
