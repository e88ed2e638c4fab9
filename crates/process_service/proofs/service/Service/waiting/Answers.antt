use Rattle.std.proofs.Common.{ℕ, ◌≡◌, ◌<◌, ◌+◌, ◌-◌, ◌^◌, List, length, drop, get_or, ap, sym, ◌∙◌, arith, min}
use Rattle.std.proofs.lemmas.Grind.{common_steps}
use Rattle.std.proofs.lemmas.List.Sums.{sum_by-drop_more}
use Rattle.group_types.specs.Lists.{at}
use Rattle.group_types.proofs.Lists.{at_index}
use Rattle.group_run.specs.Replica.{Replica, empty_replica}
use Rattle.head_service.specs.Serving.{Serving}
use Rattle.process_service.specs.Noticing.{waiting}
use Rattle.process_service.proofs.Lists.{long-map, part-at}
use Rattle.process_service.proofs.service.Service.waiting.Goals as goal

back : (d : ℕ) → 0 < d → (d - 1) + 1 ≡ d
back d some = omega (arith, some)

pub partitions-preserved : goal.partitions-preserved
partitions-preserved c =
    let i : ℕ = c.partitions.d - 1 in
    let rs : List Replica = c.args.self.now.replicas in
    let wide : length c.self.inside.replicas.items ≡ length rs =
    sym (long-map (λ r. r.replica) c.self.inside.replicas.items) ∙ ap (λ (v : Serving). length v.replicas)
    c.self.view_is in
    let within : i < length c.self.inside.replicas.items = omega (arith, wide, c.partitions.invariant.within, c.partitions-test.true) in
    let here : get_or rs i empty_replica ≡ c.index.result.now.replica
    = sym (at_index empty_replica empty_replica rs i (omega (arith, wide, within))) ∙ ap (λ (v : Serving). at empty_replica v.replicas i) (sym c.self.view_is)
    ∙ part-at (λ r. r.replica) empty_replica c.self.inside.replicas.items i c.index.result.now within c.index.ensures in
    let step : waiting (drop i rs) ≡ length c.index.result.now.replica.log + waiting (drop c.partitions.d rs)
    = sum_by-drop_more (λ (r : Replica). length r.log) rs i empty_replica (omega (arith, wide, within))
    ∙ ap (λ (r : Replica). length r.log + waiting (drop (i + 1) rs)) here
    ∙ ap (λ (n : ℕ). length c.index.result.now.replica.log + waiting (drop n rs)) (back c.partitions.d c.partitions-test.true) in
    let was = c.partitions.invariant.all in
    let long = c.long.ensures in
    let sum : c.saturating_add-all.result ≡ min (c.partitions.all + c.long.result) (2 ^ 64 - 1) = grind (arith, common_steps) in
    record { within = omega (arith, c.partitions.invariant.within); all = omega (arith, sum, step, was, long) }
