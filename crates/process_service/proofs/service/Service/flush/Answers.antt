use Rattle.std.proofs.Common.{◌≡◌, List, length, map, sym, ap, ◌∙◌}
use Rattle.group_run.specs.Applying.{Sent, sending}
use Rattle.group_run.specs.Process.{Head}
use Rattle.std.specs.Prelude.{Option}
use Rattle.group_run.specs.Replica.{Replica}
use Rattle.head_service.specs.Flushing.{stables}
use Rattle.head_service.specs.Serving.{Serving, serving}
use Rattle.head_service.proofs.Machine.{flushes_are_the_machines}
use Rattle.process_service.proofs.Lists.{long-map}
use Rattle.process_service.proofs.Results.{on-ok}
use Rattle.process_service.proofs.service.Service.flush.Goals as goal

pub returns : goal.returns
returns c b name = on-ok c.flush.result (λ sent is.
    let v : Serving = c.args.self.now in
    let k : c.self.inside.shape.k ≡ v.shape.k = ap (λ (w : Serving). w.shape.k) c.self.view_is in
    let parts : stables c.peers.result 0 c.deref.result.now (map (λ r. r.replica) c.deref-2.result.now) ≡ stables c.peers.result 0 v.heads v.replicas
    = ap (λ (hs : List (Option Head)). stables c.peers.result 0 hs (map (λ r. r.replica) c.deref-2.result.now))
    (c.deref.ensures.value ∙ ap (λ (w : Serving). w.heads) c.self.view_is)
    ∙ ap (λ (rs : List Replica). stables c.peers.result 0 v.heads rs) (ap (map (λ r. r.replica)) c.deref-2.ensures.value
    ∙ ap (λ (w : Serving). w.replicas) c.self.view_is) in
    flushes_are_the_machines v.shape v b c.peers.result
    (record { m = c.peers.ensures.m; name = c.peers.ensures.name ∙ sym name; known = c.peers.ensures.known })
    (sym (ap (λ (w : Serving). length w.heads) c.self.view_is) ∙ c.self.invariant.heads_long ∙ k)
    (sym (ap (λ (w : Serving). length w.replicas) c.self.view_is) ∙ long-map (λ r. r.replica) c.self.inside.replicas.items ∙ c.self.invariant.replicas_long ∙ k)
    ∙ ap (λ (xs : List Sent). sending xs (serving v b)) (sym (is ∙ parts))) c.flush.ensures
