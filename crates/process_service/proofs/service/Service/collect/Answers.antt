use Rattle.std.proofs.Common.{ℕ, ◌≡◌, ◌<◌, ◌-◌, [], List, not, length, is_some, ap, sym, ◌∙◌, arith}
use Rattle.std.specs.Prelude.{find}
use Rattle.std.proofs.lemmas.Grind.{common_steps}
use Rattle.group_types.specs.Lists.{at}
use Rattle.std.specs.List.{range_with_len}
use Rattle.group_run.specs.Asking.{collect_from, is_call, only}
use Rattle.group_run.specs.Process.{Held}
use Rattle.group_run.specs.Replica.{empty_replica}
use Rattle.head_service.specs.Serving.{Serving, serving}
use Rattle.process_service.specs.contracts.service.Service.{the_view}
use Rattle.process_service.proofs.Lists.{long-map, none-of, part-at, part-put}
use Rattle.process_service.proofs.Search.{collected-as, passed}
use Rattle.process_service.proofs.service.Service.collect.Goals as goal

pub partitions-preserved : goal.partitions-preserved
partitions-preserved c =
    let same : the_view c.partitions.self-inside ≡ c.args.self.now = ap the_view c.partitions.invariant.same ∙ c.self.view_is in
    let k : c.self.inside.shape.k ≡ c.args.self.now.shape.k = ap (λ (v : Serving). v.shape.k) c.self.view_is in
    let below : c.partitions.d < c.args.self.now.shape.k = grind (arith, common_steps) in
    let calls : at [] c.args.self.now.held c.partitions.d ≡ c.deref.result.now
    = ap (λ (v : Serving). at [] v.held c.partitions.d) (sym same)
    ∙ part-at (λ h. h.items) [] c.partitions.self-inside.held.items c.partitions.d c.index.result.now grind (arith, common_steps) c.index.ensures
    ∙ sym c.deref.ensures.value in
    record {
      same = c.partitions.invariant.same;
      caller = c.partitions.invariant.caller;
      call = c.partitions.invariant.call;
      ahead = λ b. c.partitions.invariant.ahead b ∙ passed c.args.caller c.args.call c.args.self.now.shape.k c.partitions.d c.args.self.now b below
          (ap (find (is_call c.args.caller c.args.call)) calls ∙ sym c.look_up.ensures
          ∙ none-of c.look_up.result (c.is_none.ensures ∙ ap not c.if-is_none.true));
    }

pub returns-in-partitions-clause-answer : goal.returns-in-partitions-clause-answer
returns-in-partitions-clause-answer c b =
    let v : Serving = the_view c.partitions.self-inside in
    let d : ℕ = c.partitions.d in
    let k : ℕ = c.args.self.now.shape.k in
    let same : v ≡ c.args.self.now = ap the_view c.partitions.invariant.same ∙ c.self.view_is in
    let wide : c.self.inside.shape.k ≡ k = ap (λ (v : Serving). v.shape.k) c.self.view_is in
    let below : d < k = grind (arith, common_steps) in
    let has_held : d < length c.partitions.self-inside.held.items = grind (arith, common_steps) in
    let has_replica : d < length c.partitions.self-inside.replicas.items = grind (arith, common_steps) in
    let calls : c.index_mut.result.now.items ≡ at [] v.held d
    = sym (part-at (λ h. h.items) [] c.partitions.self-inside.held.items d c.index_mut.result.now has_held c.index_mut.ensures.value) in
    let looked : c.deref.result.now ≡ c.index_mut.result.now.items
    = c.deref.ensures.value ∙ sym (part-at (λ h. h.items) [] c.partitions.self-inside.held.items d c.index.result.now has_held c.index.ensures) ∙ sym calls in
    c.partitions.invariant.ahead b
    ∙ ap (λ (w : Serving). collect_from c.args.caller c.args.call (serving w b) (range_with_len d (k - d))) (sym same)
    ∙ collected-as c.args.caller c.args.call k d v b below (omega (arith, has_held, long-map (λ h. h.items) c.partitions.self-inside.held.items))
    c.hand_out.result c.applied-applied.result c.index_mut.result.now.items c.hand_out.new.held.items
    (c.applied-applied.ensures ∙ sym (ap (λ r. r.applied)
    (part-at (λ r. r.replica) empty_replica c.partitions.self-inside.replicas.items d c.index-in-partitions.result.now
    has_replica c.index-in-partitions.ensures)))
    calls c.hand_out.ensures.answer c.hand_out.ensures.held
    (ap (λ (xs : List Held). is_some (find (is_call c.args.caller c.args.call) xs)) (sym looked)
    ∙ ap is_some (sym c.look_up.ensures) ∙ c.is_none.ensures ∙ ap not c.if-is_none.false)
    ∙ ap (λ (held : List (List Held)). only c.hand_out.result (serving (record v { held = held }) b))
    (sym (part-put (λ h. h.items) [] c.partitions.self-inside.held.items d c.hand_out.new.held has_held))
