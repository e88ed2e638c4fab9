use Rattle.std.proofs.Common.{◌≡◌, ◌≤◌, ◌<◌, ◌++◌, [], true, ℕ, ◌+◌, suc, List, ◌∷◌, length, drop, map, refl, sym, ap, subst, ◌∙◌, arith}
use Rattle.std.proofs.lemmas.Grind.{common_steps}
use Rattle.std.proofs.lemmas.List.{length-append}
use Rattle.group_calls.specs.declared.entry.Entry.{Entry}
use Rattle.group_message.specs.declared.update.Update.{Update}
use Rattle.group_run.specs.Applying.{Settlement}
use Rattle.group_run.specs.Replica.{run_of}
use Rattle.group_run.specs.World.{entry_then, op_in, settled_in, update_name}
use Rattle.group_ledger.specs.Taking.{op_taken}
use Rattle.group_ledger.proofs.Settled.{drop-front, entry-few, is_new, left-settled, new-counts}
use Rattle.group_ledger.proofs.settling.settle_partition.Goals as goal

pub settled-preserved : goal.settled-preserved
settled-preserved c =
    let d : ℕ = c.args.partition in
    let i : ℕ = c.settled.settlement-index in
    let all : List Settlement = c.args.settled.now in
    let x : Settlement = c.settlement-item.result in
    let rest : List Settlement = drop (i + 1) all in
    let within : i < length all = grind (arith, common_steps) in
    let front : drop i all ≡ x ∷ rest = drop-front all i x within c.settlement-item.is in
    let new : is_new d c.len-count.result x ≡ true = sym c.is_new.ensures ∙ c.if-not-is_new.false in
    let same : c.settlement.inside.update ≡ x.update = ap (λ (s : Settlement). s.update) c.settlement.view_is in
    let more : length (settled_in d (drop i all)) ≡ suc (length (settled_in d rest))
    = ap (λ (xs : List Settlement). length (settled_in d xs)) front ∙ new-counts d c.len-count.result x rest new in
    let shorter : length (drop i all) ≡ suc (length rest) = ap length front in
    let log-is = c.settle.ensures.log ∙ ap (λ (u : Update). c.settled.log.items ++ entry_then u (op_in (update_name u) c.settled.tickets) []) same in
    let places-are = c.settle.ensures.places ∙ ap (λ (u : Update). c.settled.places.items ++ run_of u.body ∷ []) same in
    let tickets-are = c.settle.ensures.tickets ∙ ap (λ (u : Update). map (op_taken (update_name u)) c.settled.tickets) same in
    let few : length c.settle.new.log.items ≤ length c.settled.log.items + 1
    = subst (λ (es : List Entry). length es ≤ length c.settled.log.items + 1) (sym log-is)
    (entry-few x.update (op_in (update_name x.update) c.settled.tickets) c.settled.log.items) in
    let longer : length c.settle.new.places.items ≡ length c.settled.places.items + 1 = ap length places-are
    ∙ length-append c.settled.places.items (run_of x.update.body ∷ []) in
    record {
      left = left-settled d c.len-count.result (drop i all) rest x c.settled.log.items c.settle.new.log.items _
          c.settled.places.items c.settle.new.places.items _
          c.settled.tickets c.settle.new.tickets _ front new log-is places-are tickets-are c.settled.invariant.left;
      count = refl;
      few = grind (arith, common_steps);
      log_capacity = grind (arith, common_steps);
      places_room = grind (arith, common_steps);
    }
