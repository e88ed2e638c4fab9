use Rattle.std.proofs.Common.{◌≡◌, ◌||◌, false, true, List, drop, length, take, ◌-◌, ap, sym, subst, ◌∙◌, arith}
use Rattle.std.proofs.lemmas.List.{drop_at, length-drop, take_all}
use Rattle.group_message.specs.declared.update.Update.{Update}
use Rattle.group_run.specs.Heading.{settlements}
use Rattle.group_run.specs.Replica.{up_to}
use Rattle.partition_replica.specs.State.{is_needed, is_touched}
use Rattle.head_service.specs.Settling.{updates_settled}
use Rattle.head_service.proofs.Seat.{stands-as}
use Rattle.head_service.proofs.Tidying.{updates-are}
use Rattle.head_service.proofs.judge.judge.Goals as goal

pub returns-clause-seat : goal.returns-clause-seat
returns-clause-seat g c =
    let settled : List Update = up_to c.least_acked-number.result c.args.replica.now.replica in
    let behind : drop c.len-before.result c.deref.result.now ≡ settlements c.args.partition.0 settled
    = ap (drop c.len-before.result) (c.deref.ensures.value ∙ c.settle_to.ensures.settled.settled)
    ∙ drop_at c.args.settled.now.items (settlements c.args.partition.0 settled) c.len-before.result (sym c.args.settled.now.ok.0 ∙ sym c.len-before.ensures) in
    let all : updates_settled (take (length c.deref.result.now - c.len-before.result) (drop c.len-before.result c.deref.result.now)) ≡ settled
    = ap updates_settled
    (take_all (length c.deref.result.now - c.len-before.result) (drop c.len-before.result c.deref.result.now)
    (omega (arith, length-drop c.len-before.result c.deref.result.now)) ∙ behind)
    ∙ updates-are c.args.partition.0 settled in
    record {
      stands = stands-as c.settle_to.ensures.stands c.tidy.ensures.shape c.tidy.ensures.replica;
      tidy = c.tidy.ensures.owed (λ _. false) (λ q ready.
          subst (λ (us : List Update).
          (is_needed c.settle_to.new.replica.replica.items c.settle_to.new.replica.replica.log q ||
          (false || is_touched us q)) ≡ true) (sym all)
          (c.settle_to.ensures.owed (λ _. false) c.requires.seat.seat.tidy q ready));
    }
