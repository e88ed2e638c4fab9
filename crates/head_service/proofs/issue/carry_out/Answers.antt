use Rattle.std.proofs.Common.{◌≡◌, ◌||◌, ◌∷◌, ◌++◌, [], false, true, List, ap, sym, subst, ◌∙◌}
use Rattle.group_message.specs.declared.update.Update.{Update}
use Rattle.group_run.specs.Applying.{Settlement}
use Rattle.group_run.specs.Heading.{settlements}
use Rattle.group_run.specs.Replica.{up_to}
use Rattle.partition_replica.specs.State.{is_needed, is_touched}
use Rattle.head_service.specs.Settling.{updates_settled}
use Rattle.head_service.proofs.Seat.{stands-as, stands-with}
use Rattle.head_service.proofs.Tidying.{received-tidy, updates-are}
use Rattle.head_service.proofs.issue.carry_out.Goals as goal

pub settle_to-requires-clause-stands : goal.settle_to-requires-clause-stands
settle_to-requires-clause-stands g c = stands-with c.requires.seat.stands c.args.update c.receive.ensures.shape c.receive.ensures.replica c.requires.room.ready

pub returns-clause-seat : goal.returns-clause-seat
returns-clause-seat g c =
    let settled : List Update = up_to c.args.prepared.number c.receive.new.self.replica in
    let all : updates_settled c.deref.result.now ≡ settled
    = ap updates_settled (c.deref.ensures.value ∙ c.settle_to.ensures.settled.settled
    ∙ ap (λ (xs : List Settlement). xs ++ settlements c.args.partition.0 settled) c.requires.settled.empty)
    ∙ updates-are c.args.partition.0 settled in
    record {
      stands = stands-as c.settle_to.ensures.stands c.tidy.ensures.shape c.tidy.ensures.replica;
      tidy = c.tidy.ensures.owed (λ _. false) (λ q ready.
          subst (λ (us : List Update).
          (is_needed c.settle_to.new.replica.replica.items c.settle_to.new.replica.replica.log q ||
          (false || is_touched us q)) ≡ true) (sym all)
          (c.settle_to.ensures.owed (λ _. false)
          (received-tidy c.args.replica.now c.receive.new.self c.args.update c.receive.ensures.replica
          (c.receive.ensures.owed (is_touched (c.args.update ∷ [])) c.requires.seat.tidy))
          q ready));
    }
