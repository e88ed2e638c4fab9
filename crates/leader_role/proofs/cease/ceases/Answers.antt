use Rattle.std.proofs.Common.{ℕ, List, [], ◌∷◌, refl, sym, ◌∙◌, ◌++◌}
use Rattle.group_types.specs.declared.process.ProcessId.TheVariants.{ParityNode}
use Rattle.group_message.specs.declared.message.Message.TheVariants as tells
use Rattle.group_run.specs.Applying.{Sent}
use Rattle.group_run.specs.Heading.{to_parities}
use Rattle.head_service.specs.Peers.{to_all}
use Rattle.head_service.proofs.Least.{is_peer}
use Rattle.leader_role.proofs.Ranges.{added, front-kept, skipped}
use Rattle.leader_role.proofs.cease.ceases.Goals as goal

pub parities-preserved-then-not-has : goal.parities-preserved-then-not-has
parities-preserved-then-not-has c = record {
  told = skipped (is_peer c.args.peers.now.name c.args.peers.now.known) c.args.peers.now.m c.parities.parity c.parities-test.true
      (λ (is : List ℕ). to_parities is (tells.Cease c.args.last)) c.parities.sent.items
      (c.args.sent.now.items ++ to_all c.args.peers.now (tells.Cease c.args.last))
      (sym c.has.ensures ∙ c.if-not-has.true) c.parities.invariant.told;
  before = c.parities.invariant.before;
}

pub parities-preserved : goal.parities-preserved
parities-preserved c =
    let cease : Sent = record { to = ParityNode c.parities.parity; message = tells.Cease c.args.last } in
    record {
      told = added (is_peer c.args.peers.now.name c.args.peers.now.known) c.args.peers.now.m c.parities.parity c.parities-test.true
          (λ (is : List ℕ). to_parities is (tells.Cease c.args.last)) c.parities.sent.items c.push.new.self.items
          (cease ∷ []) (c.args.sent.now.items ++ to_all c.args.peers.now (tells.Cease c.args.last))
          (sym c.has.ensures ∙ c.if-not-has.false) c.in_ok-push.ensures.items refl c.parities.invariant.told;
      before = front-kept c.args.sent.now.items c.parities.sent.items c.push.new.self.items cease c.in_ok-push.ensures.items c.parities.invariant.before;
    }
