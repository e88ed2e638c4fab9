use Rattle.std.proofs.Common.{ℕ, ◌+◌, ◌∷◌, ◌++◌, [], List, ap, sym, ◌∙◌}
use Rattle.std.proofs.lemmas.List.{append_assoc}
use Rattle.group_types.specs.declared.process.ProcessId.TheVariants.{ParityNode}
use Rattle.group_message.specs.declared.message.Message.{Message}
use Rattle.group_run.specs.Applying.{Sent}
use Rattle.group_run.specs.Heading.{to_parities}
use Rattle.head_service.specs.Telling.{message_of}
use Rattle.head_service.proofs.Least.{peers-with, peers-without, peers_from}
use Rattle.head_service.proofs.peers.Peers.tell.Goals as goal

pub parities-preserved-then-not-has : goal.parities-preserved-then-not-has
parities-preserved-then-not-has c =
    ap (λ (is : List ℕ). c.parities.sent.items ++ to_parities is (message_of c.args.rank c.args.partition c.args.news.now))
    (sym (peers-without c.args.self.now.name c.args.self.now.known c.args.self.now.m c.parities.parity
    c.parities-test.true (sym c.has.ensures ∙ c.if-not-has.true)))
    ∙ c.parities.invariant

pub parities-preserved : goal.parities-preserved
parities-preserved c =
    let rest : List ℕ = peers_from c.args.self.now.name c.args.self.now.known c.args.self.now.m (c.parities.parity + 1) in
    ap (λ (sent : List Sent). sent ++ to_parities rest (message_of c.args.rank c.args.partition c.args.news.now)) c.in_ok-push.ensures.items
    ∙ ap (λ (m : Message). (c.parities.sent.items ++ record { to = ParityNode c.parities.parity; message = m } ∷ [])
    ++ to_parities rest (message_of c.args.rank c.args.partition c.args.news.now)) c.in_ok-message.ensures
    ∙ append_assoc c.parities.sent.items (record { to = ParityNode c.parities.parity; message = message_of c.args.rank c.args.partition c.args.news.now } ∷ [])
    (to_parities rest (message_of c.args.rank c.args.partition c.args.news.now))
    ∙ ap (λ (is : List ℕ). c.parities.sent.items ++ to_parities is (message_of c.args.rank c.args.partition c.args.news.now))
    (sym (peers-with c.args.self.now.name c.args.self.now.known c.args.self.now.m c.parities.parity c.parities-test.true
    (sym c.has.ensures ∙ c.if-not-has.false)))
    ∙ c.parities.invariant
