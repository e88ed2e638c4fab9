use Rattle.std.proofs.Common.{◌≡◌, ◌++◌}
use Rattle.group_run.specs.Heading.{to_parities}
use Rattle.head_service.specs.Telling.{message_of}
use Rattle.head_service.proofs.Least.{peers_from}
use Rattle.head_service.proofs.peers.Peers.tell.Given as goal

abbrev pub invariant-parities : goal.invariant-parities
invariant-parities l = l.sent.items ++ to_parities (peers_from l.self.name l.self.known l.self.m l.parity) (message_of l.rank l.partition l.news)
    ≡ l.initial.sent.items ++ to_parities (peers_from l.self.name l.self.known l.self.m 0) (message_of l.rank l.partition l.news)
