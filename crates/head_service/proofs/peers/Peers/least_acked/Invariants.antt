use Rattle.std.proofs.Common.{◌≡◌, ◌≤◌}
use Rattle.group_run.specs.Heading.{least_acked}
use Rattle.head_service.proofs.Least.{peers_from}
use Rattle.head_service.proofs.peers.Peers.least_acked.Given as goal

abbrev pub invariant-parities : goal.invariant-parities
invariant-parities l = record {
  least : l.least ≡ least_acked l.head l.last (peers_from l.self.name l.self.known l.self.m l.parity);
  most : l.least ≤ l.last;
  within : l.parity ≤ l.self.m;
}

abbrev pub decreases-parities : goal.decreases-parities
decreases-parities l = l.parity
