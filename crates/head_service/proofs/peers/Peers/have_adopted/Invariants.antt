use Rattle.std.proofs.Common.{◌≡◌, ◌≤◌, None, is_some}
use Rattle.std.specs.List.{list_all}
use Rattle.group_types.specs.Lists.{at}
use Rattle.head_service.proofs.Least.{peers_from}
use Rattle.head_service.proofs.peers.Peers.have_adopted.Given as goal

abbrev pub invariant-parities : goal.invariant-parities
invariant-parities l = record {
  all : l.all ≡ list_all (λ i. is_some (at None l.head.acks i)) (peers_from l.self.name l.self.known l.self.m l.parity);
  within : l.parity ≤ l.self.m;
}

abbrev pub decreases-parities : goal.decreases-parities
decreases-parities l = l.parity
