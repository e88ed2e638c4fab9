use Rattle.std.proofs.Common.{◌≡◌, ◌++◌, length, take}
use Rattle.group_message.specs.declared.message.Message.TheVariants as tells
use Rattle.group_run.specs.Heading.{to_parities}
use Rattle.head_service.specs.Peers.{to_all}
use Rattle.head_service.proofs.Least.{peers_from}
use Rattle.leader_role.proofs.cease.ceases.Given as goal

abbrev pub invariant-parities : goal.invariant-parities
invariant-parities l = record {
  told : l.sent.items ++ to_parities (peers_from l.peers.name l.peers.known l.peers.m l.parity) (tells.Cease l.last)
      ≡ l.initial.sent.items ++ to_all l.peers (tells.Cease l.last);
  before : take (length l.initial.sent.items) l.sent.items ≡ l.initial.sent.items;
}
