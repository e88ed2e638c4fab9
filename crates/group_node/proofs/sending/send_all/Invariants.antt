use Rattle.std.proofs.Common.{◌≡◌, length}
use Rattle.std.specs.Vec.Iter.{into_iter_items, into_iter_len}
use Rattle.group_node.proofs.Sent.{IsSending}
use Rattle.group_node.proofs.sending.send_all.Given as goal

abbrev pub invariant-messages : goal.invariant-messages
invariant-messages l = record {
  sends : IsSending l.shape l.known l.fn.sent.items (into_iter_items l.one-iterator) l.initial.links l.links;
  long : length (into_iter_items l.one-iterator) ≡ into_iter_len l.one-iterator;
}
