use Rattle.std.proofs.Common.{◌≡◌, ◌-◌, ◌++◌, [], vec_capacity}
use Rattle.std.specs.List.{range_with_len}
use Rattle.membership.specs.Members.{with_dead}
use Rattle.process_service.specs.Noticing.{adoptions, bereaved, successors, waiting}
use Rattle.process_service.proofs.service.Service.prepare.Given as goal

abbrev pub invariant-partitions : goal.invariant-partitions
invariant-partitions l = record {
  known : l.known ≡ with_dead l.fn.self.known l.fn.dead;
  kept : l.notice.known ≡ l.known;
  heads : l.notice.heads.items ++ successors (bereaved l.fn.dead l.fn.self) (range_with_len l.d (l.fn.self.shape.k - l.d))
      ≡ successors (bereaved l.fn.dead l.fn.self) (range_with_len 0 l.fn.self.shape.k);
  sent : l.sent.items ++ adoptions (bereaved l.fn.dead l.fn.self) (range_with_len l.d (l.fn.self.shape.k - l.d))
      ≡ l.initial.sent.items ++ adoptions (bereaved l.fn.dead l.fn.self) (range_with_len 0 l.fn.self.shape.k);
  settled : l.notice.settled.items ≡ [];
  room : vec_capacity l.notice.settled ≡ waiting l.fn.self.replicas;
}
