use Rattle.std.proofs.Common.{ℕ, ◌≡◌, ◌<◌, Option, None, length, refl, ap, sym, subst, ◌∙◌}
use Rattle.group_types.specs.Lists.{put}
use Rattle.group_run.specs.Process.{Head}
use Rattle.head_service.proofs.Least.{acks-back, acks-long}
use Rattle.head_service.proofs.judge.acknowledge.Given as given
use Rattle.head_service.proofs.judge.acknowledge.Goals as goal

pub least_acked-reached-requires : goal.least_acked-reached-requires
least_acked-reached-requires g c =
    acks-long c.args.parity c.args.number c.args.peers.now.m c.args.head.now c.acknowledge.new.self
    c.acknowledge.ensures c.requires.parity c.requires.seat.acks ∙ c.requires.seat.acks

pub judge-requires-clause-seat : goal.judge-requires-clause-seat
judge-requires-clause-seat g c = record {
  seat = c.requires.seat.seat;
  acks = acks-long c.args.parity c.args.number c.args.peers.now.m c.args.head.now c.acknowledge.new.self
      c.acknowledge.ensures c.requires.parity c.requires.seat.acks ∙ c.requires.seat.acks;
}

pub restore-requires : goal.restore-requires
restore-requires g c = subst (λ (n : ℕ). c.args.parity < n)
    (sym (acks-long c.args.parity c.args.number c.args.peers.now.m c.args.head.now c.acknowledge.new.self
    c.acknowledge.ensures c.requires.parity c.requires.seat.acks ∙ c.requires.seat.acks))
    c.requires.parity

pub returns-in-Ok-clause-seat : goal.returns-in-Ok-clause-seat
returns-in-Ok-clause-seat g c = record {
  seat = c.judge.ensures.seat;
  acks = acks-long c.args.parity c.args.number c.args.peers.now.m c.args.head.now c.acknowledge.new.self
      c.acknowledge.ensures c.requires.parity c.requires.seat.acks ∙ c.requires.seat.acks;
}

-- the head is as it was
module _ (g : given.Over) (c : goal.After-restore g) where
  pub restored : c.restore.new.self ≡ c.args.head.now
  restored = c.restore.ensures
      ∙ ap (λ (acked : Option ℕ). record c.acknowledge.new.self { acks = put None c.acknowledge.new.self.acks c.args.parity acked }) c.acked-before.ensures
      ∙ acks-back c.args.parity c.args.number c.args.peers.now.m c.args.head.now c.acknowledge.new.self
      c.acknowledge.ensures c.requires.parity c.requires.seat.acks

pub returns-in-Err-clause-err : goal.returns-in-Err-clause-err
returns-in-Err-clause-err g c = (restored g c, record { replica = refl; process = refl })

pub returns-in-Err-clause-seat : goal.returns-in-Err-clause-seat
returns-in-Err-clause-seat g c = record {
  seat = c.requires.seat.seat;
  acks = ap (λ (h : Head). length h.acks) (restored g c) ∙ c.requires.seat.acks;
}
