use Rattle.std.proofs.Common.{◌↔◌, IsTrue, subst}
use Rattle.membership.specs.Members.{Membership}
use Rattle.membership.proofs.Within.{AllWithin, by-data, by-parity}
use Rattle.membership.proofs.members.Members.is_within.Goals as goal

pub returns-then-are_within : goal.returns-then-are_within
returns-then-are_within c =
    let m : Membership = record { shape = c.self.inside.shape; data_dead = c.self.inside.data_dead; parity_dead = c.self.inside.parity_dead } in
    let n : Membership = record { shape = c.others.inside.shape; data_dead = c.others.inside.data_dead; parity_dead = c.others.inside.parity_dead } in
    subst (λ (x : Membership). IsTrue c.are_within-then-are_within.result ↔ AllWithin x c.args.others.now) c.self.view_is
    (subst (λ (x : Membership). IsTrue c.are_within-then-are_within.result ↔ AllWithin m x) c.others.view_is
    (by-parity m n c.are_within.result c.are_within-then-are_within.result c.are_within.ensures c.if-are_within.true c.are_within-then-are_within.ensures))

pub returns-else-are_within : goal.returns-else-are_within
returns-else-are_within c =
    let m : Membership = record { shape = c.self.inside.shape; data_dead = c.self.inside.data_dead; parity_dead = c.self.inside.parity_dead } in
    let n : Membership = record { shape = c.others.inside.shape; data_dead = c.others.inside.data_dead; parity_dead = c.others.inside.parity_dead } in
    subst (λ (x : Membership). IsTrue c.are_within.result ↔ AllWithin x c.args.others.now) c.self.view_is
    (subst (λ (x : Membership). IsTrue c.are_within.result ↔ AllWithin m x) c.others.view_is
    (by-data m n c.are_within.result c.are_within.ensures c.if-are_within.false))
