use Rattle.std.proofs.Common.{◌≡◌, true, ℕ, List, subst, sym, arith}
use Rattle.std.proofs.lemmas.Bool.{true≢false}
use Rattle.partition_replica.specs.State.{HasRoom, ReplicaState, is_among}
use Rattle.partition_replica.specs.Inside.{ready_in}
use Rattle.partition_replica.proofs.Rooms.{room_kept}
use Rattle.partition_replica.proofs.replica.Replica.reserve_all.Goals as goal

pub returns-in_err-prepare-clause-kept : goal.returns-in_err-prepare-clause-kept
returns-in_err-prepare-clause-kept c us has =
    let inside : HasRoom (record { spare = c.self.inside.spare; ready = ready_in c.self.inside.index }) us =
    subst (λ (s : ReplicaState). HasRoom s.room us) (sym c.self.view_is) has in
    room_kept _ (record { spare = c.self.inside.spare; ready = ready_in c.prepare.new.index }) (omega arith) c.prepare.ensures.kept us inside

pub returns-in_err-prepare-clause-succeeds : goal.returns-in_err-prepare-clause-succeeds
returns-in_err-prepare-clause-succeeds c has =
    let inside : HasRoom (record { spare = c.self.inside.spare; ready = ready_in c.self.inside.index })
    c.args.updates.now = subst (λ (s : ReplicaState). HasRoom s.room c.args.updates.now) (sym c.self.view_is) has in
    absurd (true≢false (sym (c.in_err-prepare.ensures.succeeds inside.ready)))

pub returns-then-updates-self-clause-kept : goal.returns-then-updates-self-clause-kept
returns-then-updates-self-clause-kept c us has =
    let inside : HasRoom (record { spare = c.self.inside.spare; ready = ready_in c.self.inside.index }) us =
    subst (λ (s : ReplicaState). HasRoom s.room us) (sym c.self.view_is) has in
    room_kept _ (record { spare = c.self.inside.spare; ready = ready_in c.prepare.new.index }) (omega arith) c.prepare.ensures.kept us inside

pub returns-clause-kept : goal.returns-clause-kept
returns-clause-kept c us has =
    let inside : HasRoom (record { spare = c.self.inside.spare; ready = ready_in c.self.inside.index }) us =
    subst (λ (s : ReplicaState). HasRoom s.room us) (sym c.self.view_is) has in
    room_kept _ c.grow.new.self.room (omega (arith, c.grow.ensures.spare))
    (λ q was. subst (λ (ready : List (List ℕ)). is_among ready q ≡ true) (sym c.grow.ensures.ready)
    (c.prepare.ensures.kept q was)) us inside
