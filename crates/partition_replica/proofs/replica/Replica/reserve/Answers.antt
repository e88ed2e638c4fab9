use Rattle.partition_replica.proofs.Owed.{tidy_reserved}
use Rattle.std.proofs.Common.{[], ◌∷◌}
use Rattle.partition_replica.proofs.replica.Replica.reserve.Goals as goal

pub returns-clause-owed : goal.returns-clause-owed
returns-clause-owed c owed tidy =
    let most = rw c.from_ref.ensures.value at c.reserve_all.ensures.most in
    tidy_reserved c.args.self.now c.reserve_all.new.self (c.args.update.now ∷ []) owed c.reserve_all.ensures.replica most tidy
