use Rattle.partition_replica.proofs.Owed.{tidy_reserved}
use Rattle.partition_replica.proofs.replica.Replica.reserve_list.Goals as goal

pub returns-clause-owed : goal.returns-clause-owed
returns-clause-owed c owed tidy =
    let most = rw c.updates.ensures at c.reserve_all.ensures.most in
    tidy_reserved c.args.self.now c.reserve_all.new.self c.args.list.now owed c.reserve_all.ensures.replica most tidy
