use Rattle.group_wire.proofs.Example.{a_failure_may_come}
use Rattle.group_wire.proofs.rows.row_a_failure_may_come.Goals as goal

pub returns : goal.returns
returns c = a_failure_may_come
