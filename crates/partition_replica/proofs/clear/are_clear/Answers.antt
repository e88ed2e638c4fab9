use Rattle.partition_replica.proofs.Meeting.{clear_is}
use Rattle.partition_replica.proofs.clear.are_clear.Goals as goal

pub returns-in-Some-Some : goal.returns-in-Some-Some
returns-in-Some-Some c = rw (c.in-Some-Some.is-0, c.in-Some-Some.is-1) (clear_is c.in-Some-Some.one c.in-Some-Some.other c.do_meet.result c.do_meet.ensures)
