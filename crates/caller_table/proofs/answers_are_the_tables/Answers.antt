use Rattle.caller_table.proofs.Chain.{one_table_always}
use Rattle.caller_table.proofs.answers_are_the_tables.Goals as goal

pub returns : goal.returns
returns c = one_table_always
