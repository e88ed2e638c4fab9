use Rattle.std.proofs.Common.{◌≡◌, ◌++◌, drop}
use Rattle.group_run.specs.Receiving.{data_marks}
use Rattle.data_process.proofs.reading.mark.Given as goal

abbrev pub invariant-rows : goal.invariant-rows
invariant-rows l = l.sent.items ++ data_marks l.session l.block l.partition.0 l.number (drop l.row-index l.rows)
    ≡ l.initial.sent.items ++ data_marks l.session l.block l.partition.0 l.number l.rows
