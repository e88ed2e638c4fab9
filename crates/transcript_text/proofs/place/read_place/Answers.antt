use Rattle.transcript_text.proofs.Fronts.{no_at, no_len, no_number, no_partition}
use Rattle.transcript_text.proofs.place.read_place.Goals as goal

pub returns-in_err-partition : goal.returns-in_err-partition
returns-in_err-partition c = rw c.from_residual-in_err-partition.ensures
    (no_partition c.args.line.now c.in_ok-numbers.numbers.now c.in_ok-numbers.ensures c.in_err-partition.ensures)

pub returns-in_err-number : goal.returns-in_err-number
returns-in_err-number c = rw c.from_residual-in_err-number.ensures
    (no_number c.args.line.now c.in_ok-numbers.numbers.now c.in_ok-partition.partition c.in_ok-partition.numbers.now c.in_ok-numbers.ensures
    c.in_ok-partition.ensures.0 c.in_ok-partition.ensures.1 c.in_err-number.ensures)

pub returns-in_err-at : goal.returns-in_err-at
returns-in_err-at c = rw c.from_residual-in_err-at.ensures
    (no_at c.args.line.now c.in_ok-numbers.numbers.now c.in_ok-partition.partition c.in_ok-partition.numbers.now
    c.in_ok-number.number c.in_ok-number.numbers.now c.in_ok-numbers.ensures
    c.in_ok-partition.ensures.0 c.in_ok-partition.ensures.1 c.in_ok-number.ensures.0 c.in_ok-number.ensures.1 c.in_err-at.ensures)

pub returns-in_err-len : goal.returns-in_err-len
returns-in_err-len c = rw c.from_residual-in_err-len.ensures
    (no_len c.args.line.now c.in_ok-numbers.numbers.now c.in_ok-partition.partition c.in_ok-partition.numbers.now
    c.in_ok-number.number c.in_ok-number.numbers.now c.in_ok-at.at c.in_ok-at.word.now
    c.in_ok-numbers.ensures c.in_ok-partition.ensures.0 c.in_ok-partition.ensures.1 c.in_ok-number.ensures.0
    c.in_ok-number.ensures.1 c.in_ok-at.ensures.0 c.in_ok-at.ensures.1 c.in_err-len.ensures)
