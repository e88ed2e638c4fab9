use Rattle.transcript_text.proofs.Tests.{tells-no_partition, tells-not_pending, tells-pending}
use Rattle.transcript_text.proofs.answer.is_pending.Goals as goal

pub returns-in-Some-number_below_up_to : goal.returns-in-Some-number_below_up_to
returns-in-Some-number_below_up_to c = rw c.is_some.ensures
    (tells-pending c.args.line.now c.in-Some.numbers.now c.in-Some-number_below_up_to.field-0-0 c.in-Some-number_below_up_to.word.now c.number.result
    c.in-Some.ensures c.in-Some-number_below_up_to.ensures.0 c.in-Some-number_below_up_to.ensures.1 c.number.ensures)

pub returns-in-None-number_below_up_to : goal.returns-in-None-number_below_up_to
returns-in-None-number_below_up_to c = tells-no_partition c.args.line.now c.in-Some.numbers.now c.in-Some.ensures c.in-None-number_below_up_to.ensures

pub returns-in-None : goal.returns-in-None
returns-in-None c = tells-not_pending c.args.line.now c.in-None.ensures
