use Rattle.std.proofs.Common.{◌+◌, ◌-◌, ◌≡◌, length, arith}
use Rattle.transcript_text.proofs.Stamps.{none_here, none_last, one_more, whole}
use Rattle.transcript_text.proofs.shown.read_stamp.Goals as goal

pub returns-in-None-clause-read : goal.returns-in-None-clause-read
returns-in-None-clause-read c = none_here c.args.text.now c.numbers.stamp c.numbers.rest.now c.numbers.place
    (length c.args.stamp.now - 1) c.numbers-test.true c.numbers.invariant c.in-None.ensures

pub numbers-preserved : goal.numbers-preserved
numbers-preserved c =
    let below = c.numbers-test.true in
    one_more c.args.text.now c.numbers.stamp c.numbers.rest.now c.in-Some.more.now c.numbers.place
    (length c.args.stamp.now - 1 + 1) c.in-Some.number (omega (arith, below)) c.numbers.invariant c.in-Some.ensures.0
    c.in-Some.ensures.1

pub returns-in-Some-number-clause-read : goal.returns-in-Some-number-clause-read
returns-in-Some-number-clause-read c =
    let over = c.numbers-test.false in
    let end = c.numbers.auto.place-end in
    whole c.args.text.now c.numbers.stamp c.numbers.rest.now c.numbers.place (length c.args.stamp.now - 1)
    c.in-Some-number.number (omega (arith, over, end)) c.numbers.invariant c.in-Some-number.ensures.1

pub returns-in-None-number-clause-read : goal.returns-in-None-number-clause-read
returns-in-None-number-clause-read c =
    let over = c.numbers-test.false in
    let end = c.numbers.auto.place-end in
    none_last c.args.text.now c.numbers.stamp c.numbers.rest.now c.numbers.place (length c.args.stamp.now - 1)
    (omega (arith, over, end)) c.numbers.invariant c.in-None-number.ensures
