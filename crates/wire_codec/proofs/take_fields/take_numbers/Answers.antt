use Rattle.std.specs.Int.{w64}
use Rattle.std.proofs.lemmas.Result.{err_from_is_err_and}
use Rattle.wire_codec.specs.Reading.{decode_number, many_at}
use Rattle.wire_codec.proofs.Many.{goes_on, ends, is_done}
use Rattle.wire_codec.proofs.take_fields.take_numbers.Goals as goal

pub returns-in_err-number : goal.returns-in_err-number
returns-in_err-number c =
    let p = err_from_is_err_and c.from_residual.result c.from_residual.ensures.1 in
    rw (p.1, p.2) (ends (decode_number w64) c.in_err-number.field-0.0 c.numbers.numbers.items c.args.count c.numbers.counter
    c.numbers.rest.now (many_at (decode_number w64) c.args.count c.args.bytes.now) c.numbers-test.true
    c.in_err-number.ensures c.numbers.invariant)

pub numbers-preserved : goal.numbers-preserved
numbers-preserved c =
    rw c.in_ok-push.ensures.items
    (goes_on (decode_number w64) c.numbers.numbers.items c.args.count c.numbers.counter c.numbers.rest.now
    c.in_ok-number.number c.in_ok-number.behind.now (many_at (decode_number w64) c.args.count c.args.bytes.now)
    c.numbers-test.true c.in_ok-number.ensures c.numbers.invariant)

pub returns : goal.returns
returns c = is_done (decode_number w64) c.numbers.numbers.items c.args.count c.numbers.counter c.numbers.rest.now
    (many_at (decode_number w64) c.args.count c.args.bytes.now) c.numbers-test.false c.numbers.invariant
