use Rattle.std.proofs.lemmas.Result.{err_from_is_err_and}
use Rattle.wire_codec.specs.Reading.{update_at, many_at}
use Rattle.wire_codec.proofs.Many.{goes_on, ends, is_done}
use Rattle.wire_codec.proofs.take_fields.take_all.Goals as goal

pub returns-in_err-update : goal.returns-in_err-update
returns-in_err-update c =
    let p = err_from_is_err_and c.from_residual.result c.from_residual.ensures.1 in
    rw (p.1, p.2) (ends update_at c.in_err-update.field-0.0 c.updates.updates.items c.args.count c.updates.counter
    c.updates.rest.now (many_at update_at c.args.count c.args.bytes.now) c.updates-test.true c.in_err-update.ensures
    c.updates.invariant)

pub updates-preserved : goal.updates-preserved
updates-preserved c =
    rw c.in_ok-push.ensures.items
    (goes_on update_at c.updates.updates.items c.args.count c.updates.counter c.updates.rest.now c.in_ok-update.update
    c.in_ok-update.behind.now (many_at update_at c.args.count c.args.bytes.now) c.updates-test.true
    c.in_ok-update.ensures c.updates.invariant)

pub returns : goal.returns
returns c = is_done update_at c.updates.updates.items c.args.count c.updates.counter c.updates.rest.now
    (many_at update_at c.args.count c.args.bytes.now) c.updates-test.false c.updates.invariant
