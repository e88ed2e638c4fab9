use Rattle.std.proofs.Common.{◌∙◌, ◌++◌, ap, List, ℕ}
use Rattle.wire_codec.specs.Frame.{one, eight, short}
use Rattle.wire_codec.specs.Parts.{body_before}
use Rattle.wire_codec.proofs.Puts.{joins_five}
use Rattle.wire_codec.proofs.put_update.put_update_before.Goals as goal

pub returns : goal.returns
returns c =
    let u = c.args.u.now in
    joins_five c.args.out.now.items c.put_eight.new.out.items c.put_one.new.out.items c.put_eight-2.new.out.items
    c.put_short.new.out.items c.put_body_before.new.out.items
    (eight u.number) (one u.caller) (eight u.call) (short u.key) (body_before u.body)
    c.in_ok-put_eight.ensures c.in_ok-put_one.ensures c.in_ok-put_eight-2.ensures (c.in_ok-put_short.ensures
    ∙ ap (λ (k : List ℕ). c.put_eight-2.new.out.items ++ short k) c.bytes.ensures.value)
    c.in_ok-put_body_before.ensures
