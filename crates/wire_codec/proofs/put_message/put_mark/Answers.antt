use Rattle.std.proofs.Common.{◌∷◌}
use Rattle.wire_codec.specs.Frame.{one, four, eight, session}
use Rattle.wire_codec.proofs.Puts.{joins_five}
use Rattle.wire_codec.proofs.put_message.put_mark.Goals as goal

pub returns : goal.returns
returns c =
    joins_five c.args.out.now.items c.put_session.new.out.items c.put_one.new.out.items c.put_four.new.out.items
    c.put_one-2.new.out.items c.put_eight.new.out.items
    (7 ∷ session c.args.session) (one c.args.rank.0) (four c.args.block) (one c.args.mark.0.0) (eight c.args.mark.1)
    c.in_ok-put_session.ensures c.in_ok-put_one.ensures c.in_ok-put_four.ensures c.in_ok-put_one-2.ensures c.in_ok-put_eight.ensures
