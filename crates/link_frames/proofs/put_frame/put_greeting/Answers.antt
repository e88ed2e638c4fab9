use Rattle.std.proofs.Common.{◌++◌}
use Rattle.wire_codec.specs.Frame.{two, eight, process}
use Rattle.wire_codec.proofs.Puts.{joins_five}
use Rattle.link_frames.specs.Spelling.{dimensions}
use Rattle.link_frames.proofs.put_frame.put_greeting.Goals as goal

pub returns : goal.returns
returns c =
    let h = c.args.hello.now in
    joins_five c.args.out.now.items c.put_two.new.out.items c.put_pair.new.out.items c.put_shape.new.out.items
    c.put_ends.new.out.items c.put_eight.new.out.items
    (two h.version) (eight h.group.high ++ eight h.group.low) (dimensions h.shape) (process h.from ++ process h.to) (eight h.drawn)
    c.in_ok-put_two.ensures c.in_ok-put_pair.ensures c.in_ok-put_shape.ensures c.in_ok-put_ends.ensures c.in_ok-put_eight.ensures
