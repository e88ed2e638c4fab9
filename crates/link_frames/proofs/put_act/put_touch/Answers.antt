use Rattle.std.proofs.Common.{◌∷◌, ◌++◌, ◌∙◌, ap, ℤ, w64}
use Rattle.std.proofs.Math.Facts.{to_z-of_z}
use Rattle.wire_codec.specs.Frame.{short}
use Rattle.wire_codec.proofs.Puts.{joins_two}
use Rattle.link_frames.specs.Spelling.{signed}
use Rattle.link_frames.proofs.put_act.put_touch.Goals as goal

pub returns : goal.returns
returns c =
    let written = c.in_ok-put_signed.ensures ∙ ap (λ (z : ℤ). c.put_key.new.out.items ++ signed z) (to_z-of_z {w = w64} {z = c.args.expiry} c.ranges.expiry) in
    joins_two c.args.out.now.items c.put_key.new.out.items c.put_signed.new.out.items (6 ∷ short c.args.key.now)
    (signed c.args.expiry) c.in_ok-put_key.ensures written
