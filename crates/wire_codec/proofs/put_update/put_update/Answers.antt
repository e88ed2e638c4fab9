use Rattle.std.proofs.Common.{◌∙◌, ◌++◌, ap, List, ℕ}
use Rattle.wire_codec.specs.Frame.{maybe, run, outcome}
use Rattle.wire_codec.specs.Parts.{delta_of, update_before}
use Rattle.wire_codec.proofs.Puts.{joins_three, update_parts}
use Rattle.wire_codec.proofs.put_update.put_update.Goals as goal

pub returns : goal.returns
returns c =
    let u = c.args.u.now in
    joins_three c.args.out.now.items c.put_update_before.new.out.items c.extend_from_slice.new.self.items
    c.put_effect.new.out.items (update_before u) (delta_of u.body) (maybe run u.frees ++ outcome u.outcome)
    c.in_ok-put_update_before.ensures (c.in_ok-extend_from_slice.ensures.items
    ∙ ap (λ (d : List ℕ). c.put_update_before.new.out.items ++ d) c.delta_of.ensures) c.in_ok-put_effect.ensures
    ∙ ap (λ (t : List ℕ). c.args.out.now.items ++ t) (update_parts u)
