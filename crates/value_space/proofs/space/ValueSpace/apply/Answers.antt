use Rattle.std.proofs.Common.{◌≡◌, length, subst, sym, ap, ◌∙◌, arith}
use Rattle.page_map.specs.Spaces.{AllMade}
use Rattle.page_map.proofs.Spaces.{all_found}
use Rattle.value_space.specs.Space.{Space}
use Rattle.value_space.proofs.space.ValueSpace.apply.Goals as goal

pub add-requires-clause-there : goal.add-requires-clause-there
add-requires-clause-there c =
    let ready = subst (λ (s : Space). AllMade s.shape.block c.args.run s.made) (sym c.self.view_is) c.requires.ready in
    let long : length c.bytes.result.now ≡ c.args.run.len = ap length c.bytes.ensures ∙ c.requires.length in
    all_found c.self.inside.pages c.self.inside.shape.block c.args.run.at (length c.bytes.result.now) c.self.invariant.1
    (λ a from below. ready a from (omega (arith, long)))
