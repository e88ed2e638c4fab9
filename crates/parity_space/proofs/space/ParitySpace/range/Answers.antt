use Rattle.std.proofs.Common.{◌≡◌, ◌*◌, subst, sym, ap₂, arith}
use Rattle.page_map.specs.Spaces.{LiesIn}
use Rattle.parity_space.specs.Space.{CodedSpace}
use Rattle.parity_space.proofs.space.ParitySpace.range.Goals as goal

pub range-requires : goal.range-requires
range-requires c =
    let within = subst (λ (s : CodedSpace). LiesIn c.args.run s.shape) (sym c.self.view_is) c.requires in
    let area : c.self.inside.pages.blocks * c.self.inside.pages.block
    ≡ c.self.inside.shape.blocks * c.self.inside.shape.block =
    ap₂ (λ x y. x * y) c.self.invariant.1 c.self.invariant.2 in
    omega (arith, within, area)

pub returns : goal.returns
returns c = rw (← c.self.view_is) c.range.ensures
