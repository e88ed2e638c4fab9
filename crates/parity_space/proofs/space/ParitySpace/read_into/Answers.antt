use Rattle.std.proofs.Common.{◌≡◌, ◌*◌, length, take, drop, subst, sym, ap, ap₂, ◌∙◌, arith}
use Rattle.page_map.specs.Spaces.{LiesIn, page_bytes}
use Rattle.page_map.proofs.Spaces.{bytes_read}
use Rattle.parity_space.specs.Space.{CodedSpace}
use Rattle.parity_space.proofs.space.ParitySpace.read_into.Goals as goal

pub returns : goal.returns
returns c =
    let pages = c.self.inside.pages in
    let into = c.read_into.new.into in
    let within = subst (λ (s : CodedSpace). LiesIn c.args.run s.shape) (sym c.self.view_is) c.requires.within in
    let area : pages.blocks * pages.block ≡ c.self.inside.shape.blocks * c.self.inside.shape.block = ap₂ (λ x y. x * y) c.self.invariant.1 c.self.invariant.2 in
    let long : length into ≡ c.args.run.len = c.read_into.auto.into ∙ c.requires.length in
    let read = bytes_read pages c.args.run.at into (omega (arith, within, area, long)) c.read_into.ensures in
    rw (← c.self.view_is) (read ∙ ap (λ n. take n (drop c.args.run.at (page_bytes pages))) long)
