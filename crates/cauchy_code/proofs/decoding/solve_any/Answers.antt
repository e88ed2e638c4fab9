use Rattle.std.proofs.Common.{arith}
use Rattle.std.proofs.lemmas.List.{length-map}
use Rattle.group_types.specs.Pieces.{numbers_of}
use Rattle.cauchy_code.proofs.Solutions.{at_most, none_lost}
use Rattle.cauchy_code.proofs.decoding.solve_any.Goals as goal

pub returns-in_default-clause-solved : goal.returns-in_default-clause-solved
returns-in_default-clause-solved c =
    let few = at_most (numbers_of c.args.rows.now) c.args.m c.requires.rows_differ c.requires.rows_below in
    none_lost c.args.m _ c.args.lost.now c.args.rows.now c.args.known.now c.args.out.now
    (omega (arith, few, length-map c.args.rows.now (λ p. p.number), c.requires.rows, c.requires.m, c.in_default))
