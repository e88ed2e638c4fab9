use Rattle.std.proofs.Common.{◌≡◌, ◌<◌, ◌++◌, length, ap, arith}
use Rattle.std.proofs.lemmas.List.{length-map}
use Rattle.group_types.specs.Pieces.{length_of, numbers_of}
use Rattle.group_types.specs.declared.piece_list.Piece.{Piece}
use Rattle.erasure_code.proofs.Lists.{All-left, All-right, differ_right}
use Rattle.cauchy_code.specs.Solving.{IsSolved}
use Rattle.cauchy_code.proofs.Recovery.{decoded_from}
use Rattle.cauchy_code.proofs.Solutions.{at_most}
use Rattle.cauchy_code.proofs.decoding.decode.Goals as goal

pub solve_any-requires-clause-known_below : goal.solve_any-requires-clause-known_below
solve_any-requires-clause-known_below c =
    rw c.pieces-2.ensures (λ k d below.
    let less = All-right (λ x. x < c.args.shape.k) c.args.lost.now (numbers_of c.args.known.now) c.requires.partitions.below k d below in
    omega (arith, less, c.m.ensures.in_range.k))

pub solve_any-requires-clause-few_known : goal.solve_any-requires-clause-few_known
solve_any-requires-clause-few_known c =
    let known = c.args.known.now in
    let few = at_most (numbers_of known) c.args.shape.k
    (differ_right c.args.lost.now (numbers_of known) c.requires.partitions.different)
    (All-right (λ x. x < c.args.shape.k) c.args.lost.now (numbers_of known) c.requires.partitions.below) in
    omega (arith, few, c.m.ensures.in_range.k, length-map known (λ p. p.number), ap length c.pieces-2.ensures)

pub returns : goal.returns
returns c =
    let n = length_of (c.args.rows.now ++ c.args.known.now ++ c.args.out.now) in
    let long = λ (p : Piece). length p.bytes ≡ n in
    let all = All-left long (c.args.rows.now ++ c.args.known.now) c.args.out.now c.requires.long in
    let solved : IsSolved c.args.shape.m n c.args.lost.now c.args.rows.now c.args.known.now c.solve_any.new.out =
    rw (c.m.ensures.value, c.pieces.ensures, c.pieces-2.ensures) at c.solve_any.ensures.solved in
    let is = decoded_from c.args.shape.k c.args.shape.m n c.args.lost.now c.args.rows.now c.args.known.now
    c.solve_any.new.out (omega (arith, c.m.ensures.in_range.k, c.m.ensures.in_range.m))
    c.requires.partitions c.requires.rows_differ c.requires.rows_below c.requires.as_many (rw c.solve_any.ensures.numbers c.requires.out)
    (All-left long c.args.rows.now c.args.known.now all) (All-right long c.args.rows.now c.args.known.now all) solved in
    record { numbers = c.solve_any.ensures.numbers; kept = c.solve_any.ensures.kept; agrees = is.agrees; only = is.only; closed_form = is.closed }
