use Rattle.std.proofs.Common.{◌≡◌, ◌+◌, ◌<◌, ◌++◌, List, length, get_or, All, Contains, sym, ap, ◌∙◌, refl, arith}
use Rattle.std.proofs.lemmas.List.Elements.{All-get_or}
use Rattle.field_matrix.specs.Grids.{entry}
use Rattle.group_types.specs.Pieces.{HaveOneLength, length_of, numbers_of}
use Rattle.group_types.specs.declared.piece_list.Piece.{Piece}
use Rattle.erasure_code.proofs.Lists.{All-left, All-right}
use Rattle.cauchy_code.proofs.Parts.{long_at}
use Rattle.cauchy_code.proofs.Progress.{is_there, one_written, two_written, weights_from}
use Rattle.cauchy_code.proofs.Solutions.{lost_byte_same, solved_from}
use Rattle.cauchy_code.proofs.decoding.solve.Goals as goal

rows_have : (rows known out : List Piece) → HaveOneLength (rows ++ known ++ out) → All (λ p. length p.bytes ≡ length_of (rows ++ known ++ out)) rows
rows_have rows known out long = All-left (λ (p : Piece). length p.bytes ≡ length_of (rows ++ known ++ out)) rows known
    (All-left (λ (p : Piece). length p.bytes ≡ length_of (rows ++ known ++ out)) (rows ++ known) out long)

known_have : (rows known out : List Piece) → HaveOneLength (rows ++ known ++ out) → All (λ p. length p.bytes ≡ length_of (rows ++ known ++ out)) known
known_have rows known out long = All-right (λ (p : Piece). length p.bytes ≡ length_of (rows ++ known ++ out)) rows known
    (All-left (λ (p : Piece). length p.bytes ≡ length_of (rows ++ known ++ out)) (rows ++ known) out long)

pub columns-init : goal.columns-init
columns-init g c = record {
  within = omega arith;
  numbers = refl;
  long = λ i below. long_at (c.args.rows.now ++ c.args.known.now) c.args.out.now (get_or c.args.lost.now i 0) c.requires.long
      (All-get_or (λ d. Contains (numbers_of c.args.out.now) d) c.args.lost.now i 0 below c.requires.out);
  columns = λ i at below. absurd (omega (arith, below));
  kept = λ i p apart. refl;
}

pub write_two-requires-clause-d : goal.write_two-requires-clause-d
write_two-requires-clause-d g c =
    is_there _ _ c.args.lost.now c.args.rows.now c.args.known.now c.args.out.now (entry c.invert-inverse.result)
    c.requires.lost_differ c.requires.out (rows_have _ _ _ c.requires.long) (known_have _ _ _ c.requires.long)
    c.columns.b c.columns.out c.columns.invariant c.columns.b (omega (arith, c.requires.lost, c.if-b.true))

pub write_two-requires-clause-e : goal.write_two-requires-clause-e
write_two-requires-clause-e g c =
    is_there _ _ c.args.lost.now c.args.rows.now c.args.known.now c.args.out.now (entry c.invert-inverse.result)
    c.requires.lost_differ c.requires.out (rows_have _ _ _ c.requires.long) (known_have _ _ _ c.requires.long)
    c.columns.b c.columns.out c.columns.invariant (c.columns.b + 1) (omega (arith, c.requires.lost, c.if-b.true))

pub write_two-requires-clause-rows_long : goal.write_two-requires-clause-rows_long
write_two-requires-clause-rows_long g c = λ k d below.
    rows_have c.args.rows.now c.args.known.now c.args.out.now c.requires.long k d below
    ∙ sym (c.columns.invariant.long c.columns.b (omega (arith, c.requires.lost, c.if-b.true)))

pub write_two-requires-clause-known_long : goal.write_two-requires-clause-known_long
write_two-requires-clause-known_long g c = λ k d below.
    known_have c.args.rows.now c.args.known.now c.args.out.now c.requires.long k d below
    ∙ sym (c.columns.invariant.long c.columns.b (omega (arith, c.requires.lost, c.if-b.true)))

pub write_two-requires-clause-same : goal.write_two-requires-clause-same
write_two-requires-clause-same g c =
    c.columns.invariant.long (c.columns.b + 1) (omega (arith, c.requires.lost, c.if-b.true))
    ∙ sym (c.columns.invariant.long c.columns.b (omega (arith, c.requires.lost, c.if-b.true)))

pub columns-preserved-then-b : goal.columns-preserved-then-b
columns-preserved-then-b g c =
    let b = c.columns.b in
    let rows = c.args.rows.now in
    let known = c.args.known.now in
    let n = length_of (rows ++ known ++ c.args.out.now) in
    let long = c.columns.invariant.long b (omega (arith, c.requires.lost, c.if-b.true)) in
    let inverse = entry c.invert-inverse.result in
    let first = weights_from c.args.m (inverse b) c.row_of.result rows known c.weights_of-first.result
    (λ a below. c.row_of.ensures a (omega (arith, below, c.requires.rows, c.requires.lost)))
    c.weights_of-first.ensures.rows c.weights_of-first.ensures.known in
    let second = weights_from c.args.m (inverse (b + 1)) c.row_of-then-b.result rows known c.weights_of-second.result
    (λ a below. c.row_of-then-b.ensures a (omega (arith, below, c.requires.rows, c.requires.lost)))
    c.weights_of-second.ensures.rows c.weights_of-second.ensures.known in
    two_written c.args.m n c.args.lost.now rows known c.args.out.now inverse c.requires.lost_differ c.requires.out
    (rows_have rows known c.args.out.now c.requires.long) (known_have rows known c.args.out.now c.requires.long)
    b c.columns.out c.columns.invariant c.write_two.new.out c.weights_of-first.result c.weights_of-second.result
    (omega (arith, c.requires.lost, c.if-b.true)) first second c.write_two.ensures.numbers
    (rw (← long) c.write_two.ensures.first) (rw (← long) c.write_two.ensures.second) c.write_two.ensures.kept

pub piece_mut-requires : goal.piece_mut-requires
piece_mut-requires g c =
    is_there _ _ c.args.lost.now c.args.rows.now c.args.known.now c.args.out.now (entry c.invert-inverse.result)
    c.requires.lost_differ c.requires.out (rows_have _ _ _ c.requires.long) (known_have _ _ _ c.requires.long)
    c.columns.b c.columns.out c.columns.invariant c.columns.b (omega (arith, c.requires.lost, c.columns-test.true))

pub write_column-requires-clause-rows_long : goal.write_column-requires-clause-rows_long
write_column-requires-clause-rows_long g c = λ k d below.
    rows_have c.args.rows.now c.args.known.now c.args.out.now c.requires.long k d below
    ∙ sym (ap length c.piece_mut.ensures.value ∙ c.columns.invariant.long c.columns.b
    (omega (arith, c.requires.lost, c.columns-test.true)))

pub write_column-requires-clause-known_long : goal.write_column-requires-clause-known_long
write_column-requires-clause-known_long g c = λ k d below.
    known_have c.args.rows.now c.args.known.now c.args.out.now c.requires.long k d below
    ∙ sym (ap length c.piece_mut.ensures.value ∙ c.columns.invariant.long c.columns.b
    (omega (arith, c.requires.lost, c.columns-test.true)))

pub columns-preserved : goal.columns-preserved
columns-preserved g c =
    let b = c.columns.b in
    let rows = c.args.rows.now in
    let known = c.args.known.now in
    let here : b < length c.args.lost.now = omega (arith, c.requires.lost, c.columns-test.true) in
    let long = c.write_column.auto.into ∙ (ap length c.piece_mut.ensures.value ∙ c.columns.invariant.long b here) in
    one_written c.args.m _ c.args.lost.now rows known c.args.out.now (entry c.invert-inverse.result)
    c.requires.lost_differ c.requires.out (rows_have rows known c.args.out.now c.requires.long)
    (known_have rows known c.args.out.now c.requires.long)
    b c.columns.out c.columns.invariant c.write_column.new.into here long
    (λ at. c.write_column.ensures at ∙ lost_byte_same c.args.m _ (entry c.invert-inverse.result b) rows known at
    (λ a below. c.row_of-last.ensures a (omega (arith, below, c.requires.rows, c.requires.lost))))

pub returns-clause-solved : goal.returns-clause-solved
returns-clause-solved g c =
    let all : c.columns.b ≡ length c.args.lost.now = omega (arith, c.columns-test.false, c.requires.lost, c.columns.invariant.within) in
    solved_from g.row.F c.args.m _ c.args.lost.now c.args.rows.now c.args.known.now c.columns.out
    (entry c.square.result) (entry c.invert-inverse.result) c.requires.lost
    c.square.ensures.entries c.invert-inverse.ensures.bytes c.invert-inverse.ensures.left c.invert-inverse.ensures.right
    (λ some. (c.are_bytes.ensures, c.are_bytes-2.ensures)) (λ b below. c.columns.invariant.long b (omega (arith, below, c.requires.lost)))
    (λ b at below. c.columns.invariant.columns b at (omega (arith, below, all, c.requires.lost)))
