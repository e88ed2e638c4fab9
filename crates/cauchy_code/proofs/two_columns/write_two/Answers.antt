use Rattle.std.proofs.Common.{◌≡◌, ◌+◌, ◌++◌, length, take, drop, sym, ap, ◌∙◌, arith}
use Rattle.std.proofs.lemmas.List.{length-append, length-take, length-drop}
use Rattle.cauchy_code.specs.Parts.{with_part}
use Rattle.cauchy_code.proofs.Filling.{both_begun, front_is, second_ready}
use Rattle.cauchy_code.proofs.two_columns.write_two.Goals as goal

pub fill_part-requires-clause-there : goal.fill_part-requires-clause-there
fill_part-requires-clause-there c = rw c.parts.invariant.begun.numbers c.requires.d

pub fill_part-requires-clause-within : goal.fill_part-requires-clause-within
fill_part-requires-clause-within c = omega (
  arith,
  length-take c.min-len.result c.parts.b,
  c.min-len.ensures,
  c.parts.invariant.b,
  c.parts-test.true,
  c.parts.invariant.begun.first.long,
)

pub put-requires-clause-there : goal.put-requires-clause-there
put-requires-clause-there c =
    let len = c.min-len.result in
    rw c.fill_part.ensures.out.written (second_ready c.args.out.now c.parts.out c.args.d c.args.e c.parts.at
    (length c.piece-long.result.now) _ _ _ (take len c.parts.b) c.requires.d c.requires.e c.requires.differ
    (omega (arith, length-take len c.parts.b, c.min-len.ensures, c.parts-test.true)) c.parts.invariant.begun).0

pub put-requires-clause-within : goal.put-requires-clause-within
put-requires-clause-within c =
    let len = c.min-len.result in
    let b = take len (c.fill_part.new.b ++ drop len c.parts.b) in
    let b_long : length c.fill_part.new.b ≡ len = omega (arith, c.fill_part.auto.b, length-take len c.parts.b, c.parts.invariant.b, c.min-len.ensures) in
    let same : length b ≡ len = ap length (front_is len c.fill_part.new.b (drop len c.parts.b) b_long) ∙ b_long in
    rw c.fill_part.ensures.out.written (second_ready c.args.out.now c.parts.out c.args.d c.args.e c.parts.at
    (length c.piece-long.result.now) _ _ _ b c.requires.d c.requires.e c.requires.differ
    (omega (arith, same, c.min-len.ensures, c.parts-test.true)) c.parts.invariant.begun).1

pub parts-preserved : goal.parts-preserved
parts-preserved c =
    let len = c.min-len.result in
    let at = c.parts.at in
    let d = c.args.d in
    let e = c.args.e in
    let now = c.parts.out in
    let n = length c.piece-long.result.now in
    let a = c.fill_part.ensures.out.part in
    let part : length (take len c.parts.b) ≡ len = omega (arith, length-take len c.parts.b, c.parts.invariant.b, c.min-len.ensures) in
    let a_long : length a ≡ len = c.fill_part.ensures.out.long ∙ part in
    let b_long : length c.fill_part.new.b ≡ len = c.fill_part.auto.b ∙ part in
    let b_is = front_is len c.fill_part.new.b (drop len c.parts.b) b_long in
    let new : c.put.new.out ≡ with_part (with_part now d at a) e at c.fill_part.new.b =
    c.put.ensures
    ∙ (ap (λ p. with_part p e at (take len (c.fill_part.new.b ++ drop len c.parts.b))) c.fill_part.ensures.out.written
    ∙ ap (with_part (with_part now d at a) e at) b_is) in
    let begun = both_begun c.args.out.now now d e at n _ _ a c.fill_part.new.b c.requires.d c.requires.e
    c.requires.differ (omega (arith, a_long, c.min-len.ensures, c.parts-test.true)) (b_long ∙ sym a_long)
    (λ k below. c.fill_part.ensures.out.values k (omega (arith, below, a_long, part)))
    (λ k below. c.fill_part.ensures.b k (omega (arith, below, a_long, part))) c.parts.invariant.begun in
    record {
      within = omega (arith, c.min-len.ensures, c.parts-test.true);
      b = omega (arith, length-append c.fill_part.new.b (drop len c.parts.b), length-drop len c.parts.b, b_long, c.parts.invariant.b, c.min-len.ensures);
      begun = rw (new, ap (λ k. at + k) (sym a_long)) begun;
    }
