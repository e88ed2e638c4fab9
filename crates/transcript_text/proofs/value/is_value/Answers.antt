use Rattle.std.proofs.Common.{arith}
use Rattle.transcript_text.proofs.Cuts.{empty-test, some-test}
use Rattle.transcript_text.proofs.Values.{value-none, value-test}
use Rattle.transcript_text.proofs.value.is_value.Goals as goal

pub returns-then-is_empty : goal.returns-then-is_empty
returns-then-is_empty c =
    let other = c.if-is_dash.false in
    let empty = (empty-test c.args.word.now c.is_empty.result c.is_empty.ensures).0 c.if-is_empty.true in
    value-none c.args.word.now (λ dash. let is = c.is_dash.ensures.1 dash in cc (is, other)) (λ are. let some = are.some in omega (arith, rw empty at some))

pub returns-then-word-ne0 : goal.returns-then-word-ne0
returns-then-word-ne0 c =
    let other = c.if-is_dash.false in
    let odd = c.if-word-ne0.true in
    value-none c.args.word.now (λ dash. let is = c.is_dash.ensures.1 dash in cc (is, other)) (λ are. let even = are.even in absurd (odd even))

pub returns : goal.returns
returns c =
    let other = c.if-is_dash.false in
    value-test c.args.word.now c.are_digits.result (λ dash. let is = c.is_dash.ensures.1 dash in cc (is, other))
    (some-test c.args.word.now c.is_empty.result c.is_empty.ensures c.if-is_empty.false) c.if-word-ne0.false
    c.are_digits.ensures
