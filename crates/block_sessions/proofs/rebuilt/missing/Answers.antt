use Rattle.std.proofs.Common.{◌+◌, ◌-◌, ◌/◌, find, ap, sym, ◌∙◌, arith}
use Rattle.std.proofs.lemmas.Bool.{true≢false}
use Rattle.block_sessions.proofs.Blocks.{first_unmade, met_below, none_unmade, run_blocks, skipped, unmade}
use Rattle.block_sessions.proofs.rebuilt.missing.Goals as goal

pub numbers-init : goal.numbers-init
numbers-init c =
    let run = c.args.run in
    ap (find (unmade c.args.pages.now)) (run_blocks c.args.shape run _ _ c.requires.holds.long (omega arith)
    (ap (λ b. run.at / b) c.block.ensures.value) (ap (λ b. (run.at + run.len - 1) / b + 1) c.block-2.ensures.value))

pub numbers-preserved : goal.numbers-preserved
numbers-preserved c =
    let below = met_below c.args.shape c.args.run c.block-2.result c.numbers.b c.requires.holds.long c.requires.within
    (omega arith) c.block-2.ensures.value c.numbers-test.true in
    skipped c.args.pages.now c.numbers.b _ c.numbers-test.true (omega (arith, below, c.requires.holds.blocks))
    (c.has.ensures.0 c.if-not-has.false) ∙ c.numbers.invariant

pub returns-then-not-has-clause-block : goal.returns-then-not-has-clause-block
returns-then-not-has-clause-block c =
    let below = met_below c.args.shape c.args.run c.block-2.result c.numbers.b c.requires.holds.long c.requires.within
    (omega arith) c.block-2.ensures.value c.numbers-test.true in
    sym (first_unmade c.args.pages.now c.numbers.b _ c.numbers-test.true (omega (arith, below, c.requires.holds.blocks))
    (λ there. true≢false (sym (c.has.ensures.1 there) ∙ c.if-not-has.true))) ∙ c.numbers.invariant

pub returns-then-not-has-clause-below : goal.returns-then-not-has-clause-below
returns-then-not-has-clause-below c = met_below c.args.shape c.args.run c.block-2.result c.numbers.b
    c.requires.holds.long c.requires.within (omega arith) c.block-2.ensures.value c.numbers-test.true

pub returns-clause-block : goal.returns-clause-block
returns-clause-block c = sym (none_unmade c.args.pages.now c.numbers.b _ c.numbers-test.false) ∙ c.numbers.invariant
