use Rattle.std.proofs.Common.{length, sym, ap, ◌∙◌}
use Rattle.std.proofs.lemmas.List.Elements.{Contains-get_or}
use Rattle.part_tests.proofs.Cases.{block_long, blocks_of_zeros, blocks_written}
use Rattle.part_tests.proofs.codes.parity.Goals as goal

pub rows-init : goal.rows-init
rows-init c = rw c.in_ok-list.ensures (blocks_of_zeros c.args.numbers.now)

pub add_delta-requires-clause-long : goal.add_delta-requires-clause-long
add_delta-requires-clause-long c =
    sym (ap length c.piece_mut.ensures.value
    ∙ (block_long c.args.numbers.now c.columns.list _ c.columns.invariant
    (Contains-get_or c.args.numbers.now c.rows.i-index 0 c.rows-test.true) ∙ sym c.content.ensures))

pub columns-preserved : goal.columns-preserved
columns-preserved c =
    blocks_written c.args.numbers.now c.columns.list _ c.add_delta.new.into c.columns.invariant
    (Contains-get_or c.args.numbers.now c.rows.i-index 0 c.rows-test.true)
